-- A page's listing from its arrays, and how its checks are chosen. Assumes nothing.
use Rattle.std.proofs.Common.{◌≡◌, ℕ, ◌+◌, ◌*◌, ◌<◌, ◌≤◌, true, false, cond, leb, List, ◌++◌, length, codes, sym, ap, ◌∙◌, ap₂}
use Rattle.std.proofs.lemmas.Bool.{and_from, and_left, and_right, le-leb, lt-leb}
use Rattle.bench.specs.declared.gates.Gate.{Gate}
use Rattle.player.specs.Pages.{whole, ReadAs, gates_from, gates_of, gates_in, sockets_in, scratch_in}
use Rattle.player.proofs.Played.{kinds_count, gates_whole}
use Rattle.archiving.specs.Listings.{only_sums, masks_text, columns_text, sizes_text, checks_text, listed_text, gates_text}

pub many_sockets : (q c : ℕ) (gs : List Gate) → 8 < q → columns_text (8 * q + c) gs ≡ checks_text q c gs
many_sockets q c gs h = sym (ap (λ b. cond b (masks_text q (8 * q + c) gs) (columns_text (8 * q + c) gs)) (and_left (leb q 8) (only_sums gs) (lt-leb q 8 h)))

pub by_masks : (q c : ℕ) (gs : List Gate) → q ≤ 8 → only_sums gs ≡ true → masks_text q (8 * q + c) gs ≡ checks_text q c gs
by_masks q c gs h e = sym (ap (λ b. cond b (masks_text q (8 * q + c) gs) (columns_text (8 * q + c) gs)) (and_from (leb q 8) (only_sums gs) (le-leb q 8 h) e))

pub by_columns_lem : (q c : ℕ) (gs : List Gate) → only_sums gs ≡ false → columns_text (8 * q + c) gs ≡ checks_text q c gs
by_columns_lem q c gs e = sym (ap (λ b. cond b (masks_text q (8 * q + c) gs) (columns_text (8 * q + c) gs)) (and_right (leb q 8) (only_sums gs) e))

pub listed_whole : (bytes : List ℕ) (q c : ℕ) (kinds places : List ℕ) → whole bytes ≡ true → ReadAs bytes q c kinds places → listed_text kinds places q c ≡ gates_text bytes
unfolding gates_text
listed_whole bytes q c kinds places w r =
    let n : length kinds ≡ gates_in bytes = kinds_count bytes q c kinds places w r in
    let sized : sizes_text (length kinds) q c ≡ sizes_text (gates_in bytes) (sockets_in bytes) (scratch_in bytes) =
    ap (λ k. sizes_text k q c) n ∙ ap₂ (λ x y. sizes_text (gates_in bytes) x y) r.sockets r.scratch in
    let gates = gates_whole bytes q c kinds places w r in
    let checked : checks_text q c (gates_from kinds places) ≡ checks_text (sockets_in bytes) (scratch_in bytes) (gates_of bytes) =
    ap (λ gs. checks_text q c gs) gates ∙ ap₂ (λ x y. checks_text x y (gates_of bytes)) r.sockets r.scratch in
    ap₂ (λ x y. x ++ y) sized checked
    ∙ sym (ap (λ b. cond b (sizes_text (gates_in bytes) (sockets_in bytes) (scratch_in bytes) ++ checks_text (sockets_in bytes) (scratch_in bytes) (gates_of bytes)) (codes "These bytes are no whole page.\n")) w)

pub listed_not : (bytes : List ℕ) → whole bytes ≡ false → codes "These bytes are no whole page.\n" ≡ gates_text bytes
unfolding gates_text
listed_not bytes w =
    sym (ap (λ b. cond b (sizes_text (gates_in bytes) (sockets_in bytes) (scratch_in bytes) ++ checks_text (sockets_in bytes) (scratch_in bytes) (gates_of bytes)) (codes "These bytes are no whole page.\n")) w)
