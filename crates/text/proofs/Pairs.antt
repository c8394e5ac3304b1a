-- Pairs of hexadecimal digits, one pair more. Assumes nothing.
use Rattle.std.proofs.Common.{◌≡◌, ℕ, zero, suc, ◌+◌, ◌*◌, ◌%◌, ◌<◌, List, [], ◌∷◌, ◌++◌, length, get_or, drop, Some, None, Option, sym, refl, ap, ◌∙◌, append_assoc, arith}
use Rattle.std.specs.Simd.{first_chunks}
use Rattle.std.proofs.lemmas.List.{drop_more}
use Rattle.text.specs.Text.{hex_value, pair_value, with_first, pairs_in}

-- bytes read before the others
abbrev pub prefixed : List ℕ → Option (List ℕ) → Option (List ℕ)
prefixed bs None = None
prefixed bs (Some cs) = Some (bs ++ cs)

pub prefixed_more : (bs : List ℕ) (b : ℕ) (o : Option (List ℕ)) → prefixed bs (with_first (Some b) o) ≡ prefixed (bs ++ (b ∷ [])) o
prefixed_more bs b None = refl
prefixed_more bs b (Some cs) = ap Some (sym (append_assoc bs (b ∷ []) cs))

pub prefixed_nothing : (o : Option (List ℕ)) → prefixed [] o ≡ o
prefixed_nothing None = refl
prefixed_nothing (Some cs) = refl

-- the byte of two digits, and the bytes of such pairs
abbrev pub pair_byte : List ℕ → Option ℕ
pair_byte p = pair_value (hex_value (get_or p 0 0)) (hex_value (get_or p 1 0))

abbrev pub bytes_of : List (List ℕ) → Option (List ℕ)
bytes_of [] = Some []
bytes_of (p ∷ ps) = with_first (pair_byte p) (bytes_of ps)

pub bytes_of_pairs : (n : ℕ) (word : List ℕ) → length word ≡ 2 * n → bytes_of (first_chunks 2 n word) ≡ pairs_in word
bytes_of_pairs zero [] h = refl
bytes_of_pairs zero (a ∷ bs) h = absurd (omega arith)
bytes_of_pairs (suc n) [] h = absurd (omega arith)
bytes_of_pairs (suc n) (a ∷ []) h = absurd (omega arith)
bytes_of_pairs (suc n) (a ∷ b ∷ bs) h = ap (with_first (pair_value (hex_value a) (hex_value b))) (bytes_of_pairs n bs (omega arith))

module _ (pairs : List (List ℕ)) (i : ℕ) (h : i < length pairs) (bs : List ℕ) where
  one_off : prefixed bs (bytes_of (drop i pairs)) ≡ prefixed bs (with_first (pair_byte (get_or pairs i [])) (bytes_of (drop (i + 1) pairs)))
  one_off = ap (λ ps. prefixed bs (bytes_of ps)) (drop_more pairs i [] h)

  pub pair_more : (b : ℕ) → pair_byte (get_or pairs i []) ≡ Some b → prefixed bs (bytes_of (drop i pairs)) ≡ prefixed (bs ++ (b ∷ [])) (bytes_of (drop (i + 1) pairs))
  pair_more b e = one_off ∙ ap (λ o. prefixed bs (with_first o (bytes_of (drop (i + 1) pairs)))) e ∙ prefixed_more bs b (bytes_of (drop (i + 1) pairs))

  pub pair_bad : pair_byte (get_or pairs i []) ≡ None → prefixed bs (bytes_of (drop i pairs)) ≡ None
  pair_bad e = one_off ∙ ap (λ o. prefixed bs (with_first o (bytes_of (drop (i + 1) pairs)))) e

with_none : (o : Option ℕ) → with_first o None ≡ None
with_none None = refl
with_none (Some b) = refl

pub pairs_odd : (word : List ℕ) → length word % 2 ≡ 1 → pairs_in word ≡ None
pairs_odd [] h = absurd (omega arith)
pairs_odd (a ∷ []) h = refl
pairs_odd (a ∷ b ∷ bs) h = ap (with_first (pair_value (hex_value a) (hex_value b))) (pairs_odd bs (omega arith)) ∙ with_none (pair_value (hex_value a) (hex_value b))
