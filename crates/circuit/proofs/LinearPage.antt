-- A page of XOR and XNOR, from its masks to what it does to whole bytes. Assumes nothing.
use Rattle.std.proofs.Common.{◌≡◌, ℕ, zero, suc, ◌+◌, ◌-◌, ◌*◌, ◌/◌, ◌%◌, ◌<◌, ◌≤◌, Bool, true, false, cond, not, ◌&&◌, T, eqb, ltb, ◌⊎◌, List, [], ◌∷◌, ◌++◌, map, length, get_or, take, drop, replicate, sym, refl, ap, ◌∙◌, subst, ap₂, inl, inr, arith, ltb→lt, T_not}
use mathlib.Core.Option.{Option, some, none}
use lib.Dec.{eqb_refl}
use Rattle.std.specs.List.{range_with_len}
use Rattle.std.proofs.lemmas.Bool.{cases_lt, ne_eqb}
use Rattle.std.proofs.lemmas.List.{get_or-take, get_or-drop, get_or_append_left, get_or-append_right, length-append, length-map, length-replicate}
use Rattle.std.proofs.lemmas.List.FromFn.{get_or-map-range_with_len, length-range_with_len}
use Rattle.standard.specs.Bits.{bit}
use Rattle.bench.specs.Kinds.{gate_result}
use Rattle.bench.specs.declared.gates.Gate.{Gate}
use Rattle.circuit.specs.Lanes.{Lane, play_on, gate_on}
use Rattle.circuit.specs.Places.{place, distinct, fits_all, fits_gate}
use Rattle.circuit.proofs.Files.{Shows, File, Effect, place_apart, place_at}
use Rattle.circuit.proofs.Run.{run, Tells, tells_after, Apart, and_l, and_r}
use Rattle.circuit.proofs.Linear.{Mask, dot, unit, dot_unit, masked, SumOf, keeps, inputs, input_at, input_last, AffineAll, BytesAll, sum_of, sum_byte, mask_of, mask_right}

-- what a page does to one of its bytes: nothing, a sum of functions of the inputs, or something not told
pub data Row : Type 0 where
  keep junk : Row
  sum : List (ℕ → ℕ) → Row

abbrev pub row_value : Row → Option ℕ → List ℕ → Option ℕ
row_value keep o vs = o
row_value junk o vs = none
row_value (sum Fs) o vs = some (sum_of Fs vs)

abbrev pub rows_out : List Row → File → List ℕ → File
rows_out [] fs vs = []
rows_out (r ∷ rows) [] vs = row_value r none vs ∷ rows_out rows [] vs
rows_out (r ∷ rows) (f ∷ fs) vs = row_value r f vs ∷ rows_out rows fs vs

-- the first q entries, where all are known
abbrev pub more : Option ℕ → Option (List ℕ) → Option (List ℕ)
more none vs = none
more (some v) none = none
more (some v) (some vs) = some (v ∷ vs)

abbrev pub known : ℕ → File → Option (List ℕ)
known zero fs = some []
known (suc q) [] = none
known (suc q) (f ∷ fs) = more f (known q fs)

abbrev pub linear_at : List Row → File → Option (List ℕ) → File
linear_at rows fs none = []
linear_at rows fs (some vs) = rows_out rows fs vs

abbrev pub linear : List Row → ℕ → File → File
linear rows q fs = linear_at rows fs (known q fs)

-- no gate writes byte l of the page
unfoldable pub spares : ℕ → List Gate → Bool
spares l [] = true
spares l (g ∷ gs) = let k = g.kind in let t = g.target in let a = g.first in let b = g.second in not (eqb (t / 8) l) && spares l gs

-- q inputs and m bytes more
unfoldable pub start_masks : ℕ → ℕ → List (Option Mask)
unfolding unit
start_masks q m = map (λ n. some (unit n (8 * q + 1))) (range_with_len 0 (8 * q)) ++ replicate (8 * m) none

unfoldable pub mask_run : List Gate → ℕ → ℕ → List (Option Mask)
unfolding run masked unit start_masks
mask_run gs q m = run (masked (unit (8 * q) (8 * q + 1))) none gs (start_masks q m)

unfoldable pub masks : List (ℕ → ℕ) → List (Option Mask)
unfolding mask_of
masks Fs = some (mask_of Fs false 0) ∷ some (mask_of Fs false 1) ∷ some (mask_of Fs false 2) ∷ some (mask_of Fs false 3)
    ∷ some (mask_of Fs false 4) ∷ some (mask_of Fs false 5) ∷ some (mask_of Fs false 6) ∷ some (mask_of Fs false 7) ∷ []

abbrev pub RowOk : List Gate → ℕ → List (Option Mask) → ℕ → Row → Type 0
RowOk gs q final l keep = T (spares l gs)
RowOk gs q final l junk = Unit {0}
RowOk gs q final l (sum Fs) = (take 8 (drop (8 * l) final) ≡ masks Fs) × AffineAll Fs × (length Fs ≡ q)

abbrev pub RowsOk : List Gate → ℕ → List (Option Mask) → ℕ → List Row → Type 0
RowsOk gs q final l [] = Unit {0}
RowsOk gs q final l (r ∷ rows) = RowOk gs q final l r × RowsOk gs q final (suc l) rows

row_ok : (gs : List Gate) (q : ℕ) (final : List (Option Mask)) (rows : List Row) (k : ℕ) → RowsOk gs q final k rows → (l : ℕ) → RowOk gs q final (k + l) (get_or rows l junk)
row_ok gs q final [] k ok l = tt
row_ok gs q final (r ∷ rows) k ok zero = subst (λ (n : ℕ). RowOk gs q final n r) (zeros k) ok.0
  where
    zeros : (k : ℕ) → k ≡ k + zero
    zeros k = omega arith
row_ok gs q final (r ∷ rows) k ok (suc l) = subst (λ (n : ℕ). RowOk gs q final n (get_or rows l junk)) (sucs k l) (row_ok gs q final rows (suc k) ok.1 l)
  where
    sucs : (k l : ℕ) → suc k + l ≡ k + suc l
    sucs k l = omega arith

rows_at : (rows : List Row) (fs : File) (vs : List ℕ) (l : ℕ) → get_or (rows_out rows fs vs) l none ≡ row_value (get_or rows l junk) (get_or fs l none) vs
rows_at [] fs vs l = refl
rows_at (r ∷ rows) [] vs zero = refl
rows_at (r ∷ rows) [] vs (suc l) = rows_at rows [] vs l
rows_at (r ∷ rows) (f ∷ fs) vs zero = refl
rows_at (r ∷ rows) (f ∷ fs) vs (suc l) = rows_at rows fs vs l

masks_at : (Fs : List (ℕ → ℕ)) (i : ℕ) → i < 8 → get_or (masks Fs) i none ≡ some (mask_of Fs false i)
unfolding masks
masks_at Fs zero h = refl
masks_at Fs (suc zero) h = refl
masks_at Fs (suc (suc zero)) h = refl
masks_at Fs (suc (suc (suc zero))) h = refl
masks_at Fs (suc (suc (suc (suc zero)))) h = refl
masks_at Fs (suc (suc (suc (suc (suc zero))))) h = refl
masks_at Fs (suc (suc (suc (suc (suc (suc zero)))))) h = refl
masks_at Fs (suc (suc (suc (suc (suc (suc (suc zero))))))) h = refl
masks_at Fs (suc (suc (suc (suc (suc (suc (suc (suc i)))))))) h = absurd (omega arith)

-- a byte that no gate writes is as it was
pub spared : (f : ℕ → ℕ) (n : ℕ) → Apart f n → (l i : ℕ) → i < 8 → 8 * l + i < n → (gs : List Gate) (σ : Lane) → T (fits_all n gs) → T (spares l gs) → play_on f gs σ (f (8 * l + i)) ≡ σ (f (8 * l + i))
unfolding play_on gate_on fits_all spares
spared f n apart l i hi hn [] σ fit sp = refl
spared f n apart l i hi hn (g ∷ gs) σ fit sp =
    let k = g.kind in let t = g.target in let a = g.first in let b = g.second in
    let fit1 = and_l (fits_gate n g) (fits_all n gs) fit in
    let ht : t < n = ltb→lt t n (and_l (ltb t n) (ltb a n && ltb b n) fit1) in
    let other : (f (8 * l + i) ≡ f t) → ⊥ = λ e.
    let same : 8 * l + i ≡ t = apart (8 * l + i) t hn ht e in
    let at : t / 8 ≡ l = omega arith in
    T_not (eqb (t / 8) l) (and_l (not (eqb (t / 8) l)) (spares l gs) sp) (subst (λ (x : ℕ). T (eqb (t / 8) x)) at (eqb_refl (t / 8))) in
    spared f n apart l i hi hn gs (gate_on f g σ) (and_r (fits_gate n g) (fits_all n gs) fit) (and_r (not (eqb (t / 8) l)) (spares l gs) sp)
    ∙ ap (λ (q : Bool). cond q (gate_result k (σ (f a)) (σ (f b))) (σ (f (8 * l + i)))) (ne_eqb (f (8 * l + i)) (f t) other)

-- the known inputs
abbrev KnownOk : Lane → (ℕ → ℕ) → ℕ → Option (List ℕ) → Type 0
KnownOk σ g n none = Unit {0}
KnownOk σ g n (some vs) = (length vs ≡ n) × BytesAll vs × ((l i : ℕ) → l < n → i < 8 → σ (8 * g l + i) ≡ bit (get_or vs l 0) i)

known_more : (σ : Lane) (g : ℕ → ℕ) (n : ℕ) (f : Option ℕ) (o : Option (List ℕ)) → Shows σ (g 0) f → KnownOk σ (λ l. g (suc l)) n o → KnownOk σ g (suc n) (more f o)
known_more σ g n none o h k = tt
known_more σ g n (some v) none h k = tt
known_more σ g n (some v) (some vs) h k = (ap suc k.0, (h.0, k.1), elim [ zero ↦ (λ i hl hi. h.1 i hi) | suc l ↦ (λ i hl hi. k.2 l i (omega arith) hi) ])

known_ok : (σ : Lane) (n : ℕ) (g : ℕ → ℕ) (fs : File) → ((l : ℕ) → l < n → Shows σ (g l) (get_or fs l none)) → KnownOk σ g n (known n fs)
known_ok σ zero g fs shows = (refl, tt, λ l i hl hi. absurd (omega arith))
known_ok σ (suc n) g [] shows = tt
known_ok σ (suc n) g (f ∷ fs) shows = known_more σ g n f (known n fs) (shows 0 (omega arith)) (known_ok σ n (λ l. g (suc l)) fs (λ l hl. shows (suc l) (omega arith)))

module _ (gs : List Gate) (q m : ℕ) (rows : List Row) (fit : T (fits_all (8 * (q + m)) gs)) (ok : RowsOk gs q (mask_run gs q m) 0 rows) where
  module _ (P : List ℕ) (len : length P ≡ q + m) (apart : T (distinct P)) (σ : Lane) (vs : List ℕ) (qs : length vs ≡ q) (small : BytesAll vs)
      (shown : (l i : ℕ) → l < q → i < 8 → σ (8 * get_or P l 0 + i) ≡ bit (get_or vs l 0) i) where
    one : Mask
    one = unit (8 * q) (8 * q + 1)

    one_set : dot one (inputs vs) ≡ true
    unfolding one
    one_set = dot_unit (8 * q) (8 * q + 1) (inputs vs) (omega arith) ∙ subst (λ (k : ℕ). get_or (inputs vs) (8 * k) false ≡ true) qs (input_last vs)

    heads : List (Option Mask)
    heads = map (λ n. some (unit n (8 * q + 1))) (range_with_len 0 (8 * q))

    heads_long : length heads ≡ 8 * q
    unfolding heads
    heads_long = length-map (range_with_len 0 (8 * q)) (λ n. some (unit n (8 * q + 1))) ∙ length-range_with_len 0 (8 * q)

    none_at : (n k : ℕ) → get_or {A = Option Mask} (replicate n none) k none ≡ none
    none_at zero k = refl
    none_at (suc n) zero = refl
    none_at (suc n) (suc k) = none_at n k

    before : Tells (masked one) none (SumOf (inputs vs)) (keeps one (inputs vs) one_set) (place P) (8 * (q + m)) (place_apart P (q + m) len apart) (start_masks q m) σ
    unfolding start_masks heads
    before = (length-append heads (replicate (8 * m) none) ∙ ap₂ ◌+◌ heads_long (length-replicate (8 * m) none) ∙ omega arith, λ i hi. at i (cases_lt i (8 * q)))
      where
        at : (i : ℕ) → (i < 8 * q) ⊎ (8 * q ≤ i) → SumOf (inputs vs) (get_or (start_masks q m) i none) (σ (place P i))
        at i (inl h) =
            subst (λ (o : Option Mask). SumOf (inputs vs) o (σ (place P i)))
            (sym (get_or_append_left heads (replicate (8 * m) none) none i (omega (arith, heads_long)) ∙ get_or-map-range_with_len (λ n. some (unit n (8 * q + 1))) 0 (8 * q) i i none h (omega arith)))
            (dot_unit i (8 * q + 1) (inputs vs) (omega arith)
            ∙ ap (λ (k : ℕ). get_or (inputs vs) k false) (parts i) ∙ input_at vs (i / 8) (i % 8) (omega arith) (omega arith)
            ∙ sym (shown (i / 8) (i % 8) (omega arith) (omega arith)))
          where
            parts : (i : ℕ) → i ≡ 8 * (i / 8) + i % 8
            parts i = omega arith
        at i (inr h) = subst (λ (o : Option Mask). SumOf (inputs vs) o (σ (place P i)))
            (sym (get_or-append_right heads (replicate (8 * m) none) (8 * q) i none heads_long h ∙ none_at (8 * m) (i - 8 * q))) tt

    module _ (fs : File) (shows : (l : ℕ) → l < q + m → Shows σ (get_or P l 0) (get_or fs l none)) where
      after : (l : ℕ) → l < q + m → (r : Row) → RowOk gs q (mask_run gs q m) l r → Shows (play_on (place P) gs σ) (get_or P l 0) (row_value r (get_or fs l none) vs)
      unfolding mask_run one
      after l hl junk okr = tt
      after l hl keep okr = kept (get_or fs l none) (shows l hl)
        where
          kept : (o : Option ℕ) → Shows σ (get_or P l 0) o → Shows (play_on (place P) gs σ) (get_or P l 0) o
          kept none h = tt
          kept (some v) h = (
            h.0,
            λ i hi.
                ap (play_on (place P) gs σ) (sym (place_at P l i hi))
                ∙ spared (place P) (8 * (q + m)) (place_apart P (q + m) len apart) l i hi (omega arith) gs σ fit okr
                ∙ ap σ (place_at P l i hi) ∙ h.1 i hi,
          )
      after l hl (sum Fs) okr = (
        sum_byte Fs vs okr.1 small,
        λ i hi.
            let told = (tells_after (masked one) none (SumOf (inputs vs)) (keeps one (inputs vs) one_set) (place P) (8 * (q + m)) (place_apart P (q + m) len apart) gs (start_masks q m) σ fit before).1 (8 * l + i) (omega arith) in
            let at : get_or (mask_run gs q m) (8 * l + i) none ≡ some (mask_of Fs false i)
            = sym (get_or-take 8 (drop (8 * l) (mask_run gs q m)) i none hi ∙ get_or-drop (8 * l) (mask_run gs q m) i none)
            ∙ ap (λ (x : List (Option Mask)). get_or x i none) okr.0 ∙ masks_at Fs i hi in
            let e : dot (mask_of Fs false i) (inputs vs) ≡ play_on (place P) gs σ (place P (8 * l + i))
            = subst (λ (o : Option Mask). SumOf (inputs vs) o (play_on (place P) gs σ (place P (8 * l + i)))) at told in
            ap (play_on (place P) gs σ) (sym (place_at P l i hi)) ∙ sym e ∙ mask_right Fs vs okr.1 small (okr.2 ∙ sym qs) false i,
      )

  pub linear_page : Effect gs (q + m) (linear rows q)
  linear_page = record {
    fit = fit;
    does = λ P len apart σ fs shows l hl.
        go P len apart σ fs shows l hl (known q fs) (known_ok σ q (λ k. get_or P k 0) fs (λ k hk. shows k (omega arith)));
  }
    where
      go : (P : List ℕ) → length P ≡ q + m → T (distinct P) → (σ : Lane) (fs : File) → ((l : ℕ) → l < q + m → Shows σ (get_or P l 0) (get_or fs l none))
          → (l : ℕ) → l < q + m → (o : Option (List ℕ)) → KnownOk σ (λ k. get_or P k 0) q o → Shows (play_on (place P) gs σ) (get_or P l 0) (get_or (linear_at rows fs o) l none)
      go P len apart σ fs shows l hl none h = tt
      go P len apart σ fs shows l hl (some vs) h =
          subst (Shows (play_on (place P) gs σ) (get_or P l 0)) (sym (rows_at rows fs vs l))
          (after P len apart σ vs h.0 h.1 h.2 fs shows l hl (get_or rows l junk)
          (subst (λ (k : ℕ). RowOk gs q (mask_run gs q m) k (get_or rows l junk)) (zeros l) (row_ok gs q (mask_run gs q m) rows 0 ok l)))
        where
          zeros : (l : ℕ) → 0 + l ≡ l
          zeros l = omega arith
