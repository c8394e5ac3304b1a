-- What the bytes of a lane are after a span of it was laid. Assumes nothing.
use Rattle.std.proofs.Common.{◌≡◌, ℕ, ◌+◌, ◌-◌, ◌*◌, ◌/◌, ◌%◌, ◌<◌, ◌≤◌, Bool, true, false, eqb, ltb, leb, ◌⊎◌, List, length, get_or, sym, refl, ap, ◌∙◌, ap₂, inl, inr, arith}
use Rattle.std.proofs.lemmas.List.FromFn.{fill_by_all}
use Rattle.std.proofs.lemmas.Bool.{cases_Bool, lt-ltb, le-ltb, le-leb, lt-leb, eq-eqb, ne_eqb}
use Rattle.standard.specs.Bits.{bit, byte_of}
use Rattle.standard.proofs.ByteLaws.{map_below, byte_of_same, byte_of_is}
use Rattle.bench.specs.Model.{Model}
use Rattle.lane.specs.Spans.{span, laid, bits_of, shown_at}

-- ---- the bytes of a span

-- lanes that show the same bits in a span show the same bytes there
pub shown_same : (m m' : Model) (base l n : ℕ) → ((r : ℕ) → base ≤ r → r < base + 8 * n → m.bit r l ≡ m'.bit r l) → shown_at m base l n ≡ shown_at m' base l n
shown_same m m' base l n e =
    map_below (λ j. byte_of (λ r. m.bit r l) (base + 8 * j)) (λ j. byte_of (λ r. m'.bit r l) (base + 8 * j)) 0 n
    (λ j lo hi. byte_of_same (λ r. m.bit r l) (λ r. m'.bit r l) (base + 8 * j) (λ i h. e (base + 8 * j + i) (omega arith) (omega arith)))

-- a bit outside what was laid
pub laid_other : (base n lane : ℕ) (f : ℕ → Bool) (m : Model) (r l : ℕ) → (l ≡ lane → ⊥) → (laid base n lane f m).bit r l ≡ m.bit r l
unfolding laid
laid_other base n lane f m r l ne =
    let k : eqb l lane ≡ false = ne_eqb l lane ne in
    elim (cases_Bool (span base n r)) [ inl p ↦ rw (p, k) | inr p ↦ rw p ]

pub laid_outside : (base n lane : ℕ) (f : ℕ → Bool) (m : Model) (r l : ℕ) → (r < base) ⊎ (base + n ≤ r) → (laid base n lane f m).bit r l ≡ m.bit r l
unfolding laid
laid_outside base n lane f m r l (inl h) = let p : leb base r ≡ false = lt-leb base r h in rw p
laid_outside base n lane f m r l (inr h) =
    let q : ltb r (base + n) ≡ false = le-ltb r (base + n) h in
    elim (cases_Bool (leb base r)) [ inl p ↦ rw (p, q) | inr p ↦ rw p ]

-- a bit of what was laid
pub laid_inside : (base n lane : ℕ) (f : ℕ → Bool) (m : Model) (r : ℕ) → base ≤ r → r < base + n → (laid base n lane f m).bit r lane ≡ f (r - base)
unfolding laid
laid_inside base n lane f m r lo hi =
    let p : leb base r ≡ true = le-leb base r lo in
    let q : ltb r (base + n) ≡ true = lt-ltb r (base + n) hi in
    let k : eqb lane lane ≡ true = eq-eqb lane lane refl in
    rw (p, q, k)

-- bytes that were laid are shown
pub laid_shown : (base lane : ℕ) (bytes : List ℕ) (m : Model) → ((j : ℕ) → get_or bytes j 0 < 256)
    → shown_at (laid base (8 * length bytes) lane (bits_of bytes) m) base lane (length bytes) ≡ bytes
laid_shown base lane bytes m small =
    let n = length bytes in
    let m' : Model = laid base (8 * n) lane (bits_of bytes) m in
    let σ : ℕ → Bool = λ r. m'.bit r lane in
    let one : (j : ℕ) → j < n → byte_of σ (base + 8 * j) ≡ get_or bytes j 0 = λ j h.
    byte_of_is σ (base + 8 * j) (get_or bytes j 0) (small j) (λ i k.
    let at : base + 8 * j + i - base ≡ 8 * j + i = omega arith in
    let q : (8 * j + i) / 8 ≡ j = omega arith in
    let r : (8 * j + i) % 8 ≡ i = omega arith in
    laid_inside base (8 * n) lane (bits_of bytes) m (base + 8 * j + i) (omega arith) (omega arith)
    ∙ ap (bits_of bytes) at ∙ ap₂ (λ x y. bit (get_or bytes x 0) y) q r) in
    map_below (λ j. byte_of σ (base + 8 * j)) (λ j. get_or bytes j 0) 0 n (λ j lo hi. one j (omega arith))
    ∙ sym (fill_by_all (λ j. get_or bytes j 0) bytes n 0 refl (λ k h. refl))
