-- The byte that eight bits make. Assumes nothing.
use Rattle.std.proofs.Common.{◌≡◌, ℕ, zero, suc, ◌+◌, ◌<◌, ◌≤◌, Bool, true, false, cond, eqb, List, ◌∷◌, map, get_or, refl, ap, ◌∙◌, ap₂, arith}
use lib.Lanes.{mask_l}
use Rattle.std.specs.List.{range_with_len}
use Rattle.std.proofs.lemmas.Simd.{bit_mask_l, mask_l-lt}
use Rattle.std.proofs.lemmas.List.FromFn.{get_or-map-range_with_len}
use Rattle.standard.specs.Bits.{bit, byte_of}
use Rattle.standard.proofs.Tests.{tests, equal_below}

pub byte_of_small : (σ : ℕ → Bool) (base : ℕ) → byte_of σ base < 256
unfolding byte_of
byte_of_small σ base = mask_l-lt (map (λ i. σ (base + i)) (range_with_len 0 8))

is_one : (b : Bool) → eqb (cond b 1 0) 1 ≡ b
is_one true = refl
is_one false = refl

pub byte_of_bit : (σ : ℕ → Bool) (base i : ℕ) → i < 8 → bit (byte_of σ base) i ≡ σ (base + i)
unfolding byte_of bit
byte_of_bit σ base i h =
    let ms = map (λ i. σ (base + i)) (range_with_len 0 8) in
    ap (λ (x : ℕ). eqb x 1) (bit_mask_l ms i) ∙ is_one (get_or ms i false) ∙ get_or-map-range_with_len (λ i. σ (base + i)) 0 8 i i false h (omega arith)

pub map_below : {A : Type 0} (f g : ℕ → A) (a n : ℕ) → ((j : ℕ) → a ≤ j → j < a + n → f j ≡ g j) → map f (range_with_len a n) ≡ map g (range_with_len a n)
map_below f g a zero e = refl
map_below {A} f g a (suc n) e = ap₂ {C = List A} (λ x xs. x ∷ xs) (e a (omega arith) (omega arith)) (map_below f g (a + 1) n (λ j lo hi. e j (omega arith) (omega arith)))

rebuilt : (v : ℕ) → v < 256 → mask_l (map (bit v) (range_with_len 0 8)) ≡ v
unfolding tests bit
rebuilt = equal_below (λ v. mask_l (map (bit v) (range_with_len 0 8))) (λ v. v) 256 tt

pub byte_of_is : (σ : ℕ → Bool) (base v : ℕ) → v < 256 → ((i : ℕ) → i < 8 → σ (base + i) ≡ bit v i) → byte_of σ base ≡ v
unfolding byte_of
byte_of_is σ base v h e = ap mask_l (map_below (λ i. σ (base + i)) (bit v) 0 8 (λ i lo hi. e i hi)) ∙ rebuilt v h

-- equal bits make one byte
pub byte_of_same : (σ τ : ℕ → Bool) (base : ℕ) → ((i : ℕ) → i < 8 → σ (base + i) ≡ τ (base + i)) → byte_of σ base ≡ byte_of τ base
unfolding byte_of
byte_of_same σ τ base e = ap mask_l (map_below (λ i. σ (base + i)) (λ i. τ (base + i)) 0 8 (λ i lo hi. e i hi))
