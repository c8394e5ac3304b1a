-- A byte from its bits, the highest first. Assumes nothing.
use Rattle.std.proofs.Common.{◌≡◌, ℕ, suc, ◌+◌, ◌-◌, ◌*◌, ◌^◌, ◌<◌, ◌≤◌, Bool, true, false, cond, map, length, refl, ap, ◌∙◌, arith, pow_mono}
use lib.Lanes.{mask_l}
use mir.Val.{bool_byte}
use Rattle.std.specs.List.{range_with_len}
use Rattle.std.proofs.lemmas.Simd.{mask_l-lt}
use Rattle.std.proofs.lemmas.List.FromFn.{length-map-range_with_len}

-- the bits from place i on, of eight, as a number
abbrev pub upper : (ℕ → Bool) → ℕ → ℕ
upper f i = mask_l (map f (range_with_len i (8 - i)))

pub upper_lt : (f : ℕ → Bool) (i : ℕ) → 1 ≤ i → upper f i < 128
upper_lt f i h =
    let n = length-map-range_with_len f i (8 - i) in
    let low : 8 - i ≤ 7 = omega arith in
    let few : 2 ^ (8 - i) ≤ 2 ^ 7 = pow_mono low in
    let below = mask_l-lt (map f (range_with_len i (8 - i))) in
    let at : 2 ^ length (map f (range_with_len i (8 - i))) ≡ 2 ^ (8 - i) = ap (λ k. 2 ^ k) n in
    omega (arith, below, few, at)

as_number : (b : Bool) → cond b 1 0 ≡ bool_byte b
as_number true = refl
as_number false = refl

pub byte_small : (b : Bool) → bool_byte b ≤ 1
byte_small true = omega arith
byte_small false = omega arith

-- one bit more, below the others
pub upper_more : (f : ℕ → Bool) (i : ℕ) → 1 ≤ i → i ≤ 8 → 2 * upper f i + bool_byte (f (i - 1)) ≡ upper f (i - 1)
upper_more f i h k =
    let count : 8 - (i - 1) ≡ suc (8 - i) = omega arith in
    let at : i - 1 + 1 ≡ i = omega arith in
    let all : upper f (i - 1) ≡ cond (f (i - 1)) 1 0 + 2 * upper f i =
    ap (λ n. mask_l (map f (range_with_len (i - 1) n))) count ∙ ap (λ j. cond (f (i - 1)) 1 0 + 2 * mask_l (map f (range_with_len j (8 - i)))) at in
    omega (arith, all, as_number (f (i - 1)))
