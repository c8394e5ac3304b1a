-- Bits of a number. Assumes nothing.
--
--   odd n         the lowest bit of n is set
--   bit n i       bit i of n, bit 0 the lowest
--   xor_b x y     whether two bits differ
--   byte_of σ r   the byte that the eight bits of σ from place r on make, the lowest first
use Rattle.std.specs.Prelude.{ℕ, ◌+◌, ◌/◌, ◌%◌, ◌^◌, Bool, true, false, not, map, ◌==◌}
use Rattle.std.specs.Simd.Lanes.{mask_l}
use Rattle.std.specs.List.{range_with_len}

abbrev pub odd : ℕ → Bool
odd n = n % 2 == 1

unfoldable pub bit : ℕ → ℕ → Bool
bit n i = odd (n / 2 ^ i)

abbrev pub xor_b : Bool → Bool → Bool
xor_b true y = not y
xor_b false y = y

unfoldable pub byte_of : (ℕ → Bool) → ℕ → ℕ
byte_of σ r = mask_l (map (λ i. σ (r + i)) (range_with_len 0 8))
