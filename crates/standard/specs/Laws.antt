-- The laws of the field's product. Assumes nothing.
--
--   ProductLaws   it commutes, associates and distributes over XOR, and 01 is its unit
use Rattle.std.specs.Prelude.{◌≡◌, ℕ, ◌<◌, bit_xor}
use Rattle.standard.specs.Field.{mul}

abbrev pub ProductLaws : Type 0
ProductLaws =
    (a b c : ℕ) → a < 256 → b < 256 → c < 256
    → (mul a b ≡ mul b a) × (mul a (mul b c) ≡ mul (mul a b) c) × (mul a (bit_xor b c) ≡ bit_xor (mul a b) (mul a c)) × (mul 1 a ≡ a)
