-- The field of FIPS 197, section 4, and the substitution of a byte, sections 5.1.1 and 5.3.2. Assumes nothing.
--
--   xtime a      a times 02
--   mul a b      the product of two bytes
--   inverse a    the multiplicative inverse, and 00 for 00
--   affine b     the affine rule of SubBytes; inv_affine b, its inverse
--   SBox b       the inverse, then the affine rule; InvSBox b, the other way round
use Rattle.std.specs.Prelude.{ℕ, zero, suc, ◌+◌, ◌*◌, ◌/◌, ◌%◌, ◌^◌, cond, bit_xor, nat_le}
use Rattle.standard.specs.Bits.{odd}

-- one place to the left, and the polynomial 1b where a bit was carried out
unfoldable pub xtime : ℕ → ℕ
xtime a = bit_xor ((a * 2) % 256) (cond (nat_le 128 a) 0x1b 0)

-- the product, by the n low bits of b
unfoldable pub mul_by : ℕ → ℕ → ℕ → ℕ
mul_by zero a b = 0
mul_by (suc n) a b = bit_xor (cond (odd b) a 0) (mul_by n (xtime a) (b / 2))

unfoldable pub mul : ℕ → ℕ → ℕ
unfolding mul_by xtime
mul a b = mul_by 8 a b

-- the 254th power
unfoldable pub inverse : ℕ → ℕ
unfolding mul
inverse a =
    let a2 = mul a a in
    let a4 = mul a2 a2 in
    let a8 = mul a4 a4 in
    let a16 = mul a8 a8 in
    let a32 = mul a16 a16 in
    let a64 = mul a32 a32 in
    let a128 = mul a64 a64 in
    mul a2 (mul a4 (mul a8 (mul a16 (mul a32 (mul a64 a128)))))

-- a byte turned k places to the left
unfoldable pub rotl : ℕ → ℕ → ℕ
rotl b k = (b * 2 ^ k) % 256 + (b * 2 ^ k) / 256

-- bit i is the sum of bits i, i + 4, i + 5, i + 6, i + 7, all mod 8, and bit i of 63
unfoldable pub affine : ℕ → ℕ
unfolding rotl
affine b = bit_xor b (bit_xor (rotl b 1) (bit_xor (rotl b 2) (bit_xor (rotl b 3) (bit_xor (rotl b 4) 0x63))))

unfoldable pub inv_affine : ℕ → ℕ
unfolding rotl
inv_affine b = bit_xor (rotl b 1) (bit_xor (rotl b 3) (bit_xor (rotl b 6) 0x05))

unfoldable pub SBox : ℕ → ℕ
unfolding inverse affine
SBox b = affine (inverse b)

unfoldable pub InvSBox : ℕ → ℕ
unfolding inverse inv_affine
InvSBox b = inverse (inv_affine b)
