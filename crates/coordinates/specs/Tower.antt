-- The tower that the coordinates come from: its products, and the inverse by its formula. Assumes nothing.
--
--   BasisIsProducts           the eight chosen bytes are the products of 1b or fa, 01 or 5c, and bd or bc
--   Sixteenth y               y is a byte whose sixteenth power is y: one of the sixteen bytes of the middle field
--   over p q                  the byte p·1b + q·fa, where + is XOR and · the field's product
--   InverseByTower            the inverse of p·1b + q·fa is g⁻¹·q·1b + g⁻¹·p·fa, where g = 5c·p·q + bd·(p + q)²
--   first_of u, second_of u   the p and the q of a byte u
--   EveryByteOnce             every byte is over p q for one pair p, q of such bytes, and for one only
use Rattle.std.specs.Prelude.{◌≡◌, ℕ, ◌<◌, List, [], ◌∷◌, ◌++◌, map, bit_xor}
use Rattle.standard.specs.Field.{mul, inverse}
use Rattle.coordinates.specs.Coordinates.{basis}

-- each number of the first list times each of the second
abbrev pub products : List ℕ → List ℕ → List ℕ
products [] ys = []
products (x ∷ xs) ys = map (mul x) ys ++ products xs ys

abbrev pub BasisIsProducts : Type 0
BasisIsProducts = basis ≡ products (0x1b ∷ 0xfa ∷ []) (products (0x01 ∷ 0x5c ∷ []) (0xbd ∷ 0xbc ∷ []))

unfoldable pub power16 : ℕ → ℕ
unfolding mul
power16 y =
    let y2 = mul y y in
    let y4 = mul y2 y2 in
    let y8 = mul y4 y4 in
    mul y8 y8

abbrev pub Sixteenth : ℕ → Type 0
Sixteenth y = (y < 256) × (power16 y ≡ y)

unfoldable pub over : ℕ → ℕ → ℕ
unfolding mul
over p q = bit_xor (mul p 0x1b) (mul q 0xfa)

unfoldable pub g_of : ℕ → ℕ → ℕ
unfolding mul
g_of p q = bit_xor (mul 0x5c (mul p q)) (mul 0xbd (mul (bit_xor p q) (bit_xor p q)))

abbrev pub InverseByTower : Type 0
InverseByTower = (p q : ℕ) → Sixteenth p → Sixteenth q → inverse (over p q) ≡ over (mul (inverse (g_of p q)) q) (mul (inverse (g_of p q)) p)

unfoldable pub first_of : ℕ → ℕ
unfolding mul power16
first_of u = bit_xor (mul 0x2a u) (mul 0x27 (power16 u))

unfoldable pub second_of : ℕ → ℕ
unfolding mul power16
second_of u = bit_xor (mul 0x27 u) (mul 0x2a (power16 u))

abbrev pub EveryByteOnce : Type 0
EveryByteOnce =
    ((u : ℕ) → u < 256 → Sixteenth (first_of u) × Sixteenth (second_of u) × (over (first_of u) (second_of u) ≡ u))
    × ((p q : ℕ) → Sixteenth p → Sixteenth q → (first_of (over p q) ≡ p) × (second_of (over p q) ≡ q))
