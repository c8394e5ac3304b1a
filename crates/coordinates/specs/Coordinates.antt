-- The coordinates in which bytes stay through the rounds. Assumes nothing.
--
-- The field of 256 elements is built from the one of two by three steps of degree two, as in "A More Compact AES, and More" by D. A. Osvik and D. Canright:
-- over 1b and fa, then 01 and 5c, then bd and bc. A byte's coordinates c0 to c7 are the eight bits for which
-- the XOR of the chosen bytes 66 7d 4c c9 36 cc 11 98 is that byte.
--
--   from_coordinates c   the byte whose coordinates are the bits of c, c0 the lowest
--   to_coordinates b     the coordinates of b
--   OnlyCoordinates      a byte's coordinates are the only eight bits that give it
--   XorInCoordinates     the coordinates of an XOR are the XOR of the coordinates
use Rattle.std.specs.Prelude.{◌≡◌, ℕ, suc, ◌<◌, cond, List, [], ◌∷◌, bit_xor}
use Rattle.standard.specs.Bits.{bit}

-- the XOR of those bytes of a list whose bit of v is set, the first byte for bit i
unfoldable pub combine : List ℕ → ℕ → ℕ → ℕ
unfolding bit
combine [] i v = 0
combine (c ∷ cs) i v = bit_xor (cond (bit v i) c 0) (combine cs (suc i) v)

abbrev pub basis : List ℕ
basis = 0x66 ∷ 0x7d ∷ 0x4c ∷ 0xc9 ∷ 0x36 ∷ 0xcc ∷ 0x11 ∷ 0x98 ∷ []

unfoldable pub from_coordinates : ℕ → ℕ
unfolding combine
from_coordinates c = combine basis 0 c

-- the coordinates of 01, 02, 04, .., 80
abbrev pub bits_in_basis : List ℕ
bits_in_basis = 0x99 ∷ 0x3e ∷ 0xb1 ∷ 0x7d ∷ 0xd9 ∷ 0x46 ∷ 0xc8 ∷ 0x24 ∷ []

unfoldable pub to_coordinates : ℕ → ℕ
unfolding combine
to_coordinates b = combine bits_in_basis 0 b

abbrev pub OnlyCoordinates : Type 0
OnlyCoordinates = (b c : ℕ) → b < 256 → c < 256 → (from_coordinates (to_coordinates b) ≡ b) × (from_coordinates c ≡ b → c ≡ to_coordinates b)

abbrev pub XorInCoordinates : Type 0
XorInCoordinates = (a b : ℕ) → to_coordinates (bit_xor a b) ≡ bit_xor (to_coordinates a) (to_coordinates b)
