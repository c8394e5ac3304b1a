-- The bytes of the key schedule in coordinates. Assumes nothing.
use Rattle.std.proofs.Common.{◌≡◌, ℕ, ◌<◌, [], ◌∷◌, sym, ap, ◌∙◌}
use lib.Bits.{bit_xor, xor_zero_r}
use Rattle.standard.specs.Field.{inverse, SBox}
use Rattle.standard.specs.KeyExpansion.{Rcon}
use Rattle.coordinates.specs.Coordinates.{to_coordinates}
use Rattle.circuit.proofs.Unary.{same}
use Rattle.circuit.proofs.Linear.{sum_of}
use Rattle.circuit.proofs.Inverter.{coordinate_inverse}
use Rattle.circuit.proofs.Mix.{aff1}
use Rattle.circuit.proofs.InCoordinates.{inv_to, aff1_to}
use Rattle.standard.proofs.FieldLaws.{inverse_byte}
use Rattle.coordinates.proofs.CoordinateLaws.{to_xor}
use Rattle.circuit.proofs.KeyPages.{plus}

abbrev pub add2 : ℕ → ℕ → ℕ
add2 x y = sum_of (same ∷ same ∷ []) (x ∷ y ∷ [])

pub add2_to : (x y : ℕ) → add2 (to_coordinates x) (to_coordinates y) ≡ to_coordinates (bit_xor x y)
add2_to x y = ap (bit_xor (to_coordinates x)) (xor_zero_r (to_coordinates y)) ∙ sym (to_xor x y)

pub sub_to : (v : ℕ) → v < 256 → aff1 (coordinate_inverse (to_coordinates v)) ≡ to_coordinates (SBox v)
unfolding SBox
sub_to v h = ap aff1 (inv_to v h) ∙ aff1_to (inverse v) (inverse_byte v h)

pub plus_to : (n v : ℕ) → plus n (to_coordinates v) ≡ to_coordinates (bit_xor v (Rcon n))
unfolding plus
plus_to n v = sym (to_xor v (Rcon n))
