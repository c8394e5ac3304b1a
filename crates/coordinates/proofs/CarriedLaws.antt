-- Rules carried into coordinates, at the coordinates of a byte. Assumes nothing.
use Rattle.std.proofs.Common.{◌≡◌, ℕ, ◌<◌, sym, ap}
use lib.Bits.{bit_xor}
use Rattle.standard.specs.Field.{mul, inverse, affine, inv_affine}
use Rattle.standard.specs.KeyExpansion.{Rcon}
use Rattle.coordinates.specs.Coordinates.{to_coordinates}
use Rattle.coordinates.specs.Carried.{carried_affine, carried_inv_affine, carried_times, carried_inverse, carried_rcon, Carries}
use Rattle.coordinates.proofs.CoordinateLaws.{from_to, to_xor}

pub carries : (f : ℕ → ℕ) → Carries f
carries f b h = ap (λ (x : ℕ). to_coordinates (f x)) (from_to b h)

pub affine_carried_lem : (b : ℕ) → b < 256 → carried_affine (to_coordinates b) ≡ to_coordinates (affine b)
unfolding carried_affine
affine_carried_lem = carries affine

pub inv_affine_carried_lem : (b : ℕ) → b < 256 → carried_inv_affine (to_coordinates b) ≡ to_coordinates (inv_affine b)
unfolding carried_inv_affine
inv_affine_carried_lem = carries inv_affine

pub times_carried_lem : (m b : ℕ) → b < 256 → carried_times m (to_coordinates b) ≡ to_coordinates (mul m b)
unfolding carried_times
times_carried_lem m = carries (mul m)

pub inverse_carried : (b : ℕ) → b < 256 → carried_inverse (to_coordinates b) ≡ to_coordinates (inverse b)
unfolding carried_inverse
inverse_carried = carries inverse

-- a round constant added in coordinates
pub Rcon_carried : (n b : ℕ) → bit_xor (to_coordinates b) (carried_rcon n) ≡ to_coordinates (bit_xor b (Rcon n))
unfolding carried_rcon
Rcon_carried n b = sym (to_xor b (Rcon n))
