-- Rules on bytes carried into coordinates. Assumes nothing.
--
--   carried f c      the rule f on bytes, between coordinates
--   carried_affine, carried_inv_affine, carried_times m, carried_inverse
--                    the affine rule and its inverse, the product by m, the inverse
--   carried_rcon n   the coordinates of round constant n
--   Carries f        the carried rule takes the coordinates of each byte b to those of f b
use Rattle.std.specs.Prelude.{◌≡◌, ℕ, ◌<◌}
use Rattle.standard.specs.Field.{mul, inverse, affine, inv_affine}
use Rattle.standard.specs.KeyExpansion.{Rcon}
use Rattle.coordinates.specs.Coordinates.{to_coordinates, from_coordinates}

abbrev pub carried : (ℕ → ℕ) → ℕ → ℕ
carried f c = to_coordinates (f (from_coordinates c))

unfoldable pub carried_affine : ℕ → ℕ
unfolding to_coordinates from_coordinates affine
carried_affine c = carried affine c

unfoldable pub carried_inv_affine : ℕ → ℕ
unfolding to_coordinates from_coordinates inv_affine
carried_inv_affine c = carried inv_affine c

unfoldable pub carried_times : ℕ → ℕ → ℕ
unfolding to_coordinates from_coordinates mul
carried_times m c = carried (mul m) c

unfoldable pub carried_inverse : ℕ → ℕ
unfolding to_coordinates from_coordinates inverse
carried_inverse c = carried inverse c

unfoldable pub carried_rcon : ℕ → ℕ
unfolding to_coordinates Rcon
carried_rcon n = to_coordinates (Rcon n)

abbrev pub Carries : (ℕ → ℕ) → Type 0
Carries f = (b : ℕ) → b < 256 → carried f (to_coordinates b) ≡ to_coordinates (f b)
