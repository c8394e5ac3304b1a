-- InvMixColumns in coordinates: the same lemma, another matrix. Assumes nothing.
use Rattle.std.proofs.Common.{ℕ, T, List, [], ◌∷◌, refl}
use Rattle.coordinates.specs.Coordinates.{to_coordinates, from_coordinates}
use Rattle.standard.specs.Field.{mul}
use Rattle.player.specs.Pages.{gates_of}
use Rattle.plans.specs.Pages.{unmix_page}
use Rattle.circuit.specs.Places.{fits_all}
use Rattle.circuit.proofs.Files.{Effect}
use Rattle.circuit.proofs.Linear.{affine_by, affine_by_lem, Affine}
use Rattle.circuit.proofs.LinearPage.{Row, keep, sum, RowsOk, spares, masks, mask_run, linear, linear_page}

-- the product by m, in coordinates
unfoldable pub times : ℕ → ℕ → ℕ
unfolding to_coordinates from_coordinates mul
times m v = to_coordinates (mul m (from_coordinates v))

by9 : Affine (times 9)
unfolding affine_by times
by9 = affine_by_lem (times 9) tt

by11 : Affine (times 11)
unfolding affine_by times
by11 = affine_by_lem (times 11) tt

by13 : Affine (times 13)
unfolding affine_by times
by13 = affine_by_lem (times 13) tt

by14 : Affine (times 14)
unfolding affine_by times
by14 = affine_by_lem (times 14) tt

abbrev pub unmix_rows : List Row
unmix_rows = keep ∷ keep ∷ keep ∷ keep
    ∷ sum (times 14 ∷ times 11 ∷ times 13 ∷ times 9 ∷ []) ∷ sum (times 9 ∷ times 14 ∷ times 11 ∷ times 13 ∷ [])
    ∷ sum (times 13 ∷ times 9 ∷ times 14 ∷ times 11 ∷ []) ∷ sum (times 11 ∷ times 13 ∷ times 9 ∷ times 14 ∷ []) ∷ []

unmix_fits : T (fits_all 232 (gates_of unmix_page))
unfolding fits_all gates_of unmix_page
unmix_fits = tt

unmix_rows_lem : RowsOk (gates_of unmix_page) 4 (mask_run (gates_of unmix_page) 4 25) 0 unmix_rows
unfolding gates_of unmix_page spares masks mask_run times
unmix_rows_lem = (
  tt,
  (
    tt,
    (
      tt,
      (
        tt,
        (
          (refl, (by14, (by11, (by13, (by9, tt)))), refl),
          (
            (refl, (by9, (by14, (by11, (by13, tt)))), refl),
            (
              (refl, (by13, (by9, (by14, (by11, tt)))), refl),
              (
                (refl, (by11, (by13, (by9, (by14, tt)))), refl),
                tt,
              ),
            ),
          ),
        ),
      ),
    ),
  ),
)

pub unmix_page_lem : Effect (gates_of unmix_page) 29 (linear unmix_rows 4)
unmix_page_lem = linear_page (gates_of unmix_page) 4 25 unmix_rows unmix_fits unmix_rows_lem
