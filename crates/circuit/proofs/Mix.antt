-- The page of the affine map and MixColumns, and the page that adds a byte, by their masks. Assumes nothing.
use Rattle.std.proofs.Common.{ℕ, T, List, [], ◌∷◌, refl}
use Rattle.standard.specs.Field.{affine, mul}
use Rattle.coordinates.specs.Coordinates.{to_coordinates, from_coordinates}
use Rattle.player.specs.Pages.{gates_of}
use Rattle.plans.specs.Pages.{mix_page, add_page}
use Rattle.circuit.specs.Places.{fits_all}
use Rattle.circuit.proofs.Unary.{same}
use Rattle.circuit.proofs.Files.{Effect}
use Rattle.circuit.proofs.Linear.{affine_by, affine_by_lem, Affine}
use Rattle.circuit.proofs.LinearPage.{Row, keep, sum, RowsOk, spares, masks, mask_run, linear, linear_page}

unfoldable pub aff1 : ℕ → ℕ
unfolding to_coordinates affine from_coordinates
aff1 v = to_coordinates (affine (from_coordinates v))

unfoldable pub aff2 : ℕ → ℕ
unfolding to_coordinates affine from_coordinates mul
aff2 v = to_coordinates (mul 2 (affine (from_coordinates v)))

unfoldable pub aff3 : ℕ → ℕ
unfolding to_coordinates affine from_coordinates mul
aff3 v = to_coordinates (mul 3 (affine (from_coordinates v)))

pub aff1_affine : Affine aff1
unfolding affine_by aff1
aff1_affine = affine_by_lem aff1 tt

pub aff2_affine : Affine aff2
unfolding affine_by aff2
aff2_affine = affine_by_lem aff2 tt

pub aff3_affine : Affine aff3
unfolding affine_by aff3
aff3_affine = affine_by_lem aff3 tt

pub same_affine : Affine same
unfolding affine_by
same_affine = affine_by_lem same tt

abbrev pub mix_rows : List Row
mix_rows = keep ∷ keep ∷ keep ∷ keep
    ∷ sum (aff2 ∷ aff3 ∷ aff1 ∷ aff1 ∷ []) ∷ sum (aff1 ∷ aff2 ∷ aff3 ∷ aff1 ∷ [])
    ∷ sum (aff1 ∷ aff1 ∷ aff2 ∷ aff3 ∷ []) ∷ sum (aff3 ∷ aff1 ∷ aff1 ∷ aff2 ∷ []) ∷ []

mix_fits : T (fits_all 176 (gates_of mix_page))
unfolding fits_all gates_of mix_page
mix_fits = tt

mix_rows_lem : RowsOk (gates_of mix_page) 4 (mask_run (gates_of mix_page) 4 18) 0 mix_rows
unfolding gates_of mix_page spares masks mask_run aff1 aff2 aff3
mix_rows_lem = (
  tt,
  (
    tt,
    (
      tt,
      (
        tt,
        (
          (refl, (aff2_affine, (aff3_affine, (aff1_affine, (aff1_affine, tt)))), refl),
          (
            (refl, (aff1_affine, (aff2_affine, (aff3_affine, (aff1_affine, tt)))), refl),
            (
              (refl, (aff1_affine, (aff1_affine, (aff2_affine, (aff3_affine, tt)))), refl),
              (
                (refl, (aff3_affine, (aff1_affine, (aff1_affine, (aff2_affine, tt)))), refl),
                tt,
              ),
            ),
          ),
        ),
      ),
    ),
  ),
)

pub mix_page_lem : Effect (gates_of mix_page) 22 (linear mix_rows 4)
mix_page_lem = linear_page (gates_of mix_page) 4 18 mix_rows mix_fits mix_rows_lem

abbrev pub add_rows : List Row
add_rows = sum (same ∷ same ∷ []) ∷ keep ∷ []

add_fits : T (fits_all 16 (gates_of add_page))
unfolding fits_all gates_of add_page
add_fits = tt

add_rows_lem : RowsOk (gates_of add_page) 2 (mask_run (gates_of add_page) 2 0) 0 add_rows
unfolding gates_of add_page spares masks mask_run
add_rows_lem = ((refl, (same_affine, (same_affine, tt)), refl), (tt, tt))

pub add_page_lem : Effect (gates_of add_page) 2 (linear add_rows 2)
add_page_lem = linear_page (gates_of add_page) 2 0 add_rows add_fits add_rows_lem
