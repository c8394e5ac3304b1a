-- The pages of the key schedule, each by one run. Assumes nothing.
use Rattle.plans.specs.declared.plays.Play.TheVariants.{Copy, Affine, Sum, Leave, Rcon1, Rcon2, Rcon3, Rcon4, Rcon5, Rcon6, Rcon7, Rcon8, Rcon9, Rcon10}
use Rattle.std.proofs.Common.{◌≡◌, ℕ, zero, suc, ◌+◌, ◌-◌, ◌*◌, ◌<◌, ◌≤◌, T, List, [], ◌∷◌, get_or, take, refl, ◌∙◌, subst, arith}
use mathlib.Core.Option.{none}
use lib.Bits.{bit_xor}
use lib.Lanes.{Each1}
use Rattle.std.specs.List.{range_with_len}
use Rattle.std.proofs.lemmas.Simd.{Each1-get_or}
use Rattle.std.proofs.lemmas.List.FromFn.{get_or-range_with_len}
use Rattle.plans.specs.declared.plays.Play.{Play}
use Rattle.plans.specs.Plays.{page_of, bases_of}
use Rattle.player.specs.Pages.{gates_of, sockets_in}
use Rattle.standard.specs.KeyExpansion.{Rcon}
use Rattle.coordinates.specs.Coordinates.{to_coordinates, from_coordinates}
use Rattle.plans.specs.Pages.{affine_page, sum_page, copy_page, leave_page, rcon_page}
use Rattle.circuit.proofs.BitLaws.{table}
use Rattle.circuit.proofs.Run.{run}
use Rattle.circuit.specs.Places.{fits_all}
use Rattle.circuit.proofs.Files.{Effect}
use Rattle.standard.proofs.Tests.{tests, small_below}
use Rattle.circuit.proofs.Unary.{wide, start, expected, same, Bytes, unary, unary_page}
use Rattle.circuit.proofs.LinearPage.{keep, sum, spares, masks, mask_run, linear, linear_page}
use Rattle.circuit.proofs.Mix.{aff1, same_affine}
use Rattle.circuit.proofs.PlanLaws.{Proved}

unfoldable pub plus : ℕ → ℕ → ℕ
unfolding Rcon to_coordinates
plus n v = bit_xor v (to_coordinates (Rcon n))

-- a page with one socket, in place
pub in_place : (page : List ℕ) (m : ℕ) (F : ℕ → ℕ) → ((v : ℕ) → v < 256 → F v < 256) → T (fits_all (8 * suc m) (gates_of page))
    → take 8 (run wide none (gates_of page) (start m)) ≡ expected (F ∷ []) → Effect (gates_of page) (1 + m) (λ fs. unary (F ∷ []) (get_or fs 0 none))
in_place page m F small fits ran =
    subst (λ (n : ℕ). Effect (gates_of page) n (λ fs. unary (F ∷ []) (get_or fs 0 none))) (more m) (unary_page (gates_of page) m (F ∷ []) bytes fits (omega arith) ran)
  where
    more : (m : ℕ) → suc m ≡ 1 + m
    more m = omega arith

    bytes : Bytes (F ∷ [])
    bytes zero v h = small v h
    bytes (suc l) v h = h

pub affine_sockets : sockets_in affine_page ≡ 1
unfolding affine_page
affine_sockets = refl

pub affine_effect : Effect (gates_of affine_page) (1 + 2) (λ fs. unary (aff1 ∷ []) (get_or fs 0 none))
unfolding affine_page gates_of tests fits_all run wide table aff1
affine_effect = in_place affine_page 2 aff1 (small_below aff1 256 256 tt) tt refl

abbrev pub affiner : (inv : List ℕ) → Proved inv
affiner inv = record { page = affine_page; q = 1; c = 2; eff = λ fs. unary (aff1 ∷ []) (get_or fs 0 none); sockets = affine_sockets; effect = affine_effect; make = Affine; is_page = λ bs. refl; is_bases = λ bs. refl }

pub leave_sockets : sockets_in leave_page ≡ 1
unfolding leave_page
leave_sockets = refl

pub leave_effect : Effect (gates_of leave_page) (1 + 1) (λ fs. unary (from_coordinates ∷ []) (get_or fs 0 none))
unfolding leave_page gates_of tests fits_all run wide table from_coordinates
leave_effect = in_place leave_page 1 from_coordinates (small_below from_coordinates 256 256 tt) tt refl

abbrev pub leaver : (inv : List ℕ) → Proved inv
leaver inv = record { page = leave_page; q = 1; c = 1; eff = λ fs. unary (from_coordinates ∷ []) (get_or fs 0 none); sockets = leave_sockets; effect = leave_effect; make = Leave; is_page = λ bs. refl; is_bases = λ bs. refl }

copy_bytes : Bytes (same ∷ same ∷ [])
copy_bytes zero v h = h
copy_bytes (suc zero) v h = h
copy_bytes (suc (suc l)) v h = h

pub copy_sockets : sockets_in copy_page ≡ 2
unfolding copy_page
copy_sockets = refl

pub copy_effect : Effect (gates_of copy_page) 2 (λ fs. unary (same ∷ same ∷ []) (get_or fs 0 none))
unfolding copy_page gates_of fits_all run wide table
copy_effect = unary_page (gates_of copy_page) 1 (same ∷ same ∷ []) copy_bytes tt (omega arith) refl

abbrev pub copier : (inv : List ℕ) → Proved inv
copier inv = record { page = copy_page; q = 2; c = 0; eff = λ fs. unary (same ∷ same ∷ []) (get_or fs 0 none); sockets = copy_sockets; effect = copy_effect; make = Copy; is_page = λ bs. refl; is_bases = λ bs. refl }

pub sum_sockets : sockets_in sum_page ≡ 3
unfolding sum_page
sum_sockets = refl

pub sum_effect : Effect (gates_of sum_page) 3 (linear (keep ∷ keep ∷ sum (same ∷ same ∷ []) ∷ []) 2)
unfolding sum_page gates_of fits_all spares masks mask_run
sum_effect = linear_page (gates_of sum_page) 2 1 (keep ∷ keep ∷ sum (same ∷ same ∷ []) ∷ []) tt (tt, (tt, ((refl, (same_affine, (same_affine, tt)), refl), tt)))

abbrev pub summer : (inv : List ℕ) → Proved inv
summer inv = record { page = sum_page; q = 3; c = 0; eff = linear (keep ∷ keep ∷ sum (same ∷ same ∷ []) ∷ []) 2; sockets = sum_sockets; effect = sum_effect; make = Sum; is_page = λ bs. refl; is_bases = λ bs. refl }

-- ---- the round constants

pub rcon_sockets : (n : ℕ) → sockets_in (rcon_page n) ≡ 1
unfolding rcon_page
rcon_sockets n = refl

abbrev RconEffect : ℕ → Type 0
RconEffect n = Effect (gates_of (rcon_page n)) (1 + 0) (λ fs. unary (plus n ∷ []) (get_or fs 0 none))

all_rcon : Each1 RconEffect (range_with_len 0 11)
unfolding rcon_page gates_of tests fits_all run wide table plus
all_rcon = (
  in_place (rcon_page 0) 0 (plus 0) (small_below (plus 0) 256 256 tt) tt refl,
  (
    in_place (rcon_page 1) 0 (plus 1) (small_below (plus 1) 256 256 tt) tt refl,
    (
      in_place (rcon_page 2) 0 (plus 2) (small_below (plus 2) 256 256 tt) tt refl,
      (
        in_place (rcon_page 3) 0 (plus 3) (small_below (plus 3) 256 256 tt) tt refl,
        (
          in_place (rcon_page 4) 0 (plus 4) (small_below (plus 4) 256 256 tt) tt refl,
          (
            in_place (rcon_page 5) 0 (plus 5) (small_below (plus 5) 256 256 tt) tt refl,
            (
              in_place (rcon_page 6) 0 (plus 6) (small_below (plus 6) 256 256 tt) tt refl,
              (
                in_place (rcon_page 7) 0 (plus 7) (small_below (plus 7) 256 256 tt) tt refl,
                (
                  in_place (rcon_page 8) 0 (plus 8) (small_below (plus 8) 256 256 tt) tt refl,
                  (
                    in_place (rcon_page 9) 0 (plus 9) (small_below (plus 9) 256 256 tt) tt refl,
                    (
                      in_place (rcon_page 10) 0 (plus 10) (small_below (plus 10) 256 256 tt) tt refl,
                      tt,
                    ),
                  ),
                ),
              ),
            ),
          ),
        ),
      ),
    ),
  ),
)

pub rcon_effect : (n : ℕ) → n ≤ 10 → Effect (gates_of (rcon_page n)) (1 + 0) (λ fs. unary (plus n ∷ []) (get_or fs 0 none))
rcon_effect n h = subst RconEffect (get_or-range_with_len 0 11 n 0 (omega arith) ∙ zeros n) (Each1-get_or RconEffect (range_with_len 0 11) n 0 (omega arith) all_rcon)
  where
    zeros : (n : ℕ) → 0 + n ≡ n
    zeros n = omega arith

abbrev adds : (inv : List ℕ) (n : ℕ) → n ≤ 10 → (make : List ℕ → Play) → ((bs : List ℕ) → page_of inv (make bs) ≡ rcon_page n) → ((bs : List ℕ) → bases_of (make bs) ≡ bs) → Proved inv
adds inv n h make p b = record { page = rcon_page n; q = 1; c = 0; eff = λ fs. unary (plus n ∷ []) (get_or fs 0 none); sockets = rcon_sockets n; effect = rcon_effect n h; make = make; is_page = p; is_bases = b }

abbrev pub rconer : (inv : List ℕ) → ℕ → Proved inv
rconer inv n = get_or (
    adds inv 1 (omega arith) Rcon1 (λ bs. refl) (λ bs. refl) ∷
    adds inv 2 (omega arith) Rcon2 (λ bs. refl) (λ bs. refl) ∷
    adds inv 3 (omega arith) Rcon3 (λ bs. refl) (λ bs. refl) ∷
    adds inv 4 (omega arith) Rcon4 (λ bs. refl) (λ bs. refl) ∷
    adds inv 5 (omega arith) Rcon5 (λ bs. refl) (λ bs. refl) ∷
    adds inv 6 (omega arith) Rcon6 (λ bs. refl) (λ bs. refl) ∷
    adds inv 7 (omega arith) Rcon7 (λ bs. refl) (λ bs. refl) ∷
    adds inv 8 (omega arith) Rcon8 (λ bs. refl) (λ bs. refl) ∷
    adds inv 9 (omega arith) Rcon9 (λ bs. refl) (λ bs. refl) ∷
    adds inv 10 (omega arith) Rcon10 (λ bs. refl) (λ bs. refl) ∷
    []) (n - 1) (copier inv)
