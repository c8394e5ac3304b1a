-- The pages of the first and the last stage: each has one socket in, so one run over 256 lanes. Assumes nothing.
use Rattle.plans.specs.declared.plays.Play.TheVariants.{Enter, Finish}
use Rattle.std.proofs.Common.{◌≡◌, ℕ, zero, suc, ◌<◌, T, List, [], ◌∷◌, get_or, take, refl, arith}
use mathlib.Core.Option.{none}
use Rattle.coordinates.specs.Coordinates.{to_coordinates, from_coordinates}
use Rattle.standard.specs.Field.{affine}
use Rattle.player.specs.Pages.{gates_of, sockets_in}
use Rattle.plans.specs.Pages.{enter_page, finish_page}
use Rattle.circuit.proofs.BitLaws.{table}
use Rattle.circuit.proofs.Run.{run}
use Rattle.circuit.specs.Places.{fits_all}
use Rattle.circuit.proofs.Files.{Effect}
use Rattle.coordinates.proofs.CoordinateLaws.{to_byte}
use Rattle.standard.proofs.Tests.{tests, small_below}
use Rattle.circuit.proofs.Unary.{wide, start, expected, same, Bytes, unary, unary_page}
use Rattle.circuit.proofs.PlanLaws.{Proved}

unfoldable pub finish : ℕ → ℕ
unfolding affine from_coordinates
finish v = affine (from_coordinates v)

pub enter_fits : T (fits_all 24 (gates_of enter_page))
unfolding fits_all gates_of enter_page
enter_fits = tt

pub enter_ran : take 8 (run wide none (gates_of enter_page) (start 2)) ≡ expected (to_coordinates ∷ [])
unfolding run wide gates_of enter_page table to_coordinates
enter_ran = refl

to_bytes : Bytes (to_coordinates ∷ [])
to_bytes zero v h = to_byte v h
to_bytes (suc l) v h = h

pub enter_page_lem : Effect (gates_of enter_page) 3 (λ fs. unary (to_coordinates ∷ []) (get_or fs 0 none))
enter_page_lem = unary_page (gates_of enter_page) 2 (to_coordinates ∷ []) to_bytes enter_fits (omega arith) enter_ran

pub finish_fits : T (fits_all 24 (gates_of finish_page))
unfolding fits_all gates_of finish_page
finish_fits = tt

pub finish_ran : take 16 (run wide none (gates_of finish_page) (start 2)) ≡ expected (same ∷ finish ∷ [])
unfolding run wide gates_of finish_page table finish
finish_ran = refl

finish_byte : (v : ℕ) → v < 256 → finish v < 256
unfolding tests finish
finish_byte = small_below finish 256 256 tt

fin_bytes : Bytes (same ∷ finish ∷ [])
fin_bytes zero v h = h
fin_bytes (suc zero) v h = finish_byte v h
fin_bytes (suc (suc l)) v h = h

pub finish_page_lem : Effect (gates_of finish_page) 3 (λ fs. unary (same ∷ finish ∷ []) (get_or fs 0 none))
finish_page_lem = unary_page (gates_of finish_page) 2 (same ∷ finish ∷ []) fin_bytes finish_fits (omega arith) finish_ran

pub enter_sockets : sockets_in enter_page ≡ 1
unfolding enter_page
enter_sockets = refl

pub finish_sockets : sockets_in finish_page ≡ 2
unfolding finish_page
finish_sockets = refl

abbrev pub enterer : (inv : List ℕ) → Proved inv
enterer inv = record { page = enter_page; q = 1; c = 2; eff = λ fs. unary (to_coordinates ∷ []) (get_or fs 0 none); sockets = enter_sockets; effect = enter_page_lem; make = Enter; is_page = λ bs. refl; is_bases = λ bs. refl }

abbrev pub finisher : (inv : List ℕ) → Proved inv
finisher inv = record { page = finish_page; q = 2; c = 1; eff = λ fs. unary (same ∷ finish ∷ []) (get_or fs 0 none); sockets = finish_sockets; effect = finish_page_lem; make = Finish; is_page = λ bs. refl; is_bases = λ bs. refl }
