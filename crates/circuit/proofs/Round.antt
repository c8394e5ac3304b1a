-- A round in coordinates, and the pages that mix a column and add a byte. Assumes nothing.
use Rattle.std.proofs.Common.{◌≡◌, ℕ, ◌+◌, ◌*◌, List, [], ◌∷◌, map, refl}
use lib.Lanes.{zip2}
use Rattle.std.specs.List.{range_with_len}
use Rattle.standard.specs.Cipher.{ShiftRows}
use Rattle.player.specs.Pages.{sockets_in}
use Rattle.plans.specs.Pages.{mix_page, add_page}
use Rattle.plans.specs.declared.plays.Play.TheVariants.{Add, Mix}
use Rattle.circuit.proofs.Unary.{same}
use Rattle.circuit.proofs.Inverter.{coordinate_inverse}
use Rattle.circuit.proofs.Linear.{sum_of}
use Rattle.circuit.proofs.LinearPage.{linear}
use Rattle.circuit.proofs.Mix.{aff1, aff2, aff3, mix_rows, mix_page_lem, add_rows, add_page_lem}
use Rattle.circuit.proofs.PlanLaws.{Proved}

pub mix_sockets : sockets_in mix_page ≡ 8
unfolding mix_page
mix_sockets = refl

pub add_sockets : sockets_in add_page ≡ 2
unfolding add_page
add_sockets = refl

abbrev pub mixer : (inv : List ℕ) → Proved inv
mixer inv = record { page = mix_page; q = 8; c = 14; eff = linear mix_rows 4; sockets = mix_sockets; effect = mix_page_lem; make = Mix; is_page = λ bs. refl; is_bases = λ bs. refl }

abbrev pub adder : (inv : List ℕ) → Proved inv
adder inv = record { page = add_page; q = 2; c = 0; eff = linear add_rows 2; sockets = add_sockets; effect = add_page_lem; make = Add; is_page = λ bs. refl; is_bases = λ bs. refl }

abbrev pub coordinate_mix : List ℕ → List ℕ
coordinate_mix [] = []
coordinate_mix (a ∷ []) = []
coordinate_mix (a ∷ b ∷ []) = []
coordinate_mix (a ∷ b ∷ c ∷ []) = []
coordinate_mix (a ∷ b ∷ c ∷ d ∷ rest) =
    let vs = a ∷ b ∷ c ∷ d ∷ [] in
    sum_of (aff2 ∷ aff3 ∷ aff1 ∷ aff1 ∷ []) vs ∷ sum_of (aff1 ∷ aff2 ∷ aff3 ∷ aff1 ∷ []) vs
    ∷ sum_of (aff1 ∷ aff1 ∷ aff2 ∷ aff3 ∷ []) vs ∷ sum_of (aff3 ∷ aff1 ∷ aff1 ∷ aff2 ∷ []) vs ∷ coordinate_mix rest

abbrev pub coordinate_add : List ℕ → List ℕ → List ℕ
coordinate_add st k = zip2 (λ x y. sum_of (same ∷ same ∷ []) (x ∷ y ∷ [])) st k

abbrev pub coordinate_round : List ℕ → List ℕ → List ℕ
coordinate_round st k = coordinate_add (coordinate_mix (ShiftRows (map coordinate_inverse st))) k

abbrev pub key_bytes_at : (ℕ → ℕ) → ℕ → List ℕ
key_bytes_at k n = map (λ j. k (16 * (n + 1) + j)) (range_with_len 0 16)
