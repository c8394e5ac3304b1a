-- The repository's own inverter inverts at all 256 bytes, by one run; and what any page that inverts does. Assumes nothing.
use Rattle.std.proofs.Common.{◌≡◌, ℕ, zero, suc, ◌+◌, ◌*◌, ◌<◌, T, List, [], ◌∷◌, length, get_or, take, refl, arith}
use mathlib.Core.Option.{Option, some, none}
use Rattle.standard.specs.Bits.{bit}
use Rattle.standard.specs.Field.{inverse}
use Rattle.coordinates.specs.Coordinates.{to_coordinates, from_coordinates}
use Rattle.player.specs.Pages.{gates_of}
use Rattle.plans.specs.declared.plays.Play.TheVariants.{Invert}
use Rattle.plans.specs.Pages.{own_inverter}
use Rattle.circuit.specs.Lanes.{Lane, play_on}
use Rattle.circuit.specs.Places.{place, distinct, fits_all}
use Rattle.circuit.specs.Claims.{Inverts}
use Rattle.circuit.proofs.BitLaws.{table}
use Rattle.circuit.proofs.Run.{run}
use Rattle.circuit.proofs.Files.{Shows, Effect}
use Rattle.standard.proofs.Tests.{tests, small_below}
use Rattle.circuit.proofs.Unary.{wide, start, expected, same, Bytes, unary, unary_page}
use Rattle.circuit.proofs.PlanLaws.{Proved}

-- the inverse, in coordinates
unfoldable pub coordinate_inverse : ℕ → ℕ
unfolding to_coordinates inverse from_coordinates
coordinate_inverse v = to_coordinates (inverse (from_coordinates v))

inverse_small : (v : ℕ) → v < 256 → coordinate_inverse v < 256
unfolding tests coordinate_inverse
inverse_small = small_below coordinate_inverse 256 256 tt

inverse_bytes : Bytes (same ∷ coordinate_inverse ∷ [])
inverse_bytes zero v h = h
inverse_bytes (suc zero) v h = inverse_small v h
inverse_bytes (suc (suc l)) v h = h

own_fits : T (fits_all 272 (gates_of own_inverter))
unfolding fits_all gates_of own_inverter
own_fits = tt

own_ran : take 16 (run wide none (gates_of own_inverter) (start 33)) ≡ expected (same ∷ coordinate_inverse ∷ [])
unfolding run wide gates_of own_inverter table coordinate_inverse
own_ran = refl

own_effect : Effect (gates_of own_inverter) 34 (λ fs. unary (same ∷ coordinate_inverse ∷ []) (get_or fs 0 none))
own_effect = unary_page (gates_of own_inverter) 33 (same ∷ coordinate_inverse ∷ []) inverse_bytes own_fits (omega arith) own_ran

module _ (P : List ℕ) (len : length P ≡ 34) (apart : T (distinct P)) (σ : Lane) (v : ℕ) (h : v < 256) (shown : (i : ℕ) → i < 8 → σ (8 * get_or P 0 0 + i) ≡ bit v i) where
  before : (l : ℕ) → l < 34 → Shows σ (get_or P l 0) (get_or (some v ∷ []) l none)
  before zero hl = (h, shown)
  before (suc l) hl = tt

  after : (l : ℕ) → l < 34 → Shows (play_on (place P) (gates_of own_inverter) σ) (get_or P l 0) (get_or (unary (same ∷ coordinate_inverse ∷ []) (some v)) l none)
  after = own_effect.does P len apart σ (some v ∷ []) before

pub own_inverts : Inverts own_inverter
unfolding own_inverter coordinate_inverse
own_inverts = record {
  two = refl;
  below = own_fits;
  inverts = λ P len apart σ v h shown. ((after P len apart σ v h shown 0 (omega arith)).1, (after P len apart σ v h shown 1 (omega arith)).1);
}

pub inverts_effect : (inv : List ℕ) → Inverts inv → Effect (gates_of inv) 34 (λ fs. unary (same ∷ coordinate_inverse ∷ []) (get_or fs 0 none))
unfolding coordinate_inverse
inverts_effect inv E = record { fit = E.below; does = λ P len apart σ fs shows l hl. go P len apart σ (get_or fs 0 none) (shows 0 (omega arith)) l }
  where
    go : (P : List ℕ) → length P ≡ 34 → T (distinct P) → (σ : Lane) (o : Option ℕ) → Shows σ (get_or P 0 0) o → (l : ℕ) → Shows (play_on (place P) (gates_of inv) σ) (get_or P l 0) (get_or (unary (same ∷ coordinate_inverse ∷ []) o) l none)
    go P len apart σ none h l = tt
    go P len apart σ (some v) h zero = (h.0, (E.inverts P len apart σ v h.0 h.1).0)
    go P len apart σ (some v) h (suc zero) = (inverse_small v h.0, (E.inverts P len apart σ v h.0 h.1).1)
    go P len apart σ (some v) h (suc (suc l)) = tt

abbrev pub inverter : (inv : List ℕ) → Inverts inv → Proved inv
inverter inv E = record { page = inv; q = 2; c = 32; eff = λ fs. unary (same ∷ coordinate_inverse ∷ []) (get_or fs 0 none); sockets = E.two; effect = inverts_effect inv E; make = Invert; is_page = λ bs. refl; is_bases = λ bs. refl }
