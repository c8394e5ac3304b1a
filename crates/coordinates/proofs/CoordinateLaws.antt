-- The coordinates: both ways round, and XOR goes through. Assumes nothing.
use Rattle.std.proofs.Common.{◌≡◌, ℕ, suc, ◌<◌, Bool, cond, List, [], ◌∷◌, sym, refl, ap, ◌∙◌, ap₂}
use lib.Bits.{bit_xor, xor_assoc}
use Rattle.standard.specs.Bits.{bit}
use Rattle.standard.proofs.BitLaws.{bit_xor_lem, xor_swap, chosen_xor}
use Rattle.standard.proofs.Tests.{tests, equal_below, small_below}
use Rattle.coordinates.specs.Coordinates.{combine, basis, bits_in_basis, from_coordinates, to_coordinates, OnlyCoordinates, XorInCoordinates}

pub combine_xor : (cs : List ℕ) (i a b : ℕ) → combine cs i (bit_xor a b) ≡ bit_xor (combine cs i a) (combine cs i b)
unfolding combine
combine_xor [] i a b = refl
combine_xor (c ∷ cs) i a b =
    ap₂ bit_xor (ap (λ (p : Bool). cond p c 0) (bit_xor_lem a b i) ∙ chosen_xor (bit a i) (bit b i) c) (combine_xor cs (suc i) a b)
    ∙ xor_swap (cond (bit a i) c 0) (cond (bit b i) c 0) (combine cs (suc i) a) (combine cs (suc i) b)

-- one chosen byte more, after what is summed up already
pub combine_step : (p c : ℕ) (cs : List ℕ) (i v : ℕ) → bit_xor p (combine (c ∷ cs) i v) ≡ bit_xor (bit_xor p (cond (bit v i) c 0)) (combine cs (suc i) v)
unfolding combine
combine_step p c cs i v = sym (xor_assoc p (cond (bit v i) c 0) (combine cs (suc i) v))

pub to_xor : XorInCoordinates
unfolding to_coordinates
to_xor a b = combine_xor bits_in_basis 0 a b

pub from_xor : (a b : ℕ) → from_coordinates (bit_xor a b) ≡ bit_xor (from_coordinates a) (from_coordinates b)
unfolding from_coordinates
from_xor a b = combine_xor basis 0 a b

pub from_to : (v : ℕ) → v < 256 → from_coordinates (to_coordinates v) ≡ v
unfolding tests from_coordinates to_coordinates
from_to = equal_below (λ v. from_coordinates (to_coordinates v)) (λ v. v) 256 tt

pub to_from : (v : ℕ) → v < 256 → to_coordinates (from_coordinates v) ≡ v
unfolding tests from_coordinates to_coordinates
to_from = equal_below (λ v. to_coordinates (from_coordinates v)) (λ v. v) 256 tt

pub to_byte : (v : ℕ) → v < 256 → to_coordinates v < 256
unfolding tests to_coordinates
to_byte = small_below to_coordinates 256 256 tt

pub from_byte : (v : ℕ) → v < 256 → from_coordinates v < 256
unfolding tests from_coordinates
from_byte = small_below from_coordinates 256 256 tt

pub only : OnlyCoordinates
only b c hb hc = (from_to b hb, λ e. sym (to_from c hc) ∙ ap to_coordinates e)
