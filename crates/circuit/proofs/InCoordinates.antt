-- A round in coordinates is the round of FIPS 197. Assumes nothing.
use Rattle.std.proofs.Common.{◌≡◌, ℕ, ◌*◌, ◌%◌, ◌<◌, List, [], ◌∷◌, map, sym, refl, ap, ◌∙◌, ap₂}
use mathlib.Core.Path.{fun_ext}
use lib.Bits.{bit_xor, xor_zero_r}
use Rattle.std.specs.List.{range_with_len}
use Rattle.coordinates.specs.Coordinates.{to_coordinates}
use Rattle.standard.specs.Field.{inverse, affine, mul, SBox}
use Rattle.standard.specs.Cipher.{MixColumns, ShiftRows, AddRoundKey, Round}
use Rattle.standard.proofs.FieldLaws.{inverse_byte}
use Rattle.coordinates.proofs.CoordinateLaws.{to_xor, from_to}
use Rattle.circuit.proofs.Inverter.{coordinate_inverse}
use Rattle.circuit.proofs.Linear.{BytesAll}
use Rattle.circuit.proofs.Mix.{aff1, aff2, aff3}
use Rattle.circuit.proofs.Round.{coordinate_mix, coordinate_add, coordinate_round}

pub inv_to : (v : ℕ) → v < 256 → coordinate_inverse (to_coordinates v) ≡ to_coordinates (inverse v)
unfolding coordinate_inverse
inv_to v h = ap (λ (x : ℕ). to_coordinates (inverse x)) (from_to v h)

pub aff1_to : (v : ℕ) → v < 256 → aff1 (to_coordinates v) ≡ to_coordinates (affine v)
unfolding aff1
aff1_to v h = ap (λ (x : ℕ). to_coordinates (affine x)) (from_to v h)

aff2_to : (v : ℕ) → v < 256 → aff2 (to_coordinates v) ≡ to_coordinates (mul 2 (affine v))
unfolding aff2
aff2_to v h = ap (λ (x : ℕ). to_coordinates (mul 2 (affine x))) (from_to v h)

aff3_to : (v : ℕ) → v < 256 → aff3 (to_coordinates v) ≡ to_coordinates (mul 3 (affine v))
unfolding aff3
aff3_to v h = ap (λ (x : ℕ). to_coordinates (mul 3 (affine x))) (from_to v h)

pub sum4 : (w x y z a b c d : ℕ) → w ≡ to_coordinates a → x ≡ to_coordinates b → y ≡ to_coordinates c → z ≡ to_coordinates d
    → bit_xor w (bit_xor x (bit_xor y (bit_xor z 0))) ≡ to_coordinates (bit_xor a (bit_xor b (bit_xor c d)))
sum4 w x y z a b c d p q r s =
    ap₂ bit_xor p (ap₂ bit_xor q (ap₂ bit_xor r (xor_zero_r z ∙ s)))
    ∙ sym (to_xor a (bit_xor b (bit_xor c d)) ∙ ap (bit_xor (to_coordinates a)) (to_xor b (bit_xor c d) ∙ ap (bit_xor (to_coordinates b)) (to_xor c d)))

pub cons4 : {w x y z w' x' y' z' : ℕ} {r r' : List ℕ} → w ≡ w' → x ≡ x' → y ≡ y' → z ≡ z' → r ≡ r' → ◌≡◌ {A = List ℕ} (w ∷ x ∷ y ∷ z ∷ r) (w' ∷ x' ∷ y' ∷ z' ∷ r')
cons4 a b c d e = λ i. a i ∷ b i ∷ c i ∷ d i ∷ e i

pub coordinate_mix_lem : (xs : List ℕ) → BytesAll xs → coordinate_mix (map to_coordinates xs) ≡ map to_coordinates (MixColumns (map affine xs))
coordinate_mix_lem [] h = refl
coordinate_mix_lem (a ∷ []) h = refl
coordinate_mix_lem (a ∷ b ∷ []) h = refl
coordinate_mix_lem (a ∷ b ∷ c ∷ []) h = refl
coordinate_mix_lem (a ∷ b ∷ c ∷ d ∷ rest) h =
    let ha = h.0 in let hb = h.1.0 in let hc = h.1.1.0 in let hd = h.1.1.1.0 in
    cons4
    (sum4 (aff2 (to_coordinates a)) (aff3 (to_coordinates b)) (aff1 (to_coordinates c)) (aff1 (to_coordinates d)) (mul 2 (affine a)) (mul 3 (affine b)) (affine c) (affine d) (aff2_to a ha) (aff3_to b hb) (aff1_to c hc) (aff1_to d hd))
    (sum4 (aff1 (to_coordinates a)) (aff2 (to_coordinates b)) (aff3 (to_coordinates c)) (aff1 (to_coordinates d)) (affine a) (mul 2 (affine b)) (mul 3 (affine c)) (affine d) (aff1_to a ha) (aff2_to b hb) (aff3_to c hc) (aff1_to d hd))
    (sum4 (aff1 (to_coordinates a)) (aff1 (to_coordinates b)) (aff2 (to_coordinates c)) (aff3 (to_coordinates d)) (affine a) (affine b) (mul 2 (affine c)) (mul 3 (affine d)) (aff1_to a ha) (aff1_to b hb) (aff2_to c hc) (aff3_to d hd))
    (sum4 (aff3 (to_coordinates a)) (aff1 (to_coordinates b)) (aff1 (to_coordinates c)) (aff2 (to_coordinates d)) (mul 3 (affine a)) (affine b) (affine c) (mul 2 (affine d)) (aff3_to a ha) (aff1_to b hb) (aff1_to c hc) (aff2_to d hd))
    (coordinate_mix_lem rest h.1.1.1.1)

pub coordinate_add_lem : (xs ks : List ℕ) → coordinate_add (map to_coordinates xs) (map to_coordinates ks) ≡ map to_coordinates (AddRoundKey xs ks)
coordinate_add_lem [] ks = refl
coordinate_add_lem (x ∷ xs) [] = refl
coordinate_add_lem (x ∷ xs) (k ∷ ks) = ap₂ {C = List ℕ} (λ y ys. y ∷ ys) (ap (bit_xor (to_coordinates x)) (xor_zero_r (to_coordinates k)) ∙ sym (to_xor x k)) (coordinate_add_lem xs ks)

pub coordinate_round_lem : (s k : ℕ → ℕ) → ((j : ℕ) → s j < 256)
    → coordinate_round (map (λ j. to_coordinates (s j)) (range_with_len 0 16)) (map (λ j. to_coordinates (k j)) (range_with_len 0 16))
    ≡ map to_coordinates (Round (map s (range_with_len 0 16)) (map k (range_with_len 0 16)))
unfolding SBox
coordinate_round_lem s k small =
    ap (λ (xs : List ℕ). coordinate_add (coordinate_mix (ShiftRows xs)) (map (λ j. to_coordinates (k j)) (range_with_len 0 16)))
    (ap (λ (h : ℕ → ℕ). map h (range_with_len 0 16)) (fun_ext (λ j. inv_to (s j) (small j))))
    ∙ ap (λ (xs : List ℕ). coordinate_add xs (map (λ j. to_coordinates (k j)) (range_with_len 0 16)))
    (coordinate_mix_lem (map (λ j. inverse (s ((5 * j) % 16))) (range_with_len 0 16)) (all (range_with_len 0 16)))
    ∙ coordinate_add_lem (MixColumns (ShiftRows (map (λ x. SBox x) (map s (range_with_len 0 16))))) (map k (range_with_len 0 16))
  where
    all : (js : List ℕ) → BytesAll (map (λ j. inverse (s ((5 * j) % 16))) js)
    all [] = tt
    all (j ∷ js) = (inverse_byte (s ((5 * j) % 16)) (small ((5 * j) % 16)), all js)
