-- A round of the opening in coordinates is that of FIPS 197, and its states are bytes. Assumes nothing.
use Rattle.std.proofs.Common.{◌≡◌, ℕ, ◌*◌, ◌%◌, ◌<◌, List, [], ◌∷◌, map, get_or, refl, ap, ◌∙◌}
use mathlib.Core.Path.{fun_ext}
use Rattle.std.specs.List.{range_with_len}
use Rattle.standard.specs.Cipher.{AddRoundKey, InvSubBytes, InvShiftRows, InvMixColumns}
use Rattle.standard.specs.Kinds.{sixteen}
use Rattle.coordinates.specs.Coordinates.{to_coordinates}
use Rattle.standard.specs.Field.{inv_affine, InvSBox, mul}
use Rattle.circuit.proofs.Linear.{BytesAll}
use Rattle.circuit.proofs.Inverter.{coordinate_inverse}
use Rattle.circuit.proofs.Unmix.{times}
use Rattle.circuit.proofs.InCoordinates.{inv_to, sum4, cons4}
use Rattle.standard.proofs.FieldLaws.{inv_affine_byte, InvSBox_byte}
use Rattle.standard.proofs.StateLaws.{add_bytes, bytes_at, bytes_map}
use Rattle.coordinates.proofs.CoordinateLaws.{from_to}
use Rattle.circuit.proofs.OpenStages.{unaff, unsub, coordinate_unmix}

unsub_to : (v : ℕ) → v < 256 → coordinate_inverse (unaff (to_coordinates v)) ≡ to_coordinates (InvSBox v)
unfolding unaff InvSBox
unsub_to v h = ap (λ (x : ℕ). coordinate_inverse (to_coordinates (inv_affine x))) (from_to v h) ∙ inv_to (inv_affine v) (inv_affine_byte v h)

-- the state s in coordinates, through InvShiftRows and InvSubBytes
pub coordinate_unsub : (s : ℕ → ℕ) → ((j : ℕ) → s j < 256) → unsub (map (λ j. to_coordinates (s j)) (range_with_len 0 16)) ≡ map to_coordinates (InvSubBytes (InvShiftRows (sixteen s)))
coordinate_unsub s h = ap (λ (f : ℕ → ℕ). InvShiftRows (map f (range_with_len 0 16))) (fun_ext (λ j. unsub_to (s j) (h j)))

times_to : (m v : ℕ) → v < 256 → times m (to_coordinates v) ≡ to_coordinates (mul m v)
unfolding times
times_to m v h = ap (λ (x : ℕ). to_coordinates (mul m x)) (from_to v h)

pub coordinate_unmix_lem : (xs : List ℕ) → BytesAll xs → coordinate_unmix (map to_coordinates xs) ≡ map to_coordinates (InvMixColumns xs)
coordinate_unmix_lem [] h = refl
coordinate_unmix_lem (a ∷ []) h = refl
coordinate_unmix_lem (a ∷ b ∷ []) h = refl
coordinate_unmix_lem (a ∷ b ∷ c ∷ []) h = refl
coordinate_unmix_lem (a ∷ b ∷ c ∷ d ∷ rest) h =
    let ha = h.0 in let hb = h.1.0 in let hc = h.1.1.0 in let hd = h.1.1.1.0 in
    cons4
    (sum4 (times 14 (to_coordinates a)) (times 11 (to_coordinates b)) (times 13 (to_coordinates c)) (times 9 (to_coordinates d)) (mul 14 a) (mul 11 b) (mul 13 c) (mul 9 d) (times_to 14 a ha) (times_to 11 b hb) (times_to 13 c hc) (times_to 9 d hd))
    (sum4 (times 9 (to_coordinates a)) (times 14 (to_coordinates b)) (times 11 (to_coordinates c)) (times 13 (to_coordinates d)) (mul 9 a) (mul 14 b) (mul 11 c) (mul 13 d) (times_to 9 a ha) (times_to 14 b hb) (times_to 11 c hc) (times_to 13 d hd))
    (sum4 (times 13 (to_coordinates a)) (times 9 (to_coordinates b)) (times 14 (to_coordinates c)) (times 11 (to_coordinates d)) (mul 13 a) (mul 9 b) (mul 14 c) (mul 11 d) (times_to 13 a ha) (times_to 9 b hb) (times_to 14 c hc) (times_to 11 d hd))
    (sum4 (times 11 (to_coordinates a)) (times 13 (to_coordinates b)) (times 9 (to_coordinates c)) (times 14 (to_coordinates d)) (mul 11 a) (mul 13 b) (mul 9 c) (mul 14 d) (times_to 11 a ha) (times_to 13 b hb) (times_to 9 c hc) (times_to 14 d hd))
    (coordinate_unmix_lem rest h.1.1.1.1)

-- ---- bytes
pub unsub_bytes : (xs : List ℕ) → BytesAll xs → BytesAll (InvSubBytes (InvShiftRows xs))
unsub_bytes xs h = bytes_map (λ j. InvSBox (get_or xs ((13 * j) % 16) 0)) (λ j. InvSBox_byte (get_or xs ((13 * j) % 16) 0) (bytes_at xs h ((13 * j) % 16))) (range_with_len 0 16)

pub added_bytes : (xs : List ℕ) (k : ℕ → ℕ) → BytesAll xs → ((j : ℕ) → k j < 256) → BytesAll (AddRoundKey (InvSubBytes (InvShiftRows xs)) (sixteen k))
added_bytes xs k h hk = add_bytes (InvSubBytes (InvShiftRows xs)) (sixteen k) (unsub_bytes xs h) (bytes_map k hk (range_with_len 0 16))
