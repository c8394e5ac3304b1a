-- The claim about the opening. Assumes nothing.
use Rattle.std.proofs.Common.{◌≡◌, ℕ, zero, suc, ◌-◌, ◌*◌, ◌<◌, ◌≤◌, Bool, cond, eqb, List, [], ◌∷◌, ◌++◌, map, get_or, sym, refl, ap, ◌∙◌, subst, ap₂, arith}
use Rattle.std.specs.List.{range_with_len}
use Rattle.std.proofs.lemmas.Bool.{ne_eqb, eq-eqb}
use Rattle.standard.specs.Cipher.{AddRoundKey, InvSubBytes, InvShiftRows, inv_state_after, InvCipher}
use Rattle.standard.specs.Kinds.{KeyKind, rounds, sixteen}
use Rattle.coordinates.specs.Coordinates.{to_coordinates, from_coordinates}
use Rattle.plans.specs.Layout.{free}
use Rattle.plans.specs.Plans.{open_stage, open_to}
use Rattle.circuit.specs.Lanes.{Lane, run_plan}
use Rattle.circuit.specs.Claims.{state_of, keys_of, OpenStands, Inverts}
use Rattle.circuit.proofs.Linear.{BytesAll}
use Rattle.circuit.proofs.Round.{coordinate_add, key_bytes_at}
use Rattle.circuit.proofs.InCoordinates.{coordinate_add_lem}
use Rattle.standard.proofs.ByteLaws.{byte_of_small}
use Rattle.standard.proofs.StateLaws.{bytes_at, sixteen_state}
use Rattle.standard.proofs.Rounds.{inv_state_after_state}
use Rattle.coordinates.proofs.CoordinateLaws.{from_to}
use Rattle.circuit.proofs.Staged.{raw, states, state_after_lem, kept_after}
use Rattle.circuit.proofs.Keys.{key_byte, key_small, key_last, key_between, some_rounds}
use Rattle.circuit.proofs.SealStands.{plain_add, behind}
use Rattle.circuit.proofs.OpenStages.{open_steps, open_out, open_ok, unsub, coordinate_unmix}
use Rattle.circuit.proofs.OpenMath.{coordinate_unsub, coordinate_unmix_lem, unsub_bytes, added_bytes}

mid_out : (nr n : ℕ) (st k : List ℕ) → (n ≡ 0 → ⊥) → (n ≡ nr → ⊥) → open_out nr n st k ≡ coordinate_unmix (coordinate_add (unsub st) k)
mid_out nr n st k a b =
    ap (λ (q : Bool). cond q (map to_coordinates (coordinate_add st k)) (cond (eqb n nr) (coordinate_add (map from_coordinates (unsub st)) k) (coordinate_unmix (coordinate_add (unsub st) k)))) (ne_eqb n 0 a)
    ∙ ap (λ (q : Bool). cond q (coordinate_add (map from_coordinates (unsub st)) k) (coordinate_unmix (coordinate_add (unsub st) k))) (ne_eqb n nr b)

last_out : (nr : ℕ) (st k : List ℕ) → (nr ≡ 0 → ⊥) → open_out nr nr st k ≡ coordinate_add (map from_coordinates (unsub st)) k
last_out nr st k a =
    ap (λ (q : Bool). cond q (map to_coordinates (coordinate_add st k)) (cond (eqb nr nr) (coordinate_add (map from_coordinates (unsub st)) k) (coordinate_unmix (coordinate_add (unsub st) k)))) (ne_eqb nr 0 a)
    ∙ ap (λ (q : Bool). cond q (coordinate_add (map from_coordinates (unsub st)) k) (coordinate_unmix (coordinate_add (unsub st) k))) (eq-eqb nr nr refl)

to_first : (κ : KeyKind) → open_to κ 0 ≡ open_stage κ 0
unfolding open_to
to_first κ = refl

to_more : (κ : KeyKind) (n : ℕ) → open_to κ (suc n) ≡ open_to κ n ++ open_stage κ (suc n)
unfolding open_to
to_more κ n = refl

abbrev out : KeyKind → ℕ → List ℕ → (ℕ → ℕ) → List ℕ
out κ n st k = open_out (rounds κ) n st (key_bytes_at k (rounds κ - n))

-- a state of the inverse cipher is sixteen bytes
module _ (nr : ℕ) (b : ℕ → ℕ) (ks : ℕ → ℕ → ℕ) where
  abbrev cipher_state : ℕ → List ℕ
  cipher_state n = inv_state_after nr n (sixteen b) (λ m. sixteen (ks m))

  spine : (n : ℕ) → sixteen (λ j. get_or (cipher_state n) j 0) ≡ cipher_state n
  spine zero = refl
  spine (suc n) = refl

  spine_out : (n : ℕ) → sixteen (λ j. get_or (map to_coordinates (cipher_state n)) j 0) ≡ map (λ j. to_coordinates (get_or (cipher_state n) j 0)) (range_with_len 0 16)
  spine_out zero = refl
  spine_out (suc n) = refl

back : (xs : List ℕ) → ((j : ℕ) → get_or xs j 0 < 256) → map from_coordinates (map to_coordinates xs) ≡ xs
back [] h = refl
back (x ∷ xs) h = ap₂ {C = List ℕ} (λ y ys. y ∷ ys) (from_to x (h 0)) (back xs (λ j. h (suc j)))

module _ (inv : List ℕ) (E : Inverts inv) (κ : KeyKind) (σ : Lane) where
  abbrev after : ℕ → List ℕ
  after n = inv_state_after (rounds κ) n (state_of σ) (keys_of κ σ)

  abbrev shown : ℕ → List ℕ
  shown n = states inv (free κ - 16) (rounds κ) (open_stage κ) (open_to κ) (to_first κ) (to_more κ) (open_steps E κ) (out κ) (open_ok E κ) σ n

  reached : (n : ℕ) → n ≤ rounds κ → state_of (run_plan inv (open_to κ n) σ) ≡ sixteen (λ j. get_or (shown n) j 0)
  reached = state_after_lem inv (free κ - 16) (rounds κ) (open_stage κ) (open_to κ) (to_first κ) (to_more κ) (open_steps E κ) (out κ) (open_ok E κ) σ

  bytes : (n : ℕ) → BytesAll (after n)
  bytes n = (inv_state_after_state (state_of σ) (keys_of κ σ) (sixteen_state (raw σ) (λ j. byte_of_small σ (8 * j))) (λ m. sixteen_state (key_byte κ σ m) (key_small κ σ m)) (rounds κ) n).1

  all_left : rounds κ - 0 ≡ rounds κ
  all_left = omega arith

  which : (n : ℕ) → rounds κ - suc n ≡ rounds κ - 1 - n
  which n = omega arith

  unsubbed : (n : ℕ) → shown n ≡ map to_coordinates (after n) → unsub (sixteen (λ j. get_or (shown n) j 0)) ≡ map to_coordinates (InvSubBytes (InvShiftRows (after n)))
  unsubbed n e =
      ap unsub (ap (λ (xs : List ℕ). sixteen (λ j. get_or xs j 0)) e ∙ spine_out (rounds κ) (raw σ) (key_byte κ σ) n)
      ∙ coordinate_unsub (λ i. get_or (after n) i 0) (bytes_at (after n) (bytes n))
      ∙ ap (λ (xs : List ℕ). map to_coordinates (InvSubBytes (InvShiftRows xs))) (spine (rounds κ) (raw σ) (key_byte κ σ) n)

  in_coordinates : (n : ℕ) → n < rounds κ → shown n ≡ map to_coordinates (after n)
  unfolding states
  in_coordinates zero h = ap (λ (k : List ℕ). map to_coordinates (coordinate_add (state_of σ) k)) (ap (key_bytes_at (raw σ)) all_left ∙ key_last κ σ) ∙ ap (map to_coordinates) (plain_add (state_of σ) (keys_of κ σ (rounds κ)))
  in_coordinates (suc n) h =
      mid_out (rounds κ) (suc n) (sixteen (λ j. get_or (shown n) j 0)) (key_bytes_at (raw σ) (rounds κ - suc n)) (λ e. omega arith) (λ e. omega arith)
      ∙ ap₂ (λ (x k : List ℕ). coordinate_unmix (coordinate_add x k)) (unsubbed n (in_coordinates n (omega arith)))
      (ap (key_bytes_at (raw σ)) (which n) ∙ key_between κ σ (rounds κ - 1 - n) (omega arith) (omega arith))
      ∙ ap coordinate_unmix (coordinate_add_lem (InvSubBytes (InvShiftRows (after n))) (keys_of κ σ (rounds κ - 1 - n)))
      ∙ coordinate_unmix_lem (AddRoundKey (InvSubBytes (InvShiftRows (after n))) (keys_of κ σ (rounds κ - 1 - n))) (added_bytes (after n) (key_byte κ σ (rounds κ - 1 - n)) (bytes n) (key_small κ σ (rounds κ - 1 - n)))

  next : (m : ℕ) → shown (suc m) ≡ open_out (rounds κ) (suc m) (sixteen (λ j. get_or (shown m) j 0)) (key_bytes_at (raw σ) (rounds κ - suc m))
  unfolding states
  next m = refl

  at_last : (m : ℕ) → rounds κ ≡ suc m → shown (suc m) ≡ AddRoundKey (InvSubBytes (InvShiftRows (after m))) (keys_of κ σ 0)
  at_last m e =
      next m
      ∙ ap (λ (r : ℕ). open_out r (suc m) (sixteen (λ j. get_or (shown m) j 0)) (key_bytes_at (raw σ) (r - suc m))) e
      ∙ last_out (suc m) (sixteen (λ j. get_or (shown m) j 0)) (key_bytes_at (raw σ) (suc m - suc m)) (λ e. omega arith)
      ∙ ap₂ (λ (x k : List ℕ). coordinate_add (map from_coordinates x) k) (unsubbed m (in_coordinates m (omega arith))) (ap (key_bytes_at (raw σ)) none_left)
      ∙ ap (λ (x : List ℕ). coordinate_add x (keys_of κ σ 0)) (back (InvSubBytes (InvShiftRows (after m))) (bytes_at (InvSubBytes (InvShiftRows (after m))) (unsub_bytes (after m) (bytes m))))
      ∙ plain_add (InvSubBytes (InvShiftRows (after m))) (keys_of κ σ 0)
    where
      none_left : suc m - suc m ≡ 0
      none_left = omega arith

  final : shown (rounds κ) ≡ InvCipher (rounds κ) (state_of σ) (keys_of κ σ)
  final = subst (λ (r : ℕ). shown r ≡ AddRoundKey (InvSubBytes (InvShiftRows (after (rounds κ - 1)))) (keys_of κ σ 0)) (sym (some_rounds κ)) (at_last (rounds κ - 1) (some_rounds κ))

pub open_stands_lem : (inv : List ℕ) → Inverts inv → (κ : KeyKind) → OpenStands inv κ
open_stands_lem inv E κ σ = (
  reached inv E κ σ (rounds κ) (omega arith) ∙ ap (λ (xs : List ℕ). sixteen (λ j. get_or xs j 0)) (final inv E κ σ),
  λ r lo hi. kept_after inv (free κ - 16) (rounds κ) (open_stage κ) (open_to κ) (to_first κ) (to_more κ) (open_steps E κ) (out κ) (open_ok E κ) σ (rounds κ) (omega arith) r lo (omega (arith, behind κ)),
)
