-- The claim about the sealing. Assumes nothing.
use Rattle.std.proofs.Common.{◌≡◌, ℕ, zero, suc, ◌+◌, ◌-◌, ◌*◌, ◌<◌, ◌≤◌, Bool, cond, eqb, List, [], ◌∷◌, ◌++◌, map, get_or, sym, refl, ap, ◌∙◌, subst, ap₂, arith}
use mathlib.Core.Path.{fun_ext}
use lib.Bits.{bit_xor, xor_zero_r}
use Rattle.std.specs.List.{range_with_len}
use Rattle.std.proofs.lemmas.Bool.{ne_eqb, eq-eqb}
use Rattle.standard.specs.Field.{inverse, affine, SBox}
use Rattle.standard.specs.Cipher.{ShiftRows, SubBytes, AddRoundKey, Round, state_after, Cipher}
use Rattle.standard.specs.Kinds.{KeyKind, aes128, rounds, sixteen}
use Rattle.coordinates.specs.Coordinates.{to_coordinates, from_coordinates}
use Rattle.plans.specs.Layout.{free}
use Rattle.plans.specs.Plans.{stage_plan, stages_to}
use Rattle.circuit.specs.Lanes.{Lane, run_plan}
use Rattle.circuit.specs.Claims.{state_of, keys_of, SealStands, Inverts}
use Rattle.circuit.proofs.Inverter.{coordinate_inverse}
use Rattle.circuit.proofs.Ends.{finish}
use Rattle.circuit.proofs.Round.{coordinate_round, coordinate_add, key_bytes_at}
use Rattle.circuit.proofs.InCoordinates.{coordinate_round_lem, inv_to}
use Rattle.standard.proofs.ByteLaws.{byte_of_small}
use Rattle.standard.proofs.FieldLaws.{inverse_byte}
use Rattle.standard.proofs.StateLaws.{bytes_at, sixteen_state}
use Rattle.standard.proofs.Rounds.{state_after_state}
use Rattle.coordinates.proofs.CoordinateLaws.{from_to}
use Rattle.circuit.proofs.Staged.{raw, states, state_after_lem, kept_after}
use Rattle.circuit.proofs.Keys.{key_byte, key_small, key_last, key_between, some_rounds}
use Rattle.circuit.proofs.SealStages.{stage_steps, stage_out, stage_ok}

pub plain_add : (xs ks : List ℕ) → coordinate_add xs ks ≡ AddRoundKey xs ks
plain_add [] ks = refl
plain_add (x ∷ xs) [] = refl
plain_add (x ∷ xs) (k ∷ ks) = ap₂ {C = List ℕ} (λ y ys. y ∷ ys) (ap (bit_xor x) (xor_zero_r k)) (plain_add xs ks)

finish_inv : (v : ℕ) → v < 256 → finish (coordinate_inverse (to_coordinates v)) ≡ SBox v
unfolding finish SBox
finish_inv v h = ap (λ (x : ℕ). affine (from_coordinates x)) (inv_to v h) ∙ ap affine (from_to (inverse v) (inverse_byte v h))

mid_out : (nr n : ℕ) (st k : List ℕ) → (n ≡ 0 → ⊥) → (n ≡ nr → ⊥) → stage_out nr n st k ≡ coordinate_round st k
mid_out nr n st k a b =
    ap (λ (q : Bool). cond q (map to_coordinates (coordinate_add st k)) (cond (eqb n nr) (coordinate_add (map finish (ShiftRows (map coordinate_inverse st))) k) (coordinate_round st k))) (ne_eqb n 0 a)
    ∙ ap (λ (q : Bool). cond q (coordinate_add (map finish (ShiftRows (map coordinate_inverse st))) k) (coordinate_round st k)) (ne_eqb n nr b)

last_out : (nr : ℕ) (st k : List ℕ) → (nr ≡ 0 → ⊥) → stage_out nr nr st k ≡ coordinate_add (map finish (ShiftRows (map coordinate_inverse st))) k
last_out nr st k a =
    ap (λ (q : Bool). cond q (map to_coordinates (coordinate_add st k)) (cond (eqb nr nr) (coordinate_add (map finish (ShiftRows (map coordinate_inverse st))) k) (coordinate_round st k))) (ne_eqb nr 0 a)
    ∙ ap (λ (q : Bool). cond q (coordinate_add (map finish (ShiftRows (map coordinate_inverse st))) k) (coordinate_round st k)) (eq-eqb nr nr refl)

to_first : (κ : KeyKind) → stages_to κ 0 ≡ stage_plan κ 0
unfolding stages_to
to_first κ = refl

to_more : (κ : KeyKind) (n : ℕ) → stages_to κ (suc n) ≡ stages_to κ n ++ stage_plan κ (suc n)
unfolding stages_to
to_more κ n = refl

abbrev out : KeyKind → ℕ → List ℕ → (ℕ → ℕ) → List ℕ
out κ n st k = stage_out (rounds κ) n st (key_bytes_at k n)

-- a state of the cipher is sixteen bytes
module _ (b : ℕ → ℕ) (ks : ℕ → ℕ → ℕ) where
  abbrev cipher_state : ℕ → List ℕ
  cipher_state n = state_after n (sixteen b) (λ m. sixteen (ks m))

  spine : (n : ℕ) → sixteen (λ j. get_or (cipher_state n) j 0) ≡ cipher_state n
  spine zero = refl
  spine (suc n) = refl

  spine_out : (n : ℕ) → sixteen (λ j. get_or (map to_coordinates (cipher_state n)) j 0) ≡ map (λ j. to_coordinates (get_or (cipher_state n) j 0)) (range_with_len 0 16)
  spine_out zero = refl
  spine_out (suc n) = refl

  spine_coordinates : (n : ℕ) → sixteen (λ j. get_or (map to_coordinates (cipher_state n)) j 0) ≡ map to_coordinates (cipher_state n)
  spine_coordinates zero = refl
  spine_coordinates (suc n) = refl

module _ (inv : List ℕ) (E : Inverts inv) (κ : KeyKind) (σ : Lane) where
  abbrev after : ℕ → List ℕ
  after n = state_after n (state_of σ) (keys_of κ σ)

  abbrev shown : ℕ → List ℕ
  shown n = states inv (free κ - 16) (rounds κ) (stage_plan κ) (stages_to κ) (to_first κ) (to_more κ) (stage_steps E κ) (out κ) (stage_ok E κ) σ n

  small : (n j : ℕ) → get_or (after n) j 0 < 256
  small n = bytes_at (after n) (state_after_state (state_of σ) (keys_of κ σ) (sixteen_state (raw σ) (λ j. byte_of_small σ (8 * j))) (λ m. sixteen_state (key_byte κ σ m) (key_small κ σ m)) n).1

  reached : (n : ℕ) → n ≤ rounds κ → state_of (run_plan inv (stages_to κ n) σ) ≡ sixteen (λ j. get_or (shown n) j 0)
  reached = state_after_lem inv (free κ - 16) (rounds κ) (stage_plan κ) (stages_to κ) (to_first κ) (to_more κ) (stage_steps E κ) (out κ) (stage_ok E κ) σ

  in_coordinates : (n : ℕ) → n < rounds κ → shown n ≡ map to_coordinates (after n)
  unfolding states
  in_coordinates zero h = ap (map to_coordinates) (plain_add (state_of σ) (keys_of κ σ 0))
  in_coordinates (suc n) h =
      mid_out (rounds κ) (suc n) (sixteen (λ j. get_or (shown n) j 0)) (key_bytes_at (raw σ) (suc n)) (λ e. omega arith) (λ e. omega arith)
      ∙ ap₂ coordinate_round
      (ap (λ (xs : List ℕ). sixteen (λ j. get_or xs j 0)) (in_coordinates n (omega arith)) ∙ spine_out (raw σ) (key_byte κ σ) n)
      (key_between κ σ (suc n) (omega arith) h)
      ∙ coordinate_round_lem (λ i. get_or (after n) i 0) (key_byte κ σ (suc n)) (small n)
      ∙ ap (λ (xs : List ℕ). map to_coordinates (Round xs (keys_of κ σ (suc n)))) (spine (raw σ) (key_byte κ σ) n)

  next : (m : ℕ) → shown (suc m) ≡ stage_out (rounds κ) (suc m) (sixteen (λ j. get_or (shown m) j 0)) (key_bytes_at (raw σ) (suc m))
  unfolding states
  next m = refl

  at_last : (m : ℕ) → rounds κ ≡ suc m → shown (suc m) ≡ AddRoundKey (ShiftRows (SubBytes (after m))) (keys_of κ σ (suc m))
  at_last m e =
      next m
      ∙ ap (λ (r : ℕ). stage_out r (suc m) (sixteen (λ j. get_or (shown m) j 0)) (key_bytes_at (raw σ) (suc m))) e
      ∙ last_out (suc m) (sixteen (λ j. get_or (shown m) j 0)) (key_bytes_at (raw σ) (suc m)) (λ e. omega arith)
      ∙ ap₂ (λ (x k : List ℕ). coordinate_add (map finish (ShiftRows (map coordinate_inverse x))) k)
      (ap (λ (xs : List ℕ). sixteen (λ j. get_or xs j 0)) (in_coordinates m (omega arith)) ∙ spine_out (raw σ) (key_byte κ σ) m)
      (subst (λ (r : ℕ). key_bytes_at (raw σ) r ≡ keys_of κ σ r) e (key_last κ σ))
      ∙ ap (λ (f : ℕ → ℕ). coordinate_add (ShiftRows (map f (range_with_len 0 16))) (keys_of κ σ (suc m))) (fun_ext (λ i. finish_inv (get_or (after m) i 0) (small m i)))
      ∙ ap (λ (xs : List ℕ). coordinate_add (ShiftRows (SubBytes xs)) (keys_of κ σ (suc m))) (spine (raw σ) (key_byte κ σ) m)
      ∙ plain_add (ShiftRows (SubBytes (after m))) (keys_of κ σ (suc m))

  final : shown (rounds κ) ≡ Cipher (rounds κ) (state_of σ) (keys_of κ σ)
  final = subst (λ (r : ℕ). shown r ≡ AddRoundKey (ShiftRows (SubBytes (after (rounds κ - 1)))) (keys_of κ σ r)) (sym (some_rounds κ)) (at_last (rounds κ - 1) (some_rounds κ))

pub behind : (κ : KeyKind) → 16 + (free κ - 16) ≡ free κ
behind aes128 = refl

pub seal_stands_lem : (inv : List ℕ) → Inverts inv → (κ : KeyKind) → SealStands inv κ
seal_stands_lem inv E κ σ = (
  (λ n h. reached inv E κ σ n (omega arith) ∙ ap (λ (xs : List ℕ). sixteen (λ j. get_or xs j 0)) (in_coordinates inv E κ σ n h) ∙ spine_coordinates (raw σ) (key_byte κ σ) n),
  reached inv E κ σ (rounds κ) (omega arith) ∙ ap (λ (xs : List ℕ). sixteen (λ j. get_or xs j 0)) (final inv E κ σ),
  λ r lo hi. kept_after inv (free κ - 16) (rounds κ) (stage_plan κ) (stages_to κ) (to_first κ) (to_more κ) (stage_steps E κ) (out κ) (stage_ok E κ) σ (rounds κ) (omega arith) r lo (omega (arith, behind κ)),
)
