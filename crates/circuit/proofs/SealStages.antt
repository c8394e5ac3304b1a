-- The stages of a sealing, each by one computation on open bytes. Assumes nothing.
use Rattle.std.proofs.Common.{◌≡◌, ℕ, ◌+◌, ◌-◌, ◌*◌, ◌%◌, ◌≤◌, true, cond, T, eqb, List, [], ◌∷◌, ◌++◌, map, length, take, sym, refl, ◌∙◌, subst, arith}
use mathlib.Core.Option.{Option, some}
use lib.Lanes.{Each1}
use Rattle.std.specs.List.{range_with_len}
use Rattle.std.proofs.lemmas.Simd.{Each1-get_or}
use Rattle.std.proofs.lemmas.List.FromFn.{get_or-range_with_len, length-range_with_len}
use Rattle.standard.specs.Cipher.{ShiftRows}
use Rattle.coordinates.specs.Coordinates.{to_coordinates}
use Rattle.circuit.proofs.Inverter.{coordinate_inverse, inverter}
use Rattle.circuit.proofs.Ends.{enterer, finisher, finish}
use Rattle.circuit.proofs.Files.{File}
use Rattle.circuit.specs.Claims.{Inverts}
use Rattle.circuit.proofs.PlanLaws.{Step, step, play_of, lawful_all, file_after}
use Rattle.circuit.proofs.Round.{coordinate_round, coordinate_add, key_bytes_at, adder, mixer}
use Rattle.standard.specs.Kinds.{KeyKind, aes128, rounds}
use Rattle.plans.specs.Layout.{free}
use Rattle.plans.specs.Plans.{stage_plan}
use Rattle.circuit.proofs.FileViews.{file_of}
use Rattle.circuit.proofs.Staged.{StageOk, at_all}

abbrev pub add_steps : {inv : List ℕ} → Inverts inv → KeyKind → ℕ → List (Step inv)
add_steps {inv} E κ n = map (λ j. step (adder inv) (j ∷ (16 * (n + 1) + j) ∷ []) (free κ + 16)) (range_with_len 0 16)

abbrev pub inv_steps : {inv : List ℕ} → Inverts inv → KeyKind → List (Step inv)
inv_steps {inv} E κ = map (λ j. step (inverter inv E) (((5 * j) % 16) ∷ (free κ + j) ∷ []) (free κ + 16)) (range_with_len 0 16)

abbrev pub first_steps : {inv : List ℕ} → Inverts inv → KeyKind → List (Step inv)
first_steps {inv} E κ = add_steps E κ 0 ++ map (λ j. step (enterer inv) (j ∷ []) (free κ + 16)) (range_with_len 0 16)

abbrev pub round_steps : {inv : List ℕ} → Inverts inv → KeyKind → ℕ → List (Step inv)
round_steps {inv} E κ n =
    inv_steps E κ
    ++ (map (λ c. step (mixer inv) ((free κ + 4 * c) ∷ (free κ + (1 + 4 * c)) ∷ (free κ + (2 + 4 * c)) ∷ (free κ + (3 + 4 * c)) ∷ (4 * c) ∷ (1 + 4 * c) ∷ (2 + 4 * c) ∷ (3 + 4 * c) ∷ []) (free κ + 16)) (range_with_len 0 4)
    ++ add_steps E κ n)

abbrev pub last_steps : {inv : List ℕ} → Inverts inv → KeyKind → List (Step inv)
last_steps {inv} E κ = inv_steps E κ ++ (map (λ j. step (finisher inv) ((free κ + j) ∷ j ∷ []) (free κ + 16)) (range_with_len 0 16) ++ add_steps E κ (rounds κ))

abbrev pub stage_steps : {inv : List ℕ} → Inverts inv → KeyKind → ℕ → List (Step inv)
stage_steps {inv} E κ n = cond (eqb n 0) (first_steps E κ) (cond (eqb n (rounds κ)) (last_steps E κ) (round_steps E κ n))

-- what a stage does to the sixteen bytes shown
abbrev pub first_out : List ℕ → List ℕ → List ℕ
first_out st k = map to_coordinates (coordinate_add st k)

abbrev pub last_out : List ℕ → List ℕ → List ℕ
last_out st k = coordinate_add (map finish (ShiftRows (map coordinate_inverse st))) k

abbrev pub stage_out : ℕ → ℕ → List ℕ → List ℕ → List ℕ
stage_out nr n st k = cond (eqb n 0) (first_out st k) (cond (eqb n nr) (last_out st k) (coordinate_round st k))

module _ {inv : List ℕ} (E : Inverts inv) where
  abbrev All : {A : Type 0} → KeyKind → (ℕ → A) → List A
  All κ f = map f (range_with_len 0 (rounds κ + 1))

  all_good : (κ : KeyKind) → All κ (λ n. lawful_all (stage_steps E κ n)) ≡ All κ (λ n. true)
  all_good aes128 = refl

  all_plays : (κ : KeyKind) → All κ (λ n. map play_of (stage_steps E κ n)) ≡ All κ (stage_plan κ)
  all_plays aes128 = refl

  abbrev after : KeyKind → (ℕ → ℕ) → (ℕ → ℕ) → ℕ → File
  after κ s k n = take (16 + (free κ - 16)) (file_after (stage_steps E κ n) (file_of (free κ - 16) s k))

  abbrev want : KeyKind → (ℕ → ℕ) → (ℕ → ℕ) → ℕ → File
  want κ s k n = map {B = Option ℕ} (λ v. some v) (stage_out (rounds κ) n (map s (range_with_len 0 16)) (key_bytes_at k n)) ++ map (λ j. some (k j)) (range_with_len 16 (free κ - 16))

  abbrev FileAt : KeyKind → ℕ → Type 0
  FileAt κ n = (s k : ℕ → ℕ) → after κ s k n ≡ want κ s k n

  all_files : (κ : KeyKind) → Each1 (FileAt κ) (range_with_len 0 (rounds κ + 1))
  all_files aes128 = (
    (λ s k. refl),
    (
      (λ s k. refl),
      (
        (λ s k. refl),
        (
          (λ s k. refl),
          (
            (λ s k. refl),
            (
              (λ s k. refl),
              (
                (λ s k. refl),
                (
                  (λ s k. refl),
                  (
                    (λ s k. refl),
                    (
                      (λ s k. refl),
                      (
                        (λ s k. refl),
                        tt,
                      ),
                    ),
                  ),
                ),
              ),
            ),
          ),
        ),
      ),
    ),
  )

  file_at : (κ : KeyKind) (n : ℕ) → n ≤ rounds κ → FileAt κ n
  file_at κ n h = subst (FileAt κ) (get_or-range_with_len 0 (rounds κ + 1) n 0 (omega arith) ∙ zeros n)
      (Each1-get_or (FileAt κ) (range_with_len 0 (rounds κ + 1)) n 0 (omega (arith, length-range_with_len 0 (rounds κ + 1))) (all_files κ))
    where
      zeros : (n : ℕ) → 0 + n ≡ n
      zeros n = omega arith

  all_sized : (κ : KeyKind) (s k : ℕ → ℕ) → All κ (λ n. length (stage_out (rounds κ) n (map s (range_with_len 0 16)) (key_bytes_at k n))) ≡ All κ (λ n. 16)
  all_sized aes128 s k = refl

  pub stage_ok : (κ : KeyKind) (n : ℕ) → n ≤ rounds κ → StageOk inv (free κ - 16) (stage_plan κ n) (stage_steps E κ n) (λ s k. stage_out (rounds κ) n (map s (range_with_len 0 16)) (key_bytes_at k n)) (λ k. k)
  stage_ok κ n h = record {
    good = subst T (sym (at_all (λ n. lawful_all (stage_steps E κ n)) (λ n. true) 0 (rounds κ + 1) n (omega arith) (omega arith) (all_good κ))) tt;
    plays = at_all (λ n. map play_of (stage_steps E κ n)) (stage_plan κ) 0 (rounds κ + 1) n (omega arith) (omega arith) (all_plays κ);
    file = file_at κ n h;
    sized = λ s k. at_all (λ n. length (stage_out (rounds κ) n (map s (range_with_len 0 16)) (key_bytes_at k n))) (λ n. 16) 0 (rounds κ + 1) n (omega arith) (omega arith) (all_sized κ s k);
  }
