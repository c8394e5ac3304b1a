-- The stages of a scheduling, all words of a kind by one computation on open bytes. Assumes nothing.
use Rattle.std.proofs.Common.{◌≡◌, ℕ, ◌+◌, ◌-◌, ◌*◌, ◌/◌, ◌%◌, ◌<◌, ◌≤◌, Bool, true, cond, ◌&&◌, T, eqb, ltb, leb, List, [], ◌∷◌, ◌++◌, map, get_or, take, sym, refl, subst}
use mathlib.Core.Option.{Option, some}
use lib.Lanes.{zip2}
use Rattle.std.specs.List.{range_with_len}
use Rattle.coordinates.specs.Coordinates.{to_coordinates, from_coordinates}
use Rattle.plans.specs.declared.plays.Play.{Play}
use Rattle.circuit.proofs.Files.{File}
use Rattle.circuit.specs.Claims.{Inverts}
use Rattle.circuit.proofs.Inverter.{coordinate_inverse, inverter}
use Rattle.circuit.proofs.Mix.{aff1}
use Rattle.circuit.proofs.Ends.{enterer}
use Rattle.circuit.proofs.PlanLaws.{Step, step, play_of, lawful_all, file_after}
use Rattle.circuit.proofs.KeyMath.{add2}
use Rattle.circuit.proofs.Staged.{StageOk, at_all}
use Rattle.circuit.proofs.KeyPages.{plus, affiner, leaver, copier, summer, rconer}
use Rattle.standard.specs.Kinds.{KeyKind, aes128, rounds, key_bytes, key_words}
use Rattle.plans.specs.Layout.{free}
use Rattle.plans.specs.Plans.{added, home, temp, rest, start_plan, word_plan, leave_plan}
use Rattle.circuit.proofs.FileViews.{file_of}

abbrev pub enter_steps : {inv : List ℕ} → Inverts inv → KeyKind → ℕ → ℕ → ℕ → List (Step inv)
enter_steps {inv} E κ p q n = map (λ j. step (copier inv) ((p + j) ∷ (q + j) ∷ []) (rest κ)) (range_with_len 0 n) ++ map (λ j. step (enterer inv) ((q + j) ∷ []) (rest κ)) (range_with_len 0 n)

abbrev pub start_steps : {inv : List ℕ} → Inverts inv → KeyKind → List (Step inv)
start_steps {inv} E κ = enter_steps E κ 16 (free κ) 16 ++ enter_steps E κ (16 * (rounds κ + 2)) 32 (key_bytes κ - 16)

abbrev pub sub_steps : {inv : List ℕ} → Inverts inv → KeyKind → ℕ → ℕ → List (Step inv)
sub_steps {inv} E κ p turn =
    map (λ x. step (inverter inv E) ((p + (x + turn) % 4) ∷ (temp κ + x) ∷ []) (rest κ)) (range_with_len 0 4)
    ++ map (λ x. step (affiner inv) ((temp κ + x) ∷ []) (rest κ)) (range_with_len 0 4)

abbrev pub sum_steps : {inv : List ℕ} → Inverts inv → KeyKind → ℕ → ℕ → List (Step inv)
sum_steps {inv} E κ i q = map (λ x. step (summer inv) ((home κ (i - key_words κ) + x) ∷ (q + x) ∷ (16 + 4 * i + x) ∷ []) (rest κ)) (range_with_len 0 4)

abbrev pub word_steps : {inv : List ℕ} → Inverts inv → KeyKind → ℕ → List (Step inv)
word_steps {inv} E κ i =
    cond (eqb (i % key_words κ) 0)
    (sub_steps E κ (home κ (i - 1)) 1 ++ (step (rconer inv (i / key_words κ)) (temp κ ∷ []) (rest κ) ∷ sum_steps E κ i (temp κ)))
    (cond (ltb 6 (key_words κ) && eqb (i % key_words κ) 4) (sub_steps E κ (home κ (i - 1)) 0 ++ sum_steps E κ i (temp κ)) (sum_steps E κ i (home κ (i - 1))))

abbrev pub leave_steps : {inv : List ℕ} → Inverts inv → KeyKind → List (Step inv)
leave_steps {inv} E κ = map (λ j. step (leaver inv) ((16 * (rounds κ + 1) + j) ∷ []) (rest κ)) (range_with_len 0 16)

-- ---- what they do to the bytes k
abbrev pub word_of : (ℕ → ℕ) → ℕ → List ℕ
word_of k p = k p ∷ k (p + 1) ∷ k (p + 2) ∷ k (p + 3) ∷ []

abbrev pub sub_out : ℕ → ℕ
sub_out v = aff1 (coordinate_inverse v)

abbrev pub temp_out : ℕ → ℕ → List ℕ → List ℕ
temp_out nk i w =
    cond (eqb (i % nk) 0) (plus (i / nk) (sub_out (get_or w 1 0)) ∷ sub_out (get_or w 2 0) ∷ sub_out (get_or w 3 0) ∷ sub_out (get_or w 0 0) ∷ [])
    (cond (ltb 6 nk && eqb (i % nk) 4) (map sub_out w) w)

abbrev pub word_out : KeyKind → ℕ → (ℕ → ℕ) → List ℕ
word_out κ i k = zip2 add2 (word_of k (home κ (i - key_words κ))) (temp_out (key_words κ) i (word_of k (home κ (i - 1))))

abbrev pub within : ℕ → ℕ → ℕ → Bool
within a b j = leb a j && ltb j b

abbrev pub start_upd : KeyKind → (ℕ → ℕ) → ℕ → ℕ
start_upd κ k j =
    cond (within (free κ) (free κ + 16) j) (to_coordinates (k (j - free κ + 16)))
    (cond (within 32 (16 + key_bytes κ) j) (to_coordinates (k (j - 32 + 16 * (rounds κ + 2)))) (k j))

abbrev pub word_upd : KeyKind → ℕ → (ℕ → ℕ) → ℕ → ℕ
word_upd κ i k j = cond (within (16 + 4 * i) (20 + 4 * i) j) (get_or (word_out κ i k) (j - (16 + 4 * i)) 0) (k j)

abbrev pub leave_upd : KeyKind → (ℕ → ℕ) → ℕ → ℕ
leave_upd κ k j = cond (within (16 * (rounds κ + 1)) (16 * (rounds κ + 2)) j) (from_coordinates (k j)) (k j)

-- ---- each by one computation

abbrev filed : KeyKind → (ℕ → ℕ) → (ℕ → ℕ) → File
filed κ s k = map {B = Option ℕ} (λ v. some v) (map s (range_with_len 0 16)) ++ map (λ j. some (k j)) (range_with_len 16 (free κ))

-- the plan leaves the state, and takes the bytes k up to the end of the buffer to upd k
abbrev pub KeysOk : (inv : List ℕ) → KeyKind → List Play → List (Step inv) → ((ℕ → ℕ) → ℕ → ℕ) → Type 0
KeysOk inv κ plan steps upd = StageOk inv (free κ) plan steps (λ s k. map s (range_with_len 0 16)) upd

module _ {inv : List ℕ} (E : Inverts inv) where
  pub start_ok : (κ : KeyKind) → KeysOk inv κ (start_plan κ) (start_steps E κ) (start_upd κ)
  start_ok aes128 = record { good = tt; plays = refl; file = λ s k. refl; sized = λ s k. refl }

  pub leave_ok : (κ : KeyKind) → KeysOk inv κ (leave_plan κ) (leave_steps E κ) (leave_upd κ)
  leave_ok aes128 = record { good = tt; plays = refl; file = λ s k. refl; sized = λ s k. refl }

  -- all words at once
  abbrev All : {A : Type 0} → KeyKind → (ℕ → A) → List A
  All κ f = map f (range_with_len (key_words κ) (added κ))

  abbrev after : (κ : KeyKind) → ℕ → (ℕ → ℕ) → (ℕ → ℕ) → File
  after κ i s k = take (16 + free κ) (file_after (word_steps E κ i) (file_of (free κ) s k))

  all_good : (κ : KeyKind) → All κ (λ i. lawful_all (word_steps E κ i)) ≡ All κ (λ i. true)
  all_good aes128 = refl

  all_plays : (κ : KeyKind) → All κ (λ i. map play_of (word_steps E κ i)) ≡ All κ (word_plan κ)
  all_plays aes128 = refl

  all_files : (κ : KeyKind) (s k : ℕ → ℕ) → All κ (λ i. after κ i s k) ≡ All κ (λ i. filed κ s (word_upd κ i k))
  all_files aes128 s k = refl

  pub word_ok : (κ : KeyKind) (i : ℕ) → key_words κ ≤ i → i < key_words κ + added κ → KeysOk inv κ (word_plan κ i) (word_steps E κ i) (word_upd κ i)
  word_ok κ i lo hi = record {
    good = subst T (sym (at_all (λ i. lawful_all (word_steps E κ i)) (λ i. true) (key_words κ) (added κ) i lo hi (all_good κ))) tt;
    plays = at_all (λ i. map play_of (word_steps E κ i)) (word_plan κ) (key_words κ) (added κ) i lo hi (all_plays κ);
    file = λ s k. at_all (λ i. after κ i s k) (λ i. filed κ s (word_upd κ i k)) (key_words κ) (added κ) i lo hi (all_files κ s k);
    sized = λ s k. refl;
  }
