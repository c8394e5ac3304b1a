-- The stages of an opening, each by one computation on open bytes. Assumes nothing.
use Rattle.plans.specs.declared.plays.Play.TheVariants.{Unaffine, Unmix}
use Rattle.std.proofs.Common.{◌≡◌, ℕ, ◌+◌, ◌-◌, ◌*◌, ◌%◌, ◌≤◌, true, cond, T, eqb, List, [], ◌∷◌, ◌++◌, map, length, get_or, take, sym, refl, ◌∙◌, subst, arith}
use mathlib.Core.Option.{Option, some, none}
use lib.Lanes.{Each1}
use Rattle.std.specs.List.{range_with_len}
use Rattle.std.proofs.lemmas.Simd.{Each1-get_or}
use Rattle.std.proofs.lemmas.List.FromFn.{get_or-range_with_len, length-range_with_len}
use Rattle.player.specs.Pages.{gates_of, sockets_in}
use Rattle.standard.specs.Cipher.{InvShiftRows}
use Rattle.coordinates.specs.Coordinates.{to_coordinates, from_coordinates}
use Rattle.standard.specs.Field.{inv_affine}
use Rattle.plans.specs.Pages.{unaffine_page, unmix_page}
use Rattle.plans.specs.Plans.{open_stage}
use Rattle.circuit.proofs.BitLaws.{table}
use Rattle.circuit.proofs.Run.{run}
use Rattle.circuit.specs.Places.{fits_all}
use Rattle.circuit.proofs.Files.{Effect, File}
use Rattle.standard.proofs.Tests.{tests, small_below}
use Rattle.circuit.proofs.Unary.{wide, unary}
use Rattle.circuit.proofs.Linear.{sum_of}
use Rattle.circuit.proofs.LinearPage.{linear}
use Rattle.standard.specs.Kinds.{KeyKind, aes128, rounds}
use Rattle.plans.specs.Layout.{free}
use Rattle.circuit.specs.Claims.{Inverts}
use Rattle.circuit.proofs.Inverter.{coordinate_inverse, inverter}
use Rattle.circuit.proofs.FileViews.{file_of}
use Rattle.circuit.proofs.Staged.{StageOk, at_all}
use Rattle.circuit.proofs.SealStages.{add_steps}
use Rattle.circuit.proofs.Unmix.{times, unmix_rows, unmix_page_lem}
use Rattle.circuit.proofs.Ends.{enterer}
use Rattle.circuit.proofs.PlanLaws.{Proved, Step, step, play_of, lawful_all, file_after}
use Rattle.circuit.proofs.Round.{adder, key_bytes_at, coordinate_add}
use Rattle.circuit.proofs.KeyPages.{in_place, leaver, summer}

unfoldable pub unaff : ℕ → ℕ
unfolding to_coordinates inv_affine from_coordinates
unaff v = to_coordinates (inv_affine (from_coordinates v))

pub unaffine_sockets : sockets_in unaffine_page ≡ 1
unfolding unaffine_page
unaffine_sockets = refl

pub unaffine_effect : Effect (gates_of unaffine_page) (1 + 1) (λ fs. unary (unaff ∷ []) (get_or fs 0 none))
unfolding unaffine_page gates_of tests fits_all run wide table unaff
unaffine_effect = in_place unaffine_page 1 unaff (small_below unaff 256 256 tt) tt refl

abbrev pub unaffiner : (inv : List ℕ) → Proved inv
unaffiner inv = record { page = unaffine_page; q = 1; c = 1; eff = λ fs. unary (unaff ∷ []) (get_or fs 0 none); sockets = unaffine_sockets; effect = unaffine_effect; make = Unaffine; is_page = λ bs. refl; is_bases = λ bs. refl }

pub unmix_sockets : sockets_in unmix_page ≡ 8
unfolding unmix_page
unmix_sockets = refl

abbrev pub unmixer : (inv : List ℕ) → Proved inv
unmixer inv = record { page = unmix_page; q = 8; c = 21; eff = linear unmix_rows 4; sockets = unmix_sockets; effect = unmix_page_lem; make = Unmix; is_page = λ bs. refl; is_bases = λ bs. refl }

abbrev pub first_open : {inv : List ℕ} → Inverts inv → KeyKind → List (Step inv)
first_open {inv} E κ = add_steps E κ (rounds κ) ++ map (λ j. step (enterer inv) (j ∷ []) (free κ + 16)) (range_with_len 0 16)

abbrev pub unsub_steps : {inv : List ℕ} → Inverts inv → KeyKind → List (Step inv)
unsub_steps {inv} E κ =
    map (λ j. step (unaffiner inv) (j ∷ []) (free κ + 16)) (range_with_len 0 16)
    ++ map (λ j. step (inverter inv E) (((13 * j) % 16) ∷ (free κ + j) ∷ []) (free κ + 16)) (range_with_len 0 16)

abbrev pub mid_open : {inv : List ℕ} → Inverts inv → KeyKind → ℕ → List (Step inv)
mid_open {inv} E κ n =
    unsub_steps E κ
    ++ (map (λ j. step (adder inv) ((free κ + j) ∷ (16 * (rounds κ - n + 1) + j) ∷ []) (free κ + 16)) (range_with_len 0 16)
    ++ map (λ c. step (unmixer inv) ((free κ + 4 * c) ∷ (free κ + (1 + 4 * c)) ∷ (free κ + (2 + 4 * c)) ∷ (free κ + (3 + 4 * c)) ∷ (4 * c) ∷ (1 + 4 * c) ∷ (2 + 4 * c) ∷ (3 + 4 * c) ∷ []) (free κ + 16)) (range_with_len 0 4))

abbrev pub last_open : {inv : List ℕ} → Inverts inv → KeyKind → List (Step inv)
last_open {inv} E κ =
    unsub_steps E κ
    ++ (map (λ j. step (leaver inv) ((free κ + j) ∷ []) (free κ + 16)) (range_with_len 0 16)
    ++ map (λ j. step (summer inv) ((free κ + j) ∷ (16 + j) ∷ j ∷ []) (free κ + 16)) (range_with_len 0 16))

abbrev pub open_steps : {inv : List ℕ} → Inverts inv → KeyKind → ℕ → List (Step inv)
open_steps {inv} E κ n = cond (eqb n 0) (first_open E κ) (cond (eqb n (rounds κ)) (last_open E κ) (mid_open E κ n))

abbrev pub coordinate_unmix : List ℕ → List ℕ
coordinate_unmix [] = []
coordinate_unmix (a ∷ []) = []
coordinate_unmix (a ∷ b ∷ []) = []
coordinate_unmix (a ∷ b ∷ c ∷ []) = []
coordinate_unmix (a ∷ b ∷ c ∷ d ∷ rest) =
    let vs = a ∷ b ∷ c ∷ d ∷ [] in
    sum_of (times 14 ∷ times 11 ∷ times 13 ∷ times 9 ∷ []) vs ∷ sum_of (times 9 ∷ times 14 ∷ times 11 ∷ times 13 ∷ []) vs
    ∷ sum_of (times 13 ∷ times 9 ∷ times 14 ∷ times 11 ∷ []) vs ∷ sum_of (times 11 ∷ times 13 ∷ times 9 ∷ times 14 ∷ []) vs ∷ coordinate_unmix rest

-- what a stage does to the sixteen bytes shown
abbrev pub unsub : List ℕ → List ℕ
unsub st = InvShiftRows (map coordinate_inverse (map unaff st))

abbrev pub open_out : ℕ → ℕ → List ℕ → List ℕ → List ℕ
open_out nr n st k = cond (eqb n 0) (map to_coordinates (coordinate_add st k)) (cond (eqb n nr) (coordinate_add (map from_coordinates (unsub st)) k) (coordinate_unmix (coordinate_add (unsub st) k)))

module _ {inv : List ℕ} (E : Inverts inv) where
  abbrev All : {A : Type 0} → KeyKind → (ℕ → A) → List A
  All κ f = map f (range_with_len 0 (rounds κ + 1))

  all_good : (κ : KeyKind) → All κ (λ n. lawful_all (open_steps E κ n)) ≡ All κ (λ n. true)
  all_good aes128 = refl

  all_plays : (κ : KeyKind) → All κ (λ n. map play_of (open_steps E κ n)) ≡ All κ (open_stage κ)
  all_plays aes128 = refl

  abbrev after : KeyKind → (ℕ → ℕ) → (ℕ → ℕ) → ℕ → File
  after κ s k n = take (16 + (free κ - 16)) (file_after (open_steps E κ n) (file_of (free κ - 16) s k))

  abbrev want : KeyKind → (ℕ → ℕ) → (ℕ → ℕ) → ℕ → File
  want κ s k n = map {B = Option ℕ} (λ v. some v) (open_out (rounds κ) n (map s (range_with_len 0 16)) (key_bytes_at k (rounds κ - n))) ++ map (λ j. some (k j)) (range_with_len 16 (free κ - 16))

  abbrev FileAt : KeyKind → ℕ → Type 0
  FileAt κ n = (s k : ℕ → ℕ) → after κ s k n ≡ want κ s k n

  all_files : (κ : KeyKind) → Each1 (FileAt κ) (range_with_len 0 (rounds κ + 1))
  all_files aes128 = (
    (λ s k. refl),
    (
      (λ s k. refl),
      (
        (λ s k. refl),
        (
          (λ s k. refl),
          (
            (λ s k. refl),
            (
              (λ s k. refl),
              (
                (λ s k. refl),
                (
                  (λ s k. refl),
                  (
                    (λ s k. refl),
                    (
                      (λ s k. refl),
                      (
                        (λ s k. refl),
                        tt,
                      ),
                    ),
                  ),
                ),
              ),
            ),
          ),
        ),
      ),
    ),
  )

  file_at : (κ : KeyKind) (n : ℕ) → n ≤ rounds κ → FileAt κ n
  file_at κ n h = subst (FileAt κ) (get_or-range_with_len 0 (rounds κ + 1) n 0 (omega arith) ∙ zeros n)
      (Each1-get_or (FileAt κ) (range_with_len 0 (rounds κ + 1)) n 0 (omega (arith, length-range_with_len 0 (rounds κ + 1))) (all_files κ))
    where
      zeros : (n : ℕ) → 0 + n ≡ n
      zeros n = omega arith

  all_sized : (κ : KeyKind) (s k : ℕ → ℕ) → All κ (λ n. length (open_out (rounds κ) n (map s (range_with_len 0 16)) (key_bytes_at k (rounds κ - n)))) ≡ All κ (λ n. 16)
  all_sized aes128 s k = refl

  pub open_ok : (κ : KeyKind) (n : ℕ) → n ≤ rounds κ → StageOk inv (free κ - 16) (open_stage κ n) (open_steps E κ n) (λ s k. open_out (rounds κ) n (map s (range_with_len 0 16)) (key_bytes_at k (rounds κ - n))) (λ k. k)
  open_ok κ n h = record {
    good = subst T (sym (at_all (λ n. lawful_all (open_steps E κ n)) (λ n. true) 0 (rounds κ + 1) n (omega arith) (omega arith) (all_good κ))) tt;
    plays = at_all (λ n. map play_of (open_steps E κ n)) (open_stage κ) 0 (rounds κ + 1) n (omega arith) (omega arith) (all_plays κ);
    file = file_at κ n h;
    sized = λ s k. at_all (λ n. length (open_out (rounds κ) n (map s (range_with_len 0 16)) (key_bytes_at k (rounds κ - n)))) (λ n. 16) 0 (rounds κ + 1) n (omega arith) (omega arith) (all_sized κ s k);
  }
