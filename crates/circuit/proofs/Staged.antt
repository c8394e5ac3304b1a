-- Stages one after another: what each does to the bytes of a lane is computed once, on open bytes. Assumes nothing.
use Rattle.std.proofs.Common.{◌≡◌, ℕ, zero, suc, ◌+◌, ◌-◌, ◌*◌, ◌/◌, ◌%◌, ◌<◌, ◌≤◌, T, List, [], ◌∷◌, ◌++◌, map, length, get_or, take, sym, refl, ap, ◌∙◌, subst, arith}
use mathlib.Core.Option.{Option, some}
use Rattle.std.specs.List.{range_with_len}
use Rattle.std.proofs.lemmas.List.FromFn.{get_or-map-range_with_len}
use Rattle.standard.specs.Kinds.{sixteen}
use Rattle.plans.specs.declared.plays.Play.{Play}
use Rattle.plans.specs.Layout.{at}
use Rattle.circuit.specs.Lanes.{Lane, play_lane, run_plan}
use Rattle.standard.specs.Bits.{byte_of}
use Rattle.circuit.specs.Claims.{state_of}
use Rattle.circuit.proofs.Files.{Shows, ShowsAll}
use Rattle.circuit.proofs.PlanLaws.{Step, play_of, lawful_all, file_after, plan_shows}
use Rattle.circuit.proofs.FileViews.{file_of, Shown, state_at, file_shows}
use Rattle.standard.proofs.ByteLaws.{byte_of_small, byte_of_bit, byte_of_is, map_below}

pub run_append : (inv : List ℕ) (xs ys : List Play) (σ : Lane) → run_plan inv (xs ++ ys) σ ≡ run_plan inv ys (run_plan inv xs σ)
unfolding run_plan
run_append inv [] ys σ = refl
run_append inv (x ∷ xs) ys σ = run_append inv xs ys (play_lane inv x σ)

-- what holds of each number of a list that is counted holds of each number in its range
pub at_all : {A : Type 0} (f g : ℕ → A) (a n i : ℕ) → a ≤ i → i < a + n → map f (range_with_len a n) ≡ map g (range_with_len a n) → f i ≡ g i
at_all f g a n i lo hi e =
    sym (get_or-map-range_with_len f a n (i - a) i (f i) (omega arith) (omega arith)) ∙ ap (λ xs. get_or xs (i - a) (f i)) e
    ∙ get_or-map-range_with_len g a n (i - a) i (f i) (omega arith) (omega arith)

-- the plan takes the state s to out s k, and the w bytes k behind it to upd k
pub record StageOk (inv : List ℕ) (w : ℕ) (plan : List Play) (steps : List (Step inv)) (out : (ℕ → ℕ) → (ℕ → ℕ) → List ℕ) (upd : (ℕ → ℕ) → ℕ → ℕ) : Type 0 where
  pub good : T (lawful_all steps)
  pub plays : map play_of steps ≡ plan
  pub file : (s k : ℕ → ℕ) → take (16 + w) (file_after steps (file_of w s k)) ≡ map {B = Option ℕ} (λ v. some v) (out s k) ++ map (λ j. some (upd k j)) (range_with_len 16 w)
  pub sized : (s k : ℕ → ℕ) → length (out s k) ≡ 16

pub stage : (inv : List ℕ) (w : ℕ) (plan : List Play) (steps : List (Step inv)) (out : (ℕ → ℕ) → (ℕ → ℕ) → List ℕ) (upd : (ℕ → ℕ) → ℕ → ℕ)
    → StageOk inv w plan steps out upd → (σ : Lane) (s k : ℕ → ℕ) → Shown w σ s k → Shown w (run_plan inv plan σ) (λ j. get_or (out s k) j 0) (upd k)
stage inv w plan steps out upd ok σ s k shown =
    let after = subst (λ p. ShowsAll (run_plan inv p σ) (file_after steps (file_of w s k))) ok.plays (plan_shows inv steps ok.good σ (file_of w s k) (file_shows w σ s k shown)) in
    state_at w (run_plan inv plan σ) (file_after steps (file_of w s k)) (out s k) (upd k) (ok.sized s k) after (ok.file s k)

-- byte j of a lane
abbrev pub raw : Lane → ℕ → ℕ
raw σ j = byte_of σ (8 * j)

pub raw_shown : (w : ℕ) (σ : Lane) → Shown w σ (raw σ) (raw σ)
raw_shown w σ = (
  (λ j hj. (byte_of_small σ (8 * j), λ i hi. sym (byte_of_bit σ (8 * j) i hi))),
  (λ j l hj. (byte_of_small σ (8 * j), λ i hi. sym (byte_of_bit σ (8 * j) i hi))),
)

pub state_read : (w : ℕ) (σ : Lane) (s k : ℕ → ℕ) → Shown w σ s k → state_of σ ≡ sixteen s
state_read w σ s k shown = map_below (λ j. byte_of σ (at j)) s 0 16 (λ j l h. byte_of_is σ (8 * j) (s j) (shown.0 j h).0 (shown.0 j h).1)

pub byte_read : (w : ℕ) (σ : Lane) (s k : ℕ → ℕ) → Shown w σ s k → (j : ℕ) → 16 ≤ j → j < 16 + w → byte_of σ (at j) ≡ k j
byte_read w σ s k shown j lo hi = byte_of_is σ (8 * j) (k j) (shown.1 j lo hi).0 (shown.1 j lo hi).1

-- a register of a byte that shows what another lane does
pub bit_kept : (σ τ : Lane) (r : ℕ) → Shows τ (r / 8) (some (raw σ (r / 8))) → τ r ≡ σ r
bit_kept σ τ r h =
    ap τ (split r) ∙ h.1 (r % 8) (omega arith) ∙ byte_of_bit σ (8 * (r / 8)) (r % 8) (omega arith) ∙ ap σ (sym (split r))
  where
    split : (r : ℕ) → r ≡ 8 * (r / 8) + r % 8
    split r = omega arith

-- stages 0 to N that leave the bytes behind the state as they were; stage n takes the state st to out n st k
module _ (inv : List ℕ) (w N : ℕ) (plan to : ℕ → List Play) (first : to 0 ≡ plan 0) (more : (n : ℕ) → to (suc n) ≡ to n ++ plan (suc n))
    (steps : ℕ → List (Step inv)) (out : ℕ → List ℕ → (ℕ → ℕ) → List ℕ)
    (ok : (n : ℕ) → n ≤ N → StageOk inv w (plan n) (steps n) (λ s k. out n (map s (range_with_len 0 16)) k) (λ k. k)) (σ : Lane) where
  -- the state after stage n
  unfoldable pub states : ℕ → List ℕ
  states zero = out 0 (state_of σ) (raw σ)
  states (suc n) = out (suc n) (sixteen (λ j. get_or (states n) j 0)) (raw σ)

  shown_after : (n : ℕ) → n ≤ N → Shown w (run_plan inv (to n) σ) (λ j. get_or (states n) j 0) (raw σ)
  unfolding states
  shown_after zero h =
      subst (λ p. Shown w (run_plan inv p σ) (λ j. get_or (states 0) j 0) (raw σ)) (sym first)
      (stage inv w (plan 0) (steps 0) (λ s k. out 0 (map s (range_with_len 0 16)) k) (λ k. k) (ok 0 h) σ (raw σ) (raw σ) (raw_shown w σ))
  shown_after (suc n) h =
      subst (λ τ. Shown w τ (λ j. get_or (states (suc n)) j 0) (raw σ)) (sym (ap (λ p. run_plan inv p σ) (more n) ∙ run_append inv (to n) (plan (suc n)) σ))
      (stage inv w (plan (suc n)) (steps (suc n)) (λ s k. out (suc n) (map s (range_with_len 0 16)) k) (λ k. k) (ok (suc n) h) (run_plan inv (to n) σ) (λ j. get_or (states n) j 0) (raw σ) (shown_after n (omega arith)))

  pub state_after_lem : (n : ℕ) → n ≤ N → state_of (run_plan inv (to n) σ) ≡ sixteen (λ j. get_or (states n) j 0)
  state_after_lem n h = state_read w (run_plan inv (to n) σ) (λ j. get_or (states n) j 0) (raw σ) (shown_after n h)

  pub kept_after : (n : ℕ) → n ≤ N → (r : ℕ) → 128 ≤ r → r < 8 * (16 + w) → run_plan inv (to n) σ r ≡ σ r
  kept_after n h r lo hi = bit_kept σ (run_plan inv (to n) σ) r ((shown_after n h).1 (r / 8) (omega arith) (omega arith))
