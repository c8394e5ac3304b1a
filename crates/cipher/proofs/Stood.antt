-- The claims, from what the plans do to a lane. Assumes nothing.
use Rattle.std.proofs.Common.{◌≡◌, ℕ, ◌<◌, List, Ok, Err, Result, ap, ◌∙◌}
use Rattle.standard.specs.Kinds.{KeyKind}
use Rattle.bench.specs.declared.faults.Fault.{Fault}
use Rattle.bench.specs.Model.{Model, after}
use Rattle.plans.specs.declared.plays.Play.{Play}
use Rattle.plans.specs.Plays.{planned}
use Rattle.plans.specs.declared.tables.Plan.{Plan}
use Rattle.plans.specs.declared.tables.Plan.TheVariants.{Schedule, Seal, Open}
use Rattle.plans.specs.Plans.{schedule_plan, stages_to, seal_plan, open_plan, plays_of}
use Rattle.circuit.specs.Lanes.{Lane, lane_of, run_plan}
use Rattle.circuit.specs.Claims.{Inverts, state_of, keys_of}
use Rattle.circuit.proofs.Lanes.{planned_lane}
use Rattle.circuit.proofs.SealStands.{seal_stands_lem}
use Rattle.circuit.proofs.KeyStands.{schedule_stands_lem}
use Rattle.circuit.proofs.OpenStands.{open_stands_lem}
use Rattle.cipher.specs.Claims.{Given, Schedules, StagesStand, Seals, Opens, Does}

module _ (inv : List ℕ) (E : Inverts inv) (κ : KeyKind) where
  lane_after : (plan : List Play) (m m' : Model) → m' ≡ planned inv plan m → (l : ℕ) → l < m.lanes → lane_of m' l ≡ run_plan inv plan (lane_of m l)
  lane_after plan m m' e l h = ap (λ (x : Model). lane_of x l) e ∙ planned_lane inv plan m l h

  pub schedules : (m m' : Model) → m' ≡ planned inv (schedule_plan κ) m → Schedules κ m m'
  schedules m m' e l h =
      let same = lane_after (schedule_plan κ) m m' e l h in
      let stood = schedule_stands_lem inv E κ (lane_of m l) in (
        (λ n hn. ap (λ (σ : Lane). keys_of κ σ n) same ∙ stood.0 n hn),
        (λ r hr. (λ k. same k r) ∙ stood.1 r hr),
        (λ r lo hi. (λ k. same k r) ∙ stood.2 r lo hi),
      )

  pub stages_stand : (m : Model) → StagesStand inv κ m
  stages_stand m l n h hn = ap state_of (planned_lane inv (stages_to κ n) m l h) ∙ (seal_stands_lem inv E κ (lane_of m l)).0 n hn

  pub seals : (m m' : Model) → m' ≡ planned inv (seal_plan κ) m → Seals κ m m'
  seals m m' e l h =
      let same = lane_after (seal_plan κ) m m' e l h in
      let stood = seal_stands_lem inv E κ (lane_of m l) in
      (ap state_of same ∙ stood.1, λ r lo hi. (λ k. same k r) ∙ stood.2 r lo hi)

  pub opens : (m m' : Model) → m' ≡ planned inv (open_plan κ) m → Opens κ m m'
  opens m m' e l h =
      let same = lane_after (open_plan κ) m m' e l h in
      let stood = open_stands_lem inv E κ (lane_of m l) in
      (ap state_of same ∙ stood.0, λ r lo hi. (λ k. same k r) ∙ stood.1 r lo hi)

  pub does : (p : Plan) (m m' : Model) → m' ≡ planned inv (plays_of p κ) m → Does κ p m m'
  does Schedule = schedules
  does Seal = seals
  does Open = opens

-- an accepted call leaves what its plan does
pub given_from : (P : Model → Model → Type 0) (r : Result (Unit {0}) Fault) (m m' done : Model) → m' ≡ after r done m → (m' ≡ done → P m m') → Given P r m m'
given_from P (Ok x) m m' done e f = f e
given_from P (Err x) m m' done e f = tt
