-- The three plans of a unit, and what each makes of a bench. Assumes nothing.
--
--   K, S, O                       the gates of the scheduling's, the sealing's and the opening's plan
--   worked plan                   every register after the plan's gates, done one after another; worked_in, the same beneath
use Rattle.std.specs.Prelude.{ℕ, List}
use Rattle.standard.specs.Kinds.{KeyKind, aes128}
use Rattle.bench.specs.Model.{Model, Memory}
use Rattle.plans.specs.declared.plays.Play.{Play}
use Rattle.plans.specs.Pages.{own_inverter}
use Rattle.plans.specs.Plays.{planned, planned_in, plan_gates}
use Rattle.plans.specs.Plans.{schedule_plan, seal_plan, open_plan}

-- the key kind that a unit is made for
abbrev pub kind : KeyKind
kind = aes128

abbrev pub gates_of_plan : List Play → ℕ
gates_of_plan plan = plan_gates own_inverter plan

abbrev pub worked : List Play → Model → Model
worked plan m = planned own_inverter plan m

abbrev pub worked_in : List Play → Memory → Memory
worked_in plan x = planned_in own_inverter plan x

abbrev pub K : ℕ
K = gates_of_plan (schedule_plan kind)

abbrev pub S : ℕ
S = gates_of_plan (seal_plan kind)

abbrev pub O : ℕ
O = gates_of_plan (open_plan kind)
