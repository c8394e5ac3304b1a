use Rattle.std.proofs.Common.{sym, ap, ◌∙◌}
use Rattle.standard.specs.Kinds.{aes128}
use Rattle.plans.specs.Pages.{own_inverter}
use Rattle.plans.specs.Plays.{plan_gates}
use Rattle.plans.specs.Plans.{plays_of}
use Rattle.plans.proofs.Counts.{seal_count, schedule_count, open_count}
use Rattle.plans.proofs.tables.Plan.gates.Goals as goal

pub returns-in-Schedule-clause-count : goal.returns-in-Schedule-clause-count
returns-in-Schedule-clause-count c = sym schedule_count ∙ ap (λ p. plan_gates own_inverter (plays_of p aes128)) (sym c.in-Schedule.is)

pub returns-in-Seal-clause-count : goal.returns-in-Seal-clause-count
returns-in-Seal-clause-count c = sym seal_count ∙ ap (λ p. plan_gates own_inverter (plays_of p aes128)) (sym c.in-Seal.is)

pub returns-in-Open-clause-count : goal.returns-in-Open-clause-count
returns-in-Open-clause-count c = sym open_count ∙ ap (λ p. plan_gates own_inverter (plays_of p aes128)) (sym c.in-Open.is)
