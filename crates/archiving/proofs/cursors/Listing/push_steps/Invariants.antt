use Rattle.std.proofs.Common.{vec_items}
use Rattle.archiving.specs.Parts.{Listed}
use Rattle.archiving.proofs.cursors.Listing.push_steps.Given as goal

abbrev pub invariant-loop-step : goal.invariant-loop-step
invariant-loop-step l = Listed l.initial.self l.self (vec_items l.initial.out) (vec_items l.out)
