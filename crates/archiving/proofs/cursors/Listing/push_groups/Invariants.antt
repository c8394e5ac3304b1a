use Rattle.std.proofs.Common.{vec_items}
use Rattle.archiving.specs.Parts.{Listed}
use Rattle.archiving.proofs.cursors.Listing.push_groups.Given as goal

abbrev pub invariant-loop-n : goal.invariant-loop-n
invariant-loop-n l = Listed l.initial.self l.self (vec_items l.initial.out) (vec_items l.out)
