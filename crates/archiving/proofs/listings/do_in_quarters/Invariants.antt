use Rattle.std.proofs.Common.{vec_items}
use Rattle.archiving.proofs.Quarters.{Done}
use Rattle.archiving.proofs.listings.do_in_quarters.Given as goal

abbrev pub invariant-loop-k : goal.invariant-loop-k
invariant-loop-k l = Done vec_items l.gate l.k l.initial.quarters l.quarters l.column
