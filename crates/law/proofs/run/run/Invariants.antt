use Rattle.unit.specs.Held.{view}
use Rattle.law.proofs.Loop.{Sofar}
use Rattle.law.proofs.run.run.Given as goal

abbrev pub invariant-loop-entry : goal.invariant-loop-entry
invariant-loop-entry g l = Sofar (view g.B.Bench l.initial.unit) (view g.B.Bench l.unit) l.entry-index l.initial.log l.log
