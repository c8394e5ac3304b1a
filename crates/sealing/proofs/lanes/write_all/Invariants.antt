use Rattle.std.proofs.Common.{◌≡◌, ◌*◌, ◌++◌, drop}
use Rattle.unit.specs.Held.{view}
use Rattle.unit.specs.Lanes.{state_of}
use Rattle.sealing.specs.Sealed.{lines_to}
use Rattle.sealing.proofs.lanes.write_all.Given as goal

abbrev pub invariant-loop-lane : goal.invariant-loop-lane
invariant-loop-lane g l = l.out ≡ lines_to (state_of (view g.B.Bench l.unit).model) l.lane ++ drop (33 * l.lane) l.initial.out
