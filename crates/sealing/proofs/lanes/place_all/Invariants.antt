use Rattle.std.proofs.Common.{◌≡◌, [], get_or}
use Rattle.unit.specs.Held.{view}
use Rattle.sealing.specs.Steps.{filled}
use Rattle.sealing.proofs.lanes.place_all.Given as goal

abbrev pub invariant-loop-lane : goal.invariant-loop-lane
invariant-loop-lane g l = view g.B.Bench l.unit ≡ filled (view g.B.Bench l.initial.unit) l.key (λ i. get_or l.blocks i []) l.lane
