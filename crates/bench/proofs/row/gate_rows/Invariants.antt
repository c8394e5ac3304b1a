use Rattle.std.proofs.Common.{◌≡◌}
use Rattle.bench.specs.Row.{rows_done}
use Rattle.bench.proofs.row.gate_rows.Given as goal

abbrev pub invariant-loop-lane : goal.invariant-loop-lane
invariant-loop-lane l = l.bytes ≡ rows_done l.gate.kind l.gate.target l.gate.first l.gate.second l.row l.lane l.initial.bytes
