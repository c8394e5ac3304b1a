use Rattle.std.proofs.Common.{◌≡◌}
use Rattle.bench.specs.Benches.{meaning}
use Rattle.lane.specs.Spans.{laid, laid_in}
use Rattle.lane.proofs.lay.Given as goal

abbrev pub invariant-loop-i : goal.invariant-loop-i
invariant-loop-i g l =
    (meaning g.B.Bench l.bench ≡ laid l.base l.i l.lane (g.S.Bits.bits l.source) (meaning g.B.Bench l.initial.bench))
    × (g.B.Bench.beneath l.bench ≡ laid_in l.base l.i l.lane (g.S.Bits.bits l.source) (g.B.Bench.beneath l.initial.bench))
