use Rattle.std.proofs.Common.{◌≡◌}
use Rattle.playing.specs.Setups.{opening_in}
use Rattle.playing.proofs.benchlines.find_bench.Given as goal

abbrev pub invariant-loop-line : goal.invariant-loop-line
invariant-loop-line l = opening_in l.lines.next l.lines.lines ≡ opening_in l.initial.lines.next l.initial.lines.lines
