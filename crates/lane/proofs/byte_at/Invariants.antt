use Rattle.std.proofs.Common.{◌≡◌, ◌+◌}
use Rattle.lane.proofs.Bytes.{upper}
use Rattle.lane.proofs.byte_at.Given as goal

abbrev pub invariant-loop-i : goal.invariant-loop-i
invariant-loop-i g l = l.byte ≡ upper (λ i. (g.B.Bench.shows l.bench).bit (l.base + i) l.lane) l.i
