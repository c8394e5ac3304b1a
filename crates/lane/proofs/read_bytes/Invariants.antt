use Rattle.std.proofs.Common.{◌≡◌, ℕ, ◌+◌, ◌*◌, ◌<◌, get_or}
use Rattle.standard.specs.Bits.{byte_of}
use Rattle.lane.proofs.read_bytes.Given as goal

abbrev pub invariant-loop-j : goal.invariant-loop-j
invariant-loop-j g l = (k : ℕ) → k < l.j → get_or l.buffer k 0 ≡ byte_of (λ r. (g.B.Bench.shows l.bench).bit r l.lane) (l.base + 8 * k)
