use Rattle.std.proofs.Common.{◌≡◌, ℕ, ◌<◌, length, get_or}
use Rattle.standard.specs.Kinds.{byte_at}
use Rattle.standard.proofs.WordBytes.{byte_of}
use Rattle.standard.proofs.expansion.key_expansion.Given as goal

abbrev pub invariant-loop-p : goal.invariant-loop-p
invariant-loop-p l = (length l.words ≡ 176) × ((k : ℕ) → k < l.p → get_or l.words k 0 ≡ byte_of (byte_at l.key) k)
