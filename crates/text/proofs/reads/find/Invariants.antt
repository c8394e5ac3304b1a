use Rattle.std.proofs.Common.{◌≡◌, ◌+◌, drop}
use Rattle.text.specs.Text.{before}
use Rattle.text.proofs.reads.find.Given as goal

abbrev pub invariant-loop-i : goal.invariant-loop-i
invariant-loop-i l = before l.stop l.bytes ≡ l.i + before l.stop (drop l.i l.bytes)
