use Rattle.std.proofs.Common.{◌≡◌, ℕ, ◌<◌, false}
use Rattle.player.specs.Plays.{overruns}
use Rattle.player.proofs.plays.Bases.fitting.Given as goal

abbrev pub invariant-loop-i : goal.invariant-loop-i
invariant-loop-i l = (k : ℕ) → k < l.i → overruns l.registers l.page.sockets l.page.scratch l.bases k ≡ false
