use Rattle.std.proofs.Common.{◌≡◌, ◌-◌}
use Rattle.standard.specs.Cipher.{state_after}
use Rattle.standard.specs.Kinds.{key_in}
use Rattle.standard.proofs.cipher.cipher.Given as goal

abbrev pub invariant-loop-n : goal.invariant-loop-n
invariant-loop-n l = l.state ≡ state_after (l.n - 1) l.block (key_in l.keys)
