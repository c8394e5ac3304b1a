use Rattle.std.proofs.Common.{◌≡◌, ◌-◌, ◌≤◌}
use Rattle.standard.specs.Cipher.{inv_state_after}
use Rattle.standard.specs.Kinds.{key_in}
use Rattle.standard.proofs.cipher.inv_cipher.Given as goal

abbrev pub invariant-loop-n : goal.invariant-loop-n
invariant-loop-n l = (1 ≤ l.n) × (l.state ≡ inv_state_after 10 (10 - l.n) l.block (key_in l.keys))
