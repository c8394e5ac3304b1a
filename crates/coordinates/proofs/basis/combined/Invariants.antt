use Rattle.std.proofs.Common.{◌≡◌, drop}
use lib.Bits.{bit_xor}
use Rattle.coordinates.specs.Coordinates.{combine}
use Rattle.coordinates.proofs.basis.combined.Given as goal

-- what is summed up already, and what the bytes that are left add
abbrev pub invariant-loop-i : goal.invariant-loop-i
invariant-loop-i l = bit_xor l.sum (combine (drop l.i l.bytes) l.i l.v) ≡ combine l.bytes 0 l.v
