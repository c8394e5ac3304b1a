use Rattle.std.proofs.Common.{◌≡◌, ◌-◌}
use lib.Bits.{bit_xor}
use Rattle.standard.specs.Field.{mul, mul_by}
use Rattle.standard.proofs.field.mul.Given as goal

-- what is in the product already, and what the bits that are left add
abbrev pub invariant-loop-i : goal.invariant-loop-i
invariant-loop-i l = bit_xor l.product (mul_by (8 - l._i) l.power l.rest) ≡ mul l.a l.b
