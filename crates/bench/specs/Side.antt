-- Two benches side by side: the first one's lanes come first. Assumes nothing.
use Rattle.std.specs.Prelude.{ℕ, ◌+◌, ◌-◌, min, Bool, false, cond, ◌&&◌, nat_lt}
use Rattle.std.proofs.Common.{arith}
use Rattle.bench.specs.Model.{Model, Lawful}

abbrev pub side_lanes : ℕ → ℕ → ℕ
side_lanes x y = min (x + y) 65535

abbrev pub side_bit : Model → Model → ℕ → ℕ → Bool
side_bit m n r l = cond (nat_lt r (min m.registers n.registers) && nat_lt l (side_lanes m.lanes n.lanes)) (cond (nat_lt l m.lanes) (m.bit r l) (n.bit r (l - m.lanes))) false

abbrev pub side_model : Model → Model → Model
side_model m n = record {
  registers = min m.registers n.registers;
  lanes = side_lanes m.lanes n.lanes;
  left = min m.left n.left;
  bit = side_bit m n;
}

pub side_lawful : (m n : Model) → Lawful m → Lawful n → Lawful (side_model m n)
side_lawful m n p q = record {
  few = omega arith;
  thin = omega arith;
  allotted = omega arith;
  blank = λ r l e. rw e;
}
