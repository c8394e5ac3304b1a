-- The whole meaning of a bench, and what its calls answer and leave. Assumes nothing.
--
--   spot_answer, step_answer   the answer for a register and a lane, and for a gate, by the numbers of them
--   gates_answer               whether so many gates are left
--   written, gated             the meaning after one bit is written, and after one gate
use Rattle.std.specs.Prelude.{◌≡◌, ℕ, ◌+◌, ◌-◌, ◌≤◌, min, Bool, false, cond, ◌&&◌, List, Ok, Err, Result, ◌==◌, nat_lt}
use Rattle.bench.specs.declared.faults.Question.TheVariants.{Register, Lane, Gates}
use Rattle.bench.specs.declared.faults.Part.{Part}
use Rattle.bench.specs.declared.faults.Part.TheVariants.{Bench}
use Rattle.bench.specs.declared.faults.Fault.{Fault}
use Rattle.bench.specs.declared.kinds.Kind.{Kind}
use Rattle.bench.specs.Faults.{fault}
use Rattle.bench.specs.Kinds.{gate_result}

-- what a bench tells beside its size and its gates left
pub record Shown : Type 0 where
  pub bit : ℕ → ℕ → Bool

pub record Model : Type 0 where
  pub registers : ℕ
  pub lanes : ℕ
  pub left : ℕ
  pub bit : ℕ → ℕ → Bool

-- the bottom benches beneath a bench: for each, where its memory lies, by the name of the reference to it, what of that memory no register shows, and its meaning
pub data Memory : Type 0 where
  part : ℕ → List ℕ → Model → Memory
  both : Memory → Memory → Memory

-- the meaning that a bench's four members tell
abbrev pub told : {S : Type 0} → (S → ℕ) → (S → ℕ) → (S → ℕ) → (S → Shown) → S → Model
told registers lanes left shows s = record { registers = registers s; lanes = lanes s; left = left s; bit = (shows s).bit }

-- what holds of every bench's meaning: its bounds, and that nothing is shown beside its registers and lanes
pub record Lawful (m : Model) : Type 0 where
  pub few : m.registers ≤ 65535
  pub thin : m.lanes ≤ 65535
  pub allotted : m.left ≤ 1000000000
  pub blank : (r l : ℕ) → (nat_lt r m.registers && nat_lt l m.lanes) ≡ false → m.bit r l ≡ false

-- the fault of the register r, of which there are n, if it is none of them, and else the answer that follows
abbrev pub within : {X : Type 0} → ℕ → ℕ → Result X Fault → Result X Fault
within n r next = cond (nat_lt r n) next (Err (fault Register Bench r))

-- the same of the lane l
abbrev pub in_lane : {X : Type 0} → ℕ → ℕ → Result X Fault → Result X Fault
in_lane n l next = cond (nat_lt l n) next (Err (fault Lane Bench l))

-- the answer where `who` needs `needed` gates and `left` are left
abbrev pub gates_answer : Part → ℕ → ℕ → Result (Unit {0}) Fault
gates_answer who needed left = cond (nat_lt left needed) (Err (fault Gates who (needed - left))) (Ok tt)

-- a register and a lane, of so many
abbrev pub spot_answer : ℕ → ℕ → ℕ → ℕ → Result (Unit {0}) Fault
spot_answer registers lanes r l = within registers r (in_lane lanes l (Ok tt))

-- the registers of a gate, of so many, and then whether a gate is left
abbrev pub step_answer : ℕ → ℕ → ℕ → ℕ → ℕ → Result (Unit {0}) Fault
step_answer registers left t a b = within registers t (within registers a (within registers b (cond (nat_lt 0 left) (Ok tt) (Err (fault Gates Bench 1)))))

abbrev pub show_answer : Model → ℕ → ℕ → Result Bool Fault
show_answer m r l = within m.registers r (in_lane m.lanes l (Ok (m.bit r l)))

abbrev pub set_answer : Model → ℕ → ℕ → Result (Unit {0}) Fault
set_answer m r l = spot_answer m.registers m.lanes r l

abbrev pub gate_answer : Model → ℕ → ℕ → ℕ → Result (Unit {0}) Fault
gate_answer m t a b = step_answer m.registers m.left t a b

-- one bit altered
unfoldable pub written : ℕ → ℕ → Bool → Model → Model
written r l v m = record {
  registers = m.registers;
  lanes = m.lanes;
  left = m.left;
  bit = λ r' l'. cond (r' == r && l' == l) v (m.bit r' l');
}

-- one gate done in every lane
unfoldable pub gated : Kind → ℕ → ℕ → ℕ → Model → Model
gated k t a b m = record {
  registers = m.registers;
  lanes = m.lanes;
  left = m.left - 1;
  bit = λ r l. cond (r == t && nat_lt l m.lanes) (gate_result k (m.bit a l) (m.bit b l)) (m.bit r l);
}

-- a refusal alters nothing
abbrev pub after : {X Y : Type 0} → Result X Fault → Y → Y → Y
after (Ok x) done before = done
after (Err e) done before = before

-- the lanes beneath
abbrev pub lanes_in : Memory → ℕ
lanes_in (part at others m) = m.lanes
lanes_in (both x y) = min (lanes_in x + lanes_in y) 65535

-- a gate is done on each bottom bench
abbrev pub gated_in : Kind → ℕ → ℕ → ℕ → Memory → Memory
gated_in k t a b (part at others m) = part at others (gated k t a b m)
gated_in k t a b (both x y) = both (gated_in k t a b x) (gated_in k t a b y)

-- a bit is altered on the bottom bench that has the lane
abbrev pub written_in : ℕ → ℕ → Bool → Memory → Memory
written_in r l v (part at others m) = part at others (written r l v m)
written_in r l v (both x y) = cond (nat_lt l (lanes_in x)) (both (written_in r l v x) y) (both x (written_in r (l - lanes_in x) v y))
