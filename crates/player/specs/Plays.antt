-- Plays: the questions in their order, and the gates done one after another. Assumes nothing.
use Rattle.std.specs.Prelude.{ℕ, zero, suc, ◌+◌, ◌-◌, ◌*◌, ◌/◌, ◌%◌, ◌<◌, Bool, cond, List, map, length, Some, None, Err, Option, Result, ◌==◌, nat_lt, slice_index}
use Rattle.bench.specs.declared.faults.Question.TheVariants.{Whole, Bases}
use Rattle.bench.specs.declared.faults.Part.TheVariants.{Player, Reader}
use Rattle.bench.specs.declared.faults.Fault.{Fault}
use Rattle.bench.specs.Faults.{fault}
use Rattle.bench.specs.Model.{Model, Memory, gates_answer}
pub use Rattle.bench.specs.Gates.{ran, ran_in}
use Rattle.bench.specs.declared.gates.Gate.{Gate}
use Rattle.player.specs.Pages.{whole, gates_in, sockets_in, scratch_in, gates_of}

-- the register that a number of a page stands for
unfoldable pub register_of : ℕ → List ℕ → ℕ → ℕ
register_of q bases n = cond (nat_lt n (8 * q)) (slice_index bases (n / 8) + n % 8) (slice_index bases q + (n - 8 * q))

abbrev pub placed : ℕ → List ℕ → Gate → Gate
placed q bases g = record {
  kind = g.kind;
  target = register_of q bases g.target;
  first = register_of q bases g.first;
  second = register_of q bases g.second;
}

-- all three numbers of a gate are below n
abbrev pub Within : ℕ → Gate → Type 0
Within n g = (g.target < n) × ((g.first < n) × (g.second < n))

abbrev pub earlier : Option ℕ → Option ℕ → Option ℕ
earlier (Some i) o = Some i
earlier None o = o

-- the least number below n of which f holds
abbrev pub first_below : ℕ → (ℕ → Bool) → Option ℕ
first_below zero f = None
first_below (suc n) f = earlier (first_below n f) (cond (f n) (Some n) None)

-- whether base i, with the eight registers of a socket or the c of the scratch, passes the last register
abbrev pub overruns : ℕ → ℕ → ℕ → List ℕ → ℕ → Bool
overruns registers q c bases i = nat_lt registers (slice_index bases i + cond (nat_lt i q) 8 c)

-- the place of the fault of the bases, if any
unfoldable pub bases_at : ℕ → ℕ → ℕ → List ℕ → Option ℕ
bases_at registers q c bases = cond (length bases == q + 1) (first_below (q + 1) (overruns registers q c bases)) (Some 17)

abbrev pub ask_bases : Option ℕ → Result (Unit {0}) Fault → Result (Unit {0}) Fault
ask_bases (Some i) next = Err (fault Bases Player i)
ask_bases None next = next

abbrev pub ask_gates : ℕ → ℕ → Result (Unit {0}) Fault
ask_gates needed left = gates_answer Player needed left

abbrev pub play_answer : Model → List ℕ → List ℕ → Result (Unit {0}) Fault
play_answer m bytes bases =
    cond (whole bytes)
    (ask_bases (bases_at m.registers (sockets_in bytes) (scratch_in bytes) bases) (ask_gates (gates_in bytes) m.left))
    (Err (fault Whole Reader 0))

unfoldable pub played : List ℕ → List ℕ → Model → Model
played bytes bases m = ran (map (placed (sockets_in bytes) bases) (gates_of bytes)) m

-- the same on the bottom benches beneath
unfoldable pub played_in : List ℕ → List ℕ → Memory → Memory
played_in bytes bases x = ran_in (map (placed (sockets_in bytes) bases) (gates_of bytes)) x
