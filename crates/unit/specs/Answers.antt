-- The questions of each call of a unit, in their order: the first no decides. Assumes nothing.
--
--   naming      1, 5          clearing, and the question for a record
--   placing     1, 5, 6       placing so many bytes where some number is wanted
--   reading     1, 5, 6, 7
--   scheduling  1, 8, 10
--   working     1, 8, 9, 10   sealing and opening, for a plan of so many gates
use Rattle.std.specs.Prelude.{ℕ, ◌-◌, Bool, cond, ◌&&◌, Some, None, Ok, Err, Option, Result, ◌==◌, nat_le, nat_lt, slice_index_or}
use Rattle.bench.specs.declared.faults.Question.{Question}
use Rattle.bench.specs.declared.faults.Question.TheVariants.{Size, Lane, Sixteen, Block, Work, Scheduled, Gates}
use Rattle.bench.specs.declared.faults.Part.TheVariants.{Unit as UnitPart}
use Rattle.bench.specs.declared.faults.Fault.{Fault}
use Rattle.bench.specs.Faults.{fault}
use Rattle.plans.specs.Layout.{room}
use Rattle.lanetable.specs.Records.{empty, any_placed, any_block, lowest_unready}
use Rattle.unit.specs.View.{Shape}
use Rattle.unit.specs.Works.{kind, K}

abbrev pub unit_fault : Question → ℕ → Fault
unit_fault q place = fault q UnitPart place

-- a question: where the answer is yes the rest decides
abbrev pub ask : Bool → Fault → Option Fault → Option Fault
ask yes? f rest = cond yes? rest (Some f)

abbrev pub fits : Shape → Bool
fits s = nat_le (room kind) s.registers && (nat_le 1 s.lanes && nat_le s.lanes 128)

abbrev pub enough : ℕ → ℕ → Option Fault
enough cost left = ask (nat_le cost left) (unit_fault Gates (cost - left)) None

abbrev pub every_key : Option ℕ → Option Fault → Option Fault
every_key None rest = rest
every_key (Some l) rest = Some (unit_fault Scheduled l)

abbrev pub naming : Shape → ℕ → Option Fault
naming s lane = ask (fits s) (unit_fault Size 0) (ask (nat_lt lane s.lanes) (unit_fault Lane lane) None)

abbrev pub placing : ℕ → Shape → ℕ → ℕ → Option Fault
placing want s lane n = ask (fits s) (unit_fault Size 0) (ask (nat_lt lane s.lanes) (unit_fault Lane lane) (ask (n == want) (unit_fault Sixteen n) None))

abbrev pub reading : Shape → ℕ → ℕ → Option Fault
reading s lane n =
    ask (fits s) (unit_fault Size 0)
    (ask (nat_lt lane s.lanes) (unit_fault Lane lane) (ask (n == 16) (unit_fault Sixteen n) (ask (slice_index_or s.records lane empty).block (unit_fault Block lane) None)))

abbrev pub scheduling : Shape → Option Fault
scheduling s = ask (fits s) (unit_fault Size 0) (ask (any_placed s.records) (unit_fault Work 0) (enough K s.left))

abbrev pub working : Shape → ℕ → Option Fault
working s cost = ask (fits s) (unit_fault Size 0) (ask (any_block s.records) (unit_fault Work 0) (every_key (lowest_unready s.records) (enough cost s.left)))

-- what a call gives
abbrev pub given : {X : Type 0} → X → Option Fault → Result X Fault
given x None = Ok x
given x (Some f) = Err f

-- what holds after: the one where the call was accepted, else the other
abbrev pub settled : {X : Type 0} → Option Fault → X → X → X
settled None done was = done
settled (Some f) done was = was
