-- The faults. Assumes nothing.
use Rattle.std.specs.Prelude.{ℕ}
use Rattle.bench.specs.declared.faults.Question.{Question}
use Rattle.bench.specs.declared.faults.Question.TheVariants.{Size, Whole, Bases, Register, Lane, Sixteen, Block, Work, Scheduled, Gates}
use Rattle.bench.specs.declared.faults.Part.{Part}
use Rattle.bench.specs.declared.faults.Fault.{Fault}

abbrev pub number_of : Question → ℕ
number_of Size = 1
number_of Whole = 2
number_of Bases = 3
number_of Register = 4
number_of Lane = 5
number_of Sixteen = 6
number_of Block = 7
number_of Work = 8
number_of Scheduled = 9
number_of Gates = 10

abbrev pub fault : Question → Part → ℕ → Fault
fault q p n = record { question = q; part = p; place = n }
