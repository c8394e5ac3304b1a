-- The memory of the benches that a script asks for. Assumes nothing.
--
--   holds m        the meaning of one bench over the memory m
--   holds_both m   the meaning of the bench over the memory m of one, or of two side by side
use Rattle.std.specs.Prelude.{Some, None, vec_items, Option}
use Rattle.bench.specs.Model.{Model}
use Rattle.bench.specs.Word.{word_model}
use Rattle.bench.specs.Row.{row_model}
use Rattle.bench.specs.Side.{side_model}
use Rattle.playing.specs.declared.memory.SingleMemory.{SingleMemory}
use Rattle.playing.specs.declared.memory.SingleMemory.TheVariants.{Word, Row}
use Rattle.playing.specs.declared.memory.SetupMemory.{SetupMemory}

abbrev pub holds : SingleMemory → Model
holds (Word ws a) = word_model (vec_items ws) a
holds (Row w bs a) = row_model (vec_items bs) w a

-- with a second one beside it, if any
abbrev pub holds_beside : Model → Option SingleMemory → Model
holds_beside m None = m
holds_beside m (Some t) = side_model m (holds t)

abbrev pub holds_both : SetupMemory → Model
holds_both m = holds_beside (holds m.first) m.second
