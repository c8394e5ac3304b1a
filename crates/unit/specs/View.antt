-- What a unit holds, as a value, and what each accepted call makes of it. Assumes nothing.
--
--   View        the bench's meaning, the bottom benches beneath it, and the lanes' records
--   Shape       all that any answer but the bytes of a reading hangs on
--   made        a unit as it is made: all records empty
use Rattle.std.specs.Prelude.{ℕ, ◌*◌, List, map, length, replicate, slice_index_or, slice_set}
use Rattle.bench.specs.Model.{Model, Memory}
use Rattle.lane.specs.Spans.{laid, laid_in, bits_of, zeroed, zeroed_in}
use Rattle.plans.specs.declared.plays.Play.{Play}
use Rattle.plans.specs.Plans.{schedule_plan, seal_plan, open_plan}
use Rattle.plans.specs.Layout.{free}
use Rattle.lanetable.specs.declared.records.LaneRecord.{LaneRecord}
use Rattle.lanetable.specs.Records.{empty, with_key, with_block, promotes}
use Rattle.unit.specs.Works.{kind, worked, worked_in}

pub record View : Type 0 where
  pub model : Model
  pub beneath : Memory
  pub records : List LaneRecord

pub record Shape : Type 0 where
  pub registers : ℕ
  pub lanes : ℕ
  pub left : ℕ
  pub records : List LaneRecord

abbrev pub shape : View → Shape
shape v = record { registers = v.model.registers; lanes = v.model.lanes; left = v.model.left; records = v.records }

abbrev pub made : Model → Memory → View
made m x = record { model = m; beneath = x; records = replicate 128 empty }

-- the registers of the state, and of round key 0
abbrev pub state_base : ℕ
state_base = 0

abbrev pub key_base : ℕ
key_base = 128

-- a lane's record
abbrev pub record_at : View → ℕ → LaneRecord
record_at v lane = slice_index_or v.records lane empty

-- bytes written in a lane, and its record
abbrev pub written : ℕ → LaneRecord → View → ℕ → List ℕ → View
written base r v lane bytes = record {
  model = laid base (8 * length bytes) lane (bits_of bytes) v.model;
  beneath = laid_in base (8 * length bytes) lane (bits_of bytes) v.beneath;
  records = slice_set v.records lane r;
}

abbrev pub key_placed : View → ℕ → List ℕ → View
key_placed v lane bytes = written key_base (with_key (record_at v lane)) v lane bytes

abbrev pub block_placed : View → ℕ → List ℕ → View
block_placed v lane bytes = written state_base (with_block (record_at v lane)) v lane bytes

-- the registers below the scratch are zeroed
abbrev pub cleared : View → ℕ → View
cleared v lane = record {
  model = zeroed (8 * free kind) lane v.model;
  beneath = zeroed_in (8 * free kind) lane v.beneath;
  records = slice_set v.records lane empty;
}

abbrev pub plan_done : List Play → View → View
plan_done plan v = record { model = worked plan v.model; beneath = worked_in plan v.beneath; records = v.records }

abbrev pub scheduled : View → View
scheduled v = record {
  model = worked (schedule_plan kind) v.model;
  beneath = worked_in (schedule_plan kind) v.beneath;
  records = map promotes v.records;
}

abbrev pub sealed : View → View
sealed v = plan_done (seal_plan kind) v

abbrev pub opened : View → View
opened v = plan_done (open_plan kind) v
