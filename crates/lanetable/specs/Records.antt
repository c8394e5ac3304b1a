-- The records of the lanes. Assumes nothing.
--
--   promotes r          a record after a scheduling: a placed key is then scheduled
--   unready r           a block without a scheduled key
--   lowest_unready rs   the lowest lane of which that holds, if any
use Rattle.std.specs.Prelude.{ℕ, Bool, true, false, not, ◌&&◌, List, Option}
use Rattle.std.specs.List.{list_any, position_from}
use Rattle.lanetable.specs.declared.records.KeyState.{KeyState}
use Rattle.lanetable.specs.declared.records.KeyState.TheVariants.{Absent, Placed, Scheduled}
use Rattle.lanetable.specs.declared.records.LaneRecord.{LaneRecord}

abbrev pub empty : LaneRecord
empty = record { key = Absent; block = false }

abbrev pub with_key : LaneRecord → LaneRecord
with_key r = record { key = Placed; block = r.block }

abbrev pub with_block : LaneRecord → LaneRecord
with_block r = record { key = r.key; block = true }

abbrev pub promoted : KeyState → KeyState
promoted Absent = Absent
promoted Placed = Scheduled
promoted Scheduled = Scheduled

abbrev pub promotes : LaneRecord → LaneRecord
promotes r = record { key = promoted r.key; block = r.block }

abbrev pub is_placed : KeyState → Bool
is_placed Absent = false
is_placed Placed = true
is_placed Scheduled = false

abbrev pub is_scheduled : KeyState → Bool
is_scheduled Absent = false
is_scheduled Placed = false
is_scheduled Scheduled = true

abbrev pub any_placed : List LaneRecord → Bool
any_placed rs = list_any (λ r. is_placed r.key) rs

abbrev pub any_block : List LaneRecord → Bool
any_block rs = list_any (λ r. r.block) rs

abbrev pub unready : LaneRecord → Bool
unready r = r.block && not (is_scheduled r.key)

-- from lane n on
abbrev pub lowest_from : ℕ → List LaneRecord → Option ℕ
lowest_from n rs = position_from unready n rs

abbrev pub lowest_unready : List LaneRecord → Option ℕ
lowest_unready rs = lowest_from 0 rs
