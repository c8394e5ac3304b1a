use Rattle.std.proofs.Common.{◌≡◌, ◌++◌, map, take, drop}
use Rattle.lanetable.specs.Records.{promotes}
use Rattle.lanetable.proofs.table.LaneTable.schedule.Given as goal

abbrev pub invariant-loop-record : goal.invariant-loop-record
invariant-loop-record l = l.record-items ≡ map promotes (take l.record-index l.initial.record-items) ++ drop l.record-index l.initial.record-items
