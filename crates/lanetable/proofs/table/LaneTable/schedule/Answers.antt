use Rattle.std.proofs.Common.{rules, ◌≡◌, ◌<◌, length, ap, ◌∙◌, arith}
use Rattle.lanetable.specs.Records.{promotes}
use Rattle.lanetable.proofs.InPlace.{half_here, half_next}
use Rattle.lanetable.proofs.table.LaneTable.schedule.Goals as goal

pub loop-record-preserved : goal.loop-record-preserved
loop-record-preserved c =
    let xs = c.args.self.now.records in
    let now = c.loop-record.record-items in
    let i = c.loop-record.record-index in
    let long : length xs ≡ 128 = search rules in
    let inside : i < length xs = omega arith in
    half_next promotes xs now i _ inside c.loop-record.invariant (c.promoted.ensures ∙ ap promotes (half_here promotes xs now i inside c.loop-record.invariant))
