use Rattle.std.proofs.Common.{◌*◌, length, set, ap, ◌∙◌, arith, rules}
use Rattle.lane.proofs.Laying.{never}
use Rattle.lanetable.specs.Records.{with_block}
use Rattle.unit.specs.Held.{meaning, shape_of}
use Rattle.unit.specs.Answers.{placing}
use Rattle.unit.proofs.Settled.{stays, becomes, accepted, placing_tells, span_accepted}
use Rattle.unit.proofs.unit.CipherUnit.place_block.Goals as goal

pub returns-in_err-may_place : goal.returns-in_err-may_place
returns-in_err-may_place g c = record { answer = search rules; after = stays tt _ _ _ _ c.in_err-may_place.ensures; bytes = λ j. omega (arith, c.type_inv.bytes j) }

pub returns-in_err-place_bytes : goal.returns-in_err-place_bytes
returns-in_err-place_bytes g c =
    let u = c.args.self.now in
    let bytes = c.args.bytes.now in
    let asked = accepted tt tt (placing 16 (shape_of g.B.Bench u) c.args.lane (length bytes)) c.in_ok-may_place.ensures in
    let told = placing_tells 16 (shape_of g.B.Bench u) c.args.lane (length bytes) asked in
    let ok = span_accepted (meaning g.B.Bench u.bench) 0 (8 * length bytes) c.args.lane (omega (arith, told.0.room, told.2)) told.1 in
    absurd (never (c.in_err-place_bytes.ensures.answer ∙ ok))

pub returns : goal.returns
returns g c =
    let u = c.args.self.now in
    let done = c.in_ok-place_bytes.ensures in
    record {
      answer = search rules;
      bytes = λ j. omega (arith, c.type_inv.bytes j);
      after = becomes tt tt _ _ _ _ c.in_ok-may_place.ensures (λ i. record {
        model = done.leaves i;
        beneath = done.beneath i;
        records = (c.put.ensures ∙ ap (λ r. set u.table.records c.args.lane (with_block r)) c.record-key.ensures) i;
      });
    }
