use Rattle.std.proofs.Common.{◌*◌, length, ap, ◌∙◌, arith, rules}
use Rattle.bench.specs.Model.{after}
use Rattle.lane.specs.Spans.{shown_at}
use Rattle.unit.specs.Held.{meaning, shape_of}
use Rattle.unit.specs.Answers.{reading}
use Rattle.unit.proofs.Settled.{stays, becomes, accepted, reading_tells, span_accepted}
use Rattle.unit.proofs.Bytes.{shown_state}
use Rattle.unit.proofs.unit.CipherUnit.read.Goals as goal

pub returns-in_err-may_read : goal.returns-in_err-may_read
returns-in_err-may_read g c = record { answer = search rules; bytes = stays tt _ _ _ _ c.in_err-may_read.ensures }

pub returns : goal.returns
returns g c =
    let u = c.args.self.now in
    let m = meaning g.B.Bench u.bench in
    let buffer = c.args.buffer.now in
    let question = reading (shape_of g.B.Bench u) c.args.lane (length buffer) in
    let said = c.in_ok-may_read.ensures in
    let asked = accepted tt tt question said in
    let told = reading_tells (shape_of g.B.Bench u) c.args.lane (length buffer) asked in
    let ok = c.read_bytes.ensures.answer ∙ span_accepted m 0 (8 * length buffer) c.args.lane (omega (arith, told.0.room, told.2)) told.1 in
    record {
      answer = ok ∙ said;
      bytes = becomes tt tt question _ _ _ said
          (c.read_bytes.ensures.bytes
          ∙ ap (λ r. after r (shown_at m 0 c.args.lane (length buffer)) buffer) ok
          ∙ ap (shown_at m 0 c.args.lane) told.2
          ∙ shown_state m c.args.lane);
    }
