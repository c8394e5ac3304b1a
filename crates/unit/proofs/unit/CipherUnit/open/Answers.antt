use Rattle.std.proofs.Common.{◌≡◌, Ok, refl, ap, ◌∙◌, rules}
use Rattle.bench.specs.Model.{after}
use Rattle.plans.specs.Plans.{open_plan}
use Rattle.unit.specs.Works.{kind, worked, worked_in, O}
use Rattle.unit.specs.Held.{meaning, shape_of}
use Rattle.unit.specs.Lanes.{Deciphered}
use Rattle.unit.specs.Answers.{working, given}
use Rattle.unit.proofs.Settled.{stays, becomes, accepted, refused, working_tells, working_fits}
use Rattle.unit.proofs.Planned.{plan_deciphers, plan_accepted, every_lane, no_lane}
use Rattle.unit.proofs.unit.CipherUnit.open.Goals as goal

pub returns-in_err-may_work : goal.returns-in_err-may_work
returns-in_err-may_work g c =
    let said = c.in_err-may_work.ensures ∙ ap (λ k. given tt (working (shape_of g.B.Bench c.args.self.now) k)) c.gates.ensures.count in
    record { answer = search rules; after = stays tt _ _ _ _ said; deciphered = no_lane _ _ _ _ (refused tt _ _ said) }

pub returns : goal.returns
returns g c =
    let u = c.args.self.now in
    let s = shape_of g.B.Bench u in
    let m = meaning g.B.Bench u.bench in
    let x = g.B.Bench.beneath u.bench in
    let said = c.in_ok-may_work.ensures ∙ ap (λ k. given tt (working s k)) c.gates.ensures.count in
    let asked = accepted tt tt (working s O) said in
    let ok : c.run.result ≡ Ok tt = c.run.ensures.answer ∙ plan_accepted s m (open_plan kind) refl refl (working_fits s O asked) (working_tells s O asked).2 in
    let leaves = c.run.ensures.leaves ∙ ap (λ r. after r (worked (open_plan kind) m) m) ok in
    let under = c.run.ensures.beneath ∙ ap (λ r. after r (worked_in (open_plan kind) x) x) ok in
    record {
      answer = ok ∙ said;
      after = becomes tt tt _ _ _ _ said (λ i. record { model = leaves i; beneath = under i; records = u.table.records });
      deciphered = every_lane _ m _ (worked (open_plan kind) m) (λ x l. Deciphered m x l) asked leaves (plan_deciphers m);
    }
