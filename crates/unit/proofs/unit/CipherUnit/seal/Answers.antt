use Rattle.std.proofs.Common.{◌≡◌, Ok, refl, ap, ◌∙◌, rules}
use Rattle.bench.specs.Model.{after}
use Rattle.plans.specs.Plans.{seal_plan}
use Rattle.unit.specs.Works.{kind, worked, worked_in, S}
use Rattle.unit.specs.Held.{meaning, shape_of}
use Rattle.unit.specs.Lanes.{Enciphered, Staged}
use Rattle.unit.specs.Answers.{working, given}
use Rattle.unit.proofs.Settled.{stays, becomes, accepted, refused, working_tells, working_fits}
use Rattle.unit.proofs.Planned.{plan_enciphers, plan_stages, plan_accepted, every_lane, no_lane}
use Rattle.unit.proofs.unit.CipherUnit.seal.Goals as goal

pub returns-in_err-may_work : goal.returns-in_err-may_work
returns-in_err-may_work g c =
    let said = c.in_err-may_work.ensures ∙ ap (λ k. given tt (working (shape_of g.B.Bench c.args.self.now) k)) c.gates.ensures.count in
    record { answer = search rules; after = stays tt _ _ _ _ said; enciphered = no_lane _ _ _ _ (refused tt _ _ said); staged = no_lane _ _ _ _ (refused tt _ _ said) }

pub returns : goal.returns
returns g c =
    let u = c.args.self.now in
    let s = shape_of g.B.Bench u in
    let m = meaning g.B.Bench u.bench in
    let x = g.B.Bench.beneath u.bench in
    let said = c.in_ok-may_work.ensures ∙ ap (λ k. given tt (working s k)) c.gates.ensures.count in
    let asked = accepted tt tt (working s S) said in
    let ok : c.run.result ≡ Ok tt = c.run.ensures.answer ∙ plan_accepted s m (seal_plan kind) refl refl (working_fits s S asked) (working_tells s S asked).2 in
    let leaves = c.run.ensures.leaves ∙ ap (λ r. after r (worked (seal_plan kind) m) m) ok in
    let under = c.run.ensures.beneath ∙ ap (λ r. after r (worked_in (seal_plan kind) x) x) ok in
    record {
      answer = ok ∙ said;
      after = becomes tt tt _ _ _ _ said (λ i. record { model = leaves i; beneath = under i; records = u.table.records });
      enciphered = every_lane _ m _ (worked (seal_plan kind) m) (λ x l. Enciphered m x l) asked leaves (plan_enciphers m);
      staged = every_lane _ m m m (λ x l. Staged m l) asked refl (plan_stages m);
    }
