use Rattle.std.proofs.Common.{refl, ◌∙◌, rules}
use Rattle.lane.proofs.Laying.{never}
use Rattle.plans.specs.Plans.{schedule_plan}
use Rattle.unit.specs.Works.{kind, worked}
use Rattle.unit.specs.Held.{meaning, shape_of}
use Rattle.unit.specs.Lanes.{Expanded}
use Rattle.unit.specs.Answers.{scheduling}
use Rattle.unit.proofs.Settled.{stays, becomes, accepted, refused, scheduling_tells, scheduling_fits}
use Rattle.unit.proofs.Planned.{plan_expands, plan_accepted, every_lane, no_lane}
use Rattle.unit.proofs.unit.CipherUnit.schedule.Goals as goal

pub returns-in_err-may_schedule : goal.returns-in_err-may_schedule
returns-in_err-may_schedule g c =
    let said = c.in_err-may_schedule.ensures in
    record { answer = search rules; after = stays tt _ _ _ _ said; expanded = no_lane _ _ _ _ (refused tt _ _ said) }

pub returns-in_err-run : goal.returns-in_err-run
returns-in_err-run g c =
    let u = c.args.self.now in
    let s = shape_of g.B.Bench u in
    let m = meaning g.B.Bench u.bench in
    let asked = accepted tt tt (scheduling s) c.in_ok-may_schedule.ensures in
    absurd (never (c.in_err-run.ensures.answer ∙ plan_accepted s m (schedule_plan kind) refl refl (scheduling_fits s asked) (scheduling_tells s asked).1))

pub returns : goal.returns
returns g c =
    let u = c.args.self.now in
    let m = meaning g.B.Bench u.bench in
    let said = c.in_ok-may_schedule.ensures in
    let asked = accepted tt tt (scheduling (shape_of g.B.Bench u)) said in
    let done = c.in_ok-run.ensures in
    record {
      answer = search rules;
      after = becomes tt tt _ _ _ _ said (λ i. record { model = done.leaves i; beneath = done.beneath i; records = c.schedule.ensures i });
      expanded = every_lane _ m _ (worked (schedule_plan kind) m) (λ x l. Expanded m x l) asked done.leaves (plan_expands m);
    }
