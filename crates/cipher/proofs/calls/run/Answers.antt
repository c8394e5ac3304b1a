use Rattle.std.proofs.Common.{◌≡◌, ◌+◌, ◌≤◌, true, Ok, sym, ap, ◌∙◌, subst, arith}
use Rattle.standard.specs.Kinds.{aes128}
use Rattle.bench.specs.Benches.{meaning}
use Rattle.bench.specs.Model.{Model, after}
use Rattle.plans.specs.Pages.{own_inverter}
use Rattle.plans.specs.Plays.{plan_gates, planned, planned_in, fit, do_play, do_play_in, plays_answer, carried}
use Rattle.plans.specs.Plans.{plays_of}
use Rattle.plans.proofs.Counts.{own_whole, plays_fit}
use Rattle.plans.proofs.Accepted.{fit_more, plan_answer_lem, plan_leaves, plan_beneath, plan_falls}
use Rattle.circuit.proofs.Inverter.{own_inverts}
use Rattle.cipher.specs.Claims.{Given, Fallen, Does}
use Rattle.cipher.proofs.Asked.{told_room, told_accept}
use Rattle.cipher.proofs.Stood.{stages_stand, does, given_from}
use Rattle.cipher.proofs.calls.run.Goals as goal

pub returns-then-not-sized-clause-stages : goal.returns-then-not-sized-clause-stages
returns-then-not-sized-clause-stages g c = stages_stand own_inverter own_inverts aes128 (meaning g.B.Bench c.args.bench.now)

pub returns-in_err-ask_gates-clause-stages : goal.returns-in_err-ask_gates-clause-stages
returns-in_err-ask_gates-clause-stages g c = stages_stand own_inverter own_inverts aes128 (meaning g.B.Bench c.args.bench.now)

pub returns : goal.returns
returns g c =
    let m = meaning g.B.Bench c.args.bench.now in
    let m' = meaning g.B.Bench c.play_plan.new.bench in
    let x = g.B.Bench.beneath c.args.bench.now in
    let ps = plays_of c.args.plan aes128 in
    let ran = c.play_plan.ensures in
    let own : c.own_inverter.result.now ≡ own_inverter = c.own_inverter.ensures in
    let plays : c.plays.result.now ≡ ps = c.plays.ensures in
    let fits : fit own_inverter m.registers ps ≡ true =
    fit_more own_inverter _ m.registers (told_room own_inverter aes128 ps m _ _ _ c.registers.ensures c.lanes.ensures c.sized.ensures c.if-not-sized.false) ps (plays_fit c.args.plan aes128) in
    let enough : plan_gates own_inverter ps ≤ m.left = omega (arith, c.left.ensures, c.gates.ensures.count, c.in_ok-ask_gates.ensures.has) in
    let ok : c.play_plan.result ≡ Ok tt = ran.answer ∙ (λ j. plays_answer (own j) (plays j) m) ∙ plan_answer_lem own_inverter own_whole ps m fits enough in
    let done : m' ≡ planned own_inverter ps m = ran.leaves ∙ (λ j. carried (own j) (do_play (own j)) (plays j) m m) ∙ plan_leaves own_inverter own_whole ps m fits enough in
    let leaves = done ∙ sym (ap (λ r. after r (planned own_inverter ps m) m) ok) in
    record {
      answer = ok ∙ told_accept own_inverter aes128 ps m _ _ _ c.registers.ensures c.lanes.ensures c.sized.ensures _ _ c.left.ensures c.gates.ensures.count
          c.if-not-sized.false c.in_ok-ask_gates.ensures.has;
      leaves = leaves;
      beneath = ran.beneath ∙ (λ j. carried (own j) (do_play_in (own j)) (plays j) m x) ∙ plan_beneath own_inverter own_whole ps m x fits enough ∙ sym (ap (λ r. after r (planned_in own_inverter ps x) x) ok);
      fallen = subst (λ r. Given (Fallen (plan_gates own_inverter ps)) r m m') (sym ok) (ap (λ (y : Model). y.left + plan_gates own_inverter ps) done ∙ plan_falls own_inverter own_whole ps m enough);
      stages = stages_stand own_inverter own_inverts aes128 m;
      does = given_from (Does aes128 c.args.plan) c.play_plan.result m m' (planned own_inverter ps m) leaves (does own_inverter own_inverts aes128 c.args.plan m m');
    }
