use Rattle.bench.specs.Benches.{meaning}
use Rattle.std.proofs.Common.{◌≡◌, ◌-◌, ◌<◌, ◌≤◌, min, Ok, sym, ap, ◌∙◌, arith, rules}
use Rattle.bench.specs.Model.{both, after, written, lanes_in, written_in}
use Rattle.bench.specs.Side.{side_model, side_lanes}
use Rattle.bench.proofs.Accepts.{set_accepted}
use Rattle.bench.proofs.Sides.{side_written_first, side_written_second, in_first, in_second}
use Rattle.bench.proofs.side.SideBySideBench.set.Goals as goal

pub returns-then-lane-inner : goal.returns-then-lane-inner
returns-then-lane-inner g c =
    let m = meaning g.F.Bench c.args.self.now.first in
    let n = meaning g.S.Bench c.args.self.now.second in
    let x = g.F.Bench.beneath c.args.self.now.first in
    let y = g.S.Bench.beneath c.args.self.now.second in
    let tie : lanes_in x ≡ m.lanes = g.F.Bench.tied c.args.self.now.first in
    let r = c.args.register in
    let l = c.args.lane in
    let v = c.args.value in
    let h : l < side_lanes m.lanes n.lanes = omega (arith, c.in_ok-ask_lane.ensures.has) in
    let hr : r < min m.registers n.registers = omega (arith, c.in_ok-ask_register.ensures.has) in
    let f : l < m.lanes = omega arith in
    let ok : c.set.result ≡ Ok tt = c.set.ensures.answer ∙ set_accepted m r l (omega (arith, hr)) f in
    record {
      answer = search rules;
      leaves = ap (λ x. side_model x n) (c.set.ensures.leaves ∙ ap (λ x. after x (written r l v m) m) ok)
          ∙ side_written_first m n r l v hr h f ∙ sym (ap (λ x. after x (written r l v (side_model m n)) (side_model m n)) ok);
      beneath = ap (λ z. both z y) (c.set.ensures.beneath ∙ ap (λ z. after z (written_in r l v x) x) ok)
          ∙ sym (in_first x y r l v (omega arith)) ∙ sym (ap (λ z. after z (written_in r l v (both x y)) (both x y)) ok);
    }

pub returns-else-lane-inner : goal.returns-else-lane-inner
returns-else-lane-inner g c =
    let m = meaning g.F.Bench c.args.self.now.first in
    let n = meaning g.S.Bench c.args.self.now.second in
    let x = g.F.Bench.beneath c.args.self.now.first in
    let y = g.S.Bench.beneath c.args.self.now.second in
    let tie : lanes_in x ≡ m.lanes = g.F.Bench.tied c.args.self.now.first in
    let r = c.args.register in
    let l = c.args.lane in
    let v = c.args.value in
    let h : l < side_lanes m.lanes n.lanes = omega (arith, c.in_ok-ask_lane.ensures.has) in
    let hr : r < min m.registers n.registers = omega (arith, c.in_ok-ask_register.ensures.has) in
    let f : m.lanes ≤ l = omega arith in
    let call = c.set-else-lane-inner in
    let at : c.lanes-inner.result ≡ m.lanes = c.lanes-inner.ensures in
    let ok : call.result ≡ Ok tt = call.ensures.answer ∙ set_accepted n r (l - c.lanes-inner.result) (omega (arith, hr)) (omega (arith, h, at)) in
    record {
      answer = search rules;
      leaves = ap (side_model m) (call.ensures.leaves ∙ ap (λ x. after x (written r (l - c.lanes-inner.result) v n) n) ok ∙ ap (λ x. written r (l - x) v n) at)
          ∙ side_written_second m n r l v hr h f ∙ sym (ap (λ x. after x (written r l v (side_model m n)) (side_model m n)) ok);
      beneath = ap (both x) (call.ensures.beneath ∙ ap (λ z. after z (written_in r (l - c.lanes-inner.result) v y) y) ok ∙ ap (λ z. written_in r (l - z) v y) (at ∙ sym tie))
          ∙ sym (in_second x y r l v (omega arith)) ∙ sym (ap (λ z. after z (written_in r l v (both x y)) (both x y)) ok);
    }
