use Rattle.bench.specs.Benches.{meaning}
use Rattle.std.proofs.Common.{◌≡◌, ◌<◌, min, Ok, sym, ap, ◌∙◌, ap₂, arith, rules}
use Rattle.bench.specs.Model.{both, after, gated, gated_in}
use Rattle.bench.specs.Side.{side_model}
use Rattle.bench.proofs.Accepts.{gate_accepted}
use Rattle.bench.proofs.Sides.{side_gated}
use Rattle.bench.proofs.side.SideBySideBench.gate.Goals as goal

pub returns : goal.returns
returns g c =
    let m = meaning g.F.Bench c.args.self.now.first in
    let n = meaning g.S.Bench c.args.self.now.second in
    let x = g.F.Bench.beneath c.args.self.now.first in
    let y = g.S.Bench.beneath c.args.self.now.second in
    let k = c.args.gate.kind in
    let t = c.args.gate.target in
    let a = c.args.gate.first in
    let b = c.args.gate.second in
    let has = c.in_ok-ask_gate.ensures.has in
    let ht : t < min m.registers n.registers = omega (arith, has.0) in
    let ha : a < min m.registers n.registers = omega (arith, has.1.0) in
    let hb : b < min m.registers n.registers = omega (arith, has.1.1.0) in
    let hl : 0 < min m.left n.left = omega (arith, has.1.1.1) in
    let ok : c.gate-2.result ≡ Ok tt = c.gate-2.ensures.answer ∙ gate_accepted n t a b (omega (arith, ht)) (omega (arith, ha)) (omega (arith, hb)) (omega (arith, hl)) in
    let left = c.in_ok-gate.ensures.leaves in
    let right = c.gate-2.ensures.leaves ∙ ap (λ r. after r (gated k t a b n) n) ok in
    record {
      answer = search rules;
      leaves = ap₂ side_model left right ∙ side_gated m n k t a b ht ha hb ∙ sym (ap (λ r. after r (gated k t a b (side_model m n)) (side_model m n)) ok);
      beneath = ap₂ both c.in_ok-gate.ensures.beneath (c.gate-2.ensures.beneath ∙ ap (λ r. after r (gated_in k t a b y) y) ok) ∙ sym (ap (λ r. after r (gated_in k t a b (both x y)) (both x y)) ok);
    }
