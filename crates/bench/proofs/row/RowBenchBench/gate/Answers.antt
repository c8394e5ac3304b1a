use Rattle.std.proofs.Common.{◌-◌, ◌*◌, ◌<◌, ◌≤◌, ◌∷◌, length, sym, ap, ◌∙◌, subst, ap₂, arith, rules}
use Rattle.bench.specs.Model.{part}
use Rattle.bench.specs.Row.{fit, row_model, rest, rows_done}
use Rattle.bench.proofs.RowModels.{rows_fit, row_gated, row_rest}
use Rattle.bench.proofs.row.RowBenchBench.gate.Goals as goal

pub gate_rows-requires : goal.gate_rows-requires
gate_rows-requires c =
    let n = length c.args.self.now.bytes.now in
    let w = fit c.args.self.now.width in
    let room : c.rows-rows.result * c.row-row.result ≤ n =
    subst (λ x. x ≤ n) (sym (ap₂ (λ x y. x * y) c.rows-rows.ensures c.row-row.ensures)) (rows_fit n w) in
    let has = c.in_ok-ask_gate.ensures.has in
    (room, (omega (arith, has.0), (omega (arith, has.1.0), omega (arith, has.1.1.0))))

pub returns : goal.returns
returns c =
    let bytes = c.args.self.now.bytes.now in
    let width = c.args.self.now.width in
    let left = c.args.self.now.left in
    let k = c.args.gate.kind in
    let t = c.args.gate.target in
    let a = c.args.gate.first in
    let b = c.args.gate.second in
    let has = c.in_ok-ask_gate.ensures.has in
    let ht : t < 8 * fit width = omega (arith, has.0) in
    let ha : a < 8 * fit width = omega (arith, has.1.0) in
    let hb : b < 8 * fit width = omega (arith, has.1.1.0) in
    let done = c.gate_rows.ensures ∙ ap₂ (λ w n. rows_done k t a b w n bytes) c.row-row.ensures c.rows-rows.ensures in
    let leaves = ap₂ (λ x n. row_model x width (n - 1)) done c.left-2.ensures ∙ row_gated bytes width left k t a b ht ha hb in
    record {
      answer = search rules;
      leaves = leaves;
      beneath = ap₂ (λ x m. part c.args.self.now.bytes.ghost_name (width ∷ x) m) (ap (λ x. rest x width) done ∙ row_rest bytes width left k t a b ht ha hb) leaves;
    }
