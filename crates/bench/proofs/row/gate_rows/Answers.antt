use Rattle.std.proofs.Common.{◌*◌, ◌/◌, sym, ap, ◌∙◌, add-one, arith}
use lib.Arith.{digits_lt}
use Rattle.bench.specs.Row.{rows_done, row_step}
use Rattle.bench.proofs.row.gate_rows.Goals as goal

pub gate_row-requires : goal.gate_row-requires
gate_row-requires c =
    let i = c.loop-lane.lane in
    let w = c.args.row in (
      omega (arith, digits_lt {q = i} {m = c.args.rows} {r = c.args.gate.target / 8} {c = w} (omega arith) (omega arith)),
      (
        omega (arith, digits_lt {q = i} {m = c.args.rows} {r = c.args.gate.first / 8} {c = w} (omega arith) (omega arith)),
        omega (arith, digits_lt {q = i} {m = c.args.rows} {r = c.args.gate.second / 8} {c = w} (omega arith) (omega arith)),
      ),
    )

pub loop-lane-preserved : goal.loop-lane-preserved
loop-lane-preserved c =
    let i = c.loop-lane.lane in
    c.gate_row.ensures
    ∙ ap (row_step c.args.gate.kind c.args.gate.target c.args.gate.first c.args.gate.second (i * c.args.row)) c.loop-lane.invariant
    ∙ ap (λ n. rows_done c.args.gate.kind c.args.gate.target c.args.gate.first c.args.gate.second c.args.row n c.args.bytes.now) (sym (add-one i))
