use Rattle.std.proofs.Common.{◌*◌, ◌/◌, length, ap, arith}
use Rattle.bench.specs.Row.{fit}
use Rattle.bench.proofs.RowModels.{in_bytes, in_row}
use Rattle.bench.proofs.row.RowBenchBench.show.Goals as goal

pub bounds-self-at : goal.bounds-self-at
bounds-self-at c =
    let n = length c.args.self.now.bytes.now in
    let w = fit c.args.self.now.width in
    let has = c.in_ok-ask_spot.ensures.has in
    omega (arith, in_bytes n w c.args.lane (c.args.register / 8) (omega (arith, has.1)) (in_row c.args.register w (omega (arith, has.0))), ap (λ x. c.args.lane * x) c.row.ensures)
