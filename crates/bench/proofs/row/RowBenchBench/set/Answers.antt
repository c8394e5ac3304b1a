use Rattle.std.proofs.Common.{◌≡◌, ◌+◌, ◌*◌, ◌/◌, ◌%◌, ◌<◌, ◌∷◌, length, get_or, set, ap, ◌∙◌, ap₂, arith, rules}
use Rattle.bench.specs.Model.{part}
use Rattle.bench.specs.Row.{fit, row_lanes, row_model, rest, row_put}
use Rattle.bench.specs.Word.{put_bit}
use Rattle.bench.proofs.RowModels.{in_bytes, in_row, row_written, put_rest}
use Rattle.bench.proofs.row.RowBenchBench.set.Goals as goal

pub bounds-self-at : goal.bounds-self-at
bounds-self-at c =
    let n = length c.args.self.now.bytes.now in
    let w = fit c.args.self.now.width in
    let has = c.in_ok-ask_spot.ensures.has in
    omega (arith, in_bytes n w c.args.lane (c.args.register / 8) (omega (arith, has.1)) (in_row c.args.register w (omega (arith, has.0))), ap (λ x. c.args.lane * x) c.row.ensures)

pub bounds-self-at-2 : goal.bounds-self-at-2
bounds-self-at-2 c =
    let n = length c.args.self.now.bytes.now in
    let w = fit c.args.self.now.width in
    let has = c.in_ok-ask_spot.ensures.has in
    omega (arith, in_bytes n w c.args.lane (c.args.register / 8) (omega (arith, has.1)) (in_row c.args.register w (omega (arith, has.0))), ap (λ x. c.args.lane * x) c.row.ensures)

pub returns : goal.returns
returns c =
    let bytes = c.args.self.now.bytes.now in
    let width = c.args.self.now.width in
    let r = c.args.register in
    let l = c.args.lane in
    let v = c.args.value in
    let at : c.place-at.result ≡ l * fit width + r / 8 = c.place-at.ensures ∙ ap (λ x. l * x + r / 8) c.row.ensures in
    let new : c.put_byte.result ≡ put_bit (get_or bytes (l * fit width + r / 8) 0) (r % 8) v = c.put_byte.ensures ∙ ap (λ x. put_bit (get_or bytes x 0) (r % 8) v) at in
    let put : set bytes c.place-at.result c.put_byte.result ≡ row_put bytes (l * fit width) r v = λ i. set bytes (at i) (new i) in
    let has = c.in_ok-ask_spot.ensures.has in
    let hr : r < 8 * fit width = omega (arith, has.0) in
    let hl : l < row_lanes (length bytes) (fit width) = omega (arith, has.1) in
    let leaves = ap (λ x. row_model x width c.args.self.now.left) put ∙ row_written bytes width c.args.self.now.left r l v hr hl in
    record {
      answer = search rules;
      leaves = leaves;
      beneath = ap₂ (λ x m. part c.args.self.now.bytes.ghost_name (width ∷ x) m) (ap (λ x. rest x width) put ∙ put_rest bytes width c.args.self.now.left r l v hr hl) leaves;
    }
