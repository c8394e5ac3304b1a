use Rattle.std.proofs.Common.{◌≡◌, ℕ, ◌+◌, ◌*◌, Bool, ap, ◌∙◌, ap₂, arith}
use mir.Val.{bool_byte}
use Rattle.standard.specs.Bits.{byte_of}
use Rattle.lane.proofs.Bytes.{upper, upper_lt, byte_small, upper_more}
use Rattle.lane.proofs.byte_at.Goals as goal

pub overflow_mul-byte : goal.overflow_mul-byte
overflow_mul-byte g c =
    let f : ℕ → Bool = λ i. (g.B.Bench.shows c.args.bench.now).bit (c.args.base + i) c.args.lane in
    omega (arith, c.loop-i.invariant, upper_lt f c.loop-i.i (omega arith))

pub overflow_add-byte : goal.overflow_add-byte
overflow_add-byte g c =
    let f : ℕ → Bool = λ i. (g.B.Bench.shows c.args.bench.now).bit (c.args.base + i) c.args.lane in
    omega (arith, c.loop-i.invariant, upper_lt f c.loop-i.i (omega arith), byte_small c.bit_at.result)

pub loop-i-preserved : goal.loop-i-preserved
loop-i-preserved g c =
    let f : ℕ → Bool = λ i. (g.B.Bench.shows c.args.bench.now).bit (c.args.base + i) c.args.lane in
    ap₂ (λ x b. 2 * x + bool_byte b) c.loop-i.invariant c.bit_at.ensures ∙ upper_more f c.loop-i.i (omega arith) (omega arith)

pub returns : goal.returns
unfolding byte_of
returns g c =
    let f : ℕ → Bool = λ i. (g.B.Bench.shows c.args.bench.now).bit (c.args.base + i) c.args.lane in
    let e : c.loop-i.i ≡ 0 = omega arith in
    c.loop-i.invariant ∙ ap (upper f) e
