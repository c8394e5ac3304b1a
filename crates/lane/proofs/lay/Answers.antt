use Rattle.std.proofs.Common.{◌≡◌, ◌+◌, Ok, refl, ◌∙◌, ap₂, arith}
use Rattle.bench.specs.Benches.{meaning}
use Rattle.bench.specs.Model.{written, written_in, set_answer}
use Rattle.bench.proofs.Accepts.{set_accepted}
use Rattle.lane.proofs.Laying.{never, laid_none, laid_more, laid_in_more, laid_registers, laid_lanes}
use Rattle.lane.proofs.lay.Goals as goal

pub loop-i-init : goal.loop-i-init
loop-i-init g c = (laid_none c.args.base c.args.lane (g.S.Bits.bits c.args.source.now) (meaning g.B.Bench c.args.bench.now), refl)

pub returns-in_err-set : goal.returns-in_err-set
returns-in_err-set g c =
    let has = c.in_ok-ask_span.ensures.has in
    let m = meaning g.B.Bench c.args.bench.now in
    let n = meaning g.B.Bench c.loop-i.bench in
    let i = c.loop-i.i in
    let l = c.args.lane in
    let f = g.S.Bits.bits c.args.source.now in
    let rs : n.registers ≡ m.registers = laid_registers c.args.base l f i m c.loop-i.invariant.0 in
    let ls : n.lanes ≡ m.lanes = laid_lanes c.args.base l f i m c.loop-i.invariant.0 in
    let ok : set_answer n (c.args.base + i) l ≡ Ok tt = set_accepted n (c.args.base + i) l (omega (arith, has.0)) (omega (arith, has.1)) in
    let said = c.in_err-set.ensures.answer in
    absurd (never (said ∙ ok))

pub loop-i-preserved : goal.loop-i-preserved
loop-i-preserved g c =
    let m = meaning g.B.Bench c.args.bench.now in
    let i = c.loop-i.i in
    let l = c.args.lane in
    let f = g.S.Bits.bits c.args.source.now in
    let done = c.in_ok-set.ensures in (
      done.leaves ∙ ap₂ (written (c.args.base + i) l) c.bit.ensures c.loop-i.invariant.0 ∙ laid_more c.args.base l f i m,
      done.beneath ∙ ap₂ (written_in (c.args.base + i) l) c.bit.ensures c.loop-i.invariant.1 ∙ laid_in_more c.args.base l f i (g.B.Bench.beneath c.args.bench.now),
    )
