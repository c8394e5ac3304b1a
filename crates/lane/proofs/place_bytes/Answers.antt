use Rattle.std.proofs.Common.{length}
use Rattle.bench.specs.Benches.{meaning}
use Rattle.lane.specs.Spans.{bits_of, laid, laid_in}
use Rattle.lane.proofs.Wide.{wide}
use Rattle.lane.proofs.place_bytes.Goals as goal

pub returns : goal.returns
returns g c =
    let base = c.args.base in
    let lane = c.args.lane in
    let f = bits_of c.args.bytes.now in
    let m = meaning g.B.Bench c.args.bench.now in
    let few = (g.B.Bench.lawful c.args.bench.now).few in
    let done = wide m base (length c.args.bytes.now) c.registers_of.result lane c.lay.result
    (λ n. laid base n lane f m) m (meaning g.B.Bench c.lay.new.bench) few c.registers_of.ensures c.lay.ensures.answer c.lay.ensures.leaves in
    let below = wide m base (length c.args.bytes.now) c.registers_of.result lane c.lay.result
    (λ n. laid_in base n lane f (g.B.Bench.beneath c.args.bench.now)) (g.B.Bench.beneath c.args.bench.now) (g.B.Bench.beneath c.lay.new.bench) few c.registers_of.ensures c.lay.ensures.answer c.lay.ensures.beneath in
    record { answer = done.0; leaves = done.1; beneath = below.1 }
