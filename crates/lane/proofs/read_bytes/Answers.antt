use Rattle.std.proofs.Common.{ℕ, ◌+◌, ◌*◌, ◌<◌, ◌≤◌, Bool, ◌≢◌, length, arith, get_or-set_other, get_or-set_same, below_more}
use Rattle.std.proofs.lemmas.List.FromFn.{fill_by_all}
use Rattle.std.proofs.lemmas.Bool.{lt-ltb, le-leb}
use Rattle.standard.specs.Bits.{byte_of}
use Rattle.lane.proofs.read_bytes.Goals as goal

pub loop-j-preserved : goal.loop-j-preserved
loop-j-preserved g c =
    below_more _ _
    (λ k h. let ne : k ≢ c.loop-j.j = omega arith in rw get_or-set_other (c.loop-j.invariant k h))
    (let lt : c.loop-j.j < length c.loop-j.buffer = omega arith in rw get_or-set_same c.byte_at.ensures)

pub returns : goal.returns
returns g c =
    let σ : ℕ → Bool = λ r. (g.B.Bench.shows c.args.bench.now).bit r c.args.lane in
    let n = length c.args.buffer.now in
    let has = c.in_ok-ask_span.ensures.has in
    let most : g.B.Bench.registers c.args.bench.now ≤ 65535 = (g.B.Bench.lawful c.args.bench.now).few in
    let few : c.args.base + 8 * n ≤ g.B.Bench.registers c.args.bench.now = omega (arith, has.0) in
    let within : c.args.lane < g.B.Bench.lanes c.args.bench.now = has.1 in
    let fits = le-leb (c.args.base + 8 * n) (g.B.Bench.registers c.args.bench.now) few in
    let lane = lt-ltb c.args.lane (g.B.Bench.lanes c.args.bench.now) within in
    record {
      answer = rw (fits, lane);
      bytes = fill_by_all (λ j. byte_of σ (c.args.base + 8 * j)) c.loop-j.buffer n 0 (omega arith) (λ k h. c.loop-j.invariant k (omega arith));
    }
