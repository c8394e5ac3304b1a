use Rattle.bench.specs.Benches.{meaning}
use Rattle.std.proofs.Common.{◌≡◌, drop}
use Rattle.plans.specs.Plays.{do_play, do_play_in, plays_answer, carried}
use Rattle.plans.proofs.runs.play_plan.Given as goal

abbrev pub invariant-loop-p : goal.invariant-loop-p
invariant-loop-p g l =
    let m = meaning g.B.Bench in
    let inv = l.inverter in let rest = drop l.p-index l.plan in
    (plays_answer inv l.plan (m l.initial.bench) ≡ plays_answer inv rest (m l.bench))
    × (carried inv (do_play inv) l.plan (m l.initial.bench) (m l.initial.bench) ≡ carried inv (do_play inv) rest (m l.bench) (m l.bench))
    × (carried inv (do_play_in inv) l.plan (m l.initial.bench) (g.B.Bench.beneath l.initial.bench) ≡ carried inv (do_play_in inv) rest (m l.bench) (g.B.Bench.beneath l.bench))
