use Rattle.bench.specs.Benches.{meaning}
use Rattle.std.proofs.Common.{◌≡◌, [], ◌++◌, vec_items}
use Rattle.playing.specs.Runs.{answers}
use Rattle.playing.proofs.runs.run.Given as goal

abbrev pub invariant-loop-line : goal.invariant-loop-line
invariant-loop-line g l =
    let m = meaning g.B.Bench in
    let from = l.line-iterator in
    let all = l.initial.line-iterator in
    vec_items l.out ++ answers (m l.bench) (vec_items l.page) from.next from.lines
    ≡ vec_items l.initial.out ++ answers (m l.initial.bench) [] all.next all.lines
