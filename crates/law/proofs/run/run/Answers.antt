use Rattle.std.proofs.Common.{◌≡◌, ap, ◌∙◌}
use Rattle.unit.specs.View.{made}
use Rattle.unit.specs.Held.{view, meaning}
use Rattle.law.specs.Calls.{asks, lines, log, ran}
use Rattle.law.proofs.Loop.{turn, finished}
use Rattle.law.proofs.Whole.{lawful_of}
use Rattle.law.proofs.run.run.Goals as goal

pub loop-entry-preserved : goal.loop-entry-preserved
loop-entry-preserved g c =
    turn _ _ _ _ _ _ c.entry-item.result _ c.loop-entry-test.true c.loop-entry.auto.log c.loop-entry.invariant c.perform.ensures.said c.perform.ensures.became c.perform.ensures.sound

pub returns : goal.returns
returns g c =
    let m = meaning g.B.Bench c.args.bench in
    let x = g.B.Bench.beneath c.args.bench in
    let u = view g.B.Bench c.loop-entry.unit in
    let calls = asks c.args.log.now in
    let end = finished _ u _ _ _ c.loop-entry-test.false c.loop-entry.auto.log c.loop-entry.invariant in
    let told : lines c.loop-entry.log ≡ log (made m x) calls = end.0 ∙ ap (λ v. log v calls) c.new-unit.ensures.empty in
    let same : u ≡ ran (made m x) calls = end.1 ∙ ap (λ v. ran v calls) c.new-unit.ensures.empty in
    record { log = told; unit = same; law = lawful_of m x u calls _ end.2 told same; sound = end.2 }
