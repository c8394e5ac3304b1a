use Rattle.bench.specs.Benches.{meaning}
use Rattle.std.proofs.Common.{Err, sym, refl, ap, ◌∙◌, ap₂}
use Rattle.std.proofs.lemmas.Result.{err_from_is_err_and}
use Rattle.player.specs.Plays.{played, played_in}
use Rattle.plans.specs.Plays.{do_play, do_play_in}
use Rattle.plans.proofs.Turns.{answer_stops, carried_stops, answer_goes, carried_goes, answer_ends, carried_ends}
use Rattle.plans.proofs.runs.play_plan.Goals as goal

pub loop-p-init : goal.loop-p-init
loop-p-init g c = (refl, refl, refl)

pub returns-in_err-play : goal.returns-in_err-play
returns-in_err-play g c =
    let m = meaning g.B.Bench in
    let inv = c.args.inverter.now in let xs = c.args.plan.now in let i = c.loop-p.p-index in
    let said = c.in_err-play.ensures in
    let exit = err_from_is_err_and c.from_residual.result c.from_residual.ensures.1 in
    record {
      answer = exit.1 ∙ ap Err exit.2 ∙ sym (c.loop-p.invariant.0 ∙ answer_stops inv xs i _ c.loop-p-test.true (m c.loop-p.bench) c.page.ensures c.bases.ensures _ said.answer);
      leaves = said.leaves ∙ sym (c.loop-p.invariant.1 ∙ carried_stops inv xs i _ c.loop-p-test.true (m c.loop-p.bench) c.page.ensures c.bases.ensures _ said.answer (do_play inv) (m c.loop-p.bench));
      beneath = said.beneath ∙ sym (c.loop-p.invariant.2 ∙ carried_stops inv xs i _ c.loop-p-test.true (m c.loop-p.bench) c.page.ensures c.bases.ensures _ said.answer (do_play_in inv) (g.B.Bench.beneath c.loop-p.bench));
    }

pub loop-p-preserved : goal.loop-p-preserved
loop-p-preserved g c =
    let m = meaning g.B.Bench in
    let inv = c.args.inverter.now in let xs = c.args.plan.now in let i = c.loop-p.p-index in
    let said = c.in_ok-play.ensures in
    let m' = m c.play.new.bench in (
      c.loop-p.invariant.0 ∙ answer_goes inv xs i _ c.loop-p-test.true (m c.loop-p.bench) c.page.ensures c.bases.ensures _ said.answer m' said.leaves,
      c.loop-p.invariant.1 ∙ carried_goes inv xs i _ c.loop-p-test.true (m c.loop-p.bench) c.page.ensures c.bases.ensures _ said.answer m' said.leaves
          (do_play inv) (m c.loop-p.bench) m' (sym (said.leaves ∙ ap₂ (λ x y. played x y (m c.loop-p.bench)) c.page.ensures c.bases.ensures)),
      c.loop-p.invariant.2 ∙ carried_goes inv xs i _ c.loop-p-test.true (m c.loop-p.bench) c.page.ensures c.bases.ensures _ said.answer m' said.leaves
          (do_play_in inv) (g.B.Bench.beneath c.loop-p.bench) (g.B.Bench.beneath c.play.new.bench)
          (sym (said.beneath ∙ ap₂ (λ x y. played_in x y (g.B.Bench.beneath c.loop-p.bench)) c.page.ensures c.bases.ensures)),
    )

pub returns : goal.returns
returns g c =
    let m = meaning g.B.Bench in
    let inv = c.args.inverter.now in let xs = c.args.plan.now in let i = c.loop-p.p-index in
    record {
      answer = sym (c.loop-p.invariant.0 ∙ answer_ends inv xs i (m c.loop-p.bench) c.loop-p-test.false);
      leaves = sym (c.loop-p.invariant.1 ∙ carried_ends inv xs i (m c.loop-p.bench) c.loop-p-test.false (do_play inv) (m c.loop-p.bench));
      beneath = sym (c.loop-p.invariant.2 ∙ carried_ends inv xs i (m c.loop-p.bench) c.loop-p-test.false (do_play_in inv) (g.B.Bench.beneath c.loop-p.bench));
    }
