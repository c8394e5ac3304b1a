use Rattle.std.proofs.Common.{ℕ, [], get_or, sym, ap, ◌∙◌, add-one}
use Rattle.unit.specs.Held.{view}
use Rattle.law.specs.Calls.{place_key, place_block, next}
use Rattle.sealing.specs.Steps.{filled}
use Rattle.sealing.proofs.lanes.place_all.Goals as goal

pub loop-lane-preserved : goal.loop-lane-preserved
loop-lane-preserved g c =
    let i = c.loop-lane.lane in
    let key = c.args.key.now in
    let block = λ (i : ℕ). get_or c.args.blocks.now i [] in
    c.place_block.ensures.after
    ∙ ap (λ v. next v (place_block i (block i))) (c.place_key.ensures.after ∙ ap (λ v. next v (place_key i key)) c.loop-lane.invariant)
    ∙ ap (filled (view g.B.Bench c.args.unit.now) key block) (sym (add-one i))
