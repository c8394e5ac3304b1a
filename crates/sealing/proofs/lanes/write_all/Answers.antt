use Rattle.std.proofs.Common.{◌≡◌, ℕ, ◌+◌, ◌-◌, ◌*◌, ◌<◌, List, replicate, refl, ap, ◌∙◌, arith}
use borrow.Rule.Slice.PartMut.{put_mid}
use Rattle.unit.specs.Held.{view}
use Rattle.unit.specs.Lanes.{state_of}
use Rattle.unit.specs.Answers.{settled}
use Rattle.sealing.specs.Sealed.{hex_line}
use Rattle.sealing.proofs.Written.{length_lines, lines_more}
use Rattle.sealing.proofs.lanes.write_all.Goals as goal

pub loop-lane-preserved : goal.loop-lane-preserved
loop-lane-preserved g c =
    let i = c.loop-lane.lane in
    let f : ℕ → List ℕ = state_of (view g.B.Bench c.args.unit.now).model in
    let line = c.copy_from_slice.new.self in
    let lt : i < c.args.count = omega arith in
    let size = 33 * i + 33 - 33 * i in
    let state : c.read.new.buffer ≡ f i = c.read.ensures.bytes ∙ ap (λ o. settled o (f i) (replicate 16 0)) (c.requires.readable i lt) in
    ap (λ o. put_mid (33 * i) size o line) c.loop-lane.invariant
    ∙ lines_more f c.args.out.now line i size (length_lines f i (λ k h. refl)) (omega arith) (c.copy_from_slice.ensures.after ∙ c.hex_line.ensures ∙ ap hex_line state)
