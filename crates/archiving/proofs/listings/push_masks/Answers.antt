use Rattle.std.proofs.Common.{◌*◌, vec_items, codes, ◌∙◌, ap₂}
use Rattle.archiving.specs.Traces.{unit_words}
use Rattle.archiving.specs.Listings.{mask_lines}
use Rattle.archiving.proofs.Written.{last_pushed, pushed_as}
use Rattle.archiving.proofs.listings.push_masks.Goals as goal

pub returns : goal.returns
returns c =
    let s = vec_items c.args.out.now in
    let q = c.args.sockets in
    let n = c.args.count in
    let gs = c.args.gates.now in
    let same = ap₂ (λ x y. mask_lines q 0 x y gs) (c.as_mut_slice.ensures.value ∙ c.in_ok-units.ensures) (c.as_mut_slice-2.ensures.value ∙ c.in_ok-blanks.ensures) in
    let all = vec_items c.push_mask_lines.new.out in
    last_pushed c.push_mask_lines.result s (codes " gate  kind    t    a    b   mask\n") (mask_lines q 0 (unit_words (8 * q) n) (unit_words 0 n) gs) all c.in_ok-push_text.ensures
    (pushed_as c.push_mask_lines.result (vec_items c.push_text.new.out) (mask_lines q 0 c.as_mut_slice.result.now c.as_mut_slice-2.result.now gs) (mask_lines q 0 (unit_words (8 * q) n) (unit_words 0 n) gs) all same c.push_mask_lines.ensures)
