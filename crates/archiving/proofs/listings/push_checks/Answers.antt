use Rattle.std.proofs.Common.{◌≡◌, ◌+◌, ◌*◌, vec_items, sym, ◌∙◌, arith}
use Rattle.archiving.specs.Listings.{masks_text, columns_text, checks_text}
use Rattle.archiving.proofs.Written.{pushed_as}
use Rattle.archiving.proofs.Listed.{many_sockets, by_masks, by_columns_lem}
use Rattle.archiving.proofs.listings.push_checks.Goals as goal
use Rattle.archiving.proofs.listings.push_checks.Goals.{else-sockets-le8-via-then-sockets-le8+else-only_sums, else-sockets-le8-via-else-sockets-le8}

pub returns-then-only_sums : goal.returns-then-only_sums
returns-then-only_sums c =
    let q = c.args.sockets in
    let n = c.args.scratch in
    let gs = c.args.gates.now in
    pushed_as c.push_masks.result (vec_items c.args.out.now) (masks_text q (8 * q + n) gs) (checks_text q n gs) (vec_items c.push_masks.new.out)
    (by_masks q n gs (omega arith) (sym c.only_sums.ensures ∙ c.if-only_sums.true)) c.push_masks.ensures

pub returns-else-sockets-le8 : goal.returns-else-sockets-le8
returns-else-sockets-le8 c =
    let q = c.args.sockets in
    let n = c.args.scratch in
    let gs = c.args.gates.now in
    let same : columns_text (8 * q + n) gs ≡ checks_text q n gs = elim c.else-sockets-le8.branch [
      | else-sockets-le8-via-then-sockets-le8+else-only_sums w ↦ by_columns_lem q n gs (sym w.only_sums.ensures ∙ w.if-only_sums.false)
      | else-sockets-le8-via-else-sockets-le8 w ↦ many_sockets q n gs w.if-sockets-le8.false
    ] in
    pushed_as c.push_columns.result (vec_items c.args.out.now) (columns_text (8 * q + n) gs) (checks_text q n gs) (vec_items c.push_columns.new.out) same c.push_columns.ensures
