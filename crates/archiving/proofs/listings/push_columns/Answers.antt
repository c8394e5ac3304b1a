use Rattle.std.proofs.Common.{◌≡◌, ◌∷◌, [], map, vec_items, codes, ap}
use Rattle.archiving.specs.Listings.{column_lines, quarters}
use Rattle.archiving.proofs.Written.{last_pushed, pushed_as}
use Rattle.archiving.proofs.listings.push_columns.Goals as goal

pub returns : goal.returns
returns c =
    let s = vec_items c.args.out.now in
    let n = c.args.count in
    let gs = c.args.gates.now in
    let ws = c.in_ok-input_words.field-0 ∷ c.in_ok-input_words-2.field-0 ∷ c.in_ok-input_words-3.field-0 ∷ c.in_ok-input_words-4.field-0 ∷ [] in
    let same : map vec_items ws ≡ quarters n = λ i. c.in_ok-input_words.ensures i ∷ c.in_ok-input_words-2.ensures i ∷ c.in_ok-input_words-3.ensures i ∷ c.in_ok-input_words-4.ensures i ∷ [] in
    let all = vec_items c.push_column_lines.new.out in
    last_pushed c.push_column_lines.result s (codes " gate  kind    t    a    b   column\n") (column_lines 0 (quarters n) gs) all c.in_ok-push_text.ensures
    (pushed_as c.push_column_lines.result (vec_items c.push_text.new.out) (column_lines 0 (map vec_items ws) gs) (column_lines 0 (quarters n) gs) all (ap (λ qs. column_lines 0 qs gs) same) c.push_column_lines.ensures)
