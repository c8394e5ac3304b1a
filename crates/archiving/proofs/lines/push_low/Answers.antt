use Rattle.std.proofs.Common.{◌≡◌, ◌-◌, ◌*◌, ◌/◌, ◌%◌, ◌^◌, [], ◌∷◌, ◌++◌, vec_items, sym, ap, ◌∙◌, append_assoc, append-nil, arith}
use Rattle.text.specs.Text.{hex_text}
use Rattle.archiving.specs.Lines.{low_text}
use Rattle.archiving.proofs.Lows.{low_more}
use Rattle.archiving.proofs.lines.push_low.Goals as goal

pub loop-j-preserved : goal.loop-j-preserved
loop-j-preserved c =
    let w = c.args.word in
    let k = c.loop-j.j in
    let had = vec_items c.loop-j.out in
    let one = hex_text ((w / 2 ^ (8 * (k - 1)) % 256) ∷ []) in
    ap (λ l. l ++ low_text w (k - 1)) c.in_ok-push_hex.ensures
    ∙ append_assoc had one (low_text w (k - 1))
    ∙ ap (λ l. had ++ l) (sym (low_more w k (omega arith)))
    ∙ c.loop-j.invariant

pub returns : goal.returns
unfolding low_text
returns c =
    let had = vec_items c.loop-j.out in
    let e : c.loop-j.j ≡ 0 = omega arith in
    sym (append-nil had) ∙ ap (λ n. had ++ low_text c.args.word n) (sym e) ∙ c.loop-j.invariant
