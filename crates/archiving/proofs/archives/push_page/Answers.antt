use Rattle.std.proofs.Common.{[], ◌∷◌, ◌++◌, vec_items, ap, ◌∙◌}
use Rattle.archiving.specs.Listings.{gates_text}
use Rattle.archiving.specs.Parts.{page_part}
use Rattle.archiving.proofs.Held.{extends_part, extends_from}
use Rattle.archiving.proofs.archives.push_page.Goals as goal

pub returns : goal.returns
returns c =
    let v0 = vec_items c.args.out.now in
    let v1 = vec_items c.push_text.new.out in
    let v2 = vec_items c.push_text-2.new.out in
    let v3 = vec_items c.push_text-3.new.out in
    let v4 = vec_items c.push_text-4.new.out in
    let v5 = vec_items c.push_text-5.new.out in
    let v6 = vec_items c.push_gates.new.out in
    let part = page_part c.args.inverter.now c.args.play.now in
    let last = extends_part v5 v6 part (c.in_ok-push_gates.ensures ∙ ap (λ l. v5 ++ gates_text l) c.page.ensures) in
    extends_from (part ∷ []) v0 v1 v6 _ c.in_ok-push_text.ensures
    (extends_from (part ∷ []) v1 v2 v6 _ c.in_ok-push_text-2.ensures
    (extends_from (part ∷ []) v2 v3 v6 _ c.in_ok-push_text-3.ensures
    (extends_from (part ∷ []) v3 v4 v6 _ c.in_ok-push_text-4.ensures (extends_from (part ∷ []) v4 v5 v6 _ c.in_ok-push_text-5.ensures last))))
