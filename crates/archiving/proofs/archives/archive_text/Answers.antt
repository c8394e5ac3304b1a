use Rattle.std.proofs.Common.{◌++◌, vec_items}
use Rattle.plans.specs.Pages.{own_inverter}
use Rattle.archiving.specs.Parts.{Extends, every_page, every_play}
use Rattle.archiving.proofs.Held.{held_in, extends_then, extends_from}
use Rattle.archiving.proofs.archives.archive_text.Goals as goal

pub returns : goal.returns
unfolding every_page own_inverter
returns c =
    let v1 = vec_items c.push_text.new.out in
    let v2 = vec_items c.push_pages.new.out in
    let v3 = vec_items c.push_text-2.new.out in
    let v4 = vec_items c.push_plans.new.out in
    let pages : Extends every_page v1 v2 = c.in_ok-push_pages.ensures in
    let plays : Extends every_play v2 v4 = extends_from every_play v2 v3 v4 _ c.in_ok-push_text-2.ensures c.in_ok-push_plans.ensures in
    held_in (every_page ++ every_play) v1 v4 (vec_items c.push_text-3.new.out) _ (extends_then every_page every_play v1 v2 v4 pages plays) c.in_ok-push_text-3.ensures
