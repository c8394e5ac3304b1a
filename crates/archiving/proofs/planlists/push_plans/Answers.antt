use Rattle.std.proofs.Common.{List, ◌++◌, vec_items, subst}
use Rattle.standard.specs.Kinds.{aes128}
use Rattle.plans.specs.declared.plays.Play.{Play}
use Rattle.plans.specs.Plans.{schedule_plan, seal_plan, open_plan}
use Rattle.archiving.specs.Parts.{Extends, lines_of, every_play}
use Rattle.archiving.proofs.Held.{extends_then, extends_from}
use Rattle.archiving.proofs.planlists.push_plans.Goals as goal

pub returns : goal.returns
unfolding every_play
returns c =
    let v0 = vec_items c.args.out.now in
    let v1 = vec_items c.push_text.new.out in
    let v2 = vec_items c.push_schedule.new.out in
    let v3 = vec_items c.push_text-2.new.out in
    let v4 = vec_items c.push_rounds.new.out in
    let v5 = vec_items c.push_text-3.new.out in
    let v6 = vec_items c.push_rounds-2.new.out in
    let x = lines_of 0 (schedule_plan aes128) in
    let y = lines_of 0 (seal_plan aes128) in
    let z = lines_of 0 (open_plan aes128) in
    let p : Extends x v1 v2 = subst (λ (ps : List Play). Extends (lines_of 0 ps) v1 v2) c.plays.ensures c.in_ok-push_schedule.ensures in
    let q : Extends y v3 v4 = subst (λ (ps : List Play). Extends (lines_of 0 ps) v3 v4) c.plays-2.ensures c.in_ok-push_rounds.ensures in
    let r : Extends z v5 v6 = subst (λ (ps : List Play). Extends (lines_of 0 ps) v5 v6) c.plays-3.ensures c.in_ok-push_rounds-2.ensures in
    extends_then x (y ++ z) v0 v2 v6 (extends_from x v0 v1 v2 _ c.in_ok-push_text.ensures p)
    (extends_then y z v2 v4 v6 (extends_from y v2 v3 v4 _ c.in_ok-push_text-2.ensures q) (extends_from z v4 v5 v6 _ c.in_ok-push_text-3.ensures r))
