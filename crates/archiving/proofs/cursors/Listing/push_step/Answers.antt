use Rattle.std.proofs.Common.{◌≤◌, length, vec_items, refl, rules, arith}
use Rattle.archiving.proofs.Reaching.{reached_step}
use Rattle.archiving.proofs.cursors.Listing.push_step.Goals as goal

pub returns : goal.returns
returns c =
    let plan = c.args.self.now.plan.now in
    let at = c.args.self.now.at in
    let end = c.min-end.result in
    let high : at ≤ length plan = c.args.self.now.within in
    let low : at ≤ end = search rules in
    let top : end ≤ length plan = search rules in
    record {
      plan = refl;
      plays = reached_step plan at end _ (vec_items c.args.out.now) (vec_items c.push_text.new.out) (vec_items c.push_plays.new.out) _ low top c.in_ok-push_text.ensures (grind arith) c.in_ok-push_plays.ensures;
    }
