use Rattle.std.proofs.Common.{vec_items}
use Rattle.archiving.proofs.Reaching.{listed_none, listed_then, listed_under}
use Rattle.archiving.proofs.cursors.Listing.push_groups.Goals as goal

pub loop-n-init : goal.loop-n-init
loop-n-init c = listed_none c.args.self.now (vec_items c.args.out.now)

pub loop-n-preserved : goal.loop-n-preserved
loop-n-preserved c = listed_then _ _ _ _ _ _ c.loop-n.invariant (listed_under _ _ _ _ _ c.in_ok-push_head.ensures c.in_ok-push_steps.ensures)
