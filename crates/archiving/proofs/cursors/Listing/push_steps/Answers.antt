use Rattle.std.proofs.Common.{vec_items}
use Rattle.archiving.proofs.Reaching.{listed_none, listed_then}
use Rattle.archiving.proofs.cursors.Listing.push_steps.Goals as goal

pub loop-step-init : goal.loop-step-init
loop-step-init c = listed_none c.args.self.now (vec_items c.args.out.now)

pub loop-step-preserved : goal.loop-step-preserved
loop-step-preserved c = listed_then _ _ _ _ _ _ c.loop-step.invariant c.in_ok-push_step.ensures
