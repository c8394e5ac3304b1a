use Rattle.archiving.proofs.Reaching.{listed_then, listed_all}
use Rattle.archiving.proofs.planlists.push_schedule.Goals as goal

pub returns : goal.returns
returns c =
    let two = listed_then _ _ _ _ _ _ c.in_ok-push_groups.ensures c.in_ok-push_groups-2.ensures in
    listed_all _ _ _ _ _ _ c.new-listing.ensures.plan c.new-listing.ensures.start (listed_then _ _ _ _ _ _ two c.in_ok-push_steps.ensures) c.in_ok-push_rest.ensures
