use Rattle.std.proofs.Common.{refl}
use Rattle.plans.specs.Pages.{own_inverter}
use Rattle.plans.proofs.plays.own_inverter.Goals as goal

pub returns : goal.returns
unfolding own_inverter
returns c = refl
