use Rattle.coordinates.specs.Tower.{second_of}
use Rattle.coordinates.proofs.tower.second_of.Goals as goal

pub returns : goal.returns
unfolding second_of
returns c = c.part.ensures
