use Rattle.coordinates.specs.Tower.{first_of}
use Rattle.coordinates.proofs.tower.first_of.Goals as goal

pub returns : goal.returns
unfolding first_of
returns c = c.part.ensures
