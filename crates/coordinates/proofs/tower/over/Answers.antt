use Rattle.std.proofs.Common.{ap₂}
use lib.Bits.{bit_xor}
use Rattle.coordinates.specs.Tower.{over}
use Rattle.coordinates.proofs.tower.over.Goals as goal

pub returns : goal.returns
unfolding over
returns c = ap₂ bit_xor c.mul.ensures c.mul-2.ensures
