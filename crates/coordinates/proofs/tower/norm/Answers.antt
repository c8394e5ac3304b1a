use Rattle.std.proofs.Common.{ap, ◌∙◌, ap₂}
use lib.Bits.{bit_xor}
use Rattle.standard.specs.Field.{mul}
use Rattle.coordinates.specs.Tower.{g_of}
use Rattle.coordinates.proofs.tower.norm.Goals as goal

pub returns : goal.returns
unfolding g_of
returns c = ap₂ bit_xor (c.mul-2.ensures ∙ ap (mul 0x5c) c.mul.ensures) (c.mul-4.ensures ∙ ap (mul 0xbd) c.mul-3.ensures)
