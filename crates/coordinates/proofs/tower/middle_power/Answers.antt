use Rattle.std.proofs.Common.{◌∙◌, ap₂}
use Rattle.standard.specs.Field.{mul}
use Rattle.coordinates.specs.Tower.{power16}
use Rattle.coordinates.proofs.tower.middle_power.Goals as goal

pub returns : goal.returns
unfolding power16
returns c =
    let e2 = c.mul-y2.ensures in
    let e4 = c.mul-y4.ensures ∙ ap₂ mul e2 e2 in
    let e8 = c.mul-y8.ensures ∙ ap₂ mul e4 e4 in
    c.mul.ensures ∙ ap₂ mul e8 e8
