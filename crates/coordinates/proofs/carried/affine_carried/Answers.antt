use Rattle.std.proofs.Common.{◌≡◌, ap, ◌∙◌}
use Rattle.coordinates.specs.Coordinates.{to_coordinates}
use Rattle.coordinates.specs.Carried.{carried_affine}
use Rattle.coordinates.proofs.CarriedLaws.{affine_carried_lem}
use Rattle.coordinates.proofs.carried.affine_carried.Goals as goal

is : (c : goal.After-carried) → c.carried.result ≡ carried_affine c.args.c
unfolding carried_affine
is c = c.carried.ensures.2 ∙ ap to_coordinates c.carried.ensures.1

pub returns : goal.returns
returns c = record { is = is c; carries = λ b h e. is c ∙ ap carried_affine e ∙ affine_carried_lem b h }
