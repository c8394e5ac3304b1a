use Rattle.std.proofs.Common.{rules, ◌≡◌, ap, ◌∙◌}
use Rattle.standard.specs.Field.{mul}
use Rattle.coordinates.specs.Coordinates.{from_coordinates, to_coordinates}
use Rattle.coordinates.specs.Carried.{carried_times}
use Rattle.coordinates.proofs.CarriedLaws.{times_carried_lem}
use Rattle.coordinates.proofs.carried.times_carried.Goals as goal

is : (c : goal.After-carried) → c.carried.result ≡ carried_times c.args.m c.args.c
unfolding carried_times
is c =
    let byte : c.carried.ensures.0 ≡ mul c.args.m (from_coordinates c.args.c) = search rules in
    c.carried.ensures.2 ∙ ap to_coordinates byte

pub returns : goal.returns
returns c = record { is = is c; carries = λ b h e. is c ∙ ap (carried_times c.args.m) e ∙ times_carried_lem c.args.m b h }
