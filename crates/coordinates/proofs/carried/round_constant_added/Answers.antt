use Rattle.std.proofs.Common.{◌≡◌, ℕ, ap, ◌∙◌}
use lib.Bits.{bit_xor}
use Rattle.coordinates.specs.Coordinates.{to_coordinates}
use Rattle.coordinates.specs.Carried.{carried_rcon}
use Rattle.coordinates.proofs.CarriedLaws.{Rcon_carried}
use Rattle.coordinates.proofs.carried.round_constant_added.Goals as goal

constant : (c : goal.After-to_coordinates) → c.to_coordinates.result ≡ carried_rcon c.args.n
unfolding carried_rcon
constant c = c.to_coordinates.ensures.is ∙ ap to_coordinates c.rcon.ensures

pub returns : goal.returns
returns c =
    let n = c.args.n in
    let is = ap (bit_xor c.args.c) (constant c) in
    record { is = is; carries = λ b e. is ∙ ap (λ (x : ℕ). bit_xor x (carried_rcon n)) e ∙ Rcon_carried n b }
