use Rattle.std.proofs.Common.{◌≡◌, ap, ◌∙◌, arith}
use Rattle.coordinates.specs.Coordinates.{from_coordinates, to_coordinates}
use Rattle.coordinates.proofs.CoordinateLaws.{from_to, only, to_xor}
use Rattle.coordinates.proofs.basis.to_coordinates.Goals as goal

is : (c : goal.After-combined) → c.combined.result ≡ to_coordinates c.args.byte
unfolding to_coordinates
is c = c.combined.ensures

pub returns : goal.returns
returns c = record { is = is c; back = ap from_coordinates (is c) ∙ from_to c.args.byte (omega arith); only = only; sums = to_xor }
