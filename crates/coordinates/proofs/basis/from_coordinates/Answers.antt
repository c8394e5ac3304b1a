use Rattle.std.proofs.Common.{◌≡◌, ap, ◌∙◌, arith}
use Rattle.coordinates.specs.Coordinates.{from_coordinates, to_coordinates}
use Rattle.coordinates.proofs.CoordinateLaws.{to_from}
use Rattle.coordinates.proofs.TowerLaws.{basis_products}
use Rattle.coordinates.proofs.basis.from_coordinates.Goals as goal

is : (c : goal.After-combined) → c.combined.result ≡ from_coordinates c.args.c
unfolding from_coordinates
is c = c.combined.ensures

pub returns : goal.returns
returns c = record { is = is c; back = ap to_coordinates (is c) ∙ to_from c.args.c (omega arith); products = basis_products }
