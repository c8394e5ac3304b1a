use Rattle.circuit.proofs.OpenStands.{open_stands_lem}
use Rattle.circuit.proofs.open_stands.Goals as goal

pub returns : goal.returns
returns c = open_stands_lem
