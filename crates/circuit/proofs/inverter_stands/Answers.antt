use Rattle.circuit.proofs.Inverter.{own_inverts}
use Rattle.circuit.proofs.inverter_stands.Goals as goal

pub returns : goal.returns
returns c = own_inverts
