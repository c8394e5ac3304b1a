use Rattle.circuit.proofs.SealStands.{seal_stands_lem}
use Rattle.circuit.proofs.seal_stands.Goals as goal

pub returns : goal.returns
returns c = seal_stands_lem
