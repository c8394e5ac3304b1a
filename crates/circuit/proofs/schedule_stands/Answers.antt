use Rattle.circuit.proofs.KeyStands.{schedule_stands_lem}
use Rattle.circuit.proofs.schedule_stands.Goals as goal

pub returns : goal.returns
returns c = schedule_stands_lem
