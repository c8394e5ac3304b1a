use Rattle.standard.proofs.UnderKeys.{ciphers_states}
use Rattle.standard.proofs.undoing.ciphers_give_states.Goals as goal

pub returns : goal.returns
returns c = ciphers_states
