use Rattle.standard.proofs.Words.{expands}
use Rattle.standard.proofs.UnderKeys.{round_keys_bytes}
use Rattle.standard.proofs.undoing.expansion_stands.Goals as goal

pub returns : goal.returns
returns c = record { words = expands; bytes = round_keys_bytes }
