use Rattle.standard.proofs.Rounds.{inv_cipher_cipher, cipher_inv_cipher}
use Rattle.standard.proofs.undoing.ciphers_undo_each_other.Goals as goal

pub returns : goal.returns
returns c = record { back = inv_cipher_cipher; forth = cipher_inv_cipher }
