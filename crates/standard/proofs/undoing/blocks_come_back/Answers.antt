use Rattle.standard.proofs.UnderKeys.{decrypted_encrypted, encrypted_decrypted}
use Rattle.standard.proofs.undoing.blocks_come_back.Goals as goal

pub returns : goal.returns
returns c = record { back = decrypted_encrypted; forth = encrypted_decrypted }
