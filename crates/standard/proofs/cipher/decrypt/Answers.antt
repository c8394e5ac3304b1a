use Rattle.std.proofs.Common.{◌≡◌, ap, ◌∙◌, arith}
use Rattle.standard.specs.Kinds.{aes128, encrypted, decrypted}
use Rattle.standard.proofs.StateLaws.{bytes_from}
use Rattle.standard.proofs.Loops.{deciphered_decrypted}
use Rattle.standard.proofs.UnderKeys.{encrypted_decrypted}
use Rattle.standard.proofs.cipher.decrypt.Goals as goal

is : (c : goal.After-inv_cipher) → c.inv_cipher.result ≡ decrypted aes128 c.args.key.now c.args.block.now
is c =
    c.inv_cipher.ensures.is
    ∙ deciphered_decrypted aes128 c.args.key.now c.key_expansion.result c.args.block.now (λ n h. c.key_expansion.ensures n (omega arith))

pub returns : goal.returns
returns c =
    let key = c.args.key.now in
    let block = c.args.block.now in
    record {
      is = is c;
      undone = ap (encrypted aes128 key) (is c) ∙ encrypted_decrypted aes128 key block (bytes_from key c.fits-key) (c.told-block, bytes_from block c.fits-block);
    }
