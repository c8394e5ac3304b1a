use Rattle.std.proofs.Common.{◌≡◌, ap, ◌∙◌, arith}
use Rattle.standard.specs.Kinds.{aes128, encrypted, decrypted}
use Rattle.standard.proofs.StateLaws.{bytes_from}
use Rattle.standard.proofs.Loops.{ciphered_encrypted}
use Rattle.standard.proofs.UnderKeys.{decrypted_encrypted}
use Rattle.standard.proofs.cipher.encrypt.Goals as goal

is : (c : goal.After-cipher) → c.cipher.result ≡ encrypted aes128 c.args.key.now c.args.block.now
is c =
    c.cipher.ensures.is
    ∙ ciphered_encrypted aes128 c.args.key.now c.key_expansion.result c.args.block.now (λ n h. c.key_expansion.ensures n (omega arith))

pub returns : goal.returns
returns c =
    let key = c.args.key.now in
    let block = c.args.block.now in
    record {
      is = is c;
      undone = ap (decrypted aes128 key) (is c) ∙ decrypted_encrypted aes128 key block (bytes_from key c.fits-key) (c.told-block, bytes_from block c.fits-block);
    }
