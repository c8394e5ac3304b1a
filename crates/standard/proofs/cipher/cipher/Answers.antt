use Rattle.std.proofs.Common.{◌≡◌, ap, ◌∙◌, ap₂, arith}
use Rattle.standard.specs.Cipher.{AddRoundKey, ShiftRows}
use Rattle.standard.specs.Kinds.{aes128, ciphered, deciphered}
use Rattle.standard.proofs.StateLaws.{bytes_from}
use Rattle.standard.proofs.Loops.{round_more, ciphered_last, deciphered_ciphered}
use Rattle.standard.proofs.cipher.cipher.Goals as goal

pub loop-n-preserved : goal.loop-n-preserved
loop-n-preserved c = c.round-state.ensures ∙ round_more aes128 c.args.keys.now c.args.block.now c.loop-n.n c.loop-n.state (omega arith) c.loop-n.invariant

is : (c : goal.After-add_round_key) → c.add_round_key.result ≡ ciphered aes128 c.args.keys.now c.args.block.now
is c =
    let shifted = c.shift_rows-shifted.ensures ∙ ap ShiftRows c.sub_bytes.ensures in
    c.add_round_key.ensures ∙ ap₂ AddRoundKey shifted c.key_in-2.ensures
    ∙ ciphered_last aes128 c.args.keys.now c.args.block.now c.loop-n.n c.loop-n.state (omega arith) c.loop-n.invariant

pub returns : goal.returns
returns c =
    let keys = c.args.keys.now in
    let block = c.args.block.now in
    record {
      is = is c;
      undone = ap (deciphered aes128 keys) (is c) ∙ deciphered_ciphered aes128 keys block (bytes_from keys c.fits-keys) (c.told-block, bytes_from block c.fits-block);
    }
