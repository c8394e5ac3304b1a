use Rattle.std.proofs.Common.{◌≡◌, ◌-◌, ap, ◌∙◌, ap₂, arith}
use Rattle.standard.specs.Cipher.{AddRoundKey, InvSubBytes, inv_state_after}
use Rattle.standard.specs.Kinds.{aes128, key_in, ciphered, deciphered}
use Rattle.standard.proofs.StateLaws.{bytes_from}
use Rattle.standard.proofs.Loops.{inv_round_more, deciphered_last, ciphered_deciphered}
use Rattle.standard.proofs.cipher.inv_cipher.Goals as goal

pub loop-n-preserved : goal.loop-n-preserved
loop-n-preserved c =
    let n = c.loop-n.n in
    let one_less : c.inv_round-state.result ≡ inv_state_after 10 (10 - (n - 1)) c.args.block.now (key_in c.args.keys.now) =
    c.inv_round-state.ensures ∙ inv_round_more aes128 c.args.keys.now c.args.block.now 10 (10 - n) (10 - (n - 1)) (n - 1) c.loop-n.state (omega arith) (omega arith) c.loop-n.invariant.1 in
    (omega arith, one_less)

is : (c : goal.After-add_round_key) → c.add_round_key.result ≡ deciphered aes128 c.args.keys.now c.args.block.now
is c =
    let subbed = c.inv_sub_bytes-subbed.ensures ∙ ap InvSubBytes c.inv_shift_rows.ensures in
    c.add_round_key.ensures ∙ ap₂ AddRoundKey subbed c.key_in-2.ensures
    ∙ deciphered_last aes128 c.args.keys.now c.args.block.now (10 - c.loop-n.n) c.loop-n.state (omega arith) c.loop-n.invariant.1

pub returns : goal.returns
returns c =
    let keys = c.args.keys.now in
    let block = c.args.block.now in
    record {
      is = is c;
      undone = ap (ciphered aes128 keys) (is c) ∙ ciphered_deciphered aes128 keys block (bytes_from keys c.fits-keys) (c.told-block, bytes_from block c.fits-block);
    }
