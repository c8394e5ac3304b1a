use Rattle.std.proofs.Common.{ap, ◌∙◌, ap₂}
use Rattle.standard.specs.Cipher.{AddRoundKey, InvMixColumns, InvSubBytes}
use Rattle.standard.proofs.cipher.inv_round.Goals as goal

pub returns : goal.returns
returns c =
    let subbed = c.inv_sub_bytes-subbed.ensures ∙ ap InvSubBytes c.inv_shift_rows.ensures in
    c.inv_mix_columns.ensures ∙ ap InvMixColumns (c.add_round_key-added.ensures ∙ ap₂ AddRoundKey subbed c.key_in.ensures)
