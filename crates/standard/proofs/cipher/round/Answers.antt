use Rattle.std.proofs.Common.{ap, ◌∙◌, ap₂}
use Rattle.standard.specs.Cipher.{AddRoundKey, MixColumns, ShiftRows}
use Rattle.standard.proofs.cipher.round.Goals as goal

pub returns : goal.returns
returns c =
    c.add_round_key.ensures
    ∙ ap₂ AddRoundKey (c.mix_columns-mixed.ensures ∙ ap MixColumns (c.shift_rows.ensures ∙ ap ShiftRows c.sub_bytes.ensures)) c.key_in.ensures
