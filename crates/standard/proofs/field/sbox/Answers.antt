use Rattle.std.proofs.Common.{◌≡◌, ap, ◌∙◌, arith}
use Rattle.standard.specs.Field.{affine, SBox, InvSBox}
use Rattle.standard.proofs.FieldLaws.{InvSBox_SBox}
use Rattle.standard.proofs.field.sbox.Goals as goal

is : (c : goal.After-affine) → c.affine.result ≡ SBox c.args.a
unfolding SBox
is c = c.affine.ensures ∙ ap affine c.inverse.ensures.is

pub returns : goal.returns
returns c = record { is = is c; undone = ap InvSBox (is c) ∙ InvSBox_SBox c.args.a (omega arith) }
