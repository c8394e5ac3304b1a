use Rattle.std.proofs.Common.{◌≡◌, ap, ◌∙◌, arith}
use Rattle.standard.specs.Field.{inverse, SBox, InvSBox}
use Rattle.standard.proofs.FieldLaws.{SBox_InvSBox}
use Rattle.standard.proofs.field.inv_sbox.Goals as goal

is : (c : goal.After-inverse) → c.inverse.result ≡ InvSBox c.args.a
unfolding InvSBox
is c = c.inverse.ensures.is ∙ ap inverse c.inv_affine.ensures

pub returns : goal.returns
returns c = record { is = is c; undone = ap SBox (is c) ∙ SBox_InvSBox c.args.a (omega arith) }
