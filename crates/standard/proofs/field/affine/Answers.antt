use Rattle.std.proofs.Common.{◌<◌, ◌∙◌, arith}
use lib.Bits.{xor_assoc}
use Rattle.standard.specs.Field.{affine}
use Rattle.standard.proofs.FieldLaws.{rotl_is}
use Rattle.standard.proofs.field.affine.Goals as goal

pub returns : goal.returns
unfolding affine
returns c =
    let b = c.args.b in
    let h : b < 256 = omega arith in
    let r1 = c.rotate_left.ensures ∙ rotl_is 1 b (omega arith) h in
    let r2 = c.rotate_left-2.ensures ∙ rotl_is 2 b (omega arith) h in
    let r3 = c.rotate_left-3.ensures ∙ rotl_is 3 b (omega arith) h in
    let r4 = c.rotate_left-4.ensures ∙ rotl_is 4 b (omega arith) h in
    simp xor_assoc (cc (r1, r2, r3, r4))
