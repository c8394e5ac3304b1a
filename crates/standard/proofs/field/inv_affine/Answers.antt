use Rattle.std.proofs.Common.{◌<◌, ◌∙◌, arith}
use lib.Bits.{xor_assoc}
use Rattle.standard.specs.Field.{inv_affine}
use Rattle.standard.proofs.FieldLaws.{rotl_is}
use Rattle.standard.proofs.field.inv_affine.Goals as goal

pub returns : goal.returns
unfolding inv_affine
returns c =
    let b = c.args.b in
    let h : b < 256 = omega arith in
    let r1 = c.rotate_left.ensures ∙ rotl_is 1 b (omega arith) h in
    let r3 = c.rotate_left-2.ensures ∙ rotl_is 3 b (omega arith) h in
    let r6 = c.rotate_left-3.ensures ∙ rotl_is 6 b (omega arith) h in
    simp xor_assoc (cc (r1, r3, r6))
