use Rattle.std.proofs.Common.{◌≡◌, ◌<◌, ap, ◌∙◌, ap₂, arith}
use Rattle.standard.specs.Field.{mul, inverse}
use Rattle.standard.proofs.FieldLaws.{inverse_inverts, inverse_zero}
use Rattle.standard.proofs.field.inverse.Goals as goal

power : (c : goal.After-mul-6) → c.mul-6.result ≡ inverse c.args.a
unfolding inverse
power c =
    let e2 = c.mul-a2.ensures in
    let e4 = c.mul-a4.ensures ∙ ap₂ mul e2 e2 in
    let e8 = c.mul-a8.ensures ∙ ap₂ mul e4 e4 in
    let e16 = c.mul-a16.ensures ∙ ap₂ mul e8 e8 in
    let e32 = c.mul-a32.ensures ∙ ap₂ mul e16 e16 in
    let e64 = c.mul-a64.ensures ∙ ap₂ mul e32 e32 in
    let e128 = c.mul-a128.ensures ∙ ap₂ mul e64 e64 in
    c.mul-6.ensures ∙ ap₂ mul e2 (c.mul-5.ensures ∙ ap₂ mul e4 (c.mul-4.ensures ∙ ap₂ mul e8 (c.mul-3.ensures ∙ ap₂ mul e16 (c.mul-2.ensures ∙ ap₂ mul e32 (c.mul.ensures ∙ ap₂ mul e64 e128)))))

pub returns : goal.returns
returns c =
    let a = c.args.a in
    let h : a < 256 = omega arith in
    record {
      is = power c;
      inverts = λ nonzero. ap (mul a) (power c) ∙ inverse_inverts a h nonzero;
      zero = λ e. power c ∙ ap inverse e ∙ inverse_zero;
    }
