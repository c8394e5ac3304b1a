use Rattle.std.proofs.Common.{◌≡◌, ℕ, suc, ◌+◌, ◌-◌, ◌/◌, Bool, cond, sym, refl, ap, ◌∙◌, ap₂, arith, eq-eqb, ne_eqb}
use lib.Bits.{bit_xor, xor_zero_r}
use Rattle.standard.specs.Bits.{odd}
use Rattle.standard.specs.Field.{mul, mul_by}
use Rattle.standard.proofs.FieldLaws.{mul_by_step}
use Rattle.standard.proofs.field.mul.Goals as goal
use Rattle.standard.proofs.field.mul.Goals.{then-rest-eq1, else-rest-eq1}

pub loop-i-init : goal.loop-i-init
unfolding mul
loop-i-init c = refl

-- the product after a turn
summed : (c : goal.After-xtime-power) → c.if-rest-eq1.product ≡ bit_xor c.loop-i.product (cond (odd c.loop-i.rest) c.loop-i.power 0)
summed c =
    let to = λ (q : Bool). bit_xor c.loop-i.product (cond q c.loop-i.power 0) in
    elim c.if-rest-eq1.branch [
      | then-rest-eq1 w ↦ w.product-is ∙ sym (ap to (eq-eqb _ 1 w.if-rest-eq1.true))
      | else-rest-eq1 w ↦ w.product-is ∙ sym (ap to (ne_eqb _ 1 w.if-rest-eq1.false) ∙ xor_zero_r c.loop-i.product)
    ]

pub loop-i-preserved : goal.loop-i-preserved
loop-i-preserved c =
    let i = c.loop-i._i in
    let n = 8 - (i + 1) in
    let one_more : suc n ≡ 8 - i = omega arith in
    ap₂ (λ (p a : ℕ). bit_xor p (mul_by n a (c.loop-i.rest / 2))) (summed c) c.xtime-power.ensures
    ∙ sym (mul_by_step n c.loop-i.product c.loop-i.power c.loop-i.rest)
    ∙ ap (λ (m : ℕ). bit_xor c.loop-i.product (mul_by m c.loop-i.power c.loop-i.rest)) one_more
    ∙ c.loop-i.invariant

pub returns : goal.returns
unfolding mul_by
returns c =
    let none : 0 ≡ 8 - c.loop-i._i = omega arith in
    sym (xor_zero_r c.loop-i.product)
    ∙ ap (λ (m : ℕ). bit_xor c.loop-i.product (mul_by m c.loop-i.power c.loop-i.rest)) none
    ∙ c.loop-i.invariant
