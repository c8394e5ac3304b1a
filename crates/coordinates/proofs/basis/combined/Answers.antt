use Rattle.std.proofs.Common.{◌≡◌, ℕ, ◌+◌, ◌<◌, ◌≤◌, Bool, cond, List, length, get_or, drop, sym, ap, ◌∙◌, ap₂, add-one, arith, eq-eqb, ne_eqb}
use lib.Bits.{bit_xor, xor_zero_r}
use Rattle.std.proofs.lemmas.List.{drop_more, drop_all}
use Rattle.standard.specs.Bits.{bit}
use Rattle.coordinates.specs.Coordinates.{combine}
use Rattle.coordinates.proofs.CoordinateLaws.{combine_step}
use Rattle.coordinates.proofs.basis.combined.Goals as goal
use Rattle.coordinates.proofs.basis.combined.Goals.{then-v-i-eq1, else-v-i-eq1}

-- the sum after a turn
summed : (c : goal.Joined-v-i-eq1) → c.if-v-i-eq1.sum ≡ bit_xor c.loop-i.sum (cond (bit c.args.v c.loop-i.i) (get_or c.args.bytes.now c.loop-i.i 0) 0)
unfolding bit
summed c =
    let to = λ (q : Bool). bit_xor c.loop-i.sum (cond q (get_or c.args.bytes.now c.loop-i.i 0) 0) in
    elim c.if-v-i-eq1.branch [
      | then-v-i-eq1 w ↦ w.sum-is ∙ sym (ap to (eq-eqb _ 1 w.if-v-i-eq1.true))
      | else-v-i-eq1 w ↦ w.sum-is ∙ sym (ap to (ne_eqb _ 1 w.if-v-i-eq1.false) ∙ xor_zero_r c.loop-i.sum)
    ]

pub loop-i-preserved : goal.loop-i-preserved
loop-i-preserved c =
    let xs = c.args.bytes.now in
    let i = c.loop-i.i in
    let v = c.args.v in
    let sum = c.loop-i.sum in
    let b = get_or xs i 0 in
    let inside : i < length xs = omega arith in
    ap₂ (λ (s j : ℕ). bit_xor s (combine (drop (i + 1) xs) j v)) (summed c) (add-one i)
    ∙ sym (combine_step sum b (drop (i + 1) xs) i v)
    ∙ ap (λ (ys : List ℕ). bit_xor sum (combine ys i v)) (sym (drop_more xs i 0 inside))
    ∙ c.loop-i.invariant

pub returns : goal.returns
unfolding combine
returns c =
    let none : length c.args.bytes.now ≤ c.loop-i.i = omega arith in
    sym (xor_zero_r c.loop-i.sum)
    ∙ ap (λ (xs : List ℕ). bit_xor c.loop-i.sum (combine xs c.loop-i.i c.args.v)) (sym (drop_all c.loop-i.i c.args.bytes.now none))
    ∙ c.loop-i.invariant
