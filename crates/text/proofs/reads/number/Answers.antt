use Rattle.std.proofs.Common.{◌≡◌, ℕ, ◌+◌, ◌-◌, ◌*◌, ◌^◌, ◌≤◌, cond, ltb, get_or, drop, Some, None, sym, inl, inr, arith}
use Rattle.std.proofs.lemmas.List.{at_drop_more}
use Rattle.std.proofs.lemmas.Bool.{cond-true, lt-ltb, cases_lt}
use Rattle.text.specs.Text.{value_after}
use Rattle.text.proofs.Numbers.{value_grows, too_large}
use Rattle.text.proofs.reads.number.Goals as goal

pub returns-in_err-value : goal.returns-in_err-value
returns-in_err-value c =
    let xs = c.args.word.now in
    let i = c.loop-digit.digit-index in
    let n = c.loop-digit.value * 10 + (get_or xs i 0 - 48) in
    let one : value_after c.loop-digit.value (drop i xs) ≡ value_after n (drop (i + 1) xs) = at_drop_more (value_after c.loop-digit.value) xs i 0 c.loop-digit-test.true in
    let said : c.with_digit.result ≡ cond (ltb n (2 ^ 64)) (Some n) None = c.with_digit.ensures in
    let none : c.with_digit.result ≡ None = c.in_err-value.was in
    let large : 2 ^ 64 ≤ n =
    elim (cases_lt n (2 ^ 64)) [
      | inl l ↦ absurd (let yes-some = cond-true (ltb n (2 ^ 64)) (Some n) None (lt-ltb n (2 ^ 64) l) in let z : ◌≡◌ {A = ℕ} 0 1 = cc in omega arith)
      | inr l ↦ l
    ] in
    rw c.from_residual.ensures (sym (too_large xs (omega (arith, c.loop-digit.invariant.2, value_grows n (drop (i + 1) xs)))))
