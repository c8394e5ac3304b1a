-- More registers than a bench can have are refused as one too many is. Assumes nothing.
use Rattle.std.proofs.Common.{◌≡◌, ℕ, ◌+◌, ◌*◌, ◌<◌, ◌≤◌, min, max, leb, Ok, Err, Result, sym, ap, ◌∙◌, inl, inr, arith}
use Rattle.std.proofs.lemmas.Bool.{cases_lt, lt-leb, cond-false}
use Rattle.bench.specs.declared.faults.Question.TheVariants.{Register}
use Rattle.bench.specs.declared.faults.Part.TheVariants.{Bench}
use Rattle.bench.specs.declared.faults.Fault.{Fault}
use Rattle.bench.specs.Faults.{fault}
use Rattle.bench.specs.Model.{Model, in_lane, after}
use Rattle.lane.specs.Spans.{span_answer}

refused : (m : Model) (base n lane : ℕ) → m.registers < base + n → span_answer m base n lane ≡ Err (fault Register Bench (max base m.registers))
refused m base n lane h = cond-false (leb (base + n) m.registers) (in_lane m.lanes lane (Ok tt)) _ (lt-leb (base + n) m.registers h)

-- y is what is left of x where r answers for k registers, with what f makes of their number
pub wide : {X : Type 0} (m : Model) (base n k lane : ℕ) (r : Result (Unit {0}) Fault) (f : ℕ → X) (x y : X)
    → m.registers ≤ 65535 → k ≡ 8 * min n 8192 → r ≡ span_answer m base k lane → y ≡ after r (f k) x
    → (r ≡ span_answer m base (8 * n) lane) × (y ≡ after r (f (8 * n)) x)
wide m base n k lane r f x y few count answer leaves =
    elim (cases_lt n 8192) [
      | inl p ↦ let e : k ≡ 8 * n = omega (arith, count) in (answer ∙ ap (λ j. span_answer m base j lane) e, leaves ∙ ap (λ j. after r (f j) x) e)
      | inr p ↦
          let no = answer ∙ refused m base k lane (omega (arith, count, few)) in
          (no ∙ sym (refused m base (8 * n) lane (omega (arith, few))), leaves ∙ ap (λ s. after s (f k) x) no ∙ sym (ap (λ s. after s (f (8 * n)) x) no))
    ]
