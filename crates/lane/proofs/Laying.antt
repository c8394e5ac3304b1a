-- One register more of a span. Assumes nothing.
use Rattle.std.proofs.Common.{◌≡◌, ℕ, suc, ◌+◌, ◌-◌, Bool, true, false, cond, ◌&&◌, eqb, ltb, leb, Ok, Err, Result, sym, refl, ap, inl, inr, add-one, arith}
use Rattle.std.proofs.lemmas.Bool.{cases_Bool, ltb-true, ltb-false, lt-ltb, le-ltb, leb-true, le-leb, eqb-true, eqb-false}
use Rattle.bench.specs.declared.faults.Fault.{Fault}
use Rattle.bench.specs.Model.{Model, Memory, written}
use Rattle.bench.proofs.WordModels.{same_model}
use Rattle.lane.specs.Spans.{span, laid, laid_in}

-- an answer is never both a refusal and an acceptance
pub never : {e : Fault} → ◌≡◌ {A = Result (Unit {0}) Fault} (Err e) (Ok tt) → ⊥
never h = let z : ◌≡◌ {A = ℕ} 0 1 = cc in omega arith

span_none : (base r : ℕ) → span base 0 r ≡ false
span_none base r =
    elim (cases_Bool (leb base r)) [
      | inl p ↦ let q : ltb r (base + 0) ≡ false = le-ltb r (base + 0) (omega (arith, leb-true base r p)) in rw (p, q)
      | inr p ↦ rw p
    ]

module _ (base lane : ℕ) (f : ℕ → Bool) where
  pub laid_none : (m : Model) → m ≡ laid base 0 lane f m
  unfolding laid
  laid_none m = same_model refl refl refl (λ r l. let z = span_none base r in sym (ap (λ b. cond (b && eqb l lane) (f (r - base)) (m.bit r l)) z))

  next : (n r l : ℕ) (x : Bool)
      → cond (eqb r (base + n) && eqb l lane) (f n) (cond (span base n r && eqb l lane) (f (r - base)) x) ≡ cond (span base (n + 1) r && eqb l lane) (f (r - base)) x
  next n r l x =
      elim (cases_Bool (eqb r (base + n))) [
        | inl d ↦
            let p : leb base r ≡ true = le-leb base r (omega (arith, eqb-true r (base + n) d)) in
            let q : ltb r (base + (n + 1)) ≡ true = lt-ltb r (base + (n + 1)) (omega (arith, eqb-true r (base + n) d)) in
            let s : ltb r (base + n) ≡ false = le-ltb r (base + n) (omega (arith, eqb-true r (base + n) d)) in
            let e : r - base ≡ n = omega (arith, eqb-true r (base + n) d) in
            elim (cases_Bool (eqb l lane)) [ inl k ↦ simp (d, p, q, s, k) (sym (ap f e)) | inr k ↦ simp (d, p, q, s, k) ]
        | inr d ↦
            elim (cases_Bool (leb base r)) [
              | inl p ↦ elim (cases_Bool (ltb r (base + n))) [
                | inl s ↦ let q : ltb r (base + (n + 1)) ≡ true = lt-ltb r (base + (n + 1)) (omega (arith, ltb-true r (base + n) s)) in simp (d, p, q, s)
                | inr s ↦ let q : ltb r (base + (n + 1)) ≡ false = le-ltb r (base + (n + 1)) (omega (arith, ltb-false r (base + n) s, eqb-false r (base + n) d)) in simp (d, p, q, s)
              ]
              | inr p ↦ simp (d, p)
            ]
      ]

  pub laid_more : (n : ℕ) (m : Model) → written (base + n) lane (f n) (laid base n lane f m) ≡ laid base (n + 1) lane f m
  unfolding laid written
  laid_more n m = same_model refl refl refl (λ r l. next n r l (m.bit r l))

  pub laid_in_more : (n : ℕ) (x : Memory) → laid_in base (suc n) lane f x ≡ laid_in base (n + 1) lane f x
  laid_in_more n x = ap (λ k. laid_in base k lane f x) (sym (add-one n))

  pub laid_registers : (n : ℕ) (m : Model) {k : Model} → k ≡ laid base n lane f m → k.registers ≡ m.registers
  unfolding laid
  laid_registers n m e = ap (λ (x : Model). x.registers) e

  pub laid_lanes : (n : ℕ) (m : Model) {k : Model} → k ≡ laid base n lane f m → k.lanes ≡ m.lanes
  unfolding laid
  laid_lanes n m e = ap (λ (x : Model). x.lanes) e
