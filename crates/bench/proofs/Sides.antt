-- What a change of one or both of two benches is to the two side by side. Assumes nothing.
use Rattle.std.proofs.Common.{◌≡◌, ℕ, ◌-◌, ◌<◌, ◌≤◌, min, Bool, true, false, eqb, ltb, List, refl, inl, inr, arith}
use Rattle.std.proofs.lemmas.Bool.{cases_Bool, cond-true, cond-false, ltb-true, ltb-false, lt-ltb, le-ltb, eqb-true, eqb-false, eq-eqb, ne_eqb}
use Rattle.bench.specs.declared.kinds.Kind.{Kind}
use Rattle.bench.specs.Model.{Model, Memory, part, both, lanes_in, written_in, written, gated}
use Rattle.bench.specs.Side.{side_model, side_lanes}
use Rattle.bench.proofs.WordModels.{same_model}

-- a lane of the one, and of the other
pub in_first : (x y : Memory) (r l : ℕ) (v : Bool) → l < lanes_in x → written_in r l v (both x y) ≡ both (written_in r l v x) y
in_first x y r l v h = cond-true (ltb l (lanes_in x)) (both (written_in r l v x) y) (both x (written_in r (l - lanes_in x) v y)) (lt-ltb l (lanes_in x) h)

pub in_second : (x y : Memory) (r l : ℕ) (v : Bool) → lanes_in x ≤ l → written_in r l v (both x y) ≡ both x (written_in r (l - lanes_in x) v y)
in_second x y r l v h = cond-false (ltb l (lanes_in x)) (both (written_in r l v x) y) (both x (written_in r (l - lanes_in x) v y)) (le-ltb l (lanes_in x) h)

module _ (m n : Model) where
  abbrev count : ℕ
  count = min m.registers n.registers

  abbrev width : ℕ
  width = side_lanes m.lanes n.lanes

  pub side_gated : (k : Kind) (t a b : ℕ) → t < count → a < count → b < count → side_model (gated k t a b m) (gated k t a b n) ≡ gated k t a b (side_model m n)
  unfolding gated
  side_gated k t a b ht ha hb =
      let ia : ltb a count ≡ true = lt-ltb a count ha in
      let ib : ltb b count ≡ true = lt-ltb b count hb in
      same_model refl refl (omega arith) (λ r l.
      elim (cases_Bool (eqb r t)) [
        | inl e ↦
            let i : ltb r count ≡ true = lt-ltb r count (omega (arith, eqb-true r t e)) in
            elim (cases_Bool (ltb l width)) [
              | inl p ↦ elim (cases_Bool (ltb l m.lanes)) [
                | inl q ↦ simp (e, i, ia, ib, p, q)
                | inr q ↦
                    let s : ltb (l - m.lanes) n.lanes ≡ true = lt-ltb (l - m.lanes) n.lanes (omega (arith, ltb-true l width p, ltb-false l m.lanes q)) in
                    simp (e, i, ia, ib, p, q, s)
              ]
              | inr p ↦ simp (e, i, p)
            ]
        | inr e ↦ simp e
      ])

  module _ (r l : ℕ) (v : Bool) (within : r < count) (h : l < width) where
    pub side_written_first : l < m.lanes → side_model (written r l v m) n ≡ written r l v (side_model m n)
    unfolding written
    side_written_first f = same_model refl refl refl (λ i j.
        elim (cases_Bool (eqb i r)) [
          | inl d ↦
              let c : ltb i count ≡ true = lt-ltb i count (omega (arith, eqb-true i r d)) in
              elim (cases_Bool (eqb j l)) [
                | inl e ↦
                    let p : ltb j width ≡ true = lt-ltb j width (omega (arith, eqb-true j l e)) in
                    let q : ltb j m.lanes ≡ true = lt-ltb j m.lanes (omega (arith, eqb-true j l e)) in
                    simp (c, d, e, p, q)
                | inr e ↦ simp (c, d, e)
              ]
          | inr d ↦ simp d
        ])

    pub side_written_second : m.lanes ≤ l → side_model m (written r (l - m.lanes) v n) ≡ written r l v (side_model m n)
    unfolding written
    side_written_second f = same_model refl refl refl (λ i j.
        elim (cases_Bool (eqb i r)) [
          | inl d ↦
              let c : ltb i count ≡ true = lt-ltb i count (omega (arith, eqb-true i r d)) in
              elim (cases_Bool (eqb j l)) [
                | inl e ↦
                    let p : ltb j width ≡ true = lt-ltb j width (omega (arith, eqb-true j l e)) in
                    let q : ltb j m.lanes ≡ false = le-ltb j m.lanes (omega (arith, eqb-true j l e)) in
                    let s : eqb (j - m.lanes) (l - m.lanes) ≡ true = eq-eqb (j - m.lanes) (l - m.lanes) (omega (arith, eqb-true j l e)) in
                    simp (c, d, e, p, q, s)
                | inr e ↦ elim (cases_Bool (ltb j m.lanes)) [
                  | inl q ↦ simp (c, d, e, q)
                  | inr q ↦
                      let s : eqb (j - m.lanes) (l - m.lanes) ≡ false = ne_eqb (j - m.lanes) (l - m.lanes) (λ z. eqb-false j l e (omega (arith, ltb-false j m.lanes q))) in
                      simp (c, d, e, q, s)
                ]
              ]
          | inr d ↦ simp d
        ])

-- equal memories are equal part by part
pub record SamePart (n k : ℕ) (b d : List ℕ) (m p : Model) : Type 0 where
  pub at : n ≡ k
  pub others : b ≡ d
  pub meaning : m ≡ p

pub same_part : {n k : ℕ} {b d : List ℕ} {m p : Model} → part n b m ≡ part k d p → SamePart n k b d m p
same_part e = record { at = cc; others = cc; meaning = cc }

pub same_both : {x y z w : Memory} → both x y ≡ both z w → (x ≡ z) × (y ≡ w)
same_both e = (cc, cc)
