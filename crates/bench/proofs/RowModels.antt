-- What writes of bytes are to a row bench's meaning. Assumes nothing.
use Rattle.std.proofs.Common.{◌≡◌, ℕ, zero, suc, ◌+◌, ◌-◌, ◌*◌, ◌/◌, ◌%◌, ◌<◌, ◌≤◌, min, Bool, true, false, cond, ◌&&◌, eqb, ltb, List, length, get_or, drop, set, sym, refl, ap, ◌∙◌, ap₂, inl, inr, mul-le-mul_right, suc-mul, div-mul-le_self, arith, length-set}
use lib.Arith.{digits_lt, digits_div}
use Rattle.std.proofs.lemmas.List.{get_or-set_same, get_or-set_other, drop-set-lt}
use Rattle.std.proofs.lemmas.Bool.{cases_Bool, cases_eq, ltb-true, ltb-false, lt-ltb, le-ltb, eqb-true, eqb-false, eq-eqb, ne_eqb}
use Rattle.bench.specs.Model.{written, gated}
use Rattle.bench.specs.Kinds.{gate_result}
use Rattle.bench.specs.Word.{put_bit, test_bit}
use Rattle.bench.specs.Row.{fit, row_lanes, spot, row_cell, row_model, rest, row_put, rows_done}
use Rattle.bench.specs.declared.kinds.Kind.{Kind}
use Rattle.bench.proofs.WordBits.{test_put}
use Rattle.bench.proofs.WordModels.{same_model}

-- a register's byte lies in its row
pub in_row : (r w : ℕ) → r < 8 * w → r / 8 < w
in_row r w h = omega arith

pub in_bytes : (n w l q : ℕ) → l < row_lanes n w → q < w → l * w + q < n
in_bytes n w l q h p = omega (arith, digits_lt {q = l} {m = n / w} {r = q} {c = w} (omega arith) p, div-mul-le_self n w)

pub rows_fit : (n w : ℕ) → row_lanes n w * w ≤ n
rows_fit n w = omega (arith, mul-le-mul_right {m = row_lanes n w} {n = n / w} w (omega arith), div-mul-le_self n w)

module _ (w : ℕ) where
  -- rows do not meet
  apart_rows : (l m p q : ℕ) → p < w → q < w → (l ≡ m → ⊥) → l * w + p ≡ m * w + q → ⊥
  apart_rows l m p q h k ne e = ne (sym (digits_div l h) ∙ ap (λ n. n / w) e ∙ digits_div m k)

  module _ (bytes : List ℕ) (m t : ℕ) (v : Bool) (ht : t / 8 < w) (within : m * w + t / 8 < length bytes) where
    pub spot_put : (r l : ℕ) → r / 8 < w → spot (row_put bytes (m * w) t v) (l * w) r ≡ cond (eqb r t && eqb l m) v (spot bytes (l * w) r)
    spot_put r l hr =
        let at : ℕ = m * w + t / 8 in
        let new : ℕ = put_bit (get_or bytes at 0) (t % 8) v in
        let other : (l * w + r / 8 ≡ at → ⊥) → spot (set bytes at new) (l * w) r ≡ spot bytes (l * w) r =
        λ ne. ap (λ x. test_bit x (r % 8)) (get_or-set_other bytes at (l * w + r / 8) new 0 ne) in
        elim (cases_Bool (eqb l m)) [
          | inr e ↦ other (apart_rows l m (r / 8) (t / 8) hr ht (eqb-false l m e)) ∙ elim (cases_Bool (eqb r t)) [ inl d ↦ simp (d, e) | inr d ↦ simp (d, e) ]
          | inl e ↦
              let lm : l * w ≡ m * w = ap (λ n. n * w) (eqb-true l m e) in
              elim (cases_eq (r / 8) (t / 8)) [
                | inr ne ↦
                    let d : eqb r t ≡ false = ne_eqb r t (λ z. ne (ap (λ n. n / 8) z)) in
                    other (λ z. ne (omega arith)) ∙ simp (d, e)
                | inl same ↦
                    let here : l * w + r / 8 ≡ at = omega arith in
                    let now : spot (set bytes at new) (l * w) r ≡ cond (eqb (r % 8) (t % 8)) v (test_bit (get_or bytes at 0) (r % 8)) =
                    ap (λ n. test_bit (get_or (set bytes at new) n 0) (r % 8)) here
                    ∙ ap (λ x. test_bit x (r % 8)) (get_or-set_same bytes at new 0 within)
                    ∙ test_put (get_or bytes at 0) (t % 8) v (r % 8) (omega arith) (omega arith) in
                    elim (cases_Bool (eqb r t)) [
                      | inl d ↦ let d' : eqb (r % 8) (t % 8) ≡ true = eq-eqb (r % 8) (t % 8) (ap (λ n. n % 8) (eqb-true r t d)) in now ∙ simp (d, e, d')
                      | inr d ↦
                          let d' : eqb (r % 8) (t % 8) ≡ false = ne_eqb (r % 8) (t % 8) (λ z. eqb-false r t d (omega arith)) in
                          now ∙ simp (d, e, d') (ap (λ n. test_bit (get_or bytes n 0) (r % 8)) (sym here))
                    ]
              ]
        ]

  module _ (k : Kind) (t a b : ℕ) (bytes : List ℕ) where
    pub done_length : (n : ℕ) → length (rows_done k t a b w n bytes) ≡ length bytes
    done_length zero = refl
    done_length (suc n) = length-set (rows_done k t a b w n bytes) _ _ ∙ done_length n

    module _ (ht : t / 8 < w) where
      pub done_rest : (m n : ℕ) → n * w ≤ m → drop m (rows_done k t a b w n bytes) ≡ drop m bytes
      done_rest m zero h = refl
      done_rest m (suc n) h = drop-set-lt m (rows_done k t a b w n bytes) (n * w + t / 8) _ (omega (arith, suc-mul n w)) ∙ done_rest m n (omega (arith, suc-mul n w))

      module _ (ha : a / 8 < w) (hb : b / 8 < w) where
        pub done_spot : (n : ℕ) → n * w ≤ length bytes → (r l : ℕ) → r / 8 < w
            → spot (rows_done k t a b w n bytes) (l * w) r ≡ cond (eqb r t && ltb l n) (gate_result k (spot bytes (l * w) a) (spot bytes (l * w) b)) (spot bytes (l * w) r)
        done_spot zero h r l hr =
            let z : ltb l 0 ≡ false = le-ltb l 0 (omega arith) in
            elim (cases_Bool (eqb r t)) [ inl d ↦ simp (d, z) | inr d ↦ simp d ]
        done_spot (suc n) h r l hr =
            let done : List ℕ = rows_done k t a b w n bytes in
            let before : n * w ≤ length bytes = omega (arith, suc-mul n w) in
            let z : ltb n n ≡ false = le-ltb n n (omega arith) in
            let same : (x : ℕ) → x / 8 < w → spot done (n * w) x ≡ spot bytes (n * w) x =
            λ x hx. done_spot n before x n hx ∙ elim (cases_Bool (eqb x t)) [ inl d ↦ simp (d, z) | inr d ↦ simp d ] in
            let v : Bool = gate_result k (spot done (n * w) a) (spot done (n * w) b) in
            let step : spot (row_put done (n * w) t v) (l * w) r ≡ cond (eqb r t && eqb l n) v (spot done (l * w) r) =
            spot_put done n t v ht (omega (arith, suc-mul n w, done_length n)) r l hr in
            let ih = done_spot n before r l hr in
            step ∙ elim (cases_Bool (eqb r t)) [
              | inr d ↦ rw (d) (ih ∙ simp d)
              | inl d ↦ elim (cases_Bool (eqb l n)) [
                | inl e ↦
                    let i : ltb l (suc n) ≡ true = lt-ltb l (suc n) (omega (arith, eqb-true l n e)) in
                    simp (d, e, i) (ap₂ (gate_result k) (same a ha) (same b hb) ∙ ap (λ j. gate_result k (spot bytes (j * w) a) (spot bytes (j * w) b)) (sym (eqb-true l n e)))
                | inr e ↦ elim (cases_Bool (ltb l n)) [
                  | inl p ↦ let i : ltb l (suc n) ≡ true = lt-ltb l (suc n) (omega (arith, ltb-true l n p)) in simp (d, e, i) (ih ∙ simp (d, p))
                  | inr p ↦ let i : ltb l (suc n) ≡ false = le-ltb l (suc n) (omega (arith, ltb-false l n p, eqb-false l n e)) in simp (d, e, i) (ih ∙ simp (d, p))
                ]
              ]
            ]

module _ (bytes : List ℕ) (width left : ℕ) where
  abbrev w : ℕ
  w = fit width

  abbrev lanes : ℕ
  lanes = row_lanes (length bytes) w

  module _ (k : Kind) (t a b : ℕ) (ht : t < 8 * w) (ha : a < 8 * w) (hb : b < 8 * w) where
    abbrev done : List ℕ
    done = rows_done k t a b w lanes bytes

    pub row_gated : row_model done width (min left 1000000000 - 1) ≡ gated k t a b (row_model bytes width left)
    unfolding gated
    row_gated =
        let it : ltb t (8 * w) ≡ true = lt-ltb t (8 * w) ht in
        let ia : ltb a (8 * w) ≡ true = lt-ltb a (8 * w) ha in
        let ib : ltb b (8 * w) ≡ true = lt-ltb b (8 * w) hb in
        same_model refl (ap (λ n. row_lanes n w) (done_length w k t a b bytes lanes)) (omega arith) (λ r l.
        ap (λ n. row_cell w (row_lanes n w) done r l) (done_length w k t a b bytes lanes)
        ∙ elim (cases_Bool (ltb r (8 * w))) [
          | inr i ↦
              let d : eqb r t ≡ false = ne_eqb r t (λ z. omega (arith, ltb-false r (8 * w) i)) in
              simp (i, d)
          | inl i ↦
              let at = done_spot w k t a b bytes (in_row t w ht) (in_row a w ha) (in_row b w hb) lanes (rows_fit (length bytes) w) r l (in_row r w (ltb-true r (8 * w) i)) in
              elim (cases_Bool (ltb l lanes)) [
                | inl p ↦ elim (cases_Bool (eqb r t)) [ inl d ↦ simp (i, ia, ib, p, d) (at ∙ simp (p, d)) | inr d ↦ simp (i, ia, ib, p, d) (at ∙ simp (p, d)) ]
                | inr p ↦ elim (cases_Bool (eqb r t)) [ inl d ↦ simp (i, p, d) | inr d ↦ simp (i, p, d) ]
              ]
        ])

    pub row_rest : rest done width ≡ rest bytes width
    unfolding rest
    row_rest =
        ap (λ n. drop (row_lanes n w * w) done) (done_length w k t a b bytes lanes)
        ∙ done_rest w k t a b bytes (in_row t w ht) (lanes * w) lanes (omega arith)

  module _ (t m : ℕ) (v : Bool) (ht : t < 8 * w) (hm : m < lanes) where
    abbrev put : List ℕ
    put = row_put bytes (m * w) t v

    put_length : length put ≡ length bytes
    put_length = length-set bytes (m * w + t / 8) _

    pub row_written : row_model put width left ≡ written t m v (row_model bytes width left)
    unfolding written
    row_written =
        same_model refl (ap (λ n. row_lanes n w) put_length) refl (λ r l.
        ap (λ n. row_cell w (row_lanes n w) put r l) put_length
        ∙ elim (cases_Bool (ltb r (8 * w))) [
          | inr i ↦
              let d : eqb r t ≡ false = ne_eqb r t (λ z. omega (arith, ltb-false r (8 * w) i)) in
              simp (i, d)
          | inl i ↦
              let at = spot_put w bytes m t v (in_row t w ht) (in_bytes (length bytes) w m (t / 8) hm (in_row t w ht)) r l (in_row r w (ltb-true r (8 * w) i)) in
              elim (cases_Bool (ltb l lanes)) [
                | inl p ↦ simp (i, p) at
                | inr p ↦
                    let e : eqb l m ≡ false = ne_eqb l m (λ z. omega (arith, ltb-false l lanes p)) in
                    elim (cases_Bool (eqb r t)) [ inl d ↦ simp (i, p, d, e) | inr d ↦ simp (i, p, d, e) ]
              ]
        ])

    pub put_rest : rest put width ≡ rest bytes width
    unfolding rest
    put_rest =
        ap (λ n. drop (row_lanes n w * w) put) put_length
        ∙ drop-set-lt (lanes * w) bytes (m * w + t / 8) _ (digits_lt {q = m} {m = lanes} {r = t / 8} {c = w} hm (in_row t w ht))
