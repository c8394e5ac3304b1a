-- What a write of one word is to the meaning. Assumes nothing.
use Rattle.std.proofs.Common.{◌≡◌, ℕ, ◌-◌, ◌^◌, ◌<◌, min, Bool, true, false, cond, ◌&&◌, eqb, ltb, List, length, get_or, set, sym, refl, ap, ◌∙◌, ap₂, inl, inr, arith, length-set}
use Rattle.std.proofs.lemmas.List.{get_or-set_same, get_or-set_other, drop-set-lt}
use Rattle.std.proofs.lemmas.Bool.{cases_Bool, ltb-true, lt-ltb, eqb-true, eqb-false, and_parts}
use Rattle.bench.specs.Model.{Model, Lawful, written, gated}
use Rattle.bench.specs.Kinds.{gate_result}
use Rattle.bench.specs.Word.{test_bit, cell, word_count, word_bit, word_model, beyond, combined, put_bit}
use Rattle.bench.specs.declared.kinds.Kind.{Kind}
use Rattle.bench.proofs.WordBits.{test_combined, test_put}

-- two meanings are one where their numbers and their bits are
pub same_model : {m n : Model} → m.registers ≡ n.registers → m.lanes ≡ n.lanes → m.left ≡ n.left → ((r l : ℕ) → m.bit r l ≡ n.bit r l) → m ≡ n
same_model p q s h = λ i. record {
  registers = p i;
  lanes = q i;
  left = s i;
  bit = λ r l. h r l i;
}

-- word t becomes v, where there are n registers: the bits shown then
module _ (n : ℕ) (words : List ℕ) (t v : ℕ) (h : t < length words) (within : t < n) where
  -- a new bit in the lanes of word t, the old one elsewhere
  put_bits : (new : ℕ → Bool) → ((l : ℕ) → ltb l 64 ≡ true → test_bit v l ≡ new l)
      → (r l : ℕ) → cell n (set words t v) r l ≡ cond (eqb r t && ltb l 64) (new l) (cell n words r l)
  put_bits new f r l =
      elim (cases_Bool (eqb r t)) [
        | inl e ↦ let i : ltb r n ≡ true = lt-ltb r n (omega (arith, eqb-true r t e)) in
            elim (cases_Bool (ltb l 64)) [
              | inl p ↦ rw (e, i, p) (ap (λ k. test_bit (get_or (set words t v) k 0) l) (eqb-true r t e) ∙ ap (λ w. test_bit w l) (get_or-set_same words t v 0 h) ∙ f l p)
              | inr p ↦ rw (e, i, p)
            ]
        | inr e ↦ rw e (ap (λ w. cond (ltb r n && ltb l 64) (test_bit w l) false) (get_or-set_other words t r v 0 (eqb-false r t e)))
      ]

-- the count of the words, and so their bits, by a count that stays
recount : (words : List ℕ) (t v : ℕ) → (r l : ℕ) → word_bit (set words t v) r l ≡ cell (word_count words) (set words t v) r l
recount words t v r l = ap (λ n. cell (min n 65535) (set words t v) r l) (length-set words t v)

pub word_gated : (k : Kind) (words : List ℕ) (left t a b : ℕ) → t < word_count words → a < word_count words → b < word_count words → get_or words a 0 < 2 ^ 64 → get_or words b 0 < 2 ^ 64
    → word_model (set words t (combined k (get_or words a 0) (get_or words b 0))) (min left 1000000000 - 1) ≡ gated k t a b (word_model words left)
unfolding gated
word_gated k words left t a b ht ha hb p q =
    let x : ℕ = get_or words a 0 in
    let y : ℕ = get_or words b 0 in
    let n : ℕ = word_count words in
    let i : ltb a n ≡ true = lt-ltb a n ha in
    let j : ltb b n ≡ true = lt-ltb b n hb in
    same_model
    (ap (λ n. min n 65535) (length-set words t (combined k x y)))
    refl
    (omega arith)
    (λ r l. recount words t (combined k x y) r l
    ∙ put_bits n words t (combined k x y) (omega arith) ht
    (λ l. gate_result k (word_bit words a l) (word_bit words b l))
    (λ l e. test_combined k x y l p q (ltb-true l 64 e) ∙ rw (i, j, e)) r l)

-- a bit put in one lane of one register
one_lane : (f : ℕ → ℕ → Bool) (r l : ℕ) (v : Bool) (i j : ℕ) → l < 64
    → cond (eqb i r && ltb j 64) (cond (eqb j l) v (f r j)) (f i j) ≡ cond (eqb i r && eqb j l) v (f i j)
one_lane f r l v i j h =
    elim (cases_Bool (eqb i r)) [
      | inl e ↦ elim (cases_Bool (eqb j l)) [
        | inl p ↦ let q : ltb j 64 ≡ true = lt-ltb j 64 (omega (arith, eqb-true j l p)) in rw (e, p, q)
        | inr p ↦ let s : f r j ≡ f i j = ap (λ k. f k j) (sym (eqb-true i r e)) in
            elim (cases_Bool (ltb j 64)) [ inl q ↦ rw (e, p, q) s | inr q ↦ rw (e, p, q) ]
      ]
      | inr e ↦ rw e
    ]

pub word_written : (words : List ℕ) (left r l : ℕ) (v : Bool) → r < word_count words → l < 64
    → word_model (set words r (put_bit (get_or words r 0) l v)) left ≡ written r l v (word_model words left)
unfolding written
word_written words left r l v h p =
    let w : ℕ = get_or words r 0 in
    let n : ℕ = word_count words in
    let i : ltb r n ≡ true = lt-ltb r n h in
    same_model
    (ap (λ n. min n 65535) (length-set words r (put_bit w l v)))
    refl
    refl
    (λ k j. recount words r (put_bit w l v) k j
    ∙ put_bits n words r (put_bit w l v) (omega arith) h
    (λ j. cond (eqb j l) v (word_bit words r j))
    (λ j e. test_put w l v j p (ltb-true j 64 e) ∙ rw (i, e)) k j
    ∙ one_lane (word_bit words) r l v k j p)

pub beyond_set : (words : List ℕ) (t v : ℕ) → t < 65535 → beyond (set words t v) ≡ beyond words
unfolding beyond
beyond_set words t v h = drop-set-lt 65535 words t v h

-- benches that show the same have one meaning
pub same_shown : {m n : Model} → Lawful m → Lawful n → m.registers ≡ n.registers → m.lanes ≡ n.lanes → m.left ≡ n.left
    → ((r l : ℕ) → r < m.registers → l < m.lanes → m.bit r l ≡ n.bit r l) → m ≡ n
same_shown {m} {n} p q a b c h = same_model a b c (λ r l.
    elim (cases_Bool (ltb r m.registers && ltb l m.lanes)) [
      | inl e ↦ let both = and_parts (ltb r m.registers) (ltb l m.lanes) e in h r l (ltb-true r m.registers both.0) (ltb-true l m.lanes both.1)
      | inr e ↦ p.blank r l e ∙ sym (q.blank r l (ap₂ (λ x y. ltb r x && ltb l y) (sym a) (sym b) ∙ e))
    ])
