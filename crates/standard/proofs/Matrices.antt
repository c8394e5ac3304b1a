-- MixColumns and InvMixColumns undo each other: a column's four sums, and the product of the two matrices. Assumes nothing.
use Rattle.std.proofs.Common.{◌≡◌, ℕ, zero, suc, ◌+◌, ◌-◌, ◌*◌, ◌%◌, ◌^◌, ◌<◌, Bool, true, false, cond, T, eqb, List, [], ◌∷◌, length, get_or, sym, refl, ap, ◌∙◌, subst, ap₂, arith}
use lib.Bits.{bit_xor, xor_lt, xor_zero_r}
use Rattle.standard.specs.Field.{mul}
use Rattle.standard.specs.Columns.{row, entry, row_of, by_columns, mixing, unmixing}
use Rattle.standard.specs.Cipher.{MixColumns, InvMixColumns}
use Rattle.standard.specs.States.{Bytes, State}
use Rattle.standard.proofs.BitLaws.{xor_swap}
use Rattle.standard.proofs.FieldLaws.{mul_xor, mul_byte, mul_one}
use Rattle.standard.proofs.ProductLaws.{Linear, linear_agree}
use Rattle.standard.proofs.Tests.{tests, tested2, equal_below}

-- ---- a sum of four products, and columns of four
row_xor : (k l m n a b c d a' b' c' d' : ℕ) → row k l m n (bit_xor a a') (bit_xor b b') (bit_xor c c') (bit_xor d d') ≡ bit_xor (row k l m n a b c d) (row k l m n a' b' c' d')
row_xor k l m n a b c d a' b' c' d' =
    ap₂ bit_xor (mul_xor k a a') (ap₂ bit_xor (mul_xor l b b') (ap₂ bit_xor (mul_xor m c c') (mul_xor n d d') ∙ xor_swap (mul m c) (mul m c') (mul n d) (mul n d'))
    ∙ xor_swap (mul l b) (mul l b') (bit_xor (mul m c) (mul n d)) (bit_xor (mul m c') (mul n d')))
    ∙ xor_swap (mul k a) (mul k a') (bit_xor (mul l b) (bit_xor (mul m c) (mul n d))) (bit_xor (mul l b') (bit_xor (mul m c') (mul n d')))

-- what byte j of a column adds to byte i, after the matrix of ds and then that of cs
unfoldable through : List ℕ → List ℕ → ℕ → ℕ → ℕ → ℕ
unfolding row_of entry
through cs ds i j v = row_of cs i (mul (entry ds 0 j) v) (mul (entry ds 1 j) v) (mul (entry ds 2 j) v) (mul (entry ds 3 j) v)

row_of_xor : (cs : List ℕ) (i a b c d a' b' c' d' : ℕ) → row_of cs i (bit_xor a a') (bit_xor b b') (bit_xor c c') (bit_xor d d') ≡ bit_xor (row_of cs i a b c d) (row_of cs i a' b' c' d')
unfolding row_of
row_of_xor cs i = row_xor (entry cs i 0) (entry cs i 1) (entry cs i 2) (entry cs i 3)

through_linear : (cs ds : List ℕ) (i j : ℕ) → Linear (through cs ds i j)
unfolding through
through_linear cs ds i j a b ha hb =
    (λ t. row_of cs i (mul_xor (entry ds 0 j) a b t) (mul_xor (entry ds 1 j) a b t) (mul_xor (entry ds 2 j) a b t) (mul_xor (entry ds 3 j) a b t))
    ∙ row_of_xor cs i (mul (entry ds 0 j) a) (mul (entry ds 1 j) a) (mul (entry ds 2 j) a) (mul (entry ds 3 j) a) (mul (entry ds 0 j) b) (mul (entry ds 1 j) b) (mul (entry ds 2 j) b) (mul (entry ds 3 j) b)

-- both matrices after each other: the sum of what the four bytes add
through_sum : (cs ds : List ℕ) (i a b c d : ℕ)
    → row_of cs i (row_of ds 0 a b c d) (row_of ds 1 a b c d) (row_of ds 2 a b c d) (row_of ds 3 a b c d)
    ≡ bit_xor (through cs ds i 0 a) (bit_xor (through cs ds i 1 b) (bit_xor (through cs ds i 2 c) (through cs ds i 3 d)))
unfolding row_of through
through_sum cs ds i a b c d =
    let m = λ (r j v : ℕ). mul (entry ds r j) v in
    let cd = λ (r : ℕ). bit_xor (m r 2 c) (m r 3 d) in
    let bcd = λ (r : ℕ). bit_xor (m r 1 b) (cd r) in
    row_of_xor cs i (m 0 0 a) (m 1 0 a) (m 2 0 a) (m 3 0 a) (bcd 0) (bcd 1) (bcd 2) (bcd 3)
    ∙ ap (bit_xor (through cs ds i 0 a))
    (row_of_xor cs i (m 0 1 b) (m 1 1 b) (m 2 1 b) (m 3 1 b) (cd 0) (cd 1) (cd 2) (cd 3)
    ∙ ap (bit_xor (through cs ds i 1 b)) (row_of_xor cs i (m 0 2 c) (m 1 2 c) (m 2 2 c) (m 3 2 c) (m 0 3 d) (m 1 3 d) (m 2 3 d) (m 3 3 d)))

-- ---- two matrices whose product is the identity
abbrev kept : ℕ → ℕ → ℕ → ℕ
kept i j v = cond (eqb i j) v 0

kept_linear : (i j : ℕ) → Linear (kept i j)
kept_linear i j a b ha hb = go (eqb i j)
  where
    go : (q : Bool) → cond q (bit_xor a b) 0 ≡ bit_xor (cond q a 0) (cond q b 0)
    go true = refl
    go false = refl

-- tested at the powers of two
unfoldable undoes : List ℕ → List ℕ → Bool
unfolding tests through
undoes cs ds = tests (λ i. tests (λ j. tests (λ s. eqb (through cs ds i j (2 ^ s)) (kept i j (2 ^ s))) 8) 4) 4

module _ (cs ds : List ℕ) (test : T (undoes cs ds)) where
  through_kept : (i j v : ℕ) → i < 4 → j < 4 → v < 256 → through cs ds i j v ≡ kept i j v
  unfolding undoes
  through_kept i j v hi hj hv =
      linear_agree (through cs ds i j) (kept i j) (through_linear cs ds i j) (kept_linear i j)
      (equal_below (λ s. through cs ds i j (2 ^ s)) (λ s. kept i j (2 ^ s)) 8 (tested2 (λ i j. tests (λ s. eqb (through cs ds i j (2 ^ s)) (kept i j (2 ^ s))) 8) 4 4 test i j hi hj)) v hv

  -- byte i of a column comes back
  row_back : (i a b c d : ℕ) → i < 4 → a < 256 → b < 256 → c < 256 → d < 256
      → row_of cs i (row_of ds 0 a b c d) (row_of ds 1 a b c d) (row_of ds 2 a b c d) (row_of ds 3 a b c d)
      ≡ bit_xor (kept i 0 a) (bit_xor (kept i 1 b) (bit_xor (kept i 2 c) (kept i 3 d)))
  row_back i a b c d hi ha hb hc hd =
      through_sum cs ds i a b c d
      ∙ ap₂ bit_xor (through_kept i 0 a hi (omega arith) ha) (ap₂ bit_xor (through_kept i 1 b hi (omega arith) hb) (ap₂ bit_xor (through_kept i 2 c hi (omega arith) hc) (through_kept i 3 d hi (omega arith) hd)))

-- ---- the standard's two matrices
unmixing_mixing : T (undoes unmixing mixing)
unfolding undoes mul
unmixing_mixing = tt

mixing_unmixing : T (undoes mixing unmixing)
unfolding undoes mul
mixing_unmixing = tt

cons4 : {w x y z w' x' y' z' : ℕ} {r r' : List ℕ} → w ≡ w' → x ≡ x' → y ≡ y' → z ≡ z' → r ≡ r' → ◌≡◌ {A = List ℕ} (w ∷ x ∷ y ∷ z ∷ r) (w' ∷ x' ∷ y' ∷ z' ∷ r')
cons4 a b c d e = λ i. a i ∷ b i ∷ c i ∷ d i ∷ e i

pub mix_is : (xs : List ℕ) → Bytes xs → MixColumns xs ≡ by_columns mixing xs
unfolding row_of
mix_is [] h = refl
mix_is (a ∷ []) h = refl
mix_is (a ∷ b ∷ []) h = refl
mix_is (a ∷ b ∷ c ∷ []) h = refl
mix_is (a ∷ b ∷ c ∷ d ∷ rest) h =
    let ea = sym (mul_one a h.0) in let eb = sym (mul_one b h.1.0) in let ec = sym (mul_one c h.1.1.0) in let ed = sym (mul_one d h.1.1.1.0) in
    cons4
    (ap (λ (x : ℕ). bit_xor (mul 2 a) (bit_xor (mul 3 b) x)) (ap₂ bit_xor ec ed))
    (ap₂ (λ (x y : ℕ). bit_xor x (bit_xor (mul 2 b) (bit_xor (mul 3 c) y))) ea ed)
    (ap₂ (λ (x y : ℕ). bit_xor x (bit_xor y (bit_xor (mul 2 c) (mul 3 d)))) ea eb)
    (ap₂ (λ (x y : ℕ). bit_xor (mul 3 a) (bit_xor x (bit_xor y (mul 2 d)))) eb ec)
    (mix_is rest h.1.1.1.1)

pub inv_mix_is : (xs : List ℕ) → InvMixColumns xs ≡ by_columns unmixing xs
unfolding row_of
inv_mix_is [] = refl
inv_mix_is (a ∷ []) = refl
inv_mix_is (a ∷ b ∷ []) = refl
inv_mix_is (a ∷ b ∷ c ∷ []) = refl
inv_mix_is (a ∷ b ∷ c ∷ d ∷ rest) = cons4 refl refl refl refl (inv_mix_is rest)

-- ---- at each column of a state
by_columns_length : (cs xs : List ℕ) (q : ℕ) → length xs ≡ 4 * q → length (by_columns cs xs) ≡ 4 * q
by_columns_length cs [] q e = e
by_columns_length cs (a ∷ []) q e = absurd (omega arith)
by_columns_length cs (a ∷ b ∷ []) q e = absurd (omega arith)
by_columns_length cs (a ∷ b ∷ c ∷ []) q e = absurd (omega arith)
by_columns_length cs (a ∷ b ∷ c ∷ d ∷ rest) zero e = absurd (omega arith)
by_columns_length cs (a ∷ b ∷ c ∷ d ∷ rest) (suc q) e = ap (λ (n : ℕ). suc (suc (suc (suc n)))) (by_columns_length cs rest q (omega arith)) ∙ omega arith

-- the entries are bytes
abbrev Entries : List ℕ → Type 0
Entries cs = (i : ℕ) → get_or cs i 0 < 256

row_byte : (cs : List ℕ) → Entries cs → (i a b c d : ℕ) → row_of cs i a b c d < 256
unfolding row_of entry
row_byte cs h i a b c d =
    xor_lt 8 (mul (entry cs i 0) a) _ (mul_byte (entry cs i 0) a (h ((0 + 4 - i) % 4)))
    (xor_lt 8 (mul (entry cs i 1) b) _ (mul_byte (entry cs i 1) b (h ((1 + 4 - i) % 4)))
    (xor_lt 8 (mul (entry cs i 2) c) (mul (entry cs i 3) d) (mul_byte (entry cs i 2) c (h ((2 + 4 - i) % 4))) (mul_byte (entry cs i 3) d (h ((3 + 4 - i) % 4)))))

by_columns_bytes : (cs : List ℕ) → Entries cs → (xs : List ℕ) → Bytes (by_columns cs xs)
by_columns_bytes cs h [] = tt
by_columns_bytes cs h (a ∷ []) = tt
by_columns_bytes cs h (a ∷ b ∷ []) = tt
by_columns_bytes cs h (a ∷ b ∷ c ∷ []) = tt
by_columns_bytes cs h (a ∷ b ∷ c ∷ d ∷ rest) =
    (row_byte cs h 0 a b c d, (row_byte cs h 1 a b c d, (row_byte cs h 2 a b c d, (row_byte cs h 3 a b c d, by_columns_bytes cs h rest))))

by_columns_back : (cs ds : List ℕ) → T (undoes cs ds) → (xs : List ℕ) (q : ℕ) → length xs ≡ 4 * q → Bytes xs → by_columns cs (by_columns ds xs) ≡ xs
by_columns_back cs ds t [] q e h = refl
by_columns_back cs ds t (a ∷ []) q e h = absurd (omega arith)
by_columns_back cs ds t (a ∷ b ∷ []) q e h = absurd (omega arith)
by_columns_back cs ds t (a ∷ b ∷ c ∷ []) q e h = absurd (omega arith)
by_columns_back cs ds t (a ∷ b ∷ c ∷ d ∷ rest) zero e h = absurd (omega arith)
by_columns_back cs ds t (a ∷ b ∷ c ∷ d ∷ rest) (suc q) e h =
    let ha = h.0 in let hb = h.1.0 in let hc = h.1.1.0 in let hd = h.1.1.1.0 in
    cons4
    (row_back cs ds t 0 a b c d (omega arith) ha hb hc hd ∙ xor_zero_r a)
    (row_back cs ds t 1 a b c d (omega arith) ha hb hc hd ∙ xor_zero_r b)
    (row_back cs ds t 2 a b c d (omega arith) ha hb hc hd ∙ xor_zero_r c)
    (row_back cs ds t 3 a b c d (omega arith) ha hb hc hd)
    (by_columns_back cs ds t rest q (omega arith) h.1.1.1.1)

small4 : (a b c d : ℕ) → a < 256 → b < 256 → c < 256 → d < 256 → Entries (a ∷ b ∷ c ∷ d ∷ [])
small4 a b c d ha hb hc hd zero = ha
small4 a b c d ha hb hc hd (suc zero) = hb
small4 a b c d ha hb hc hd (suc (suc zero)) = hc
small4 a b c d ha hb hc hd (suc (suc (suc zero))) = hd
small4 a b c d ha hb hc hd (suc (suc (suc (suc i)))) = omega arith

of_state : (cs : List ℕ) → Entries cs → (st : List ℕ) → State st → State (by_columns cs st)
of_state cs h st s = (by_columns_length cs st 4 s.0, by_columns_bytes cs h st)

mixing_bytes : Entries mixing
mixing_bytes = small4 2 3 1 1 (omega arith) (omega arith) (omega arith) (omega arith)

unmixing_bytes : Entries unmixing
unmixing_bytes = small4 14 11 13 9 (omega arith) (omega arith) (omega arith) (omega arith)

pub mix_state : (st : List ℕ) → State st → State (MixColumns st)
mix_state st s = subst State (sym (mix_is st s.1)) (of_state mixing mixing_bytes st s)

pub inv_mix_state : (st : List ℕ) → State st → State (InvMixColumns st)
inv_mix_state st s = subst State (sym (inv_mix_is st)) (of_state unmixing unmixing_bytes st s)

pub inv_mix_mix : (st : List ℕ) → State st → InvMixColumns (MixColumns st) ≡ st
inv_mix_mix st s = ap InvMixColumns (mix_is st s.1) ∙ inv_mix_is (by_columns mixing st) ∙ by_columns_back unmixing mixing unmixing_mixing st 4 s.0 s.1

pub mix_inv_mix : (st : List ℕ) → State st → MixColumns (InvMixColumns st) ≡ st
mix_inv_mix st s =
    ap MixColumns (inv_mix_is st) ∙ mix_is (by_columns unmixing st) (by_columns_bytes unmixing unmixing_bytes st)
    ∙ by_columns_back mixing unmixing mixing_unmixing st 4 s.0 s.1
