-- The expansion of a key of four words byte by byte. Assumes nothing.
use Rattle.std.proofs.Common.{◌≡◌, ℕ, zero, suc, ◌+◌, ◌-◌, ◌*◌, ◌/◌, ◌%◌, ◌<◌, ◌≤◌, Bool, true, false, cond, eqb, List, ◌++◌, length, get_or, sym, refl, ap, ◌∙◌, ap₂, arith, eq-eqb}
use lib.Bits.{bit_xor, xor_zero_r}
use Rattle.std.proofs.lemmas.List.{get_or_append_left, length-append}
use Rattle.std.proofs.lemmas.List.FromFn.{fill_by_all}
use Rattle.std.proofs.lemmas.Simd.{get_or-zip2, length-zip2}
use Rattle.standard.specs.Field.{SBox}
use Rattle.standard.specs.KeyExpansion.{Word, RotWord, SubWord, xor_word, rcon_word, temp, key_word, word_at}
use Rattle.standard.specs.Kinds.{byte_at}
use Rattle.standard.proofs.Words.{first_words, later_words}

-- ---- the standard's temp, for a key of four words
temp_at : (i : ℕ) (w : Word) (q : Bool) → eqb (i % 4) 0 ≡ q → temp 4 i w ≡ cond q (xor_word (SubWord (RotWord w)) (rcon_word (i / 4))) w
temp_at i w q e = ap (λ (x : Bool). cond x (xor_word (SubWord (RotWord w)) (rcon_word (i / 4))) w) e

module _ (o : ℕ → ℕ) (i m : ℕ) where
  temp_turned : (j : ℕ) → i % 4 ≡ 0 → get_or (temp 4 i (key_word o m)) j 0 ≡ get_or (xor_word (SubWord (RotWord (key_word o m))) (rcon_word (i / 4))) j 0
  temp_turned j e = ap (λ (w : Word). get_or w j 0) (temp_at i (key_word o m) true (eq-eqb (i % 4) 0 e))

  pub temp_rest : (j : ℕ) → i % 4 ≡ 0 → (j ≡ 0 → ⊥) → j < 4 → get_or (temp 4 i (key_word o m)) j 0 ≡ SBox (o (4 * m + (j + 1) % 4))
  temp_rest zero e z h = absurd (z refl)
  temp_rest (suc zero) e z h = temp_turned 1 e ∙ xor_zero_r (SBox (o (4 * m + 2)))
  temp_rest (suc (suc zero)) e z h = temp_turned 2 e ∙ xor_zero_r (SBox (o (4 * m + 3)))
  temp_rest (suc (suc (suc zero))) e z h = temp_turned 3 e ∙ xor_zero_r (SBox (o (4 * m))) ∙ ap (λ (x : ℕ). SBox (o x)) (none m)
    where
      none : (m : ℕ) → 4 * m ≡ 4 * m + 0
      none m = omega arith
  temp_rest (suc (suc (suc (suc j)))) e z h = absurd (omega arith)

pub key_word_at : (o : ℕ → ℕ) (m j : ℕ) → j < 4 → get_or (key_word o m) j 0 ≡ o (4 * m + j)
key_word_at o m zero h = ap o (none m)
  where
    none : (m : ℕ) → 4 * m ≡ 4 * m + 0
    none m = omega arith
key_word_at o m (suc zero) h = refl
key_word_at o m (suc (suc zero)) h = refl
key_word_at o m (suc (suc (suc zero))) h = refl
key_word_at o m (suc (suc (suc (suc j)))) h = absurd (omega arith)

-- ---- each word has four bytes
temp_long : (i : ℕ) (w : Word) → length w ≡ 4 → length (temp 4 i w) ≡ 4
temp_long i w h = go (eqb (i % 4) 0)
  where
    go : (q : Bool) → length (cond q (xor_word (SubWord (RotWord w)) (rcon_word (i / 4))) w) ≡ 4
    go true = refl
    go false = h

module _ (k : ℕ → ℕ) where
  abbrev w : ℕ → Word
  w i = word_at 4 k i

  next : (n : ℕ) → w (n + 4) ≡ xor_word (w n) (temp 4 (n + 4) (w (n + 4 - 1)))
  next = later_words 4 (omega arith) k

  first_long : (i : ℕ) → i < 4 → length (w i) ≡ 4
  first_long i h = ap length (first_words 4 (omega arith) k i h)

  four_long : (n : ℕ) → (length (w n) ≡ 4) × (length (w (n + 1)) ≡ 4) × (length (w (n + 2)) ≡ 4) × (length (w (n + 3)) ≡ 4)
  four_long zero = (first_long 0 (omega arith), first_long 1 (omega arith), first_long 2 (omega arith), first_long 3 (omega arith))
  four_long (suc n) =
      let h : (length (w n) ≡ 4) × (length (w (n + 1)) ≡ 4) × (length (w (n + 2)) ≡ 4) × (length (w (n + 3)) ≡ 4) = four_long n in
      let len = λ (x : ℕ). length (w x) in
      let e0 : n + 1 ≡ suc n = omega arith in
      let e1 : n + 2 ≡ suc n + 1 = omega arith in
      let e2 : n + 3 ≡ suc n + 2 = omega arith in
      let e3 : suc n + 3 ≡ n + 4 = omega arith in
      let before : n + 4 - 1 ≡ n + 3 = omega arith in
      let t : length (temp 4 (n + 4) (w (n + 4 - 1))) ≡ 4 = temp_long (n + 4) (w (n + 4 - 1)) (ap len before ∙ h.3) in (
        sym (ap len e0) ∙ h.1,
        sym (ap len e1) ∙ h.2,
        sym (ap len e2) ∙ h.3,
        ap len e3 ∙ ap length (next n) ∙ length-zip2 bit_xor (w n) (temp 4 (n + 4) (w (n + 4 - 1))) (h.0 ∙ sym t) ∙ h.0,
      )

  pub word_long : (n : ℕ) → length (w n) ≡ 4
  word_long n = (four_long n).0

  -- ---- byte p of the expansion
  abbrev pub byte_of : ℕ → ℕ
  byte_of p = get_or (w (p / 4)) (p % 4) 0

  byte_of_at : (m j : ℕ) → j < 4 → byte_of (4 * m + j) ≡ get_or (w m) j 0
  byte_of_at m j h =
      let d : (4 * m + j) / 4 ≡ m = omega arith in
      let r : (4 * m + j) % 4 ≡ j = omega arith in
      ap₂ (λ (x y : ℕ). get_or (w x) y 0) d r

  pub byte_first : (p : ℕ) → p < 16 → k p ≡ byte_of p
  byte_first p h =
      let whole : p ≡ 4 * (p / 4) + p % 4 = omega arith in
      ap k whole ∙ sym (key_word_at k (p / 4) (p % 4) (omega arith)) ∙ sym (ap (λ (x : Word). get_or x (p % 4) 0) (first_words 4 (omega arith) k (p / 4) (omega arith)))

  module _ (o : ℕ → ℕ) where
    -- a word that the bytes o have
    word_from : (m : ℕ) → ((q : ℕ) → q < 4 * m + 4 → o q ≡ byte_of q) → key_word o m ≡ w m
    word_from m h = sym (fill_by_all (λ j. get_or (key_word o m) j 0) (w m) 4 0 (word_long m) (λ j hj. sym (key_word_at o m j hj ∙ h (4 * m + j) (omega arith) ∙ byte_of_at m j hj)))

    pub byte_later : (p : ℕ) → 16 ≤ p → ((q : ℕ) → q < p → o q ≡ byte_of q) → bit_xor (o (p - 16)) (get_or (temp 4 (p / 4) (key_word o (p / 4 - 1))) (p % 4) 0) ≡ byte_of p
    byte_later p h e =
        let n = p / 4 - 4 in
        let j = p % 4 in
        let hj : j < 4 = omega arith in
        let i : p / 4 ≡ n + 4 = omega arith in
        let back : p - 16 ≡ 4 * n + j = omega arith in
        let v = w (n + 4 - 1) in
        let word : key_word o (n + 4 - 1) ≡ v = word_from (n + 4 - 1) (λ q hq. e q (omega arith)) in
        let old : o (p - 16) ≡ get_or (w n) j 0 = e (p - 16) (omega arith) ∙ ap byte_of back ∙ byte_of_at n j hj in
        let lw : length (w n) ≡ 4 = word_long n in
        let lt : length (temp 4 (n + 4) v) ≡ 4 = temp_long (n + 4) v (word_long (n + 4 - 1)) in
        ap₂ bit_xor old (ap (λ (x : ℕ). get_or (temp 4 x (key_word o (x - 1))) j 0) i ∙ ap (λ (x : Word). get_or (temp 4 (n + 4) x) j 0) word)
        ∙ sym (get_or-zip2 bit_xor (w n) (temp 4 (n + 4) v) j 0 0 0 (omega arith) (omega arith))
        ∙ sym (ap (λ (x : Word). get_or x j 0) (next n))
        ∙ sym (ap (λ (x : ℕ). get_or (w x) j 0) i)

-- the bytes of the key, and places for the rest
pub key_first : (key rest xs : List ℕ) → length key ≡ 16 → length rest ≡ 160 → xs ≡ key → (length (xs ++ rest) ≡ 176) × ((p : ℕ) → p < 16 → get_or (xs ++ rest) p 0 ≡ byte_of (byte_at key) p)
key_first key rest xs k r e = (
  length-append xs rest ∙ omega (arith, ap length e),
  λ p h. get_or_append_left xs rest 0 p (omega (arith, ap length e)) ∙ ap (λ (bytes : List ℕ). get_or bytes p 0) e ∙ byte_first (byte_at key) p h,
)
