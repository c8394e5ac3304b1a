-- A line's words, one word taken off. Assumes nothing.
use Rattle.std.proofs.Common.{◌≡◌, ℕ, suc, ◌+◌, ◌<◌, true, false, cond, eqb, ◌⊎◌, List, [], ◌∷◌, length, get_or, take, drop, sym, refl, ap, ◌∙◌, ap₂, inl, inr, ⊎_elim, arith}
use Rattle.std.specs.List.{prefix_len}
use Rattle.std.proofs.lemmas.Bool.{cases_Bool}
use Rattle.text.specs.Text.{before, from_word, word_of, after_word, on_first, on_word, words_in}

-- a space in front changes no word
from_space : (b : ℕ) (bs : List ℕ) → eqb b 32 ≡ true → from_word (b ∷ bs) ≡ from_word bs
from_space b bs e =
    let n : ℕ = prefix_len (λ x. eqb x 32) bs in
    let long : prefix_len (λ x. eqb x 32) (b ∷ bs) ≡ 1 + n = rw e in
    ap (λ k. drop k (b ∷ bs)) (let s : prefix_len (λ x. eqb x 32) (b ∷ bs) ≡ suc n = omega (arith, long) in s)

-- another byte begins a word
module _ (b : ℕ) (bs : List ℕ) (e : eqb b 32 ≡ false) where
  from_other : from_word (b ∷ bs) ≡ b ∷ bs
  from_other = rw e

  word_long : before 32 (b ∷ bs) ≡ suc (before 32 bs)
  word_long = let s : before 32 (b ∷ bs) ≡ 1 + before 32 bs = rw e in omega arith

  word_other : word_of (b ∷ bs) ≡ b ∷ take (before 32 bs) bs
  word_other = ap (λ l. take (before 32 l) l) from_other ∙ ap (λ k. take k (b ∷ bs)) word_long

  after_other : after_word (b ∷ bs) ≡ drop (before 32 bs) bs
  after_other = ap (λ l. drop (before 32 l) l) from_other ∙ ap (λ k. drop k (b ∷ bs)) word_long

on_word_lem : (b : ℕ) (bs : List ℕ) → on_word b bs (words_in bs) ≡ (b ∷ take (before 32 bs) bs) ∷ words_in (drop (before 32 bs) bs)
on_word_lem b [] = refl
on_word_lem b (c ∷ cs) =
    elim (cases_Bool (eqb c 32)) [
      | inl e ↦
          let none : before 32 (c ∷ cs) ≡ 0 = rw e in
          let here : on_word b (c ∷ cs) (words_in (c ∷ cs)) ≡ (b ∷ []) ∷ words_in (c ∷ cs) = ap (λ t. cond t ((b ∷ []) ∷ words_in (c ∷ cs)) (on_first b (words_in (c ∷ cs)))) e in
          here ∙ sym (ap (λ k. (b ∷ take k (c ∷ cs)) ∷ words_in (drop k (c ∷ cs))) none)
      | inr e ↦
          let here : on_word b (c ∷ cs) (words_in (c ∷ cs)) ≡ on_first b (words_in (c ∷ cs)) = ap (λ t. cond t ((b ∷ []) ∷ words_in (c ∷ cs)) (on_first b (words_in (c ∷ cs)))) e in
          let next : words_in (c ∷ cs) ≡ on_word c cs (words_in cs) = rw e in
          here ∙ ap (on_first b) (next ∙ on_word_lem c cs)
          ∙ sym (ap (λ k. (b ∷ take k (c ∷ cs)) ∷ words_in (drop k (c ∷ cs))) (word_long c cs e))
    ]

-- no word, or one word and then the others
pub word_off : (line : List ℕ) → ((word_of line ≡ []) × (words_in line ≡ []) × (after_word line ≡ [])) ⊎ ((0 < length (word_of line)) × (words_in line ≡ word_of line ∷ words_in (after_word line)))
word_off [] = inl (refl, refl, refl)
word_off (b ∷ bs) =
    elim (cases_Bool (eqb b 32)) [
      | inl e ↦
          let same = from_space b bs e in
          let word : word_of (b ∷ bs) ≡ word_of bs = ap (λ l. take (before 32 l) l) same in
          let rest : after_word (b ∷ bs) ≡ after_word bs = ap (λ l. drop (before 32 l) l) same in
          let words : words_in (b ∷ bs) ≡ words_in bs = rw e in
          ⊎_elim
          (λ h. inl (word ∙ h.0, words ∙ h.1, rest ∙ h.2))
          (λ h. inr (omega (arith, ap length word, h.0), words ∙ h.1 ∙ sym (ap₂ (λ w r. w ∷ words_in r) word rest)))
          (word_off bs)
      | inr e ↦
          let words : words_in (b ∷ bs) ≡ on_word b bs (words_in bs) = rw e in
          inr (omega (arith, ap length (word_other b bs e)), words ∙ on_word_lem b bs ∙ sym (ap₂ (λ w r. w ∷ words_in r) (word_other b bs e) (after_other b bs e)))
    ]

pub first_word : (line : List ℕ) → word_of line ≡ get_or (words_in line) 0 []
first_word line = ⊎_elim (λ h. h.0 ∙ sym (ap (λ ws. get_or ws 0 []) h.1)) (λ h. sym (ap (λ ws. get_or ws 0 []) h.1)) (word_off line)

pub later_words : (line : List ℕ) → words_in (after_word line) ≡ drop 1 (words_in line)
later_words line =
    ⊎_elim (λ h. ap words_in h.2 ∙ sym (ap (drop 1) h.1)) (λ h. sym (ap (drop 1) h.1)) (word_off line)

pub no_words : (line : List ℕ) → length (word_of line) ≡ 0 → words_in line ≡ []
no_words line e = ⊎_elim (λ h. h.1) (λ h. absurd (omega (arith, h.0))) (word_off line)

pub some_words : (line : List ℕ) → 0 < length (word_of line) → words_in line ≡ word_of line ∷ words_in (after_word line)
some_words line l = ⊎_elim (λ h. absurd (omega (arith, ap length h.0))) (λ h. h.1) (word_off line)
