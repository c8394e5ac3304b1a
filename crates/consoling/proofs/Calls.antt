-- A line's call, from its words by their places. Assumes nothing.
use Rattle.std.proofs.Common.{◌≡◌, ℕ, ◌<◌, true, false, eqb, List, [], length, get_or, drop, None, Option, sym, ap, ◌∙◌, ap₂, inl, inr, arith}
use Rattle.std.proofs.lemmas.Bool.{cond-true, cond-false, eq-eqb, ne_eqb, cases_Bool}
use Rattle.text.specs.Text.{word_of, after_word, words_in}
use Rattle.text.proofs.WordLemmas.{first_word, later_words}
use Rattle.playing.proofs.Places.{at_word, past_word, has_words, has_none}
use Rattle.consoling.specs.declared.verbs.Verb.{Verb}
use Rattle.consoling.specs.Lines.{verb_in, call_named, call_by}

module _ (ws : List (List ℕ)) where
  call_by_lem : (o : Option Verb) (a b : List ℕ) → drop 3 ws ≡ [] → o ≡ verb_in (get_or ws 0 []) → a ≡ get_or ws 1 [] → b ≡ get_or ws 2 [] → call_named o a b ≡ call_by ws
  call_by_lem o a b none p q r =
      ap₂ (call_named o) q r
      ∙ ap (λ v. call_named v (get_or ws 1 []) (get_or ws 2 [])) p
      ∙ sym (cond-true _ (call_named (verb_in (get_or ws 0 [])) (get_or ws 1 []) (get_or ws 2 [])) None (eq-eqb (length (drop 3 ws)) 0 (ap length none)))

  too_many : 0 < length (drop 3 ws) → call_by ws ≡ None
  too_many h = cond-false _ (call_named (verb_in (get_or ws 0 [])) (get_or ws 1 []) (get_or ws 2 [])) None (ne_eqb (length (drop 3 ws)) 0 (λ z. omega arith))

-- a line's first word, what follows that, and so on
module _ (l : List ℕ) {w₀ r₀ w₁ r₁ w₂ r₂ w₃ : List ℕ} (p₀ : w₀ ≡ word_of l) (q₀ : r₀ ≡ after_word l) (p₁ : w₁ ≡ word_of r₀) (q₁ : r₁ ≡ after_word r₀) (p₂ : w₂ ≡ word_of r₁) (q₂ : r₂ ≡ after_word r₁) (p₃ : w₃ ≡ word_of r₂) where
  past_one : words_in r₀ ≡ drop 1 (words_in l)
  past_one = ap words_in q₀ ∙ later_words l

  past_two : words_in r₁ ≡ drop 2 (words_in l)
  past_two = ap words_in q₁ ∙ past_word (words_in l) 1 r₀ past_one

  past_three : words_in r₂ ≡ drop 3 (words_in l)
  past_three = ap words_in q₂ ∙ past_word (words_in l) 2 r₁ past_two

  pub words_left : false ≡ eqb (length w₃) 0 → call_by (words_in l) ≡ None
  words_left t = too_many (words_in l) (omega (arith, ap length past_three, has_words r₂ w₃ p₃ t))

  pub words_all : true ≡ eqb (length w₃) 0 → (o : Option Verb) → o ≡ verb_in w₀ → call_named o w₁ w₂ ≡ call_by (words_in l)
  words_all t o e =
      call_by_lem (words_in l) o w₁ w₂ (sym past_three ∙ has_none r₂ w₃ p₃ t) (e ∙ ap verb_in (p₀ ∙ first_word l))
      (p₁ ∙ at_word (words_in l) 1 r₀ past_one) (p₂ ∙ at_word (words_in l) 2 r₁ past_two)

-- no word, by the first word or by all
pub same_empty : (l w : List ℕ) → w ≡ word_of l → eqb (length w) 0 ≡ eqb (length (words_in l)) 0
same_empty l w e =
    elim (cases_Bool (eqb (length w) 0)) [
      | inl t ↦ t ∙ sym (eq-eqb (length (words_in l)) 0 (ap length (has_none l w e (sym t))))
      | inr t ↦ t ∙ sym (ne_eqb (length (words_in l)) 0 (λ z. omega (arith, has_words l w e (sym t))))
    ]
