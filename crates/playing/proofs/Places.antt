-- The words of a line by their places, as a reader comes to them. Assumes nothing.
use Rattle.std.proofs.Common.{◌≡◌, ℕ, ◌+◌, ◌<◌, Bool, true, false, eqb, List, [], ◌∷◌, length, get_or, drop, Some, None, Option, sym, refl, ap, ◌∙◌, ap₂, ⊎_elim, arith}
use Rattle.std.specs.Option.{option_map}
use Rattle.std.proofs.lemmas.List.{get_or-drop, drop-drop}
use Rattle.std.specs.Str.{bytes_eq}
use Rattle.std.proofs.lemmas.Bool.{ne_eqb, eqb-true, eqb-false, cond-false, cases_lt}
use Rattle.text.specs.Text.{word_of, after_word, words_in, bytes_in}
use Rattle.text.proofs.WordLemmas.{first_word, later_words, no_words, some_words}
use Rattle.playing.specs.Calls.{page}
use Rattle.playing.specs.declared.verbs.Verb.{Verb}
use Rattle.playing.specs.declared.verbs.Verb.TheVariants.{Registers, Lanes, Left, Set, Show, Gate, Page, Play}
use Rattle.playing.specs.Commands.{page_in, verb_in, shorts_in, called_with, call_named, command_in}

-- a reader that has come to word k
module _ (ws : List (List ℕ)) (k : ℕ) (l : List ℕ) (e : words_in l ≡ drop k ws) where
  pub at_word : word_of l ≡ get_or ws k []
  at_word =
      first_word l
      ∙ ap (λ (xs : List (List ℕ)). get_or xs 0 []) e
      ∙ get_or-drop k ws 0 []
      ∙ ap (λ i. get_or ws i []) (let s : k + 0 ≡ k = omega arith in s)

  pub past_word : words_in (after_word l) ≡ drop (k + 1) ws
  past_word = later_words l ∙ ap (drop 1) e ∙ drop-drop 1 k ws

pub one_word : (l : List ℕ) → length (word_of (after_word l)) ≡ 0 → page_in (words_in l) ≡ option_map page (bytes_in (word_of l))
one_word l e =
    ⊎_elim
    (λ some. ap page_in (some_words l some ∙ ap (λ ws. word_of l ∷ ws) (no_words (after_word l) e)))
    (λ none. let zero-long : length (word_of l) ≡ 0 = omega arith in
    ap page_in (no_words l zero-long) ∙ sym (ap (λ w. option_map page (bytes_in w)) (first_word l ∙ ap (λ (xs : List (List ℕ)). get_or xs 0 []) (no_words l zero-long))))
    (cases_lt 0 (length (word_of l)))

pub two_words : (l : List ℕ) → 0 < length (word_of (after_word l)) → page_in (words_in l) ≡ None
two_words l h =
    let later : words_in (after_word l) ≡ word_of (after_word l) ∷ words_in (after_word (after_word l)) = some_words (after_word l) h in
    let twos = later_words l in
    let many : length (words_in l) ≡ 1 → ⊥ = λ one. two_long (words_in l) (word_of (after_word l)) (words_in (after_word (after_word l))) (sym twos ∙ later) one in
    cond-false (eqb (length (words_in l)) 1) (option_map page (bytes_in (get_or (words_in l) 0 []))) None (ne_eqb (length (words_in l)) 1 many)
  where
    two_long : (ws : List (List ℕ)) (v : List ℕ) (vs : List (List ℕ)) → drop 1 ws ≡ v ∷ vs → length ws ≡ 1 → ⊥
    two_long [] v vs d one = omega arith
    two_long (w ∷ us) v vs d one = omega (arith, ap length d)

pub command_is : (l : List ℕ) (v : Option Verb) → v ≡ verb_in (word_of l) → command_in l ≡ call_named v (words_in (after_word l))
unfolding command_in
command_is l v e = ap₂ call_named (ap verb_in (sym (first_word l)) ∙ sym e) (sym (later_words l))

pub numbers_follow : (v : Verb) (ws : List (List ℕ)) → (v ≡ Page → ⊥) → call_named (Some v) ws ≡ called_with v (shorts_in ws)
numbers_follow Registers ws n = refl
numbers_follow Lanes ws n = refl
numbers_follow Left ws n = refl
numbers_follow Set ws n = refl
numbers_follow Show ws n = refl
numbers_follow Gate ws n = refl
numbers_follow Page ws n = absurd (n refl)
numbers_follow Play ws n = refl

-- what the tests of a first word w of the line l say of all the words
module _ (l w : List ℕ) (e : w ≡ word_of l) where
  pub has_words : false ≡ eqb (length w) 0 → 0 < length (words_in l)
  has_words t =
      let long : 0 < length (word_of l) = omega (arith, ap length e, eqb-false (length w) 0 (sym t)) in
      omega (arith, ap length (some_words l long))

  pub has_none : true ≡ eqb (length w) 0 → words_in l ≡ []
  has_none t = no_words l (sym (ap length e) ∙ eqb-true (length w) 0 (sym t))

  pub named : (t : List ℕ) (r b : Bool) → r ≡ bytes_eq w t → r ≡ b → bytes_eq (get_or (words_in l) 0 []) t ≡ b
  named t r b p q = ap (λ x. bytes_eq x t) (sym (e ∙ first_word l)) ∙ sym p ∙ q
