use Rattle.std.proofs.Common.{◌≡◌, ◌<◌, ◌∷◌, length, sym, ap, ap₂, ◌∙◌, arith}
use Rattle.std.proofs.lemmas.Bool.{eqb-true, eqb-false}
use Rattle.text.specs.Text.{word_of, words_in}
use Rattle.text.proofs.WordLemmas.{no_words, some_words}
use Rattle.text.proofs.words.WordsIterator.next.Goals as goal

pub returns-then-is_empty-clause-steps : goal.returns-then-is_empty-clause-steps
returns-then-is_empty-clause-steps c =
    let rest = c.self.inside.rest.now in
    let none : length (word_of rest) ≡ 0 = ap length (sym c.split_word.ensures.word) ∙ eqb-true (length c.split_word.result.0.now) 0 (sym c.if-is_empty.ensures) in
    let all = sym c.self.view_is ∙ no_words rest none in
    (all, all)

module _ (c : goal.After-rest-2-1) where
  one_off : c.args.self.now ≡ c.split_word.result.0.now ∷ words_in c.split_word.result.1.now
  one_off =
      let rest = c.self.inside.rest.now in
      let word = c.split_word.ensures.word in
      let some : 0 < length (word_of rest) = omega (arith, ap length word, eqb-false (length c.split_word.result.0.now) 0 (sym c.if-is_empty.ensures)) in
      sym c.self.view_is ∙ some_words rest some ∙ ap₂ (λ x y. x ∷ words_in y) (sym word) (sym c.split_word.ensures.rest)

pub returns-clause-steps : goal.returns-clause-steps
returns-clause-steps c = one_off c

pub returns-clause-goes : goal.returns-clause-goes
returns-clause-goes c = record { on = λ _. (tt, tt, omega (arith, ap length (one_off c))); keeps = tt; rests = λ _. tt }
