-- A bench line, as its words are read. Assumes nothing.
use Rattle.std.proofs.Common.{◌≡◌, ℕ, ◌<◌, true, false, List, [], length, get_or, drop, Some, None, codes, Option, sym, ap, ◌∙◌, ap₂, arith}
use Rattle.std.specs.Str.{bytes_eq}
use Rattle.std.proofs.lemmas.Bool.{ne_eqb, eq-eqb, cond-true, cond-false}
use Rattle.text.specs.Text.{number_in}
use Rattle.playing.specs.declared.setups.Single.{Single}
use Rattle.playing.specs.Setups.{word_bench, row_bench, single_in, words_of, past_bench, pair, second_in, joined_in}

module _ (ws : List (List ℕ)) where
  pub word_is : (n a : Option ℕ) → bytes_eq (get_or ws 0 []) (codes "word") ≡ true → number_in (get_or ws 1 []) ≡ n → number_in (get_or ws 2 []) ≡ a → single_in ws ≡ word_bench n a
  word_is n a t p q = cond-true _ _ _ t ∙ ap₂ word_bench p q

  pub row_is : (w n a : Option ℕ) → bytes_eq (get_or ws 0 []) (codes "word") ≡ false → bytes_eq (get_or ws 0 []) (codes "row") ≡ true → number_in (get_or ws 1 []) ≡ w → number_in (get_or ws 2 []) ≡ n → number_in (get_or ws 3 []) ≡ a → single_in ws ≡ row_bench w n a
  row_is w n a f t p q r = cond-false _ _ _ f ∙ cond-true _ _ _ t ∙ ap₂ (λ x y. row_bench x y (number_in (get_or ws 3 []))) p q ∙ ap (row_bench w n) r

  pub no_single : bytes_eq (get_or ws 0 []) (codes "word") ≡ false → bytes_eq (get_or ws 0 []) (codes "row") ≡ false → single_in ws ≡ None
  no_single f g = cond-false _ _ _ f ∙ cond-false _ _ _ g

  pub joined_is : (s : Single) → 0 < length ws → bytes_eq (get_or ws 0 []) (codes "+") ≡ true → joined_in s ws ≡ second_in s (single_in (past_bench (drop 1 ws))) (past_bench (drop 1 ws))
  joined_is s h t = cond-false _ _ _ (ne_eqb (length ws) 0 (λ z. omega arith)) ∙ cond-true _ _ _ t

  pub not_joined : (s : Single) → 0 < length ws → bytes_eq (get_or ws 0 []) (codes "+") ≡ false → joined_in s ws ≡ None
  not_joined s h t = cond-false _ _ _ (ne_eqb (length ws) 0 (λ z. omega arith)) ∙ cond-false _ _ _ t

module _ (s t : Single) (ps rest : List (List ℕ)) (is : single_in ps ≡ Some t) (past : rest ≡ drop (words_of t) ps) where
  pub second_last : rest ≡ [] → second_in s (single_in ps) ps ≡ Some (pair s t)
  second_last e = ap (λ o. second_in s o ps) is ∙ cond-true _ _ _ (eq-eqb (length (drop (words_of t) ps)) 0 (ap length (sym past ∙ e)))

  pub second_more : 0 < length rest → second_in s (single_in ps) ps ≡ None
  second_more h = ap (λ o. second_in s o ps) is ∙ cond-false _ _ _ (ne_eqb (length (drop (words_of t) ps)) 0 (λ z. omega (arith, ap length past)))
