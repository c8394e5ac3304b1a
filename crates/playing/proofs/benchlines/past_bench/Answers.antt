use Rattle.std.proofs.Common.{◌≡◌, true, false, [], get_or, drop, codes, sym, ap, ◌∙◌}
use Rattle.std.specs.Str.{bytes_eq}
use Rattle.std.proofs.lemmas.Bool.{cond-true, cond-false}
use Rattle.text.specs.Text.{words_in}
use Rattle.text.proofs.WordLemmas.{first_word, later_words}
use Rattle.playing.proofs.benchlines.past_bench.Goals as goal

pub returns-then-is_word : goal.returns-then-is_word
returns-then-is_word c =
    let l = c.args.line.now in
    let w = c.split_word.ensures.word ∙ first_word l in
    let t : bytes_eq (get_or (words_in l) 0 []) (codes "bench") ≡ true = sym (ap (λ x. bytes_eq x (codes "bench")) w) ∙ sym c.is_word.ensures ∙ c.if-is_word.true in
    ap words_in c.split_word.ensures.rest ∙ later_words l ∙ sym (cond-true _ (drop 1 (words_in l)) (words_in l) t)

pub returns-else-is_word : goal.returns-else-is_word
returns-else-is_word c =
    let l = c.args.line.now in
    let w = c.split_word.ensures.word ∙ first_word l in
    let t : bytes_eq (get_or (words_in l) 0 []) (codes "bench") ≡ false = sym (ap (λ x. bytes_eq x (codes "bench")) w) ∙ sym c.is_word.ensures ∙ c.if-is_word.false in
    sym (cond-false _ (drop 1 (words_in l)) (words_in l) t)
