use Rattle.std.proofs.Common.{◌≡◌, true, false, drop, Some, None, codes, sym, ap, ◌∙◌}
use Rattle.std.proofs.lemmas.Bool.{cond-true, cond-false}
use Rattle.text.specs.Text.{words_in}
use Rattle.text.proofs.WordLemmas.{later_words}
use Rattle.playing.specs.Setups.{words_of, single_in, joined_in, first_in, bench_in}
use Rattle.playing.proofs.Places.{named}
use Rattle.playing.proofs.benchlines.read_bench.Goals as goal

pub returns-then-not-is_word : goal.returns-then-not-is_word
unfolding bench_in
returns-then-not-is_word c =
    let l = c.args.line.now in
    let w = c.split_word.result.0.now in
    let word = c.split_word.ensures.word in
    sym (cond-false _ _ _ (named l w word (codes "bench") _ false c.is_word.ensures c.if-not-is_word.true))

pub returns-in_err-first : goal.returns-in_err-first
unfolding bench_in
returns-in_err-first c =
    let l = c.args.line.now in
    let w = c.split_word.result.0.now in
    let word = c.split_word.ensures.word in
    let ws = drop 1 (words_in l) in
    let rest : words_in c.split_word.result.1.now ≡ ws = ap words_in c.split_word.ensures.rest ∙ later_words l in
    let none : single_in ws ≡ None = ap single_in (sym rest) ∙ c.in_err-first.ensures in
    c.from_residual.ensures
    ∙ sym (cond-true _ (first_in (single_in ws) ws) None (named l w word (codes "bench") _ true c.is_word.ensures c.if-not-is_word.false) ∙ ap (λ o. first_in o ws) none)

pub returns : goal.returns
unfolding bench_in
returns c =
    let l = c.args.line.now in
    let w = c.split_word.result.0.now in
    let word = c.split_word.ensures.word in
    let s = c.in_ok-first.first in
    let ws = drop 1 (words_in l) in
    let rest : words_in c.split_word.result.1.now ≡ ws = ap words_in c.split_word.ensures.rest ∙ later_words l in
    let is : single_in ws ≡ Some s = ap single_in (sym rest) ∙ c.in_ok-first.ensures.0 in
    let past : words_in c.in_ok-first.rest.now ≡ drop (words_of s) ws = c.in_ok-first.ensures.1 ∙ ap (drop (words_of s)) rest in
    c.read_joined.ensures
    ∙ ap (joined_in s) past
    ∙ sym (cond-true _ (first_in (single_in ws) ws) None (named l w word (codes "bench") _ true c.is_word.ensures c.if-not-is_word.false) ∙ ap (λ o. first_in o ws) is)
