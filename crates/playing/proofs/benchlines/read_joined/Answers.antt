use Rattle.std.proofs.Common.{◌≡◌, true, false, drop, Some, None, codes, sym, ap, ◌∙◌}
use Rattle.text.specs.Text.{words_in}
use Rattle.text.proofs.WordLemmas.{later_words}
use Rattle.playing.specs.Setups.{words_of, past_bench, single_in, second_in, joined_in}
use Rattle.playing.proofs.Places.{has_words, has_none, named}
use Rattle.playing.proofs.Benches.{joined_is, not_joined, second_last, second_more}
use Rattle.playing.proofs.benchlines.read_joined.Goals as goal

pub returns-then-is_empty : goal.returns-then-is_empty
returns-then-is_empty c =
    sym (ap (joined_in c.args.first) (has_none c.args.line.now c.split_word.result.0.now c.split_word.ensures.word c.if-is_empty.ensures))

pub returns-then-not-is_word : goal.returns-then-not-is_word
returns-then-not-is_word c =
    let l = c.args.line.now in
    let w = c.split_word.result.0.now in
    let word = c.split_word.ensures.word in
    sym (not_joined (words_in l) c.args.first (has_words l w word c.if-is_empty.ensures) (named l w word (codes "+") _ false c.is_word.ensures c.if-not-is_word.true))

pub returns-in_err-second : goal.returns-in_err-second
returns-in_err-second c =
    let l = c.args.line.now in
    let w = c.split_word.result.0.now in
    let word = c.split_word.ensures.word in
    let s = c.args.first in
    let ps = past_bench (drop 1 (words_in l)) in
    let from : words_in c.past_bench.result.now ≡ ps = c.past_bench.ensures ∙ ap past_bench (ap words_in c.split_word.ensures.rest ∙ later_words l) in
    let whole = joined_is (words_in l) s (has_words l w word c.if-is_empty.ensures) (named l w word (codes "+") _ true c.is_word.ensures c.if-not-is_word.false) in
    let none : single_in ps ≡ None = ap single_in (sym from) ∙ c.in_err-second.ensures in
    c.from_residual.ensures ∙ sym (whole ∙ ap (λ o. second_in s o ps) none)

pub returns-then-not-is_empty : goal.returns-then-not-is_empty
returns-then-not-is_empty c =
    let l = c.args.line.now in
    let w = c.split_word.result.0.now in
    let word = c.split_word.ensures.word in
    let s = c.args.first in
    let t = c.in_ok-second.second in
    let r = c.in_ok-second.rest.now in
    let ps = past_bench (drop 1 (words_in l)) in
    let from : words_in c.past_bench.result.now ≡ ps = c.past_bench.ensures ∙ ap past_bench (ap words_in c.split_word.ensures.rest ∙ later_words l) in
    let whole = joined_is (words_in l) s (has_words l w word c.if-is_empty.ensures) (named l w word (codes "+") _ true c.is_word.ensures c.if-not-is_word.false) in
    let is : single_in ps ≡ Some t = ap single_in (sym from) ∙ c.in_ok-second.ensures.0 in
    let past : words_in r ≡ drop (words_of t) ps = c.in_ok-second.ensures.1 ∙ ap (drop (words_of t)) from in
    let more = has_words r c.split_word-2.result.0.now c.split_word-2.ensures.word c.if-not-is_empty.ensures in
    sym (whole ∙ second_more s t ps (words_in r) is past more)

pub returns : goal.returns
returns c =
    let l = c.args.line.now in
    let w = c.split_word.result.0.now in
    let word = c.split_word.ensures.word in
    let s = c.args.first in
    let t = c.in_ok-second.second in
    let r = c.in_ok-second.rest.now in
    let ps = past_bench (drop 1 (words_in l)) in
    let from : words_in c.past_bench.result.now ≡ ps = c.past_bench.ensures ∙ ap past_bench (ap words_in c.split_word.ensures.rest ∙ later_words l) in
    let whole = joined_is (words_in l) s (has_words l w word c.if-is_empty.ensures) (named l w word (codes "+") _ true c.is_word.ensures c.if-not-is_word.false) in
    let is : single_in ps ≡ Some t = ap single_in (sym from) ∙ c.in_ok-second.ensures.0 in
    let past : words_in r ≡ drop (words_of t) ps = c.in_ok-second.ensures.1 ∙ ap (drop (words_of t)) from in
    let none = has_none r c.split_word-2.result.0.now c.split_word-2.ensures.word c.if-not-is_empty.ensures in
    sym (whole ∙ second_last s t ps (words_in r) is past none)
