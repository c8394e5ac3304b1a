use Rattle.std.proofs.Common.{◌≡◌, IfOk, Some, None, Option, sym, subst}
use Rattle.std.specs.Option.{option_map}
use Rattle.law.specs.Calls.{Asked, asked}
use Rattle.consoling.specs.Lines.{call_in}
use Rattle.consoling.proofs.Calls.{words_left, words_all}
use Rattle.consoling.proofs.readers.read_call.Goals as goal

pub returns-then-not-is_empty : goal.returns-then-not-is_empty
unfolding call_in
returns-then-not-is_empty c =
    sym (words_left c.args.line.now c.split_word.ensures.word c.split_word.ensures.rest c.split_word-2.ensures.word c.split_word-2.ensures.rest c.split_word-3.ensures.word c.split_word-3.ensures.rest c.split_word-4.ensures.word c.if-not-is_empty.ensures)

pub returns-in_default : goal.returns-in_default
unfolding call_in
returns-in_default c =
    words_all c.args.line.now c.split_word.ensures.word c.split_word.ensures.rest c.split_word-2.ensures.word c.split_word-2.ensures.rest c.split_word-3.ensures.word c.split_word-3.ensures.rest c.split_word-4.ensures.word c.if-not-is_empty.ensures
    None c.in_default.ensures

pub returns : goal.returns
unfolding call_in
returns c =
    let whole = words_all c.args.line.now c.split_word.ensures.word c.split_word.ensures.rest c.split_word-2.ensures.word c.split_word-2.ensures.rest c.split_word-3.ensures.word c.split_word-3.ensures.rest c.split_word-4.ensures.word c.if-not-is_empty.ensures
    (Some c.in-Some.verb) c.in-Some.ensures in
    subst (λ (x : Option Asked). IfOk c.call_of.result (λ o. option_map asked o ≡ x)) whole c.call_of.ensures
