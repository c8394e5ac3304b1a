use Rattle.std.proofs.Common.{◌≡◌, IfOk, Some, None, vec_items, Option, sym, ap, ◌∙◌, subst, rules}
use Rattle.std.specs.Option.{option_map}
use Rattle.text.specs.Text.{word_of, after_word, words_in}
use Rattle.playing.specs.declared.verbs.Verb.TheVariants.{Page}
use Rattle.playing.specs.Calls.{Call, meant}
use Rattle.playing.specs.Commands.{verb_in, shorts_in, called_with, page_in, command_in}
use Rattle.playing.proofs.Places.{command_is, numbers_follow}
use Rattle.playing.proofs.readers.read_command.Goals as goal

pub returns-in_default : goal.returns-in_default
returns-in_default c =
    let l = c.args.line.now in
    sym (command_is l None (c.in_default.ensures ∙ ap verb_in c.split_word.ensures.word))

pub returns-in-Page : goal.returns-in-Page
returns-in-Page c =
    let l = c.args.line.now in
    let verb : Some Page ≡ verb_in (word_of l) = sym (ap Some c.in-Page.is) ∙ c.in-Some.ensures ∙ ap verb_in c.split_word.ensures.word in
    let same : page_in (words_in c.split_word.result.1.now) ≡ command_in l = ap (λ r. page_in (words_in r)) c.split_word.ensures.rest ∙ sym (command_is l (Some Page) verb) in
    subst (λ (x : Option Call). IfOk c.page_command.result (λ o. option_map meant o ≡ x)) same c.page_command.ensures

pub returns-in_ok-read_shorts-in_default-verb : goal.returns-in_ok-read_shorts-in_default-verb
returns-in_ok-read_shorts-in_default-verb c =
    let l = c.args.line.now in
    let v = c.in-Some.verb in
    let whole = command_is l (Some v) (c.in-Some.ensures ∙ ap verb_in c.split_word.ensures.word) ∙ numbers_follow v (words_in (after_word l)) c.in_default-verb.not-Page in
    let numbers : option_map vec_items c.in_ok-read_shorts-in_default-verb.field-0 ≡ shorts_in (words_in (after_word l)) = c.in_ok-read_shorts-in_default-verb.ensures ∙ ap (λ r. shorts_in (words_in r)) c.split_word.ensures.rest in
    let all : command_in l ≡ called_with v (option_map vec_items c.in_ok-read_shorts-in_default-verb.field-0) = whole ∙ ap (called_with v) (sym numbers) in
    rw all (search rules)
