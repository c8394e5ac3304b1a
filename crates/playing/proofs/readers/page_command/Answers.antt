use Rattle.std.proofs.Common.{◌≡◌, length, vec_items, sym, ap, ◌∙◌, arith, rules}
use Rattle.std.specs.Option.{option_map}
use Rattle.std.proofs.lemmas.Bool.{eqb-true, eqb-false}
use Rattle.text.specs.Text.{word_of, after_word, words_in, bytes_in}
use Rattle.playing.specs.Calls.{page}
use Rattle.playing.specs.Commands.{page_in}
use Rattle.playing.proofs.Places.{one_word, two_words}
use Rattle.playing.proofs.readers.page_command.Goals as goal

pub returns-then-not-is_empty : goal.returns-then-not-is_empty
returns-then-not-is_empty c =
    let l = c.args.line.now in
    let extra : c.split_word-2.result.0.now ≡ word_of (after_word l) = c.split_word-2.ensures.word ∙ ap word_of c.split_word.ensures.rest in
    let some : length (word_of (after_word l)) ≡ 0 → ⊥ = λ e. eqb-false (length c.split_word-2.result.0.now) 0 (sym c.if-not-is_empty.ensures) (ap length extra ∙ e) in
    sym (two_words l (omega (arith, some)))

pub returns : goal.returns
returns c =
    let l = c.args.line.now in
    let extra : c.split_word-2.result.0.now ≡ word_of (after_word l) = c.split_word-2.ensures.word ∙ ap word_of c.split_word.ensures.rest in
    let none : length (word_of (after_word l)) ≡ 0 = sym (ap length extra) ∙ eqb-true (length c.split_word-2.result.0.now) 0 (sym c.if-not-is_empty.ensures) in
    let bytes : option_map vec_items c.in_ok-hex_bytes.field-0 ≡ bytes_in (word_of l) = c.in_ok-hex_bytes.ensures ∙ ap bytes_in c.split_word.ensures.word in
    let all : page_in (words_in l) ≡ option_map page (option_map vec_items c.in_ok-hex_bytes.field-0) = one_word l none ∙ ap (option_map page) (sym bytes) in
    rw all (search rules)
