use Rattle.std.proofs.Common.{◌≡◌, ℕ, true, false, ◌&&◌, eqb, List, [], length, get_or, drop, codes, sym, ap, ◌∙◌}
use Rattle.std.specs.Str.{bytes_eq}
use Rattle.text.specs.Text.{words_in}
use Rattle.text.proofs.WordLemmas.{later_words}
use Rattle.playing.proofs.Places.{named}
use Rattle.consoling.specs.Scripts.{besides}
use Rattle.consoling.proofs.Calls.{same_empty}
use Rattle.consoling.proofs.scripts.is_beside.Goals as goal

pub returns-then-is_word : goal.returns-then-is_word
unfolding besides
returns-then-is_word c =
    let l = c.args.line.now in
    let rest = c.split_word.result.1.now in
    let none = eqb (length (drop 1 (words_in l))) 0 in
    let t : bytes_eq (get_or (words_in l) 0 []) (codes "beside") ≡ true = named l c.split_word.result.0.now c.split_word.ensures.word (codes "beside") _ true c.is_word.ensures c.if-is_word.true in
    c.is_empty.ensures
    ∙ same_empty rest c.split_word-2.result.0.now c.split_word-2.ensures.word
    ∙ ap (λ (ws : List (List ℕ)). eqb (length ws) 0) (ap words_in c.split_word.ensures.rest ∙ later_words l)
    ∙ sym (ap (λ b. b && none) t)

pub returns-else-is_word : goal.returns-else-is_word
unfolding besides
returns-else-is_word c =
    let l = c.args.line.now in
    let none = eqb (length (drop 1 (words_in l))) 0 in
    let t : bytes_eq (get_or (words_in l) 0 []) (codes "beside") ≡ false = named l c.split_word.result.0.now c.split_word.ensures.word (codes "beside") _ false c.is_word.ensures c.if-is_word.false in
    c.if-is_word.false ∙ sym (ap (λ b. b && none) t)
