use Rattle.std.proofs.Common.{◌≡◌, ◌++◌, drop, vec_items}
use Rattle.archiving.specs.Lines.{words_text}
use Rattle.archiving.proofs.lines.push_words.Given as goal

abbrev pub invariant-loop-word : goal.invariant-loop-word
invariant-loop-word l = vec_items l.out ++ words_text (drop l.word-index l.words) ≡ vec_items l.initial.out ++ words_text l.words
