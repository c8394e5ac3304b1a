use Rattle.std.proofs.Common.{◌≡◌, vec_items}
use Rattle.text.specs.Text.{words_in}
use Rattle.text.proofs.Pairs.{prefixed}
use Rattle.playing.specs.Commands.{shorts_in}
use Rattle.playing.proofs.readers.read_shorts.Given as goal

abbrev pub invariant-loop-word : goal.invariant-loop-word
invariant-loop-word l = shorts_in (words_in l.line) ≡ prefixed (vec_items l.numbers) (shorts_in l.word-iterator)
