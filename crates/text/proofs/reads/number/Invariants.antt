use Rattle.std.proofs.Common.{◌≡◌, ◌^◌, ◌<◌, drop}
use Rattle.text.specs.Text.{all_digits, value_after}
use Rattle.text.proofs.reads.number.Given as goal

abbrev pub invariant-loop-digit : goal.invariant-loop-digit
invariant-loop-digit l =
    (l.value < 2 ^ 64)
    × (all_digits l.word ≡ all_digits (drop l.digit-index l.word))
    × (value_after 0 l.word ≡ value_after l.value (drop l.digit-index l.word))
