use Rattle.std.proofs.Common.{ap, ◌∙◌}
use Rattle.bench.specs.Word.{test_bit}
use Rattle.bench.proofs.WordBits.{test_bits}
use Rattle.bench.proofs.kinds.Kind.on_bits.Goals as goal

pub returns : goal.returns
returns c = c.test_bit.ensures ∙ ap (λ w. test_bit w 0) c.on_words.ensures ∙ test_bits c.args.self c.args.x c.args.y
