use Rattle.std.proofs.Common.{◌/◌, ◌^◌, eqb, sym, ap, ◌∙◌, arith}
use Rattle.std.proofs.lemmas.Bool.{le-ltb}
use Rattle.bench.proofs.bits.test_bit.Goals as goal
use Rattle.bench.proofs.WordBits.{no_bit}
use Rattle.bench.specs.Word.{test_bit}
use lib.Bits.{and_mask}

pub returns-then-at-lt64 : goal.returns-then-at-lt64
unfolding test_bit
returns-then-at-lt64 c = ap (λ n. eqb n 1) (and_mask (c.args.word / 2 ^ c.args.at) 1)

pub returns-else-at-lt64 : goal.returns-else-at-lt64
returns-else-at-lt64 c = le-ltb c.args.at 64 (omega arith) ∙ sym (no_bit c.args.word c.args.at (omega arith) (omega arith))
