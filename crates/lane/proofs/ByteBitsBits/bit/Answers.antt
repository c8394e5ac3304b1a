use Rattle.std.proofs.Common.{◌≡◌, ◌/◌, ◌%◌, ap, ◌∙◌, get_or, rules}
use Rattle.standard.specs.Bits.{bit}
use Rattle.bench.specs.Word.{test_bit}
use Rattle.lane.proofs.ByteBitsBits.bit.Goals as goal

pub returns : goal.returns
unfolding bit test_bit
returns c =
    let byte : c.unwrap_or-byte.result ≡ get_or c.args.self.now.0.now (c.args.at / 8) 0 = search rules in
    c.test_bit.ensures ∙ ap (λ x. test_bit x (c.args.at % 8)) byte
