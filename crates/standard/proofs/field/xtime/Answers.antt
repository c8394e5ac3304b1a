use Rattle.std.proofs.Common.{◌*◌, ◌%◌, Bool, cond, sym, ap, ◌∙◌, le-leb}
use lib.Bits.{bit_xor, xor_zero_r}
use borrow.Author.Tests.{lt-leb}
use Rattle.standard.specs.Field.{xtime}
use Rattle.standard.proofs.field.xtime.Goals as goal

pub returns-then-a-ge128 : goal.returns-then-a-ge128
unfolding xtime
returns-then-a-ge128 c = sym (ap (λ (q : Bool). bit_xor ((c.args.a * 2) % 256) (cond q 0x1b 0)) (le-leb 128 c.args.a c.if-a-ge128.true))

pub returns-else-a-ge128 : goal.returns-else-a-ge128
unfolding xtime
returns-else-a-ge128 c =
    sym (ap (λ (q : Bool). bit_xor ((c.args.a * 2) % 256) (cond q 0x1b 0)) (lt-leb 128 c.args.a c.if-a-ge128.false) ∙ xor_zero_r ((c.args.a * 2) % 256))
