use Rattle.std.proofs.Common.{◌<◌, ◌^◌, sym, subst, arith, rules}
use Rattle.bench.proofs.WordBits.{put_small}
use Rattle.bench.proofs.row.put_byte.Goals as goal

pub overflow_cast-result : goal.overflow_cast-result
overflow_cast-result c =
    let small : c.put_bit.result < 2 ^ 8 = subst (λ n. n < 2 ^ 8) (sym c.put_bit.ensures) (put_small c.args.byte c.args.at c.args.bit c.requires (omega arith)) in
    search rules
