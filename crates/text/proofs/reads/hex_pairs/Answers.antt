use Rattle.std.proofs.Common.{rules, ◌≡◌, ◌+◌, ◌*◌, ◌/◌, ◌%◌, length, drop, vec_items, sym, ap, ◌∙◌, arith}
use Rattle.text.proofs.Pairs.{prefixed, prefixed_nothing, bytes_of, bytes_of_pairs, pair_more, pairs_odd}
use Rattle.text.proofs.reads.hex_pairs.Goals as goal

pub returns-then-not-is_empty : goal.returns-then-not-is_empty
returns-then-not-is_empty c =
    let odd : length c.args.word.now % 2 ≡ 1 = grind arith in
    sym (pairs_odd c.args.word.now odd)

pub loop-high-init : goal.loop-high-init
loop-high-init c =
    let xs = c.args.word.now in
    let even : length xs ≡ 2 * (length xs / 2) = grind arith in
    ap (λ l. prefixed l (bytes_of c.as_chunks.result.0.now)) c.new-bytes.ensures.items
    ∙ prefixed_nothing _
    ∙ ap bytes_of c.as_chunks.ensures.front
    ∙ bytes_of_pairs (length xs / 2) xs even

pub loop-high-preserved : goal.loop-high-preserved
loop-high-preserved c =
    let had = vec_items c.loop-high.bytes in
    let one = sym c.hex_byte.ensures ∙ c.in-Some.is in
    ap (λ l. prefixed l (bytes_of (drop (c.loop-high.high-index + 1) c.as_chunks.result.0.now))) c.in_ok-push.ensures.items
    ∙ sym (pair_more _ c.loop-high.high-index (search rules) had c.in-Some.byte one)
    ∙ c.loop-high.invariant
