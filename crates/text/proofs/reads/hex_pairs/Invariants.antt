use Rattle.std.proofs.Common.{◌≡◌, drop, vec_items}
use Rattle.text.specs.Text.{pairs_in}
use Rattle.text.proofs.Pairs.{prefixed, bytes_of}
use Rattle.text.proofs.reads.hex_pairs.Given as goal

-- what is read already, and what the pairs that are left give
abbrev pub invariant-loop-high : goal.invariant-loop-high
invariant-loop-high l = prefixed (vec_items l.bytes) (bytes_of (drop l.high-index l.pairs)) ≡ pairs_in l.word
