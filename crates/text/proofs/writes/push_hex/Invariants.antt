use Rattle.std.proofs.Common.{◌≡◌, ◌++◌, drop, vec_items}
use Rattle.text.specs.Text.{hex_pairs}
use Rattle.text.proofs.writes.push_hex.Given as goal

abbrev pub invariant-loop-byte : goal.invariant-loop-byte
invariant-loop-byte l = vec_items l.out ++ hex_pairs (drop l.byte-index l.bytes) ≡ vec_items l.initial.out ++ hex_pairs l.bytes
