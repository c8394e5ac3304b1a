use Rattle.std.proofs.Common.{◌≡◌, ◌++◌, vec_items}
use Rattle.archiving.specs.Lines.{low_text}
use Rattle.archiving.proofs.lines.push_low.Given as goal

abbrev pub invariant-loop-j : goal.invariant-loop-j
invariant-loop-j l = vec_items l.out ++ low_text l.word l.j ≡ vec_items l.initial.out ++ low_text l.word l.count
