use Rattle.std.proofs.Common.{◌≡◌, ◌++◌, drop, vec_items}
use Rattle.archiving.specs.Lines.{bases_text}
use Rattle.archiving.proofs.lines.push_bases.Given as goal

abbrev pub invariant-loop-base : goal.invariant-loop-base
invariant-loop-base l = vec_items l.out ++ bases_text (drop l.base-index l.bases) ≡ vec_items l.initial.out ++ bases_text l.bases
