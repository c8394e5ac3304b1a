use Rattle.std.proofs.Common.{◌≡◌, ◌++◌, map, drop, vec_items}
use Rattle.archiving.specs.Listings.{column_lines}
use Rattle.archiving.proofs.listings.push_column_lines.Given as goal

abbrev pub invariant-loop-i : goal.invariant-loop-i
invariant-loop-i l =
    vec_items l.out ++ column_lines l.i (map vec_items l.quarters) (drop l.i l.gates)
    ≡ vec_items l.initial.out ++ column_lines 0 (map vec_items l.initial.quarters) l.gates
