use Rattle.std.proofs.Common.{◌≡◌, ◌++◌, drop, vec_items}
use Rattle.archiving.specs.Listings.{mask_lines}
use Rattle.archiving.proofs.listings.push_mask_lines.Given as goal

abbrev pub invariant-loop-i : goal.invariant-loop-i
invariant-loop-i l =
    vec_items l.out ++ mask_lines l.sockets l.i l.units l.blanks (drop l.i l.gates)
    ≡ vec_items l.initial.out ++ mask_lines l.sockets 0 l.initial.units l.initial.blanks l.gates
