use Rattle.std.proofs.Common.{◌≡◌, ◌++◌, drop, vec_items}
use Rattle.archiving.specs.Listings.{play_lines}
use Rattle.archiving.proofs.listings.push_plays.Given as goal

abbrev pub invariant-loop-i : goal.invariant-loop-i
invariant-loop-i l = vec_items l.out ++ play_lines l.i (drop l.i l.plan) ≡ vec_items l.initial.out ++ play_lines l.from (drop l.from l.plan)
