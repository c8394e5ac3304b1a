use Rattle.std.proofs.Common.{◌≡◌, ◌++◌, vec_items}
use Rattle.player.specs.Pages.{gates_from}
use Rattle.archiving.proofs.listings.list_gates.Given as goal

abbrev pub invariant-loop-gate : goal.invariant-loop-gate
invariant-loop-gate l =
    vec_items l.gates ++ gates_from l.gate-iterator.kinds.now l.gate-iterator.places.now ≡ gates_from l.initial.gate-iterator.kinds.now l.initial.gate-iterator.places.now
