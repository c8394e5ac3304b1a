use Rattle.std.proofs.Common.{◌≡◌, ◌+◌, ◌*◌, ◌≤◌, map, length}
use Rattle.std.specs.List.{AllByRecursion as All}
use Rattle.bench.specs.Benches.{meaning}
use Rattle.player.specs.Pages.{gates_from}
use Rattle.player.specs.Plays.{Within, ran, ran_in, placed}
use Rattle.player.proofs.plays.play.Given as goal

-- the gates still to come make of the bench what all of them make of it at first
abbrev pub invariant-loop-gate : goal.invariant-loop-gate
invariant-loop-gate g l =
    let rest = gates_from l.gate-iterator.kinds.now l.gate-iterator.places.now in
    let all = gates_from l.initial.gate-iterator.kinds.now l.initial.gate-iterator.places.now in
    let place = placed l.bases.sockets l.bases.bases.now in
    (ran (map place rest) (meaning g.B.Bench l.bench) ≡ ran (map place all) (meaning g.B.Bench l.initial.bench))
    × ((ran_in (map place rest) (g.B.Bench.beneath l.bench) ≡ ran_in (map place all) (g.B.Bench.beneath l.initial.bench))
    × ((All (Within (8 * l.bases.sockets + l.bases.scratch)) rest)
    × ((length rest ≤ g.B.Bench.left l.bench) × (g.B.Bench.registers l.bench ≡ l.bases.registers))))
