use Rattle.std.proofs.Common.{vec_items}
use Rattle.law.specs.Calls.{asks}
use Rattle.consoling.proofs.Bodies.{Left}
use Rattle.consoling.proofs.scripts.read_body.Given as goal

abbrev pub invariant-loop-line : goal.invariant-loop-line
invariant-loop-line l =
    let all = l.initial.lines in
    Left l.stop all.next all.lines l.lines.next l.lines.lines (vec_items l.script.turns) (asks (vec_items l.script.log))
