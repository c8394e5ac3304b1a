use Rattle.std.proofs.Common.{◌≡◌, ◌++◌, drop, vec_items}
use Rattle.law.specs.Calls.{lines}
use Rattle.consoling.specs.Runs.{answers_text}
use Rattle.consoling.proofs.writers.push_answers.Given as goal

abbrev pub invariant-loop-turn : goal.invariant-loop-turn
invariant-loop-turn l =
    vec_items l.out ++ answers_text (drop l.turn-index l.turns) (lines l.entries.rest.now)
    ≡ vec_items l.initial.out ++ answers_text l.turns (lines l.log)
