use Rattle.std.proofs.Common.{◌≡◌, ℕ, ◌+◌, List, ◌∷◌, ◌++◌, drop, vec_items, sym, ap, ap₂, ◌∙◌}
use Rattle.std.proofs.lemmas.List.{drop_more}
use Rattle.law.specs.declared.calls.Entry.{Entry}
use Rattle.law.specs.Calls.{lines}
use Rattle.consoling.specs.declared.turns.Turn.{Turn}
use Rattle.consoling.specs.declared.turns.Turn.TheVariants as turn
use Rattle.consoling.specs.Runs.{answers_text}
use Rattle.consoling.proofs.Turning.{not_read, answered, no_entry}
use Rattle.consoling.proofs.writers.push_answers.Goals as goal
use Rattle.consoling.proofs.writers.push_answers.Goals.{in-Unreadable+in_ok-push_answer-in-Unreadable, in-Call+in-Some+in_ok-push_answer-in-Call, in-Call+in_default}

pub loop-turn-preserved : goal.loop-turn-preserved
loop-turn-preserved c =
    let ts = c.args.turns.now in
    let i = c.loop-turn.turn-index in
    let rest = drop (i + 1) ts in
    let was = vec_items c.loop-turn.out in
    let es = c.loop-turn.entries.rest.now in
    let more = drop_more ts i turn.Call c.loop-turn-test.true in
    let text = λ (o : List ℕ) (xs : List Turn) (ys : List Entry). o ++ answers_text xs (lines ys) in
    elim c.match-turn.branch [
      | in-Unreadable+in_ok-push_answer-in-Unreadable w ↦
          let here : drop i ts ≡ turn.Unreadable w.in-Unreadable.number ∷ rest = more ∙ ap (λ t. t ∷ rest) w.in-Unreadable.is in
          ap₂ (λ o e. text (vec_items o) rest e.rest.now) w.out-is w.entries-is
          ∙ not_read rest es was _ w.in-Unreadable.number w.in_ok-push_answer-in-Unreadable.ensures
          ∙ sym (ap (λ xs. text was xs es) here)
          ∙ c.loop-turn.invariant
      | in-Call+in-Some+in_ok-push_answer-in-Call w ↦
          let here : drop i ts ≡ turn.Call ∷ rest = more ∙ ap (λ t. t ∷ rest) w.in-Call.is in
          ap₂ (λ o e. text (vec_items o) rest e.rest.now) w.out-is w.entries-is
          ∙ answered rest w.next.new.self.rest.now was _ w.in-Some.entry.now w.in_ok-push_answer-in-Call.ensures
          ∙ sym (ap₂ (text was) here w.in-Some.ensures.steps)
          ∙ c.loop-turn.invariant
      | in-Call+in_default w ↦
          let here : drop i ts ≡ turn.Call ∷ rest = more ∙ ap (λ t. t ∷ rest) w.in-Call.is in
          ap₂ (λ o e. text (vec_items o) rest e.rest.now) w.out-is (w.entries-is ∙ w.in_default.ensures.steps.1)
          ∙ ap (λ l. was ++ l) (no_entry rest es w.in_default.ensures.steps.0)
          ∙ sym (ap (λ xs. text was xs es) here)
          ∙ c.loop-turn.invariant
    ]
