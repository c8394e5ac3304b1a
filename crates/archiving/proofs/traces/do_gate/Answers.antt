use Rattle.std.proofs.Common.{◌∙◌, ap₂, rules}
use Rattle.bench.specs.Word.{combined}
use Rattle.archiving.proofs.Cases.{made_cases}
use Rattle.archiving.proofs.traces.do_gate.Goals as goal

pub returns-then-gate-words-clause-cases : goal.returns-then-gate-words-clause-cases
returns-then-gate-words-clause-cases c =
    made_cases c.args.gate c.args.words.now c.on_words-word.result (c.on_words-word.ensures ∙ ap₂ (combined c.args.gate.kind) c.word_at.ensures c.word_at-2.ensures) (search rules) (search rules)

pub returns-else-gate-words-clause-cases : goal.returns-else-gate-words-clause-cases
returns-else-gate-words-clause-cases c =
    made_cases c.args.gate c.args.words.now c.on_words-word.result (c.on_words-word.ensures ∙ ap₂ (combined c.args.gate.kind) c.word_at.ensures c.word_at-2.ensures) (search rules) (search rules)
