-- One turn written. Assumes nothing.
use Rattle.std.proofs.Common.{◌≡◌, ℕ, List, [], ◌∷◌, ◌++◌, length, Err, refl, ap, ◌∙◌, append_assoc, arith}
use Rattle.playing.specs.declared.answers.Refusal.TheVariants.{Unreadable}
use Rattle.playing.specs.Answers.{answer_line}
use Rattle.law.specs.declared.calls.Entry.{Entry}
use Rattle.law.specs.Calls.{line, lines}
use Rattle.consoling.specs.declared.turns.Turn.{Turn}
use Rattle.consoling.specs.declared.turns.Turn.TheVariants as turn
use Rattle.consoling.specs.Answers.{answer_text}
use Rattle.consoling.specs.Runs.{answers_text}

module _ (ts : List Turn) (es : List Entry) (was all : List ℕ) where
  pub not_read : (n : ℕ) → all ≡ was ++ answer_line (Err (Unreadable n)) → all ++ answers_text ts (lines es) ≡ was ++ answers_text (turn.Unreadable n ∷ ts) (lines es)
  not_read n e = ap (λ (o : List ℕ). o ++ answers_text ts (lines es)) e ∙ append_assoc was (answer_line (Err (Unreadable n))) (answers_text ts (lines es))

  pub answered : (x : Entry) → all ≡ was ++ answer_text (line x) → all ++ answers_text ts (lines es) ≡ was ++ answers_text (turn.Call ∷ ts) (lines (x ∷ es))
  answered x e = ap (λ (o : List ℕ). o ++ answers_text ts (lines es)) e ∙ append_assoc was (answer_text (line x)) (answers_text ts (lines es))

pub no_entry : (ts : List Turn) (es : List Entry) → length es ≡ 0 → answers_text ts (lines es) ≡ answers_text (turn.Call ∷ ts) (lines es)
no_entry ts [] e = refl
no_entry ts (x ∷ es) e = absurd (omega arith)
