use Rattle.std.proofs.Common.{eqb, ◌∙◌}
use Rattle.text.proofs.Scans.{place_or_end}
use Rattle.text.proofs.reads.count_before.Goals as goal

pub returns-clause-value : goal.returns-clause-value
returns-clause-value c = c.unwrap_or.ensures ∙ place_or_end (λ b. eqb b c.args.stop) c.args.bytes.now _ c.find.ensures
