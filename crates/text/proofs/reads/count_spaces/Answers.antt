use Rattle.std.proofs.Common.{not, eqb, ◌∙◌}
use Rattle.text.proofs.Scans.{place_or_end, before_other}
use Rattle.text.proofs.reads.count_spaces.Goals as goal

pub returns-clause-value : goal.returns-clause-value
returns-clause-value c = c.unwrap_or.ensures ∙ place_or_end (λ b. not (eqb b 32)) c.args.bytes.now _ c.find_other.ensures ∙ before_other 32 c.args.bytes.now
