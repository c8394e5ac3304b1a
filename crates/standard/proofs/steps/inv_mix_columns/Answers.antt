use Rattle.std.proofs.Common.{sym, ◌∙◌}
use Rattle.standard.proofs.Matrices.{inv_mix_is}
use Rattle.standard.proofs.steps.inv_mix_columns.Goals as goal

pub returns : goal.returns
returns c = c.by_columns.ensures ∙ sym (inv_mix_is c.args.state.now)
