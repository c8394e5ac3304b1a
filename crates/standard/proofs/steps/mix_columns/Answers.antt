use Rattle.std.proofs.Common.{sym, ◌∙◌}
use Rattle.standard.proofs.Matrices.{mix_is}
use Rattle.standard.proofs.StateLaws.{bytes_from}
use Rattle.standard.proofs.steps.mix_columns.Goals as goal

pub returns : goal.returns
returns c = c.by_columns.ensures ∙ sym (mix_is c.args.state.now (bytes_from c.args.state.now c.fits-state))
