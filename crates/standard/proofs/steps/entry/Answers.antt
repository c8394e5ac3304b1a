use Rattle.std.proofs.Common.{refl}
use Rattle.standard.specs.Columns.{entry}
use Rattle.standard.proofs.steps.entry.Goals as goal

pub returns : goal.returns
unfolding entry
returns c = refl
