use Rattle.standard.proofs.ExampleValues.{examples}
use Rattle.standard.proofs.undoing.examples_stand.Goals as goal

pub returns : goal.returns
returns c = examples
