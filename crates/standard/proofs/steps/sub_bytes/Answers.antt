use Rattle.std.proofs.Common.{rules}
use Rattle.standard.specs.Field.{SBox}
use Rattle.standard.proofs.Filling.{mapped}
use Rattle.standard.proofs.steps.sub_bytes.Goals as goal

pub returns : goal.returns
returns c = mapped _ _ SBox (λ x r f' call. search rules) _ _ 16 c.told-state c.map.ensures.items
