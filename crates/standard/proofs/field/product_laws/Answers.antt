use Rattle.standard.proofs.ProductLaws.{product_laws_lem}
use Rattle.standard.proofs.field.product_laws.Goals as goal

pub returns : goal.returns
returns c = product_laws_lem
