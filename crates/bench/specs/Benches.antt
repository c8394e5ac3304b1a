-- What a bench of any type means, as its ghost members tell. Assumes nothing.
use Rattle.bench.specs.declared.benches.Bench.{Ghosts}
use Rattle.bench.specs.Model.{Model, told}

abbrev pub meaning : {B : Type 0} → Ghosts B → B → Model
meaning g b = told g.registers g.lanes g.left g.shows b
