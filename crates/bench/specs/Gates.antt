-- Gates done one after another. Assumes nothing.
--
--   ran gs m      the meaning m after the gates gs
--   ran_in gs x   the same on the bottom benches beneath
use Rattle.std.specs.Prelude.{List, [], ◌∷◌}
use Rattle.bench.specs.declared.gates.Gate.{Gate}
use Rattle.bench.specs.Model.{Model, Memory, gated, gated_in}

abbrev pub ran : List Gate → Model → Model
ran [] m = m
ran (g ∷ gs) m = ran gs (gated g.kind g.target g.first g.second m)

abbrev pub ran_in : List Gate → Memory → Memory
ran_in [] x = x
ran_in (g ∷ gs) x = ran_in gs (gated_in g.kind g.target g.first g.second x)
