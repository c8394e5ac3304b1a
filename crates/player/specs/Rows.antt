-- One lane's registers as a list: the same gates, in a form that computes with sharing. Assumes nothing.
use Rattle.std.specs.Prelude.{Bool, false, List, [], ◌∷◌, slice_index_or, slice_set}
use Rattle.bench.specs.Kinds.{gate_result}
use Rattle.bench.specs.declared.gates.Gate.{Gate}

abbrev pub row_step : Gate → List Bool → List Bool
row_step g xs = slice_set xs g.target (gate_result g.kind (slice_index_or xs g.first false) (slice_index_or xs g.second false))

abbrev pub row_ran : List Gate → List Bool → List Bool
row_ran [] xs = xs
row_ran (g ∷ gs) xs = row_ran gs (row_step g xs)
