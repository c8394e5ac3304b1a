-- A unit over a bench of any type, as a value. Assumes nothing.
--
--   view g u       what a unit holds
--   shape_of g u   what decides its answers
use Rattle.bench.specs.declared.benches.Bench.{Ghosts}
pub use Rattle.bench.specs.Benches.{meaning}
use Rattle.unit.specs.declared.unit.CipherUnit.{CipherUnit}
use Rattle.unit.specs.View.{View, Shape, shape}

abbrev pub view : {B : Type 0} → Ghosts B → CipherUnit B → View
view g u = record { model = meaning g u.bench; beneath = g.beneath u.bench; records = u.table.records }

abbrev pub shape_of : {B : Type 0} → Ghosts B → CipherUnit B → Shape
shape_of g u = shape (view g u)
