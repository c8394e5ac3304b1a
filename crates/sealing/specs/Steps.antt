-- The calls on a unit that seal an input, one after another. Assumes nothing.
--
--   filled v key block n   the key and block i placed in each lane i below n
--   turned v               scheduled, and then sealed
use Rattle.std.specs.Prelude.{ℕ, zero, suc, List}
use Rattle.unit.specs.View.{View}
use Rattle.law.specs.Calls.{place_key, place_block, schedule, seal, next}

abbrev pub filled : View → List ℕ → (ℕ → List ℕ) → ℕ → View
filled v key block zero = v
filled v key block (suc n) = next (next (filled v key block n) (place_key n key)) (place_block n (block n))

abbrev pub turned : View → View
turned v = next (next v schedule) seal
