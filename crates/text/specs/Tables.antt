-- Tables of words. Assumes nothing.
--
--   named table w   what the table has for the word w, at the first entry that names it
use Rattle.std.specs.Prelude.{ℕ, cond, List, [], ◌∷◌, Some, None, Option}
use Rattle.std.specs.Borrow.{Bor}
use Rattle.std.specs.Str.{bytes_eq}

abbrev pub named : {T : Type 0} → List (Bor (List ℕ) × T) → List ℕ → Option T
named [] w = None
named (e ∷ es) w = cond (bytes_eq w e.0.now) (Some e.1) (named es w)
