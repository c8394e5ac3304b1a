-- States of the cipher: sixteen bytes. Assumes nothing.
--
--   Bytes xs      each number of xs is a byte
--   State st      st is sixteen bytes
--   RoundKeys w   each round key w n is sixteen bytes
use Rattle.std.specs.Prelude.{◌≡◌, ℕ, ◌<◌, List, [], ◌∷◌, length}

abbrev pub Bytes : List ℕ → Type 0
Bytes [] = Unit {0}
Bytes (x ∷ xs) = (x < 256) × Bytes xs

abbrev pub State : List ℕ → Type 0
State st = (length st ≡ 16) × Bytes st

abbrev pub RoundKeys : (ℕ → List ℕ) → Type 0
RoundKeys w = (n : ℕ) → State (w n)
