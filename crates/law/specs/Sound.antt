-- What a placing brings are bytes. Assumes nothing.
use Rattle.std.specs.Prelude.{ℕ, ◌<◌, List, [], ◌∷◌, slice_index}
use Rattle.law.specs.Calls.{Asked, place_key, place_block}

abbrev pub Sound : Asked → Type 0
Sound (place_key l bs) = (j : ℕ) → slice_index bs j < 256
Sound (place_block l bs) = (j : ℕ) → slice_index bs j < 256
Sound _ = Unit {0}

abbrev pub AllSound : List Asked → Type 0
AllSound [] = Unit {0}
AllSound (x ∷ xs) = Sound x × AllSound xs
