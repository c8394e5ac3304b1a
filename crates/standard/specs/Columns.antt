-- Products of a column of four bytes with a matrix of bytes. Assumes nothing.
--
--   entry cs i j       row i, column j of the matrix whose first row is cs, each next row the one before turned right
--   row_of cs i ..     the sum of the products of row i with the bytes of a column
--   by_columns cs xs   that matrix at each column of xs
--   mixing, unmixing the first rows of the matrices of MixColumns and InvMixColumns
use Rattle.std.specs.Prelude.{ℕ, ◌+◌, ◌-◌, ◌%◌, List, [], ◌∷◌, bit_xor, slice_index}
use Rattle.standard.specs.Field.{mul}

abbrev pub row : ℕ → ℕ → ℕ → ℕ → ℕ → ℕ → ℕ → ℕ → ℕ
row k l m n a b c d = bit_xor (mul k a) (bit_xor (mul l b) (bit_xor (mul m c) (mul n d)))

-- the entry in row i and column j of the matrix whose first row is cs, and whose next rows are cs turned to the right
unfoldable pub entry : List ℕ → ℕ → ℕ → ℕ
entry cs i j = slice_index cs ((j + 4 - i) % 4)

-- row i of that matrix at a column
unfoldable pub row_of : List ℕ → ℕ → ℕ → ℕ → ℕ → ℕ → ℕ
unfolding entry
row_of cs i a b c d = row (entry cs i 0) (entry cs i 1) (entry cs i 2) (entry cs i 3) a b c d

-- the matrix of cs at each column of four
abbrev pub by_columns : List ℕ → List ℕ → List ℕ
by_columns cs [] = []
by_columns cs (a ∷ []) = []
by_columns cs (a ∷ b ∷ []) = []
by_columns cs (a ∷ b ∷ c ∷ []) = []
by_columns cs (a ∷ b ∷ c ∷ d ∷ rest) = row_of cs 0 a b c d ∷ row_of cs 1 a b c d ∷ row_of cs 2 a b c d ∷ row_of cs 3 a b c d ∷ by_columns cs rest

abbrev pub mixing : List ℕ
mixing = 2 ∷ 3 ∷ 1 ∷ 1 ∷ []

abbrev pub unmixing : List ℕ
unmixing = 14 ∷ 11 ∷ 13 ∷ 9 ∷ []
