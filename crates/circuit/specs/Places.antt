-- Whole bytes of registers: byte b is registers 8·b to 8·b + 7, bit 0 first. Assumes nothing.
--
--   place P n    number n of a page whose byte l stands at byte P(l)
--   fits_all n   each number of each gate is below n
use Rattle.std.specs.Prelude.{ℕ, ◌+◌, ◌*◌, ◌/◌, ◌%◌, Bool, true, false, not, ◌&&◌, ◌||◌, List, [], ◌∷◌, ◌==◌, nat_lt, slice_index}
use Rattle.bench.specs.declared.gates.Gate.{Gate}

abbrev pub place : List ℕ → ℕ → ℕ
place P n = 8 * slice_index P (n / 8) + n % 8

abbrev pub member : ℕ → List ℕ → Bool
member x [] = false
member x (y ∷ ys) = x == y || member x ys

abbrev pub distinct : List ℕ → Bool
distinct [] = true
distinct (x ∷ xs) = not (member x xs) && distinct xs

abbrev pub fits_gate : ℕ → Gate → Bool
fits_gate n g = let k = g.kind in let t = g.target in let a = g.first in let b = g.second in nat_lt t n && (nat_lt a n && nat_lt b n)

unfoldable pub fits_all : ℕ → List Gate → Bool
fits_all n [] = true
fits_all n (g ∷ gs) = fits_gate n g && fits_all n gs
