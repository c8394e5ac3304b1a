-- Pages gate by gate, as bytes. Assumes nothing.
--
--   only_sums gs        every gate's target holds a sum of inputs: XOR, XNOR, and AND of a number with itself
--   mask_lines          a line for each gate with its mask, column_lines with its column
--   quarters n          the columns of n numbers, a list for each quarter of the 256 cases, the highest first
--   gates_text bytes    the sizes and the gates of a page, given as bytes
--   play_lines i ps     a line for each play; the first has the index i
use Rattle.std.specs.Prelude.{ℕ, ◌+◌, ◌*◌, Bool, true, false, cond, ◌&&◌, List, [], ◌∷◌, ◌++◌, map, length, codes, ◌==◌, nat_le}
use Rattle.std.specs.List.{list_all}
use Rattle.bench.specs.declared.gates.Gate.{Gate}
use Rattle.bench.specs.declared.kinds.Kind.{Kind}
use Rattle.bench.specs.declared.kinds.Kind.TheVariants.{Xor, And, Or, Xnor, Nand, Nor}
use Rattle.player.specs.Pages.{whole, gates_from, gates_of, gates_in, sockets_in, scratch_in}
use Rattle.plans.specs.declared.plays.Play.{Play}
use Rattle.text.specs.Text.{decimal}
use Rattle.archiving.specs.Traces.{made_by, stepped, unit_words, input_words}
use Rattle.archiving.specs.Lines.{mask_line, column_line, play_line}

abbrev pub sums : Kind → ℕ → ℕ → Bool
sums Xor a b = true
sums And a b = a == b
sums Or a b = false
sums Xnor a b = true
sums Nand a b = false
sums Nor a b = false

abbrev pub only_sums : List Gate → Bool
only_sums gs = list_all (λ (g : Gate). sums g.kind g.first g.second) gs

-- from index i on, where the numbers hold us, and where no input is 1 they hold zs
abbrev pub mask_lines : ℕ → ℕ → List ℕ → List ℕ → List Gate → List ℕ
mask_lines q i us zs [] = []
mask_lines q i us zs (g ∷ gs) = mask_line i g q (made_by g us) (made_by g zs) ++ mask_lines q (i + 1) (stepped g us) (stepped g zs) gs

-- the same, where the numbers hold the words of each of qs
abbrev pub column_lines : ℕ → List (List ℕ) → List Gate → List ℕ
column_lines i qs [] = []
column_lines i qs (g ∷ gs) = column_line i g (map (made_by g) qs) ++ column_lines (i + 1) (map (stepped g) qs) gs

-- what the numbers hold at the beginning, the highest quarter of the bytes first
abbrev pub quarters : ℕ → List (List ℕ)
quarters n = input_words 3 n ∷ input_words 2 n ∷ input_words 1 n ∷ input_words 0 n ∷ []

abbrev pub masks_text : ℕ → ℕ → List Gate → List ℕ
masks_text q n gs = codes " gate  kind    t    a    b   mask\n" ++ mask_lines q 0 (unit_words (8 * q) n) (unit_words 0 n) gs

abbrev pub columns_text : ℕ → List Gate → List ℕ
columns_text n gs = codes " gate  kind    t    a    b   column\n" ++ column_lines 0 (quarters n) gs

abbrev pub sizes_text : ℕ → ℕ → ℕ → List ℕ
sizes_text g q c = codes "G = " ++ decimal g ++ codes ", Q = " ++ decimal q ++ codes ", C = " ++ decimal c ++ (10 ∷ [])

abbrev pub checks_text : ℕ → ℕ → List Gate → List ℕ
checks_text q c gs = cond (nat_le q 8 && only_sums gs) (masks_text q (8 * q + c) gs) (columns_text (8 * q + c) gs)

-- the same from the two arrays of a page
abbrev pub listed_text : List ℕ → List ℕ → ℕ → ℕ → List ℕ
listed_text kinds places q c = sizes_text (length kinds) q c ++ checks_text q c (gates_from kinds places)

unfoldable pub gates_text : List ℕ → List ℕ
gates_text bytes = cond (whole bytes)
    (sizes_text (gates_in bytes) (sockets_in bytes) (scratch_in bytes) ++ checks_text (sockets_in bytes) (scratch_in bytes) (gates_of bytes))
    (codes "These bytes are no whole page.\n")

abbrev pub play_lines : ℕ → List Play → List ℕ
play_lines i [] = []
play_lines i (p ∷ ps) = play_line i p ++ play_lines (i + 1) ps
