-- The text of an input: a key of sixteen bytes, and then 1 to 64 blocks of sixteen bytes. Assumes nothing.
--
--   key_in input           the key
--   block_in input i       block i, from 0
--   hex_line bytes         two lower-case hexadecimal digits for each byte, and the line's end
--   lines_to f n           the lines of f 0 to f (n - 1), one after another
--   sealed_lines input n   a line for each of the first n blocks, encrypted by the standard under the key
--   whole n                n bytes are a key and 1 to 64 blocks
--   sealed_text input      the lines of all blocks, or "refused 6" and a line's end for an input of another length
use Rattle.std.specs.Prelude.{ℕ, zero, suc, ◌+◌, ◌-◌, ◌*◌, ◌/◌, ◌%◌, Bool, cond, ◌&&◌, List, [], ◌∷◌, ◌++◌, length, take, drop, codes, ◌==◌, nat_le}
use Rattle.standard.specs.Kinds.{aes128, encrypted}
use Rattle.text.specs.Text.{hex_pairs}

abbrev pub key_in : List ℕ → List ℕ
key_in input = take 16 input

abbrev pub block_in : List ℕ → ℕ → List ℕ
block_in input i = take 16 (drop (16 * (i + 1)) input)

abbrev pub hex_line : List ℕ → List ℕ
hex_line bytes = hex_pairs bytes ++ (10 ∷ [])

abbrev pub lines_to : (ℕ → List ℕ) → ℕ → List ℕ
lines_to f zero = []
lines_to f (suc n) = lines_to f n ++ hex_line (f n)

abbrev pub sealed_lines : List ℕ → ℕ → List ℕ
sealed_lines input n = lines_to (λ i. encrypted aes128 (key_in input) (block_in input i)) n

abbrev pub whole : ℕ → Bool
whole n = n % 16 == 0 && (nat_le (16 * (1 + 1)) n && nat_le n (16 * (64 + 1)))

abbrev pub sealed_text : List ℕ → List ℕ
sealed_text input = cond (whole (length input)) (sealed_lines input (length input / 16 - 1)) (codes "refused 6" ++ (10 ∷ []))
