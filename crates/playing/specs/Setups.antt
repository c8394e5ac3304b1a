-- How a line writes a bench, and the bench that it writes, over memory of zeros. Assumes nothing.
--
--   word_bench n a       a bench of n words and the allotment a, if both could be read
--   row_bench w n a      a bench of n bytes in rows of w, and the allotment a
--   single_in ws         the one bench that the words ws begin with
--   words_of s           how many words write that bench
--   past_bench ws        the words after the word `bench`, where they begin with it
--   single s, pair s t   one bench, and two side by side
--   second_in s o ws     the first bench s and the second, with no word after it
--   joined_in s ws       what the first bench and the words after it write
--   first_in o ws        the same, where the first bench could be read
--   setup_in ws          the bench that the words ws write: one, or two side by side
--   bench_in l           the bench that the line l writes
--   opening_in n ls      what the first line that is not silent says, of the lines ls, of which the first is line n: the bench that it
--                        writes, with the lines after it, or that it cannot be read; nothing where every line is silent
--   opens_one s          the meaning of one bench at first
--   beside m o           a bench of the meaning m with a second one beside it, if any
--   opens s              the meaning at first of the bench that is written
use Rattle.std.specs.Prelude.{ℕ, ◌+◌, min, cond, List, [], ◌∷◌, length, drop, replicate, Some, None, Ok, Err, codes, Option, Result, ◌==◌, slice_index_or}
use Rattle.std.specs.Str.{bytes_eq}
use Rattle.bench.specs.Model.{Model}
use Rattle.bench.specs.Word.{word_model}
use Rattle.bench.specs.Row.{row_model}
use Rattle.bench.specs.Side.{side_model}
use Rattle.text.specs.Text.{number_in, words_in}
use Rattle.text.specs.Ahead.{Ahead}
use Rattle.playing.specs.declared.answers.Refusal.{Refusal}
use Rattle.playing.specs.declared.answers.Refusal.TheVariants.{Unreadable}
use Rattle.playing.specs.Commands.{silent}
use Rattle.playing.specs.declared.setups.Single.{Single}
use Rattle.playing.specs.declared.setups.Single.TheVariants.{Word, Row}
use Rattle.playing.specs.declared.setups.Setup.{Setup}

abbrev pub word_bench : Option ℕ → Option ℕ → Option Single
word_bench (Some n) (Some a) = Some (Word n (min a 1000000000))
word_bench (Some n) None = None
word_bench None a = None

abbrev pub row_bench : Option ℕ → Option ℕ → Option ℕ → Option Single
row_bench (Some w) (Some n) (Some a) = Some (Row w n (min a 1000000000))
row_bench (Some w) (Some n) None = None
row_bench (Some w) None a = None
row_bench None n a = None

abbrev pub single_in : List (List ℕ) → Option Single
single_in ws =
    cond (bytes_eq (slice_index_or ws 0 []) (codes "word")) (word_bench (number_in (slice_index_or ws 1 [])) (number_in (slice_index_or ws 2 []))) (
    cond (bytes_eq (slice_index_or ws 0 []) (codes "row")) (row_bench (number_in (slice_index_or ws 1 [])) (number_in (slice_index_or ws 2 [])) (number_in (slice_index_or ws 3 []))) None)

abbrev pub words_of : Single → ℕ
words_of (Word n a) = 3
words_of (Row w n a) = 4

-- the words after the word `bench`, where they begin with it
abbrev pub past_bench : List (List ℕ) → List (List ℕ)
past_bench ws = cond (bytes_eq (slice_index_or ws 0 []) (codes "bench")) (drop 1 ws) ws

abbrev pub single : Single → Setup
single s = record { first = s; second = None }

abbrev pub pair : Single → Single → Setup
pair s t = record { first = s; second = Some t }

-- the second bench, with no word after it
abbrev pub second_in : Single → Option Single → List (List ℕ) → Option Setup
second_in s None ws = None
second_in s (Some t) ws = cond (length (drop (words_of t) ws) == 0) (Some (pair s t)) None

-- what follows the first bench: nothing, or `+` and the second
abbrev pub joined_in : Single → List (List ℕ) → Option Setup
joined_in s ws =
    cond (length ws == 0) (Some (single s)) (
    cond (bytes_eq (slice_index_or ws 0 []) (codes "+")) (second_in s (single_in (past_bench (drop 1 ws))) (past_bench (drop 1 ws))) None)

abbrev pub first_in : Option Single → List (List ℕ) → Option Setup
first_in None ws = None
first_in (Some s) ws = joined_in s (drop (words_of s) ws)

abbrev pub setup_in : List (List ℕ) → Option Setup
setup_in ws = cond (bytes_eq (slice_index_or ws 0 []) (codes "bench")) (first_in (single_in (drop 1 ws)) (drop 1 ws)) None

unfoldable pub bench_in : List ℕ → Option Setup
bench_in l = setup_in (words_in l)

-- line n, which is to write the bench, and the lines after it
abbrev pub opening_at : ℕ → List (List ℕ) → Option Setup → Result (Option (Setup × Ahead)) Refusal
opening_at n ls None = Err (Unreadable n)
opening_at n ls (Some s) = Ok (Some (s, record { next = n + 1; lines = ls }))

abbrev pub opening_in : ℕ → List (List ℕ) → Result (Option (Setup × Ahead)) Refusal
opening_in n [] = Ok None
opening_in n (l ∷ ls) = cond (silent l) (opening_in (n + 1) ls) (opening_at n ls (bench_in l))

abbrev pub opens_one : Single → Model
opens_one (Word n a) = word_model (replicate n 0) a
opens_one (Row w n a) = row_model (replicate n 0) w a

-- a bench of the meaning m with a second one beside it, if any
abbrev pub beside : Model → Option Single → Model
beside m None = m
beside m (Some t) = side_model m (opens_one t)

abbrev pub opens : Setup → Model
opens s = beside (opens_one s.first) s.second
