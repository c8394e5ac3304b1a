-- How a line writes a call on a unit. Assumes nothing.
--
--   verb_in w       the call that the word w names
--   call_of v a b   the call of the name v with the words a and b after it, empty where there is none
--   call_in l       the call that the line l writes
use Rattle.std.specs.Prelude.{ℕ, cond, List, [], length, drop, replicate, Some, None, codes, Option, ◌==◌, slice_index_or}
use Rattle.std.specs.Option.{option_map, option_zip}
use Rattle.std.specs.Str.{bytes_eq}
use Rattle.text.specs.Text.{number_in, bytes_in, words_in}
use Rattle.law.specs.Calls.{Asked, place_key, place_block, clear, schedule, seal, unseal, read, counts, left, record_of, unready}
use Rattle.consoling.specs.declared.verbs.Verb.{Verb}
use Rattle.consoling.specs.declared.verbs.Verb.TheVariants.{Key, Block, Clear, Schedule, Seal, Open, Read, Counts, Left, Record, Unready}

unfoldable pub verb_in : List ℕ → Option Verb
verb_in w =
    cond (bytes_eq w (codes "key")) (Some Key) (
    cond (bytes_eq w (codes "block")) (Some Block) (
    cond (bytes_eq w (codes "clear")) (Some Clear) (
    cond (bytes_eq w (codes "schedule")) (Some Schedule) (
    cond (bytes_eq w (codes "seal")) (Some Seal) (
    cond (bytes_eq w (codes "open")) (Some Open) (
    cond (bytes_eq w (codes "read")) (Some Read) (
    cond (bytes_eq w (codes "counts")) (Some Counts) (
    cond (bytes_eq w (codes "left")) (Some Left) (
    cond (bytes_eq w (codes "record")) (Some Record) (
    cond (bytes_eq w (codes "unready")) (Some Unready) None))))))))))

-- a call with no word after it
abbrev pub alone_in : Asked → List ℕ → Option Asked
alone_in a first = cond (length first == 0) (Some a) None

-- a lane with no word after it
abbrev pub lane_in : List ℕ → List ℕ → Option ℕ
lane_in lane second = cond (length second == 0) (number_in lane) None

-- a lane and bytes
abbrev pub bringing : (ℕ → List ℕ → Asked) → Option ℕ → Option (List ℕ) → Option Asked
bringing call lane bytes = option_map (λ p. call p.0 p.1) (option_zip lane bytes)

-- a lane and the length of a buffer, which holds zeros
abbrev pub reading : Option ℕ → Option ℕ → Option Asked
reading lane len = option_map (λ p. read p.0 (replicate p.1 0)) (option_zip lane len)

abbrev pub call_of : Verb → List ℕ → List ℕ → Option Asked
call_of Key a b = bringing place_key (number_in a) (bytes_in b)
call_of Block a b = bringing place_block (number_in a) (bytes_in b)
call_of Clear a b = option_map clear (lane_in a b)
call_of Schedule a b = alone_in schedule a
call_of Seal a b = alone_in seal a
call_of Open a b = alone_in unseal a
call_of Read a b = reading (number_in a) (number_in b)
call_of Counts a b = alone_in counts a
call_of Left a b = alone_in left a
call_of Record a b = option_map record_of (lane_in a b)
call_of Unready a b = alone_in unready a

abbrev pub call_named : Option Verb → List ℕ → List ℕ → Option Asked
call_named None a b = None
call_named (Some v) a b = call_of v a b

-- three words at most
abbrev pub call_by : List (List ℕ) → Option Asked
call_by ws = cond (length (drop 3 ws) == 0) (call_named (verb_in (slice_index_or ws 0 [])) (slice_index_or ws 1 []) (slice_index_or ws 2 [])) None

unfoldable pub call_in : List ℕ → Option Asked
call_in l = call_by (words_in l)
