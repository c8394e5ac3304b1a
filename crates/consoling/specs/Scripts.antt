-- What the lines of a script give. Assumes nothing.
--
--   besides l                          whether the line l is the word `beside`, which begins a second script
--   turns_in stop n ls                 what is written for the lines ls, of which the first is line n: an answer, or that a line cannot be read
--   calls_in stop ls                   their calls
--   beside_in stop n ls                the lines after a line `beside` among them, if there is one
--   Parted                             a script's lines read: the turns, the calls, and the lines after a line `beside`
--
-- With `stop` the lines end before a line `beside`; without it such a line cannot be read.
use Rattle.std.specs.Prelude.{◌≡◌, ℕ, ◌+◌, Bool, cond, ◌&&◌, List, [], ◌∷◌, ◌++◌, length, drop, Some, None, codes, Option, ◌==◌, slice_index_or}
use Rattle.std.specs.Str.{bytes_eq}
use Rattle.text.specs.Text.{words_in}
use Rattle.text.specs.Ahead.{Ahead}
use Rattle.playing.specs.Commands.{silent}
use Rattle.law.specs.Calls.{Asked}
use Rattle.consoling.specs.declared.turns.Turn.{Turn}
use Rattle.consoling.specs.declared.turns.Turn.TheVariants as turn
use Rattle.consoling.specs.Lines.{call_in}

abbrev pub beside_by : List (List ℕ) → Bool
beside_by ws = bytes_eq (slice_index_or ws 0 []) (codes "beside") && length (drop 1 ws) == 0

unfoldable pub besides : List ℕ → Bool
besides l = beside_by (words_in l)

abbrev pub turn_for : ℕ → Option Asked → List Turn
turn_for n None = turn.Unreadable n ∷ []
turn_for n (Some a) = turn.Call ∷ []

abbrev pub call_for : Option Asked → List Asked
call_for None = []
call_for (Some a) = a ∷ []

-- one line
abbrev pub turns_of : ℕ → List ℕ → List Turn
turns_of n l = cond (silent l) [] (turn_for n (call_in l))

abbrev pub calls_of : List ℕ → List Asked
calls_of l = cond (silent l) [] (call_for (call_in l))

abbrev pub turns_in : Bool → ℕ → List (List ℕ) → List Turn
turns_in stop n [] = []
turns_in stop n (l ∷ ls) = cond (stop && besides l) [] (turns_of n l ++ turns_in stop (n + 1) ls)

abbrev pub calls_in : Bool → List (List ℕ) → List Asked
calls_in stop [] = []
calls_in stop (l ∷ ls) = cond (stop && besides l) [] (calls_of l ++ calls_in stop ls)

abbrev pub beside_in : Bool → ℕ → List (List ℕ) → Option Ahead
beside_in stop n [] = None
beside_in stop n (l ∷ ls) = cond (stop && besides l) (Some (record { next = n + 1; lines = ls })) (beside_in stop (n + 1) ls)

pub record Parted (stop : Bool) (n : ℕ) (ls : List (List ℕ)) (ts : List Turn) (cs : List Asked) (o : Option Ahead) : Type 0 where
  pub turns : ts ≡ turns_in stop n ls
  pub calls : cs ≡ calls_in stop ls
  pub after : o ≡ beside_in stop n ls
