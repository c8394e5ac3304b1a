-- How a line writes a call. Assumes nothing.
--
--   silent l                whether the line l is empty, of spaces only, or begins with `#`
--   verb_in w               the call that the word w names
--   up_to most n            the number n, if it is at most that
--   short_in w              the number that the word w writes, up to 65535
--   shorts_in ws            all of those numbers
--   alone_in c ns           the call c, where no number follows its name
--   set_in ns, show_in ns   the calls of a register in a lane, from the numbers after their names
--   gate_of k t a b         a gate of that kind, if there is such a kind
--   gate_in ns              the gate that the numbers after its name write
--   called v ns             the call of that name with those numbers
--   called_with v o         the same, where the numbers could be read
--   page_in ws              the page that the words after its name write
--   call_named v ws         the call of that name with those words
--   call_in ws              the call that the words ws of a line write
--   command_in l            the call that the line l writes
use Rattle.std.specs.Prelude.{ℕ, Bool, cond, ◌&&◌, ◌||◌, List, [], ◌∷◌, length, drop, Some, None, codes, Option, ◌==◌, nat_le, nat_lt, slice_index, slice_index_or}
use Rattle.std.specs.Option.{option_map}
use Rattle.std.specs.Str.{bytes_eq}
use Rattle.bench.specs.Kinds.{kind_of}
use Rattle.bench.specs.declared.kinds.Kind.{Kind}
use Rattle.text.specs.Text.{number_in, bytes_in, with_first, word_of, words_in}
use Rattle.playing.specs.declared.verbs.Verb.{Verb}
use Rattle.playing.specs.declared.verbs.Verb.TheVariants.{Registers, Lanes, Left, Set, Show, Gate, Page, Play}
use Rattle.playing.specs.Calls.{Call, registers, lanes, left, sets, shows, gates, page, play}

abbrev pub silent : List ℕ → Bool
silent l = slice_index l 0 == 35 || length (word_of l) == 0

unfoldable pub verb_in : List ℕ → Option Verb
verb_in w =
    cond (bytes_eq w (codes "registers")) (Some Registers) (
    cond (bytes_eq w (codes "lanes")) (Some Lanes) (
    cond (bytes_eq w (codes "left")) (Some Left) (
    cond (bytes_eq w (codes "set")) (Some Set) (
    cond (bytes_eq w (codes "show")) (Some Show) (
    cond (bytes_eq w (codes "gate")) (Some Gate) (
    cond (bytes_eq w (codes "page")) (Some Page) (
    cond (bytes_eq w (codes "play")) (Some Play) None)))))))

abbrev pub up_to : ℕ → Option ℕ → Option ℕ
up_to most None = None
up_to most (Some n) = cond (nat_le n most) (Some n) None

abbrev pub short_in : List ℕ → Option ℕ
short_in w = up_to 65535 (number_in w)

abbrev pub shorts_in : List (List ℕ) → Option (List ℕ)
shorts_in [] = Some []
shorts_in (w ∷ ws) = with_first (short_in w) (shorts_in ws)

-- a call without numbers
abbrev pub alone_in : Call → List ℕ → Option Call
alone_in c ns = cond (length ns == 0) (Some c) None

abbrev pub set_in : List ℕ → Option Call
set_in ns = cond (length ns == 3 && nat_lt (slice_index ns 2) 2) (Some (sets (slice_index ns 0) (slice_index ns 1) (slice_index ns 2 == 1))) None

abbrev pub show_in : List ℕ → Option Call
show_in ns = cond (length ns == 2) (Some (shows (slice_index ns 0) (slice_index ns 1))) None

abbrev pub gate_of : Option Kind → ℕ → ℕ → ℕ → Option Call
gate_of None t a b = None
gate_of (Some k) t a b = Some (gates k t a b)

abbrev pub gate_in : List ℕ → Option Call
gate_in ns = cond (length ns == 4) (gate_of (kind_of (slice_index ns 0)) (slice_index ns 1) (slice_index ns 2) (slice_index ns 3)) None

abbrev pub called : Verb → List ℕ → Option Call
called Registers ns = alone_in registers ns
called Lanes ns = alone_in lanes ns
called Left ns = alone_in left ns
called Set ns = set_in ns
called Show ns = show_in ns
called Gate ns = gate_in ns
called Page ns = None
called Play ns = Some (play ns)

abbrev pub called_with : Verb → Option (List ℕ) → Option Call
called_with v None = None
called_with v (Some ns) = called v ns

abbrev pub page_in : List (List ℕ) → Option Call
page_in ws = cond (length ws == 1) (option_map page (bytes_in (slice_index_or ws 0 []))) None

abbrev pub call_named : Option Verb → List (List ℕ) → Option Call
call_named None ws = None
call_named (Some Page) ws = page_in ws
call_named (Some Registers) ws = called_with Registers (shorts_in ws)
call_named (Some Lanes) ws = called_with Lanes (shorts_in ws)
call_named (Some Left) ws = called_with Left (shorts_in ws)
call_named (Some Set) ws = called_with Set (shorts_in ws)
call_named (Some Show) ws = called_with Show (shorts_in ws)
call_named (Some Gate) ws = called_with Gate (shorts_in ws)
call_named (Some Play) ws = called_with Play (shorts_in ws)

abbrev pub call_in : List (List ℕ) → Option Call
call_in ws = call_named (verb_in (slice_index_or ws 0 [])) (drop 1 ws)

unfoldable pub command_in : List ℕ → Option Call
command_in l = call_in (words_in l)
