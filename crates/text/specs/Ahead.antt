-- The lines of a text that are still to be read. Assumes nothing.
--
--   Ahead             the number of the next line, and the lines from it on
--   from_first text   all the lines of the text, of which the first is line 1
use Rattle.std.specs.Prelude.{ℕ, List}
use Rattle.text.specs.Text.{lines_in}

pub record Ahead : Type 0 where
  pub next : ℕ
  pub lines : List (List ℕ)

abbrev pub from_first : List ℕ → Ahead
from_first text = record { next = 1; lines = lines_in text }
