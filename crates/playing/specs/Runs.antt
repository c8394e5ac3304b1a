-- A whole script: what is written for it. Assumes nothing.
--
--   answer_to m p n o     the answer to line n, which writes the call o, on a bench of the meaning m with the page p kept
--   leaves m p o          the meaning after that line
--   keeps p o             the page kept after that line
--   line_text m p n l     what is written for the line l, which may be silent
--   line_leaves m p l     the meaning after it
--   line_keeps p l        the page kept after it
--   answers m p n ls      what is written for the lines ls, of which the first is line n
--   outcome room m n ls   the same for a bench of the meaning m at first; room says whether there was memory for it
--   opened room o         what is written where the bench and the lines after it are o
--   script_text room t    what is written for the script t
--   Answered, Stepped     one line answered, and one line done
--   Wrote                 the outcome appended, with memory for the bench or without
use Rattle.std.specs.Prelude.{◌≡◌, ℕ, ◌+◌, Bool, cond, List, [], ◌∷◌, ◌++◌, Some, None, Ok, Err, codes, Option, Result}
use Rattle.bench.specs.Model.{Model}
use Rattle.text.specs.Text.{lines_in}
use Rattle.text.specs.Ahead.{Ahead}
use Rattle.playing.specs.declared.answers.Refusal.{Refusal}
use Rattle.playing.specs.declared.answers.Refusal.TheVariants.{Unreadable}
use Rattle.playing.specs.declared.setups.Setup.{Setup}
use Rattle.playing.specs.Answers.{answer_line}
use Rattle.playing.specs.Calls.{Call, Answer, call_answer, call_leaves, call_keeps}
use Rattle.playing.specs.Commands.{silent, command_in}
use Rattle.playing.specs.Setups.{opening_in, opens}

-- a line that is not silent, at the call that it writes
abbrev pub answer_to : Model → List ℕ → ℕ → Option Call → Answer
answer_to m p n None = Err (Unreadable n)
answer_to m p n (Some c) = call_answer m p c

abbrev pub leaves : Model → List ℕ → Option Call → Model
leaves m p None = m
leaves m p (Some c) = call_leaves m p c

abbrev pub keeps : List ℕ → Option Call → List ℕ
keeps p None = p
keeps p (Some c) = call_keeps p c

-- one line
abbrev pub line_text : Model → List ℕ → ℕ → List ℕ → List ℕ
line_text m p n l = cond (silent l) [] (answer_line (answer_to m p n (command_in l)))

abbrev pub line_leaves : Model → List ℕ → List ℕ → Model
line_leaves m p l = cond (silent l) m (leaves m p (command_in l))

abbrev pub line_keeps : List ℕ → List ℕ → List ℕ
line_keeps p l = cond (silent l) p (keeps p (command_in l))

abbrev pub answers : Model → List ℕ → ℕ → List (List ℕ) → List ℕ
answers m p n [] = []
answers m p n (l ∷ ls) = line_text m p n l ++ answers (line_leaves m p l) (line_keeps p l) (n + 1) ls

-- the lines after the bench line, on a bench of the meaning m at first; room says whether there was memory for it
abbrev pub outcome : Bool → Model → ℕ → List (List ℕ) → List ℕ
outcome room m n ls = cond room (answers m [] n ls) (codes "no memory" ++ (10 ∷ []))

-- where the bench line is read, or none is
abbrev pub opened : Bool → Result (Option (Setup × Ahead)) Refusal → List ℕ
opened room (Ok None) = []
opened room (Ok (Some o)) = outcome room (opens o.0) o.1.next o.1.lines
opened room (Err r) = answer_line (Err r)

abbrev pub script_text : Bool → List ℕ → List ℕ
script_text room text = opened room (opening_in 1 (lines_in text))

-- one line answered, where it is not silent: the answer, the meaning after it and the page kept after it
pub record Answered (m : Model) (p : List ℕ) (n : ℕ) (l : List ℕ) (a : Answer) (m' : Model) (p' : List ℕ) : Type 0 where
  pub answer : a ≡ answer_to m p n (command_in l)
  pub left_as : m' ≡ leaves m p (command_in l)
  pub kept_as : p' ≡ keeps p (command_in l)

-- one line done: what is appended, the meaning after it and the page kept after it
pub record Stepped (m : Model) (p : List ℕ) (n : ℕ) (l : List ℕ) (was now_is : List ℕ) (m' : Model) (p' : List ℕ) : Type 0 where
  pub text : now_is ≡ was ++ line_text m p n l
  pub left_as : m' ≡ line_leaves m p l
  pub kept_as : p' ≡ line_keeps p l

-- the outcome appended, with memory for the bench or without
pub record Wrote (m : Model) (n : ℕ) (ls : List (List ℕ)) (was now_is : List ℕ) : Type 0 where
  pub room : Bool
  pub text : now_is ≡ was ++ outcome room m n ls
