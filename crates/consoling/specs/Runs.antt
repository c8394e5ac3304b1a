-- What is written for a whole script. Assumes nothing.
--
--   unit_on s            the unit over the bench that s writes, over memory of zeros
--   answers_text ts xs   what is written for the turns ts, of which those of calls have the answers xs
--   part_text            what is written for the lines after a bench line
--   console_text t       what is written for the script t
--   left_after m cs      the gates left after the calls cs on a unit over a bench of the meaning m
--   Ran, RanBoth         a list of calls performed on a unit, and two on a unit each: the answers, and the law over them
--   ConsoleLaw t         the law over the calls of the script t and their answers
use Rattle.std.specs.Prelude.{◌≡◌, ℕ, Bool, true, false, List, [], ◌∷◌, ◌++◌, Some, None, Ok, Err, codes, Option, Result}
use Rattle.text.specs.Text.{lines_in}
use Rattle.text.specs.Ahead.{Ahead}
use Rattle.bench.specs.Model.{Model, part}
use Rattle.playing.specs.declared.answers.Refusal.{Refusal}
use Rattle.playing.specs.declared.answers.Refusal.TheVariants.{Unreadable}
use Rattle.playing.specs.declared.setups.Setup.{Setup}
use Rattle.playing.specs.Answers.{answer_line}
use Rattle.playing.specs.Setups.{opens, opening_in}
use Rattle.unit.specs.View.{View, made}
use Rattle.law.specs.Calls.{Asked, Line, log, ran}
use Rattle.law.specs.Law.{Lawful, Isolated}
use Rattle.consoling.specs.declared.turns.Turn.{Turn}
use Rattle.consoling.specs.declared.turns.Turn.TheVariants as turn
use Rattle.consoling.specs.Answers.{answer_text}
use Rattle.consoling.specs.Scripts.{turns_in, calls_in, beside_in}

-- the unit over a bench of the meaning m; no answer hangs on where the memory of the bench lies, here one part at 0
abbrev pub unit_over : Model → View
unit_over m = made m (part 0 [] m)

abbrev pub unit_on : Setup → View
unit_on s = unit_over (opens s)

abbrev pub answers_text : List Turn → List Line → List ℕ
answers_text [] xs = []
answers_text (turn.Unreadable n ∷ ts) xs = answer_line (Err (Unreadable n)) ++ answers_text ts xs
answers_text (turn.Call ∷ ts) [] = answers_text ts []
answers_text (turn.Call ∷ ts) (x ∷ xs) = answer_text x ++ answers_text ts xs

-- the lines ls after a bench line, of which the first is line n
abbrev pub part_text : Bool → Setup → ℕ → List (List ℕ) → List ℕ
part_text stop s n ls = answers_text (turns_in stop n ls) (log (unit_on s) (calls_in stop ls))

-- the second script, at its bench and the lines after that
abbrev pub second_text : Result (Option (Setup × Ahead)) Refusal → List ℕ
second_text (Ok None) = []
second_text (Ok (Some o)) = part_text false o.0 o.1.next o.1.lines
second_text (Err r) = answer_line (Err r)

-- what follows the answers of the first script, where a line `beside` ends it
abbrev pub beside_text : Option Ahead → List ℕ
beside_text None = []
beside_text (Some a) = (codes "beside" ++ (10 ∷ [])) ++ second_text (opening_in a.next a.lines)

-- the first script, of which the lines ls stand after the bench line
abbrev pub both_text : Setup → ℕ → List (List ℕ) → List ℕ
both_text s n ls = part_text true s n ls ++ beside_text (beside_in true n ls)

abbrev pub opened_text : Result (Option (Setup × Ahead)) Refusal → List ℕ
opened_text (Ok None) = []
opened_text (Ok (Some o)) = both_text o.0 o.1.next o.1.lines
opened_text (Err r) = answer_line (Err r)

abbrev pub console_text : List ℕ → List ℕ
console_text t = opened_text (opening_in 1 (lines_in t))

abbrev pub left_after : Model → List Asked → ℕ
left_after m cs = (ran (unit_over m) cs).model.left

-- the calls cs on a unit over a bench of the meaning m, with their lines xs
pub record Ran (m : Model) (cs : List Asked) (xs : List Line) : Type 0 where
  pub answers : xs ≡ log (unit_over m) cs
  pub law : Lawful m.left xs (left_after m cs)

-- the calls cs and bs, each on a unit of their own
pub record RanBoth (p q : Model) (cs bs : List Asked) (xs ys : List Line) : Type 0 where
  pub one : Ran p cs xs
  pub two : Ran q bs ys
  pub isolated : Isolated p q cs bs xs ys (left_after p cs) (left_after q bs)

-- on a unit over a bench of the meaning m, and beside it on one over another bench, if any
abbrev pub RanOn : Model → Option Setup → List Asked → List Asked → List Line → List Line → Type 0
RanOn m None cs bs xs ys = Ran m cs xs
RanOn m (Some s) cs bs xs ys = RanBoth m (opens s) cs bs xs ys

-- the calls cs on the unit over the bench that s writes, with their answers
abbrev pub LawOne : Setup → List Asked → Type 0
LawOne s cs = Ran (opens s) cs (log (unit_on s) cs)

-- the same of two lists of calls, each on a unit of its own
abbrev pub LawTwo : Setup → Setup → List Asked → List Asked → Type 0
LawTwo s t cs bs = RanBoth (opens s) (opens t) cs bs (log (unit_on s) cs) (log (unit_on t) bs)

-- where a second script is begun, at its bench and the lines after that
abbrev pub LawBeside : Setup → List Asked → Result (Option (Setup × Ahead)) Refusal → Type 0
LawBeside s cs (Ok None) = LawOne s cs
LawBeside s cs (Ok (Some o)) = LawTwo s o.0 cs (calls_in false o.1.lines)
LawBeside s cs (Err r) = LawOne s cs

-- whether one is begun
abbrev pub LawParted : Setup → List Asked → Option Ahead → Type 0
LawParted s cs None = LawOne s cs
LawParted s cs (Some a) = LawBeside s cs (opening_in a.next a.lines)

-- the first script, of which the lines ls stand after the bench line
abbrev pub LawBoth : Setup → ℕ → List (List ℕ) → Type 0
LawBoth s n ls = LawParted s (calls_in true ls) (beside_in true n ls)

abbrev pub LawOpened : Result (Option (Setup × Ahead)) Refusal → Type 0
LawOpened (Ok None) = Unit {0}
LawOpened (Ok (Some o)) = LawBoth o.0 o.1.next o.1.lines
LawOpened (Err r) = Unit {0}

abbrev pub ConsoleLaw : List ℕ → Type 0
ConsoleLaw t = LawOpened (opening_in 1 (lines_in t))
