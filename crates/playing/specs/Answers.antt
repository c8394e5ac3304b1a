-- The text of an answer. Assumes nothing.
--
--   spaced ns       numbers, each with a space before it
--   part_name p     the word for a part
--   reply_text y    the reply of a call that is done, as it is written
--   refusal_text r  why none is, as it is written
--   answer_text a   the one or the other
--   answer_line a   the same with the byte 10 that ends its line
use Rattle.std.specs.Prelude.{ℕ, cond, List, [], ◌∷◌, ◌++◌, Ok, Err, codes, Result}
use Rattle.std.specs.List.{flat_map}
use Rattle.bench.specs.Faults.{number_of}
use Rattle.bench.specs.declared.faults.Part.{Part}
use Rattle.bench.specs.declared.faults.Part.TheVariants as part
use Rattle.text.specs.Text.{decimal}
use Rattle.playing.specs.declared.answers.Reply.{Reply}
use Rattle.playing.specs.declared.answers.Reply.TheVariants.{Done, Registers, Lanes, Left, Bit, Page}
use Rattle.playing.specs.declared.answers.Refusal.{Refusal}
use Rattle.playing.specs.declared.answers.Refusal.TheVariants.{Fault, Unreadable}

-- numbers, each with a space before it
abbrev pub spaced : List ℕ → List ℕ
spaced ns = flat_map (λ n. 32 ∷ decimal n) ns

abbrev pub part_name : Part → List ℕ
part_name part.Bench = codes "bench"
part_name part.Player = codes "player"
part_name part.Unit = codes "unit"
part_name part.Reader = codes "reader"

abbrev pub reply_text : Reply → List ℕ
reply_text Done = codes "ok"
reply_text (Registers n) = codes "registers" ++ spaced (n ∷ [])
reply_text (Lanes n) = codes "lanes" ++ spaced (n ∷ [])
reply_text (Left n) = codes "left" ++ spaced (n ∷ [])
reply_text (Bit b) = codes "bit" ++ spaced (cond b 1 0 ∷ [])
reply_text (Page g q c) = codes "page" ++ spaced (g ∷ q ∷ c ∷ [])

abbrev pub refusal_text : Refusal → List ℕ
refusal_text (Fault f) = codes "refused" ++ (spaced (number_of f.question ∷ []) ++ ((32 ∷ part_name f.part) ++ spaced (f.place ∷ [])))
refusal_text (Unreadable n) = codes "unreadable" ++ spaced (n ∷ [])

abbrev pub answer_text : Result Reply Refusal → List ℕ
answer_text (Ok y) = reply_text y
answer_text (Err r) = refusal_text r

abbrev pub answer_line : Result Reply Refusal → List ℕ
answer_line a = answer_text a ++ (10 ∷ [])
