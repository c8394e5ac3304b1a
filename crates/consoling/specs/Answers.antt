-- The text of an answer. Assumes nothing.
--
--   answer_text x    what is written for the call and answer x, with the byte 10 that ends its line
--   told_text a c    the same, where the call c has the answer a, if it is performed
--   reply_text r c   the same, where it has the reply r
use Rattle.std.specs.Prelude.{ℕ, Bool, true, false, List, [], ◌∷◌, ◌++◌, Some, None, Ok, Err, codes, Option}
use Rattle.text.specs.Text.{decimal, hex_text}
use Rattle.playing.specs.declared.answers.Reply.TheVariants as reply
use Rattle.playing.specs.declared.answers.Refusal.TheVariants as refusal
use Rattle.playing.specs.Answers.{answer_line}
use Rattle.lanetable.specs.declared.records.KeyState.{KeyState}
use Rattle.lanetable.specs.declared.records.KeyState.TheVariants.{Absent, Placed, Scheduled}
use Rattle.lanetable.specs.declared.records.LaneRecord.{LaneRecord}
use Rattle.unit.specs.declared.unit.Counts.{Counts as Three}
use Rattle.law.specs.Calls.{Asked, place_key, place_block, clear, schedule, seal, unseal, read, counts, left, record_of, unready, Answer, Line}
use Rattle.law.specs.declared.calls.Reply.{Reply}
use Rattle.law.specs.declared.calls.Reply.TheVariants.{Done, Counts, Left, Record, Unready}

-- the three counts
abbrev pub counts_text : Three → List ℕ
counts_text c = codes "counts " ++ (decimal c.schedule ++ ((32 ∷ []) ++ (decimal c.seal ++ ((32 ∷ []) ++ (decimal c.«open» ++ (10 ∷ []))))))

abbrev pub key_name : KeyState → List ℕ
key_name Absent = codes "none"
key_name Placed = codes "placed"
key_name Scheduled = codes "scheduled"

abbrev pub block_name : Bool → List ℕ
block_name true = codes "block"
block_name false = codes "empty"

abbrev pub record_text : LaneRecord → List ℕ
record_text r = codes "record " ++ (key_name r.key ++ ((32 ∷ []) ++ (block_name r.block ++ (10 ∷ []))))

abbrev pub unready_text : Option ℕ → List ℕ
unready_text None = codes "unready none" ++ (10 ∷ [])
unready_text (Some l) = codes "unready " ++ (decimal l ++ (10 ∷ []))

abbrev pub reading_text : List ℕ → List ℕ
reading_text bs = codes "ok " ++ (hex_text bs ++ (10 ∷ []))

-- an accepted reading has what its buffer holds
abbrev pub done_text : Asked → List ℕ
done_text (place_key l bs) = answer_line (Ok reply.Done)
done_text (place_block l bs) = answer_line (Ok reply.Done)
done_text (clear l) = answer_line (Ok reply.Done)
done_text schedule = answer_line (Ok reply.Done)
done_text seal = answer_line (Ok reply.Done)
done_text unseal = answer_line (Ok reply.Done)
done_text (read l bs) = reading_text bs
done_text counts = answer_line (Ok reply.Done)
done_text left = answer_line (Ok reply.Done)
done_text (record_of l) = answer_line (Ok reply.Done)
done_text unready = answer_line (Ok reply.Done)

abbrev pub reply_text : Reply → Asked → List ℕ
reply_text Done a = done_text a
reply_text (Counts c) a = counts_text c
reply_text (Left n) a = answer_line (Ok (reply.Left n))
reply_text (Record r) a = record_text r
reply_text (Unready o) a = unready_text o

abbrev pub told_text : Answer → Asked → List ℕ
told_text None a = codes "pending" ++ (10 ∷ [])
told_text (Some (Ok r)) a = reply_text r a
told_text (Some (Err f)) a = answer_line (Err (refusal.Fault f))

abbrev pub answer_text : Line → List ℕ
answer_text x = told_text x.answer x.call
