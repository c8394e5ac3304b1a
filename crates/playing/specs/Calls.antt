-- A call, and what it answers and leaves. Assumes nothing.
--
--   Call                   a call of a script, with its numbers and bytes as lists
--   meant c                the call that a command stands for
--   Answer                 a reply, or why there is none
--   answered reply r       the answer to a call that a bench or the player did, with what the reply tells of it, or refused
--   page_answer bytes      the answer to a page
--   call_answer m p c      the answer to the call c, on a bench of the meaning m with the page p kept
--   call_leaves m p c      the meaning after that call
--   call_beneath m p c x   the bottom benches x after that call
--   call_keeps p c         the page kept after that call
use Rattle.std.specs.Prelude.{ℕ, Bool, cond, List, Ok, Err, vec_items, Result}
use Rattle.bench.specs.Faults.{fault}
use Rattle.bench.specs.Model.{Model, Memory, show_answer, set_answer, gate_answer, written, gated, written_in, gated_in, after}
use Rattle.bench.specs.declared.faults.Question.TheVariants.{Whole}
use Rattle.bench.specs.declared.faults.Part.TheVariants.{Reader}
use Rattle.bench.specs.declared.faults.Fault.{Fault}
use Rattle.bench.specs.declared.kinds.Kind.{Kind}
use Rattle.player.specs.Pages.{whole, gates_in, sockets_in, scratch_in}
use Rattle.player.specs.Plays.{play_answer, played, played_in}
use Rattle.playing.specs.declared.commands.Command.{Command}
use Rattle.playing.specs.declared.commands.Command.TheVariants as command
use Rattle.playing.specs.declared.answers.Reply.{Reply}
use Rattle.playing.specs.declared.answers.Reply.TheVariants.{Done, Registers, Lanes, Left, Bit, Page}
use Rattle.playing.specs.declared.answers.Refusal.{Refusal}
use Rattle.playing.specs.declared.answers.Refusal.TheVariants as refusal

pub data Call : Type 0 where
  registers : Call
  lanes : Call
  left : Call
  sets : ℕ → ℕ → Bool → Call
  shows : ℕ → ℕ → Call
  gates : Kind → ℕ → ℕ → ℕ → Call
  page : List ℕ → Call
  play : List ℕ → Call

abbrev pub meant : Command → Call
meant command.Registers = registers
meant command.Lanes = lanes
meant command.Left = left
meant (command.Set r l b) = sets r l b
meant (command.Show r l) = shows r l
meant (command.Gate g) = gates g.kind g.target g.first g.second
meant (command.Page v) = page (vec_items v)
meant (command.Play v) = play (vec_items v)

abbrev pub Answer : Type 0
Answer = Result Reply Refusal

abbrev pub answered : {X : Type 0} → (X → Reply) → Result X Fault → Answer
answered reply (Ok x) = Ok (reply x)
answered reply (Err f) = Err (refusal.Fault f)

abbrev pub page_answer : List ℕ → Answer
page_answer bytes = cond (whole bytes) (Ok (Page (gates_in bytes) (sockets_in bytes) (scratch_in bytes))) (Err (refusal.Fault (fault Whole Reader 0)))

abbrev pub call_answer : Model → List ℕ → Call → Answer
call_answer m p registers = Ok (Registers m.registers)
call_answer m p lanes = Ok (Lanes m.lanes)
call_answer m p left = Ok (Left m.left)
call_answer m p (sets r l b) = answered (λ _. Done) (set_answer m r l)
call_answer m p (shows r l) = answered Bit (show_answer m r l)
call_answer m p (gates k t a b) = answered (λ _. Done) (gate_answer m t a b)
call_answer m p (page bytes) = page_answer bytes
call_answer m p (play bases) = answered (λ _. Done) (play_answer m p bases)

abbrev pub call_leaves : Model → List ℕ → Call → Model
call_leaves m p registers = m
call_leaves m p lanes = m
call_leaves m p left = m
call_leaves m p (sets r l b) = after (set_answer m r l) (written r l b m) m
call_leaves m p (shows r l) = m
call_leaves m p (gates k t a b) = after (gate_answer m t a b) (gated k t a b m) m
call_leaves m p (page bytes) = m
call_leaves m p (play bases) = after (play_answer m p bases) (played p bases m) m

abbrev pub call_beneath : Model → List ℕ → Call → Memory → Memory
call_beneath m p registers x = x
call_beneath m p lanes x = x
call_beneath m p left x = x
call_beneath m p (sets r l b) x = after (set_answer m r l) (written_in r l b x) x
call_beneath m p (shows r l) x = x
call_beneath m p (gates k t a b) x = after (gate_answer m t a b) (gated_in k t a b x) x
call_beneath m p (page bytes) x = x
call_beneath m p (play bases) x = after (play_answer m p bases) (played_in p bases x) x

abbrev pub call_keeps : List ℕ → Call → List ℕ
call_keeps p registers = p
call_keeps p lanes = p
call_keeps p left = p
call_keeps p (sets r l b) = p
call_keeps p (shows r l) = p
call_keeps p (gates k t a b) = p
call_keeps p (page bytes) = cond (whole bytes) bytes p
call_keeps p (play bases) = p
