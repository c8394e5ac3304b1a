-- A list of calls on one unit: what each answers and leaves. Assumes nothing.
--
--   Asked            a call with the bytes that it brings, or with what its buffer holds
--   Line             a call with its answer, if it is performed; a reading has what its buffer then holds
--   performed, next  one call on a unit: its line, and what the unit then holds
--   replied          the line of a call with the reply or the fault that it has
--   log, ran         the whole list
use Rattle.std.specs.Prelude.{ℕ, Bool, true, false, List, [], ◌∷◌, map, length, Some, None, Ok, Err, vec_items, Option, Result, slice_index_or}
use Rattle.standard.specs.Kinds.{key_bytes}
use Rattle.bench.specs.declared.faults.Fault.{Fault}
use Rattle.unit.specs.declared.unit.Counts.{Counts as Three}
use Rattle.lanetable.specs.Records.{empty, lowest_unready}
use Rattle.unit.specs.Works.{kind, K, S, O}
use Rattle.unit.specs.View.{Shape, View, shape, key_placed, block_placed, cleared, scheduled, sealed, opened}
use Rattle.unit.specs.Answers.{placing, naming, reading, scheduling, working, given, settled}
use Rattle.unit.specs.Lanes.{state_of}
use Rattle.law.specs.declared.calls.Call.{Call}
use Rattle.law.specs.declared.calls.Call.TheVariants as call
use Rattle.law.specs.declared.calls.Reply.{Reply}
use Rattle.law.specs.declared.calls.Reply.TheVariants.{Done, Counts, Left, Record, Unready}
use Rattle.law.specs.declared.calls.Entry.{Entry}

pub data Asked : Type 0 where
  place_key place_block : ℕ → List ℕ → Asked
  clear : ℕ → Asked
  schedule seal unseal : Asked
  read : ℕ → List ℕ → Asked
  counts left unready : Asked
  record_of : ℕ → Asked

abbrev pub asked : Call → Asked
asked (call.PlaceKey l v) = place_key l (vec_items v)
asked (call.PlaceBlock l v) = place_block l (vec_items v)
asked (call.Clear l) = clear l
asked call.Schedule = schedule
asked call.Seal = seal
asked call.Open = unseal
asked (call.Read l v) = read l (vec_items v)
asked call.Counts = counts
asked call.Left = left
asked (call.Record l) = record_of l
asked call.Unready = unready

-- none where the call is not yet performed
abbrev pub Answer : Type 0
Answer = Option (Result Reply Fault)

pub record Line : Type 0 where
  pub call : Asked
  pub answer : Answer

abbrev pub line : Entry → Line
line e = record { call = asked e.call; answer = e.answer }

abbrev pub asks : List Entry → List Asked
asks es = map (λ e. asked e.call) es

abbrev pub lines : List Entry → List Line
lines es = map line es

-- a call is accepted if it is performed and gives no fault
abbrev pub accepted : Answer → Bool
accepted None = false
accepted (Some (Ok r)) = true
accepted (Some (Err f)) = false

abbrev pub refusal : Shape → Asked → Option Fault
refusal s (place_key l bs) = placing (key_bytes kind) s l (length bs)
refusal s (place_block l bs) = placing 16 s l (length bs)
refusal s (clear l) = naming s l
refusal s schedule = scheduling s
refusal s seal = working s S
refusal s unseal = working s O
refusal s (read l bs) = reading s l (length bs)
refusal s (record_of l) = naming s l
refusal s _ = None

-- the gates of the three plans
abbrev pub three : Three
three = record { schedule = K; seal = S; «open» = O }

abbrev pub told : Shape → Asked → Reply
told s counts = Counts three
told s left = Left s.left
told s (record_of l) = Record (slice_index_or s.records l empty)
told s unready = Unready (lowest_unready s.records)
told s _ = Done

abbrev pub answer : Shape → Asked → Result Reply Fault
answer s a = given (told s a) (refusal s a)

-- what an accepted call makes of the unit
abbrev pub done : View → Asked → View
done v (place_key l bs) = key_placed v l bs
done v (place_block l bs) = block_placed v l bs
done v (clear l) = cleared v l
done v schedule = scheduled v
done v seal = sealed v
done v unseal = opened v
done v _ = v

abbrev pub next : View → Asked → View
next v a = settled (refusal (shape v) a) (done v a) v

-- a call whose buffer an accepted reading has filled with bs
abbrev pub filled : Option Fault → List ℕ → Asked → Asked
filled o bs (read l cs) = read l (settled o bs cs)
filled o bs a = a

abbrev pub lane_of : Asked → ℕ
lane_of (place_key l bs) = l
lane_of (place_block l bs) = l
lane_of (clear l) = l
lane_of (read l bs) = l
lane_of (record_of l) = l
lane_of _ = 0

-- the line of a performed call
abbrev pub replied : Asked → Result Reply Fault → Line
replied a r = record { call = a; answer = Some r }

abbrev pub performed : View → Asked → Line
performed v a = replied (filled (refusal (shape v) a) (state_of v.model (lane_of a)) a) (answer (shape v) a)

abbrev pub log : View → List Asked → List Line
log v [] = []
log v (a ∷ rest) = performed v a ∷ log (next v a) rest

abbrev pub ran : View → List Asked → View
ran v [] = v
ran v (a ∷ rest) = ran (next v a) rest
