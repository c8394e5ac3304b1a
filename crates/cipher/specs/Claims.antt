-- What a scheduling, a sealing and an opening answer and give, lane by lane. Assumes nothing.
--
--   sized κ R L      a bench of R registers and L lanes has the size for keys of kind κ
--   plan_answer      the answer of a call that plays a plan: is the size right, and are enough gates left
--   Given P r m m'   P m m', where the call was accepted; a refused one alters nothing
use Rattle.std.specs.Prelude.{◌≡◌, ℕ, ◌+◌, ◌*◌, ◌<◌, ◌≤◌, Bool, cond, ◌&&◌, List, map, Ok, Err, Result, nat_le}
use Rattle.standard.specs.Cipher.{state_after, Cipher, InvCipher}
use Rattle.standard.specs.Kinds.{KeyKind, rounds, round_key}
use Rattle.coordinates.specs.Coordinates.{to_coordinates}
use Rattle.bench.specs.declared.faults.Question.TheVariants.{Size}
use Rattle.bench.specs.declared.faults.Part.TheVariants.{Unit as UnitPart}
use Rattle.bench.specs.declared.faults.Fault.{Fault}
use Rattle.bench.specs.Faults.{fault}
use Rattle.bench.specs.Model.{Model, gates_answer}
use Rattle.plans.specs.declared.plays.Play.{Play}
use Rattle.plans.specs.declared.tables.Plan.{Plan}
use Rattle.plans.specs.declared.tables.Plan.TheVariants.{Schedule, Seal, Open}
use Rattle.plans.specs.Layout.{at, free, room}
use Rattle.plans.specs.Plays.{planned, plan_gates}
use Rattle.plans.specs.Plans.{stages_to}
use Rattle.circuit.specs.Lanes.{lane_of}
use Rattle.circuit.specs.Claims.{state_of, keys_of, key_of}

-- at least so many registers, and 1 to 128 lanes
abbrev pub sized : KeyKind → ℕ → ℕ → Bool
sized κ registers lanes = nat_le (room κ) registers && (nat_le 1 lanes && nat_le lanes 128)

abbrev pub plan_answer : List ℕ → KeyKind → List Play → Model → Result (Unit {0}) Fault
plan_answer inv κ plan m =
    cond (sized κ m.registers m.lanes)
    (gates_answer UnitPart (plan_gates inv plan) m.left)
    (Err (fault Size UnitPart 0))

abbrev pub Given : (Model → Model → Type 0) → Result (Unit {0}) Fault → Model → Model → Type 0
Given P (Ok x) m m' = P m m'
Given P (Err e) m m' = Unit {0}

-- so many gates are left less
abbrev pub Fallen : ℕ → Model → Model → Type 0
Fallen n m m' = m'.left + n ≡ m.left

-- the round keys become those of the key, and the state and the key are as they were
abbrev pub Schedules : KeyKind → Model → Model → Type 0
Schedules κ m m' = (l : ℕ) → l < m.lanes
    → ((n : ℕ) → n ≤ rounds κ → keys_of κ (lane_of m' l) n ≡ round_key κ (key_of κ (lane_of m l)) n)
    × ((r : ℕ) → r < at 32 → m'.bit r l ≡ m.bit r l)
    × ((r : ℕ) → at (16 * (rounds κ + 2)) ≤ r → r < at (free κ) → m'.bit r l ≡ m.bit r l)

-- after stage n the state shows the coordinates of the standard's state after round n
abbrev pub StagesStand : List ℕ → KeyKind → Model → Type 0
StagesStand inv κ m = (l n : ℕ) → l < m.lanes → n < rounds κ
    → state_of (lane_of (planned inv (stages_to κ n) m) l) ≡ map to_coordinates (state_after n (state_of (lane_of m l)) (keys_of κ (lane_of m l)))

-- the block becomes its cipher under the lane's round keys, which are as they were
abbrev pub Seals : KeyKind → Model → Model → Type 0
Seals κ m m' = (l : ℕ) → l < m.lanes
    → (state_of (lane_of m' l) ≡ Cipher (rounds κ) (state_of (lane_of m l)) (keys_of κ (lane_of m l)))
    × ((r : ℕ) → at 16 ≤ r → r < at (free κ) → m'.bit r l ≡ m.bit r l)

-- the block becomes its inverse cipher under the lane's round keys, which are as they were
abbrev pub Opens : KeyKind → Model → Model → Type 0
Opens κ m m' = (l : ℕ) → l < m.lanes
    → (state_of (lane_of m' l) ≡ InvCipher (rounds κ) (state_of (lane_of m l)) (keys_of κ (lane_of m l)))
    × ((r : ℕ) → at 16 ≤ r → r < at (free κ) → m'.bit r l ≡ m.bit r l)

-- what the three plans do
abbrev pub Does : KeyKind → Plan → Model → Model → Type 0
Does κ Schedule = Schedules κ
Does κ Seal = Seals κ
Does κ Open = Opens κ
