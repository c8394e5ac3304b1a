-- What the registers of a lane show, as the standard's bytes, and what the three plans do to them. Assumes nothing.
--
--   state_of m l        the block in lane l, plain
--   key_of m l          the key in lane l: round key 0, plain
--   round_shown m l n   round key n in lane l: 0 and the last are plain, those between stand in coordinates
--   Expanded            scheduling: the standard's round keys of the key, in every lane
--   Enciphered          sealing: the standard's cipher of the block under the round keys shown, in every lane
--   Deciphered          opening: the inverse cipher
--   Staged              after stage n of a sealing: the coordinates of the standard's state after round n
use Rattle.std.specs.Prelude.{◌≡◌, ℕ, ◌<◌, ◌≤◌, List, map, Some, None, Option}
use Rattle.standard.specs.Cipher.{state_after, Cipher, InvCipher}
use Rattle.standard.specs.Kinds.{rounds, round_key}
use Rattle.coordinates.specs.Coordinates.{to_coordinates}
use Rattle.bench.specs.Model.{Model}
use Rattle.bench.specs.declared.faults.Fault.{Fault}
use Rattle.plans.specs.Plans.{stages_to, seal_plan, open_plan}
use Rattle.circuit.specs.Lanes.{lane_of}
use Rattle.circuit.specs.Claims.{state_of as state_in, keys_of, key_of as key_in}
use Rattle.unit.specs.Works.{kind, worked}

abbrev pub state_of : Model → ℕ → List ℕ
state_of m l = state_in (lane_of m l)

abbrev pub key_of : Model → ℕ → List ℕ
key_of m l = key_in kind (lane_of m l)

abbrev pub round_shown : Model → ℕ → ℕ → List ℕ
round_shown m l = keys_of kind (lane_of m l)

-- the key and the round keys stay
pub record KeysStay (m m' : Model) (l : ℕ) : Type 0 where
  pub key : key_of m' l ≡ key_of m l
  pub all : (n : ℕ) → n ≤ rounds kind → round_shown m' l n ≡ round_shown m l n

pub record Expanded (m m' : Model) (l : ℕ) : Type 0 where
  pub all : (n : ℕ) → n ≤ rounds kind → round_shown m' l n ≡ round_key kind (key_of m l) n
  pub state : state_of m' l ≡ state_of m l
  pub key : key_of m' l ≡ key_of m l

-- the opening's plan would bring the block back
pub record Enciphered (m m' : Model) (l : ℕ) : Type 0 where
  pub state : state_of m' l ≡ Cipher (rounds kind) (state_of m l) (round_shown m l)
  pub keys : KeysStay m m' l
  pub undone : state_of (worked (open_plan kind) m') l ≡ state_of m l

-- the sealing's plan would bring the block back
pub record Deciphered (m m' : Model) (l : ℕ) : Type 0 where
  pub state : state_of m' l ≡ InvCipher (rounds kind) (state_of m l) (round_shown m l)
  pub keys : KeysStay m m' l
  pub undone : state_of (worked (seal_plan kind) m') l ≡ state_of m l

abbrev pub Staged : Model → ℕ → Type 0
Staged m l = (n : ℕ) → n < rounds kind → state_of (worked (stages_to kind n) m) l ≡ map to_coordinates (state_after n (state_of m l) (round_shown m l))

-- P of every lane, where a call was accepted
abbrev pub EveryLane : Option Fault → Model → (ℕ → Type 0) → Type 0
EveryLane None m P = (l : ℕ) → l < m.lanes → P l
EveryLane (Some f) m P = Unit {0}
