-- The bytes of a lane: as they are read and placed, and as the standard's state and round keys. Assumes nothing.
use Rattle.std.proofs.Common.{◌≡◌, ℕ, ◌+◌, ◌-◌, ◌*◌, ◌<◌, ◌≤◌, cond, ltb, sym, ap, ◌∙◌, zero-add, arith}
use Rattle.std.proofs.lemmas.Bool.{lt-ltb, cond-true}
use Rattle.standard.specs.Kinds.{rounds}
use Rattle.bench.specs.Model.{Model}
use Rattle.lane.specs.Spans.{shown_at}
use Rattle.standard.specs.Bits.{byte_of}
use Rattle.standard.proofs.ByteLaws.{map_below, byte_of_same}
use Rattle.plans.specs.Layout.{at, key}
use Rattle.circuit.specs.Lanes.{lane_of}
use Rattle.circuit.specs.Claims.{key_value, key_in}
use Rattle.unit.specs.Works.{kind}
use Rattle.unit.specs.Lanes.{state_of, key_of, round_shown}

pub shown_state : (m : Model) (l : ℕ) → shown_at m 0 l 16 ≡ state_of m l
shown_state m l =
    map_below (λ j. byte_of (lane_of m l) (0 + 8 * j)) (λ j. byte_of (lane_of m l) (8 * j)) 0 16 (λ j lo hi. ap (byte_of (lane_of m l)) (zero-add (8 * j)))

key_place : (j : ℕ) → j < 16 → at (cond (ltb j 16) (16 + j) (16 * (rounds kind + 2) + (j - 16))) ≡ 128 + 8 * j
key_place j h = ap (λ b. 8 * b) (cond-true (ltb j 16) (16 + j) (16 * (rounds kind + 2) + (j - 16)) (lt-ltb j 16 h)) ∙ omega arith

pub shown_key : (m : Model) (l : ℕ) → shown_at m 128 l 16 ≡ key_of m l
shown_key m l =
    map_below (λ j. byte_of (lane_of m l) (128 + 8 * j)) (key_in kind (lane_of m l)) 0 16
    (λ j lo hi. ap (byte_of (lane_of m l)) (sym (key_place j hi)))

-- ---- lanes that show the same bits

pub same_state : (m m' : Model) (l : ℕ) → ((r : ℕ) → r < 128 → m.bit r l ≡ m'.bit r l) → state_of m l ≡ state_of m' l
same_state m m' l e =
    map_below (λ j. byte_of (lane_of m l) (8 * j)) (λ j. byte_of (lane_of m' l) (8 * j)) 0 16 (λ j lo hi. byte_of_same (lane_of m l) (lane_of m' l) (8 * j) (λ i k. e (8 * j + i) (omega arith)))

pub same_rounds : (m m' : Model) (l : ℕ) → ((r : ℕ) → 128 ≤ r → r < 1536 → m.bit r l ≡ m'.bit r l) → (n : ℕ) → n ≤ rounds kind → round_shown m l n ≡ round_shown m' l n
same_rounds m m' l e n h =
    map_below (λ j. key_value kind n (byte_of (lane_of m l) (key n j))) (λ j. key_value kind n (byte_of (lane_of m' l) (key n j))) 0 16
    (λ j lo hi. ap (key_value kind n) (byte_of_same (lane_of m l) (lane_of m' l) (key n j) (λ i k. e (key n j + i) (omega arith) (omega arith))))

pub same_key : (m m' : Model) (l : ℕ) → ((r : ℕ) → 128 ≤ r → r < 256 → m.bit r l ≡ m'.bit r l) → key_of m l ≡ key_of m' l
same_key m m' l e =
    map_below (key_in kind (lane_of m l)) (key_in kind (lane_of m' l)) 0 16 (λ j lo hi.
    let p = key_place j hi in
    byte_of_same (lane_of m l) (lane_of m' l) (at (cond (ltb j 16) (16 + j) (16 * (rounds kind + 2) + (j - 16)))) (λ i k. e (at (cond (ltb j 16) (16 + j) (16 * (rounds kind + 2) + (j - 16))) + i) (omega arith) (omega arith)))
