-- What the plans do to a lane, in the words of FIPS 197. Assumes nothing.
--
--   state_of σ      the sixteen bytes of the state
--   keys_of κ σ n   round key n: the first and the last are plain, those between in coordinates
--   key_of κ σ      the key: its first sixteen bytes are round key 0, the others stand behind the last round key
--   Inverts inv     inv may be played as the inverter
use Rattle.std.specs.Prelude.{◌≡◌, ℕ, ◌+◌, ◌-◌, ◌*◌, ◌<◌, ◌≤◌, cond, ◌||◌, T, List, map, length, ◌==◌, nat_lt, slice_index}
use Rattle.std.specs.List.{range_with_len}
use Rattle.standard.specs.Bits.{bit, byte_of}
use Rattle.standard.specs.Field.{inverse}
use Rattle.standard.specs.Cipher.{state_after, Cipher, InvCipher}
use Rattle.standard.specs.Kinds.{KeyKind, rounds, key_bytes, sixteen, round_key}
use Rattle.coordinates.specs.Coordinates.{to_coordinates, from_coordinates}
use Rattle.player.specs.Pages.{gates_of, sockets_in}
use Rattle.plans.specs.Layout.{at, key, free}
use Rattle.plans.specs.Plans.{stages_to, seal_plan, schedule_plan, open_plan}
use Rattle.circuit.specs.Lanes.{Lane, play_on, run_plan}
use Rattle.circuit.specs.Places.{place, distinct, fits_all}

abbrev pub state_of : Lane → List ℕ
state_of σ = sixteen (λ j. byte_of σ (at j))

-- byte v of round key n
abbrev pub key_value : KeyKind → ℕ → ℕ → ℕ
key_value κ n v = cond (n == 0 || n == rounds κ) v (from_coordinates v)

abbrev pub keys_of : KeyKind → Lane → ℕ → List ℕ
keys_of κ σ n = sixteen (λ j. key_value κ n (byte_of σ (key n j)))

-- byte j of the key
abbrev pub key_in : KeyKind → Lane → ℕ → ℕ
key_in κ σ j = byte_of σ (at (cond (nat_lt j 16) (16 + j) (16 * (rounds κ + 2) + (j - 16))))

abbrev pub key_of : KeyKind → Lane → List ℕ
key_of κ σ = map (key_in κ σ) (range_with_len 0 (key_bytes κ))

-- stage by stage the state shows the coordinates of the standard's state, at the end it is the cipher of the block, and the round keys are as they were
abbrev pub SealStands : List ℕ → KeyKind → Type 0
SealStands inv κ = (σ : Lane)
    → ((n : ℕ) → n < rounds κ → state_of (run_plan inv (stages_to κ n) σ) ≡ map to_coordinates (state_after n (state_of σ) (keys_of κ σ)))
    × (state_of (run_plan inv (seal_plan κ) σ) ≡ Cipher (rounds κ) (state_of σ) (keys_of κ σ))
    × ((r : ℕ) → at 16 ≤ r → r < at (free κ) → run_plan inv (seal_plan κ) σ r ≡ σ r)

-- the round keys become those of the key, and the state and the key are as they were
abbrev pub ScheduleStands : List ℕ → KeyKind → Type 0
ScheduleStands inv κ = (σ : Lane)
    → ((n : ℕ) → n ≤ rounds κ → keys_of κ (run_plan inv (schedule_plan κ) σ) n ≡ round_key κ (key_of κ σ) n)
    × ((r : ℕ) → r < at 32 → run_plan inv (schedule_plan κ) σ r ≡ σ r)
    × ((r : ℕ) → at (16 * (rounds κ + 2)) ≤ r → r < at (free κ) → run_plan inv (schedule_plan κ) σ r ≡ σ r)

-- the block becomes its inverse cipher, and the round keys are as they were
abbrev pub OpenStands : List ℕ → KeyKind → Type 0
OpenStands inv κ = (σ : Lane)
    → (state_of (run_plan inv (open_plan κ) σ) ≡ InvCipher (rounds κ) (state_of σ) (keys_of κ σ))
    × ((r : ℕ) → at 16 ≤ r → r < at (free κ) → run_plan inv (open_plan κ) σ r ≡ σ r)

-- two sockets and at most 256 scratch numbers; in coordinates, wherever its bytes stand apart, the second byte becomes the inverse of the first, which stays
pub record Inverts (inv : List ℕ) : Type 0 where
  pub two : sockets_in inv ≡ 2
  pub below : T (fits_all 272 (gates_of inv))
  pub inverts : (P : List ℕ) → length P ≡ 34 → T (distinct P) → (σ : Lane) (v : ℕ) → v < 256 → ((i : ℕ) → i < 8 → σ (at (slice_index P 0) + i) ≡ bit v i)
      → ((i : ℕ) → i < 8 → play_on (place P) (gates_of inv) σ (at (slice_index P 0) + i) ≡ bit v i)
      × ((i : ℕ) → i < 8 → play_on (place P) (gates_of inv) σ (at (slice_index P 1) + i) ≡ bit (to_coordinates (inverse (from_coordinates v))) i)
