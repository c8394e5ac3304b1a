-- Worked values of the standard, of the coordinates and of a play, as one table. Assumes nothing.
--
--   computed   each row is what the definitions give
--   values     each row is what it must be
use Rattle.std.specs.Prelude.{◌≡◌, ℕ, ◌*◌, ◌/◌, ◌%◌, ◌^◌, ◌<◌, ◌≤◌, true, List, [], ◌∷◌, map, Ok, slice_index}
use Rattle.std.specs.List.{range_with_len}
use Rattle.standard.specs.Field.{mul, inverse, SBox}
use Rattle.standard.specs.Cipher.{MixColumns, ShiftRows, InvShiftRows, state_after}
use Rattle.standard.specs.KeyExpansion.{word_at, Rcon}
use Rattle.standard.specs.Kinds.{aes128, key_words, byte_at, round_key, encrypted, decrypted}
use Rattle.coordinates.specs.Coordinates.{to_coordinates}
use Rattle.bench.specs.Model.{Model}
use Rattle.player.specs.Pages.{whole}
use Rattle.player.specs.Plays.{play_answer, played}

-- 00 01 02 .. 0f, and 00 11 22 .. ff
abbrev pub key : List ℕ
key = range_with_len 0 16

abbrev pub block : List ℕ
block = map (λ j. 17 * j) (range_with_len 0 16)

abbrev pub sealed_block : List ℕ
sealed_block = 0x69 ∷ 0xc4 ∷ 0xe0 ∷ 0xd8 ∷ 0x6a ∷ 0x7b ∷ 0x04 ∷ 0x30 ∷ 0xd8 ∷ 0xcd ∷ 0xb7 ∷ 0x80 ∷ 0x70 ∷ 0xb4 ∷ 0xc5 ∷ 0x5a ∷ []

-- the eight bits of a number, bit 0 first
abbrev pub bits : ℕ → List ℕ
bits n = map (λ i. (n / 2 ^ i) % 2) (range_with_len 0 8)

abbrev pub computed : List (List ℕ)
computed =
    (mul 0x57 0x83 ∷ inverse 0x53 ∷ SBox 0x53 ∷ SBox 0x00 ∷ [])
    ∷ bits (to_coordinates 0x01)
    ∷ bits (to_coordinates 0x66)
    ∷ MixColumns (0xdb ∷ 0x13 ∷ 0x53 ∷ 0x45 ∷ [])
    ∷ word_at (key_words aes128) (byte_at key) 4
    ∷ (Rcon 10 ∷ [])
    ∷ (slice_index (ShiftRows (range_with_len 0 16)) 1 ∷ slice_index (InvShiftRows (range_with_len 0 16)) 1 ∷ [])
    ∷ state_after 0 block (round_key aes128 key)
    ∷ encrypted aes128 key block
    ∷ decrypted aes128 key sealed_block
    ∷ []

abbrev pub values : List (List ℕ)
values =
    (0xc1 ∷ 0xca ∷ 0xed ∷ 0x63 ∷ [])
    ∷ (1 ∷ 0 ∷ 0 ∷ 1 ∷ 1 ∷ 0 ∷ 0 ∷ 1 ∷ [])
    ∷ (1 ∷ 0 ∷ 0 ∷ 0 ∷ 0 ∷ 0 ∷ 0 ∷ 0 ∷ [])
    ∷ (0x8e ∷ 0x4d ∷ 0xa1 ∷ 0xbc ∷ [])
    ∷ (0xd6 ∷ 0xaa ∷ 0x74 ∷ 0xfd ∷ [])
    ∷ (0x36 ∷ [])
    ∷ (5 ∷ 13 ∷ [])
    ∷ map (λ j. 16 * j) (range_with_len 0 16)
    ∷ sealed_block
    ∷ block
    ∷ []

-- one XNOR gate whose three numbers are number 0, and a page of no gates, each of one socket and no scratch
abbrev pub setting_page : List ℕ
setting_page = 0 ∷ 1 ∷ 0 ∷ 1 ∷ 0 ∷ 0 ∷ 3 ∷ 0 ∷ 0 ∷ 0 ∷ 0 ∷ 0 ∷ 0 ∷ []

abbrev pub empty_page : List ℕ
empty_page = 0 ∷ 0 ∷ 0 ∷ 1 ∷ 0 ∷ 0 ∷ []

abbrev pub bases : List ℕ
bases = 200 ∷ 200 ∷ []

-- the values, and the two plays on any bench: the first sets register 200 in every lane with the one gate that is left, the second needs no gate
pub record ValuesStand : Type 0 where
  pub table : computed ≡ values
  pub sets : (m : Model) → m.registers ≡ 208 → m.left ≡ 1
      → (play_answer m setting_page bases ≡ Ok tt)
      × ((l : ℕ) → l < m.lanes → (played setting_page bases m).bit 200 l ≡ true)
      × ((played setting_page bases m).left ≡ 0)
  pub empty : (whole empty_page ≡ true) × ((m : Model) → 208 ≤ m.registers → m.left ≡ 0 → (play_answer m empty_page bases ≡ Ok tt) × (played empty_page bases m ≡ m))
