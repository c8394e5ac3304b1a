-- The cipher and the inverse cipher of FIPS 197, sections 5.1 and 5.3, under its names. Assumes nothing.
--
-- A state is sixteen bytes, column after column: byte r + 4·c stands in row r of column c.
-- nr is the number of rounds, and w n is round key n.
use Rattle.std.specs.Prelude.{ℕ, zero, suc, ◌-◌, ◌*◌, ◌%◌, List, [], ◌∷◌, map, bit_xor, slice_index}
use Rattle.std.specs.Simd.Lanes.{zip2}
use Rattle.std.specs.List.{range_with_len}
use Rattle.standard.specs.Field.{mul, SBox, InvSBox}

-- ---- the cipher, 5.1

abbrev pub SubBytes : List ℕ → List ℕ
SubBytes state = map SBox state

-- place j takes byte 5·j mod 16: row r goes r places to the left
abbrev pub ShiftRows : List ℕ → List ℕ
ShiftRows state = map (λ j. slice_index state ((5 * j) % 16)) (range_with_len 0 16)

abbrev pub MixColumns : List ℕ → List ℕ
MixColumns [] = []
MixColumns (a ∷ []) = []
MixColumns (a ∷ b ∷ []) = []
MixColumns (a ∷ b ∷ c ∷ []) = []
MixColumns (a ∷ b ∷ c ∷ d ∷ rest) =
    bit_xor (mul 2 a) (bit_xor (mul 3 b) (bit_xor c d)) ∷ bit_xor a (bit_xor (mul 2 b) (bit_xor (mul 3 c) d))
    ∷ bit_xor a (bit_xor b (bit_xor (mul 2 c) (mul 3 d))) ∷ bit_xor (mul 3 a) (bit_xor b (bit_xor c (mul 2 d))) ∷ MixColumns rest

abbrev pub AddRoundKey : List ℕ → List ℕ → List ℕ
AddRoundKey state key = zip2 bit_xor state key

abbrev pub Round : List ℕ → List ℕ → List ℕ
Round state key = AddRoundKey (MixColumns (ShiftRows (SubBytes state))) key

-- the state after round n, for n below nr; round 0 is the first AddRoundKey
abbrev pub state_after : ℕ → List ℕ → (ℕ → List ℕ) → List ℕ
state_after zero block w = AddRoundKey block (w 0)
state_after (suc n) block w = Round (state_after n block w) (w (suc n))

abbrev pub Cipher : ℕ → List ℕ → (ℕ → List ℕ) → List ℕ
Cipher nr block w = AddRoundKey (ShiftRows (SubBytes (state_after (nr - 1) block w))) (w nr)

-- ---- the inverse cipher, 5.3

-- place j takes byte 13·j mod 16: row r goes r places to the right
abbrev pub InvShiftRows : List ℕ → List ℕ
InvShiftRows state = map (λ j. slice_index state ((13 * j) % 16)) (range_with_len 0 16)

abbrev pub InvSubBytes : List ℕ → List ℕ
InvSubBytes state = map InvSBox state

abbrev pub InvMixColumns : List ℕ → List ℕ
InvMixColumns [] = []
InvMixColumns (a ∷ []) = []
InvMixColumns (a ∷ b ∷ []) = []
InvMixColumns (a ∷ b ∷ c ∷ []) = []
InvMixColumns (a ∷ b ∷ c ∷ d ∷ rest) =
    bit_xor (mul 14 a) (bit_xor (mul 11 b) (bit_xor (mul 13 c) (mul 9 d))) ∷ bit_xor (mul 9 a) (bit_xor (mul 14 b) (bit_xor (mul 11 c) (mul 13 d)))
    ∷ bit_xor (mul 13 a) (bit_xor (mul 9 b) (bit_xor (mul 14 c) (mul 11 d))) ∷ bit_xor (mul 11 a) (bit_xor (mul 13 b) (bit_xor (mul 9 c) (mul 14 d)))
    ∷ InvMixColumns rest

-- the state after n rounds, for n below nr, under the round keys from the last to the first
abbrev pub inv_state_after : ℕ → ℕ → List ℕ → (ℕ → List ℕ) → List ℕ
inv_state_after nr zero block w = AddRoundKey block (w nr)
inv_state_after nr (suc n) block w = InvMixColumns (AddRoundKey (InvSubBytes (InvShiftRows (inv_state_after nr n block w))) (w (nr - 1 - n)))

abbrev pub InvCipher : ℕ → List ℕ → (ℕ → List ℕ) → List ℕ
InvCipher nr block w = AddRoundKey (InvSubBytes (InvShiftRows (inv_state_after nr (nr - 1) block w))) (w 0)
