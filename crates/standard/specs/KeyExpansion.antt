-- The key expansion of FIPS 197, section 5.2, under its names. Assumes nothing.
--
-- nk is the number of words of the key, and k j is byte j of the key.
use Rattle.std.specs.Prelude.{◌≡◌, ℕ, zero, suc, ◌+◌, ◌-◌, ◌*◌, ◌/◌, ◌%◌, ◌<◌, cond, ◌&&◌, List, [], ◌∷◌, ◌++◌, map, ◌==◌, bit_xor, nat_lt, slice_index, slice_index_or}
use Rattle.std.specs.Simd.Lanes.{zip2}
use Rattle.std.specs.List.{range_with_len}
use Rattle.standard.specs.Field.{SBox, xtime}

-- four bytes
abbrev pub Word : Type 0
Word = List ℕ

abbrev pub RotWord : Word → Word
RotWord w = slice_index w 1 ∷ slice_index w 2 ∷ slice_index w 3 ∷ slice_index w 0 ∷ []

abbrev pub SubWord : Word → Word
SubWord w = map SBox w

abbrev pub xor_word : Word → Word → Word
xor_word a b = zip2 bit_xor a b

-- the powers of 02, from Rcon 1 on: the first byte of the standard's round constant, whose other bytes are 00
unfoldable pub Rcon : ℕ → ℕ
unfolding xtime
Rcon zero = 0
Rcon (suc zero) = 1
Rcon (suc (suc n)) = xtime (Rcon (suc n))

abbrev pub rcon_word : ℕ → Word
rcon_word n = Rcon n ∷ 0 ∷ 0 ∷ 0 ∷ []

-- the standard's temp for word i, from word i - 1
abbrev pub temp : ℕ → ℕ → Word → Word
temp nk i w = cond (i % nk == 0) (xor_word (SubWord (RotWord w)) (rcon_word (i / nk))) (cond (nat_lt 6 nk && i % nk == 4) (SubWord w) w)

-- word i of the key
abbrev pub key_word : (ℕ → ℕ) → ℕ → Word
key_word k i = k (4 * i) ∷ k (4 * i + 1) ∷ k (4 * i + 2) ∷ k (4 * i + 3) ∷ []

-- the array w after n turns of the standard's loop: nk + n words
unfoldable pub KeyExpansion : ℕ → (ℕ → ℕ) → ℕ → List Word
KeyExpansion nk k zero = map (key_word k) (range_with_len 0 nk)
KeyExpansion nk k (suc n) =
    let w = KeyExpansion nk k n in w ++ (xor_word (slice_index_or w n []) (temp nk (n + nk) (slice_index_or w (n + nk - 1) [])) ∷ [])

-- word i
unfoldable pub word_at : ℕ → (ℕ → ℕ) → ℕ → Word
word_at nk k i = slice_index_or (KeyExpansion nk k i) i []

-- byte j of round key n, which is words 4·n to 4·n + 3
abbrev pub round_key_byte : ℕ → (ℕ → ℕ) → ℕ → ℕ → ℕ
round_key_byte nk k n j = slice_index (word_at nk k (4 * n + j / 4)) (j % 4)

-- words w that the standard's two equations hold of
abbrev pub Expands : ℕ → (ℕ → ℕ) → (ℕ → Word) → Type 0
Expands nk k w = ((i : ℕ) → i < nk → w i ≡ key_word k i) × ((n : ℕ) → w (n + nk) ≡ xor_word (w n) (temp nk (n + nk) (w (n + nk - 1))))
