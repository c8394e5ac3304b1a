-- The key kinds of FIPS 197, section 5: how many words a key has, and how many rounds a block goes through. Assumes nothing.
--
--   ciphered κ keys block    the standard's cipher of a block under round keys that stand one after another; deciphered, its inverse cipher
--   encrypted κ key block    the same under a key of kind κ; decrypted, its inverse
use Rattle.std.specs.Prelude.{ℕ, ◌+◌, ◌*◌, List, map, slice_index}
use Rattle.std.specs.List.{range_with_len}
use Rattle.standard.specs.Cipher.{Cipher, InvCipher}
use Rattle.standard.specs.KeyExpansion.{round_key_byte}

pub data KeyKind : Type 0 where
  aes128 : KeyKind

-- the standard's Nk
abbrev pub key_words : KeyKind → ℕ
key_words aes128 = 4

-- the standard's Nr
abbrev pub rounds : KeyKind → ℕ
rounds aes128 = 10

abbrev pub key_bytes : KeyKind → ℕ
key_bytes κ = 4 * key_words κ

-- sixteen bytes as a list
abbrev pub sixteen : (ℕ → ℕ) → List ℕ
sixteen b = map b (range_with_len 0 16)

-- byte j of a list, and 0 past its end
abbrev pub byte_at : List ℕ → ℕ → ℕ
byte_at bytes j = slice_index bytes j

-- round key n of round keys that stand one after another
abbrev pub key_in : List ℕ → ℕ → List ℕ
key_in keys n = sixteen (λ j. byte_at keys (16 * n + j))

unfoldable pub ciphered : KeyKind → List ℕ → List ℕ → List ℕ
ciphered κ keys block = Cipher (rounds κ) block (key_in keys)

unfoldable pub deciphered : KeyKind → List ℕ → List ℕ → List ℕ
deciphered κ keys block = InvCipher (rounds κ) block (key_in keys)

-- round key n of a key
abbrev pub round_key : KeyKind → List ℕ → ℕ → List ℕ
round_key κ key n = sixteen (round_key_byte (key_words κ) (byte_at key) n)

unfoldable pub encrypted : KeyKind → List ℕ → List ℕ → List ℕ
encrypted κ key block = Cipher (rounds κ) block (round_key κ key)

unfoldable pub decrypted : KeyKind → List ℕ → List ℕ → List ℕ
decrypted κ key block = InvCipher (rounds κ) block (round_key κ key)
