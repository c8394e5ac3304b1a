-- The cipher and the inverse cipher undo each other, for every number of rounds, every block and all round keys. Assumes nothing.
--
--   InvCipherUndoesCipher, CipherUndoesInvCipher         under any round keys
--   DecryptedUndoesEncrypted, EncryptedUndoesDecrypted   under the round keys of any key
--   CiphersGiveStates                                    what the four give is sixteen bytes
--   WordsExpand                                          the words of the expansion meet the standard's equations
--   RoundKeysAreBytes                                    a key of bytes has round keys of bytes
use Rattle.std.specs.Prelude.{◌≡◌, ℕ, ◌<◌, ◌≤◌, List}
use Rattle.standard.specs.States.{Bytes, State, RoundKeys}
use Rattle.standard.specs.Cipher.{Cipher, InvCipher}
use Rattle.standard.specs.KeyExpansion.{word_at, round_key_byte, Expands}
use Rattle.standard.specs.Kinds.{KeyKind, encrypted, decrypted, round_key}

abbrev pub InvCipherUndoesCipher : Type 0
InvCipherUndoesCipher =
    (nr : ℕ) → 1 ≤ nr → (block : List ℕ) (w : ℕ → List ℕ) → State block → RoundKeys w → InvCipher nr (Cipher nr block w) w ≡ block

abbrev pub CipherUndoesInvCipher : Type 0
CipherUndoesInvCipher =
    (nr : ℕ) → 1 ≤ nr → (block : List ℕ) (w : ℕ → List ℕ) → State block → RoundKeys w → Cipher nr (InvCipher nr block w) w ≡ block

abbrev pub DecryptedUndoesEncrypted : Type 0
DecryptedUndoesEncrypted = (κ : KeyKind) (key block : List ℕ) → Bytes key → State block → decrypted κ key (encrypted κ key block) ≡ block

abbrev pub EncryptedUndoesDecrypted : Type 0
EncryptedUndoesDecrypted = (κ : KeyKind) (key block : List ℕ) → Bytes key → State block → encrypted κ key (decrypted κ key block) ≡ block

abbrev pub CiphersGiveStates : Type 0
CiphersGiveStates =
    ((nr : ℕ) (block : List ℕ) (w : ℕ → List ℕ) → State block → RoundKeys w → State (Cipher nr block w) × State (InvCipher nr block w))
    × ((κ : KeyKind) (key block : List ℕ) → Bytes key → State block → State (encrypted κ key block) × State (decrypted κ key block))

abbrev pub WordsExpand : Type 0
WordsExpand = (nk : ℕ) → 1 ≤ nk → (k : ℕ → ℕ) → Expands nk k (word_at nk k)

abbrev pub RoundKeysAreBytes : Type 0
RoundKeysAreBytes =
    ((nk : ℕ) (k : ℕ → ℕ) → ((j : ℕ) → k j < 256) → (n j : ℕ) → round_key_byte nk k n j < 256)
    × ((κ : KeyKind) (key : List ℕ) → Bytes key → RoundKeys (round_key κ key))
