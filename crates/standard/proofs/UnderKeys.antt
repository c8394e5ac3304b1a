-- Under the round keys of any key the two ciphers undo each other and give states. Assumes nothing.
use Rattle.std.proofs.Common.{ℕ, ◌≤◌, List, lit≤}
use Rattle.standard.specs.KeyExpansion.{round_key_byte}
use Rattle.standard.specs.Kinds.{KeyKind, aes128, rounds, key_words, byte_at, round_key, encrypted, decrypted}
use Rattle.standard.specs.States.{Bytes, State, RoundKeys}
use Rattle.standard.specs.Undoing.{DecryptedUndoesEncrypted, EncryptedUndoesDecrypted, CiphersGiveStates, RoundKeysAreBytes}
use Rattle.standard.proofs.Rounds.{cipher_state_lem, inv_cipher_state, inv_cipher_cipher, cipher_inv_cipher}
use Rattle.standard.proofs.StateLaws.{bytes_at, sixteen_state}
use Rattle.standard.proofs.Words.{round_key_byte_lem}

pub some_rounds : (κ : KeyKind) → 1 ≤ rounds κ
some_rounds aes128 = lit≤ tt

pub round_keys_lem : (κ : KeyKind) (key : List ℕ) → Bytes key → RoundKeys (round_key κ key)
round_keys_lem κ key h n = sixteen_state (round_key_byte (key_words κ) (byte_at key) n) (round_key_byte_lem (key_words κ) (byte_at key) (bytes_at key h) n)

pub round_keys_bytes : RoundKeysAreBytes
round_keys_bytes = (round_key_byte_lem, round_keys_lem)

pub encrypted_state : (κ : KeyKind) (key block : List ℕ) → Bytes key → State block → State (encrypted κ key block)
unfolding encrypted
encrypted_state κ key block k b = cipher_state_lem block (round_key κ key) b (round_keys_lem κ key k) (rounds κ)

pub decrypted_state : (κ : KeyKind) (key block : List ℕ) → Bytes key → State block → State (decrypted κ key block)
unfolding decrypted
decrypted_state κ key block k b = inv_cipher_state block (round_key κ key) b (round_keys_lem κ key k) (rounds κ)

pub ciphers_states : CiphersGiveStates
ciphers_states =
    (λ nr block w b k. (cipher_state_lem block w b k nr, inv_cipher_state block w b k nr), λ κ key block k b. (encrypted_state κ key block k b, decrypted_state κ key block k b))

pub decrypted_encrypted : DecryptedUndoesEncrypted
unfolding encrypted decrypted
decrypted_encrypted κ key block k b = inv_cipher_cipher (rounds κ) (some_rounds κ) block (round_key κ key) b (round_keys_lem κ key k)

pub encrypted_decrypted : EncryptedUndoesDecrypted
unfolding encrypted decrypted
encrypted_decrypted κ key block k b = cipher_inv_cipher (rounds κ) (some_rounds κ) block (round_key κ key) b (round_keys_lem κ key k)
