-- The ciphers of a kind, round by round, as a loop over the rounds computes them. Assumes nothing.
use Rattle.std.proofs.Common.{◌≡◌, ℕ, zero, suc, ◌+◌, ◌-◌, ◌*◌, ◌≤◌, List, sym, ap, ◌∙◌, ap₂, add-one, arith}
use Rattle.standard.specs.Cipher.{SubBytes, ShiftRows, AddRoundKey, Round, state_after, InvSubBytes, InvShiftRows, InvMixColumns, inv_state_after, Cipher, InvCipher}
use Rattle.standard.specs.Kinds.{KeyKind, rounds, byte_at, key_in, round_key, ciphered, deciphered, encrypted, decrypted}
use Rattle.standard.specs.States.{Bytes, State, RoundKeys}
use Rattle.standard.proofs.StateLaws.{bytes_at, sixteen_state}
use Rattle.standard.proofs.Rounds.{inv_cipher_cipher, cipher_inv_cipher}
use Rattle.standard.proofs.UnderKeys.{some_rounds}

pub key_in_states : (keys : List ℕ) → Bytes keys → RoundKeys (key_in keys)
key_in_states keys h n = sixteen_state (λ j. byte_at keys (16 * n + j)) (λ j. bytes_at keys h (16 * n + j))

module _ (κ : KeyKind) (keys block : List ℕ) where
  abbrev w : ℕ → List ℕ
  w = key_in keys

  -- ---- the cipher
  pub round_more : (n : ℕ) (st : List ℕ) → 1 ≤ n → st ≡ state_after (n - 1) block w → Round st (w n) ≡ state_after (n + 1 - 1) block w
  round_more n st h e =
      let here : n ≡ suc (n - 1) = omega arith in
      let same : n ≡ n + 1 - 1 = omega arith in
      ap₂ (λ (x : List ℕ) (i : ℕ). Round x (w i)) e here ∙ sym (ap (λ (i : ℕ). state_after i block w) here) ∙ ap (λ (i : ℕ). state_after i block w) same

  pub ciphered_last : (n : ℕ) (st : List ℕ) → n ≡ rounds κ → st ≡ state_after (n - 1) block w → AddRoundKey (ShiftRows (SubBytes st)) (w (rounds κ)) ≡ ciphered κ keys block
  unfolding ciphered
  ciphered_last n st h e =
      ap (λ (x : List ℕ). AddRoundKey (ShiftRows (SubBytes x)) (w (rounds κ))) e
      ∙ ap (λ (i : ℕ). AddRoundKey (ShiftRows (SubBytes (state_after (i - 1) block w))) (w (rounds κ))) h

  -- ---- the inverse cipher
  pub inv_round_more : (nr n m i : ℕ) (st : List ℕ) → m ≡ n + 1 → i ≡ nr - 1 - n → st ≡ inv_state_after nr n block w → InvMixColumns (AddRoundKey (InvSubBytes (InvShiftRows st)) (w i)) ≡ inv_state_after nr m block w
  inv_round_more nr n m i st one_more here e =
      ap₂ (λ (x : List ℕ) (j : ℕ). InvMixColumns (AddRoundKey (InvSubBytes (InvShiftRows x)) (w j))) e here ∙ sym (ap (λ (j : ℕ). inv_state_after nr j block w) (one_more ∙ add-one n))

  pub deciphered_last : (n : ℕ) (st : List ℕ) → n ≡ rounds κ - 1 → st ≡ inv_state_after (rounds κ) n block w → AddRoundKey (InvSubBytes (InvShiftRows st)) (w 0) ≡ deciphered κ keys block
  unfolding deciphered
  deciphered_last n st h e =
      ap (λ (x : List ℕ). AddRoundKey (InvSubBytes (InvShiftRows x)) (w 0)) e
      ∙ ap (λ (i : ℕ). AddRoundKey (InvSubBytes (InvShiftRows (inv_state_after (rounds κ) i block w))) (w 0)) h

  -- ---- each undoes the other
  pub deciphered_ciphered : Bytes keys → State block → deciphered κ keys (ciphered κ keys block) ≡ block
  unfolding ciphered deciphered
  deciphered_ciphered k b = inv_cipher_cipher (rounds κ) (some_rounds κ) block w b (key_in_states keys k)

  pub ciphered_deciphered : Bytes keys → State block → ciphered κ keys (deciphered κ keys block) ≡ block
  unfolding ciphered deciphered
  ciphered_deciphered k b = cipher_inv_cipher (rounds κ) (some_rounds κ) block w b (key_in_states keys k)

-- ---- round keys that agree up to the last give one cipher
module _ (nr : ℕ) (block : List ℕ) (v v' : ℕ → List ℕ) (same : (n : ℕ) → n ≤ nr → v n ≡ v' n) where
  same_after : (n : ℕ) → n ≤ nr → state_after n block v ≡ state_after n block v'
  same_after zero h = ap (AddRoundKey block) (same 0 h)
  same_after (suc n) h = ap₂ Round (same_after n (omega arith)) (same (suc n) h)

  pub same_cipher : Cipher nr block v ≡ Cipher nr block v'
  same_cipher = ap₂ (λ (st key : List ℕ). AddRoundKey (ShiftRows (SubBytes st)) key) (same_after (nr - 1) (omega arith)) (same nr (omega arith))

  same_inv_after : (n : ℕ) → inv_state_after nr n block v ≡ inv_state_after nr n block v'
  same_inv_after zero = ap (AddRoundKey block) (same nr (omega arith))
  same_inv_after (suc n) = ap₂ (λ (st key : List ℕ). InvMixColumns (AddRoundKey (InvSubBytes (InvShiftRows st)) key)) (same_inv_after n) (same (nr - 1 - n) (omega arith))

  pub same_inv_cipher : InvCipher nr block v ≡ InvCipher nr block v'
  same_inv_cipher = ap₂ (λ (st key : List ℕ). AddRoundKey (InvSubBytes (InvShiftRows st)) key) (same_inv_after (nr - 1)) (same 0 (omega arith))

-- ---- under the round keys of a key
module _ (κ : KeyKind) (key keys block : List ℕ) (expanded : (n : ℕ) → n ≤ rounds κ → key_in keys n ≡ round_key κ key n) where
  pub ciphered_encrypted : ciphered κ keys block ≡ encrypted κ key block
  unfolding ciphered encrypted
  ciphered_encrypted = same_cipher (rounds κ) block (key_in keys) (round_key κ key) expanded

  pub deciphered_decrypted : deciphered κ keys block ≡ decrypted κ key block
  unfolding deciphered decrypted
  deciphered_decrypted = same_inv_cipher (rounds κ) block (key_in keys) (round_key κ key) expanded
