-- The states of the two ciphers are bytes, and each cipher undoes the other, round by round. Assumes nothing.
use Rattle.std.proofs.Common.{◌≡◌, ℕ, zero, suc, ◌+◌, ◌-◌, ◌≤◌, List, ap, ◌∙◌, ap₂, arith}
use Rattle.standard.specs.Cipher.{SubBytes, ShiftRows, MixColumns, AddRoundKey, Round, state_after, Cipher, InvSubBytes, InvShiftRows, InvMixColumns, inv_state_after, InvCipher}
use Rattle.standard.specs.States.{State, RoundKeys}
use Rattle.standard.specs.Undoing.{InvCipherUndoesCipher, CipherUndoesInvCipher}
use Rattle.standard.proofs.StateLaws.{sub_state, inv_sub_state, shift_state, inv_shift_state, add_state, inv_sub_sub, sub_inv_sub, inv_shift_shift, shift_inv_shift, add_add}
use Rattle.standard.proofs.Matrices.{mix_state, inv_mix_state, inv_mix_mix, mix_inv_mix}

-- ---- one round
shift_sub_state : (st : List ℕ) → State st → State (ShiftRows (SubBytes st))
shift_sub_state st s = shift_state (SubBytes st) (sub_state st s).1

inv_sub_shift_state : (st : List ℕ) → State st → State (InvSubBytes (InvShiftRows st))
inv_sub_shift_state st s = inv_sub_state (InvShiftRows st) (inv_shift_state st s.1)

pub round_state : (st key : List ℕ) → State st → State key → State (Round st key)
round_state st key s k = add_state (MixColumns (ShiftRows (SubBytes st))) key (mix_state (ShiftRows (SubBytes st)) (shift_sub_state st s)) k

sub_back : (st : List ℕ) → State st → InvSubBytes (InvShiftRows (ShiftRows (SubBytes st))) ≡ st
sub_back st s = ap InvSubBytes (inv_shift_shift (SubBytes st) (sub_state st s).0) ∙ inv_sub_sub st s.1

sub_forth : (st : List ℕ) → State st → ShiftRows (SubBytes (InvSubBytes (InvShiftRows st))) ≡ st
sub_forth st s = ap ShiftRows (sub_inv_sub (InvShiftRows st) (inv_shift_state st s.1).1) ∙ shift_inv_shift st s.0

module _ (block : List ℕ) (w : ℕ → List ℕ) (b : State block) (k : RoundKeys w) where
  -- ---- states
  pub state_after_state : (n : ℕ) → State (state_after n block w)
  state_after_state zero = add_state block (w 0) b (k 0)
  state_after_state (suc n) = round_state (state_after n block w) (w (suc n)) (state_after_state n) (k (suc n))

  pub cipher_state_lem : (nr : ℕ) → State (Cipher nr block w)
  cipher_state_lem nr = add_state (ShiftRows (SubBytes (state_after (nr - 1) block w))) (w nr) (shift_sub_state (state_after (nr - 1) block w) (state_after_state (nr - 1))) (k nr)

  -- a state of the inverse cipher, with the next round key added
  added_state : (st : List ℕ) (m : ℕ) → State st → State (AddRoundKey (InvSubBytes (InvShiftRows st)) (w m))
  added_state st m s = add_state (InvSubBytes (InvShiftRows st)) (w m) (inv_sub_shift_state st s) (k m)

  pub inv_state_after_state : (nr n : ℕ) → State (inv_state_after nr n block w)
  inv_state_after_state nr zero = add_state block (w nr) b (k nr)
  inv_state_after_state nr (suc n) =
      let st = inv_state_after nr n block w in
      inv_mix_state (AddRoundKey (InvSubBytes (InvShiftRows st)) (w (nr - 1 - n))) (added_state st (nr - 1 - n) (inv_state_after_state nr n))

  pub inv_cipher_state : (nr : ℕ) → State (InvCipher nr block w)
  inv_cipher_state nr = added_state (inv_state_after nr (nr - 1) block w) 0 (inv_state_after_state nr (nr - 1))

  -- ---- after n rounds of the inverse cipher, and m rounds before the end of the cipher, one state
  back : (nr n m : ℕ) → suc (n + m) ≡ nr → inv_state_after nr n (Cipher nr block w) w ≡ ShiftRows (SubBytes (state_after m block w))
  back nr zero m e =
      let st = λ (x : ℕ). ShiftRows (SubBytes (state_after x block w)) in
      let last : nr - 1 ≡ m = omega arith in
      add_add (st (nr - 1)) (w nr) (shift_sub_state (state_after (nr - 1) block w) (state_after_state (nr - 1))) (k nr) ∙ ap st last
  back nr (suc n) m e =
      let st = state_after (suc m) block w in
      let mixed = ShiftRows (SubBytes (state_after m block w)) in
      let s : State mixed = shift_sub_state (state_after m block w) (state_after_state m) in
      let key : nr - 1 - n ≡ suc m = omega arith in
      ap₂ (λ (x : List ℕ) (i : ℕ). InvMixColumns (AddRoundKey (InvSubBytes (InvShiftRows x)) (w i))) (back nr n (suc m) (omega arith)) key
      ∙ ap (λ (x : List ℕ). InvMixColumns (AddRoundKey x (w (suc m)))) (sub_back st (state_after_state (suc m)))
      ∙ ap InvMixColumns (add_add (MixColumns mixed) (w (suc m)) (mix_state mixed s) (k (suc m)))
      ∙ inv_mix_mix mixed s

  back_whole : (nr : ℕ) → 1 ≤ nr → InvCipher nr (Cipher nr block w) w ≡ block
  back_whole nr h =
      ap (λ (x : List ℕ). AddRoundKey (InvSubBytes (InvShiftRows x)) (w 0)) (back nr (nr - 1) 0 (omega arith))
      ∙ ap (λ (x : List ℕ). AddRoundKey x (w 0)) (sub_back (state_after 0 block w) (state_after_state 0))
      ∙ add_add block (w 0) b (k 0)

  -- ---- and the other way
  forth : (nr n m : ℕ) → suc (n + m) ≡ nr → state_after n (InvCipher nr block w) w ≡ InvSubBytes (InvShiftRows (inv_state_after nr m block w))
  forth nr zero m e =
      let st = λ (x : ℕ). InvSubBytes (InvShiftRows (inv_state_after nr x block w)) in
      let last : nr - 1 ≡ m = omega arith in
      add_add (st (nr - 1)) (w 0) (inv_sub_shift_state (inv_state_after nr (nr - 1) block w) (inv_state_after_state nr (nr - 1))) (k 0) ∙ ap st last
  forth nr (suc n) m e =
      let st = inv_state_after nr (suc m) block w in
      let sub = InvSubBytes (InvShiftRows (inv_state_after nr m block w)) in
      let s : State sub = inv_sub_shift_state (inv_state_after nr m block w) (inv_state_after_state nr m) in
      let key : nr - 1 - m ≡ suc n = omega arith in
      ap (λ (x : List ℕ). Round x (w (suc n))) (forth nr n (suc m) (omega arith))
      ∙ ap (λ (x : List ℕ). AddRoundKey (MixColumns x) (w (suc n))) (sub_forth st (inv_state_after_state nr (suc m)))
      ∙ ap (λ (x : List ℕ). AddRoundKey x (w (suc n))) (mix_inv_mix (AddRoundKey sub (w (nr - 1 - m))) (add_state sub (w (nr - 1 - m)) s (k (nr - 1 - m))))
      ∙ ap (λ (i : ℕ). AddRoundKey (AddRoundKey sub (w i)) (w (suc n))) key
      ∙ add_add sub (w (suc n)) s (k (suc n))

  forth_whole : (nr : ℕ) → 1 ≤ nr → Cipher nr (InvCipher nr block w) w ≡ block
  forth_whole nr h =
      ap (λ (x : List ℕ). AddRoundKey (ShiftRows (SubBytes x)) (w nr)) (forth nr (nr - 1) 0 (omega arith))
      ∙ ap (λ (x : List ℕ). AddRoundKey x (w nr)) (sub_forth (inv_state_after nr 0 block w) (inv_state_after_state nr 0))
      ∙ add_add block (w nr) b (k nr)

pub inv_cipher_cipher : InvCipherUndoesCipher
inv_cipher_cipher nr h block w b k = back_whole block w b k nr h

pub cipher_inv_cipher : CipherUndoesInvCipher
cipher_inv_cipher nr h block w b k = forth_whole block w b k nr h
