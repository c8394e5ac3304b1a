-- The round keys depend on the key's bytes, and on nothing past them. Assumes nothing.
use Rattle.std.proofs.Common.{◌≡◌, ℕ, zero, suc, ◌+◌, ◌-◌, ◌*◌, ◌/◌, ◌%◌, ◌<◌, List, [], ◌∷◌, ◌++◌, get_or, sym, ap, arith}
use Rattle.std.proofs.lemmas.List.FromFn.{get_or-map-range_with_len}
use Rattle.standard.specs.KeyExpansion.{Word, key_word, xor_word, temp, KeyExpansion, word_at, round_key_byte}
use Rattle.standard.specs.Kinds.{KeyKind, key_words, key_bytes, sixteen, byte_at as byte_in, round_key}
use Rattle.circuit.specs.Lanes.{Lane}
use Rattle.circuit.specs.Claims.{key_in, key_of}
use Rattle.standard.proofs.ByteLaws.{map_below}

module _ (nk : ℕ) (k k' : ℕ → ℕ) (same : (j : ℕ) → j < 4 * nk → k j ≡ k' j) where
  first_same : (i : ℕ) → i < nk → key_word k i ≡ key_word k' i
  first_same i h = λ t. same (4 * i) (omega arith) t ∷ same (4 * i + 1) (omega arith) t ∷ same (4 * i + 2) (omega arith) t ∷ same (4 * i + 3) (omega arith) t ∷ []

  expansion_same : (n : ℕ) → KeyExpansion nk k n ≡ KeyExpansion nk k' n
  unfolding KeyExpansion
  expansion_same zero = map_below (key_word k) (key_word k') 0 nk (λ i lo hi. first_same i (omega arith))
  expansion_same (suc n) = ap (λ (w : List Word). w ++ (xor_word (get_or w n []) (temp nk (n + nk) (get_or w (n + nk - 1) [])) ∷ [])) (expansion_same n)

  pub round_key_same : (n : ℕ) → sixteen (round_key_byte nk k n) ≡ sixteen (round_key_byte nk k' n)
  unfolding word_at
  round_key_same n = map_below (round_key_byte nk k n) (round_key_byte nk k' n) 0 16 (λ j lo hi. ap (λ (w : List Word). get_or (get_or w (4 * n + j / 4) []) (j % 4) 0) (expansion_same (4 * n + j / 4)))

pub key_listed : (κ : KeyKind) (σ : Lane) (n : ℕ) → sixteen (round_key_byte (key_words κ) (key_in κ σ) n) ≡ round_key κ (key_of κ σ) n
key_listed κ σ = round_key_same (key_words κ) (key_in κ σ) (byte_in (key_of κ σ)) (λ j h. sym (get_or-map-range_with_len (key_in κ σ) 0 (key_bytes κ) j j 0 h (omega arith)))
