-- The standard's own examples, by computing: the expansion once, and the cipher under its words. Assumes nothing.
use Rattle.std.proofs.Common.{◌≡◌, ℕ, ◌+◌, ◌*◌, ◌/◌, ◌%◌, ◌<◌, ◌≤◌, List, [], get_or, sym, refl, ap, ◌∙◌, arith}
use Rattle.standard.specs.Cipher.{Cipher}
use Rattle.standard.specs.Field.{mul, SBox}
use Rattle.standard.specs.KeyExpansion.{Word, Rcon, KeyExpansion, round_key_byte}
use Rattle.standard.specs.Kinds.{KeyKind, aes128, rounds, byte_at, sixteen, round_key, encrypted}
use Rattle.standard.specs.Examples.{example_key, example_words, example_block, example_output, ExamplesStand}
use Rattle.standard.proofs.Filling.{sixteen_same}
use Rattle.standard.proofs.Loops.{same_cipher}
use Rattle.standard.proofs.Words.{word_in}

expansion : KeyExpansion 4 (byte_at example_key) 40 ≡ example_words
unfolding KeyExpansion SBox Rcon
expansion = refl

-- round key n of a list of words
abbrev key_of : List Word → ℕ → List ℕ
key_of ws n = sixteen (λ j. get_or (get_or ws (4 * n + j / 4) []) (j % 4) 0)

-- the cipher under words that an expansion gave
by_words : (key block : List ℕ) (ws : List Word) → KeyExpansion 4 (byte_at key) 40 ≡ ws → (nr : ℕ) → nr ≤ 10 → Cipher nr block (round_key aes128 key) ≡ Cipher nr block (key_of ws)
by_words key block ws e nr h = same_cipher nr block (round_key aes128 key) (key_of ws) (λ n hn. sixteen_same (round_key_byte 4 (byte_at key) n) (λ j. get_or (get_or ws (4 * n + j / 4) []) (j % 4) 0) (at n hn))
  where
    at : (n : ℕ) → n ≤ nr → (j : ℕ) → j < 16 → round_key_byte 4 (byte_at key) n j ≡ get_or (get_or ws (4 * n + j / 4) []) (j % 4) 0
    at n hn j hj =
        let i = 4 * n + j / 4 in
        ap (λ (w : Word). get_or w (j % 4) 0) (sym (word_in 4 (omega arith) (byte_at key) 40 i (omega arith)) ∙ ap (λ (xs : List Word). get_or xs i []) e)

whole : (κ : KeyKind) (key block : List ℕ) (nr : ℕ) → nr ≡ rounds κ → encrypted κ key block ≡ Cipher nr block (round_key κ key)
unfolding encrypted
whole κ key block nr h = sym (ap (λ (n : ℕ). Cipher n block (round_key κ key)) h)

encrypted_by : (key block : List ℕ) (ws : List Word) → KeyExpansion 4 (byte_at key) 40 ≡ ws → (nr : ℕ) → nr ≡ 10 → encrypted aes128 key block ≡ Cipher nr block (key_of ws)
encrypted_by key block ws e nr h = whole aes128 key block nr h ∙ by_words key block ws e nr (omega arith)

output : Cipher 10 example_block (key_of example_words) ≡ example_output
unfolding SBox mul
output = refl

pub examples : ExamplesStand
unfolding mul SBox
examples = (refl, refl, refl, expansion, encrypted_by example_key example_block example_words expansion 10 refl ∙ output)
