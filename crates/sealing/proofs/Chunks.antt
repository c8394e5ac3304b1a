-- The key and the blocks of an input, as chunks of sixteen bytes. Assumes nothing.
use Rattle.std.proofs.Common.{◌≡◌, ℕ, zero, suc, ◌+◌, ◌-◌, ◌*◌, ◌/◌, ◌%◌, ◌<◌, ◌≤◌, true, eqb, leb, List, [], ◌∷◌, length, get_or, take, drop, sym, refl, ap, ◌∙◌, subst, ap₂, arith, lit<}
use Rattle.std.specs.Simd.{first_chunks}
use Rattle.std.proofs.lemmas.List.{length-drop, get_or-drop, drop-drop, take_all}
use Rattle.std.proofs.lemmas.Bool.{and_from, le-leb, eq-eqb, cond-true}
use Rattle.standard.specs.Kinds.{aes128, encrypted}
use Rattle.sealing.specs.Sealed.{key_in, block_in, whole, lines_to, sealed_lines, sealed_text}
use Rattle.sealing.proofs.Filling.{Bytes}
use Rattle.sealing.proofs.Written.{same_lines}

chunk_at : (k : ℕ) (xs : List ℕ) (i : ℕ) → i < k → get_or (first_chunks 16 k xs) i [] ≡ take 16 (drop (16 * i) xs)
chunk_at zero xs i h = absurd (omega arith)
chunk_at (suc k) xs zero h = refl
chunk_at (suc k) xs (suc i) h =
    chunk_at k (drop 16 xs) i (omega arith)
    ∙ ap (take 16) (drop-drop (16 * i) 16 xs ∙ ap (λ n. drop n xs) (let e : 16 + 16 * i ≡ 16 * suc i = omega arith in e))

length_chunks : (k : ℕ) (xs : List ℕ) → length (first_chunks 16 k xs) ≡ k
length_chunks zero xs = refl
length_chunks (suc k) xs = ap suc (length_chunks k (drop 16 xs))

take_bytes : (n : ℕ) (xs : List ℕ) → Bytes xs → Bytes (take n xs)
take_bytes zero xs h j = lit< tt
take_bytes (suc n) [] h j = lit< tt
take_bytes (suc n) (x ∷ xs) h zero = h 0
take_bytes (suc n) (x ∷ xs) h (suc j) = take_bytes n xs (λ k. h (suc k)) j

drop_bytes : (n : ℕ) (xs : List ℕ) → Bytes xs → Bytes (drop n xs)
drop_bytes n xs h j = subst (λ x. x < 256) (sym (get_or-drop n xs j 0)) (h (n + j))

chunk_bytes : (k : ℕ) (xs : List ℕ) → Bytes xs → (i : ℕ) → Bytes (get_or (first_chunks 16 k xs) i [])
chunk_bytes zero xs h i = λ j. lit< tt
chunk_bytes (suc k) xs h zero = take_bytes 16 xs h
chunk_bytes (suc k) xs h (suc i) = chunk_bytes k (drop 16 xs) (drop_bytes 16 xs h) i

module _ (input : List ℕ) (chunks : List (List ℕ)) (front : chunks ≡ first_chunks 16 (length input / 16) input) where
  abbrev pub blocks : List (List ℕ)
  blocks = take (length chunks - 1) (drop 1 chunks)

  many : length chunks ≡ length input / 16
  many = ap length front ∙ length_chunks (length input / 16) input

  block_is : (i : ℕ) → get_or blocks i [] ≡ get_or (first_chunks 16 (length input / 16) input) (1 + i) []
  block_is i =
      ap (λ l. get_or l i []) (take_all (length chunks - 1) (drop 1 chunks) (omega (arith, length-drop 1 chunks)))
      ∙ get_or-drop 1 chunks i []
      ∙ ap (λ l. get_or l (1 + i) []) front

  pub block_bytes : Bytes input → (i : ℕ) → Bytes (get_or blocks i [])
  block_bytes h i = let P : List ℕ → Type 0 = Bytes in subst P (sym (block_is i)) (chunk_bytes (length input / 16) input h (1 + i))

  -- the lines of the blocks are the text
  pub text_is : (n : ℕ) → n ≡ length input / 16 - 1 → length input % 16 ≡ 0 → 1 ≤ n → n ≤ 64 → lines_to (λ i. encrypted aes128 (get_or chunks 0 []) (get_or blocks i [])) n ≡ sealed_text input
  text_is n e none some few =
      let key : get_or chunks 0 [] ≡ key_in input = ap (λ l. get_or l 0 []) front ∙ chunk_at (length input / 16) input 0 (omega arith) in
      let block : (i : ℕ) → i < n → get_or blocks i [] ≡ block_in input i = λ i h. block_is i ∙ chunk_at (length input / 16) input (1 + i) (omega arith) ∙ ap (λ k. take 16 (drop (16 * k) input)) (let c : 1 + i ≡ i + 1 = omega arith in c) in
      let taken : whole (length input) ≡ true = and_from (eqb (length input % 16) 0) _ (eq-eqb (length input % 16) 0 none) (and_from (leb 32 (length input)) (leb (length input) 1040) (le-leb 32 (length input) (omega arith)) (le-leb (length input) 1040 (omega arith))) in
      same_lines _ _ n (λ i h. ap₂ (encrypted aes128) key (block i h)) ∙ ap (sealed_lines input) e ∙ sym (cond-true (whole (length input)) _ _ taken)
