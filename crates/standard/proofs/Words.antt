-- The words of the key expansion meet the standard's equations, and are bytes where the key is. Assumes nothing.
use Rattle.std.proofs.Common.{◌≡◌, ℕ, zero, suc, ◌+◌, ◌-◌, ◌*◌, ◌/◌, ◌%◌, ◌<◌, ◌≤◌, Bool, true, false, cond, ◌&&◌, eqb, ltb, List, [], ◌∷◌, ◌++◌, map, length, get_or, sym, refl, ap, ◌∙◌, ap₂, add-one, arith}
use Rattle.std.specs.List.{range_with_len}
use Rattle.std.proofs.lemmas.List.{get_or_append_left, get_or-append_right, length-append, length-map}
use Rattle.std.proofs.lemmas.List.FromFn.{get_or-map-range_with_len, length-range_with_len}
use Rattle.standard.specs.Field.{SBox, xtime}
use Rattle.standard.specs.KeyExpansion.{Word, RotWord, SubWord, xor_word, Rcon, rcon_word, temp, key_word, KeyExpansion, word_at, round_key_byte}
use Rattle.standard.specs.States.{Bytes}
use Rattle.standard.specs.Undoing.{WordsExpand}
use Rattle.standard.proofs.FieldLaws.{SBox_byte, xtime_byte}
use Rattle.standard.proofs.StateLaws.{bytes_at, map_bytes, add_bytes}

-- ---- the standard's equations
module _ (nk : ℕ) (some_words : 1 ≤ nk) (k : ℕ → ℕ) where
  abbrev next : ℕ → Word
  next n = xor_word (get_or (KeyExpansion nk k n) n []) (temp nk (n + nk) (get_or (KeyExpansion nk k n) (n + nk - 1) []))

  more : (n : ℕ) → KeyExpansion nk k (suc n) ≡ KeyExpansion nk k n ++ (next n ∷ [])
  unfolding KeyExpansion
  more n = refl

  long : (n : ℕ) → length (KeyExpansion nk k n) ≡ nk + n
  unfolding KeyExpansion
  long zero = length-map (range_with_len 0 nk) (key_word k) ∙ length-range_with_len 0 nk ∙ omega arith
  long (suc n) = ap length (more n) ∙ length-append (KeyExpansion nk k n) (next n ∷ []) ∙ ap (λ (x : ℕ). x + 1) (long n) ∙ omega arith

  stays : (d n i : ℕ) → i < nk + n → get_or (KeyExpansion nk k (d + n)) i [] ≡ get_or (KeyExpansion nk k n) i []
  stays zero n i h = ap (λ (x : ℕ). get_or (KeyExpansion nk k x) i []) (nothing n)
    where
      nothing : (n : ℕ) → 0 + n ≡ n
      nothing n = omega arith
  stays (suc d) n i h =
      ap (λ (x : ℕ). get_or (KeyExpansion nk k x) i []) (one_more d n)
      ∙ ap (λ (ws : List Word). get_or ws i []) (more (d + n))
      ∙ get_or_append_left (KeyExpansion nk k (d + n)) (next (d + n) ∷ []) [] i (omega (arith, long (d + n)))
      ∙ stays d n i h
    where
      one_more : (d n : ℕ) → suc d + n ≡ suc (d + n)
      one_more d n = omega arith

  pub word_in : (n i : ℕ) → i < nk + n → get_or (KeyExpansion nk k n) i [] ≡ word_at nk k i
  unfolding word_at
  word_in n i h = sym (stays i n i h) ∙ ap (λ (x : ℕ). get_or (KeyExpansion nk k x) i []) (swap i n) ∙ stays n i i (omega arith)
    where
      swap : (i n : ℕ) → i + n ≡ n + i
      swap i n = omega arith

  pub first_words : (i : ℕ) → i < nk → word_at nk k i ≡ key_word k i
  unfolding KeyExpansion
  first_words i h = sym (word_in 0 i (omega arith)) ∙ get_or-map-range_with_len (key_word k) 0 nk i i [] h (omega arith)

  pub later_words : (n : ℕ) → word_at nk k (n + nk) ≡ xor_word (word_at nk k n) (temp nk (n + nk) (word_at nk k (n + nk - 1)))
  later_words n =
      sym (word_in (suc n) (n + nk) (omega arith))
      ∙ ap (λ (ws : List Word). get_or ws (n + nk) []) (more n)
      ∙ get_or-append_right (KeyExpansion nk k n) (next n ∷ []) (nk + n) (n + nk) [] (long n) (omega arith)
      ∙ ap (λ (x : ℕ). get_or (next n ∷ []) x []) (none_over n)
      ∙ ap₂ (λ (a b : Word). xor_word a (temp nk (n + nk) b)) (word_in n n (omega arith)) (word_in n (n + nk - 1) (omega arith))
    where
      none_over : (n : ℕ) → n + nk - (nk + n) ≡ 0
      none_over n = omega arith

pub expands : WordsExpand
expands nk h k = (first_words nk h k, later_words nk h k)

-- ---- the round constants
pub Rcon_more : (i : ℕ) → 1 ≤ i → Rcon (i + 1) ≡ xtime (Rcon i)
unfolding Rcon
Rcon_more zero h = absurd (omega arith)
Rcon_more (suc i) h = ap Rcon (add-one (suc i))

-- after the powers ys the next one
pub Rcon_next : (ys : List ℕ) (a x b : ℕ) → a ≡ Rcon (length ys + 1) → b ≡ xtime a → b ≡ Rcon (length (ys ++ (x ∷ [])) + 1)
Rcon_next ys a x b e f = f ∙ ap xtime e ∙ sym (Rcon_more (length ys + 1) (omega arith)) ∙ ap (λ (n : ℕ). Rcon (n + 1)) (sym (length-append ys (x ∷ [])))

-- ---- bytes
pub Rcon_byte : (n : ℕ) → Rcon n < 256
unfolding Rcon
Rcon_byte zero = omega arith
Rcon_byte (suc zero) = omega arith
Rcon_byte (suc (suc n)) = xtime_byte (Rcon (suc n))

abbrev BytesAll : List Word → Type 0
BytesAll [] = Unit {0}
BytesAll (w ∷ ws) = Bytes w × BytesAll ws

word_bytes : (ws : List Word) → BytesAll ws → (i : ℕ) → Bytes (get_or ws i [])
word_bytes [] h i = tt
word_bytes (w ∷ ws) h zero = h.0
word_bytes (w ∷ ws) h (suc i) = word_bytes ws h.1 i

push_bytes : (ws : List Word) (w : Word) → BytesAll ws → Bytes w → BytesAll (ws ++ (w ∷ []))
push_bytes [] w h b = (b, tt)
push_bytes (v ∷ ws) w h b = (h.0, push_bytes ws w h.1 b)

sub_bytes_lem : (w : Word) → Bytes w → Bytes (SubWord w)
sub_bytes_lem = map_bytes SBox SBox_byte

rot_bytes : (w : Word) → Bytes w → Bytes (RotWord w)
rot_bytes w h = (bytes_at w h 1, (bytes_at w h 2, (bytes_at w h 3, (bytes_at w h 0, tt))))

temp_bytes : (nk i : ℕ) (w : Word) → Bytes w → Bytes (temp nk i w)
temp_bytes nk i w h = go (eqb (i % nk) 0) (ltb 6 nk && eqb (i % nk) 4)
  where
    go : (p q : Bool) → Bytes (cond p (xor_word (SubWord (RotWord w)) (rcon_word (i / nk))) (cond q (SubWord w) w))
    go true q = add_bytes (SubWord (RotWord w)) (rcon_word (i / nk)) (sub_bytes_lem (RotWord w) (rot_bytes w h)) (Rcon_byte (i / nk), (omega arith, (omega arith, (omega arith, tt))))
    go false true = sub_bytes_lem w h
    go false false = h

module _ (nk : ℕ) (k : ℕ → ℕ) (small : (j : ℕ) → k j < 256) where
  key_bytes_lem : (is : List ℕ) → BytesAll (map (key_word k) is)
  key_bytes_lem [] = tt
  key_bytes_lem (i ∷ is) = ((small (4 * i), (small (4 * i + 1), (small (4 * i + 2), (small (4 * i + 3), tt)))), key_bytes_lem is)

  expansion_bytes : (n : ℕ) → BytesAll (KeyExpansion nk k n)
  unfolding KeyExpansion
  expansion_bytes zero = key_bytes_lem (range_with_len 0 nk)
  expansion_bytes (suc n) =
      let ws = KeyExpansion nk k n in
      let h : BytesAll ws = expansion_bytes n in
      let v = get_or ws (n + nk - 1) [] in
      push_bytes ws (xor_word (get_or ws n []) (temp nk (n + nk) v)) h (add_bytes (get_or ws n []) (temp nk (n + nk) v) (word_bytes ws h n) (temp_bytes nk (n + nk) v (word_bytes ws h (n + nk - 1))))

  pub word_at_bytes : (i : ℕ) → Bytes (word_at nk k i)
  unfolding word_at
  word_at_bytes i = word_bytes (KeyExpansion nk k i) (expansion_bytes i) i

  pub round_key_byte_lem : (n j : ℕ) → round_key_byte nk k n j < 256
  round_key_byte_lem n j = bytes_at (word_at nk k (4 * n + j / 4)) (word_at_bytes (4 * n + j / 4)) (j % 4)
