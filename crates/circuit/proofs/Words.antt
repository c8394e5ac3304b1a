-- Words of four bytes, in coordinates. Assumes nothing.
use Rattle.std.proofs.Common.{◌≡◌, ℕ, zero, suc, ◌/◌, ◌%◌, ◌<◌, Bool, true, false, cond, ◌&&◌, eqb, ltb, List, [], ◌∷◌, map, get_or, sym, refl, ap, ◌∙◌, subst, arith}
use lib.Bits.{bit_xor, xor_lt, xor_zero_r}
use lib.Lanes.{zip2}
use Rattle.standard.specs.Field.{SBox}
use Rattle.standard.specs.KeyExpansion.{Rcon, Word, xor_word, temp}
use Rattle.coordinates.specs.Coordinates.{to_coordinates}
use Rattle.standard.proofs.FieldLaws.{SBox_byte}
use Rattle.standard.proofs.Words.{Rcon_byte}
use Rattle.circuit.proofs.KeyPages.{plus}
use Rattle.circuit.proofs.KeyMath.{add2, add2_to, sub_to, plus_to}
use Rattle.circuit.proofs.KeyStages.{sub_out, temp_out}

pub record Four (w : Word) : Type 0 where
  pub spine : w ≡ get_or w 0 0 ∷ get_or w 1 0 ∷ get_or w 2 0 ∷ get_or w 3 0 ∷ []
  pub small : (x : ℕ) → x < 4 → get_or w x 0 < 256

pub four : (a b c d : ℕ) → a < 256 → b < 256 → c < 256 → d < 256 → Four (a ∷ b ∷ c ∷ d ∷ [])
four a b c d ha hb hc hd = record { spine = refl; small = elim [ zero ↦ (λ h. ha) | suc zero ↦ (λ h. hb) | suc (suc zero) ↦ (λ h. hc) | suc (suc (suc zero)) ↦ (λ h. hd) | suc (suc (suc (suc x))) ↦ (λ h. absurd (omega arith)) ] }

-- what holds of every word of four bytes
pub by_four : (P : Word → Type 0) → ((a b c d : ℕ) → a < 256 → b < 256 → c < 256 → d < 256 → P (a ∷ b ∷ c ∷ d ∷ [])) → (w : Word) → Four w → P w
by_four P f w q = subst P (sym q.spine) (f (get_or w 0 0) (get_or w 1 0) (get_or w 2 0) (get_or w 3 0) (q.small 0 (omega arith)) (q.small 1 (omega arith)) (q.small 2 (omega arith)) (q.small 3 (omega arith)))

abbrev pub coordinates : Word → List ℕ
coordinates w = map to_coordinates w

pub cons4 : {w x y z w' x' y' z' : ℕ} → w ≡ w' → x ≡ x' → y ≡ y' → z ≡ z' → ◌≡◌ {A = List ℕ} (w ∷ x ∷ y ∷ z ∷ []) (w' ∷ x' ∷ y' ∷ z' ∷ [])
cons4 a b c d = λ i. a i ∷ b i ∷ c i ∷ d i ∷ []

pub xor_four : (v : Word) → Four v → (w : Word) → Four w → Four (xor_word v w)
xor_four v hv w hw = by_four (λ x. Four (xor_word x w))
    (λ a b c d ha hb hc hd. by_four (λ y. Four (xor_word (a ∷ b ∷ c ∷ d ∷ []) y))
    (λ a' b' c' d' ha' hb' hc' hd'. four (bit_xor a a') (bit_xor b b') (bit_xor c c') (bit_xor d d') (xor_lt 8 a a' ha ha') (xor_lt 8 b b' hb hb') (xor_lt 8 c c' hc hc') (xor_lt 8 d d' hd hd')) w hw) v hv

pub xor_coordinates : (v : Word) → Four v → (w : Word) → Four w → zip2 add2 (coordinates v) (coordinates w) ≡ coordinates (xor_word v w)
xor_coordinates v hv w hw = by_four (λ x. zip2 add2 (coordinates x) (coordinates w) ≡ coordinates (xor_word x w))
    (λ a b c d ha hb hc hd. by_four (λ y. zip2 add2 (coordinates (a ∷ b ∷ c ∷ d ∷ [])) (coordinates y) ≡ coordinates (xor_word (a ∷ b ∷ c ∷ d ∷ []) y))
    (λ a' b' c' d' ha' hb' hc' hd'. cons4 (add2_to a a') (add2_to b b') (add2_to c c') (add2_to d d')) w hw) v hv

module _ (nk i : ℕ) (w : Word) (hw : Four w) where
  pub temp_four : Four (temp nk i w)
  temp_four = by_four (λ x. Four (temp nk i x))
      (λ a b c d ha hb hc hd. go a b c d ha hb hc hd (eqb (i % nk) 0) (ltb 6 nk && eqb (i % nk) 4)) w hw
    where
      go : (a b c d : ℕ) → a < 256 → b < 256 → c < 256 → d < 256 → (p q : Bool) → Four (cond p (bit_xor (SBox b) (Rcon (i / nk)) ∷ bit_xor (SBox c) 0 ∷ bit_xor (SBox d) 0 ∷ bit_xor (SBox a) 0 ∷ []) (cond q (SBox a ∷ SBox b ∷ SBox c ∷ SBox d ∷ []) (a ∷ b ∷ c ∷ d ∷ [])))
      go a b c d ha hb hc hd true q = four _ _ _ _ (xor_lt 8 (SBox b) (Rcon (i / nk)) (SBox_byte b hb) (Rcon_byte (i / nk)))
          (xor_lt 8 (SBox c) 0 (SBox_byte c hc) (omega arith)) (xor_lt 8 (SBox d) 0 (SBox_byte d hd) (omega arith)) (xor_lt 8 (SBox a) 0 (SBox_byte a ha) (omega arith))
      go a b c d ha hb hc hd false true = four _ _ _ _ (SBox_byte a ha) (SBox_byte b hb) (SBox_byte c hc) (SBox_byte d hd)
      go a b c d ha hb hc hd false false = four a b c d ha hb hc hd

  pub temp_coordinates : temp_out nk i (coordinates w) ≡ coordinates (temp nk i w)
  temp_coordinates = by_four (λ x. temp_out nk i (coordinates x) ≡ coordinates (temp nk i x))
      (λ a b c d ha hb hc hd. go a b c d ha hb hc hd (eqb (i % nk) 0) (ltb 6 nk && eqb (i % nk) 4)) w hw
    where
      plain : (v : ℕ) → v < 256 → sub_out (to_coordinates v) ≡ to_coordinates (bit_xor (SBox v) 0)
      plain v h = sub_to v h ∙ ap to_coordinates (sym (xor_zero_r (SBox v)))

      go : (a b c d : ℕ) → a < 256 → b < 256 → c < 256 → d < 256 → (p q : Bool)
          → cond p (plus (i / nk) (sub_out (to_coordinates b)) ∷ sub_out (to_coordinates c) ∷ sub_out (to_coordinates d) ∷ sub_out (to_coordinates a) ∷ [])
          (cond q (sub_out (to_coordinates a) ∷ sub_out (to_coordinates b) ∷ sub_out (to_coordinates c) ∷ sub_out (to_coordinates d) ∷ []) (to_coordinates a ∷ to_coordinates b ∷ to_coordinates c ∷ to_coordinates d ∷ []))
          ≡ map to_coordinates (cond p (bit_xor (SBox b) (Rcon (i / nk)) ∷ bit_xor (SBox c) 0 ∷ bit_xor (SBox d) 0 ∷ bit_xor (SBox a) 0 ∷ []) (cond q (SBox a ∷ SBox b ∷ SBox c ∷ SBox d ∷ []) (a ∷ b ∷ c ∷ d ∷ [])))
      go a b c d ha hb hc hd true q = cons4 (ap (plus (i / nk)) (sub_to b hb) ∙ plus_to (i / nk) (SBox b)) (plain c hc) (plain d hd) (plain a ha)
      go a b c d ha hb hc hd false true = cons4 (sub_to a ha) (sub_to b hb) (sub_to c hc) (sub_to d hd)
      go a b c d ha hb hc hd false false = refl
