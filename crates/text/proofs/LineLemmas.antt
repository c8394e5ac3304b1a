-- A text's lines, one line taken off. Assumes nothing.
use Rattle.std.proofs.Common.{◌≡◌, ℕ, suc, ◌+◌, ◌<◌, false, eqb, List, [], ◌∷◌, length, take, drop, sym, refl, ap, ◌∙◌, ap₂, inl, inr, arith}
use Rattle.std.proofs.lemmas.Bool.{cases_Bool}
use Rattle.text.specs.Text.{before, line_of, after_line, on_first, lines_in}

-- the first line of text whose first byte does not end it
module _ (b : ℕ) (bs : List ℕ) (e : eqb b 10 ≡ false) where
  long : before 10 (b ∷ bs) ≡ 1 + before 10 bs
  long = rw e

  line_longer : line_of (b ∷ bs) ≡ b ∷ line_of bs
  line_longer = ap (λ k. take k (b ∷ bs)) (let s : before 10 (b ∷ bs) ≡ suc (before 10 bs) = omega (arith, long) in s)

  rest_same : after_line (b ∷ bs) ≡ after_line bs
  rest_same = ap (λ k. drop k (b ∷ bs)) (let s : before 10 (b ∷ bs) + 1 ≡ suc (before 10 bs + 1) = omega (arith, long) in s)

line_more : (b : ℕ) (bs : List ℕ) → on_first b (lines_in bs) ≡ (b ∷ line_of bs) ∷ lines_in (after_line bs) → lines_in (b ∷ bs) ≡ line_of (b ∷ bs) ∷ lines_in (after_line (b ∷ bs))
line_more b bs h =
    elim (cases_Bool (eqb b 10)) [
      | inl e ↦ rw e
      | inr e ↦ let f : lines_in (b ∷ bs) ≡ on_first b (lines_in bs) = rw e in
          f ∙ h ∙ sym (ap₂ (λ l r. l ∷ lines_in r) (line_longer b bs e) (rest_same b bs e))
    ]

pub line_off : (text : List ℕ) → 0 < length text → lines_in text ≡ line_of text ∷ lines_in (after_line text)
line_off [] h = absurd (omega arith)
line_off (b ∷ []) h = line_more b [] refl
line_off (b ∷ c ∷ bs) h = line_more b (c ∷ bs) (ap (on_first b) (line_off (c ∷ bs) (omega arith)))

-- the same with the line and the rest that were split off
pub line_split : (text line rest : List ℕ) → 0 < length text → line ≡ line_of text → rest ≡ after_line text → lines_in text ≡ line ∷ lines_in rest
line_split text line rest some is after = line_off text some ∙ sym (ap₂ (λ (l r : List ℕ). l ∷ lines_in r) is after)
