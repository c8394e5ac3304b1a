-- Lines of hexadecimal digits, written into a buffer. Assumes nothing.
use Rattle.std.proofs.Common.{◌≡◌, ℕ, zero, suc, ◌+◌, ◌*◌, ◌<◌, List, [], ◌∷◌, ◌++◌, length, drop, sym, refl, ap, ◌∙◌, ap₂, append_assoc, add-one, arith}
use borrow.Rule.Slice.PartMut.{put_mid}
use Rattle.std.proofs.lemmas.List.{length-append, take_at, drop_at, drop-drop}
use Rattle.text.specs.Text.{hex_pairs}
use Rattle.sealing.specs.Sealed.{hex_line, lines_to}

-- ---- one line

length_pairs : (xs : List ℕ) → length (hex_pairs xs) ≡ 2 * length xs
length_pairs [] = refl
length_pairs (x ∷ xs) = let h = length_pairs xs in omega arith

pub length_line : (xs : List ℕ) → length xs ≡ 16 → length (hex_line xs) ≡ 33
length_line xs e = length-append (hex_pairs xs) (10 ∷ []) ∙ (let h = length_pairs xs in omega arith)

-- ---- lines

pub length_lines : (f : ℕ → List ℕ) (n : ℕ) → ((i : ℕ) → i < n → length (f i) ≡ 16) → length (lines_to f n) ≡ 33 * n
length_lines f zero h = refl
length_lines f (suc n) h =
    length-append (lines_to f n) (hex_line (f n)) ∙ (let a = length_lines f n (λ i lt. h i (omega arith)) in let b = length_line (f n) (h n (omega arith)) in omega arith)

pub same_lines : (f g : ℕ → List ℕ) (n : ℕ) → ((i : ℕ) → i < n → f i ≡ g i) → lines_to f n ≡ lines_to g n
same_lines f g zero h = refl
same_lines f g (suc n) h = ap₂ (λ l x. l ++ hex_line x) (same_lines f g n (λ i lt. h i (omega arith))) (h n (omega arith))

-- one line more, in the part of the buffer after the lines so far
pub lines_more : (f : ℕ → List ℕ) (o l : List ℕ) (i k : ℕ) → length (lines_to f i) ≡ 33 * i → k ≡ 33 → l ≡ hex_line (f i) → put_mid (33 * i) k (lines_to f i ++ drop (33 * i) o) l ≡ lines_to f (i + 1) ++ drop (33 * (i + 1)) o
lines_more f o l i k len ek el =
    let p : List ℕ = lines_to f i in
    let rest : List ℕ = drop (33 * i) o in
    let end : drop k rest ≡ drop (33 * (i + 1)) o = drop-drop k (33 * i) o ∙ ap (λ n. drop n o) (let q : 33 * i + k ≡ 33 * (i + 1) = omega arith in q) in
    ap₂ (λ x y. x ++ (l ++ drop k y)) (take_at p rest (33 * i) len) (drop_at p rest (33 * i) len)
    ∙ ap₂ (λ x y. p ++ (x ++ y)) el end
    ∙ sym (append_assoc p (hex_line (f i)) (drop (33 * (i + 1)) o))
    ∙ ap (λ n. lines_to f n ++ drop (33 * (i + 1)) o) (sym (add-one i))
