-- A page of XOR and XNOR with q sockets in, by one run over masks: which inputs each number is the exclusive or of,
-- and whether it is complemented. Assumes nothing.
use Rattle.std.proofs.Common.{◌≡◌, ℕ, zero, suc, ◌+◌, ◌*◌, ◌^◌, ◌<◌, Bool, true, false, cond, ◌&&◌, T, eqb, ltb, List, [], ◌∷◌, length, get_or, replicate, sym, refl, ap, ◌∙◌, ap₂, arith}
use mathlib.Core.Option.{Option, some, none}
use native.Mathlib.Nat.{zero-div}
use lib.Bits.{bit_xor, xor_lt}
use Rattle.standard.specs.States.{Bytes as AllBytes}
use Rattle.standard.specs.Bits.{bit, odd}
use Rattle.bench.specs.Kinds.{apart as xor_b, gate_result}
use Rattle.coordinates.specs.Coordinates.{combine}
use Rattle.bench.specs.declared.kinds.Kind.{Kind}
use Rattle.bench.specs.declared.kinds.Kind.TheVariants.{Xor, And, Or, Xnor, Nand, Nor}
use Rattle.circuit.proofs.BitLaws.{bit_xor_lem, xor_b_assoc, xor_b_left_comm, xor_b_false}
use Rattle.circuit.proofs.Run.{and_l, and_r}
use Rattle.standard.proofs.Tests.{tests, equal_below, small_below}

-- ---- masks
abbrev pub Mask : Type 0
Mask = List Bool

unfoldable pub zip_x : Mask → Mask → Mask
zip_x [] ys = ys
zip_x (x ∷ xs) [] = x ∷ xs
zip_x (x ∷ xs) (y ∷ ys) = xor_b x y ∷ zip_x xs ys

unfoldable pub dot : Mask → List Bool → Bool
dot [] xs = false
dot (m ∷ ms) [] = false
dot (m ∷ ms) (x ∷ xs) = xor_b (m && x) (dot ms xs)

and_xor : (x y z : Bool) → (xor_b x y && z) ≡ xor_b (x && z) (y && z)
and_xor true true true = refl
and_xor true true false = refl
and_xor true false z = sym (xor_b_false z)
and_xor false y z = refl

four : (a b c d : Bool) → xor_b (xor_b a b) (xor_b c d) ≡ xor_b (xor_b a c) (xor_b b d)
four a b c d = xor_b_assoc a b (xor_b c d) ∙ ap (xor_b a) (xor_b_left_comm b c d) ∙ sym (xor_b_assoc a c (xor_b b d))

dot_zip_x : (a b : Mask) (xs : List Bool) → dot (zip_x a b) xs ≡ xor_b (dot a xs) (dot b xs)
unfolding dot zip_x
dot_zip_x [] b xs = refl
dot_zip_x (x ∷ a) [] xs = sym (xor_b_false (dot (x ∷ a) xs))
dot_zip_x (x ∷ a) (y ∷ b) [] = refl
dot_zip_x (x ∷ a) (y ∷ b) (z ∷ xs) = ap₂ xor_b (and_xor x y z) (dot_zip_x a b xs) ∙ four (x && z) (y && z) (dot a xs) (dot b xs)

-- input n alone, of len
unfoldable pub unit : ℕ → ℕ → Mask
unit n zero = []
unit zero (suc len) = true ∷ replicate len false
unit (suc n) (suc len) = false ∷ unit n len

dot_none : (len : ℕ) (xs : List Bool) → dot (replicate len false) xs ≡ false
unfolding dot
dot_none zero xs = refl
dot_none (suc len) [] = refl
dot_none (suc len) (x ∷ xs) = dot_none len xs

pub dot_unit : (n len : ℕ) (xs : List Bool) → n < len → dot (unit n len) xs ≡ get_or xs n false
unfolding dot unit
dot_unit n zero xs h = absurd (omega arith)
dot_unit zero (suc len) [] h = refl
dot_unit zero (suc len) (x ∷ xs) h = ap (xor_b x) (dot_none len xs) ∙ xor_b_false x
dot_unit (suc n) (suc len) [] h = refl
dot_unit (suc n) (suc len) (x ∷ xs) h = dot_unit n len xs (omega arith)

-- ---- gates on masks; `one` is the mask of the constant
unfoldable pub mask_op : Mask → Kind → Mask → Mask → Option Mask
unfolding zip_x
mask_op one Xor x y = some (zip_x x y)
mask_op one And x y = none
mask_op one Or x y = none
mask_op one Xnor x y = some (zip_x one (zip_x x y))
mask_op one Nand x y = none
mask_op one Nor x y = none

unfoldable pub masked : Mask → Kind → Option Mask → Option Mask → Option Mask
unfolding mask_op
masked one k none y = none
masked one k (some x) none = none
masked one k (some x) (some y) = mask_op one k x y

abbrev pub SumOf : List Bool → Option Mask → Bool → Type 0
SumOf xs none b = Unit {0}
SumOf xs (some m) b = dot m xs ≡ b

pub keeps : (one : Mask) (xs : List Bool) → dot one xs ≡ true → (k : Kind) (x y : Option Mask) (u w : Bool) → SumOf xs x u → SumOf xs y w → SumOf xs (masked one k x y) (gate_result k u w)
unfolding masked mask_op
keeps one xs h k none y u w p q = tt
keeps one xs h k (some x) none u w p q = tt
keeps one xs h Xor (some x) (some y) u w p q = dot_zip_x x y xs ∙ ap₂ xor_b p q
keeps one xs h And (some x) (some y) u w p q = tt
keeps one xs h Or (some x) (some y) u w p q = tt
keeps one xs h Xnor (some x) (some y) u w p q = dot_zip_x one (zip_x x y) xs ∙ ap₂ xor_b h (dot_zip_x x y xs ∙ ap₂ xor_b p q)
keeps one xs h Nand (some x) (some y) u w p q = tt
keeps one xs h Nor (some x) (some y) u w p q = tt

-- ---- the inputs as bits, and a last one that is set
unfoldable pub bits_from : ℕ → ℕ → ℕ → List Bool → List Bool
bits_from v i zero rest = rest
bits_from v i (suc n) rest = bit v i ∷ bits_from v (suc i) n rest

unfoldable pub inputs : List ℕ → List Bool
unfolding bits_from
inputs [] = true ∷ []
inputs (v ∷ vs) = bits_from v 0 8 (inputs vs)

bits_at : (v i n : ℕ) (rest : List Bool) (j : ℕ) → j < n → get_or (bits_from v i n rest) j false ≡ bit v (i + j)
unfolding bits_from
bits_at v i zero rest j h = absurd (omega arith)
bits_at v i (suc n) rest zero h = ap (bit v) (omega arith)
bits_at v i (suc n) rest (suc j) h = bits_at v (suc i) n rest j (omega arith) ∙ ap (bit v) (omega arith)

bits_past : (v i n : ℕ) (rest : List Bool) (j : ℕ) → get_or (bits_from v i n rest) (n + j) false ≡ get_or rest j false
unfolding bits_from
bits_past v i zero rest j = ap (λ (k : ℕ). get_or rest k false) (omega arith)
bits_past v i (suc n) rest j = ap (λ (k : ℕ). get_or (bits_from v i (suc n) rest) k false) (more n j) ∙ bits_past v (suc i) n rest j
  where
    more : (n j : ℕ) → suc n + j ≡ suc (n + j)
    more n j = omega arith

pub input_at : (vs : List ℕ) (l i : ℕ) → l < length vs → i < 8 → get_or (inputs vs) (8 * l + i) false ≡ bit (get_or vs l 0) i
unfolding inputs
input_at [] l i hl hi = absurd (omega arith)
input_at (v ∷ vs) zero i hl hi = ap (λ (k : ℕ). get_or (bits_from v 0 8 (inputs vs)) k false) (zeros i) ∙ bits_at v 0 8 (inputs vs) i hi ∙ ap (bit v) (omega arith)
  where
    zeros : (i : ℕ) → 8 * zero + i ≡ i
    zeros i = omega arith
input_at (v ∷ vs) (suc l) i hl hi = ap (λ (k : ℕ). get_or (bits_from v 0 8 (inputs vs)) k false) (more l i) ∙ bits_past v 0 8 (inputs vs) (8 * l + i) ∙ input_at vs l i (omega arith) hi
  where
    more : (l i : ℕ) → 8 * suc l + i ≡ 8 + (8 * l + i)
    more l i = omega arith

pub input_last : (vs : List ℕ) → get_or (inputs vs) (8 * length vs) false ≡ true
unfolding inputs
input_last [] = refl
input_last (v ∷ vs) = ap (λ (k : ℕ). get_or (bits_from v 0 8 (inputs vs)) k false) (more (length vs)) ∙ bits_past v 0 8 (inputs vs) (8 * length vs) ∙ input_last vs
  where
    more : (l : ℕ) → 8 * suc l ≡ 8 + 8 * l
    more l = omega arith

-- ---- byte functions that are affine, and their sums
abbrev pub column : (ℕ → ℕ) → ℕ → ℕ
column F x = bit_xor (F x) (F 0)

abbrev pub columns : (ℕ → ℕ) → List ℕ
columns F = column F 1 ∷ column F 2 ∷ column F 4 ∷ column F 8 ∷ column F 16 ∷ column F 32 ∷ column F 64 ∷ column F 128 ∷ []

pub record Affine (F : ℕ → ℕ) : Type 0 where
  pub byte : (v : ℕ) → v < 256 → F v < 256
  pub sums : (v : ℕ) → v < 256 → F v ≡ bit_xor (combine (columns F) 0 v) (F 0)

unfoldable pub affine_by : (ℕ → ℕ) → List ℕ → ℕ → Bool
unfolding tests combine
affine_by F cs c = tests (λ v. eqb (F v) (bit_xor (combine cs 0 v) c)) 256 && tests (λ v. ltb (F v) 256) 256

pub affine_by_lem : (F : ℕ → ℕ) → T (affine_by F (columns F) (F 0)) → Affine F
unfolding affine_by
affine_by_lem F t = record {
  byte = small_below F 256 256 (and_r (tests (λ v. eqb (F v) (bit_xor (combine (columns F) 0 v) (F 0))) 256) (tests (λ v. ltb (F v) 256) 256) t);
  sums = equal_below F (λ v. bit_xor (combine (columns F) 0 v) (F 0)) 256 (and_l (tests (λ v. eqb (F v) (bit_xor (combine (columns F) 0 v) (F 0))) 256) (tests (λ v. ltb (F v) 256) 256) t);
}

abbrev pub sum_of : List (ℕ → ℕ) → List ℕ → ℕ
sum_of [] vs = 0
sum_of (F ∷ Fs) [] = 0
sum_of (F ∷ Fs) (v ∷ vs) = bit_xor (F v) (sum_of Fs vs)

abbrev pub AffineAll : List (ℕ → ℕ) → Type 0
AffineAll [] = Unit {0}
AffineAll (F ∷ Fs) = Affine F × AffineAll Fs

abbrev pub BytesAll : List ℕ → Type 0
BytesAll vs = AllBytes vs

pub sum_byte : (Fs : List (ℕ → ℕ)) (vs : List ℕ) → AffineAll Fs → BytesAll vs → sum_of Fs vs < 256
sum_byte [] vs a b = omega arith
sum_byte (F ∷ Fs) [] a b = omega arith
sum_byte (F ∷ Fs) (v ∷ vs) a b = xor_lt 8 (F v) (sum_of Fs vs) (a.0.byte v b.0) (sum_byte Fs vs a.1 b.1)

bit_zero : (b : ℕ) → bit 0 b ≡ false
unfolding bit
bit_zero b = ap odd (zero-div (2 ^ b))

and_true : (x : Bool) → (x && true) ≡ x
and_true true = refl
and_true false = refl

and_false : (x : Bool) → (x && false) ≡ false
and_false true = refl
and_false false = refl

bit_cond : (q : Bool) (c b : ℕ) → (bit c b && q) ≡ bit (cond q c 0) b
bit_cond true c b = and_true (bit c b)
bit_cond false c b = and_false (bit c b) ∙ sym (bit_zero b)

unfoldable pub bits_of : ℕ → List ℕ → Mask → Mask
unfolding bit
bits_of b [] ms = ms
bits_of b (c ∷ cs) ms = bit c b ∷ bits_of b cs ms

dot_combine : (cs : List ℕ) (i v b : ℕ) (ms : Mask) (rest : List Bool) → dot (bits_of b cs ms) (bits_from v i (length cs) rest) ≡ xor_b (bit (combine cs i v) b) (dot ms rest)
unfolding dot bits_of bits_from combine
dot_combine [] i v b ms rest = ap (λ (x : Bool). xor_b x (dot ms rest)) (sym (bit_zero b))
dot_combine (c ∷ cs) i v b ms rest =
    ap₂ xor_b (bit_cond (bit v i) c b) (dot_combine cs (suc i) v b ms rest)
    ∙ sym (xor_b_assoc (bit (cond (bit v i) c 0) b) (bit (combine cs (suc i) v) b) (dot ms rest))
    ∙ ap (λ (x : Bool). xor_b x (dot ms rest)) (sym (bit_xor_lem (cond (bit v i) c 0) (combine cs (suc i) v) b))

-- the mask of bit b of the sum, complemented by c
unfoldable pub mask_of : List (ℕ → ℕ) → Bool → ℕ → Mask
unfolding bits_of bit
mask_of [] c b = c ∷ []
mask_of (F ∷ Fs) c b = bits_of b (columns F) (mask_of Fs (xor_b c (bit (F 0) b)) b)

regroup : (s c t r : Bool) → xor_b s (xor_b (xor_b c t) r) ≡ xor_b c (xor_b (xor_b s t) r)
regroup s c t r =
    ap (xor_b s) (xor_b_assoc c t r) ∙ xor_b_left_comm s c (xor_b t r) ∙ ap (xor_b c) (sym (xor_b_assoc s t r))

pub mask_right : (Fs : List (ℕ → ℕ)) (vs : List ℕ) → AffineAll Fs → BytesAll vs → length Fs ≡ length vs → (c : Bool) (b : ℕ) → dot (mask_of Fs c b) (inputs vs) ≡ xor_b c (bit (sum_of Fs vs) b)
unfolding mask_of inputs dot
mask_right [] [] a h e c b = ap (λ (x : Bool). xor_b x false) (and_true c) ∙ ap (xor_b c) (sym (bit_zero b))
mask_right [] (v ∷ vs) a h e c b = absurd (omega arith)
mask_right (F ∷ Fs) [] a h e c b = absurd (omega arith)
mask_right (F ∷ Fs) (v ∷ vs) a h e c b =
    dot_combine (columns F) 0 v b (mask_of Fs (xor_b c (bit (F 0) b)) b) (inputs vs)
    ∙ ap (xor_b (bit (combine (columns F) 0 v) b)) (mask_right Fs vs a.1 h.1 (omega arith) (xor_b c (bit (F 0) b)) b)
    ∙ regroup (bit (combine (columns F) 0 v) b) c (bit (F 0) b) (bit (sum_of Fs vs) b)
    ∙ ap (λ (x : Bool). xor_b c (xor_b x (bit (sum_of Fs vs) b))) (sym (bit_xor_lem (combine (columns F) 0 v) (F 0) b) ∙ ap (λ (x : ℕ). bit x b) (sym (a.0.sums v h.0)))
    ∙ ap (xor_b c) (sym (bit_xor_lem (F v) (sum_of Fs vs) b))
