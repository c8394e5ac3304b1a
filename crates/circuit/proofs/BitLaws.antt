-- Laws of bits: the operations on numbers work bit by bit, and a table has the bits of its function. Assumes nothing.
use Rattle.std.proofs.Common.{◌≡◌, ℕ, zero, suc, ◌/◌, ◌%◌, ◌^◌, ◌<◌, Bool, true, false, cond, ◌&&◌, ◌||◌, eqb, ◌⊎◌, map, get_or, sym, refl, ap, ◌∙◌, inl, inr, arith}
use lib.Bits.{bit_and, bit_or, bit_xor, and_shr, or_shr, xor_shr, and_mod, or_mod, xor_mod}
use lib.Lanes.{mask_l}
use Rattle.std.specs.List.{range_with_len}
use Rattle.std.proofs.lemmas.Simd.{bit_mask_l}
use Rattle.std.proofs.lemmas.List.FromFn.{get_or-map-range_with_len}
use Rattle.bench.specs.Kinds.{apart as xor_b}
use Rattle.standard.specs.Bits.{odd, bit}

-- the table of bit i of a byte function, as one number: bit v of it is bit i of f v, for v below n
unfoldable pub table : (ℕ → ℕ) → ℕ → ℕ → ℕ
unfolding bit
table f n i = mask_l (map (λ v. bit (f v) i) (range_with_len 0 n))

-- ---- exclusive or of bits
pub xor_b_comm : (x y : Bool) → xor_b x y ≡ xor_b y x
xor_b_comm true true = refl
xor_b_comm true false = refl
xor_b_comm false true = refl
xor_b_comm false false = refl

pub xor_b_assoc : (x y z : Bool) → xor_b (xor_b x y) z ≡ xor_b x (xor_b y z)
xor_b_assoc true true true = refl
xor_b_assoc true true false = refl
xor_b_assoc true false z = refl
xor_b_assoc false y z = refl

pub xor_b_left_comm : (x y z : Bool) → xor_b x (xor_b y z) ≡ xor_b y (xor_b x z)
xor_b_left_comm x y z = sym (xor_b_assoc x y z) ∙ ap (λ (w : Bool). xor_b w z) (xor_b_comm x y) ∙ xor_b_assoc y x z

pub xor_b_false : (x : Bool) → xor_b x false ≡ x
xor_b_false true = refl
xor_b_false false = refl

pub xor_b_self : (x : Bool) → xor_b x x ≡ false
xor_b_self true = refl
xor_b_self false = refl

-- ---- digits
digit : (x : ℕ) → x < 2 → (x ≡ 0) ⊎ (x ≡ 1)
digit zero h = inl refl
digit (suc zero) h = inr refl
digit (suc (suc x)) h = absurd (omega arith)

module _ (op : ℕ → ℕ → ℕ) (f : Bool → Bool → Bool)
    (shr : (a b k : ℕ) → op a b / 2 ^ k ≡ op (a / 2 ^ k) (b / 2 ^ k))
    (low : (a b k : ℕ) → op a b % 2 ^ k ≡ op (a % 2 ^ k) (b % 2 ^ k))
    (at00 : eqb (op 0 0) 1 ≡ f false false) (at01 : eqb (op 0 1) 1 ≡ f false true)
    (at10 : eqb (op 1 0) 1 ≡ f true false) (at11 : eqb (op 1 1) 1 ≡ f true true) where
  at_digits : (x y : ℕ) → x < 2 → y < 2 → eqb (op x y) 1 ≡ f (eqb x 1) (eqb y 1)
  at_digits zero zero h k = at00
  at_digits zero (suc zero) h k = at01
  at_digits zero (suc (suc y)) h k = absurd (omega arith)
  at_digits (suc zero) zero h k = at10
  at_digits (suc zero) (suc zero) h k = at11
  at_digits (suc zero) (suc (suc y)) h k = absurd (omega arith)
  at_digits (suc (suc x)) y h k = absurd (omega arith)

  odd_op : (a b : ℕ) → odd (op a b) ≡ f (odd a) (odd b)
  odd_op a b = ap (λ (x : ℕ). eqb x 1) (low a b 1) ∙ at_digits (a % 2) (b % 2) (omega arith) (omega arith)

  bit_op : (a b i : ℕ) → bit (op a b) i ≡ f (bit a i) (bit b i)
  unfolding bit
  bit_op a b i = ap odd (shr a b i) ∙ odd_op (a / 2 ^ i) (b / 2 ^ i)

pub odd_xor : (a b : ℕ) → odd (bit_xor a b) ≡ xor_b (odd a) (odd b)
odd_xor = odd_op bit_xor xor_b xor_shr xor_mod refl refl refl refl

pub bit_xor_lem : (a b i : ℕ) → bit (bit_xor a b) i ≡ xor_b (bit a i) (bit b i)
bit_xor_lem = bit_op bit_xor xor_b xor_shr xor_mod refl refl refl refl

pub bit_and_lem : (a b i : ℕ) → bit (bit_and a b) i ≡ (bit a i && bit b i)
bit_and_lem = bit_op bit_and ◌&&◌ and_shr and_mod refl refl refl refl

pub bit_or_lem : (a b i : ℕ) → bit (bit_or a b) i ≡ (bit a i || bit b i)
bit_or_lem = bit_op bit_or ◌||◌ or_shr or_mod refl refl refl refl

is_one : (b : Bool) → eqb (cond b 1 0) 1 ≡ b
is_one true = refl
is_one false = refl

pub bit_table : (f : ℕ → ℕ) (n i v : ℕ) → v < n → bit (table f n i) v ≡ bit (f v) i
unfolding bit table
bit_table f n i v h =
    let ms = map (λ v. bit (f v) i) (range_with_len 0 n) in
    ap (λ (x : ℕ). eqb x 1) (bit_mask_l ms v) ∙ is_one (get_or ms v false)
    ∙ get_or-map-range_with_len (λ v. bit (f v) i) 0 n v v false h (omega arith)
