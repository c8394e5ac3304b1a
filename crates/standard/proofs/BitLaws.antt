-- The operations on numbers work bit by bit, and the laws of XOR. Assumes nothing.
use Rattle.std.proofs.Common.{◌≡◌, ℕ, zero, suc, ◌/◌, ◌%◌, ◌^◌, ◌<◌, Bool, true, false, cond, ◌&&◌, ◌||◌, eqb, sym, refl, ap, ◌∙◌, arith}
use lib.Bits.{bit_and, bit_or, bit_xor, and_shr, or_shr, xor_shr, and_mod, or_mod, xor_mod, xor_assoc, xor_comm, xor_self, xor_zero_r}
use Rattle.standard.specs.Bits.{xor_b, odd, bit}

-- ---- bits
pub xor_b_comm : (x y : Bool) → xor_b x y ≡ xor_b y x
xor_b_comm true true = refl
xor_b_comm true false = refl
xor_b_comm false true = refl
xor_b_comm false false = refl

pub xor_b_assoc : (x y z : Bool) → xor_b (xor_b x y) z ≡ xor_b x (xor_b y z)
xor_b_assoc true true true = refl
xor_b_assoc true true false = refl
xor_b_assoc true false z = refl
xor_b_assoc false y z = refl

pub xor_b_left_comm : (x y z : Bool) → xor_b x (xor_b y z) ≡ xor_b y (xor_b x z)
xor_b_left_comm x y z = sym (xor_b_assoc x y z) ∙ ap (λ (w : Bool). xor_b w z) (xor_b_comm x y) ∙ xor_b_assoc y x z

pub xor_b_false : (x : Bool) → xor_b x false ≡ x
xor_b_false true = refl
xor_b_false false = refl

pub xor_b_self : (x : Bool) → xor_b x x ≡ false
xor_b_self true = refl
xor_b_self false = refl

-- ---- an operation on numbers that works digit by digit
module _ (op : ℕ → ℕ → ℕ) (f : Bool → Bool → Bool)
    (shr : (a b k : ℕ) → op a b / 2 ^ k ≡ op (a / 2 ^ k) (b / 2 ^ k))
    (low : (a b k : ℕ) → op a b % 2 ^ k ≡ op (a % 2 ^ k) (b % 2 ^ k))
    (at00 : eqb (op 0 0) 1 ≡ f false false) (at01 : eqb (op 0 1) 1 ≡ f false true)
    (at10 : eqb (op 1 0) 1 ≡ f true false) (at11 : eqb (op 1 1) 1 ≡ f true true) where
  at_digits : (x y : ℕ) → x < 2 → y < 2 → eqb (op x y) 1 ≡ f (eqb x 1) (eqb y 1)
  at_digits zero zero h k = at00
  at_digits zero (suc zero) h k = at01
  at_digits zero (suc (suc y)) h k = absurd (omega arith)
  at_digits (suc zero) zero h k = at10
  at_digits (suc zero) (suc zero) h k = at11
  at_digits (suc zero) (suc (suc y)) h k = absurd (omega arith)
  at_digits (suc (suc x)) y h k = absurd (omega arith)

  odd_op : (a b : ℕ) → odd (op a b) ≡ f (odd a) (odd b)
  odd_op a b = ap (λ (x : ℕ). eqb x 1) (low a b 1) ∙ at_digits (a % 2) (b % 2) (omega arith) (omega arith)

  bit_op : (a b i : ℕ) → bit (op a b) i ≡ f (bit a i) (bit b i)
  unfolding bit
  bit_op a b i = ap odd (shr a b i) ∙ odd_op (a / 2 ^ i) (b / 2 ^ i)

pub odd_xor : (a b : ℕ) → odd (bit_xor a b) ≡ xor_b (odd a) (odd b)
odd_xor = odd_op bit_xor xor_b xor_shr xor_mod refl refl refl refl

pub bit_xor_lem : (a b i : ℕ) → bit (bit_xor a b) i ≡ xor_b (bit a i) (bit b i)
bit_xor_lem = bit_op bit_xor xor_b xor_shr xor_mod refl refl refl refl

pub bit_and_lem : (a b i : ℕ) → bit (bit_and a b) i ≡ (bit a i && bit b i)
bit_and_lem = bit_op bit_and ◌&&◌ and_shr and_mod refl refl refl refl

pub bit_or_lem : (a b i : ℕ) → bit (bit_or a b) i ≡ (bit a i || bit b i)
bit_or_lem = bit_op bit_or ◌||◌ or_shr or_mod refl refl refl refl

-- ---- XOR of numbers
pub xor_swap : (a b c d : ℕ) → bit_xor (bit_xor a b) (bit_xor c d) ≡ bit_xor (bit_xor a c) (bit_xor b d)
xor_swap a b c d =
    xor_assoc a b (bit_xor c d) ∙ ap (bit_xor a) (sym (xor_assoc b c d) ∙ ap (λ (x : ℕ). bit_xor x d) (xor_comm b c) ∙ xor_assoc c b d) ∙ sym (xor_assoc a c (bit_xor b d))

pub xor_undo : (a b : ℕ) → bit_xor (bit_xor a b) b ≡ a
xor_undo a b = xor_assoc a b b ∙ ap (bit_xor a) (xor_self b) ∙ xor_zero_r a

-- a number chosen by a bit, and by the XOR of two
pub chosen_xor : (p q : Bool) (c : ℕ) → cond (xor_b p q) c 0 ≡ bit_xor (cond p c 0) (cond q c 0)
chosen_xor true true c = sym (xor_self c)
chosen_xor true false c = sym (xor_zero_r c)
chosen_xor false true c = refl
chosen_xor false false c = refl
