-- Single bits of words: what the operations on words do to each. Assumes nothing.
use Rattle.std.proofs.Common.{◌≡◌, ℕ, zero, suc, ◌-◌, ◌/◌, ◌%◌, ◌^◌, ◌<◌, ◌≤◌, Bool, true, false, cond, not, ◌&&◌, ◌||◌, eqb, sym, refl, ap, ap₂, ◌∙◌, pow-suc, one-add, arith}
use lib.Dec.{eqb-zero-suc, eqb-suc-zero, eqb-suc-suc}
use lib.Bits.{bit_and, bit_or, bit_xor, xor_shr, and_shr, or_shr, xor_mod, and_mod, or_mod, xor_lt, and_lt, or_lt}
use Rattle.std.proofs.lemmas.Nat.{shr-shr, pow_below, and_le_l}
use Rattle.std.specs.Int.{from_bool}
use Rattle.std.proofs.Math.Nat.{div-eq_of_lt}
use Rattle.std.proofs.Math.Pow.{pow_mono}
use Rattle.bench.specs.Kinds.{apart, gate_result}
use Rattle.bench.specs.Word.{test_bit, turned, combined, put_bit}
use Rattle.bench.specs.declared.kinds.Kind.{Kind}
use Rattle.bench.specs.declared.kinds.Kind.TheVariants.{Xor, And, Or, Xnor, Nand, Nor}

bit_xor_lem : (x y : ℕ) → x < 2 → y < 2 → eqb (bit_xor x y) 1 ≡ apart (eqb x 1) (eqb y 1)
bit_xor_lem zero y p q = refl
bit_xor_lem (suc zero) zero p q = refl
bit_xor_lem (suc zero) (suc zero) p q = refl
bit_xor_lem (suc zero) (suc (suc y)) p q = absurd (omega arith)
bit_xor_lem (suc (suc x)) y p q = absurd (omega arith)

bit_and_lem : (x y : ℕ) → x < 2 → y < 2 → eqb (bit_and x y) 1 ≡ (eqb x 1 && eqb y 1)
bit_and_lem zero y p q = refl
bit_and_lem (suc zero) zero p q = refl
bit_and_lem (suc zero) (suc zero) p q = refl
bit_and_lem (suc zero) (suc (suc y)) p q = absurd (omega arith)
bit_and_lem (suc (suc x)) y p q = absurd (omega arith)

bit_or_lem : (x y : ℕ) → x < 2 → y < 2 → eqb (bit_or x y) 1 ≡ (eqb x 1 || eqb y 1)
bit_or_lem zero y p q = refl
bit_or_lem (suc zero) zero p q = refl
bit_or_lem (suc zero) (suc zero) p q = refl
bit_or_lem (suc zero) (suc (suc y)) p q = absurd (omega arith)
bit_or_lem (suc (suc x)) y p q = absurd (omega arith)

module _ (a b l : ℕ) where
  pub test_xor : test_bit (bit_xor a b) l ≡ apart (test_bit a l) (test_bit b l)
  unfolding test_bit
  test_xor = ap (λ x. eqb x 1) (ap (λ x. x % 2) (xor_shr a b l) ∙ xor_mod (a / 2 ^ l) (b / 2 ^ l) 1)
      ∙ bit_xor_lem (a / 2 ^ l % 2) (b / 2 ^ l % 2) (omega arith) (omega arith)

  pub test_and : test_bit (bit_and a b) l ≡ (test_bit a l && test_bit b l)
  unfolding test_bit
  test_and = ap (λ x. eqb x 1) (ap (λ x. x % 2) (and_shr a b l) ∙ and_mod (a / 2 ^ l) (b / 2 ^ l) 1)
      ∙ bit_and_lem (a / 2 ^ l % 2) (b / 2 ^ l % 2) (omega arith) (omega arith)

  pub test_or : test_bit (bit_or a b) l ≡ (test_bit a l || test_bit b l)
  unfolding test_bit
  test_or = ap (λ x. eqb x 1) (ap (λ x. x % 2) (or_shr a b l) ∙ or_mod (a / 2 ^ l) (b / 2 ^ l) 1)
      ∙ bit_or_lem (a / 2 ^ l % 2) (b / 2 ^ l % 2) (omega arith) (omega arith)

-- one bit down
half : (x l : ℕ) → x / 2 ^ suc l ≡ x / 2 / 2 ^ l
half x l = ap (λ k. x / 2 ^ k) (sym (one-add l)) ∙ sym (shr-shr x 1 l)

pub turned_digit : (k l x : ℕ) → l < k → x < 2 ^ k → ((2 ^ k - 1) - x) / 2 ^ l % 2 ≡ 1 - x / 2 ^ l % 2
turned_digit zero l x p q = absurd (omega arith)
turned_digit (suc k) zero x p q = omega (arith, pow-suc 2 k)
turned_digit (suc k) (suc l) x p q =
    let e : ((2 ^ suc k - 1) - x) / 2 ≡ (2 ^ k - 1) - x / 2 = omega (arith, pow-suc 2 k) in
    let h : x / 2 < 2 ^ k = omega (arith, pow-suc 2 k) in
    ap (λ n. n % 2) (half ((2 ^ suc k - 1) - x) l ∙ ap (λ n. n / 2 ^ l) e)
    ∙ turned_digit k l (x / 2) (omega arith) h
    ∙ ap (λ n. 1 - n % 2) (sym (half x l))

pub digit_not : (x : ℕ) → x < 2 → eqb (1 - x) 1 ≡ not (eqb x 1)
digit_not zero p = refl
digit_not (suc zero) p = refl
digit_not (suc (suc x)) p = absurd (omega arith)

pub test_turned : (x l : ℕ) → l < 64 → x < 2 ^ 64 → test_bit (turned x) l ≡ not (test_bit x l)
unfolding test_bit
test_turned x l p q = ap (λ n. eqb n 1) (turned_digit 64 l x p q) ∙ digit_not (x / 2 ^ l % 2) (omega arith)

zero_digits : (l : ℕ) → 0 / 2 ^ l ≡ 0
zero_digits zero = refl
zero_digits (suc l) = half 0 l ∙ zero_digits l

pub test_power : (l j : ℕ) → test_bit (2 ^ l) j ≡ eqb j l
unfolding test_bit
test_power zero zero = refl
test_power zero (suc j) = ap (λ n. eqb (n % 2) 1) (half 1 j ∙ zero_digits j) ∙ sym (eqb-suc-zero j)
test_power (suc l) zero =
    let e : 2 ^ suc l / 1 % 2 ≡ 0 = omega (arith, pow-suc 2 l) in ap (λ n. eqb n 1) e ∙ sym (eqb-zero-suc l)
test_power (suc l) (suc j) =
    let e : 2 ^ suc l / 2 ≡ 2 ^ l = omega (arith, pow-suc 2 l) in
    ap (λ n. eqb (n % 2) 1) (half (2 ^ suc l) j ∙ ap (λ n. n / 2 ^ j) e) ∙ test_power l j ∙ sym (eqb-suc-suc j l)

-- each bit of what a gate makes of two words
pub test_combined : (k : Kind) (x y l : ℕ) → x < 2 ^ 64 → y < 2 ^ 64 → l < 64 → test_bit (combined k x y) l ≡ gate_result k (test_bit x l) (test_bit y l)
test_combined Xor x y l p q h = test_xor x y l
test_combined And x y l p q h = test_and x y l
test_combined Or x y l p q h = test_or x y l
test_combined Xnor x y l p q h = test_turned (bit_xor x y) l h (xor_lt 64 x y p q) ∙ ap not (test_xor x y l)
test_combined Nand x y l p q h = test_turned (bit_and x y) l h (and_lt 64 x y p q) ∙ ap not (test_and x y l)
test_combined Nor x y l p q h = test_turned (bit_or x y) l h (or_lt 64 x y p q) ∙ ap not (test_or x y l)

pub or_power : (t e : Bool) → (t || e) ≡ cond e true t
or_power true true = refl
or_power true false = refl
or_power false true = refl
or_power false false = refl

pub and_power : (t e : Bool) → (t && not e) ≡ cond e false t
and_power true true = refl
and_power true false = refl
and_power false true = refl
and_power false false = refl

-- each bit of a word with one bit put
pub test_put : (w l : ℕ) (v : Bool) (j : ℕ) → l < 64 → j < 64 → test_bit (put_bit w l v) j ≡ cond (eqb j l) v (test_bit w j)
test_put w l true j p q = test_or w (2 ^ l) j ∙ ap (λ e. test_bit w j || e) (test_power l j) ∙ or_power (test_bit w j) (eqb j l)
test_put w l false j p q =
    test_and w (turned (2 ^ l)) j
    ∙ ap (λ e. test_bit w j && e) (test_turned (2 ^ l) j q (pow_below l 64 p) ∙ ap not (test_power l j))
    ∙ and_power (test_bit w j) (eqb j l)

-- past the highest bit of a word none is set
pub no_bit : (x l : ℕ) → 64 ≤ l → x < 2 ^ 64 → test_bit x l ≡ false
unfolding test_bit
no_bit x l h p = ap (λ n. eqb (n % 2) 1) (div-eq_of_lt {n = x} {m = 2 ^ l} (omega (arith, p, pow_mono h)))

-- a byte with one bit put is a byte
pub put_small : (x l : ℕ) (v : Bool) → l < 8 → x < 2 ^ 8 → put_bit x l v < 2 ^ 8
put_small x l true h p = or_lt 8 x (2 ^ l) p (pow_below l 8 h)
put_small x l false h p = omega (arith, p, and_le_l x (turned (2 ^ l)))

-- a bit as a number
pub lowest : (b : Bool) → test_bit (from_bool b) 0 ≡ b
unfolding test_bit
lowest true = refl
lowest false = refl

pub from_bool_small : (b : Bool) → from_bool b < 2 ^ 64
from_bool_small true = omega arith
from_bool_small false = omega arith

-- what a gate makes of two bits
pub test_bits : (k : Kind) (x y : Bool) → test_bit (combined k (from_bool x) (from_bool y)) 0 ≡ gate_result k x y
test_bits k x y =
    test_combined k (from_bool x) (from_bool y) 0 (from_bool_small x) (from_bool_small y) (omega arith)
    ∙ ap₂ (gate_result k) (lowest x) (lowest y)
