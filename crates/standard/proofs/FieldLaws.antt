-- The field's product is linear, its inverse inverts, and the substitution is undone by its inverse. Assumes nothing.
use Rattle.std.proofs.Common.{◌≡◌, ℕ, zero, suc, ◌*◌, ◌/◌, ◌%◌, ◌<◌, Bool, true, false, cond, ◌||◌, T, eqb, leb, sym, refl, ap, ◌∙◌, ap₂, arith, eqb→eq}
use lib.Bits.{bit_xor, xor_shr, xor_lt, xor_assoc}
use Rattle.std.specs.Int.{w8, rotate_left}
use Rattle.standard.specs.Bits.{odd}
use Rattle.standard.specs.Field.{xtime, mul_by, mul, inverse, rotl, affine, inv_affine, SBox, InvSBox}
use Rattle.standard.proofs.BitLaws.{odd_xor, xor_swap, chosen_xor}
use Rattle.standard.proofs.Tests.{tests, tested, tested2, equal_below, small_below}

-- ---- the product
mul_by_xor : (n a b c : ℕ) → mul_by n a (bit_xor b c) ≡ bit_xor (mul_by n a b) (mul_by n a c)
unfolding mul_by
mul_by_xor zero a b c = refl
mul_by_xor (suc n) a b c =
    ap₂ bit_xor (ap (λ (p : Bool). cond p a 0) (odd_xor b c) ∙ chosen_xor (odd b) (odd c) a) (ap (mul_by n (xtime a)) (xor_shr b c 1) ∙ mul_by_xor n (xtime a) (b / 2) (c / 2))
    ∙ xor_swap (cond (odd b) a 0) (cond (odd c) a 0) (mul_by n (xtime a) (b / 2)) (mul_by n (xtime a) (c / 2))

pub mul_xor : (a b c : ℕ) → mul a (bit_xor b c) ≡ bit_xor (mul a b) (mul a c)
unfolding mul
mul_xor a b c = mul_by_xor 8 a b c

-- the product by one bit more, after what is summed up already
pub mul_by_step : (n p a b : ℕ) → bit_xor p (mul_by (suc n) a b) ≡ bit_xor (bit_xor p (cond (odd b) a 0)) (mul_by n (xtime a) (b / 2))
unfolding mul_by
mul_by_step n p a b = sym (xor_assoc p (cond (odd b) a 0) (mul_by n (xtime a) (b / 2)))

pub xtime_byte : (a : ℕ) → xtime a < 256
unfolding xtime
xtime_byte a = xor_lt 8 ((a * 2) % 256) (cond (leb 128 a) 0x1b 0) (omega arith) (small (leb 128 a))
  where
    small : (q : Bool) → cond q 0x1b 0 < 256
    small true = omega arith
    small false = omega arith

chosen_byte : (q : Bool) (a : ℕ) → a < 256 → cond q a 0 < 256
chosen_byte true a h = h
chosen_byte false a h = omega arith

mul_by_byte : (n a b : ℕ) → a < 256 → mul_by n a b < 256
unfolding mul_by
mul_by_byte zero a b h = omega arith
mul_by_byte (suc n) a b h = xor_lt 8 (cond (odd b) a 0) (mul_by n (xtime a) (b / 2)) (chosen_byte (odd b) a h) (mul_by_byte n (xtime a) (b / 2) (xtime_byte a))

pub mul_byte : (a b : ℕ) → a < 256 → mul a b < 256
unfolding mul
mul_byte a b h = mul_by_byte 8 a b h

pub mul_one : (v : ℕ) → v < 256 → mul 1 v ≡ v
unfolding tests mul
mul_one = equal_below (mul 1) (λ v. v) 256 tt

-- ---- the inverse
pub inverse_byte : (v : ℕ) → v < 256 → inverse v < 256
unfolding tests inverse
inverse_byte = small_below inverse 256 256 tt

pub inverse_zero : inverse 0 ≡ 0
unfolding inverse
inverse_zero = refl

pub inverse_inverts : (v : ℕ) → v < 256 → (v ≡ 0 → ⊥) → mul v (inverse v) ≡ 1
unfolding tests mul inverse
inverse_inverts v h nonzero = go (eqb v 0) (tested (λ v. eqb v 0 || eqb (mul v (inverse v)) 1) 256 tt v h) (λ e. nonzero (eqb→eq v 0 e))
  where
    go : (z : Bool) → T (z || eqb (mul v (inverse v)) 1) → (T z → ⊥) → mul v (inverse v) ≡ 1
    go true t n = absurd (n tt)
    go false t n = eqb→eq (mul v (inverse v)) 1 t

-- ---- the substitution
pub affine_byte : (v : ℕ) → v < 256 → affine v < 256
unfolding tests affine
affine_byte = small_below affine 256 256 tt

pub inv_affine_byte : (v : ℕ) → v < 256 → inv_affine v < 256
unfolding tests inv_affine
inv_affine_byte = small_below inv_affine 256 256 tt

pub SBox_byte : (v : ℕ) → v < 256 → SBox v < 256
unfolding SBox
SBox_byte v h = affine_byte (inverse v) (inverse_byte v h)

pub InvSBox_byte : (v : ℕ) → v < 256 → InvSBox v < 256
unfolding InvSBox
InvSBox_byte v h = inverse_byte (inv_affine v) (inv_affine_byte v h)

pub inv_affine_affine : (v : ℕ) → v < 256 → inv_affine (affine v) ≡ v
unfolding tests affine inv_affine
inv_affine_affine = equal_below (λ v. inv_affine (affine v)) (λ v. v) 256 tt

pub affine_inv_affine : (v : ℕ) → v < 256 → affine (inv_affine v) ≡ v
unfolding tests affine inv_affine
affine_inv_affine = equal_below (λ v. affine (inv_affine v)) (λ v. v) 256 tt

pub inverse_inverse : (v : ℕ) → v < 256 → inverse (inverse v) ≡ v
unfolding tests inverse
inverse_inverse = equal_below (λ v. inverse (inverse v)) (λ v. v) 256 tt

pub InvSBox_SBox : (v : ℕ) → v < 256 → InvSBox (SBox v) ≡ v
unfolding SBox InvSBox
InvSBox_SBox v h = ap inverse (inv_affine_affine (inverse v) (inverse_byte v h)) ∙ inverse_inverse v h

pub SBox_InvSBox : (v : ℕ) → v < 256 → SBox (InvSBox v) ≡ v
unfolding SBox InvSBox
SBox_InvSBox v h = ap affine (inverse_inverse (inv_affine v) (inv_affine_byte v h)) ∙ affine_inv_affine v h

-- a byte turned as the library turns it
pub rotl_is : (k v : ℕ) → k < 8 → v < 256 → rotate_left w8 v k ≡ rotl v k
unfolding tests rotl
rotl_is k v hk hv = eqb→eq (rotate_left w8 v k) (rotl v k) (tested2 (λ k v. eqb (rotate_left w8 v k) (rotl v k)) 8 256 tt k v hk hv)
