-- The field's product commutes and associates: it is linear in each factor, so a test at the powers of two is enough. Assumes nothing.
use Rattle.std.proofs.Common.{◌≡◌, ℕ, zero, suc, ◌+◌, ◌-◌, ◌*◌, ◌/◌, ◌^◌, ◌<◌, ◌≤◌, Bool, true, false, cond, eqb, ◌⊎◌, sym, refl, ap, ◌∙◌, ap₂, inl, inr, one-mul, pow-suc, arith, eqb→eq}
use lib.Bits.{bit_xor, xor_shifted, xor_self, xor_lt}
use Rattle.std.proofs.lemmas.Nat.{pow_below}
use Rattle.std.proofs.lemmas.Bool.{cases_lt}
use Rattle.standard.specs.Bits.{odd}
use Rattle.standard.specs.Field.{xtime, mul_by, mul}
use Rattle.standard.specs.Laws.{ProductLaws}
use Rattle.standard.proofs.BitLaws.{xor_swap}
use Rattle.standard.proofs.FieldLaws.{mul_xor, mul_byte, mul_one, xtime_byte}
use Rattle.standard.proofs.Tests.{tests, tested, tested2, equal_below}

-- ---- functions that are linear on bytes, and agree at the powers of two, agree on bytes
abbrev pub Linear : (ℕ → ℕ) → Type 0
Linear f = (a b : ℕ) → a < 256 → b < 256 → f (bit_xor a b) ≡ bit_xor (f a) (f b)

linear_zero : (f : ℕ → ℕ) → Linear f → f 0 ≡ 0
linear_zero f l = l 0 0 (omega arith) (omega arith) ∙ xor_self (f 0)

agree_below : (f g : ℕ → ℕ) → Linear f → Linear g → (n : ℕ) → n ≤ 8 → ((i : ℕ) → i < n → f (2 ^ i) ≡ g (2 ^ i)) → (v : ℕ) → v < 2 ^ n → f v ≡ g v
agree_below f g lf lg zero le e v h = ap f (none v h) ∙ linear_zero f lf ∙ sym (ap g (none v h) ∙ linear_zero g lg)
  where
    none : (v : ℕ) → v < 1 → v ≡ 0
    none v h = omega arith
agree_below f g lf lg (suc n) le e v h = go (agree_below f g lf lg n (omega arith) (λ i hi. e i (omega arith))) (cases_lt v (2 ^ n))
  where
    go : ((u : ℕ) → u < 2 ^ n → f u ≡ g u) → (v < 2 ^ n) ⊎ (2 ^ n ≤ v) → f v ≡ g v
    go low (inl lt) = low v lt
    go low (inr ge) =
        let u = v - 2 ^ n in
        let small : u < 2 ^ n = omega (arith, pow-suc 2 n) in
        let top : 2 ^ n < 256 = pow_below n 8 (omega arith) in
        let byte : u < 256 = omega arith in
        let whole : v ≡ 1 * 2 ^ n + u = omega arith in
        let parts : v ≡ bit_xor (2 ^ n) u = whole ∙ sym (xor_shifted 1 n u small) ∙ ap (λ (x : ℕ). bit_xor x u) (one-mul (2 ^ n)) in
        ap f parts ∙ lf (2 ^ n) u top byte ∙ ap₂ bit_xor (e n (omega arith)) (low u small) ∙ sym (ap g parts ∙ lg (2 ^ n) u top byte)

pub linear_agree : (f g : ℕ → ℕ) → Linear f → Linear g → ((i : ℕ) → i < 8 → f (2 ^ i) ≡ g (2 ^ i)) → (v : ℕ) → v < 256 → f v ≡ g v
linear_agree f g lf lg e v h = agree_below f g lf lg 8 (omega arith) e v h

-- ---- the product is linear in each factor
pub mul_right : (a : ℕ) → Linear (mul a)
mul_right a b c hb hc = mul_xor a b c

by_two : (v : ℕ) → v < 256 → mul 2 v ≡ xtime v
unfolding tests mul xtime
by_two = equal_below (mul 2) xtime 256 tt

xor_byte : (a b : ℕ) → a < 256 → b < 256 → bit_xor a b < 256
xor_byte a b = xor_lt 8 a b

xtime_linear : Linear xtime
xtime_linear a b ha hb = sym (by_two (bit_xor a b) (xor_byte a b ha hb)) ∙ mul_xor 2 a b ∙ ap₂ bit_xor (by_two a ha) (by_two b hb)

chosen : (q : Bool) (a b : ℕ) → cond q (bit_xor a b) 0 ≡ bit_xor (cond q a 0) (cond q b 0)
chosen true a b = refl
chosen false a b = refl

mul_by_left : (n c : ℕ) → Linear (λ a. mul_by n a c)
unfolding mul_by
mul_by_left zero c a b ha hb = refl
mul_by_left (suc n) c a b ha hb =
    ap₂ bit_xor (chosen (odd c) a b) (ap (λ (x : ℕ). mul_by n x (c / 2)) (xtime_linear a b ha hb) ∙ mul_by_left n (c / 2) (xtime a) (xtime b) (xtime_byte a) (xtime_byte b))
    ∙ xor_swap (cond (odd c) a 0) (cond (odd c) b 0) (mul_by n (xtime a) (c / 2)) (mul_by n (xtime b) (c / 2))

pub mul_left : (c : ℕ) → Linear (λ a. mul a c)
unfolding mul
mul_left c = mul_by_left 8 c

-- ---- it commutes
comm_powers : (i j : ℕ) → i < 8 → j < 8 → mul (2 ^ i) (2 ^ j) ≡ mul (2 ^ j) (2 ^ i)
unfolding tests mul
comm_powers i j hi hj = eqb→eq (mul (2 ^ i) (2 ^ j)) (mul (2 ^ j) (2 ^ i)) (tested2 (λ i j. eqb (mul (2 ^ i) (2 ^ j)) (mul (2 ^ j) (2 ^ i))) 8 8 tt i j hi hj)

pub mul_comm : (a b : ℕ) → a < 256 → b < 256 → mul a b ≡ mul b a
mul_comm a b ha hb =
    linear_agree (λ a. mul a b) (mul b) (mul_left b) (mul_right b)
    (λ i hi. linear_agree (mul (2 ^ i)) (λ b. mul b (2 ^ i)) (mul_right (2 ^ i)) (mul_left (2 ^ i)) (λ j hj. comm_powers i j hi hj) b hb) a ha

-- ---- it associates
unfoldable assoc_at : ℕ → ℕ → ℕ → Bool
unfolding mul
assoc_at i j k = eqb (mul (2 ^ i) (mul (2 ^ j) (2 ^ k))) (mul (mul (2 ^ i) (2 ^ j)) (2 ^ k))

assoc_powers : (i j k : ℕ) → i < 8 → j < 8 → k < 8 → mul (2 ^ i) (mul (2 ^ j) (2 ^ k)) ≡ mul (mul (2 ^ i) (2 ^ j)) (2 ^ k)
unfolding tests assoc_at
assoc_powers i j k hi hj hk =
    eqb→eq (mul (2 ^ i) (mul (2 ^ j) (2 ^ k))) (mul (mul (2 ^ i) (2 ^ j)) (2 ^ k)) (tested2 (assoc_at i) 8 8 (tested (λ i. tests (λ j. tests (assoc_at i j) 8) 8) 8 tt i hi) j k hj hk)

pow_byte : (i : ℕ) → i < 8 → 2 ^ i < 256
pow_byte i h = pow_below i 8 h

pub mul_assoc : (a b c : ℕ) → a < 256 → b < 256 → c < 256 → mul a (mul b c) ≡ mul (mul a b) c
mul_assoc a b c ha hb hc =
    linear_agree (λ a. mul a (mul b c)) (λ a. mul (mul a b) c) (mul_left (mul b c))
    (λ x y hx hy. ap (λ (z : ℕ). mul z c) (mul_left b x y hx hy) ∙ mul_left c (mul x b) (mul y b) (mul_byte x b hx) (mul_byte y b hy))
    (λ i hi. second (2 ^ i) (pow_byte i hi) (λ j k hj hk. assoc_powers i j k hi hj hk)) a ha
  where
    third : (a b : ℕ) → ((k : ℕ) → k < 8 → mul a (mul b (2 ^ k)) ≡ mul (mul a b) (2 ^ k)) → mul a (mul b c) ≡ mul (mul a b) c
    third a b e = linear_agree (λ c. mul a (mul b c)) (mul (mul a b)) (λ x y hx hy. ap (mul a) (mul_xor b x y) ∙ mul_xor a (mul b x) (mul b y)) (mul_right (mul a b)) e c hc

    second : (a : ℕ) → a < 256 → ((j k : ℕ) → j < 8 → k < 8 → mul a (mul (2 ^ j) (2 ^ k)) ≡ mul (mul a (2 ^ j)) (2 ^ k)) → mul a (mul b c) ≡ mul (mul a b) c
    second a ha e =
        linear_agree (λ b. mul a (mul b c)) (λ b. mul (mul a b) c)
        (λ x y hx hy. ap (mul a) (mul_left c x y hx hy) ∙ mul_xor a (mul x c) (mul y c))
        (λ x y hx hy. ap (λ (z : ℕ). mul z c) (mul_xor a x y) ∙ mul_left c (mul a x) (mul a y) (mul_byte a x ha) (mul_byte a y ha))
        (λ j hj. third a (2 ^ j) (λ k hk. e j k hj hk)) b hb

pub product_laws_lem : ProductLaws
product_laws_lem a b c ha hb hc = (mul_comm a b ha hb, mul_assoc a b c ha hb hc, mul_xor a b c, mul_one a ha)
