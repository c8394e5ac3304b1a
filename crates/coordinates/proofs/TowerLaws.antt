-- The tower's products, and the inverse by its formula: one computed test over the pairs, and one over the bytes. Assumes nothing.
use Rattle.std.proofs.Common.{◌≡◌, ℕ, ◌<◌, Bool, true, false, cond, ◌&&◌, T, eqb, ltb, sym, refl, ap, ◌∙◌, subst, eqb→eq, ltb→lt}
use lib.Dec.{eqb_refl}
use Rattle.standard.specs.Field.{mul, inverse}
use Rattle.standard.proofs.Tests.{tests, tested, and_l, and_r}
use Rattle.coordinates.specs.Tower.{BasisIsProducts, power16, Sixteenth, over, g_of, InverseByTower, first_of, second_of, EveryByteOnce}

pub basis_products : BasisIsProducts
unfolding mul
basis_products = refl

-- ---- pairs of the sixteen bytes
unfoldable sixteenth : ℕ → Bool
unfolding power16
sixteenth y = eqb (power16 y) y

if_so : (q x : Bool) → T (cond q x true) → T q → T x
if_so true x t s = t
if_so false x t s = absurd s

is_sixteenth : (y : ℕ) → Sixteenth y → T (sixteenth y)
unfolding sixteenth
is_sixteenth y h = subst (λ (x : ℕ). T (eqb (power16 y) x)) h.1 (eqb_refl (power16 y))

unfoldable pairs : (ℕ → ℕ → Bool) → Bool
unfolding tests sixteenth
pairs f = tests (λ p. cond (sixteenth p) (tests (λ q. cond (sixteenth q) (f p q) true) 256) true) 256

at_pair : (f : ℕ → ℕ → Bool) → T (pairs f) → (p q : ℕ) → Sixteenth p → Sixteenth q → T (f p q)
unfolding pairs
at_pair f t p q hp hq =
    let inner = λ (p q : ℕ). cond (sixteenth q) (f p q) true in
    let row = if_so (sixteenth p) (tests (inner p) 256) (tested (λ p. cond (sixteenth p) (tests (inner p) 256) true) 256 t p hp.0) (is_sixteenth p hp) in
    if_so (sixteenth q) (f p q) (tested (inner p) 256 row q hq.0) (is_sixteenth q hq)

unfoldable right : ℕ → ℕ → Bool
unfolding over g_of inverse mul first_of second_of
right p q =
    let u = over p q in
    let g = inverse (g_of p q) in
    eqb (inverse u) (over (mul g q) (mul g p)) && (eqb (first_of u) p && eqb (second_of u) q)

right_pairs : T (pairs right)
unfolding pairs right
right_pairs = tt

module _ (p q : ℕ) (hp : Sixteenth p) (hq : Sixteenth q) where
  formula : Bool
  formula = eqb (inverse (over p q)) (over (mul (inverse (g_of p q)) q) (mul (inverse (g_of p q)) p))

  parts : T (formula && (eqb (first_of (over p q)) p && eqb (second_of (over p q)) q))
  unfolding right formula
  parts = at_pair right right_pairs p q hp hq

  pub inverse_pair : inverse (over p q) ≡ over (mul (inverse (g_of p q)) q) (mul (inverse (g_of p q)) p)
  unfolding formula
  inverse_pair = eqb→eq (inverse (over p q)) (over (mul (inverse (g_of p q)) q) (mul (inverse (g_of p q)) p)) (and_l formula (eqb (first_of (over p q)) p && eqb (second_of (over p q)) q) parts)

  pub pair_once : (first_of (over p q) ≡ p) × (second_of (over p q) ≡ q)
  pair_once =
      let both = and_r formula (eqb (first_of (over p q)) p && eqb (second_of (over p q)) q) parts in (
        eqb→eq (first_of (over p q)) p (and_l (eqb (first_of (over p q)) p) (eqb (second_of (over p q)) q) both),
        eqb→eq (second_of (over p q)) q (and_r (eqb (first_of (over p q)) p) (eqb (second_of (over p q)) q) both),
      )

pub inverse_tower : InverseByTower
inverse_tower = inverse_pair

-- ---- the pair of a byte
sixteenth_from : (f : ℕ → ℕ) → T (tests (λ u. ltb (f u) 256 && eqb (power16 (f u)) (f u)) 256) → (u : ℕ) → u < 256 → Sixteenth (f u)
sixteenth_from f t u h =
    let both = tested (λ u. ltb (f u) 256 && eqb (power16 (f u)) (f u)) 256 t u h in
    (ltb→lt (f u) 256 (and_l (ltb (f u) 256) (eqb (power16 (f u)) (f u)) both), eqb→eq (power16 (f u)) (f u) (and_r (ltb (f u) 256) (eqb (power16 (f u)) (f u)) both))

pub first_sixteenth : (u : ℕ) → u < 256 → Sixteenth (first_of u)
unfolding tests power16 first_of
first_sixteenth = sixteenth_from first_of tt

pub second_sixteenth : (u : ℕ) → u < 256 → Sixteenth (second_of u)
unfolding tests power16 second_of
second_sixteenth = sixteenth_from second_of tt

pub pair_back : (u : ℕ) → u < 256 → over (first_of u) (second_of u) ≡ u
unfolding tests over first_of second_of
pair_back u h = eqb→eq (over (first_of u) (second_of u)) u (tested (λ u. eqb (over (first_of u) (second_of u)) u) 256 tt u h)

pub every_byte : EveryByteOnce
every_byte = (λ u h. (first_sixteenth u h, second_sixteenth u h, pair_back u h), pair_once)

-- the inverse of a byte, by its pair
pub inverse_by_pair : (u : ℕ) → u < 256
    → inverse u ≡ over (mul (inverse (g_of (first_of u) (second_of u))) (second_of u)) (mul (inverse (g_of (first_of u) (second_of u))) (first_of u))
inverse_by_pair u h = sym (ap inverse (pair_back u h)) ∙ inverse_pair (first_of u) (second_of u) (first_sixteenth u h) (second_sixteenth u h)
