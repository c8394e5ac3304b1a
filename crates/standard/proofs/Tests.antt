-- A test at each number below n, computed, and the rule that it gives. Assumes nothing.
use Rattle.std.proofs.Common.{◌≡◌, ℕ, zero, suc, ◌<◌, Bool, true, false, ◌&&◌, T, eqb, ltb, ◌⊎◌, sym, subst, inl, inr, arith, eqb→eq, ltb→lt}
use Rattle.std.proofs.lemmas.Bool.{cases_eq}

pub and_l : (x y : Bool) → T (x && y) → T x
and_l true y t = tt
and_l false y t = t

pub and_r : (x y : Bool) → T (x && y) → T y
and_r true y t = t
and_r false y t = absurd t

unfoldable pub tests : (ℕ → Bool) → ℕ → Bool
tests f zero = true
tests f (suc n) = f n && tests f n

pub tested : (f : ℕ → Bool) (n : ℕ) → T (tests f n) → (v : ℕ) → v < n → T (f v)
unfolding tests
tested f zero t v h = absurd (omega arith)
tested f (suc n) t v h = go (tested f n (and_r (f n) (tests f n) t) v) (cases_eq v n)
  where
    go : (v < n → T (f v)) → (v ≡ n) ⊎ (v ≡ n → ⊥) → T (f v)
    go rest (inl e) = subst (λ (k : ℕ). T (f k)) (sym e) (and_l (f n) (tests f n) t)
    go rest (inr ne) = rest (omega arith)

-- a test at each pair below m and n
pub tested2 : (f : ℕ → ℕ → Bool) (m n : ℕ) → T (tests (λ u. tests (f u) n) m) → (u v : ℕ) → u < m → v < n → T (f u v)
tested2 f m n t u v hu hv = tested (f u) n (tested (λ u. tests (f u) n) m t u hu) v hv

pub equal_below : (f g : ℕ → ℕ) (n : ℕ) → T (tests (λ v. eqb (f v) (g v)) n) → (v : ℕ) → v < n → f v ≡ g v
equal_below f g n t v h = eqb→eq (f v) (g v) (tested (λ v. eqb (f v) (g v)) n t v h)

pub small_below : (f : ℕ → ℕ) (b n : ℕ) → T (tests (λ v. ltb (f v) b) n) → (v : ℕ) → v < n → f v < b
small_below f b n t v h = ltb→lt (f v) b (tested (λ v. ltb (f v) b) n t v h)
