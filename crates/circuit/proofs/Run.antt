-- One run of a page over any domain of values, and what it says of a lane.
-- Assumes nothing.
use Rattle.std.proofs.Common.{◌≡◌, ℕ, zero, suc, ◌<◌, Bool, true, false, cond, ◌&&◌, T, eqb, ltb, ◌⊎◌, List, [], ◌∷◌, length, get_or, set, sym, refl, ap, ◌∙◌, subst, inl, inr, arith, ltb→lt, length-set}
use Rattle.std.proofs.lemmas.Bool.{eq-eqb, ne_eqb, cases_eq}
use Rattle.bench.specs.declared.kinds.Kind.{Kind}
use Rattle.bench.specs.declared.gates.Gate.{Gate}
use Rattle.bench.specs.Kinds.{gate_result}
use Rattle.circuit.specs.Lanes.{Lane, gate_on, play_on}
use Rattle.circuit.specs.Places.{fits_gate, fits_all}

pub get_d_set_same : {A : Type 0} (l : List A) (i : ℕ) (a d : A) → i < length l → get_or (set l i a) i d ≡ a
get_d_set_same [] i a d h = absurd (omega arith)
get_d_set_same (x ∷ l) zero a d h = refl
get_d_set_same (x ∷ l) (suc i) a d h = get_d_set_same l i a d (omega arith)

pub get_d_set_other : {A : Type 0} (l : List A) (i j : ℕ) (a d : A) → (j ≡ i → ⊥) → get_or (set l i a) j d ≡ get_or l j d
get_d_set_other [] i j a d h = refl
get_d_set_other (x ∷ l) zero zero a d h = absurd (h refl)
get_d_set_other (x ∷ l) zero (suc j) a d h = refl
get_d_set_other (x ∷ l) (suc i) zero a d h = refl
get_d_set_other (x ∷ l) (suc i) (suc j) a d h = get_d_set_other l i j a d (λ e. h (ap suc e))

-- a page run over values of A: memory m has a value for each number
module _ {A : Type 0} (op : Kind → A → A → A) (d : A) where
  abbrev pub step : Gate → List A → List A
  step g m = let k = g.kind in let t = g.target in let a = g.first in let b = g.second in set m t (op k (get_or m a d) (get_or m b d))

  unfoldable pub run : List Gate → List A → List A
  run [] m = m
  run (g ∷ gs) m = run gs (step g m)

pub and_l : (x y : Bool) → T (x && y) → T x
and_l true y t = tt
and_l false y t = t

pub and_r : (x y : Bool) → T (x && y) → T y
and_r true y t = t
and_r false y t = absurd t

-- no two of the first n numbers stand for one register
abbrev pub Apart : (ℕ → ℕ) → ℕ → Type 0
Apart f n = (i j : ℕ) → i < n → j < n → f i ≡ f j → i ≡ j

module _ {A : Type 0} (op : Kind → A → A → A) (d : A) (R : A → Bool → Type 0)
    (keeps : (k : Kind) (x y : A) (u v : Bool) → R x u → R y v → R (op k x y) (gate_result k u v))
    (f : ℕ → ℕ) (n : ℕ) (apart : Apart f n) where
  -- the memory tells of the lane
  abbrev pub Tells : List A → Lane → Type 0
  Tells m σ = (length m ≡ n) × ((i : ℕ) → i < n → R (get_or m i d) (σ (f i)))

  one : (g : Gate) (m : List A) (σ : Lane) → T (fits_gate n g) → Tells m σ → Tells (step op d g m) (gate_on f g σ)
  unfolding gate_on
  one g m σ fit (len, tells) =
      let k = g.kind in let t = g.target in let a = g.first in let b = g.second in
      let ht : t < n = ltb→lt t n (and_l (ltb t n) (ltb a n && ltb b n) fit) in
      let fab = and_r (ltb t n) (ltb a n && ltb b n) fit in
      let ha : a < n = ltb→lt a n (and_l (ltb a n) (ltb b n) fab) in
      let hb : b < n = ltb→lt b n (and_r (ltb a n) (ltb b n) fab) in
      let new = op k (get_or m a d) (get_or m b d) in
      let val = gate_result k (σ (f a)) (σ (f b)) in
      let at : (i : ℕ) → i < n → (i ≡ t) ⊎ (i ≡ t → ⊥) → R (get_or (set m t new) i d) (cond (eqb (f i) (f t)) val (σ (f i)))
      = λ i hi. elim [
        | inl e ↦ subst (λ (x : A). R x (cond (eqb (f i) (f t)) val (σ (f i)))) (sym (ap (λ (j : ℕ). get_or (set m t new) j d) e ∙ get_d_set_same m t new d (omega arith)))
            (subst (λ (q : Bool). R new (cond q val (σ (f i)))) (sym (eq-eqb (f i) (f t) (ap f e)))
            (keeps k (get_or m a d) (get_or m b d) (σ (f a)) (σ (f b)) (tells a ha) (tells b hb)))
        | inr ne ↦ subst (λ (x : A). R x (cond (eqb (f i) (f t)) val (σ (f i)))) (sym (get_d_set_other m t i new d ne))
            (subst (λ (q : Bool). R (get_or m i d) (cond q val (σ (f i)))) (sym (ne_eqb (f i) (f t) (λ e. ne (apart i t hi ht e))))
            (tells i hi))
      ] in
      (length-set m t new ∙ len, λ i hi. at i hi (cases_eq i t))

  pub tells_after : (gs : List Gate) (m : List A) (σ : Lane) → T (fits_all n gs) → Tells m σ → Tells (run op d gs m) (play_on f gs σ)
  unfolding run play_on fits_all
  tells_after [] m σ fit tells = tells
  tells_after (g ∷ gs) m σ fit tells =
      tells_after gs (step op d g m) (gate_on f g σ) (and_r (fits_gate n g) (fits_all n gs) fit) (one g m σ (and_l (fits_gate n g) (fits_all n gs) fit) tells)

-- a register that no number stands for is as it was
pub untouched : (f : ℕ → ℕ) (n r : ℕ) → ((i : ℕ) → i < n → r ≡ f i → ⊥) → (gs : List Gate) (σ : Lane) → T (fits_all n gs) → play_on f gs σ r ≡ σ r
unfolding play_on gate_on fits_all
untouched f n r off [] σ fit = refl
untouched f n r off (g ∷ gs) σ fit =
    let k = g.kind in let t = g.target in let a = g.first in let b = g.second in
    let fit1 = and_l (fits_gate n g) (fits_all n gs) fit in
    let ht : t < n = ltb→lt t n (and_l (ltb t n) (ltb a n && ltb b n) fit1) in
    untouched f n r off gs (gate_on f g σ) (and_r (fits_gate n g) (fits_all n gs) fit)
    ∙ ap (λ (q : Bool). cond q (gate_result k (σ (f a)) (σ (f b))) (σ r)) (ne_eqb r (f t) (off t ht))
