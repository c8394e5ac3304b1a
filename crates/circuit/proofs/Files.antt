-- What a play does to the bytes of a lane, from what its page does to its own bytes. Assumes nothing.
use Rattle.std.proofs.Common.{◌≡◌, ℕ, zero, suc, ◌+◌, ◌*◌, ◌/◌, ◌%◌, ◌<◌, Bool, true, false, not, ◌||◌, T, eqb, ◌⊎◌, List, [], ◌∷◌, length, get_or, set, sym, refl, ap, ◌∙◌, subst, ap₂, inl, inr, arith, T_not}
use mathlib.Core.Option.{Option, some, none}
use lib.Dec.{eqb_refl}
use Rattle.std.proofs.lemmas.Bool.{cases_eq}
use Rattle.standard.specs.Bits.{bit}
use Rattle.bench.specs.declared.gates.Gate.{Gate}
use Rattle.circuit.specs.Lanes.{Lane, play_on}
use Rattle.circuit.specs.Places.{place, member, distinct, fits_all}
use Rattle.circuit.proofs.Run.{Apart, untouched, and_l, and_r, get_d_set_other}

-- ---- bytes shown

-- byte j of the lane shows v, where that is known
abbrev pub Shows : Lane → ℕ → Option ℕ → Type 0
Shows σ j none = Unit {0}
Shows σ j (some v) = (v < 256) × ((i : ℕ) → i < 8 → σ (8 * j + i) ≡ bit v i)

-- what is known of a lane's bytes
abbrev pub File : Type 0
File = List (Option ℕ)

abbrev pub ShowsAll : Lane → File → Type 0
ShowsAll σ file = (j : ℕ) → Shows σ j (get_or file j none)

abbrev pub scatter : List ℕ → File → File → File
scatter [] rs file = file
scatter (p ∷ ps) [] file = set (scatter ps [] file) p none
scatter (p ∷ ps) (r ∷ rs) file = set (scatter ps rs file) p r

abbrev pub gather : List ℕ → File → File
gather [] file = []
gather (p ∷ ps) file = get_or file p none ∷ gather ps file

-- the play at the bytes P of a page that does eff
abbrev pub step_file : List ℕ → (File → File) → File → File
step_file P eff file = scatter P (eff (gather P file)) file

-- ---- places apart

or_left : (x y : Bool) → T x → T (x || y)
or_left true y t = tt
or_left false y t = absurd t

or_right : (x y : Bool) → T y → T (x || y)
or_right true y t = tt
or_right false y t = t

is_member : (xs : List ℕ) (x i : ℕ) → i < length xs → x ≡ get_or xs i 0 → T (member x xs)
is_member [] x i h e = absurd (omega arith)
is_member (y ∷ ys) x zero h e = or_left (eqb x y) (member x ys) (subst (λ (z : ℕ). T (eqb x z)) e (eqb_refl x))
is_member (y ∷ ys) x (suc i) h e = or_right (eqb x y) (member x ys) (is_member ys x i (omega arith) e)

not_head : (x : ℕ) (xs : List ℕ) → T (distinct (x ∷ xs)) → (i : ℕ) → i < length xs → x ≡ get_or xs i 0 → ⊥
not_head x xs t i h e = T_not (member x xs) (and_l (not (member x xs)) (distinct xs) t) (is_member xs x i h e)

pub distinct_at : (P : List ℕ) → T (distinct P) → (i j : ℕ) → i < length P → j < length P → get_or P i 0 ≡ get_or P j 0 → i ≡ j
distinct_at [] t i j hi hj e = absurd (omega arith)
distinct_at (x ∷ xs) t zero zero hi hj e = refl
distinct_at (x ∷ xs) t zero (suc j) hi hj e = absurd (not_head x xs t j (omega arith) e)
distinct_at (x ∷ xs) t (suc i) zero hi hj e = absurd (not_head x xs t i (omega arith) (sym e))
distinct_at (x ∷ xs) t (suc i) (suc j) hi hj e = ap suc (distinct_at xs (and_r (not (member x xs)) (distinct xs) t) i j (omega arith) (omega arith) e)

pub place_apart : (P : List ℕ) (n : ℕ) → length P ≡ n → T (distinct P) → Apart (place P) (8 * n)
place_apart P n len t i j hi hj e =
    let same : i / 8 ≡ j / 8 = distinct_at P t (i / 8) (j / 8) (omega arith) (omega arith) (omega arith) in
    omega arith

-- register i of byte l of the page
pub place_at : (P : List ℕ) (l i : ℕ) → i < 8 → place P (8 * l + i) ≡ 8 * get_or P l 0 + i
place_at P l i h =
    let d : (8 * l + i) / 8 ≡ l = omega arith in
    let m : (8 * l + i) % 8 ≡ i = omega arith in
    ap₂ (λ (x y : ℕ). 8 * get_or P x 0 + y) d m

-- the page's gates, on L bytes of their own, do eff
pub record Effect (gs : List Gate) (L : ℕ) (eff : File → File) : Type 0 where
  pub fit : T (fits_all (8 * L) gs)
  pub does : (P : List ℕ) → length P ≡ L → T (distinct P) → (σ : Lane) (fs : File)
      → ((l : ℕ) → l < L → Shows σ (get_or P l 0) (get_or fs l none))
      → (l : ℕ) → l < L → Shows (play_on (place P) gs σ) (get_or P l 0) (get_or (eff fs) l none)

set_shows : (σ : Lane) (file : File) (p : ℕ) (r : Option ℕ) (j : ℕ) → Shows σ p r → (((j ≡ p → ⊥)) → Shows σ j (get_or file j none)) → Shows σ j (get_or (set file p r) j none)
set_shows σ file p r j hr rest = go (cases_eq j p)
  where
    at_p : (f : File) (q k : ℕ) → Shows σ k r → Shows σ k (get_or (set f q r) q none)
    at_p [] q k h = tt
    at_p (x ∷ f) zero k h = h
    at_p (x ∷ f) (suc q) k h = at_p f q k h

    go : (j ≡ p) ⊎ (j ≡ p → ⊥) → Shows σ j (get_or (set file p r) j none)
    go (inl e) = subst (λ (k : ℕ). Shows σ j (get_or (set file p r) k none)) (sym e) (at_p file p j (subst (λ (k : ℕ). Shows σ k r) (sym e) hr))
    go (inr ne) = subst (Shows σ j) (sym (get_d_set_other file p j r none ne)) (rest ne)

scatter_shows : (σ : Lane) (P : List ℕ) (rs file : File)
    → ((l : ℕ) → l < length P → Shows σ (get_or P l 0) (get_or rs l none))
    → (j : ℕ) → (((l : ℕ) → l < length P → j ≡ get_or P l 0 → ⊥) → Shows σ j (get_or file j none))
    → Shows σ j (get_or (scatter P rs file) j none)
scatter_shows σ [] rs file inside j outside = outside (λ l h e. omega arith)
scatter_shows σ (p ∷ ps) [] file inside j outside =
    set_shows σ (scatter ps [] file) p none j tt
    (λ ne. scatter_shows σ ps [] file (λ l h. tt) j (λ off. outside (elim [ zero ↦ (λ h e. ne e) | suc l ↦ (λ h e. off l (omega arith) e) ])))
scatter_shows σ (p ∷ ps) (r ∷ rs) file inside j outside =
    set_shows σ (scatter ps rs file) p r j (inside zero (omega arith))
    (λ ne. scatter_shows σ ps rs file (λ l h. inside (suc l) (omega arith)) j (λ off. outside (elim [ zero ↦ (λ h e. ne e) | suc l ↦ (λ h e. off l (omega arith) e) ])))

gather_at : (P : List ℕ) (file : File) (l : ℕ) → l < length P → get_or (gather P file) l none ≡ get_or file (get_or P l 0) none
gather_at [] file l h = absurd (omega arith)
gather_at (p ∷ ps) file zero h = refl
gather_at (p ∷ ps) file (suc l) h = gather_at ps file l (omega arith)

off_page : (P : List ℕ) (L : ℕ) (gs : List Gate) (σ : Lane) → length P ≡ L → T (fits_all (8 * L) gs)
    → (j : ℕ) → ((l : ℕ) → l < length P → j ≡ get_or P l 0 → ⊥) → (o : Option ℕ) → Shows σ j o → Shows (play_on (place P) gs σ) j o
off_page P L gs σ len fit j off none h = tt
off_page P L gs σ len fit j off (some v) h =
    (h.0, λ i hi. untouched (place P) (8 * L) (8 * j + i) (λ n hn e. off (n / 8) (omega arith) (omega arith)) gs σ fit ∙ h.1 i hi)

pub play_file : (gs : List Gate) (L : ℕ) (eff : File → File) → Effect gs L eff
    → (P : List ℕ) → length P ≡ L → T (distinct P) → (σ : Lane) (file : File) → ShowsAll σ file → ShowsAll (play_on (place P) gs σ) (step_file P eff file)
play_file gs L eff E P len apart σ file shows j =
    scatter_shows (play_on (place P) gs σ) P (eff (gather P file)) file
    (λ l h. E.does P len apart σ (gather P file) (λ k hk. subst (Shows σ (get_or P k 0)) (sym (gather_at P file k (omega arith))) (shows (get_or P k 0))) l (omega arith))
    j (λ off. off_page P L gs σ len E.fit j off (get_or file j none) (shows j))
