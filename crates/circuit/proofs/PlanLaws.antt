-- What a plan does to the bytes of a lane, play by play. Assumes nothing.
use Rattle.std.proofs.Common.{◌≡◌, ℕ, ◌+◌, ◌-◌, ◌*◌, ◌/◌, ◌%◌, ◌<◌, ◌≤◌, Bool, true, cond, ◌&&◌, T, eqb, ltb, ◌⊎◌, List, [], ◌∷◌, ◌++◌, map, length, get_or, sym, refl, ap, ◌∙◌, ap₂, inl, inr, arith, eqb→eq, ltb→lt}
use mathlib.Core.Option.{Option, some, none}
use Rattle.std.specs.List.{range_with_len}
use Rattle.std.proofs.lemmas.Bool.{cases_lt, lt-ltb, le-ltb}
use Rattle.std.proofs.lemmas.List.{get_or_append_left, get_or-append_right, get_or-map, length-append, length-map}
use Rattle.std.proofs.lemmas.List.FromFn.{length-range_with_len, get_or-range_with_len}
use Rattle.bench.specs.declared.gates.Gate.{Gate}
use Rattle.bench.specs.Kinds.{gate_result}
use Rattle.player.specs.Plays.{register_of}
use Rattle.circuit.specs.Lanes.{Lane, play_on, gate_on, play_lane, run_plan}
use Rattle.player.specs.Pages.{gates_of, sockets_in}
use Rattle.plans.specs.declared.plays.Play.{Play}
use Rattle.plans.specs.Plays.{page_of, bases_of}
use Rattle.circuit.specs.Places.{place, distinct, fits_all, fits_gate}
use Rattle.circuit.proofs.Files.{Shows, File, ShowsAll, step_file, Effect, play_file}
use Rattle.circuit.proofs.Run.{and_l, and_r}

-- two addressings that agree on the page's numbers do the same
agree : (f f' : ℕ → ℕ) (n : ℕ) → ((i : ℕ) → i < n → f i ≡ f' i) → (gs : List Gate) (σ : Lane) → T (fits_all n gs) → (r : ℕ) → play_on f gs σ r ≡ play_on f' gs σ r
unfolding play_on gate_on fits_all
agree f f' n e [] σ fit r = refl
agree f f' n e (g ∷ gs) σ fit r =
    let k = g.kind in let t = g.target in let a = g.first in let b = g.second in
    let fit1 = and_l (fits_gate n g) (fits_all n gs) fit in
    let ht : t < n = ltb→lt t n (and_l (ltb t n) (ltb a n && ltb b n) fit1) in
    let fab = and_r (ltb t n) (ltb a n && ltb b n) fit1 in
    let ha : a < n = ltb→lt a n (and_l (ltb a n) (ltb b n) fab) in
    let hb : b < n = ltb→lt b n (and_r (ltb a n) (ltb b n) fab) in
    ap (λ (τ : Lane). play_on f gs τ r) (λ i x. cond (eqb x (e t ht i)) (gate_result k (σ (e a ha i)) (σ (e b hb i))) (σ x))
    ∙ agree f f' n e gs (gate_on f' g σ) (and_r (fits_gate n g) (fits_all n gs) fit) r

-- bases that are whole bytes
abbrev pub byte_bases : List ℕ → ℕ → List ℕ
byte_bases ps s = map (λ p. 8 * p) ps ++ (8 * s ∷ [])

address_place : (ps : List ℕ) (s q c : ℕ) → length ps ≡ q → (n : ℕ) → n < 8 * (q + c) → register_of q (byte_bases ps s) n ≡ place (ps ++ range_with_len s c) n
unfolding register_of
address_place ps s q c len n h = go (cases_lt n (8 * q))
  where
    go : (n < 8 * q) ⊎ (8 * q ≤ n) → register_of q (byte_bases ps s) n ≡ place (ps ++ range_with_len s c) n
    go (inl lt) =
        ap (λ (t : Bool). cond t (get_or (byte_bases ps s) (n / 8) 0 + n % 8) (get_or (byte_bases ps s) q 0 + (n - 8 * q))) (lt-ltb n (8 * q) lt)
        ∙ ap (λ (x : ℕ). x + n % 8) (get_or_append_left (map (λ p. 8 * p) ps) (8 * s ∷ []) 0 (n / 8) (omega (arith, length-map ps (λ p. 8 * p))) ∙ get_or-map (λ p. 8 * p) ps (n / 8) 0 0 (omega arith))
        ∙ ap (λ (x : ℕ). 8 * x + n % 8) (sym (get_or_append_left ps (range_with_len s c) 0 (n / 8) (omega arith)))
    go (inr ge) =
        ap (λ (t : Bool). cond t (get_or (byte_bases ps s) (n / 8) 0 + n % 8) (get_or (byte_bases ps s) q 0 + (n - 8 * q))) (le-ltb n (8 * q) ge)
        ∙ ap (λ (x : ℕ). x + (n - 8 * q)) (get_or-append_right (map (λ p. 8 * p) ps) (8 * s ∷ []) q q 0 (length-map ps (λ p. 8 * p) ∙ len) (omega arith) ∙ ap (λ (x : ℕ). get_or (8 * s ∷ []) x 0) (zeros q))
        ∙ last
        ∙ ap (λ (x : ℕ). 8 * x + n % 8) (sym (get_or-append_right ps (range_with_len s c) q (n / 8) 0 len (omega arith) ∙ get_or-range_with_len s c (n / 8 - q) 0 (omega arith)))
      where
        zeros : (q : ℕ) → q - q ≡ 0
        zeros q = omega arith

        last : 8 * s + (n - 8 * q) ≡ 8 * (s + (n / 8 - q)) + n % 8
        last = omega arith

shows_like : (σ τ : Lane) → ((r : ℕ) → σ r ≡ τ r) → (j : ℕ) (o : Option ℕ) → Shows σ j o → Shows τ j o
shows_like σ τ e j none h = tt
shows_like σ τ e j (some v) h = (h.0, λ i hi. sym (e (8 * j + i)) ∙ h.1 i hi)

-- a page that is proved: q sockets, c bytes of scratch
pub record Proved (inv : List ℕ) : Type 0 where
  pub page : List ℕ
  pub q : ℕ
  pub c : ℕ
  pub eff : File → File
  pub sockets : sockets_in page ≡ q
  pub make : List ℕ → Play
  pub is_page : (bs : List ℕ) → page_of inv (make bs) ≡ page
  pub is_bases : (bs : List ℕ) → bases_of (make bs) ≡ bs
  pub effect : Effect (gates_of page) (q + c) eff

-- a play of it at the bytes ps, with scratch from byte s
pub data Step (inv : List ℕ) : Type 0 where
  step : Proved inv → List ℕ → ℕ → Step inv

abbrev pub play_of : {inv : List ℕ} → Step inv → Play
play_of (step p ps s) = p.make (byte_bases ps s)

abbrev pub lawful : {inv : List ℕ} → Step inv → Bool
lawful (step p ps s) = eqb (length ps) p.q && distinct (ps ++ range_with_len s p.c)

abbrev pub lawful_all : {inv : List ℕ} → List (Step inv) → Bool
lawful_all [] = true
lawful_all (t ∷ ts) = lawful t && lawful_all ts

abbrev pub file_after : {inv : List ℕ} → List (Step inv) → File → File
file_after [] file = file
file_after (step p ps s ∷ ts) file = file_after ts (step_file (ps ++ range_with_len s p.c) p.eff file)

step_shows : (inv : List ℕ) (t : Step inv) → T (lawful t) → (σ : Lane) (file : File) → ShowsAll σ file → ShowsAll (play_lane inv (play_of t) σ) (file_after (t ∷ []) file)
unfolding play_lane
step_shows inv (step p ps s) ok σ file shows j =
    let len : length ps ≡ p.q = eqb→eq (length ps) p.q (and_l (eqb (length ps) p.q) (distinct (ps ++ range_with_len s p.c)) ok) in
    let apart = and_r (eqb (length ps) p.q) (distinct (ps ++ range_with_len s p.c)) ok in
    let P = ps ++ range_with_len s p.c in
    let long : length P ≡ p.q + p.c = length-append ps (range_with_len s p.c) ∙ ap₂ ◌+◌ len (length-range_with_len s p.c) in
    shows_like (play_on (place P) (gates_of p.page) σ) (play_lane inv (p.make (byte_bases ps s)) σ)
    (λ r. sym (ap₂ (λ (pg bs : List ℕ). play_on (register_of (sockets_in pg) bs) (gates_of pg) σ r) (p.is_page (byte_bases ps s)) (p.is_bases (byte_bases ps s))
    ∙ ap (λ (x : ℕ). play_on (register_of x (byte_bases ps s)) (gates_of p.page) σ r) p.sockets
    ∙ agree (register_of p.q (byte_bases ps s)) (place P) (8 * (p.q + p.c)) (address_place ps s p.q p.c len) (gates_of p.page) σ p.effect.fit r))
    j (get_or (step_file P p.eff file) j none)
    (play_file (gates_of p.page) (p.q + p.c) p.eff p.effect P long apart σ file shows j)

pub plan_shows : (inv : List ℕ) (ts : List (Step inv)) → T (lawful_all ts) → (σ : Lane) (file : File) → ShowsAll σ file → ShowsAll (run_plan inv (map play_of ts) σ) (file_after ts file)
unfolding run_plan
plan_shows inv [] ok σ file shows = shows
plan_shows inv (step p ps s ∷ ts) ok σ file shows =
    plan_shows inv ts (and_r (lawful (step p ps s)) (lawful_all ts) ok) (play_lane inv (play_of (step p ps s)) σ) (step_file (ps ++ range_with_len s p.c) p.eff file)
    (step_shows inv (step p ps s) (and_l (lawful (step p ps s)) (lawful_all ts) ok) σ file shows)
