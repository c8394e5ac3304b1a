-- No play of a plan that fits is refused, where enough gates are left. Assumes nothing.
use Rattle.std.proofs.Common.{◌≡◌, ℕ, ◌+◌, ◌-◌, ◌<◌, ◌≤◌, true, cond, eqb, ltb, List, [], ◌∷◌, map, length, get_or, Some, None, Ok, Option, sym, refl, ap, ◌∙◌, arith}
use Rattle.std.proofs.lemmas.Bool.{and_parts, and_from, le-ltb, ltb-false, eq-eqb, cond-true}
use Rattle.bench.specs.Model.{Model, Memory, after}
use Rattle.player.specs.Pages.{whole, ReadAs, gates_in, sockets_in, scratch_in, kinds_in, places_in, gates_of}
use Rattle.player.specs.Plays.{bases_at, first_below, overruns, play_answer, placed, played}
use Rattle.player.proofs.Places.{bases_count, bases_fit, first_none_at}
use Rattle.player.proofs.Played.{kinds_count, play_accepted, played_left, ran_registers}
use Rattle.plans.specs.declared.plays.Play.{Play}
use Rattle.plans.specs.Plays.{page_of, bases_of, ask_play, do_play, do_play_in, through, planned, planned_in, plan_gates, fit, none, and_then, plays_answer, carried}
use Rattle.plans.proofs.Counts.{page_whole}

as_read : (bytes : List ℕ) → ReadAs bytes (sockets_in bytes) (scratch_in bytes) (kinds_in bytes) (places_in bytes)
as_read bytes = record { sockets = refl; scratch = refl; kinds_are = refl; places_are = refl }

within_base : (R q c : ℕ) (bases : List ℕ) → bases_at R q c bases ≡ None → (k : ℕ) → k < q + 1 → get_or bases k 0 + cond (ltb k q) 8 c ≤ R
unfolding bases_at
within_base R q c bases fits k l =
    ltb-false R (get_or bases k 0 + cond (ltb k q) 8 c)
    (first_none_at (q + 1) (overruns R q c bases) k
    (sym (cond-true (eqb (length bases) (q + 1)) (first_below (q + 1) (overruns R q c bases)) (Some 17) (eq-eqb (length bases) (q + 1) (bases_count R q c bases fits))) ∙ fits) l)

-- bases that fit in few registers fit in more
pub bases_more : (R R' q c : ℕ) (bases : List ℕ) → R ≤ R' → bases_at R q c bases ≡ None → bases_at R' q c bases ≡ None
bases_more R R' q c bases h fits =
    bases_fit R' q c bases (bases_count R q c bases fits)
    (λ k l. le-ltb R' (get_or bases k 0 + cond (ltb k q) 8 c) (let b = within_base R q c bases fits k l in omega arith))

pub accepted : (bytes bases : List ℕ) (m : Model) → whole bytes ≡ true → bases_at m.registers (sockets_in bytes) (scratch_in bytes) bases ≡ None → gates_in bytes ≤ m.left
    → play_answer m bytes bases ≡ Ok tt
accepted bytes bases m w fits enough =
    play_accepted bytes (sockets_in bytes) (scratch_in bytes) (kinds_in bytes) (places_in bytes) w (as_read bytes) bases m fits
    (omega (arith, kinds_count bytes (sockets_in bytes) (scratch_in bytes) (kinds_in bytes) (places_in bytes) w (as_read bytes)))

pub left_after : (bytes bases : List ℕ) (m : Model) → whole bytes ≡ true → (played bytes bases m).left ≡ m.left - gates_in bytes
left_after bytes bases m w = played_left bytes (sockets_in bytes) (scratch_in bytes) (kinds_in bytes) (places_in bytes) w (as_read bytes) bases m

pub registers_after : (bytes bases : List ℕ) (m : Model) → (played bytes bases m).registers ≡ m.registers
unfolding played
registers_after bytes bases m = ran_registers (map (placed (sockets_in bytes) bases) (gates_of bytes)) m

pub none_is : (o : Option ℕ) → none o ≡ true → o ≡ None
none_is (Some i) e = absurd (let z : ◌≡◌ {A = ℕ} 0 1 = cc in omega arith)
none_is None e = refl

-- what fits in few registers fits in more
pub fit_more : (inv : List ℕ) (R R' : ℕ) → R ≤ R' → (ps : List Play) → fit inv R ps ≡ true → fit inv R' ps ≡ true
unfolding fit
fit_more inv R R' h [] t = refl
fit_more inv R R' h (p ∷ ps) t =
    let q = sockets_in (page_of inv p) in let c = scratch_in (page_of inv p) in let bs = bases_of p in
    let parts = and_parts (none (bases_at R q c bs)) (fit inv R ps) t in
    and_from (none (bases_at R' q c bs)) (fit inv R' ps) (ap none (bases_more R R' q c bs h (none_is (bases_at R q c bs) parts.0))) (fit_more inv R R' h ps parts.1)

module _ (inv : List ℕ) (w : whole inv ≡ true) where
  play_taken : (p : Play) (ps : List Play) (m : Model) → fit inv m.registers (p ∷ ps) ≡ true → plan_gates inv (p ∷ ps) ≤ m.left → ask_play inv p m ≡ Ok tt
  unfolding fit plan_gates
  play_taken p ps m t g =
      let q = sockets_in (page_of inv p) in let c = scratch_in (page_of inv p) in
      accepted (page_of inv p) (bases_of p) m (page_whole inv w p) (none_is (bases_at m.registers q c (bases_of p)) (and_parts (none (bases_at m.registers q c (bases_of p))) (fit inv m.registers ps) t).0) (omega arith)

  fit_next : (p : Play) (ps : List Play) (m : Model) → fit inv m.registers (p ∷ ps) ≡ true → fit inv (do_play inv p m).registers ps ≡ true
  unfolding fit
  fit_next p ps m t =
      ap (λ R. fit inv R ps) (registers_after (page_of inv p) (bases_of p) m)
      ∙ (and_parts (none (bases_at m.registers (sockets_in (page_of inv p)) (scratch_in (page_of inv p)) (bases_of p))) (fit inv m.registers ps) t).1

  gates_next : (p : Play) (ps : List Play) (m : Model) → plan_gates inv (p ∷ ps) ≤ m.left → plan_gates inv ps ≤ (do_play inv p m).left
  unfolding plan_gates
  gates_next p ps m g = omega (arith, left_after (page_of inv p) (bases_of p) m (page_whole inv w p))

  pub plan_answer_lem : (ps : List Play) (m : Model) → fit inv m.registers ps ≡ true → plan_gates inv ps ≤ m.left → plays_answer inv ps m ≡ Ok tt
  unfolding plays_answer
  plan_answer_lem [] m t g = refl
  plan_answer_lem (p ∷ ps) m t g =
      ap (λ r. and_then r (plays_answer inv ps (do_play inv p m))) (play_taken p ps m t g)
      ∙ plan_answer_lem ps (do_play inv p m) (fit_next p ps m t) (gates_next p ps m g)

  plan_through : {Y : Type 0} (f : Play → Y → Y) (ps : List Play) (m : Model) (y : Y) → fit inv m.registers ps ≡ true → plan_gates inv ps ≤ m.left → carried inv f ps m y ≡ through f ps y
  unfolding carried
  plan_through f [] m y t g = refl
  plan_through f (p ∷ ps) m y t g =
      ap (λ r. after r (carried inv f ps (do_play inv p m) (f p y)) y) (play_taken p ps m t g)
      ∙ plan_through f ps (do_play inv p m) (f p y) (fit_next p ps m t) (gates_next p ps m g)

  pub plan_leaves : (ps : List Play) (m : Model) → fit inv m.registers ps ≡ true → plan_gates inv ps ≤ m.left → carried inv (do_play inv) ps m m ≡ planned inv ps m
  unfolding planned
  plan_leaves ps m t g = plan_through (do_play inv) ps m m t g

  pub plan_beneath : (ps : List Play) (m : Model) (x : Memory) → fit inv m.registers ps ≡ true → plan_gates inv ps ≤ m.left → carried inv (do_play_in inv) ps m x ≡ planned_in inv ps x
  unfolding planned_in
  plan_beneath ps m x t g = plan_through (do_play_in inv) ps m x t g

  pub plan_falls : (ps : List Play) (m : Model) → plan_gates inv ps ≤ m.left → (planned inv ps m).left + plan_gates inv ps ≡ m.left
  unfolding planned plan_gates
  plan_falls [] m g = omega arith
  plan_falls (p ∷ ps) m g =
      let next = plan_falls ps (do_play inv p m) (gates_next p ps m g) in
      omega (arith, left_after (page_of inv p) (bases_of p) m (page_whole inv w p))
