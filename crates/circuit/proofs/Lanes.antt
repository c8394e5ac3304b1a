-- A lane of the bench under a plan is the lane under the same plays. Assumes nothing.
use Rattle.std.proofs.Common.{◌≡◌, ℕ, ◌<◌, Bool, true, false, cond, ◌&&◌, eqb, ltb, List, [], ◌∷◌, map, sym, refl, ap, ◌∙◌, subst}
use Rattle.std.proofs.lemmas.Bool.{lt-ltb}
use Rattle.bench.specs.Kinds.{gate_result}
use Rattle.bench.specs.Model.{Model, gated}
use Rattle.bench.specs.declared.gates.Gate.{Gate}
use Rattle.player.specs.Pages.{gates_of, sockets_in}
use Rattle.player.specs.Plays.{register_of, placed, ran, played}
use Rattle.player.proofs.Played.{done}
use Rattle.circuit.specs.Lanes.{gate_on, play_on, lane_of, play_lane, run_plan}
use Rattle.plans.specs.declared.plays.Play.{Play}
use Rattle.plans.specs.Plays.{page_of, bases_of, do_play, planned}

and_same : (a b : Bool) → b ≡ true → (a && b) ≡ a
and_same true b e = e
and_same false b e = refl

gate_lane : (q : ℕ) (bases : List ℕ) (g : Gate) (m : Model) (l : ℕ) → l < m.lanes
    → lane_of (done (placed q bases g) m) l ≡ gate_on (register_of q bases) g (lane_of m l)
unfolding gated gate_on
gate_lane q bases g m l h = λ i r.
    cond (and_same (eqb r (register_of q bases g.target)) (ltb l m.lanes) (lt-ltb l m.lanes h) i)
    (gate_result g.kind (m.bit (register_of q bases g.first) l) (m.bit (register_of q bases g.second) l)) (m.bit r l)

pub ran_lane : (q : ℕ) (bases : List ℕ) (gs : List Gate) (m : Model) (l : ℕ) → l < m.lanes
    → lane_of (ran (map (placed q bases) gs) m) l ≡ play_on (register_of q bases) gs (lane_of m l)
unfolding gated play_on
ran_lane q bases [] m l h = refl
ran_lane q bases (g ∷ gs) m l h =
    ran_lane q bases gs (done (placed q bases g) m) l h ∙ ap (play_on (register_of q bases) gs) (gate_lane q bases g m l h)

ran_lanes : (gs : List Gate) (m : Model) → (ran gs m).lanes ≡ m.lanes
unfolding gated
ran_lanes [] m = refl
ran_lanes (g ∷ gs) m = ran_lanes gs (done g m)

pub played_lanes : (page bases : List ℕ) (m : Model) → (played page bases m).lanes ≡ m.lanes
unfolding played
played_lanes page bases m = ran_lanes (map (placed (sockets_in page) bases) (gates_of page)) m

module _ (inv : List ℕ) where
  played_lane : (p : Play) (m : Model) (l : ℕ) → l < m.lanes → lane_of (do_play inv p m) l ≡ play_lane inv p (lane_of m l)
  unfolding played play_lane
  played_lane p m l h = ran_lane (sockets_in (page_of inv p)) (bases_of p) (gates_of (page_of inv p)) m l h

  pub planned_lane : (ps : List Play) (m : Model) (l : ℕ) → l < m.lanes → lane_of (planned inv ps m) l ≡ run_plan inv ps (lane_of m l)
  unfolding planned run_plan
  planned_lane [] m l h = refl
  planned_lane (p ∷ ps) m l h =
      planned_lane ps (do_play inv p m) l (subst (λ (n : ℕ). l < n) (sym (played_lanes (page_of inv p) (bases_of p) m)) h)
      ∙ ap (run_plan inv ps) (played_lane p m l h)
