-- Gates, pages and plans on one lane. Assumes nothing.
--
--   Lane              what the registers of one lane show
--   lane_of m l       lane l of a bench's meaning
--   play_on f gs σ    the lane σ after the gates gs, whose numbers stand for registers by f
--   run_plan inv ps   a lane after a plan, where inv is played as the inverter
use Rattle.std.specs.Prelude.{ℕ, Bool, cond, List, [], ◌∷◌, ◌==◌}
use Rattle.bench.specs.Kinds.{gate_result}
use Rattle.bench.specs.Model.{Model}
use Rattle.bench.specs.declared.gates.Gate.{Gate}
use Rattle.player.specs.Pages.{gates_of, sockets_in}
use Rattle.player.specs.Plays.{register_of}
use Rattle.plans.specs.declared.plays.Play.{Play}
use Rattle.plans.specs.Plays.{page_of, bases_of}

abbrev pub Lane : Type 0
Lane = ℕ → Bool

abbrev pub lane_of : Model → ℕ → Lane
lane_of m l r = m.bit r l

unfoldable pub gate_on : (ℕ → ℕ) → Gate → Lane → Lane
gate_on f g σ r = cond (r == f g.target) (gate_result g.kind (σ (f g.first)) (σ (f g.second))) (σ r)

unfoldable pub play_on : (ℕ → ℕ) → List Gate → Lane → Lane
play_on f [] σ = σ
play_on f (g ∷ gs) σ = play_on f gs (gate_on f g σ)

unfoldable pub play_lane : List ℕ → Play → Lane → Lane
play_lane inv p σ = play_on (register_of (sockets_in (page_of inv p)) (bases_of p)) (gates_of (page_of inv p)) σ

unfoldable pub run_plan : List ℕ → List Play → Lane → Lane
run_plan inv [] σ = σ
run_plan inv (p ∷ ps) σ = run_plan inv ps (play_lane inv p σ)
