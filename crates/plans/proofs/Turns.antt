-- One turn of the loop that plays a plan. Assumes nothing.
use Rattle.std.proofs.Common.{◌≡◌, ℕ, ◌+◌, ◌<◌, ◌≤◌, List, length, get_or, drop, Ok, Err, sym, ap, ◌∙◌, ap₂}
use Rattle.std.proofs.lemmas.List.{drop_more, drop_all}
use Rattle.bench.specs.declared.faults.Fault.{Fault}
use Rattle.bench.specs.Model.{Model, after}
use Rattle.player.specs.Plays.{play_answer, played}
use Rattle.plans.specs.declared.plays.Play.{Play}
use Rattle.plans.specs.Plays.{page_of, bases_of, ask_play, do_play, and_then, plays_answer, carried}

module _ (inv : List ℕ) (xs : List Play) (i : ℕ) (d : Play) (below : i < length xs) (m : Model) {pb bs : List ℕ}
    (e : pb ≡ page_of inv (get_or xs i d)) (f : bs ≡ bases_of (get_or xs i d)) where
  asked : ask_play inv (get_or xs i d) m ≡ play_answer m pb bs
  asked = sym (ap₂ (play_answer m) e f)

  answer_step : plays_answer inv (drop i xs) m ≡ and_then (play_answer m pb bs) (plays_answer inv (drop (i + 1) xs) (do_play inv (get_or xs i d) m))
  unfolding plays_answer
  answer_step =
      ap (λ (ys : List Play). plays_answer inv ys m) (drop_more xs i d below)
      ∙ ap (λ r. and_then r (plays_answer inv (drop (i + 1) xs) (do_play inv (get_or xs i d) m))) asked

  carried_step : {Y : Type 0} (g : Play → Y → Y) (y : Y) → carried inv g (drop i xs) m y ≡ after (play_answer m pb bs) (carried inv g (drop (i + 1) xs) (do_play inv (get_or xs i d) m) (g (get_or xs i d) y)) y
  unfolding carried
  carried_step g y =
      ap (λ (ys : List Play). carried inv g ys m y) (drop_more xs i d below)
      ∙ ap (λ r. after r (carried inv g (drop (i + 1) xs) (do_play inv (get_or xs i d) m) (g (get_or xs i d) y)) y) asked

  -- a play that is refused
  module _ (x : Fault) (said : Err x ≡ play_answer m pb bs) where
    pub answer_stops : plays_answer inv (drop i xs) m ≡ Err x
    answer_stops = answer_step ∙ sym (ap (λ r. and_then r (plays_answer inv (drop (i + 1) xs) (do_play inv (get_or xs i d) m))) said)

    pub carried_stops : {Y : Type 0} (g : Play → Y → Y) (y : Y) → carried inv g (drop i xs) m y ≡ y
    carried_stops g y = carried_step g y ∙ sym (ap (λ r. after r (carried inv g (drop (i + 1) xs) (do_play inv (get_or xs i d) m) (g (get_or xs i d) y)) y) said)

  -- a play that is done
  module _ (u : Unit {0}) (said : Ok u ≡ play_answer m pb bs) (m' : Model) (is : m' ≡ played pb bs m) where
    next : do_play inv (get_or xs i d) m ≡ m'
    next = sym (is ∙ ap₂ (λ x y. played x y m) e f)

    pub answer_goes : plays_answer inv (drop i xs) m ≡ plays_answer inv (drop (i + 1) xs) m'
    answer_goes =
        answer_step ∙ sym (ap (λ r. and_then r (plays_answer inv (drop (i + 1) xs) (do_play inv (get_or xs i d) m))) said)
        ∙ ap (plays_answer inv (drop (i + 1) xs)) next

    pub carried_goes : {Y : Type 0} (g : Play → Y → Y) (y y' : Y) → g (get_or xs i d) y ≡ y' → carried inv g (drop i xs) m y ≡ carried inv g (drop (i + 1) xs) m' y'
    carried_goes g y y' q =
        carried_step g y ∙ sym (ap (λ r. after r (carried inv g (drop (i + 1) xs) (do_play inv (get_or xs i d) m) (g (get_or xs i d) y)) y) said)
        ∙ ap₂ (carried inv g (drop (i + 1) xs)) next q

module _ (inv : List ℕ) (xs : List Play) (i : ℕ) (m : Model) (end : length xs ≤ i) where
  pub answer_ends : plays_answer inv (drop i xs) m ≡ Ok tt
  unfolding plays_answer
  answer_ends = ap (λ (ys : List Play). plays_answer inv ys m) (drop_all i xs end)

  pub carried_ends : {Y : Type 0} (g : Play → Y → Y) (y : Y) → carried inv g (drop i xs) m y ≡ y
  unfolding carried
  carried_ends g y = ap (λ (ys : List Play). carried inv g ys m y) (drop_all i xs end)
