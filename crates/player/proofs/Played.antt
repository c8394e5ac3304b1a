-- What an accepted play rests on, over plain values. Assumes nothing.
use Rattle.std.proofs.Common.{◌≡◌, ℕ, ◌-◌, ◌*◌, ◌≤◌, true, ltb, List, [], ◌∷◌, map, length, drop, None, Ok, Err, Result, sym, refl, ap, ◌∙◌, ap₂, arith}
use Rattle.std.proofs.lemmas.Bool.{le-ltb, cond-true, cond-false}
use Rattle.std.proofs.lemmas.List.{length-take-le, length-drop, length-map}
use Rattle.std.proofs.lemmas.List.FromFn.{length-map-range_with_len}
use Rattle.std.specs.List.{range_with_len}
use Rattle.bench.specs.declared.faults.Fault.{Fault}
use Rattle.bench.specs.Model.{Model, Memory, part, both, after, gated, gated_in}
use Rattle.bench.specs.declared.gates.Gate.{Gate}
use Rattle.player.specs.Pages.{whole, ReadAs, gates_in, sockets_in, scratch_in, gate_at, gates_from, gates_of}
use Rattle.player.specs.Plays.{placed, bases_at, ask_bases, ask_gates, play_answer, ran, played, ran_in, played_in}
use Rattle.player.proofs.Wholes.{page_length}

abbrev pub done : Gate → Model → Model
done g m = gated g.kind g.target g.first g.second m

abbrev pub done_in : Gate → Memory → Memory
done_in g x = gated_in g.kind g.target g.first g.second x

pub ran_registers : (gs : List Gate) (m : Model) → (ran gs m).registers ≡ m.registers
unfolding gated
ran_registers [] m = refl
ran_registers (g ∷ gs) m = ran_registers gs (done g m)

pub ran_left : (gs : List Gate) (m : Model) → (ran gs m).left ≡ m.left - length gs
unfolding gated
ran_left [] m = omega arith
ran_left (g ∷ gs) m = ran_left gs (done g m) ∙ omega arith

pub done_registers : (g : Gate) (m : Model) → (done g m).registers ≡ m.registers
unfolding gated
done_registers g m = refl

pub done_left : (g : Gate) (m : Model) → (done g m).left ≡ m.left - 1
unfolding gated
done_left g m = refl

pub gates_count : (kinds places : List ℕ) → length (gates_from kinds places) ≡ length kinds
unfolding gates_from
gates_count kinds places = length-map-range_with_len (gate_at kinds places) 0 (length kinds)

module _ (bytes : List ℕ) (q c : ℕ) (kinds places : List ℕ) (w : whole bytes ≡ true) (r : ReadAs bytes q c kinds places) where
  pub kinds_count : length kinds ≡ gates_in bytes
  kinds_count =
      ap length r.kinds_are
      ∙ length-take-le (gates_in bytes) (drop 6 bytes) (omega (arith, length-drop 6 bytes, page_length bytes w))

  pub places_count : length places ≡ 6 * length kinds
  places_count =
      ap length r.places_are
      ∙ length-drop (gates_in bytes) (drop 6 bytes)
      ∙ omega (arith, length-drop 6 bytes, page_length bytes w, kinds_count)

  pub gates_whole : gates_from kinds places ≡ gates_of bytes
  unfolding gates_from gates_of
  gates_whole = λ j. map (gate_at (r.kinds_are j) (r.places_are j)) (range_with_len 0 (kinds_count j))

  module _ (bases : List ℕ) (m : Model) where
    pub play_accepted : bases_at m.registers q c bases ≡ None → length kinds ≤ m.left → play_answer m bytes bases ≡ Ok tt
    play_accepted fit h =
        let b : bases_at m.registers (sockets_in bytes) (scratch_in bytes) bases ≡ None = ap₂ (λ x y. bases_at m.registers x y bases) (sym r.sockets) (sym r.scratch) ∙ fit in
        cond-true (whole bytes) (ask_bases (bases_at m.registers (sockets_in bytes) (scratch_in bytes) bases) (ask_gates (gates_in bytes) m.left)) _ w
        ∙ ap (λ o. ask_bases o (ask_gates (gates_in bytes) m.left)) b
        ∙ cond-false (ltb m.left (gates_in bytes)) _ (Ok tt) (le-ltb m.left (gates_in bytes) (omega (arith, kinds_count)))

    -- the gates in the page's own parts
    abbrev pub gates_placed : List Gate
    gates_placed = map (placed q bases) (gates_from kinds places)

    pub play_done : ran gates_placed m ≡ played bytes bases m
    unfolding played
    play_done = λ j. ran (map (placed (r.sockets j) bases) (gates_whole j)) m

    pub play_in_done : (x : Memory) → ran_in gates_placed x ≡ played_in bytes bases x
    unfolding played_in
    play_in_done x = λ j. ran_in (map (placed (r.sockets j) bases) (gates_whole j)) x

    -- the gates left fall by the page's gates, and the registers and lanes stay
    pub played_left : (played bytes bases m).left ≡ m.left - gates_in bytes
    played_left =
        sym (ap (λ (x : Model). x.left) play_done)
        ∙ ran_left gates_placed m
        ∙ ap (λ n. m.left - n) (length-map (gates_from kinds places) (placed q bases) ∙ gates_count kinds places ∙ kinds_count)

-- a play on two benches side by side is the play on each, and on a bottom bench alters its meaning alone
module _ (bytes bases : List ℕ) where
  ran_in_both : (gs : List Gate) (x y : Memory) → ran_in gs (both x y) ≡ both (ran_in gs x) (ran_in gs y)
  ran_in_both [] x y = refl
  ran_in_both (g ∷ gs) x y = ran_in_both gs (done_in g x) (done_in g y)

  ran_in_part : (gs : List Gate) (at : ℕ) (others : List ℕ) (m : Model) → ran_in gs (part at others m) ≡ part at others (ran gs m)
  ran_in_part [] at others m = refl
  ran_in_part (g ∷ gs) at others m = ran_in_part gs at others (done g m)

  pub after_both : (r : Result (Unit {0}) Fault) (x y : Memory) → after r (played_in bytes bases (both x y)) (both x y) ≡ both (after r (played_in bytes bases x) x) (after r (played_in bytes bases y) y)
  unfolding played_in
  after_both (Ok u) x y = ran_in_both (map (placed (sockets_in bytes) bases) (gates_of bytes)) x y
  after_both (Err e) x y = refl

  pub after_part : (r : Result (Unit {0}) Fault) (at : ℕ) (others : List ℕ) (m : Model)
      → after r (played_in bytes bases (part at others m)) (part at others m) ≡ part at others (after r (played bytes bases m) m)
  unfolding played_in played
  after_part (Ok u) at others m = ran_in_part (map (placed (sockets_in bytes) bases) (gates_of bytes)) at others m
  after_part (Err e) at others m = refl
