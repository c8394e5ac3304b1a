-- A lane of the model and its list agree after the same gates. Assumes nothing.
use Rattle.std.proofs.Common.{◌≡◌, ℕ, ◌<◌, Bool, true, false, eqb, ltb, List, [], ◌∷◌, length, get_or, set, sym, ap, ◌∙◌, ap₂, inl, inr, arith, length-set}
use Rattle.std.proofs.lemmas.Bool.{cases_Bool, lt-ltb, eqb-true, eqb-false}
use Rattle.std.proofs.lemmas.List.{get_or-set_same, get_or-set_other}
use Rattle.std.specs.List.{AllByRecursion as All}
use Rattle.bench.specs.Kinds.{gate_result}
use Rattle.bench.specs.Model.{Model, gated}
use Rattle.bench.specs.declared.gates.Gate.{Gate}
use Rattle.player.specs.Plays.{ran}
use Rattle.player.specs.Rows.{row_step, row_ran}
use Rattle.player.proofs.Played.{done}

-- the list has what the registers of lane l show
abbrev pub Shows : Model → ℕ → List Bool → Type 0
Shows m l xs = (r : ℕ) → r < length xs → m.bit r l ≡ get_or xs r false

abbrev pub Within : ℕ → Gate → Type 0
Within n g = (g.target < n) × ((g.first < n) × (g.second < n))

step_shows : (m : Model) (l : ℕ) (xs : List Bool) (g : Gate) → l < m.lanes → Within (length xs) g → Shows m l xs → Shows (done g m) l (row_step g xs)
unfolding gated
step_shows m l xs g h w s r below =
    let v : Bool = gate_result g.kind (get_or xs g.first false) (get_or xs g.second false) in
    let p : ltb l m.lanes ≡ true = lt-ltb l m.lanes h in
    let in_range : r < length xs = omega (arith, length-set xs g.target v) in
    elim (cases_Bool (eqb r g.target)) [
      | inl e ↦ rw (e, p) (ap₂ (gate_result g.kind) (s g.first w.1.0) (s g.second w.1.1)
          ∙ sym (ap (λ k. get_or (set xs g.target v) k false) (eqb-true r g.target e) ∙ get_or-set_same xs g.target v false w.0))
      | inr e ↦ rw e (s r in_range ∙ sym (get_or-set_other xs g.target r v false (eqb-false r g.target e)))
    ]

pub rows_show : (n : ℕ) (gs : List Gate) (m : Model) (l : ℕ) (xs : List Bool) → length xs ≡ n → l < m.lanes → All (Within n) gs → Shows m l xs → Shows (ran gs m) l (row_ran gs xs)
unfolding gated
rows_show n [] m l xs e h w s = s
rows_show n (g ∷ gs) m l xs e h w s =
    rows_show n gs (done g m) l (row_step g xs)
    (length-set xs g.target (gate_result g.kind (get_or xs g.first false) (get_or xs g.second false)) ∙ e)
    h w.1
    (step_shows m l xs g h (omega (arith, w.0.0), (omega (arith, w.0.1.0), omega (arith, w.0.1.1))) s)
