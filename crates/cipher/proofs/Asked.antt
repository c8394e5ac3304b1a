-- What the questions give. Assumes nothing.
use Rattle.std.proofs.Common.{◌≡◌, ℕ, ◌≤◌, Bool, true, ◌&&◌, leb, List, Ok, sym, refl, ◌∙◌, ap₂, arith}
use Rattle.std.proofs.lemmas.Bool.{and_parts, leb-true, le-ltb}
use Rattle.bench.specs.Model.{Model}
use Rattle.plans.specs.declared.plays.Play.{Play}
use Rattle.standard.specs.Kinds.{KeyKind}
use Rattle.plans.specs.Layout.{room}
use Rattle.plans.specs.Plays.{plan_gates}
use Rattle.cipher.specs.Claims.{sized, plan_answer}

module _ (inv : List ℕ) (κ : KeyKind) (ps : List Play) (m : Model) where
  accept : sized κ m.registers m.lanes ≡ true → plan_gates inv ps ≤ m.left → plan_answer inv κ ps m ≡ Ok tt
  accept e h = let t = le-ltb m.left (plan_gates inv ps) h in rw (e, t) refl

  -- by what the questions told
  module _ (registers lanes : ℕ) (fits : Bool) (r : registers ≡ m.registers) (l : lanes ≡ m.lanes) (f : fits ≡ sized κ registers lanes) where
    same_size : sized κ m.registers m.lanes ≡ fits
    same_size = sym (f ∙ ap₂ (sized κ) r l)

    pub told_room : fits ≡ true → (room κ) ≤ m.registers
    told_room e = leb-true (room κ) m.registers (and_parts (leb (room κ) m.registers) (leb 1 m.lanes && leb m.lanes 128) (same_size ∙ e)).0

    module _ (left needed : ℕ) (k : left ≡ m.left) (n : needed ≡ plan_gates inv ps) where
      pub told_accept : fits ≡ true → needed ≤ left → Ok tt ≡ plan_answer inv κ ps m
      told_accept e h = sym (accept (same_size ∙ e) (omega arith))
