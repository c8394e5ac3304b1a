use Rattle.std.proofs.Common.{ℕ, ap, ◌∙◌, subst}
use Rattle.unit.specs.Held.{meaning}
use Rattle.unit.specs.View.{View}
use Rattle.law.specs.Calls.{asks, lines}
use Rattle.law.specs.Law.{Lawful, Isolated}
use Rattle.consoling.specs.Runs.{left_after}
use Rattle.consoling.proofs.Units.{log_over, left_over}
use Rattle.consoling.proofs.runs.run_scripts.Goals as goal

pub returns : goal.returns
returns g c =
    let ran = c.run_both-units.ensures in
    let m = meaning g.P.Bench c.args.one in
    let n = meaning g.Q.Bench c.args.two in
    let x = g.P.Bench.beneath c.args.one in
    let y = g.Q.Bench.beneath c.args.two in
    let cs = asks c.args.first.now in
    let bs = asks c.args.second.now in
    let xs = lines c.run_both-units.new.first in
    let ys = lines c.run_both-units.new.second in
    let one = ap (λ (v : View). v.model.left) ran.units.0 ∙ left_over m x cs in
    let two = ap (λ (v : View). v.model.left) ran.units.1 ∙ left_over n y bs in
    record {
      one = record { answers = ran.logs.0 ∙ log_over m x cs; law = subst (Lawful m.left xs) one ran.laws.0 };
      two = record { answers = ran.logs.1 ∙ log_over n y bs; law = subst (Lawful n.left ys) two ran.laws.1 };
      isolated = subst (λ (l : ℕ). Isolated m n cs bs xs ys l (left_after n bs)) one (subst (Isolated m n cs bs xs ys _) two ran.isolated);
    }
