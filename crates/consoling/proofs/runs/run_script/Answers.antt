use Rattle.std.proofs.Common.{ap, ◌∙◌, subst}
use Rattle.unit.specs.Held.{meaning}
use Rattle.unit.specs.View.{View}
use Rattle.law.specs.Calls.{asks, lines}
use Rattle.law.specs.Law.{Lawful}
use Rattle.consoling.proofs.Units.{log_over, left_over}
use Rattle.consoling.proofs.runs.run_script.Goals as goal

pub returns : goal.returns
returns g c =
    let ran = c.run-unit.ensures in
    let m = meaning g.B.Bench c.args.bench in
    let x = g.B.Bench.beneath c.args.bench in
    let cs = asks c.args.log.now in
    record {
      answers = ran.log ∙ log_over m x cs;
      law = subst (Lawful m.left (lines c.run-unit.new.log)) (ap (λ (v : View). v.model.left) ran.«unit» ∙ left_over m x cs) ran.law;
    }
