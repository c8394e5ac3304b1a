use Rattle.law.proofs.Whole.{isolated_of}
use Rattle.law.proofs.run.run_both.Goals as goal

pub returns : goal.returns
returns g c =
    let a = c.run-a.ensures in
    let b = c.run-b.ensures in
    record {
      logs = (a.log, b.log);
      units = (a.unit, b.unit);
      laws = (a.law, b.law);
      isolated = isolated_of _ _ _ _ _ _ _ _ _ _ a.sound b.sound a.log b.log a.unit b.unit;
    }
