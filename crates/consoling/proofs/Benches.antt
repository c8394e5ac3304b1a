-- A run, by the bench that it is told of. Assumes nothing.
use Rattle.std.proofs.Common.{◌≡◌, List, IfOk, Option, Result, subst}
use Rattle.bench.specs.Model.{Model}
use Rattle.playing.specs.declared.setups.Setup.{Setup}
use Rattle.law.specs.Calls.{Asked, Line}
use Rattle.consoling.specs.Runs.{RanOn}

-- the same run, told of an equal bench
pub ran_along : {X Y : Type 0} (r : Result X Y) (o : Option Setup) (cs bs : List Asked) (xs ys : List Line) (m n : Model) → IfOk r (λ _. RanOn m o cs bs xs ys) → m ≡ n → IfOk r (λ _. RanOn n o cs bs xs ys)
ran_along r o cs bs xs ys m n ran e = subst (λ (k : Model). IfOk r (λ _. RanOn k o cs bs xs ys)) e ran
