use Rattle.std.proofs.Common.{rules}
use Rattle.law.specs.Calls.{asks, lines}
use Rattle.consoling.proofs.Benches.{ran_along}
use Rattle.consoling.proofs.runs.run_setups.Goals as goal

pub returns-5 : goal.returns-5
returns-5 c = ran_along c.run_on-5.result c.args.other (asks c.args.first.now) (asks c.args.second.now) (lines c.run_on-5.new.first) (lines c.run_on-5.new.second) _ _ c.run_on-5.ensures (search rules)

pub returns-6 : goal.returns-6
returns-6 c = ran_along c.run_on-6.result c.args.other (asks c.args.first.now) (asks c.args.second.now) (lines c.run_on-6.new.first) (lines c.run_on-6.new.second) _ _ c.run_on-6.ensures (search rules)
