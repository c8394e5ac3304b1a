use Rattle.std.proofs.Common.{sym, ap}
use Rattle.standard.specs.Kinds.{aes128}
use Rattle.plans.specs.Plans.{stages_to, words_to, open_to, plays_of}
use Rattle.plans.proofs.tables.Plan.plays.Goals as goal

pub returns-in-Schedule : goal.returns-in-Schedule
unfolding words_to
returns-in-Schedule c = ap (λ p. plays_of p aes128) (sym c.in-Schedule.is)

pub returns-in-Seal : goal.returns-in-Seal
unfolding stages_to
returns-in-Seal c = ap (λ p. plays_of p aes128) (sym c.in-Seal.is)

pub returns-in-Open : goal.returns-in-Open
unfolding open_to
returns-in-Open c = ap (λ p. plays_of p aes128) (sym c.in-Open.is)
