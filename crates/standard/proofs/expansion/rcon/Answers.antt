use Rattle.std.proofs.Common.{rules, ◌≡◌, ◌+◌, ◌-◌, length, sym, refl, ap, ◌∙◌, arith}
use Rattle.std.specs.List.{range_with_len}
use Rattle.std.proofs.iter.Yields.{nat_range_steps}
use Rattle.std.proofs.lemmas.Fn.{fold_over}
use Rattle.std.proofs.lemmas.Iterator.{YieldsList-from_range}
use Rattle.std.proofs.lemmas.List.FromFn.{length-range_with_len}
use Rattle.standard.specs.KeyExpansion.{Rcon}
use Rattle.standard.proofs.Words.{Rcon_next}
use Rattle.standard.proofs.expansion.rcon.Goals as goal

pub returns-then-n-eq0 : goal.returns-then-n-eq0
unfolding Rcon
returns-then-n-eq0 c = sym (ap Rcon c.if-n-eq0.true)

first : 1 ≡ Rcon 1
unfolding Rcon
first = refl

pub returns : goal.returns
returns c =
    let n = c.args.n in
    let yields = (YieldsList-from_range 1 n (n - 1) refl refl).runs in
    fold_over nat_range_steps (λ x. x) _ (λ xs power. power ≡ Rcon (length xs + 1)) _ (λ ys a x b f' e call. (Rcon_next ys a x b e (search rules), search rules)) (record { start = 1; end = n }) (range_with_len 1 (n - 1)) 1 _ yields first c.fold.ensures.ran
    ∙ ap Rcon (omega (arith, length-range_with_len 1 (n - 1)))
