use Rattle.std.proofs.Common.{rules, ◌+◌, ◌*◌, get_or}
use Rattle.standard.proofs.Filling.{made}
use Rattle.standard.proofs.cipher.key_in.Goals as goal

pub returns : goal.returns
returns c = made _ _ (λ i. get_or c.args.keys.now (16 * c.args.n + i) 0) 16 (λ x r f' small call. search rules) _ c.from_fn.ensures.items
