use Rattle.std.proofs.Common.{rules, get_or, sym, ◌∙◌, ap₂}
use lib.Bits.{bit_xor}
use Rattle.standard.specs.Cipher.{AddRoundKey}
use Rattle.standard.proofs.Filling.{made}
use Rattle.standard.proofs.StateLaws.{sixteen_at}
use Rattle.standard.proofs.steps.add_round_key.Goals as goal

pub returns : goal.returns
returns c =
    made _ _ (λ i. bit_xor (get_or c.args.state.now i 0) (get_or c.args.key.now i 0)) 16 (λ x r f' small call. search rules) _ c.from_fn.ensures.items
    ∙ sym (ap₂ AddRoundKey (sixteen_at c.args.state.now c.told-state) (sixteen_at c.args.key.now c.told-key))
