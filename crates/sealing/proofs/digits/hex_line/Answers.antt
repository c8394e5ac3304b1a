use Rattle.std.proofs.Common.{rules, ℕ, ◌/◌, ◌%◌, [], ◌∷◌, ◌++◌, get_or, sym, ap, ◌∙◌}
use Rattle.standard.proofs.Filling.{made}
use Rattle.standard.proofs.StateLaws.{sixteen_at}
use Rattle.text.specs.Text.{hex_digit, hex_pairs}
use Rattle.sealing.proofs.digits.hex_line.Goals as goal

pub returns : goal.returns
returns c =
    let bytes = c.args.bytes.now in
    let at = λ (place : ℕ). get_or (hex_digit (get_or bytes (place / 2) 0 / 16) ∷ hex_digit (get_or bytes (place / 2) 0 % 16) ∷ []) (place % 2) 0 in
    let digits = made _ _ at 32 (λ x r f' small call. search rules) _ c.from_fn-digits.ensures.items ∙ sym (ap hex_pairs (sixteen_at bytes c.told-bytes)) in
    ap (λ l. l ++ (10 ∷ [])) (c.copy_from_slice.ensures.after ∙ digits)
