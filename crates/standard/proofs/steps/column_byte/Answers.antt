use Rattle.std.proofs.Common.{◌≡◌, ℕ, ap, ◌∙◌, ap₂}
use lib.Bits.{bit_xor}
use Rattle.standard.specs.Field.{mul}
use Rattle.standard.specs.Columns.{row_of}
use Rattle.standard.proofs.steps.column_byte.Goals as goal

pub returns : goal.returns
unfolding row_of
returns c =
    let times : (x y v : ℕ) → x ≡ y → mul x v ≡ mul y v = λ x y v e. ap (λ (z : ℕ). mul z v) e in
    ap₂ bit_xor (c.mul-a.ensures ∙ times _ _ _ c.entry.ensures)
    (ap₂ bit_xor (c.mul-b.ensures ∙ times _ _ _ c.entry-2.ensures)
    (ap₂ bit_xor (c.mul-c.ensures ∙ times _ _ _ c.entry-3.ensures) (c.mul-d.ensures ∙ times _ _ _ c.entry-4.ensures)))
