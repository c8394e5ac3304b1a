use Rattle.std.proofs.Common.{◌≡◌, sym, ap, ◌∙◌, ap₂, arith}
use Rattle.standard.specs.Field.{mul, inverse}
use Rattle.standard.proofs.FieldLaws.{inverse_zero}
use Rattle.coordinates.specs.Tower.{over, g_of}
use Rattle.coordinates.proofs.TowerLaws.{inverse_by_pair, inverse_tower, every_byte}
use Rattle.coordinates.proofs.tower.inverse_by_tower.Goals as goal

is : (c : goal.After-over) → c.over.result ≡ inverse c.args.u
is c =
    let p = c.first_of-p.ensures in
    let q = c.second_of-q.ensures in
    let g = c.inverse-g.ensures.is ∙ ap inverse (c.norm.ensures ∙ ap₂ g_of p q) in
    c.over.ensures ∙ ap₂ over (c.mul.ensures ∙ ap₂ mul g q) (c.mul-2.ensures ∙ ap₂ mul g p) ∙ sym (inverse_by_pair c.args.u (omega arith))

pub returns : goal.returns
returns c = record { is = is c; zero = λ e. is c ∙ ap inverse e ∙ inverse_zero; formula = inverse_tower; once = every_byte }
