use Rattle.std.proofs.Common.{◌≡◌, ◌+◌, ◌<◌, ◌∷◌, length, sym, ap, ◌∙◌, arith}
use Rattle.std.proofs.lemmas.Bool.{eqb-false}
use Rattle.text.specs.Text.{lines_in}
use Rattle.text.specs.Ahead.{Ahead}
use Rattle.text.proofs.LineLemmas.{line_split}
use Rattle.text.proofs.lines.LinesIterator.next.Goals as goal

module _ (c : goal.After-self-1) where
  one_off : c.args.self.now.lines ≡ c.split_line.result.0.now ∷ lines_in c.split_line.result.1.now
  one_off =
      let text = c.self.inside.rest.now in
      let some : 0 < length text = omega (arith, eqb-false (length text) 0 (sym c.if-is_empty.ensures)) in
      sym (ap (λ (a : Ahead). a.lines) c.self.view_is)
      ∙ line_split text c.split_line.result.0.now c.split_line.result.1.now some c.split_line.ensures.line c.split_line.ensures.rest

pub returns-clause-steps : goal.returns-clause-steps
returns-clause-steps c = (one_off c, ap (λ (a : Ahead). a.next) c.self.view_is, ap (λ (a : Ahead). a.next + 1) c.self.view_is)

pub returns-clause-goes : goal.returns-clause-goes
returns-clause-goes c = record { on = λ _. (tt, tt, omega (arith, ap length (one_off c))); keeps = tt; rests = λ _. tt }
