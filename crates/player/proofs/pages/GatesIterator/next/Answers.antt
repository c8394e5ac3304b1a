use Rattle.std.proofs.Common.{◌∷◌, ◌∙◌, sym}
use Rattle.std.proofs.lemmas.List.{take_rest}
use Rattle.player.specs.Pages.{gates_from}
use Rattle.player.proofs.Listed.{gates_none, gates_split}
use Rattle.player.proofs.pages.GatesIterator.next.Goals as goal

pub returns-in_default-clause-steps : goal.returns-in_default-clause-steps
returns-in_default-clause-steps c = gates_none c.args.self.now.kinds.now c.args.self.now.places.now c.in_default.len_below

pub returns-clause-steps : goal.returns-clause-steps
returns-clause-steps c =
    let kinds = c.args.self.now.kinds.now in
    let places = c.args.self.now.places.now in
    gates_split kinds places c.in-len1-up.len_at_least c.in-len6-up.len_at_least
    ∙ (λ j. record {
      kind = sym c.kind_at.ensures j;
      target = sym c.from_be_bytes.ensures j;
      first = sym c.from_be_bytes-2.ensures j;
      second = sym c.from_be_bytes-3.ensures j;
    } ∷ gates_from (sym (take_rest kinds 1) j) (sym (take_rest places 6) j))
