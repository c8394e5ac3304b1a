use Rattle.std.proofs.Common.{◌++◌, vec_items, sym, ap, ◌∙◌, append-nil}
use Rattle.player.specs.Pages.{gates_from}
use Rattle.archiving.proofs.listings.list_gates.Goals as goal

pub returns : goal.returns
returns c =
    let had = vec_items c.loop-gate.gates in
    sym (append-nil had)
    ∙ ap (λ gs. had ++ gs) (sym c.in-None.ensures.steps)
    ∙ c.loop-gate.invariant
    ∙ ap (λ x. gates_from x.kinds.now x.places.now) c.into_iter-gate-iterator.ensures.into_iter_gives
    ∙ c.gates-gate-items.ensures
