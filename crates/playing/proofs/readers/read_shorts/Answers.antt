use Rattle.std.proofs.Common.{Some, vec_items, sym, ap, ◌∙◌, append-nil}
use Rattle.text.proofs.Pairs.{prefixed}
use Rattle.playing.specs.Commands.{shorts_in}
use Rattle.playing.proofs.readers.read_shorts.Goals as goal

pub returns : goal.returns
returns c =
    let had = vec_items c.loop-word.numbers in
    sym (c.loop-word.invariant ∙ ap (λ ws. prefixed had (shorts_in ws)) c.in-None.ensures.steps.0 ∙ ap Some (append-nil had))
