use Rattle.playing.specs.Commands.{verb_in}
use Rattle.playing.proofs.readers.read_verb.Goals as goal

pub returns : goal.returns
unfolding verb_in
returns c = c.lookup.ensures
