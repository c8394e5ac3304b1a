use Rattle.std.proofs.Common.{take, vec_items}
use Rattle.archiving.specs.Parts.{Extends, page_parts}
use Rattle.archiving.proofs.archives.push_pages.Given as goal

abbrev pub invariant-loop-play : goal.invariant-loop-play
invariant-loop-play l = Extends (page_parts l.inverter (take l.play-index l.plays)) (vec_items l.initial.out) (vec_items l.out)
