use Rattle.std.proofs.Common.{vec_items, codes}
use Rattle.archiving.specs.Listings.{listed_text, gates_text}
use Rattle.archiving.proofs.Written.{pushed_as}
use Rattle.archiving.proofs.Listed.{listed_whole, listed_not}
use Rattle.archiving.proofs.listings.push_gates.Goals as goal

pub returns : goal.returns
returns c =
    let p = c.in-Ok.page in
    let h = c.in-Ok.ensures in
    pushed_as c.push_listed.result (vec_items c.args.out.now) (listed_text p.kinds.now p.places.now p.sockets p.scratch) (gates_text c.args.bytes.now) (vec_items c.push_listed.new.out)
    (listed_whole c.args.bytes.now p.sockets p.scratch p.kinds.now p.places.now h.0 h.1) c.push_listed.ensures

pub returns-in_default : goal.returns-in_default
returns-in_default c =
    pushed_as c.push_text.result (vec_items c.args.out.now) (codes "These bytes are no whole page.\n") (gates_text c.args.bytes.now) (vec_items c.push_text.new.out)
    (listed_not c.args.bytes.now c.in_default.ensures.0) c.push_text.ensures
