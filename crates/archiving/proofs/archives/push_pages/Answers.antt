use Rattle.std.proofs.Common.{vec_items}
use Rattle.archiving.proofs.Held.{extends_none, page_more, page_all}
use Rattle.archiving.proofs.archives.push_pages.Goals as goal

pub loop-play-init : goal.loop-play-init
loop-play-init c = extends_none (vec_items c.args.out.now)

pub loop-play-preserved : goal.loop-play-preserved
loop-play-preserved c =
    page_more c.args.inverter.now c.args.plays.now c.loop-play.play-index _ (vec_items c.args.out.now) (vec_items c.loop-play.out) (vec_items c.push_page.new.out)
    c.loop-play-test.true c.loop-play.invariant c.in_ok-push_page.ensures

pub returns : goal.returns
returns c =
    page_all c.args.inverter.now c.args.plays.now c.loop-play.play-index (vec_items c.args.out.now) (vec_items c.loop-play.out) c.loop-play-test.false c.loop-play.invariant
