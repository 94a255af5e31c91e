use Rattle.pblk_layout.specs.Online.{units_in}
use Rattle.pblk_layout.proofs.Orders.{placed}
use Rattle.pblk_layout.proofs.places.place.Goals as goal

pub returns : goal.returns
returns c = placed c.args.shape.now
    (units_in c.args.online) c.args.at c.width-width.result c.nth-unit.result c.line_order_is.ensures.block c.requires.accepted.drive.ws_opt
    c.requires.accepted.drive.whole_stripes c.width-width.ensures.width c.nth-unit.ensures c.requires.inside
