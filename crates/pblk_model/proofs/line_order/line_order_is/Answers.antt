use Rattle.pblk_model.proofs.OrderedBlocks.{order_exactly, order_length}
use Rattle.pblk_model.proofs.line_order.line_order_is.Goals as goal

pub returns : goal.returns
returns c = record { block = order_exactly; length = order_length }
