use Rattle.pblk_model.proofs.LineOrder.{address_below, chunk_back, block_back}
use Rattle.pblk_model.proofs.line_order.address_is_of.Goals as goal

pub returns : goal.returns
returns c = λ s g k b ws whole chunk inside. (
  address_below s.ws_opt g s.clba k b ws whole chunk inside,
  chunk_back s.ws_opt g k b ws chunk,
  block_back s.ws_opt g k b ws chunk,
)
