use Rattle.pblk_model.proofs.LineOrder.{chunk_below, block_below, address_back}
use Rattle.pblk_model.proofs.line_order.one_to_one.Goals as goal

pub returns : goal.returns
returns c = λ s g a ws whole wide inside. (
  chunk_below s.ws_opt g s.clba a wide,
  block_below s.ws_opt g s.clba a ws whole wide inside,
  address_back s.ws_opt g a ws,
)
