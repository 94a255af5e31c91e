use Rattle.block_port.proofs.PlacedLines.{own_stay, are_history, are_tiled}
use Rattle.block_port.proofs.laws.writes_by_place_are_the_history.Goals as goal

pub returns : goal.returns
returns c = record {
  each = own_stay;
  tiled = λ writes first claimed each. are_tiled writes each first claimed;
  history = λ writes history from to each. are_history writes each history from to;
}
