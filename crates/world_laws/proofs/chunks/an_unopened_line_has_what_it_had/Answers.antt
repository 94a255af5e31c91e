use Rattle.world_laws.proofs.UnopenedLines.{as_found, freed_old}
use Rattle.world_laws.proofs.chunks.an_unopened_line_has_what_it_had.Goals as goal

pub returns : goal.returns
returns c = record {
  start = λ i w mount b begins line sealed is. (as_found i w mount b begins line sealed is).start;
  records = λ i w mount b begins line sealed is. (as_found i w mount b begins line sealed is).bears;
  freed = freed_old;
}
