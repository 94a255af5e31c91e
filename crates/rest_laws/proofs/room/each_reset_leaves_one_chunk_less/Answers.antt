use Rattle.world_laws.proofs.EarlierLogs.{some_begun}
use Rattle.rest_laws.proofs.ChunkResets.{few_chunks}
use Rattle.rest_laws.proofs.RoomChanges.{before}
use Rattle.rest_laws.proofs.UnresetChanges.{engine_keeps_chunks, free_adds_chunks, reset_takes_chunk, unit_keeps_chunks}
use Rattle.rest_laws.proofs.room.each_reset_leaves_one_chunk_less.Goals as goal

pub returns : goal.returns
returns c = record {
  few = few_chunks;
  unit = λ i s w unit mount own. unit_keeps_chunks i s w mount unit own;
  kept = λ i s w e is.
      let b = some_begun i w (before i s w is.mount).legal is.has_begun in engine_keeps_chunks i s w is.mount is.own b.0 b.1 e is.decides;
  free = λ i s w line is.
      let b = some_begun i w (before i s w is.mount).legal is.has_begun in free_adds_chunks i s w is.mount is.own b.0 b.1 line is.decides;
  reset = λ i s w e is.
      let b = some_begun i w (before i s w is.step.mount).legal is.step.has_begun in
      reset_takes_chunk i s w is.step.mount is.step.own b.0 b.1 is.unit is.number e is.step.decides is.there;
}
