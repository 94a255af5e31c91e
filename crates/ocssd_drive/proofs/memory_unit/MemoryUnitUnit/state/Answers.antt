use Rattle.ocssd_drive.proofs.UnitChunks.{chunk_at, chunk_within}
use Rattle.ocssd_drive.proofs.memory_unit.MemoryUnitUnit.state.Goals as goal

pub index-found-requires : goal.index-found-requires
index-found-requires c = chunk_within c.self.inside c.args.self.now c.args.chunk c.self.view_is c.requires

pub returns : goal.returns
returns c = (
  c.index-found.result.now.chunk,
  (chunk_at c.self.inside c.args.self.now c.args.chunk _ c.self.invariant c.self.view_is c.requires c.index-found.ensures).there,
  c.state.ensures.state,
  c.state.ensures.pointer,
)
