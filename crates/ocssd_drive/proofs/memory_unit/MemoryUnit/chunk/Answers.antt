use Rattle.ocssd_drive.proofs.UnitChunks.{chunk_at, chunk_within}
use Rattle.ocssd_drive.proofs.UnitChunks.{fit}
use Rattle.ocssd_drive.proofs.memory_unit.MemoryUnit.chunk.Goals as goal

pub returns-clause-fits : goal.returns-clause-fits
returns-clause-fits c = rw (← c.self.view_is) (fit c.self.inside c.self.invariant)

pub index-requires : goal.index-requires
index-requires c = chunk_within c.self.inside c.args.self.now c.args.chunk c.self.view_is c.requires

pub returns-clause-chunk : goal.returns-clause-chunk
returns-clause-chunk c = (chunk_at c.self.inside c.args.self.now c.args.chunk _ c.self.invariant c.self.view_is c.requires c.index.ensures).there

pub returns-clause-shape : goal.returns-clause-shape
returns-clause-shape c = (chunk_at c.self.inside c.args.self.now c.args.chunk _ c.self.invariant c.self.view_is c.requires c.index.ensures).shape
