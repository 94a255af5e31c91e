use Rattle.ocssd_drive.proofs.UnitChunks.{wear_read, wear_within}
use Rattle.ocssd_drive.proofs.memory_unit.MemoryUnit.wear.Goals as goal

pub index-requires : goal.index-requires
index-requires c = wear_within c.self.inside c.args.self.now c.args.chunk c.self.view_is c.requires c.self.invariant

pub returns : goal.returns
returns c = wear_read c.self.inside c.args.self.now c.args.chunk c.self.view_is c.requires c.self.invariant _ c.index.ensures
