use Rattle.std.proofs.Common.{refl, ◌∙◌}
use Rattle.std.proofs.lemmas.List.{length-set, map-set}
use Rattle.ocssd_drive.specs.Units.{IsChunkIn}
use Rattle.ocssd_drive.proofs.UnitChunks.{chunk_within, unit_of}
use Rattle.ocssd_drive.proofs.memory_unit.MemoryUnit.replace_chunk.Goals as goal
use Rattle.pblk_model.proofs.Parts.{all_set}

pub invariant_of-self : goal.invariant_of-self
invariant_of-self c =
    let u = c.self.inside in
    record {
      accepted = c.self.invariant.accepted;
      count = length-set u.chunks.items c.args.chunk c.args.with ∙ c.self.invariant.count;
      chunks = all_set (IsChunkIn u.shape) u.chunks.items c.args.chunk c.args.with c.self.invariant.chunks (rw (← c.self.view_is) at c.requires.with);
      worn = c.self.invariant.worn;
      worn_fits = c.self.invariant.worn_fits;
      by_arms = c.self.invariant.by_arms;
    }

pub returns-clause-replaced : goal.returns-clause-replaced
returns-clause-replaced c = rw (map-set, ← c.self.view_is) refl

pub returns-clause-fits : goal.returns-clause-fits
returns-clause-fits c = unit_of _ (invariant_of-self c)

pub index_mut-requires : goal.index_mut-requires
index_mut-requires c = chunk_within c.self.inside c.args.self.now c.args.chunk c.self.view_is c.requires.chunk
