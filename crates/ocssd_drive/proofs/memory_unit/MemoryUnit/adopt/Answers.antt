use Rattle.std.proofs.Common.{◌<◌, refl, ◌∙◌, arith}
use Rattle.std.proofs.lemmas.List.{length-set, map-set}
use Rattle.ocssd_drive.specs.Units.{IsChunkIn}
use Rattle.ocssd_drive.proofs.Restoring.{chunk_is}
use Rattle.ocssd_drive.proofs.UnitChunks.{IsAt, at_place, chunk_within, unit_of, wear_within}
use Rattle.ocssd_drive.proofs.memory_unit.MemoryUnit.adopt.Goals as goal
use Rattle.ocssd_drive.proofs.memory_unit.MemoryUnit.adopt.Goals.{After-index_mut-found}
use Rattle.pblk_model.proofs.Parts.{all_set}

-- the chunk that was found is the unit's
found : (c : After-index_mut-found) → IsAt c.self.inside c.args.chunk c.index_mut-found.result.now
found c = at_place c.self.inside c.args.chunk _ c.self.invariant (rw (← c.self.view_is) at c.requires.chunk) c.index_mut-found.ensures.value

pub adopt-requires-clause-whole : goal.adopt-requires-clause-whole
adopt-requires-clause-whole c = rw ((found c).fits.shape) (rw (← c.self.view_is) at c.requires.whole)

pub adopt-requires-clause-place : goal.adopt-requires-clause-place
adopt-requires-clause-place c = rw ((found c).fits.shape) (rw (← c.self.view_is) at c.requires.place)

pub adopt-requires-clause-multiple : goal.adopt-requires-clause-multiple
adopt-requires-clause-multiple c = rw ((found c).fits.shape) (rw (← c.self.view_is) at c.requires.multiple)

pub invariant_of-self : goal.invariant_of-self
invariant_of-self c =
    let u = c.self.inside in
    let f = found (goal.at.invariant_of-self c).After-index_mut-found in
    let left : IsChunkIn u.shape c.adopt.new.self = record {
      shape = c.adopt.ensures.shape ∙ f.fits.shape;
      fits = rw (c.adopt.ensures.shape, f.fits.shape) at c.adopt.ensures.fits;
    } in
    record {
      accepted = c.self.invariant.accepted;
      count = length-set u.chunks.items c.args.chunk c.adopt.new.self ∙ c.self.invariant.count;
      chunks = all_set (IsChunkIn u.shape) u.chunks.items c.args.chunk c.adopt.new.self c.self.invariant.chunks left;
      worn = length-set u.wear.items c.args.chunk c.args.wear ∙ c.self.invariant.worn;
      worn_fits = all_set (λ w. w < 256) u.wear.items c.args.chunk c.args.wear c.self.invariant.worn_fits (omega arith);
      by_arms = c.self.invariant.by_arms;
    }

pub returns-clause-restored : goal.returns-clause-restored
returns-clause-restored c =
    let f = found (goal.at.returns-clause-restored c).After-index_mut-found in
    let now = c.adopt.new.self.chunk in
    record {
      blocks = now.blocks;
      spelling = c.adopt.ensures.blocks.spelling;
      count_is = c.adopt.ensures.blocks.count_is;
      is = rw (map-set, chunk_is now c.args.state c.adopt.ensures.state, ← c.self.view_is) refl;
    }

pub returns-clause-fits : goal.returns-clause-fits
returns-clause-fits c = unit_of _ (invariant_of-self c)

pub index_mut-requires : goal.index_mut-requires
index_mut-requires c = wear_within c.self.inside c.args.self.now c.args.chunk c.self.view_is c.requires.chunk c.self.invariant

pub index_mut-found-requires : goal.index_mut-found-requires
index_mut-found-requires c = chunk_within c.self.inside c.args.self.now c.args.chunk c.self.view_is c.requires.chunk
