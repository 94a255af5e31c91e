use Rattle.pblk_model.proofs.Lists.{among_contained}
use Rattle.pblk_model.proofs.Parts.{contained_among}
use Rattle.pblk_world.specs.World.{log_of}
use Rattle.pblk_world.specs.EngineLog.{takes}
use Rattle.world_laws.proofs.SectorValues.{found_is_held, latest_is_held}
use Rattle.world_laws.proofs.chunks.a_sector_holds_its_latest_entry.Goals as goal

pub returns : goal.returns
returns c = record {
  latest = λ i w lba position t mount inside there of_it below greatest. latest_is_held i w mount lba position inside t (record {
    there = among_contained (takes (log_of w 0)) t there;
    of_it = of_it;
    below = below;
    greatest = λ u at. greatest u (contained_among (takes (log_of w 0)) u at);
  });
  found = λ i w lba position mount inside none. found_is_held i w mount lba position inside (λ u at. none u (contained_among (takes (log_of w 0)) u at));
}
