use Rattle.world_laws.proofs.LifeBlocks.{done_stands}
use Rattle.world_laws.proofs.OpenedChunks.{empty_at_base}
use Rattle.world_laws.proofs.chunks.an_opened_chunk_has_its_stripes.Goals as goal

pub returns : goal.returns
returns c = record {
  empty = empty_at_base;
  done = λ i w o line unit events at index c blocks block is is_open p got.
      done_stands i w is.mount.accepted is.mount.fit is.mount.legal is.beginning is.begins unit line o is_open p.number events at index p.logged p.event
      blocks block c p.since p.there p.is_event p.of_line p.command p.done p.before is.within is.there got;
}
