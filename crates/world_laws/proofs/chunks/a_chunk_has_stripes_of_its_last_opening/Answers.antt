use Rattle.world_laws.proofs.FreedChunks.{blocks_of_last, done_of_last}
use Rattle.world_laws.proofs.chunks.a_chunk_has_stripes_of_its_last_opening.Goals as goal

pub returns : goal.returns
returns c = record {
  blocks = λ i w o line unit events at c block is got.
      blocks_of_last i w is.mount.accepted is.mount.fit is.mount.legal is.beginning is.begins unit line o is.last events at c block is.since is.within
      is.there got;
  done = λ i w o line unit events at index c blocks block is p got.
      done_of_last i w is.mount.accepted is.mount.fit is.mount.legal is.beginning is.begins unit line o is.last p.number events at index p.logged p.event
      blocks block c p.since p.there p.is_event p.of_line p.command p.done p.before is.within is.there got;
}
