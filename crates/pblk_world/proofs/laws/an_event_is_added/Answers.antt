use Rattle.pblk_world.proofs.Appending.{named_more, life_more, openings_more, placements_more}
use Rattle.pblk_world.proofs.laws.an_event_is_added.Goals as goal
use Rattle.pblk_world.proofs.EngineLogLemmas.{answers_more, takes_more}

pub returns : goal.returns
returns c = record {
  takes = takes_more;
  answers = answers_more;
  named = named_more;
  life = life_more;
  openings = openings_more;
  placements = placements_more;
}
