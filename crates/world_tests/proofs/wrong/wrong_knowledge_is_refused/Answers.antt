use Rattle.world_tests.proofs.WrongUnits.{no_future, no_forgetting, no_missing, no_deciding_unit, no_other_author}
use Rattle.world_tests.proofs.wrong.wrong_knowledge_is_refused.Goals as goal

pub returns : goal.returns
returns c = record {
  future = no_future;
  forgotten = no_forgetting;
  own = no_missing;
  unit = no_deciding_unit;
  author = no_other_author;
}
