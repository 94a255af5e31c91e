use Rattle.world_tests.proofs.WrongEngine.{no_free_of_newest, no_free_before_start, no_free_twice, no_free_of_blank}
use Rattle.world_tests.proofs.wrong.wrong_frees_are_refused.Goals as goal

pub returns : goal.returns
returns c = record {
  newest = no_free_of_newest;
  early = no_free_before_start;
  twice = no_free_twice;
  blank = no_free_of_blank;
}
