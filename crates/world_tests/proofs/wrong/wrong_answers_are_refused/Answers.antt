use Rattle.world_tests.proofs.WrongUnits.{no_unknown_answer, no_failed_lands, no_second_landing, no_lost_done, no_done_again, no_program_as_reset}
use Rattle.world_tests.proofs.wrong.wrong_answers_are_refused.Goals as goal

pub returns : goal.returns
returns c = record {
  unknown = no_unknown_answer;
  failed = no_failed_lands;
  twice = no_second_landing;
  lost = no_lost_done;
  again = no_done_again;
  reset = no_program_as_reset;
}
