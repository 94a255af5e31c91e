use Rattle.settle_laws.proofs.Ends.{ends}
use Rattle.rest_laws.proofs.TidyRoom.{reasoned}
use Rattle.settle_laws.proofs.quiet.a_quiet_mount_comes_to_an_end.Goals as goal

pub returns : goal.returns
returns c = record {
  reasoned = λ i w from is begun some within quiet. ends i w is from begun some within quiet;
  tidy = λ i w from is after reasons left begun some within quiet.
      ends i w (reasoned i w is after reasons left) from begun some within quiet;
}
