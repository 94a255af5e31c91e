use Rattle.rest_laws.proofs.NeverStuck.{fewer_in_all, fewer_of_prefix, fewer_wait}
use Rattle.rest_laws.proofs.never_stuck.what_waits_is_less_than_the_addresses.Goals as goal

pub returns : goal.returns
returns c = record {
  length = λ i w n is some within reset. fewer_wait i w n is some within reset;
  prefix = λ i w n is some within reset. fewer_of_prefix i w is n some within reset;
  end = λ i w is some reset. fewer_in_all i w is some reset;
}
