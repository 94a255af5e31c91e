use Rattle.pblk_core.proofs.StandsTold.{collects_told, copies_told, resets_told, stands_told, work_told}
use Rattle.pblk_core.proofs.growth.a_core_stands_for_what_was_told.Goals as goal

pub returns : goal.returns
returns c = record {
  stands = λ i logs other core h. stands_told i logs other h core;
  collects = λ i logs other core h. collects_told i logs other h core;
  resets = resets_told;
  copies = copies_told;
  work = work_told;
}
