use Rattle.pblk_world.specs.World.{log_of}
use Rattle.rest_laws.proofs.KnownViews.{copy_took, taken_before_void}
use Rattle.rest_laws.proofs.CountedCopies.{copies_fit, own_taken}
use Rattle.rest_laws.proofs.StaleSources.{stale_taken, whole_holds}
use Rattle.rest_laws.proofs.copying.copies_of_a_victim_were_live.Goals as goal

pub returns : goal.returns
returns c = record {
  fit = λ i w line from numbers mount some inside at_work all. copies_fit i w mount line numbers from some inside at_work all;
  itself = λ i w from number entry mark mount some low took named. own_taken i w mount 0 from number entry mark some low took named;
  stale = λ i w from lba source mount some within lives place stale. stale_taken i w mount from lba source some within lives (log_of w)
      (whole_holds i w mount) place stale;
  known = λ i w number from lba l source mount there some upto lives place stale.
      taken_before_void i w number l mount there from some upto lba source lives place stale;
  copy = copy_took;
}
