use Rattle.world_laws.proofs.StartFits.{opening_fits, opening_narrow}
use Rattle.world_laws.proofs.mounts.a_line_is_opened_with_a_record_of_it.Goals as goal

pub returns : goal.returns
returns c = record {
  fits = λ i w o mount there. opening_fits i w o mount.legal there;
  width = λ i w o mount there. opening_narrow i w o mount.fit mount.legal there;
}
