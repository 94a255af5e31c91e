use Rattle.world_laws.proofs.EarlierLogs.{some_begun}
use Rattle.rest_laws.proofs.NothingFailed.{faultless_kept, faultless_wide}
use Rattle.rest_laws.proofs.TidyFound.{still_free, still_whole}
use Rattle.rest_laws.proofs.faultless.a_faultless_mount_loses_nothing.Goals as goal

pub returns : goal.returns
returns c = record {
  lost = faultless_kept;
  whole = λ i w mount some fine whole. let b = some_begun i w mount.legal some in still_whole i w mount b.0 b.1 fine whole;
  wide = λ i w mount some fine whole. let b = some_begun i w mount.legal some in faultless_wide i w mount b.0 b.1 fine whole;
  free = λ i w mount some fine whole. let b = some_begun i w mount.legal some in still_free i w mount b.0 b.1 fine whole;
}
