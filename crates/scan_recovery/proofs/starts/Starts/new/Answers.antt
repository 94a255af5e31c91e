use Rattle.std.proofs.Common.{refl}
use Rattle.scan_recovery.proofs.Surveys.{starts_new}
use Rattle.scan_recovery.proofs.starts.Starts.new.Goals as goal

pub returns : goal.returns
returns c = λ i. starts_new i _ c.new.ensures.items refl
