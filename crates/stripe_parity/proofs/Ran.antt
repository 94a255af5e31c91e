-- Fetches one after another, where a call ends by what the last one was refused for.
use Rattle.std.proofs.Common.{◌≡◌, List, None, Some, Result, IsErrAnd}
use Rattle.std.proofs.lemmas.Result.{err_from_is_err_and}
use Rattle.pblk_model.specs.declared.shape.Shape.{Shape}
use Rattle.unit_port.specs.Unit.{ModelUnit}
use Rattle.scan_recovery.specs.declared.error.ScanErr.{ScanErr}
use Rattle.scan_recovery.specs.declared.error.ScanErr.TheVariants as scan
use Rattle.scan_recovery.specs.Fetches.{WereFetched, error_of}
use Rattle.scan_recovery.proofs.FetchSteps.{fetched_joined, no_memory}

-- the last fetches were refused for what the call is refused for
pub lost_at_last : {T : Type 0} {s : Shape} {old mid new : List ModelUnit} {e : ScanErr} (r : Result T ScanErr) → IsErrAnd r (λ x. x ≡ e)
    → WereFetched s old mid None → WereFetched s mid new (Some e) → WereFetched s old new (error_of r)
lost_at_last r is ran last =
    let p = err_from_is_err_and r is in
    rw (p.1, p.2) (fetched_joined _ _ _ _ _ ran last)

-- memory was wanting after them
pub wanting_at_last : {T : Type 0} {s : Shape} {old new : List ModelUnit} (r : Result T ScanErr) → IsErrAnd r (λ x. x ≡ scan.Memory)
    → WereFetched s old new None → WereFetched s old new (error_of r)
wanting_at_last r is ran =
    let p = err_from_is_err_and r is in
    rw (p.1, p.2) (no_memory _ _ _ ran)
