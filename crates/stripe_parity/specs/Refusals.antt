-- Refusals, beside those of the fetches that they come from.
use Rattle.std.specs.Prelude.{ℕ, ◌≡◌, Option, Some, None, Result, Ok, Err}
use Rattle.pblk_model.specs.Image.{Image}
use Rattle.scan_recovery.specs.declared.error.ScanErr.{ScanErr}
use Rattle.scan_recovery.specs.declared.error.ScanErr.TheVariants as scan
use Rattle.stripe_parity.specs.declared.error.ParityErr.{ParityErr}
use Rattle.stripe_parity.specs.declared.error.ParityErr.TheVariants as errors
use Rattle.stripe_parity.specs.ParityFile.{ParityFile}
use Rattle.stripe_parity.specs.Rebuilding.{AreAsKept, IsFirstDifference}

-- what is told of a fetch that wasn't done
abbrev pub refusal_of : ScanErr → ParityErr
refusal_of (scan.Drive unit event) = errors.Drive unit event
refusal_of scan.Memory = errors.Memory

-- the fetch that wasn't done, if it is what a call was refused for
abbrev pub lost_fetch : ParityErr → Option ScanErr
lost_fetch (errors.Drive unit event) = Some (scan.Drive unit event)
lost_fetch errors.Magic = None
lost_fetch errors.Version = None
lost_fetch errors.Numbers = None
lost_fetch (errors.Short bytes) = None
lost_fetch errors.Long = None
lost_fetch (errors.State unit chunk) = None
lost_fetch (errors.Differs unit chunk) = None
lost_fetch errors.Memory = None

-- a call is refused for a fetch that wasn't done, or for want of memory
abbrev pub IsFetchRefusal : ParityErr → Type 0
IsFetchRefusal e = (why : ScanErr) × (e ≡ refusal_of why)

abbrev pub fetch_error : {T : Type 0} → Result T ParityErr → Option ScanErr
fetch_error (Ok x) = None
fetch_error (Err e) = lost_fetch e

-- why a unit isn't made anew: the chunk that differs, or else a fetch that wasn't done or want of memory
abbrev pub IsRefusal : ParityFile → Image → ℕ → ParityErr → Type 0
IsRefusal p i lost (errors.Differs unit chunk) = IsFirstDifference p.chunks i lost unit chunk
IsRefusal p i lost (errors.Drive unit event) = AreAsKept p.chunks i lost
IsRefusal p i lost errors.Memory = AreAsKept p.chunks i lost
IsRefusal p i lost errors.Magic = ⊥
IsRefusal p i lost errors.Version = ⊥
IsRefusal p i lost errors.Numbers = ⊥
IsRefusal p i lost (errors.Short bytes) = ⊥
IsRefusal p i lost errors.Long = ⊥
IsRefusal p i lost (errors.State unit chunk) = ⊥
