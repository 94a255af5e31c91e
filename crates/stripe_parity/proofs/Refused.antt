-- Why a unit wasn't made anew, and what is left then.
use Rattle.std.proofs.Common.{◌≡◌, ℕ, List, map, Some, refl, sym, ap, ap₂, ◌∙◌, subst}
use Rattle.std.specs.Prelude.{Option, Result, Ok, Err, IfErr}
use Rattle.pblk_model.specs.declared.shape.Shape.{Shape}
use Rattle.pblk_model.specs.Image.{Image}
use Rattle.unit_port.specs.Commands.{AreUnarmed}
use Rattle.unit_port.specs.Unit.{ModelUnit}
use Rattle.ocssd_drive.specs.Drive.{DriveView, shape_of, with_units}
use Rattle.ocssd_drive.specs.Units.{WornUnit}
use Rattle.scan_recovery.specs.declared.error.ScanErr.{ScanErr}
use Rattle.scan_recovery.specs.declared.error.ScanErr.TheVariants as scan
use Rattle.scan_recovery.specs.Fetches.{WereFetched}
use Rattle.scan_recovery.specs.Units.{image_of}
use Rattle.stripe_parity.specs.declared.error.ParityErr.{ParityErr}
use Rattle.stripe_parity.specs.declared.error.ParityErr.TheVariants as errors
use Rattle.stripe_parity.specs.declared.kept.KeptChunk.{KeptChunk}
use Rattle.stripe_parity.specs.ParityFile.{ParityFile, parity_of}
use Rattle.stripe_parity.specs.Rebuilding.{AgreeBut, AreAsKept, IsFirstDifference, drive_image}
use Rattle.stripe_parity.specs.Refusals.{IsFetchRefusal, IsRefusal, fetch_error, lost_fetch, refusal_of}
use Rattle.stripe_parity.proofs.Calm.{none_fails}
use Rattle.stripe_parity.proofs.RebuiltUnits.{agree_as_kept}

-- what a fetch was refused for is what a call is refused for
pub fetched_as : (s : Shape) (old new : List ModelUnit) (e : ScanErr) → WereFetched s old new (Some e) → WereFetched s old new (lost_fetch (refusal_of e))
fetched_as s old new (scan.Drive unit event) ran = ran
fetched_as s old new scan.Memory (events, h) = (events, record { fetches = h.fetches; next = h.next; units = h.units; ends = h.ends; image = h.image })

pub refused_as : (p : ParityFile) (i : Image) (lost : ℕ) (e : ScanErr) → AreAsKept p.chunks i lost → IsRefusal p i lost (refusal_of e)
refused_as p i lost (scan.Drive unit event) same = same
refused_as p i lost scan.Memory same = same

-- units that are armed with nothing want nothing but memory
pub wanting : (s : Shape) (old new : List ModelUnit) (e : ScanErr) → AreUnarmed old → WereFetched s old new (Some e) → refusal_of e ≡ errors.Memory
wanting s old new (scan.Drive unit event) calm ran = absurd (none_fails s old new unit event calm ran)
wanting s old new scan.Memory calm ran = refl

calm_refusal : (s : Shape) (old new : List ModelUnit) (why : ScanErr) → AreUnarmed old → WereFetched s old new (lost_fetch (refusal_of why))
    → refusal_of why ≡ errors.Memory
calm_refusal s old new (scan.Drive unit event) calm ran = absurd (none_fails s old new unit event calm ran)
calm_refusal s old new scan.Memory calm ran = refl

pub made_wanting : {T : Type 0} (s : Shape) (old new : List ModelUnit) (r : Result T ParityErr) → AreUnarmed old → IfErr r IsFetchRefusal
    → WereFetched s old new (fetch_error r) → IfErr r (λ e. e ≡ errors.Memory)
made_wanting s old new (Ok x) calm refused ran = tt
made_wanting s old new (Err e) calm (why, is) ran = is ∙ calm_refusal s old new why calm (subst (λ x. WereFetched s old new (lost_fetch x)) is ran)

-- a drive that agrees with the first one on the other units doesn't differ there
pub no_difference : (p : ParityFile) (first i : Image) (lost unit chunk : ℕ) → p ≡ parity_of first → AgreeBut lost first i
    → IsFirstDifference p.chunks i lost unit chunk → ⊥
no_difference p first i lost unit chunk is agree h =
    h.differs (subst (λ (ks : List (List KeptChunk)). AreAsKept ks i lost) (sym (ap (λ (q : ParityFile). q.chunks) is))
    (agree_as_kept first i lost agree) unit chunk h.other)

-- fetches leave the chunks of a drive as they were
pub image_kept : (s : Shape) (old new : DriveView) (e : Option ScanErr) → s ≡ shape_of old → new ≡ with_units new.units old
    → WereFetched s (map (λ (u : WornUnit). u.unit) old.units) (map (λ (u : WornUnit). u.unit) new.units) e
    → drive_image new ≡ drive_image old
image_kept s old new e same numbers ran =
    ap (λ (x : Shape). image_of x (map (λ (u : WornUnit). u.unit) new.units)) (ap shape_of numbers ∙ sym same) ∙ ran.1.image
    ∙ ap (λ (x : Shape). image_of x (map (λ (u : WornUnit). u.unit) old.units)) same

-- the chunks of a drive, from its units where they lie
pub image_from : (s : Shape) (d : DriveView) (us : List WornUnit) → s ≡ shape_of d → us ≡ d.units
    → image_of s (map (λ (u : WornUnit). u.unit) us) ≡ drive_image d
image_from s d us same units =
    ap₂ (λ (x : Shape) (ws : List WornUnit). image_of x (map (λ (u : WornUnit). u.unit) ws)) same units
