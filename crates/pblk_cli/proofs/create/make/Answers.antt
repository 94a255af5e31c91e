use Rattle.std.proofs.Common.{◌≡◌, ◌++◌, ◌∙◌, Some, None, ap, subst}
use Rattle.std.specs.Prelude.{◌⊎◌}
use Rattle.command_words.specs.Words.{numbers_seen}
use Rattle.pblk_model.specs.declared.image.ImageErr.TheVariants as errors
use Rattle.pblk_model.specs.CommandText.{blank_refusal}
use Rattle.pblk_model.specs.ImageFile.{IsImage, blank_drive, image_bytes, image_of}
use Rattle.ocssd_geometry.specs.Numbers.{numbers_of}
use Rattle.ocssd_drive.specs.Drive.{stored}
use Rattle.pblk_cli.specs.Creating.{MakesNothing}
use Rattle.pblk_cli.proofs.Refusing.{error_holds, makes_nothing, of_error, of_value}
use Rattle.rest_laws.specs.Tidy.{IsTidy}
use Rattle.pblk_cli.proofs.CreatedDrives.{blank_drive_is_tidy}
use Rattle.pblk_cli.proofs.create.make.Goals as goal

pub returns-in_err-drive-clause-refused : goal.returns-in_err-drive-clause-refused
returns-in_err-drive-clause-refused c = let n = numbers_seen c.args.numbers.now in
    let e = c.in_err-drive.field-0.0 in
    let said = of_error (blank_refusal
    (numbers_of c.geometry_of-geometry.result) n.sector n.capacity n.ring) c.blank.result e c.in_err-drive.was c.blank.ensures.refused c.blank.ensures.taken in
    error_holds (MakesNothing n) e c.from_residual.result c.from_residual.ensures.1
    (makes_nothing n e (subst (λ g. ((e ≡ errors.Memory)
    × (blank_refusal g n.sector n.capacity n.ring ≡ None)) ⊎ (blank_refusal g n.sector n.capacity n.ring ≡ Some e)) c.geometry_of-geometry.ensures said))

pub returns-in-Ok-clause-accepted : goal.returns-in-Ok-clause-accepted
returns-in-Ok-clause-accepted c = let n = numbers_seen c.args.numbers.now in
    subst (λ g. blank_refusal g n.sector n.capacity n.ring ≡ None) c.geometry_of-geometry.ensures
    (of_value (blank_refusal (numbers_of c.geometry_of-geometry.result) n.sector n.capacity n.ring) c.blank.result c.in_ok-drive.drive c.in_ok-drive.was
    c.blank.ensures.refused)

pub returns-in-Ok-clause-made : goal.returns-in-Ok-clause-made
returns-in-Ok-clause-made c = let n = numbers_seen c.args.numbers.now in
    c.in-Ok.ensures.added
    ∙ ap (λ xs. xs ++ image_bytes (stored c.in_ok-drive.drive)) c.new-bytes.ensures.items
    ∙ ap image_bytes (c.in_ok-drive.ensures.blank ∙ ap (λ g. blank_drive g n.sector n.capacity n.ring) c.geometry_of-geometry.ensures)

pub returns-in-Ok-clause-tidy : goal.returns-in-Ok-clause-tidy
returns-in-Ok-clause-tidy c = let n = numbers_seen c.args.numbers.now in
    let is = blank_drive_is_tidy
    (numbers_of c.geometry_of-geometry.result) n.sector n.capacity n.ring c.in_ok-drive.drive c.in_ok-drive.ensures.blank c.in_ok-drive.ensures.whole
    c.a_blank_image_is_tidy.ensures in
    subst (λ g. IsTidy (image_of (blank_drive g n.sector n.capacity n.ring))) c.geometry_of-geometry.ensures is

pub returns-in-Ok-clause-spelled : goal.returns-in-Ok-clause-spelled
returns-in-Ok-clause-spelled c = let n = numbers_seen c.args.numbers.now in
    subst (λ d. IsImage (image_bytes d) d)
    (c.in_ok-drive.ensures.blank ∙ ap (λ g. blank_drive g n.sector n.capacity n.ring) c.geometry_of-geometry.ensures) c.store.ensures.read_back

-- there was no memory for the bytes of a drive that was made
pub returns-clause-refused : goal.returns-clause-refused
returns-clause-refused c = let n = numbers_seen c.args.numbers.now in
    subst (λ g. blank_refusal g n.sector n.capacity n.ring ≡ None) c.geometry_of-geometry.ensures
    (of_value (blank_refusal (numbers_of c.geometry_of-geometry.result) n.sector n.capacity n.ring) c.blank.result c.in_ok-drive.drive c.in_ok-drive.was
    c.blank.ensures.refused)
