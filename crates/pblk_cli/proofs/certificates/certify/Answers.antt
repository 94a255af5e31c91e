use Rattle.std.proofs.Common.{◌∙◌, inr, refl}
use Rattle.ocssd_drive.specs.Drive.{stored}
use Rattle.pblk_cli.proofs.CertificatesCome.{certificate_made, no_drive_comes}
use Rattle.pblk_cli.proofs.Reading.{drive_is_there}
use Rattle.pblk_cli.proofs.RunComes.{unstored}
use Rattle.pblk_cli.proofs.certificates.certify.Goals as goal

pub returns-in-Err-clause-comes : goal.returns-in-Err-clause-comes
returns-in-Err-clause-comes g c = no_drive_comes c.args.image.now c.args.certificate.now _ _ c.in-Err.refusal c.in-Err.ensures.refused

pub returns-in-Err-certified-clause-comes : goal.returns-in-Err-certified-clause-comes
returns-in-Err-certified-clause-comes g c = (
  drive_is_there c.args.image.now (g.F.Files.view c.args.files.now) (stored c.in-Ok.drive) c.in-Ok.ensures.drive,
  c.in-Ok.ensures.untouched,
)

pub returns-in-Ok-write-clause-comes : goal.returns-in-Ok-write-clause-comes
returns-in-Ok-write-clause-comes g c =
    certificate_made c.args.image.now c.args.certificate.now c.deref.result.now _ _ (stored c.in-Ok.drive) _ _ _ c.in-Ok.ensures.drive c.in-Ok.ensures.untouched
    (rw c.deref.ensures.value c.in-Ok-certified.ensures.made) c.done.ensures.status
    (rw c.deref.ensures.value (c.done.ensures.text ∙ c.in-Ok-certified.ensures.text)) c.in-Ok-write.ensures.stored c.in-Ok-write.ensures.calm
    c.write.ensures.same_others c.write.ensures.same_told

pub returns-in-Ok-write-clause-told : goal.returns-in-Ok-write-clause-told
returns-in-Ok-write-clause-told g c = c.write.ensures.same_told ∙ c.read_drive.ensures.told

pub returns-clause-comes : goal.returns-clause-comes
returns-clause-comes g c = inr (
  refl,
  (stored c.in-Ok.drive, c.in-Ok.ensures.drive),
  unstored c.args.certificate.now (g.F.Files.view c.args.files.now) (g.F.Files.view c.read_drive.new.files) (g.F.Files.view c.write.new.self)
      c.in-Ok.ensures.untouched c.in-Err-write.ensures.failed c.write.ensures.same_others,
)

pub returns-clause-told : goal.returns-clause-told
returns-clause-told g c = c.write.ensures.same_told ∙ c.read_drive.ensures.told
