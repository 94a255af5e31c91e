use Rattle.std.proofs.Common.{◌∙◌, inl, inr, refl, sym}
use Rattle.ocssd_drive.specs.Drive.{stored}
use Rattle.pblk_cli.proofs.ParityComes.{no_drive_comes, stored_after, stored_alone}
use Rattle.pblk_cli.proofs.Reading.{drive_is_there}
use Rattle.pblk_cli.proofs.RunComes.{unstored}
use Rattle.pblk_cli.proofs.parity.make_parity.Goals as goal

pub returns-in-Err-clause-comes : goal.returns-in-Err-clause-comes
returns-in-Err-clause-comes g c = no_drive_comes c.args.image.now c.args.parity.now _ _ c.in-Err.refusal c.in-Err.ensures.refused

pub returns-in_default-clause-comes : goal.returns-in_default-clause-comes
returns-in_default-clause-comes g c =
    (drive_is_there c.args.image.now (g.F.Files.view c.args.files.now) (stored c.in-Ok.drive) c.in-Ok.ensures.drive, c.in-Ok.ensures.untouched)

pub returns-in-Err-write-clause-comes : goal.returns-in-Err-write-clause-comes
returns-in-Err-write-clause-comes g c = inr (inl (
  refl,
  stored c.in-Ok.drive,
  c.in-Ok.ensures.drive,
  unstored c.args.image.now (g.F.Files.view c.args.files.now) (g.F.Files.view c.read_drive.new.files) (g.F.Files.view c.write.new.self)
      c.in-Ok.ensures.untouched c.in-Err-write.ensures.failed c.write.ensures.same_others,
))

pub returns-in-Err-write-clause-told : goal.returns-in-Err-write-clause-told
returns-in-Err-write-clause-told g c = c.write.ensures.same_told ∙ c.read_drive.ensures.told

pub returns-in-Ok-write-2-clause-comes : goal.returns-in-Ok-write-2-clause-comes
returns-in-Ok-write-2-clause-comes g c =
    let h = c.in-Ok-padded_parity.ensures in (
      c.done.ensures.status,
      record {
        drive = stored c.in-Ok.drive;
        drive_is = c.in-Ok.ensures.drive;
        left = h.left;
        padded = h.padded;
        between = g.F.Files.view c.write.new.self;
        stored = stored_after c.args.image.now _ (g.F.Files.view c.args.files.now)
            (g.F.Files.view c.read_drive.new.files) (g.F.Files.view c.write.new.self) c.in-Ok.ensures.untouched
            (rw (sym h.image_is, sym c.deref.ensures.value) c.in-Ok-write.ensures.stored) c.in-Ok-write.ensures.calm c.write.ensures.same_others
            c.write.ensures.same_told;
        is_parity = h.is_parity;
        made = stored_alone c.args.parity.now _ (g.F.Files.view c.write.new.self) (g.F.Files.view c.write-2.new.self)
            (rw (sym h.parity_is, sym c.deref-2.ensures.value) c.in-Ok-write-2.ensures.stored) c.in-Ok-write-2.ensures.calm c.write-2.ensures.same_others
            c.write-2.ensures.same_told;
        says = c.done.ensures.text ∙ h.says;
      },
    )

pub returns-in-Ok-write-2-clause-told : goal.returns-in-Ok-write-2-clause-told
returns-in-Ok-write-2-clause-told g c = c.write-2.ensures.same_told ∙ c.write.ensures.same_told ∙ c.read_drive.ensures.told

pub returns-clause-comes : goal.returns-clause-comes
returns-clause-comes g c =
    let h = c.in-Ok-padded_parity.ensures in inr (inr (
      refl,
      stored c.in-Ok.drive,
      h.left,
      g.F.Files.view c.write.new.self,
      c.in-Ok.ensures.drive,
      h.padded,
      stored_after c.args.image.now _ (g.F.Files.view c.args.files.now)
          (g.F.Files.view c.read_drive.new.files) (g.F.Files.view c.write.new.self) c.in-Ok.ensures.untouched
          (rw (sym h.image_is, sym c.deref.ensures.value) c.in-Ok-write.ensures.stored) c.in-Ok-write.ensures.calm c.write.ensures.same_others
          c.write.ensures.same_told,
      (c.write-2.ensures.same_others, c.in-Err-write-2.ensures.failed),
    ))

pub returns-clause-told : goal.returns-clause-told
returns-clause-told g c = c.write-2.ensures.same_told ∙ c.write.ensures.same_told ∙ c.read_drive.ensures.told
