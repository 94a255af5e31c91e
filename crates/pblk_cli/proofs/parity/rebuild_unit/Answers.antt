use Rattle.std.proofs.Common.{◌∙◌, inr, refl, sym}
use Rattle.ocssd_drive.specs.Drive.{stored}
use Rattle.pblk_cli.proofs.ParityComes.{input_of, refused_bytes, refused_rebuild, stored_after}
use Rattle.pblk_cli.proofs.RunComes.{unstored}
use Rattle.pblk_cli.proofs.parity.rebuild_unit.Goals as goal

pub returns-in-Err-drive_of-clause-comes : goal.returns-in-Err-drive_of-clause-comes
returns-in-Err-drive_of-clause-comes g c =
    refused_bytes c.args.image.now c.args.parity.now c.in-Ok.read.0.items c.in-Ok.read.1.items c.args.unit _ _ c.in-Ok.ensures.image c.in-Ok.ensures.script
    c.in-Err-drive_of.refusal c.in-Err-drive_of.ensures.refused

pub returns-in-Err-rebuilt-clause-comes : goal.returns-in-Err-rebuilt-clause-comes
returns-in-Err-rebuilt-clause-comes g c =
    refused_rebuild c.args.image.now c.args.parity.now c.in-Ok.read.0.items c.deref.result.now c.args.unit
    (stored c.in-Ok-drive_of.drive) _ _ c.in-Ok.ensures.image
    (rw c.deref.ensures.value c.in-Ok.ensures.script) c.in-Ok-drive_of.ensures.drive c.in-Err-rebuilt.refusal c.in-Err-rebuilt.ensures.refused

pub returns-in-Ok-write-clause-comes : goal.returns-in-Ok-write-clause-comes
returns-in-Ok-write-clause-comes g c =
    let h = c.in-Ok-rebuilt.ensures.made in (
      h.status_is,
      record {
        input = input_of c.args.image.now c.args.parity.now c.in-Ok.read.0.items c.deref.result.now (stored c.in-Ok-drive_of.drive)
            (g.F.Files.view c.args.files.now) (g.F.Files.view c.read_both.new.files) c.in-Ok.ensures.image
            (rw c.deref.ensures.value c.in-Ok.ensures.script) c.in-Ok-drive_of.ensures.drive;
        left = h.left;
        rebuilt = h.rebuilt;
        stored = stored_after c.args.image.now _ (g.F.Files.view c.args.files.now) (g.F.Files.view c.read_both.new.files)
            (g.F.Files.view c.write.new.self) c.in-Ok.ensures.image.1 (rw (sym h.stored_is, sym c.deref-2.ensures.value) c.in-Ok-write.ensures.stored)
            c.in-Ok-write.ensures.calm c.write.ensures.same_others c.write.ensures.same_told;
      },
    )

pub returns-in-Ok-write-clause-told : goal.returns-in-Ok-write-clause-told
returns-in-Ok-write-clause-told g c = c.write.ensures.same_told ∙ c.read_both.ensures.told

pub returns-clause-comes : goal.returns-clause-comes
returns-clause-comes g c = inr (inr (
  refl,
  input_of c.args.image.now c.args.parity.now c.in-Ok.read.0.items c.deref.result.now (stored c.in-Ok-drive_of.drive)
      (g.F.Files.view c.args.files.now) (g.F.Files.view c.read_both.new.files) c.in-Ok.ensures.image
      (rw c.deref.ensures.value c.in-Ok.ensures.script) c.in-Ok-drive_of.ensures.drive,
  unstored c.args.image.now (g.F.Files.view c.args.files.now) (g.F.Files.view c.read_both.new.files) (g.F.Files.view c.write.new.self)
      c.in-Ok.ensures.image.1 c.in-Err-write.ensures.failed c.write.ensures.same_others,
))

pub returns-clause-told : goal.returns-clause-told
returns-clause-told g c = c.write.ensures.same_told ∙ c.read_both.ensures.told
