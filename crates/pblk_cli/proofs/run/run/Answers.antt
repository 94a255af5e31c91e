use Rattle.std.proofs.Common.{◌∙◌, inr, refl}
use Rattle.command_words.specs.Words.{options_seen}
use Rattle.ocssd_drive.specs.Drive.{stored}
use Rattle.pblk_cli.proofs.RunComes.{image_refused_comes, input_of, made, script_refused_comes, unstored}
use Rattle.pblk_cli.proofs.run.run.Goals as goal

pub returns-in-Err-drive_of-clause-comes : goal.returns-in-Err-drive_of-clause-comes
returns-in-Err-drive_of-clause-comes g c =
    image_refused_comes c.args.image.now c.args.script.now c.in-Ok.read.0.items c.in-Ok.read.1.items (options_seen c.args.options.now) _ _
    c.in-Ok.ensures.image c.in-Ok.ensures.script
    c.in-Err-drive_of.refusal c.in-Err-drive_of.ensures.refused

pub returns-in-Err-read_and_run-clause-comes : goal.returns-in-Err-read_and_run-clause-comes
returns-in-Err-read_and_run-clause-comes g c = script_refused_comes c.args.image.now c.args.script.now c.in-Ok.read.0.items c.deref.result.now
    (options_seen c.args.options.now) (stored c.in-Ok-drive_of.drive) _ _ c.in-Ok.ensures.image
    (rw c.deref.ensures.value c.in-Ok.ensures.script) c.in-Ok-drive_of.ensures.drive c.in-Err-read_and_run.refusal c.in-Err-read_and_run.ensures.refused

pub returns-in-Ok-write-clause-comes : goal.returns-in-Ok-write-clause-comes
returns-in-Ok-write-clause-comes g c = made c.args.image.now c.args.script.now c.in-Ok.read.0.items c.deref.result.now
    (options_seen c.args.options.now) (stored c.in-Ok-drive_of.drive) c.in-Ok-read_and_run.made.1.status c.in-Ok-read_and_run.made.1.text.items
    c.deref-2.result.now
    _ _ _ c.in-Ok.ensures.image
    (rw c.deref.ensures.value c.in-Ok.ensures.script) c.in-Ok-drive_of.ensures.drive
    (rw c.deref-2.ensures.value c.in-Ok-read_and_run.ensures.run) c.in-Ok-write.ensures.stored c.in-Ok-write.ensures.calm c.write.ensures.same_others
    c.write.ensures.same_told

pub returns-in-Ok-write-clause-told : goal.returns-in-Ok-write-clause-told
returns-in-Ok-write-clause-told g c = c.write.ensures.same_told ∙ c.read_both.ensures.told

pub returns-clause-comes : goal.returns-clause-comes
returns-clause-comes g c = inr (inr (
  refl,
  input_of c.args.image.now c.args.script.now c.in-Ok.read.0.items c.deref.result.now
      (options_seen c.args.options.now) (stored c.in-Ok-drive_of.drive) c.in-Ok-read_and_run.made.1.status c.in-Ok-read_and_run.made.1.text.items
      c.in-Ok-read_and_run.made.0.items
      (g.F.Files.view c.args.files.now) (g.F.Files.view c.read_both.new.files) c.in-Ok.ensures.image
      (rw c.deref.ensures.value c.in-Ok.ensures.script) c.in-Ok-drive_of.ensures.drive c.in-Ok-read_and_run.ensures.run,
  unstored c.args.image.now
      (g.F.Files.view c.args.files.now) (g.F.Files.view c.read_both.new.files)
      (g.F.Files.view c.write.new.self) c.in-Ok.ensures.image.1 c.in-Err-write.ensures.failed c.write.ensures.same_others,
))

pub returns-clause-told : goal.returns-clause-told
returns-clause-told g c = c.write.ensures.same_told ∙ c.read_both.ensures.told
