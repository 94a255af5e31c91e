use Rattle.std.proofs.Common.{◌∙◌, inr, refl}
use Rattle.ocssd_drive.specs.Drive.{stored}
use Rattle.pblk_cli.proofs.RunComes.{unstored}
use Rattle.pblk_cli.proofs.SoakComes.{load_input, load_refused_comes, no_drive_comes, soak_made}
use Rattle.pblk_cli.proofs.soak.soak.Goals as goal

pub returns-in-Err-clause-comes : goal.returns-in-Err-clause-comes
returns-in-Err-clause-comes g c = no_drive_comes c.args.image.now c.args.number c.args.rounds _ _ c.in-Err.refusal c.in-Err.ensures.refused

pub returns-in-Err-make_and_run-clause-comes : goal.returns-in-Err-make_and_run-clause-comes
returns-in-Err-make_and_run-clause-comes g c =
    load_refused_comes c.args.image.now c.args.number c.args.rounds (stored c.in-Ok.drive) _ _ c.in-Ok.ensures.drive c.in-Ok.ensures.untouched
    c.in-Err-make_and_run.refusal c.in-Err-make_and_run.ensures.refused

pub returns-in-Ok-write-clause-comes : goal.returns-in-Ok-write-clause-comes
returns-in-Ok-write-clause-comes g c =
    soak_made c.args.image.now c.args.number c.args.rounds (stored c.in-Ok.drive) c.in-Ok-make_and_run.made.1.status
    c.in-Ok-make_and_run.made.1.text.items c.deref.result.now _ _ _ c.in-Ok.ensures.drive c.in-Ok.ensures.untouched
    (rw c.deref.ensures.value c.in-Ok-make_and_run.ensures.run) c.in-Ok-write.ensures.stored c.in-Ok-write.ensures.calm c.write.ensures.same_others
    c.write.ensures.same_told

pub returns-in-Ok-write-clause-told : goal.returns-in-Ok-write-clause-told
returns-in-Ok-write-clause-told g c = c.write.ensures.same_told ∙ c.read_drive.ensures.told

pub returns-clause-comes : goal.returns-clause-comes
returns-clause-comes g c = (
  refl,
  inr (
    load_input c.args.image.now c.args.number c.args.rounds (stored c.in-Ok.drive) c.in-Ok-make_and_run.made.1.status
        c.in-Ok-make_and_run.made.1.text.items c.in-Ok-make_and_run.made.0.items (g.F.Files.view c.args.files.now) c.in-Ok.ensures.drive
        c.in-Ok-make_and_run.ensures.run,
    unstored c.args.image.now (g.F.Files.view c.args.files.now) (g.F.Files.view c.read_drive.new.files) (g.F.Files.view c.write.new.self)
        c.in-Ok.ensures.untouched c.in-Err-write.ensures.failed c.write.ensures.same_others,
  ),
)

pub returns-clause-told : goal.returns-clause-told
returns-clause-told g c = c.write.ensures.same_told ∙ c.read_drive.ensures.told
