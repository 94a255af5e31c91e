use Rattle.std.proofs.lemmas.Result.{IfOk-weaker}
use Rattle.command_words.specs.Words.{options_seen}
use Rattle.pblk_cli.proofs.LeftDrives.{armed_by, armed_run_to}
use Rattle.pblk_cli.proofs.run.run_and_store.Goals as goal

pub run_drive-requires-clause-armed : goal.run_drive-requires-clause-armed
run_drive-requires-clause-armed g c = λ κs within. armed_by c.args.drive c.arm.new.self _ c.args.options.now.stop c.requires.quiet c.in_ok-arm.ensures.armed

pub returns-in-Ok : goal.returns-in-Ok
returns-in-Ok g c =
    IfOk-weaker c.store_run.result _ _ (λ made h.
    armed_run_to c.args.drive c.arm.new.self (options_seen c.args.options.now) _ c.args.script.now c.in-Ok.drive c.in-Ok.records c.args.telling made.1.status
    made.1.text.items made.0.items c.as_slice.ensures.plans c.requires.quiet c.in_ok-arm.ensures.armed c.in-Ok.ensures.ran h) c.store_run.ensures
