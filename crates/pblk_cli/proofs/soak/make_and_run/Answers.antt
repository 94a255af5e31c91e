use Rattle.std.proofs.Common.{◌∙◌, true, None, List, subst, ap, arith}
use Rattle.load_maker.specs.Loads.{load}
use Rattle.ocssd_drive.specs.Drive.{stored}
use Rattle.pblk_model.specs.declared.script.Command.{Command}
use Rattle.unit_port.specs.declared.armed.FaultPlan.{FaultPlan}
use Rattle.pblk_cli.specs.declared.run.Telling.TheVariants as tellings
use Rattle.pblk_cli.specs.Running.{IsRunTo}
use Rattle.pblk_cli.proofs.soak.make_and_run.Goals as goal

pub returns-in-Ok-run_and_store-clause-run : goal.returns-in-Ok-run_and_store-clause-run
returns-in-Ok-run_and_store-clause-run g c =
    let found = stored c.args.drive in
    let made = c.in-Ok-run_and_store.made in
    let is = c.in-Ok.ensures.made ∙ ap (λ d. load c.args.number c.args.rounds d.capacity) c.drive.view_is in
    record {
      room = let same = ap (λ d. d.capacity) c.drive.view_is in omega (arith, same);
      run =
          subst (λ (plans : List FaultPlan). IsRunTo found (record { stop = None; plans = plans; lanes = 2; collector = true })
          (load c.args.number c.args.rounds found.capacity) tellings.Totals made.1.status made.1.text.items made.0.items) c.none.ensures
          (subst (λ (script : List (List Command)). IsRunTo found (record { stop = None; plans = c.none.result; lanes = 2; collector = true })
          script tellings.Totals made.1.status made.1.text.items made.0.items) is c.in-Ok-run_and_store.ensures);
    }
