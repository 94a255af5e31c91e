use Rattle.std.proofs.Common.{Err, subst, ap}
use Rattle.pblk_model.specs.ScriptText.{IsScript, read_script}
use Rattle.run_script.specs.Reading.{BeginsWell, Refuses}
use Rattle.pblk_cli.proofs.RunInput.{read_begins, refuses_script}
use Rattle.pblk_cli.proofs.run.read_and_run.Goals as goal

pub returns-in-Err-clause-refused : goal.returns-in-Err-clause-refused
returns-in-Err-clause-refused g c =
    refuses_script _ c.args.script.now c.in-Err.e
    (subst (λ n. Refuses c.in-Err.e (read_script n c.args.script.now)) (ap (λ d. d.capacity) c.drive.view_is) c.in-Err.ensures.read)
    (λ memory. subst (λ n. BeginsWell n c.args.script.now) (ap (λ d. d.capacity) c.drive.view_is) (c.in-Err.ensures.memory (ap (λ x. Err x) memory)))
    c.script_refusal_of.result (record { memory = c.script_refusal_of.ensures.memory; script = c.script_refusal_of.ensures.script })

pub returns-in-Ok-run_and_store-clause-run : goal.returns-in-Ok-run_and_store-clause-run
returns-in-Ok-run_and_store-clause-run g c = record {
  commands = c.in-Ok.script;
  commands_are = subst (λ n. IsScript n c.args.script.now c.in-Ok.script) (ap (λ d. d.capacity) c.drive.view_is) c.in-Ok.ensures.script;
  run = c.in-Ok-run_and_store.ensures;
}

pub returns-clause-refused : goal.returns-clause-refused
returns-clause-refused g c = subst (λ n. BeginsWell n c.args.script.now) (ap (λ d. d.capacity) c.drive.view_is)
    (read_begins _ c.args.script.now c.in-Ok.script c.in-Ok.ensures.script)
