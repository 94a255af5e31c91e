-- What was read of a script for a run.
use Rattle.std.proofs.Common.{◌≡◌, ℕ, List, [], Result, Ok, Err, refl}
use Rattle.std.specs.Option.{option_map_or}
use Rattle.pblk_model.specs.declared.script.Command.{Command}
use Rattle.pblk_model.specs.declared.script.ScriptErr.{ScriptErr}
use Rattle.pblk_model.specs.declared.script.ScriptErr.TheVariants as script_errors
use Rattle.pblk_model.specs.ScriptText.{Heard, IsScript, heard_after, posts_refusal, read_script, script_of, spoken, then_heard}
use Rattle.run_script.specs.Reading.{BeginsWell, Refuses}
use Rattle.run_script.proofs.LinesLeft.{read_well}
use Rattle.pblk_cli.specs.declared.refusal.Refusal.{Refusal}
use Rattle.pblk_cli.specs.declared.refusal.Refusal.TheVariants as refusals
use Rattle.pblk_cli.specs.Endings.{reason_of}
use Rattle.pblk_cli.specs.Running.{RefusesScript}

-- what `script_refusal_of` answers
pub record IsScriptRefusalOf (e : ScriptErr) (q : Refusal) : Type 0 where
  pub memory : e ≡ script_errors.Memory → q ≡ refusals.Memory
  pub script : (e ≡ script_errors.Memory → ⊥) → q ≡ refusals.Script e

pub refuses_script : (capacity : ℕ) (script : List ℕ) (e : ScriptErr) → Refuses e (read_script capacity script)
    → (e ≡ script_errors.Memory → BeginsWell capacity script)
    → (q : Refusal) → IsScriptRefusalOf e q → RefusesScript capacity script (reason_of q)
refuses_script capacity script script_errors.Memory h well q of = rw (of.memory refl) (well refl)
refuses_script capacity script (script_errors.Form n) h well q of = rw (of.script (λ no. cc)) h
refuses_script capacity script (script_errors.Limit n) h well q of = rw (of.script (λ no. cc)) h
refuses_script capacity script (script_errors.Range n) h well q of = rw (of.script (λ no. cc)) h
refuses_script capacity script (script_errors.NeverPosted n) h well q of = rw (of.script (λ no. cc)) h
refuses_script capacity script (script_errors.Stuck n) h well q of = rw (of.script (λ no. cc)) h

-- a script that was read begins well
pub read_begins : (capacity : ℕ) (script : List ℕ) (commands : List (List Command)) → IsScript capacity script commands → BeginsWell capacity script
read_begins capacity script commands is = begins (heard_after capacity [] (spoken script)) refl is
  where
    begins : (r : Result Heard ScriptErr) → heard_after capacity [] (spoken script) ≡ r
        → then_heard r (λ heard. option_map_or Err (posts_refusal heard) (Ok (script_of heard))) ≡ Ok commands → BeginsWell capacity script
    begins (Ok heard) all is = read_well capacity script heard all
    begins (Err e) all is = absurd (cc)
