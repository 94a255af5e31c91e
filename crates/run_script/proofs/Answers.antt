-- What the answer of the reader says.
use Rattle.std.proofs.Common.{ℕ, List, Result, Ok, Err, subst}
use Rattle.std.specs.Result.{IfOk}
use Rattle.pblk_model.specs.declared.script.Command.{Command}
use Rattle.pblk_model.specs.declared.script.ScriptErr.{ScriptErr}
use Rattle.pblk_model.specs.ScriptText.{IsScript, read_script}
use Rattle.run_script.specs.Reading.{Gives}

pub read_of : (capacity : ℕ) (bytes : List ℕ) (r : Result (List (List Command)) ScriptErr) → Gives r (read_script capacity bytes)
    → IfOk r (λ script. IsScript capacity bytes script)
read_of capacity bytes (Ok script) h = h
read_of capacity bytes (Err e) h = tt

-- what is so of each script that is read
pub kept : (capacity : ℕ) (bytes : List ℕ) (r : Result (List (List Command)) ScriptErr) (P : List (List Command) → Type 0)
    → Gives r (read_script capacity bytes) → ((script : List (List Command)) → IsScript capacity bytes script → P script) → IfOk r P
kept capacity bytes (Ok script) P h f = f script h
kept capacity bytes (Err e) P h f = tt

pub only_answer : (capacity : ℕ) (bytes : List ℕ) (r : Result (List (List Command)) ScriptErr) (script : List (List Command))
    → Gives r (read_script capacity bytes) → IsScript capacity bytes script → Gives r (Ok script)
only_answer capacity bytes r script h is = subst (Gives r) is h
