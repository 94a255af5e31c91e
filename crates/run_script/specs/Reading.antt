-- What a reader answers, against what the definition of scripts gives.
use Rattle.std.specs.Prelude.{ℕ, ◌≡◌, ⊤, List, [], take, Result, Ok, Err, IsOk}
use Rattle.pblk_model.specs.declared.script.ScriptErr.{ScriptErr}
use Rattle.pblk_model.specs.declared.script.ScriptErr.TheVariants.{Form, Limit, Range, NeverPosted, Stuck, Memory}
use Rattle.pblk_model.specs.ScriptText.{heard_after, spoken}

-- The refusal is the one that reading gives, unless memory ran out.
abbrev pub Refuses : {A : Type 0} → ScriptErr → Result A ScriptErr → Type 0
Refuses (Form n) read = read ≡ Err (Form n)
Refuses (Limit n) read = read ≡ Err (Limit n)
Refuses (Range n) read = read ≡ Err (Range n)
Refuses (NeverPosted n) read = read ≡ Err (NeverPosted n)
Refuses (Stuck n) read = read ≡ Err (Stuck n)
Refuses Memory read = ⊤

-- The answer is what reading gives, unless memory ran out.
abbrev pub Gives : {A : Type 0} → Result A ScriptErr → Result A ScriptErr → Type 0
Gives (Ok x) read = read ≡ Ok x
Gives (Err e) read = Refuses e read

-- The first line that isn't skipped isn't refused, if there is one.
abbrev pub BeginsWell : ℕ → List ℕ → Type 0
BeginsWell capacity bytes = IsOk (heard_after capacity [] (take 1 (spoken bytes)))
