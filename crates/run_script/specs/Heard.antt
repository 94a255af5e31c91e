-- What was heard of a script so far, as the reader keeps it.
use Rattle.std.specs.Prelude.{ℕ, ◌≡◌, ◌<◌, ◌≤◌, ◌&&◌, ◌||◌, ◌+◌, ⊤, Bool, List, [], ◌∷◌, ◌++◌, length, Option, Some, None, Result, Ok, Err, IsOk}
use Rattle.std.specs.List.{list_any}
use Rattle.std.specs.Option.{option_to_list, option_map, option_map_or}
use Rattle.std.specs.Str.{bytes_eq}
use Rattle.pblk_model.specs.declared.script.Command.{Command}
use Rattle.pblk_model.specs.declared.script.Command.TheVariants.{Post}
use Rattle.pblk_model.specs.declared.script.ScriptErr.{ScriptErr}
use Rattle.pblk_model.specs.declared.script.ScriptErr.TheVariants as errors
use Rattle.pblk_model.specs.Checks.{first_refusal, unless}
use Rattle.pblk_model.specs.ScriptText.{Said, Thread, Commands, Heard, Numbered, saids, threads_of, threads_in, commands_in, posts, form_holds, limit_holds, range_holds}
use Rattle.run_script.specs.declared.reader.Reader.{Reader}
use Rattle.run_script.specs.declared.said.Said.{Said as AnySaid}
use Rattle.run_script.specs.declared.said.Said.TheVariants as says
use Rattle.run_script.specs.declared.names.Names.{Names}
use Rattle.run_script.specs.Names.{holds}
use Rattle.run_script.specs.Reading.{Refuses}
use Rattle.run_script.specs.Said.{HasCount}

-- the names are those that were posted
abbrev pub ArePosted : Names → List Said → Type 0
ArePosted names before = (name : List ℕ) → holds names name ≡ list_any (posts name) before

-- the threads that a reader keeps: those that ended, and the one that commands go to
abbrev pub threads_kept : Reader → List Numbered
threads_kept reader = reader.ended.items ++ option_to_list reader.current

-- no command came before the first thread
abbrev pub BeginsThread : Heard → Type 0
BeginsThread [] = ⊤
BeginsThread ((n, Thread) ∷ heard) = ⊤
BeginsThread ((n, Commands c) ∷ heard) = ⊥

-- the reader keeps what was heard
pub record IsRead (reader : Reader) (heard : Heard) : Type 0 where
  pub threads : threads_kept reader ≡ threads_of heard
  pub count : length (threads_kept reader) ≡ threads_in (saids heard)
  pub few : threads_in (saids heard) ≤ 16
  pub opens : reader.current ≡ None → heard ≡ []
  pub commands : reader.commands ≡ commands_in (saids heard)
  pub names : ArePosted reader.names (saids heard)
  pub begins : BeginsThread heard

-- why a line is refused that stands after others, where it is line n, and early or not
abbrev pub refusal_of : ℕ → List Said → ℕ → Bool → Said → Option ScriptErr
refusal_of capacity before n early said = first_refusal
    (unless (form_holds before said) (errors.Form n)
    ∷ unless (early && limit_holds before said) (errors.Limit n)
    ∷ unless (range_holds capacity said) (errors.Range n)
    ∷ [])

-- the reader has room for what a line says
abbrev pub IsWithinLimits : Reader → AnySaid → Type 0
IsWithinLimits reader says.Thread = ⊤
IsWithinLimits reader (says.Write lba count tag) = (reader.commands < 200000) × HasCount (says.Write lba count tag)
IsWithinLimits reader (says.Read lba count) = (reader.commands < 200000) × HasCount (says.Read lba count)
IsWithinLimits reader says.Flush = reader.commands < 200000
IsWithinLimits reader (says.Post name) = reader.commands < 200000
IsWithinLimits reader (says.Await name) = reader.commands < 200000

-- what a line says after those before it, or why it is refused, where it is line n, and early or
-- not
abbrev pub placed_at : ℕ → List Said → ℕ → Bool → Option Said → Result (ℕ × Said) ScriptErr
placed_at capacity before n early None = Err (errors.Form n)
placed_at capacity before n early (Some said) = option_map_or Err (refusal_of capacity before n early said) (Ok (n, said))

-- A line was heard after others, or refused. There was no memory for it only where it isn't
-- refused.
abbrev pub Places : Result Unit ScriptErr → Reader → Heard → Result (ℕ × Said) ScriptErr → Type 0
Places (Ok done) reader before placed = (x : ℕ × Said) × (placed ≡ Ok x) × IsRead reader (before ++ x ∷ [])
Places (Err e) reader before placed = Refuses e placed × (e ≡ errors.Memory → IsOk placed)

-- the thread that is open gets a command
abbrev pub Adds : Reader → Reader → ℕ → Command → Type 0
Adds old new n c = (new.ended.items ≡ old.ended.items) × (new.current ≡ option_map (λ thread. thread ++ (n, c) ∷ []) old.current)
    × (new.commands ≡ old.commands + 1)

-- a reader keeps what a line says
abbrev pub Hears : Reader → Reader → ℕ → Said → Type 0
Hears old new n Thread = (new.ended.items ≡ threads_kept old) × (new.current ≡ Some []) × (new.commands ≡ old.commands) × (new.names ≡ old.names)
Hears old new n (Commands (Post name)) =
    Adds old new n (Post name) × ((other : List ℕ) → holds new.names other ≡ (bytes_eq name other || holds old.names other))
Hears old new n (Commands c) = Adds old new n c × (new.names ≡ old.names)
