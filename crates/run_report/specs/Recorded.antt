-- Records that answer a script.
use Rattle.std.specs.Prelude.{ℕ, ◌^◌, ◌<◌, ◌≡◌, ⊤, List, [], ◌∷◌, length, Option, Some, None}
use Rattle.pblk_model.specs.declared.script.Command.{Command}
use Rattle.pblk_model.specs.declared.script.Command.TheVariants.{Write, Read, Flush, Post, Await}
use Rattle.pblk_model.specs.Script.{ScriptFits}
use Rattle.run_threads.specs.declared.records.Answer.{Answer}
use Rattle.run_threads.specs.declared.records.Answer.TheVariants.{Placed, Words, Synced, Done, Refused}
use Rattle.run_threads.specs.declared.records.Records.{Records}
use Rattle.run_threads.specs.declared.records.Trouble.{Trouble}
use Rattle.run_threads.specs.declared.records.Trouble.TheVariants.{Drive, Worn}

-- an answer of a command's kind, or a refusal other than Range
abbrev pub IsAnswer : Command → Answer → Type 0
IsAnswer command (Refused trouble) = ⊤
IsAnswer (Write lba count tag) (Placed place) = place.count ≡ count
IsAnswer (Read lba count) (Words front words) = length words ≡ count
IsAnswer Flush (Synced front) = ⊤
IsAnswer (Post name) Done = ⊤
IsAnswer (Await name) Done = ⊤
IsAnswer command answer = ⊥

-- each command of a thread has an answer, and nothing else has
abbrev pub IsThread : List Command → List Answer → Type 0
IsThread [] [] = ⊤
IsThread (command ∷ commands) (answer ∷ answers) = IsAnswer command answer × IsThread commands answers
IsThread commands answers = ⊥

abbrev pub AreThreads : List (List Command) → List (List Answer) → Type 0
AreThreads [] [] = ⊤
AreThreads (commands ∷ script) (answers ∷ threads) = IsThread commands answers × AreThreads script threads
AreThreads script threads = ⊥

-- each command has an answer, or none has, where opening answered an event
abbrev pub AreAnswered : Option Trouble → List (List Command) → List (List Answer) → Type 0
AreAnswered None script threads = AreThreads script threads
AreAnswered (Some (Drive unit event)) script threads = threads ≡ []
AreAnswered (Some (Worn wanted have)) script threads = ⊥

-- The script was accepted for a capacity. Each command has an answer of its kind, with its count of words or
-- of positions, or the trouble that it met; or none has an answer, where opening answered an event.
pub record IsRecorded (script : List (List Command)) (records : Records) : Type 0 where
  pub capacity : ℕ
  pub number : capacity < 2 ^ 64
  pub fits : ScriptFits capacity script
  pub answered : AreAnswered records.opening script records.threads
