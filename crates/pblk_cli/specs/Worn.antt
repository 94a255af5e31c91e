-- What the `worn` lines of a transcript tell, each with what was asked for and what its thread had
-- written before it, and where each was given.
use Rattle.std.specs.Prelude.{ℕ, zero, suc, ◌+◌, ◌≤◌, List, [], ◌∷◌, ◌++◌, length, slice_get, take}
use Rattle.std.specs.Option.{unwrap_or}
use Rattle.pblk_model.specs.Image.{Image}
use Rattle.pblk_model.specs.declared.script.Command.{Command}
use Rattle.pblk_model.specs.declared.script.Command.TheVariants.{Write, Read, Flush, Post, Await}
use Rattle.pblk_model.specs.Text.{Outcome, Silent, Words, Flushed, Drive, Worn, Closing, Closed, ClosedByDrive, ClosedWorn, Transcript}
use Rattle.block_port.specs.declared.rows.WornAnswer.{WornAnswer}
use Rattle.block_target.specs.Refusals.{AreRefusals}
use Rattle.pblk_world.specs.AtRest.{IsWornFlush, IsWornWrite}
use Rattle.pblk_world.specs.Fronts.{user_takes}
use Rattle.pblk_world.specs.Reasons.{WasRoom}
use Rattle.pblk_world.specs.World.{Logs}

-- how many sectors a command asks room for: a write for its count, and any other for none
abbrev pub asked_by : Command → ℕ
asked_by (Write lba count tag) = count
asked_by (Read lba count) = 0
asked_by Flush = 0
asked_by (Post name) = 0
asked_by (Await name) = 0

-- how many sectors a command wrote: a write that has no line was placed
abbrev pub written_of : Command → Outcome → ℕ
written_of (Write lba count tag) Silent = count
written_of command outcome = 0

-- the line of a command that asked for so many sectors, where so many had been written before, if it is
-- a `worn` line
abbrev pub worn_of : ℕ → ℕ → Outcome → List WornAnswer
worn_of written count Silent = []
worn_of written count (Words front words) = []
worn_of written count (Flushed front) = []
worn_of written count (Drive unit event) = []
worn_of written count (Worn wanted have) = record { written = written; count = count; wanted = wanted; have = have } ∷ []

-- Those of a thread, whatever its commands are. An outcome that has no command asked for none.
abbrev pub thread_worns : ℕ → List Command → List Outcome → List WornAnswer
thread_worns written commands [] = []
thread_worns written [] (o ∷ outcomes) = worn_of written 0 o ++ thread_worns written [] outcomes
thread_worns written (c ∷ commands) (o ∷ outcomes) =
    worn_of written (asked_by c) o ++ thread_worns (written + written_of c o) commands outcomes

-- those of all threads, also of one that the script doesn't have
abbrev pub threads_worns : List (List Command) → List (List Outcome) → List WornAnswer
threads_worns script [] = []
threads_worns [] (thread ∷ outcomes) = thread_worns 0 [] thread ++ threads_worns [] outcomes
threads_worns (commands ∷ script) (thread ∷ outcomes) = thread_worns 0 commands thread ++ threads_worns script outcomes

-- a close asks for none
abbrev pub closing_worn : ℕ → Closing → List WornAnswer
closing_worn written Closed = []
closing_worn written (ClosedByDrive unit event) = []
closing_worn written (ClosedWorn wanted have) = record { written = written; count = 0; wanted = wanted; have = have } ∷ []

-- Every `worn` line of a transcript, in order. Before the close all lines of the history were written.
abbrev pub worns_of : List (List Command) → Transcript → List WornAnswer
worns_of script t = threads_worns script t.outcomes ++ closing_worn (length t.history) t.closing

-- those of one thread
abbrev pub worns_in : List (List Command) → List (List Outcome) → ℕ → List WornAnswer
worns_in script outcomes thread =
    thread_worns 0 (unwrap_or (slice_get script thread) []) (unwrap_or (slice_get outcomes thread) [])

-- Where they were given.

-- A refusal for want of room there, by the count of sectors that were asked for. Several threads may
-- write: a write wants at most room for its sectors behind all that was taken, since others may have
-- claimed positions after it had looked.
abbrev pub IsRefusedFor : Image → Logs → ℕ → ℕ → ℕ → ℕ → Type 0
IsRefusedFor i logs n zero wanted have = IsWornFlush i logs n wanted have
IsRefusedFor i logs n (suc others) wanted have =
    IsWornWrite i logs n (suc others) wanted have × WasRoom i logs n have

-- An answer is one there. What its thread had written is at most what users' writes took by then.
pub record IsRefusedThen (i : Image) (logs : Logs) (n : ℕ) (a : WornAnswer) : Type 0 where
  pub written : a.written ≤ length (user_takes (take n (logs 0)))
  pub cause : IsRefusedFor i logs n a.count a.wanted a.have

-- Each of these answers is one, in their order, at lengths that never fall: the first isn't below one
-- length, and the last isn't above another.
abbrev pub AreRefusedBetween : Image → Logs → (from upto : ℕ) → List WornAnswer → Type 0
AreRefusedBetween i logs from upto [] = from ≤ upto
AreRefusedBetween i logs from upto (a ∷ worns) =
    (n : ℕ) × (from ≤ n) × IsRefusedThen i logs n a × AreRefusedBetween i logs n upto worns

-- Every `worn` line of a transcript was given at a length of the engine's log at which the target was at
-- rest. These lengths never fall from one line of a thread to the next, and the close comes last.
pub record AreRefusedIn (i : Image) (logs : Logs) (script : List (List Command)) (t : Transcript) : Type 0 where
  pub close : ℕ
  pub threads : (thread : ℕ) → AreRefusedBetween i logs 0 close (worns_in script t.outcomes thread)
  pub closing : AreRefusedBetween i logs close (length (logs 0)) (closing_worn (length t.history) t.closing)
  -- A script of one thread has nobody beside it. So what it had written is just what users' writes took
  -- by then, a write wants room just behind all that was taken, and all lines are in their order.
  pub alone : length script ≤ 1 → AreRefusals i logs 0 (worns_of script t)
