-- What the commands of a script may be answered through ports.
use Rattle.std.specs.Prelude.{ℕ, ◌+◌, ◌^◌, ◌<◌, ◌≤◌, ◌≡◌, ⊤, List, [], ◌∷◌, ◌++◌, map, max, replicate, None}
use Rattle.std.specs.List.{AllByRecursion}
use Rattle.pblk_model.specs.declared.script.Command.{Command}
use Rattle.pblk_model.specs.declared.script.Command.TheVariants.{Write, Read, Flush, Post, Await}
use Rattle.pblk_model.specs.History.{tag_sector, users}
use Rattle.pblk_model.specs.Script.{ScriptFits, NeverStuck}
use Rattle.pblk_model.specs.Transcript.{IsWorn, words_at}
use Rattle.block_port.specs.declared.rows.DriveAnswer.{DriveAnswer}
use Rattle.block_port.specs.declared.rows.WornAnswer.{WornAnswer}
use Rattle.block_port.specs.Own.{OwnWrite}
use Rattle.block_port.specs.Port.{ModelPort, IsSameTarget, IsSeen, Learns, contents_after, positions, written_by}
use Rattle.run_threads.specs.declared.records.Answer.{Answer}
use Rattle.run_threads.specs.declared.records.Answer.TheVariants.{Placed, Words, Synced, Done, Refused}
use Rattle.run_threads.specs.declared.records.Records.{Records}
use Rattle.run_threads.specs.declared.records.Trouble.TheVariants.{Drive, Worn}
use Rattle.run_threads.specs.Words.{text_word}

-- What a port keeps of an answered command.

-- a write that was placed, of sectors of this size
abbrev pub own_of : ℕ → Command → Answer → List OwnWrite
own_of size (Write lba count tag) (Placed place) =
    record { place = place; lba = lba; sectors = replicate count (tag_sector size tag) } ∷ []
own_of size command answer = []

abbrev pub faults_of : Answer → List DriveAnswer
faults_of (Refused (Drive unit event)) = record { unit = unit; event = event } ∷ []
faults_of answer = []

-- how many sectors it wrote
abbrev pub written_of : Command → Answer → ℕ
written_of (Write lba count tag) (Placed place) = count
written_of command answer = 0

-- Of a port that had written so many sectors before. A write asked for its count, a flush for none.
abbrev pub worns_of : ℕ → Command → Answer → List WornAnswer
worns_of written (Write lba count tag) (Refused (Worn wanted have)) =
    record { written = written; count = count; wanted = wanted; have = have } ∷ []
worns_of written Flush (Refused (Worn wanted have)) =
    record { written = written; count = 0; wanted = wanted; have = have } ∷ []
worns_of written command answer = []

-- numbers of a unit and of its event, as they are printed
abbrev pub IsEvent : ℕ → ℕ → Type 0
IsEvent unit event = (unit < 2 ^ 32) × (event < 2 ^ 64)

-- What a command may be answered between two moments of its port. `told` says what was told under each
-- posted name.
abbrev pub Says : (List ℕ → ℕ) → ModelPort → Command → Answer → ModelPort → Type 0
-- a write: its place is past all that was seen, and seen now
Says told old (Write lba count tag) (Placed place) new =
    (place.count ≡ count) × (old.seen ≤ place.first) × (new.seen ≡ place.first + count)
Says told old (Write lba count tag) (Refused (Drive unit event)) new = IsEvent unit event × (new.seen ≡ old.seen)
Says told old (Write lba count tag) (Refused (Worn wanted have)) new = IsWorn wanted have × (new.seen ≡ old.seen)
-- a read: its front holds all that was seen, and its words are those of the contents there
Says told old (Read lba count) (Words front words) new =
    IsSeen front old new × (map text_word words ≡ words_at (contents_after new front.users) lba count)
Says told old (Read lba count) (Refused (Drive unit event)) new = IsEvent unit event × (new.seen ≡ old.seen)
-- a flush: its front holds all that was seen, and is on the drive
Says told old Flush (Synced front) new = IsSeen front old new × (front.position ≤ new.flushed)
Says told old Flush (Refused (Drive unit event)) new = IsEvent unit event × (new.seen ≡ old.seen)
Says told old Flush (Refused (Worn wanted have)) new = IsWorn wanted have × (new.seen ≡ old.seen)
-- a post tells what was seen, and an await hears what was told
Says told old (Post name) Done new = (told name ≡ old.seen) × (new ≡ old)
Says told old (Await name) Done new = new ≡ record old { seen = max old.seen (told name) }
-- nothing else is answered
Says told old command answer new = ⊥

-- A command was answered so, and its port went on from the one moment to the other.
pub record Answers (told : List ℕ → ℕ) (old : ModelPort) (command : Command) (answer : Answer) (new : ModelPort) : Type 0 where
  pub says : Says told old command answer new
  pub own : new.own ≡ old.own ++ own_of old.sector command answer
  pub faults : new.faults ≡ old.faults ++ faults_of answer
  pub worns : new.worns ≡ old.worns ++ worns_of (written_by old) command answer
  pub learns : Learns old new
  pub target : IsSameTarget old new

-- The commands of a thread were answered so, one after another.
abbrev pub Runs : (List ℕ → ℕ) → ModelPort → List Command → List Answer → ModelPort → Type 0
Runs told old [] [] new = new ≡ old
Runs told old (command ∷ commands) (answer ∷ answers) new =
    (mid : ModelPort) × Answers told old command answer mid × Runs told mid commands answers new
Runs told old commands answers new = ⊥

-- Something holds of each thread of a run: its commands, their answers, and its port before and after.
abbrev pub EachThread : (List Command → List Answer → ModelPort → ModelPort → Type 0)
    → List (List Command) → List (List Answer) → List ModelPort → List ModelPort → Type 0
EachThread Holds [] [] [] [] = ⊤
EachThread Holds (cs ∷ script) (rows ∷ answers) (old ∷ olds) (new ∷ news) =
    Holds cs rows old new × EachThread Holds script answers olds news
EachThread Holds script answers olds news = ⊥

-- What the answers of a thread say of its port as a whole.

-- what a thread's commands add, in order
abbrev pub own_in : ℕ → List Command → List Answer → List OwnWrite
own_in size (c ∷ cs) (a ∷ rest) = own_of size c a ++ own_in size cs rest
own_in size cs rest = []

abbrev pub faults_in : List Answer → List DriveAnswer
faults_in [] = []
faults_in (a ∷ rest) = faults_of a ++ faults_in rest

-- of a port that had written so many sectors before them
abbrev pub worns_in : ℕ → List Command → List Answer → List WornAnswer
worns_in written (c ∷ cs) (a ∷ rest) = worns_of written c a ++ worns_in (written + written_of c a) cs rest
worns_in written cs rest = []

-- a flush's front is on the drive, and counts no more lines than are known below it
abbrev pub IsFlushed : ModelPort → Answer → Type 0
IsFlushed port (Synced front) = (front.position ≤ port.flushed) × (front.users ≤ users (positions port.known) front.position)
IsFlushed port answer = ⊤

-- A thread's commands were answered one after another, and what that comes to for its port as a whole.
pub record WasRun (told : List ℕ → ℕ) (commands : List Command) (answers : List Answer) (old new : ModelPort) : Type 0 where
  pub runs : Runs told old commands answers new
  -- what the port keeps of its own answers grew by just those of the records, in order
  pub own : new.own ≡ old.own ++ own_in old.sector commands answers
  pub faults : new.faults ≡ old.faults ++ faults_in answers
  pub worns : new.worns ≡ old.worns ++ worns_in (written_by old) commands answers
  -- each flush's front is on the drive, by what the port says as it comes back
  pub flushed : AllByRecursion (IsFlushed new) answers
  -- it knows more, and is of the same target
  pub learns : Learns old new
  pub target : IsSameTarget old new

-- The threads of a script were run, each through a port of its own. The opening and the close of the
-- device are no part of it.
pub record WereRun (script : List (List Command)) (records : Records) (olds news : List ModelPort) : Type 0 where
  pub told : List ℕ → ℕ
  pub threads : EachThread (WasRun told) script records.threads olds news
  pub opening : records.opening ≡ None
  pub closing : records.closing ≡ None

-- The script was accepted for a capacity that is at most that of each port.
pub record IsAcceptedFor (script : List (List Command)) (ports : List ModelPort) : Type 0 where
  pub capacity : ℕ
  pub fits : ScriptFits capacity script
  pub flows : NeverStuck script
  pub within : AllByRecursion (λ p. capacity ≤ p.capacity) ports
