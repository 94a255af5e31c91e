-- What a worker's calls of an engine did, by what the worker knows and the commands that it made.
use Rattle.std.specs.Prelude.{ℕ, ◌<◌, ◌≤◌, ◌≡◌, ◌≢◌, ◌⊎◌, ⊤, Bool, false, true, List, [], ◌∷◌, ◌++◌, length, Result, Ok, Err}
use Rattle.std.specs.List.{AllByRecursion}
use Rattle.pblk_model.specs.Chunk.{Block}
use Rattle.pblk_model.specs.ChunkStep.{ChunkCommand, Done, Gave, Read, Reset, Write}
use Rattle.pblk_model.specs.Image.{Image}
use Rattle.pblk_model.specs.UnitLog.{UnitOutcome, Answered, Failed}
use Rattle.pblk_world.specs.AtRest.{IsAtRest, IsCopyDue, pad_target}
use Rattle.pblk_world.specs.Orders.{AreReset}
use Rattle.pblk_world.specs.World.{Logs}
use Rattle.scan_recovery.specs.DriveFaults.{is_drive_fault, is_fetch}
use Rattle.unit_port.specs.Armed.{is_stop}
use Rattle.unit_port.specs.Unit.{ModelUnit}
use Rattle.pblk_core.specs.Named.{work_of}
use Rattle.pblk_core.specs.declared.work.Why.{Why}
use Rattle.pblk_core.specs.declared.work.Why.TheVariants as whys
use Rattle.pblk_core.specs.declared.work.Work.TheVariants as works
use Rattle.chronicle.specs.Prefixes.{Prefixes, logs_of, ArePrefixes}
use Rattle.pblk_engine.specs.Arms.{number_told}
use Rattle.pblk_engine.specs.Fetches.{TellsCause, TellsFetch}
use Rattle.pblk_engine.specs.WorkSince.{HasOpened, HasPlacedOn, HasWorkSince, WasToProgramAgain}
use Rattle.pblk_engine.specs.Workers.{Made, WorkerView}
use Rattle.pblk_engine.specs.declared.errors.DriveErr.{DriveErr}
use Rattle.pblk_engine.specs.declared.errors.FetchErr.{FetchErr}
use Rattle.pblk_engine.specs.declared.outcomes.Did.{Did}
use Rattle.pblk_engine.specs.declared.outcomes.Did.TheVariants as dids
use Rattle.pblk_engine.specs.declared.outcomes.Role.{Role}
use Rattle.pblk_engine.specs.declared.outcomes.Role.TheVariants as roles

-- A worker went on: it learned, and made these commands.
pub record GoesOn (old new : WorkerView) (more : List Made) : Type 0 where
  pub number : new.number ≡ old.number
  pub keeps : ArePrefixes old.known new.known
  pub made : new.made ≡ old.made ++ more
  pub asked : new.asked ≡ old.asked

-- none of these commands was stopped, and no fetch among them failed
abbrev pub NoFaults : List Made → Type 0
NoFaults more = AllByRecursion (λ m. is_drive_fault m.event ≡ false) more

-- The last of these commands was stopped, or is a fetch that failed, and the error names it. None
-- of the others was.
pub record IsFaultOf (handed : List ModelUnit) (more : List Made) (e : DriveErr) : Type 0 where
  pub others : List Made
  pub last : Made
  pub all : more ≡ others ++ last ∷ []
  pub none : NoFaults others
  pub lost : is_drive_fault last.event ≡ true
  pub unit : e.unit ≡ last.unit
  pub number : e.event ≡ number_told handed last.unit last.number

-- the only command was this one, with this outcome
pub record IsOnly (more : List Made) (IsAsked : ChunkCommand → Type 0) (IsTold : UnitOutcome → Type 0) : Type 0 where
  pub made : Made
  pub only : more ≡ made ∷ []
  pub asked : IsAsked made.event.command
  pub told : IsTold made.event.outcome

abbrev pub IsWrite : ChunkCommand → Type 0
IsWrite command = (at : ℕ) × (blocks : List Block) × (command ≡ Write at blocks)

abbrev pub IsFetch : ChunkCommand → Type 0
IsFetch command = (block : ℕ) × (command ≡ Read block)

abbrev pub HasFailed : UnitOutcome → Type 0
HasFailed outcome = (k : ℕ) × (outcome ≡ Failed k)

abbrev pub HasGiven : UnitOutcome → Type 0
HasGiven outcome = (b : Block) × (outcome ≡ Answered (Gave b))

-- Something is in flight, and by the logs nothing else can be done meanwhile. So it is for this pad
-- target, which holds what the victim at work asks for, where the stopped stripes of these units
-- are under way again, and a copy is or isn't.
pub record IsBusy (i : Image) (logs : Logs) : Type 0 where
  pub pad : ℕ
  pub again : List ℕ
  pub copying : Bool
  pub asked : pad_target i logs 0 ≤ pad
  pub busy : work_of i logs pad again copying ≡ works.Nothing whys.Busy

-- why there is nothing to do: something is in flight and nothing else can be done meanwhile, or the
-- engine's log is at rest, at the length that is known
abbrev pub IsNothing : Image → Prefixes → Why → Type 0
IsNothing i known whys.Busy = IsBusy i (logs_of known)
IsNothing i known whys.NoLine = IsAtRest i (logs_of known) 0 (length (logs_of known 0))
IsNothing i known whys.Rest = IsAtRest i (logs_of known) 0 (length (logs_of known 0))

-- The worker had the unit fetch a block. It was given; or it is told why not, with the fetch's
-- number in the unit's log.
pub record HasFetched (handed : List ModelUnit) (unit : ℕ) (old new : WorkerView) (result : Result (Unit {0}) FetchErr) : Type 0 where
  pub made : Made
  pub on : GoesOn old new (made ∷ [])
  pub of : made.unit ≡ unit
  pub asked : IsFetch made.event.command
  pub tells : TellsFetch unit (number_told handed unit made.number) result made.event.outcome

-- At a look, which knew what was known before and of which all is known after, a sector of the
-- victim at work was to be copied. In the role All no reset was left to be made then.
pub record WasCopyDue (i : Image) (role : Role) (old new : Prefixes) : Type 0 where
  pub looked : Prefixes
  pub since : ArePrefixes old looked
  pub within : ArePrefixes looked new
  pub due : IsCopyDue i (logs_of looked)
  pub reset : role ≡ roles.All → AreReset i (logs_of looked)

-- What a pump did in its role, by the commands that its worker made in it, and by what the worker
-- knows of the logs before it and after it. Where it did something, the engine's log got a piece of
-- work, unless it had a stripe programmed that had been stopped.
abbrev pub TellsDid : Image → Role → Prefixes → Prefixes → List Made → Did → Type 0
TellsDid i role old new more dids.Programmed =
    (is : IsOnly more IsWrite (λ outcome. outcome ≡ Answered Done)) × HasPlacedOn is.made.unit old new
TellsDid i role old new more (dids.Lost unit) =
    (is : IsOnly more IsWrite HasFailed) × (is.made.unit ≡ unit) × HasPlacedOn unit old new
TellsDid i role old new more dids.Reset =
    IsOnly more (λ command. command ≡ Reset) (λ outcome. is_stop outcome ≡ false) × HasWorkSince old new
TellsDid i role old new more dids.Copied = IsOnly more IsFetch HasGiven × WasCopyDue i role old new × HasWorkSince old new
TellsDid i role old new more dids.NotCopied = ((more ≡ []) ⊎ IsOnly more IsFetch HasGiven) × WasCopyDue i role old new
TellsDid i role old new more dids.Opened = (more ≡ []) × HasOpened old new
TellsDid i role old new more dids.Other = more ≡ []
TellsDid i role old new more (dids.Nothing why) = (more ≡ []) × IsNothing i new why

-- What a pump answers, with the commands that its worker made in it. Where it is an error, just one
-- was made.
abbrev pub TellsPump : Image → List ModelUnit → Role → Prefixes → Prefixes → List Made → Result Did DriveErr → Type 0
TellsPump i handed role old new more (Ok did) = NoFaults more × TellsDid i role old new more did
TellsPump i handed role old new more (Err e) = IsFaultOf handed more e × (length more ≡ 1)

-- A pump that answers so did a piece of work. A copy whose claim was refused is none, as where the
-- ring has no room for it.
abbrev pub IsWork : Did → Type 0
IsWork did = (did ≢ dids.NotCopied) × (did ≢ dids.Other) × ((why : Why) → did ≢ dids.Nothing why)

-- The worker had a stripe programmed, and made no other command. The program of the stripe had been
-- stopped before.
pub record HasProgrammedAgain (old new : WorkerView) : Type 0 where
  pub made : Made
  pub all : new.made ≡ old.made ++ made ∷ []
  pub command : IsWrite made.event.command
  pub again : WasToProgramAgain made.unit old.known new.known

-- The engine's log got a piece of work, or a stripe that had been stopped was programmed again.
abbrev pub HasComeOn : WorkerView → WorkerView → Type 0
HasComeOn old new = HasWorkSince old.known new.known ⊎ HasProgrammedAgain old new

-- what a role does
abbrev pub IsOfRole : Role → Did → Type 0
IsOfRole roles.All did = did ≢ dids.Other
IsOfRole roles.Lane did = (did ≢ dids.Copied) × (did ≢ dids.NotCopied)
IsOfRole roles.Collector dids.Copied = ⊤
IsOfRole roles.Collector dids.NotCopied = ⊤
IsOfRole roles.Collector dids.Other = ⊤
IsOfRole roles.Collector (dids.Nothing why) = ⊤
IsOfRole roles.Collector did = ⊥

-- which commands a role makes: a lane programs and resets, and a collector fetches
abbrev pub AreOfRole : Role → List Made → Type 0
AreOfRole roles.All more = ⊤
AreOfRole roles.Lane more = AllByRecursion (λ m. is_fetch m.event.command ≡ false) more
AreOfRole roles.Collector more = AllByRecursion (λ m. is_fetch m.event.command ≡ true) more

-- what is done of that which isn't a copy
abbrev pub IsOfWorker : Did → Type 0
IsOfWorker did = (did ≢ dids.Other) × (did ≢ dids.Copied) × (did ≢ dids.NotCopied)

-- A pump in a role, with its answer.
pub record HasPumped (i : Image) (handed : List ModelUnit) (role : Role) (old new : WorkerView) (result : Result Did DriveErr) : Type 0 where
  pub more : List Made
  pub on : GoesOn old new more
  pub tells : TellsPump i handed role old.known new.known more result

-- a fetch that gave no block, as a pump tells it
abbrev pub fault_of : FetchErr → DriveErr
fault_of e = record { unit = e.unit; event = e.event }

abbrev pub pumped_of : Result Did FetchErr → Result Did DriveErr
pumped_of (Ok did) = Ok did
pumped_of (Err e) = Err (fault_of e)

-- where it is an error, the cause of each of these fetches is told
abbrev pub TellsCauses : List Made → Result Did FetchErr → Type 0
TellsCauses more (Ok did) = ⊤
TellsCauses more (Err e) = AllByRecursion (λ m. TellsCause e.cause m.event.outcome) more

-- A pump that only copies, in a role that does, with its answer and the cause of a fetch that gave no
-- block.
pub record HasCollected (i : Image) (handed : List ModelUnit) (role : Role) (old new : WorkerView) (result : Result Did FetchErr) : Type 0 where
  pub pumped : HasPumped i handed role old new (pumped_of result)
  pub fetched : AreOfRole roles.Collector pumped.more
  pub caused : TellsCauses pumped.more result

-- What a run of copies answers, with the fetches that its worker made in it. Each gave its block; or
-- the last didn't, and it is told why. It answers that it copied only where it made one at least,
-- and anything else only where it made one at most.
abbrev pub TellsRun : List ModelUnit → List Made → Result Did FetchErr → Type 0
TellsRun handed more (Ok did) = NoFaults more × (did ≡ dids.Copied → 0 < length more)
    × (did ≢ dids.Copied → length more ≤ 1)
TellsRun handed more (Err e) = (is : IsFaultOf handed more (fault_of e)) × TellsCause e.cause is.last.event.outcome

-- Sectors were copied one after another, at most 16.
pub record HasCollectedRun (handed : List ModelUnit) (old new : WorkerView) (result : Result Did FetchErr) : Type 0 where
  pub more : List Made
  pub on : GoesOn old new more
  pub fetched : AreOfRole roles.Collector more
  pub few : length more ≤ 16
  pub tells : TellsRun handed more result
