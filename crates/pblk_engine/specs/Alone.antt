-- A settling: its worker goes on alone, since nobody else has the engine meanwhile. What its pumps
-- are, each of which is counted.
use Rattle.std.specs.Prelude.{ℕ, ◌+◌, ◌<◌, ◌≤◌, ◌≡◌, ◌≢◌, ◌⊎◌, true, List, [], ◌∷◌, length, slice_get, Some, Result, Ok, Err}
use Rattle.std.specs.List.{Contains}
use Rattle.pblk_model.specs.declared.chunk.Mark.{Mark}
use Rattle.pblk_model.specs.Image.{Image}
use Rattle.pblk_model.specs.Shape.{units}
use Rattle.pblk_model.specs.StartRecord.{StartRecord}
use Rattle.pblk_world.specs.AtRest.{IsCopyDue, IsDue, logs_at, pad_target}
use Rattle.pblk_world.specs.EngineLog.{Begun, Placed, begun, is_answered, placements}
use Rattle.pblk_world.specs.Events.{Decides, Entry, Logged, Stripe, Take}
use Rattle.pblk_world.specs.Fronts.{taken, waiting}
use Rattle.pblk_world.specs.Opening.{MayOpen}
use Rattle.pblk_world.specs.Orders.{AreReset}
use Rattle.pblk_world.specs.Reasons.{WasBegun}
use Rattle.pblk_world.specs.Space.{freed, open_addresses}
use Rattle.pblk_world.specs.World.{Logs}
use Rattle.rest_laws.specs.Copies.{TookCopy}
use Rattle.unit_port.specs.Unit.{ModelUnit}
use Rattle.pblk_core.specs.declared.work.Why.{Why}
use Rattle.pblk_core.specs.declared.work.Work.{Work}
use Rattle.pblk_core.specs.declared.work.Work.TheVariants as works
use Rattle.chronicle.specs.Prefixes.{AreLegalLogs, Prefixes, logs_of}
use Rattle.pblk_engine.specs.Pumps.{HasPumped, IsWork}
use Rattle.pblk_engine.specs.Settlings.{HasWorked}
use Rattle.pblk_engine.specs.Ticks.{Pump}
use Rattle.pblk_engine.specs.Workers.{WorkerView}
use Rattle.pblk_engine.specs.declared.errors.DriveErr.{DriveErr}
use Rattle.pblk_engine.specs.declared.outcomes.Did.{Did}
use Rattle.pblk_engine.specs.declared.outcomes.Did.TheVariants as dids
use Rattle.pblk_engine.specs.declared.outcomes.Role.TheVariants as roles

-- From this length on the log takes no entry.
pub record TakesNothing (from : ℕ) (log : List Logged) : Type 0 where
  pub each : (k : ℕ) (knows : List ℕ) (entry : Entry) (mark : Mark) → from ≤ k
      → slice_get log k ≢ Some (record { event = Decides (Take entry mark); knows = knows })

-- From this length of the engine's log on it takes one entry, a copy. That was begun at this length,
-- and no reset was left to be made then.
pub record TakesOneCopy (i : Image) (from : ℕ) (logs : Logs) : Type 0 where
  pub number : ℕ
  pub entry : Entry
  pub mark : Mark
  pub took : TookCopy (logs 0) number entry mark
  pub since : from ≤ number
  pub only : (k : ℕ) (knows : List ℕ) (other : Entry) (its : Mark) → from ≤ k
      → slice_get (logs 0) k ≡ Some (record { event = Decides (Take other its); knows = knows }) → k ≡ number
  pub begun : WasBegun i logs number entry.lba took.source
  pub at : begun.at ≡ from
  pub reset : AreReset i (logs_at from logs)

-- what the engine's log takes in a pump with this answer
abbrev pub TakesBy : Image → Prefixes → Prefixes → Result Did DriveErr → Type 0
TakesBy i old new (Ok dids.Copied) = TakesOneCopy i (length (logs_of old 0)) (logs_of new)
TakesBy i old new (Ok did) = TakesNothing (length (logs_of old 0)) (logs_of new 0)
TakesBy i old new (Err e) = TakesNothing (length (logs_of old 0)) (logs_of new 0)

-- A sector is to be copied, and nothing else can be done: no reset is left to be made, no stripe is
-- under way, none is to be placed for a pad target, and no line is to be opened.
pub record IsCopyAlone (i : Image) (logs : Logs) : Type 0 where
  pub reset : AreReset i logs
  pub asked : ℕ
  pub stripes : (p : Placed) → Contains (placements (logs 0)) p → is_answered (logs 0) p ≡ true
  pub no_program : (stripe : Stripe) → ¬ IsDue i logs (pad_target i logs asked) stripe
  pub no_opening : (beginning : Begun) (line : ℕ) (start : StartRecord) → begun (logs 0) ≡ Some beginning
      → 0 < length (waiting i.shape (logs 0)) → open_addresses i logs ≡ 0 → ¬ MayOpen i logs beginning line start
  pub due : IsCopyDue i logs

-- So it is, and the ring has no room for the copy.
pub record WasFull (i : Image) (logs : Logs) : Type 0 where
  pub copy : IsCopyAlone i logs
  pub full : freed i.shape (logs 0) + i.shape.ring ≤ taken (logs 0)

-- the logs as they are at a look
abbrev pub at_look : Prefixes → Logs
at_look known = logs_at (length (logs_of known 0)) (logs_of known)

-- This work can be done, by what its worker knows at a look.
pub record CanBeDone (i : Image) (known : Prefixes) (work : Work) : Type 0 where
  pub some : (why : Why) → work ≢ works.Nothing why
  pub inside : (line unit : ℕ) → work ≡ works.Reset line unit → unit < units i.shape
  pub reset : work ≡ works.Copy → AreReset i (logs_of known)
  pub alone : work ≡ works.Copy → IsCopyAlone i (at_look known)

-- A pump that its worker made alone. What it doesn't do itself nobody does: so it did something, or
-- there was no room for a copy.
pub record IsLonePump (i : Image) (handed : List ModelUnit) (p : Pump) : Type 0 where
  pub pumped : HasPumped i handed roles.All p.before p.after p.answer
  pub legal : AreLegalLogs i p.before.known
  pub takes : TakesBy i p.before.known p.after.known p.answer
  pub works : (did : Did) → p.answer ≡ Ok did → IsWork did ⊎ WasFull i (at_look p.before.known)

-- The worker made these pumps alone, one after another: the engine's log is at each look as the pump
-- before left it. One that lost a command is the last.
abbrev pub AreLonePumps : Image → List ModelUnit → WorkerView → List Pump → WorkerView → Type 0
AreLonePumps i handed old [] new = HasWorked old new [] × (logs_of new.known 0 ≡ logs_of old.known 0)
AreLonePumps i handed old (p ∷ pumps) new = HasWorked old p.before [] × (logs_of p.before.known 0 ≡ logs_of old.known 0)
    × IsLonePump i handed p × ((e : DriveErr) → p.answer ≡ Err e → pumps ≡ []) × AreLonePumps i handed p.after pumps new

-- First the worker waited until all that was claimed was taken, and then it made as many pumps as
-- were counted.
pub record HasSettledAlone (i : Image) (handed : List ModelUnit) (old new : WorkerView) (start stop : ℕ) : Type 0 where
  pub first : WorkerView
  pub waited : HasWorked old first []
  pub pumps : List Pump
  pub made : AreLonePumps i handed first pumps new
  pub counted : stop ≡ start + length pumps
