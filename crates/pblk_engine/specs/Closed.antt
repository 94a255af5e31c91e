-- An engine that was worked off by its first worker, and ended then.
use Rattle.std.specs.Prelude.{ℕ, List, [], ◌∷◌, ◌++◌, ◌≡◌, Option, Result, Ok, Err}
use Rattle.pblk_model.specs.Image.{Image}
use Rattle.pblk_world.specs.Fronts.{taken}
use Rattle.pblk_world.specs.World.{Logs, log_of}
use Rattle.unit_port.specs.Unit.{ModelUnit}
use Rattle.write_ring.specs.declared.view.Key.{Key}
use Rattle.write_ring.specs.declared.view.Part.{Part}
use Rattle.chronicle.specs.Views.{Past}
use Rattle.chronicle.specs.Prefixes.{logs_of}
use Rattle.pblk_engine.specs.Alone.{HasSettledAlone}
use Rattle.pblk_engine.specs.Endings.{HasEnded}
use Rattle.pblk_engine.specs.Pumps.{IsFaultOf, NoFaults}
use Rattle.pblk_engine.specs.Settlings.{HasWorked, IsWorkedOff, IsWornAt}
use Rattle.pblk_engine.specs.Workers.{Made, WorkerView}
use Rattle.pblk_engine.specs.declared.errors.SettleErr.{SettleErr}
use Rattle.pblk_engine.specs.declared.errors.SettleErr.TheVariants as errors

-- What the call tells of these logs, with the commands that the worker made in it: all that was
-- claimed is on the drive, and collection isn't due or the engine is at rest; or it is worn; or a
-- command was lost.
abbrev pub TellsEnd : Image → List ModelUnit → Logs → List Made → Result (Unit {0}) SettleErr → Type 0
TellsEnd i handed logs more (Ok _) = NoFaults more × IsWorkedOff i logs (taken (logs 0))
TellsEnd i handed logs more (Err (errors.Worn wanted have)) = NoFaults more × IsWornAt i logs wanted have
TellsEnd i handed logs more (Err (errors.Drive unit event)) = IsFaultOf handed more (record { unit = unit; event = event })

-- The worker went on, and this is told of the logs as they are at the end.
pub record HasWorkedOff (i : Image) (handed : List ModelUnit) (old new : WorkerView) (logs : Logs) (result : Result (Unit {0}) SettleErr) : Type 0 where
  pub more : List Made
  pub on : HasWorked old new more
  pub tells : TellsEnd i handed logs more result

-- An engine was worked off by its first worker, with this answer, and has ended: what is told holds
-- of its world. The worker had the engine to itself, and its pumps were counted.
pub record HasClosed (past : Past) (key : Key) (handed : List ModelUnit) (wear : List (List ℕ)) (first : WorkerView)
    (workers : List WorkerView) (named : Option ℕ) (pass : Part) (settled : Result (Unit {0}) SettleErr)
    (units : List ModelUnit) (worn : List (List ℕ)) : Type 0 where
  -- the first worker, as it was at the end
  pub last : WorkerView
  pub more : List Made
  pub on : HasWorked first last more
  pub ended : HasEnded past key handed wear (workers ++ last ∷ []) named pass units worn
  pub tells : TellsEnd past.image handed (log_of ended.world) more settled
  pub count : ℕ
  pub pumps : HasSettledAlone past.image handed first last 0 count
  -- the engine's log is as the pumps left it
  pub own : logs_of last.known 0 ≡ log_of ended.world 0
