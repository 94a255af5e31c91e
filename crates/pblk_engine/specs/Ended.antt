-- How the program of a stripe ended, as a unit is asked and told.
use Rattle.std.specs.Prelude.{ℕ, ◌≡◌, ◌*◌}
use Rattle.pblk_model.specs.ChunkStep.{Done}
use Rattle.pblk_model.specs.UnitLog.{UnitOutcome, Answered, Failed, Stopped}
use Rattle.pblk_engine.specs.declared.commands.Ended.{Ended}
use Rattle.pblk_engine.specs.declared.commands.Ended.TheVariants as ended

-- What is told of a program. Where it failed, so many of the stripe's blocks were written.
abbrev pub TellsEnded : ℕ → Ended → UnitOutcome → Type 0
TellsEnded ws_min ended.Done outcome = outcome ≡ Answered Done
TellsEnded ws_min (ended.Failed kept) outcome = (k : ℕ) × (outcome ≡ Failed k) × (kept ≡ k * ws_min)
TellsEnded ws_min ended.Stopped outcome = (k : ℕ) × (outcome ≡ Stopped k)

-- A stripe has ended where its program was done or failed. One that was stopped is offered again.
abbrev pub ended_by : Ended → ℕ
ended_by ended.Done = 1
ended_by (ended.Failed kept) = 1
ended_by ended.Stopped = 0
