-- Workers, and the commands that they made.
use Rattle.std.specs.Prelude.{ℕ, suc, ◌≡◌, ◌-◌, List, [], ◌∷◌, length, slice_get, None, Some}
use Rattle.atomic_table.specs.Seated.{TableId}
use Rattle.pblk_model.specs.UnitLog.{UnitEvent}
use Rattle.pblk_core.specs.Filling.{Filling}
use Rattle.pblk_world.specs.AtRest.{AreResetsNoted}
use Rattle.pblk_world.specs.Events.{Does, Logged}
use Rattle.pblk_world.specs.World.{Logs}
use Rattle.unit_port.specs.Unit.{ModelUnit}
use Rattle.chronicle.specs.Views.{Past}
use Rattle.chronicle.specs.Handles.{TokenView}
use Rattle.chronicle.specs.Prefixes.{Prefixes, logs_of, ArePrefixes, AreLegalLogs}
use Rattle.pblk_engine.specs.Arms.{last_event}

-- A command that a worker made: of which unit, and what became of it, as the event of this number
-- in the unit's log, from 0.
pub record Made : Type 0 where
  pub unit : ℕ
  pub number : ℕ
  pub event : UnitEvent

-- the last event that is known of a unit
abbrev pub last_made : ℕ → Prefixes → ModelUnit → Made
last_made unit known u = record { unit = unit; number = length (logs_of known (suc unit)) - 1; event = last_event u }

-- It stands in the logs. Its maker is the worker of this number, which had made so many before.
pub record WasMade (logs : Logs) (worker count : ℕ) (m : Made) : Type 0 where
  pub logged : Logged
  pub there : slice_get (logs (suc m.unit)) m.number ≡ Some logged
  pub event : logged.event ≡ Does m.event (record { worker = worker; made = count })

-- What contracts see of a worker: its number, what its token knows, its stripe, the commands that
-- it made, the oldest first, and up to which position it asked for pads.
pub record WorkerView : Type 0 where
  pub number : ℕ
  pub known : Prefixes
  pub stripe : Filling
  pub made : List Made
  pub asked : ℕ

abbrev pub worker_view : ℕ → Prefixes → Filling → List Made → ℕ → WorkerView
worker_view number known stripe made asked = record { number = number; known = known; stripe = stripe; made = made; asked = asked }

-- The token is one of this chronicle. By what it knows the engine has noted each reset that wasn't
-- stopped, and each command of the worker stands there. The stripe is of the drive's shape.
pub record IsWorkerOf (chronicle : TableId) (past : Past) (token : TokenView) (number : ℕ) (stripe : Filling) (made : List Made) : Type 0 where
  pub of : token.chronicle ≡ chronicle
  pub over : token.past ≡ past
  pub legal : AreLegalLogs past.image token.known
  pub begun : ArePrefixes past.logs token.known
  pub noted : AreResetsNoted (logs_of token.known)
  -- it numbers the worker's commands, and no others
  pub makers : token.makers ≡ record { worker = number; made = length made } ∷ []
  pub spare : token.spare ≡ None
  pub shape : stripe.shape ≡ past.image.shape
  pub each : (k : ℕ) (m : Made) → slice_get made k ≡ Some m → WasMade (logs_of token.known) number k m
