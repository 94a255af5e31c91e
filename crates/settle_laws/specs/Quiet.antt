-- What a mount does once no user's entry is taken any more: how many pieces of work (specs/Work of
-- rest_laws) it makes from a length of its engine's log on.
use Rattle.std.specs.Prelude.{ℕ, ◌+◌, ◌-◌, ◌*◌, ◌/◌, ◌≤◌, ◌≡◌, ◌≢◌, List, length, slice_get, Some, None}
use Rattle.pblk_model.specs.declared.chunk.Mark.{Mark}
use Rattle.pblk_model.specs.declared.shape.Shape.{Shape}
use Rattle.pblk_model.specs.Image.{Image}
use Rattle.pblk_model.specs.Shape.{units}
use Rattle.pblk_world.specs.AtRest.{logs_at}
use Rattle.pblk_world.specs.Events.{Take, Decides, Entry}
use Rattle.pblk_world.specs.Orders.{AreReset}
use Rattle.pblk_world.specs.Reasons.{WasBegun}
use Rattle.pblk_world.specs.Fronts.{waiting}
use Rattle.pblk_world.specs.Space.{full_data, open_addresses}
use Rattle.pblk_world.specs.World.{Logs}
use Rattle.rest_laws.specs.Copies.{TookCopy}
use Rattle.rest_laws.specs.RoomSteps.{stripes_left}

-- No user's entry was taken from this length of the engine's log on.
pub record IsQuietFrom (logs : Logs) (from : ℕ) : Type 0 where
  pub each : (k : ℕ) (knows : List ℕ) (entry : Entry) (mark : Mark) → from ≤ k
      → slice_get (logs 0) k ≡ Some (record { event = Decides (Take entry mark); knows = knows })
      → entry.source ≢ None

-- From this length of the engine's log on, copies were begun where no reset was left to be made. At
-- which length each copy had been begun is told by the number of the event that took it.
pub record AreBegunReset (i : Image) (logs : Logs) (from : ℕ) : Type 0 where
  pub at : ℕ → ℕ
  pub begun : (number : ℕ) (entry : Entry) (mark : Mark) (took : TookCopy (logs 0) number entry mark)
      → (b : WasBegun i logs number entry.lba took.source) × (b.at ≡ at number)
  pub reset : (number : ℕ) (entry : Entry) (mark : Mark) → TookCopy (logs 0) number entry mark
      → from ≤ at number → AreReset i (logs_at (at number) logs)

-- The most pieces of work.

-- the stripes of a line, with those of its records
abbrev pub line_stripes : Shape → ℕ
line_stripes s = units s * s.clba / s.ws_opt

-- What a line that is freed is worth: its stripes, its opening, and its resets.
abbrev pub line_work : Shape → ℕ
line_work s = line_stripes s + 1 + units s

-- What an address that is missing is worth. A line that is copied gives a stripe's addresses at
-- least, and one that isn't given up for pads again.
abbrev pub address_work : Shape → ℕ
address_work s = full_data s + line_work s

-- The most pieces of work from such logs on. It is what a missing address is worth for each entry
-- that waits, for each address that is left in an open line, for each data address of twice as many
-- lines as the drive has and of three more, and for what three padded stripes may lack. Besides
-- there are the stripes that opened lines have still to get, and what is left to be done in lines
-- that were freed before.
abbrev pub most_work : Image → Logs → ℕ
most_work i logs =
    address_work i.shape * (length (waiting i.shape (logs 0)) + open_addresses i logs
    + (2 * i.shape.chunks + 3) * full_data i.shape + 3 * (i.shape.ws_opt - 1) + 1)
    + stripes_left i logs + 2 * (line_stripes i.shape + 1) * i.shape.chunks + units i.shape * i.shape.chunks
    + line_work i.shape + full_data i.shape + 1

-- The same by the shape alone, where so many entries wait: no line has more addresses that are
-- left, or stripes still to get, than a line of all units has blocks, or stripes.
abbrev pub most_work_by : Shape → (waiting : ℕ) → ℕ
most_work_by s waiting =
    address_work s * (waiting + s.chunks * (units s * s.clba) + (2 * s.chunks + 3) * full_data s + 3 * (s.ws_opt - 1) + 1)
    + s.chunks * line_stripes s + 2 * (line_stripes s + 1) * s.chunks + units s * s.chunks
    + line_work s + full_data s + 1
