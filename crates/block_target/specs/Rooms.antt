-- What a mount needs beside its frames and its logs, as it begins.
use Rattle.std.specs.Prelude.{ℕ, ◌+◌, ◌≡◌, [], false, length, replicate}
use Rattle.std.specs.List.{AllByRecursion}
use Rattle.pblk_model.specs.Shape.{units}
use Rattle.pblk_model.specs.declared.shape.Shape.{Shape}
use Rattle.pblk_core.specs.Filling.{Filling, empty_stripe}
use Rattle.block_target.specs.declared.rooms.Rooms.{Rooms}
use Rattle.block_target.specs.declared.rooms.SessionLists.{SessionLists}
use Rattle.block_target.specs.declared.rooms.WorkerParts.{WorkerParts}

-- the lists of a session that has done nothing yet
pub record AreNewLists (l : SessionLists) : Type 0 where
  pub own : l.own ≡ []
  pub faults : l.faults ≡ []
  pub worns : l.worns ≡ []

-- the stripe of a worker that has had none programmed
abbrev pub new_stripe : Shape → Filling
new_stripe s = record { shape = s; stripe = empty_stripe 0 0 0; again = false; turn = 0 }

-- what a worker has that has made no command
pub record IsNewWorker (s : Shape) (p : WorkerParts) : Type 0 where
  pub stripe : p.stripe ≡ new_stripe s
  pub made : p.made ≡ []

pub record AreRooms (s : Shape) (sessions lanes : ℕ) (r : Rooms) : Type 0 where
  pub stops : r.stops.items ≡ replicate (units s) 0
  pub sector : length r.sector.items ≡ s.sector
  pub workers : AllByRecursion (IsNewWorker s) r.workers.items
  pub worker_count : length r.workers.items ≡ sessions + lanes + 1
  pub lists : AllByRecursion AreNewLists r.lists.items
  pub list_count : length r.lists.items ≡ sessions
