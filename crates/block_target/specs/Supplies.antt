-- What an opening puts together to a target.
use Rattle.std.specs.Prelude.{ℕ, ◌+◌, ◌-◌, ◌^◌, ◌≡◌, ◌≤◌, ◌<◌, List, length}
use Rattle.std.specs.List.{AllByRecursion}
use Rattle.atomic_table.specs.Seated.{TableId}
use Rattle.pblk_model.specs.declared.found.Found.{Found}
use Rattle.unit_port.specs.Unit.{ModelUnit}
use Rattle.world_laws.specs.EarlyLogs.{AreEarly}
use Rattle.write_ring.specs.Handles.{pass_view}
use Rattle.write_ring.specs.declared.view.Key.{Key}
use Rattle.chronicle.specs.Handles.{first_token}
use Rattle.chronicle.specs.Prefixes.{logs_of}
use Rattle.chronicle.specs.Views.{Past}
use Rattle.pblk_engine.specs.Beginnings.{IsFirstPast}
use Rattle.pblk_engine.specs.Endings.{IsPassIn}
use Rattle.pblk_engine.specs.Hearts.{IsRingOf}
use Rattle.pblk_engine.specs.Mounts.{IsMounted}
use Rattle.block_target.specs.MountFrames.{IsFreeIn, first_pass}
use Rattle.block_target.specs.OpenedTargets.{AreWorks}
use Rattle.block_target.specs.Rooms.{AreNewLists, AreRooms, IsNewWorker}
use Rattle.block_target.specs.Targets.{naming}
use Rattle.block_target.specs.declared.target.Beginning.{Beginning}
use Rattle.block_target.specs.declared.target.Supply.{Supply}

-- So many sessions were made of it, each with one share of the ring and one worker.
pub record IsSupplied (chronicle : TableId) (past : Past) (ring : TableId) (key : Key) (number : ℕ) (s : Supply) : Type 0 where
  pub token : s.token ≡ naming chronicle past number
  pub pass_of : IsPassIn ring key s.pass
  pub pass : pass_view s.pass ≡ first_pass (127 - number) key
  pub workers : AllByRecursion (IsNewWorker past.image.shape) s.workers.items
  pub lists : AllByRecursion AreNewLists s.lists.items
  pub batches : AllByRecursion (IsFreeIn key.origin.region 16) s.batches.items
  pub first : key.first ≤ 2 ^ 62

-- there is enough for one more
pub record HasSupplies (s : Supply) : Type 0 where
  pub workers : 0 < length s.workers.items
  pub lists : 0 < length s.lists.items
  pub batches : 0 < length s.batches.items

-- as much went out as so many sessions take
pub record HaveGoneOut (count : ℕ) (old new : Supply) : Type 0 where
  pub workers : length old.workers.items ≡ length new.workers.items + count
  pub lists : length old.lists.items ≡ length new.lists.items + count
  pub batches : length old.batches.items ≡ length new.batches.items + count

-- The parts of a mount that has just begun are those that it names.
pub record IsBeginning (chronicle : TableId) (past : Past) (ring : TableId) (key : Key) (handed : List ModelUnit) (wear : List (List ℕ))
    (b : Beginning) : Type 0 where
  pub mounted : IsMounted past key handed wear
  pub early : AreEarly (logs_of past.logs)
  pub found : Found
  pub begun : IsFirstPast past found
  pub shape : b.shape ≡ past.image.shape
  pub its_chronicle : b.chronicle ≡ chronicle
  pub token : b.token ≡ first_token chronicle past
  pub its_ring : IsRingOf ring key b.works.frames.ring
  pub low : key.first ≤ 2 ^ 62
  pub works : AreWorks past.image.shape found b.sessions b.works
  pub rooms : AreRooms past.image.shape b.sessions b.lanes b.rooms
  pub few : b.sessions ≤ 64
  pub few_lanes : b.lanes ≤ 8
