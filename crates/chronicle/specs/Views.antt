-- What a chronicle begins with, and what a seat of its table knows.
use Rattle.std.specs.Prelude.{ℕ, Bool, List, Option}
use Rattle.pblk_model.specs.Image.{Image}
use Rattle.pblk_world.specs.Events.{Logged, Maker}

-- The image over which the mount stands, as it was before the first event of these logs, and the logs
-- so far: for each author's number its log, the oldest event first. 0 is the engine, and u + 1 is unit u.
pub record Past : Type 0 where
  pub image : Image
  pub logs : List (List Logged)

-- What a seat owns, and what it knows: what the chronicle began with, the numbers of the logs to which
-- it alone may append, and for each author's number the prefix of its log that is known. Where nothing
-- is known that list is empty. Besides, for each worker whose commands it alone numbers, the maker of
-- the next one; and where it alone names new workers, the number of the next of them.
pub record Part : Type 0 where
  pub past : Past
  pub owned : List ℕ
  pub known : List (List Logged)
  pub makers : List Maker
  pub spare : Option ℕ

-- A seat: whether the chronicle hasn't begun yet, so that it is the only one; what it owns and knows;
-- and what it took in from another, until the load after that.
pub record View : Type 0 where
  pub fresh : Bool
  pub mine : Part
  pub heard : Part
