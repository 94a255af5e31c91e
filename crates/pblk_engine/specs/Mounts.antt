-- What each part of an engine keeps of its mount.
use Rattle.std.specs.Prelude.{ℕ, ◌≡◌, ◌*◌, List, [], length, Some}
use Rattle.atomic_table.specs.Seated.{TableId}
use Rattle.pblk_model.specs.Frames.{Region}
use Rattle.pblk_model.specs.Accepted.{IsAccepted}
use Rattle.pblk_model.specs.Image.{IsFit}
use Rattle.pblk_model.specs.Shape.{small, units}
use Rattle.pblk_world.specs.EngineLog.{Begun, begun}
use Rattle.scan_recovery.specs.Units.{AreFit, image_of}
use Rattle.step_laws.specs.Opened.{AreArmed}
use Rattle.unit_port.specs.Unit.{ModelUnit}
use Rattle.chronicle.specs.Views.{Past}
use Rattle.chronicle.specs.Prefixes.{logs_of, AreLegalLogs}
use Rattle.write_ring.specs.declared.view.Key.{Key}

-- The mount stands over the units that were handed in, of a drive of an accepted shape. They are
-- armed with nothing, or were armed no later than they were handed in. The logs so far are legal
-- and have the mount's beginning. The ring begins with the mount's first position, has the drive's
-- number of entries, keeps a stripe of each unit for copies, and takes sectors of the drive's size
-- below its capacity.
pub record IsMounted (past : Past) (key : Key) (handed : List ModelUnit) (wear : List (List ℕ)) : Type 0 where
  pub accepted : IsAccepted past.image.shape
  pub fit : IsFit past.image
  pub legal : AreLegalLogs past.image past.logs
  pub beginning : Begun
  pub has_begun : begun (logs_of past.logs 0) ≡ Some beginning
  pub first : key.first ≡ beginning.beginning.first
  pub size : key.size ≡ past.image.shape.ring
  pub reserve : key.reserve ≡ units past.image.shape * past.image.shape.ws_opt
  pub sector : key.origin.region.size ≡ past.image.shape.sector
  pub capacity : key.capacity ≡ past.image.shape.capacity
  pub units : AreFit past.image.shape handed
  pub image : past.image ≡ image_of past.image.shape handed
  pub armed : AreArmed handed
  pub worn : length wear ≡ length handed

-- where no mount is named these may be anything

pub no_table : TableId
no_table = record { words = 0; slots = 0; views_name = 0; atom = 0; block = 0; offset = 0; slot_names = [] }

pub no_past : Past
no_past = record { image = record { shape = small; units = [] }; logs = [] }

pub no_key : Key
no_key =
    let region : Region = record { block = 0; start = 0; stride = 0; size = 0; count = 0 } in
    record { first = 0; size = 0; reserve = 0; capacity = 0; origin = record { region = region } }
