-- What holds of an arm by what contracts see of it.
use Rattle.std.specs.Prelude.{ℕ, ◌≡◌, ◌<◌, List, slice_get, Some}
use Rattle.pblk_model.specs.Shape.{units}
use Rattle.unit_port.specs.Unit.{ModelUnit}
use Rattle.chronicle.specs.Views.{Past}
use Rattle.chronicle.specs.Prefixes.{logs_of, ArePrefixes, AreLegalLogs}
use Rattle.write_ring.specs.declared.view.Key.{Key}
use Rattle.pblk_engine.specs.Arms.{ArmView, IsArm}
use Rattle.pblk_engine.specs.Mounts.{IsMounted}

-- It is of this mount. What it knows is a legal world, and the unit is as that leaves it since it
-- was handed in.
pub record IsArmOfMount (past : Past) (key : Key) (handed : List ModelUnit) (wear : List (List ℕ)) (a : ArmView) : Type 0 where
  pub mounted : IsMounted past key handed wear
  pub legal : AreLegalLogs past.image a.known
  pub begun : ArePrefixes past.logs a.known
  pub in_range : a.number < units past.image.shape
  pub before : ModelUnit
  pub there : slice_get handed a.number ≡ Some before
  pub arm : IsArm past.image (logs_of a.known) a.number before a.unit
