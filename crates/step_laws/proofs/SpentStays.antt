-- A step of a unit leaves no line to be freed where there was none.
use Rattle.std.proofs.Common.{◌≡◌, ℕ, Some, ◌∷◌}
use Rattle.pblk_model.specs.Image.{Image}
use Rattle.pblk_model.specs.UnitLog.{UnitEvent}
use Rattle.pblk_world.specs.EngineLog.{Begun, begun}
use Rattle.pblk_world.specs.Events.{Maker}
use Rattle.pblk_world.specs.Orders.{NoneToFree}
use Rattle.pblk_world.specs.World.{World, log_of}
use Rattle.pblk_world.specs.LegalMounts.{IsLegalMount}
use Rattle.core_laws.specs.Spent.{OpensWhenFull}
use Rattle.core_laws.proofs.ToldSpent.{none_told}
use Rattle.step_laws.specs.Whole.{unit_step}
use Rattle.step_laws.proofs.UnitStays.{told_stays}

pub none_beside : (i : Image) (w : World) (b : Begun) (unit : ℕ) (e : UnitEvent) (maker : Maker) → IsLegalMount i w
    → IsLegalMount i (unit_step i.shape unit e maker w ∷ w) → begun (log_of w 0) ≡ Some b → OpensWhenFull i (log_of w) → NoneToFree i (log_of w)
    → NoneToFree i (log_of (unit_step i.shape unit e maker w ∷ w))
none_beside i w b unit e maker mount legal begins full =
    none_told i w (unit_step i.shape unit e maker w ∷ w) b mount legal begins full (told_stays i w unit e maker mount.legal)
