-- The units of a drive that was armed: a target can be opened on them.
use Rattle.std.proofs.Common.{◌≡◌, ℕ, zero, suc, ◌+◌, List, [], ◌∷◌, length, map, Option, Some, slice_get, sym, subst, ◌∙◌, inr}
use Rattle.std.specs.List.{AllByRecursion, enumerate_from}
use Rattle.std.proofs.lemmas.List.{length-map}
use Rattle.std.proofs.lemmas.Option.{none-some, same_Some}
use Rattle.std.proofs.Math.Nat.{le_refl}
use Rattle.atomic_table.specs.Seated.{TableId}
use Rattle.pblk_model.specs.declared.shape.Shape.{Shape}
use Rattle.unit_port.specs.declared.armed.FaultPlan.{FaultPlan}
use Rattle.unit_port.specs.declared.armed.Fuse.{Fuse}
use Rattle.unit_port.specs.Unit.{ModelUnit}
use Rattle.ocssd_drive.specs.Drive.{DriveView, IsWhole, armed_unit, armed_units, shape_of, with_units}
use Rattle.ocssd_drive.specs.Units.{IsUnitOf, WornUnit}
use Rattle.scan_recovery.specs.Units as scan
use Rattle.step_laws.specs.Opened.{AreArmed, IsArmed}
use Rattle.block_target.specs.Opened.{CanOpen}

abbrev unit : WornUnit → ModelUnit
unit u = u.unit

-- each was armed as its log is now
armed_from : (plans : List FaultPlan) (fuse : Option Fuse) (word : Option TableId) (n : ℕ) (us : List WornUnit)
    → AreArmed (map unit (map (armed_unit plans fuse word) (enumerate_from n us)))
armed_from plans fuse word n [] k m there = absurd (none-some m there)
armed_from plans fuse word n (u ∷ us) zero m there =
    subst IsArmed (same_Some (unit (armed_unit plans fuse word (n, u))) m there) (inr (le_refl (length u.unit.log)))
armed_from plans fuse word n (u ∷ us) (suc k) m there = armed_from plans fuse word (n + 1) us k m there

each_fit : (s : Shape) (us : List WornUnit) → AllByRecursion (IsUnitOf s) us → (k : ℕ) (m : ModelUnit) → slice_get (map unit us) k ≡ Some m
    → scan.IsUnitOf s m
each_fit s [] all k m there = absurd (none-some m there)
each_fit s (u ∷ us) all zero m there =
    subst (λ (x : ModelUnit). scan.IsUnitOf s x) (same_Some u.unit m there) (record { shape = all.0.shape; fits = all.0.fits })
each_fit s (u ∷ us) all (suc k) m there = each_fit s us all.1 k m there

pub can_open : (old d : DriveView) (plans : List FaultPlan) (fuse : Option Fuse) (word : Option TableId) → IsWhole d
    → d ≡ with_units (armed_units plans fuse word old.units) old → CanOpen (shape_of d) (map (λ (u : WornUnit). u.unit) d.units)
can_open old d plans fuse word whole is = record {
  accepted = whole.accepted;
  fit = record {
    count = length-map d.units unit ∙ whole.count;
    each = each_fit (shape_of d) d.units whole.fit;
  };
  armed = subst (λ (e : DriveView). AreArmed (map unit e.units)) (sym is) (armed_from plans fuse word 0 old.units);
}
