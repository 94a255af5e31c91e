-- A drive whose units were lent to a call, which commanded them.
use Rattle.std.proofs.Common.{◌≡◌, ℕ, ◌<◌, List, Vec, Global, length, map, Option, Some, sym, ap, subst, ◌∙◌}
use Rattle.std.specs.List.{AllByRecursion, slice_get}
use Rattle.std.specs.Vec.{with_items}
use Rattle.std.proofs.lemmas.List.{length-map}
use Rattle.std.proofs.lemmas.Option.{same_Some}
use Rattle.pblk_model.proofs.Maps.{get_mapped, map_back}
use Rattle.pblk_model.proofs.Parts.{all_by_get, all_get}
use Rattle.pblk_model.specs.declared.shape.Shape.{Shape}
use Rattle.unit_port.specs.Commands.{AreKept}
use Rattle.unit_port.specs.Unit.{IsFitUnit, ModelUnit}
use Rattle.ocssd_drive.specs.Drive.{DriveView, IsWhole, shape_of, with_units}
use Rattle.ocssd_drive.specs.Units.{IsUnitOf, WornUnit}
use Rattle.ocssd_drive.proofs.Drives.{whole_with, written_over}
use Rattle.scan_recovery.specs.declared.error.ScanErr.{ScanErr}
use Rattle.scan_recovery.specs.Fetches.{WereFetched}

-- a unit that was kept, with its wear indices, is still one of the drive
unit_still : (d : DriveView) (new : List WornUnit) (k : ℕ) (v : WornUnit) → IsWhole d
    → AreKept (map (λ (u : WornUnit). u.unit) d.units) (map (λ (u : WornUnit). u.unit) new)
    → map (λ (u : WornUnit). u.wear) new ≡ map (λ (u : WornUnit). u.wear) d.units → slice_get new k ≡ Some v → IsUnitOf (shape_of d) v
unit_still d new k v whole kept wear there =
    let of = kept.each k v.unit (get_mapped (λ (u : WornUnit). u.unit) new k v there) in
    let w = map_back (λ (u : WornUnit). u.unit) d.units k of.0 of.1 in
    let was = all_get (IsUnitOf (shape_of d)) d.units k w.0 whole.fit w.1 in
    let same : v.wear ≡ w.0.wear =
    same_Some v.wear w.0.wear (sym (get_mapped (λ (u : WornUnit). u.wear) new k v there) ∙ ap (λ ws. slice_get ws k) wear
    ∙ get_mapped (λ (u : WornUnit). u.wear) d.units k w.0 w.1) in
    record {
      shape = of.2.shape ∙ ap (λ (u : ModelUnit). u.shape) (sym w.2) ∙ was.shape;
      fits = of.2.fits (subst IsFitUnit w.2 was.fits);
      worn = ap length same ∙ was.worn;
      worn_fits = subst (AllByRecursion (λ x. x < 256)) (sym same) was.worn_fits;
    }

-- there are as many units
as_many : (old new : List WornUnit) → AreKept (map (λ (u : WornUnit). u.unit) old) (map (λ (u : WornUnit). u.unit) new) → length new ≡ length old
as_many old new kept = sym (length-map new (λ (u : WornUnit). u.unit)) ∙ kept.count ∙ length-map old (λ (u : WornUnit). u.unit)

-- so the drive is still whole
whole_after : (d : DriveView) (new : List WornUnit) → IsWhole d → AreKept (map (λ (u : WornUnit). u.unit) d.units) (map (λ (u : WornUnit). u.unit) new)
    → map (λ (u : WornUnit). u.wear) new ≡ map (λ (u : WornUnit). u.wear) d.units → IsWhole (with_units new d)
whole_after d new whole kept wear =
    whole_with d new whole (as_many d.units new kept) (all_by_get (IsUnitOf (shape_of d)) new (λ k v there. unit_still d new k v whole kept wear there))

module _ (v : Vec WornUnit Global) (lent new : List WornUnit) (own : lent ≡ v.items)
    (kept : AreKept (map (λ (u : WornUnit). u.unit) lent) (map (λ (u : WornUnit). u.unit) new)) where
  -- the units come back as the call left them
  pub come_back : (with_items v new).items ≡ new
  come_back = written_over v new (as_many lent new kept ∙ ap length own)

  -- so the drive is whole again
  pub whole_again : (d : DriveView) → lent ≡ d.units → IsWhole d → map (λ (u : WornUnit). u.wear) new ≡ map (λ (u : WornUnit). u.wear) lent
      → IsWhole (with_units (with_items v new).items d)
  whole_again d of whole wear =
      rw come_back (whole_after d new whole
      (subst (λ (us : List WornUnit). AreKept (map (λ (u : WornUnit). u.unit) us) (map (λ (u : WornUnit). u.unit) new)) of kept)
      (wear ∙ ap (map (λ (u : WornUnit). u.wear)) of))

  -- and their wear indices are the drive's
  pub wear_again : (d : DriveView) → lent ≡ d.units → map (λ (u : WornUnit). u.wear) new ≡ map (λ (u : WornUnit). u.wear) lent
      → map (λ (u : WornUnit). u.wear) (with_items v new).items ≡ map (λ (u : WornUnit). u.wear) d.units
  wear_again d of wear = rw come_back (wear ∙ ap (map (λ (u : WornUnit). u.wear)) of)

  -- what was fetched of them was fetched of the drive's
  pub fetched_again : (d : DriveView) (s : Shape) (e : Option ScanErr) → lent ≡ d.units
      → WereFetched s (map (λ (u : WornUnit). u.unit) lent) (map (λ (u : WornUnit). u.unit) new) e
      → WereFetched s (map (λ (u : WornUnit). u.unit) d.units) (map (λ (u : WornUnit). u.unit) (with_items v new).items) e
  fetched_again d s e of ran =
      rw come_back (subst (λ (us : List WornUnit). WereFetched s (map (λ (u : WornUnit). u.unit) us) (map (λ (u : WornUnit). u.unit) new) e) of ran)
