-- A drive whose units were handed to a target, came back and were disarmed.
use Rattle.std.proofs.Common.{◌≡◌, ℕ, List, [], ◌∷◌, map, Result, Ok, Some, slice_get, refl, sym, subst, ap, ◌∙◌}
use Rattle.std.specs.Prelude.{IfOk}
use Rattle.pblk_model.specs.declared.script.Command.{Command}
use Rattle.pblk_model.specs.declared.shape.Shape.{Shape}
use Rattle.pblk_model.specs.Image.{Image}
use Rattle.pblk_model.specs.ImageFile as image_file
use Rattle.unit_port.specs.Armed.{events_since}
use Rattle.unit_port.specs.Unit.{IsStopped}
use Rattle.ocssd_drive.specs.Drive.{AreArmedTogether, DriveView, FuseFell, IsWhole, shape_of, stored, with_units}
use Rattle.ocssd_drive.specs.Outcomes.{AreEventsBy}
use Rattle.ocssd_drive.specs.Units.{WornUnit, disarmed}
use Rattle.scan_recovery.specs.Units.{AreFit, image_of}
use Rattle.scan_recovery.proofs.UnitsLemmas.{drive_fits}
use Rattle.run_threads.specs.declared.records.Records.{Records}
use Rattle.pblk_cli.specs.Serving.{AreBack, DidByArms, IsDriveLeft, IsRan, IsServed, IsServing, units_of, wear_of}
use Rattle.pblk_cli.proofs.Backs.{together_back, whole_back}
use Rattle.pblk_cli.proofs.Disarmed.{did_by_arms, serving_disarmed}
use Rattle.pblk_cli.proofs.HandedDrives.{image_handed}

still_disarmed : (us : List WornUnit) → map disarmed us ≡ map disarmed (map disarmed us)
still_disarmed [] = refl
still_disarmed (u ∷ us) = ap (λ (xs : List WornUnit). disarmed u ∷ xs) (still_disarmed us)

wear_disarmed : (us : List WornUnit) → wear_of (map disarmed us) ≡ wear_of us
wear_disarmed [] = refl
wear_disarmed (u ∷ us) = ap (λ (ws : List (List ℕ)). u.wear ∷ ws) (wear_disarmed us)

-- A drive, the units that came back, and the drive as it then is.
module _ (found left : DriveView) (units : List WornUnit) (was : IsWhole found) (whole : IsWhole left)
    (back : AreBack (shape_of found) found.units units) (is : left ≡ with_units (map disarmed units) found) where
  units_are : left.units ≡ map disarmed units
  units_are = ap (λ (d : DriveView). d.units) is

  pub drive_left : IsDriveLeft found left
  drive_left = record {
    numbers = is ∙ ap (λ us. with_units us found) (sym units_are);
    wear = ap wear_of units_are ∙ wear_disarmed units ∙ back.wear;
    unarmed = units_are ∙ still_disarmed units ∙ ap (map disarmed) (sym units_are);
    was = was;
    whole = whole;
  }

  module _ (script : List (List Command)) (helpers : ℕ) (records : Records)
      (outcomes : (k : ℕ) (u : WornUnit) → slice_get units k ≡ Some u → AreEventsBy u.unit.shape u.unit.armed (events_since u.unit.armed u.unit.log))
      (stopped : (k : ℕ) (u : WornUnit) → slice_get units k ≡ Some u → IsStopped u.unit → FuseFell units u.unit.armed)
      (served : IsServed (shape_of found) script helpers (units_of found.units) (units_of units) records) where
    fit : AreFit (shape_of found) (units_of found.units)
    fit = drive_fits found found (shape_of found) refl refl was

    serving_left : IsServing (image_file.image_of (stored found)) (units_of found.units) (units_of left.units) script helpers records served.world
    serving_left =
        subst (λ us. IsServing (image_file.image_of (stored found)) (units_of found.units) (units_of us) script helpers records served.world) (sym units_are)
        (subst (λ (i : Image). IsServing i (units_of found.units) (units_of (map disarmed units)) script helpers records served.world) (image_handed found was)
        (serving_disarmed (image_of (shape_of found) (units_of found.units)) (units_of found.units) units script helpers records served.world served.serving))

    pub ran : IsRan found script helpers left records
    ran = record {
      world = served.world;
      serving = serving_left;
      by_arms = subst (λ us. DidByArms found.units us) (sym units_are) (did_by_arms (shape_of found) found.units units fit back outcomes stopped);
      drive = drive_left;
    }

-- The same by the fields of the drive that was handed in, and by the shape that it told.
module _ (found fields : DriveView) (s : Shape) (units : List WornUnit) (same : fields ≡ found) (shape : s ≡ shape_of found) (was : IsWhole found)
    (back : AreBack s fields.units units) where
  back_found : AreBack (shape_of found) found.units units
  back_found = subst (λ (x : Shape). AreBack x found.units units) shape (subst (λ (d : DriveView). AreBack s d.units units) same back)

  pub whole_made : IsWhole (with_units units fields)
  whole_made = subst (λ d. IsWhole (with_units units d)) (sym same) (whole_back found units was back_found)

  pub together_made : AreArmedTogether found.units → AreArmedTogether units
  together_made together = together_back (shape_of found) found.units units together back_found

  module _ (left : DriveView) (whole : IsWhole left) (is : left ≡ with_units (map disarmed units) fields) where
    is_found : left ≡ with_units (map disarmed units) found
    is_found = is ∙ ap (with_units (map disarmed units)) same

    pub left_made : IsDriveLeft found left
    left_made = drive_left found left units was whole back_found is_found

    pub ran_made : {E : Type 0} (script : List (List Command)) (helpers : ℕ) (records : Records) (result : Result Records E) → result ≡ Ok records
        → ((k : ℕ) (u : WornUnit) → slice_get units k ≡ Some u → AreEventsBy u.unit.shape u.unit.armed (events_since u.unit.armed u.unit.log))
        → ((k : ℕ) (u : WornUnit) → slice_get units k ≡ Some u → IsStopped u.unit → FuseFell units u.unit.armed)
        → IfOk result (IsServed s script helpers (units_of fields.units) (units_of units)) → IsRan found script helpers left records
    ran_made script helpers records result given outcomes stopped served =
        let here : IsServed s script helpers (units_of fields.units) (units_of units) records =
        subst (λ r. IfOk r (IsServed s script helpers (units_of fields.units) (units_of units))) given served in
        ran found left units was whole back_found is_found script helpers records outcomes stopped
        (subst (λ (x : Shape). IsServed x script helpers (units_of found.units) (units_of units) records) shape
        (subst (λ (d : DriveView). IsServed s script helpers (units_of d.units) (units_of units) records) same here))
