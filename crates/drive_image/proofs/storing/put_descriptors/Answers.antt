use Rattle.std.proofs.Common.{◌≡◌, ℕ, List, Some, map, sym, ap, ◌∙◌, subst, arith}
use Rattle.std.specs.List.{enumerate_from, slice_get}
use Rattle.std.specs.Option.{option_map}
use Rattle.std.proofs.lemmas.List.{length-map}
use Rattle.std.proofs.lemmas.List.FromFn.{length-enumerate_from}
use Rattle.std.proofs.lemmas.Option.{slice_get-map}
use Rattle.pblk_model.specs.ImageFile.{unit_descriptors}
use Rattle.pblk_model.specs.Shape.{units}
use Rattle.ocssd_geometry.specs.Numbers.{numbers_of}
use Rattle.ocssd_drive.specs.Drive.{DriveView, stored}
use Rattle.ocssd_drive.specs.Units.{WornUnit, stored_chunks}
use Rattle.drive_image.specs.Storing.{HasCapacity, WasAdded}
use Rattle.drive_image.proofs.Adding.{all_added, enumerated, one_added, room_left}
use Rattle.drive_image.proofs.storing.put_descriptors.Goals as goal

there : (units : List WornUnit) (unit : ℕ) (u : WornUnit) → slice_get units unit ≡ Some u
    → slice_get (enumerate_from 0 (map stored_chunks units)) unit ≡ Some (unit, stored_chunks u)
there units unit u is = enumerated (map stored_chunks units) unit (stored_chunks u) (slice_get-map stored_chunks units unit ∙ ap (option_map stored_chunks) is)

pub put_unit_descriptors-requires-clause-room : goal.put_unit_descriptors-requires-clause-room
put_unit_descriptors-requires-clause-room c =
    let d = c.args.drive.now in
    let u = c.unit.result.now in
    subst (λ (v : DriveView). HasCapacity c.loop-unit.out (unit_descriptors (numbers_of v.geometry) (c.loop-unit.unit, stored_chunks u))) (sym c.drive.view_is)
    (room_left (unit_descriptors (numbers_of d.geometry)) (enumerate_from 0 (stored d).units) c.loop-unit.unit
    (c.loop-unit.unit, stored_chunks u) c.args.out.now c.loop-unit.out c.requires.room c.loop-unit.invariant
    (there d.units c.loop-unit.unit u c.unit.ensures.unit))

pub loop-unit-preserved : goal.loop-unit-preserved
loop-unit-preserved c =
    let d = c.args.drive.now in
    let u = c.unit.result.now in
    let added = subst (λ (v : DriveView). WasAdded c.loop-unit.out c.put_unit_descriptors.new.out
    (unit_descriptors (numbers_of v.geometry) (c.loop-unit.unit, stored_chunks u))) c.drive.view_is c.put_unit_descriptors.ensures in
    one_added (unit_descriptors (numbers_of d.geometry)) (enumerate_from 0 (stored d).units) c.loop-unit.unit
    (c.loop-unit.unit, stored_chunks u) c.args.out.now c.loop-unit.out c.put_unit_descriptors.new.out c.loop-unit.invariant
    (there d.units c.loop-unit.unit u c.unit.ensures.unit) added

pub returns : goal.returns
returns c =
    let d = c.args.drive.now in
    let same : c.units-unit-end.result ≡ c.loop-unit.unit = omega arith in
    all_added (unit_descriptors (numbers_of d.geometry))
    (enumerate_from 0 (stored d).units) c.loop-unit.unit c.args.out.now c.loop-unit.out c.loop-unit.invariant
    (length-enumerate_from 0 (stored d).units ∙ (length-map d.units stored_chunks
    ∙ (c.requires.whole.count ∙ (ap units (sym c.shape-shape.ensures.shape) ∙ (sym c.units-unit-end.ensures ∙ same)))))
