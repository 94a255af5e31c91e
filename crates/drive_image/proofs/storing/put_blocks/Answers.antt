use Rattle.std.proofs.Common.{◌≡◌, Some, map, ap, ◌∙◌}
use Rattle.std.specs.List.{flat_map, slice_get}
use Rattle.std.specs.Option.{option_map}
use Rattle.std.proofs.lemmas.Option.{slice_get-map}
use Rattle.ocssd_drive.specs.Drive.{stored}
use Rattle.ocssd_drive.specs.Units.{stored_chunks}
use Rattle.drive_image.specs.Storing.{chunk_bytes}
use Rattle.drive_image.proofs.Adding.{one_added, room_left}
use Rattle.drive_image.proofs.storing.put_blocks.Goals as goal
use Rattle.drive_image.proofs.storing.put_blocks.Goals.{After-unit}

there : (c : After-unit) → slice_get (map stored_chunks c.args.drive.now.units) c.loop-unit.unit ≡ Some (stored_chunks c.unit.result.now)
there c = slice_get-map stored_chunks c.args.drive.now.units c.loop-unit.unit ∙ ap (option_map stored_chunks) c.unit.ensures.unit

pub put_unit_blocks-requires-clause-room : goal.put_unit_blocks-requires-clause-room
put_unit_blocks-requires-clause-room c =
    room_left (flat_map chunk_bytes) (stored c.args.drive.now).units c.loop-unit.unit _ c.args.out.now c.loop-unit.out c.requires.room c.loop-unit.invariant
    (there (goal.at.put_unit_blocks-requires-clause-room c).After-unit)

pub loop-unit-preserved : goal.loop-unit-preserved
loop-unit-preserved c =
    one_added (flat_map chunk_bytes)
    (stored c.args.drive.now).units c.loop-unit.unit _ c.args.out.now c.loop-unit.out c.put_unit_blocks.new.out c.loop-unit.invariant
    (there (goal.at.loop-unit-preserved c).After-unit) c.put_unit_blocks.ensures
