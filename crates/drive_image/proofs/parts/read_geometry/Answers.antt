use Rattle.std.proofs.Common.{◌≡◌, ◌≤◌, ℕ, List, length, drop, sym, ap, arith, length-take, length-drop}
use Rattle.std.specs.List.{slice_range}
use Rattle.std.specs.Option.{option_map}
use Rattle.pblk_model.specs.declared.image.ImageErr.TheVariants as errors
use Rattle.drive_image.proofs.Refusals.{read_ok, read_err}
use Rattle.drive_image.proofs.parts.read_geometry.Goals as goal

part_length : (bytes : List ℕ) → 4128 ≤ length bytes → length (slice_range bytes 32 4128) ≡ 4096
part_length bytes h = omega (arith, length-take 4096 (drop 32 bytes), length-drop 32 bytes)

pub returns-in-Ok-clause-refused : goal.returns-in-Ok-clause-refused
returns-in-Ok-clause-refused c = sym (ap (option_map errors.Geometry) (read_ok _ _ (part_length c.args.bytes.now c.requires) c.in-Ok.ensures.read).0)

pub returns-in-Ok-clause-numbers : goal.returns-in-Ok-clause-numbers
returns-in-Ok-clause-numbers c = (read_ok _ _ (part_length c.args.bytes.now c.requires) c.in-Ok.ensures.read).1

pub returns-in-Err-clause-refused : goal.returns-in-Err-clause-refused
returns-in-Err-clause-refused c = sym (ap (option_map errors.Geometry)
    (read_err _ c.in-Err.refusal (part_length c.args.bytes.now c.requires) c.in-Err.ensures.read))
