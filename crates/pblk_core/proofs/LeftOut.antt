-- No chunk of a line that wasn't given up is still to be reset.
use Rattle.std.proofs.Common.{◌≡◌, ℕ, false, [], ap, if◌then◌else◌}
use Rattle.pblk_model.specs.Image.{Image}
use Rattle.pblk_world.specs.Lines.{is_given_up, known_image}
use Rattle.pblk_world.specs.World.{Logs}
use Rattle.pblk_core.specs.Resets.{HasNoneOf, resets_of, units_to_reset, used_units}
use Rattle.pblk_core.proofs.ResetLists.{none_in}

pub left_out : (i : Image) (logs : Logs) (line : ℕ) → is_given_up (logs 0) line ≡ false → HasNoneOf line (resets_of i logs)
left_out i logs line kept = none_in (units_to_reset i logs) 0 i.shape.chunks line
    (ap (λ t. if t then used_units (known_image i logs) line else []) kept)
