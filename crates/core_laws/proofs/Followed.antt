-- Legal mounts, with the units that each opened line has.
use Rattle.std.proofs.Common.{◌≡◌, ℕ, true, List, length, refl, sym, ap, ◌∙◌}
use Rattle.pblk_model.specs.Image.{Image, line_units, width}
use Rattle.pblk_laws.proofs.LineUnits.{line_units_count}
use Rattle.pblk_world.specs.World.{World, Logs, log_of}
use Rattle.pblk_world.specs.EngineLog.{is_opened, life_of}
use Rattle.pblk_world.specs.Lines.{known_image}
use Rattle.pblk_world.specs.LegalMounts.{IsLegalMount}

-- each line that is opened has these units
pub record IsFollowed (i : Image) (us : ℕ → List ℕ) (w : World) : Type 0 where
  pub mount : IsLegalMount i w
  pub keeps : (line : ℕ) → is_opened (life_of (log_of w 0) line) ≡ true → line_units (known_image i (log_of w)) line ≡ us line

pub follow : (i : Image) (w : World) → IsLegalMount i w → IsFollowed i (line_units (known_image i (log_of w))) w
follow i w is = record { mount = is; keeps = λ line opened. refl }

pub units_width : (i : Image) (us : ℕ → List ℕ) (ls : Logs) (line : ℕ) → line_units (known_image i ls) line ≡ us line
    → width (known_image i ls) line ≡ length (us line)
units_width i us ls line e = sym (line_units_count (known_image i ls) line) ∙ ap (λ (xs : List ℕ). length xs) e
