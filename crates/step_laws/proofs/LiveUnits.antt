-- The units of a line, by their bits.
use Rattle.std.proofs.Common.{◌≡◌, ℕ, ◌^◌, ◌<◌, subst, ◌∙◌}
use Rattle.pblk_model.specs.Shape.{units}
use Rattle.pblk_model.specs.Image.{Image, line_units}
use Rattle.pblk_layout.specs.Online.{units_in}
use Rattle.pblk_world.specs.World.{World, log_of}
use Rattle.pblk_world.specs.Lines.{known_image}
use Rattle.core_laws.specs.OpenedLines.{bits_of, online_now}
use Rattle.pblk_world.specs.LegalMounts.{IsLegalMount}
use Rattle.core_laws.proofs.KeptLines.{few_units}
use Rattle.core_laws.proofs.UnitBits.{bits_back, bits_few}
use Rattle.pblk_world.proofs.LinesLemmas.{length_known}

-- the units come back from them
pub online_units : (i : Image) (w : World) (line : ℕ) → IsLegalMount i w → units_in (online_now i (log_of w) line) ≡ line_units (known_image i (log_of w)) line
online_units i w line mount = bits_back (known_image i (log_of w)) line (few_units i w (log_of w) mount)

-- ---- they are few

pub live_small : (i : Image) (w : World) (line : ℕ) → IsLegalMount i w → online_now i (log_of w) line < 2 ^ units i.shape
live_small i w line mount =
    let known : Image = known_image i (log_of w) in
    subst (λ n. bits_of (line_units known line) < 2 ^ n) (length_known i (log_of w) ∙ mount.fit.units) (bits_few known line (few_units i w (log_of w) mount))
