-- The units of lines, by the states that were found.
use Rattle.std.proofs.Common.{◌≡◌, ℕ, ◌<◌, sym, ap, ◌∙◌, arith}
use Rattle.std.specs.Prelude.{map}
use Rattle.std.specs.List.{range_with_len}
use Rattle.pblk_model.specs.declared.found.Found.{Found}
use Rattle.pblk_model.specs.Image.{Image, line_units}
use Rattle.pblk_world.specs.World.{Logs}
use Rattle.core_laws.specs.OpenedLines.{bits_of, online_now}
use Rattle.world_laws.proofs.FoundStates.{live_are}
use Rattle.core_laws.specs.JustBegun.{HasJustBegun}
use Rattle.core_laws.specs.OnlineUnits.{online_bits, all_online}
use Rattle.core_laws.proofs.BegunImages.{named_image, known_at, named_fit, named_found}
use Rattle.core_laws.proofs.MadeLists.{mapped_agree}

pub line_online : (i : Image) (f : Found) (logs : Logs) (line : ℕ) → HasJustBegun i f logs → line < i.shape.chunks
    → online_now i logs line ≡ online_bits i.shape f line
line_online i f logs line is inside =
    ap (λ (j : Image). bits_of (line_units j line)) (known_at i f logs is)
    ∙ ap bits_of (sym (live_are (named_image i logs is.knows) f line (named_fit i f logs is) (named_found i f logs is) inside))

pub lines_online : (i : Image) (f : Found) (logs : Logs) → HasJustBegun i f logs
    → map (online_now i logs) (range_with_len 0 i.shape.chunks) ≡ all_online i.shape f i.shape.chunks
lines_online i f logs is = mapped_agree (online_now i logs) (online_bits i.shape f) 0 i.shape.chunks (λ line below. line_online i f logs line is (omega arith))
