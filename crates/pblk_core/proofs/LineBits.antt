-- The bits of the units of a line.
use Rattle.std.proofs.Common.{◌≡◌, ℕ, ◌+◌, ◌^◌, ◌<◌, ◌≤◌, zero, suc, List, length, refl, subst, ap, ◌∙◌, arith}
use Rattle.std.specs.List.{filter, range_with_len}
use Rattle.pblk_model.specs.Shape.{units}
use Rattle.pblk_model.specs.Image.{Image, line_units, width}
use Rattle.pblk_laws.proofs.LineUnits.{line_units_count}
use Rattle.pblk_layout.specs.Online.{units_in, is_online}
use Rattle.pblk_world.specs.World.{World, Logs}
use Rattle.pblk_world.specs.Lines.{known_image}
use Rattle.core_laws.specs.OpenedLines.{bits_of}
use Rattle.pblk_world.specs.LegalMounts.{IsLegalMount}
use Rattle.core_laws.proofs.KeptLines.{few_units}
use Rattle.core_laws.proofs.UnitBits.{bits_back, bits_few, units_below}
use Rattle.pblk_model.proofs.Maps.{filter_short}
use Rattle.pblk_world.proofs.LinesLemmas.{length_known}

-- ---- as the engine knows a line

pub known_count : (i : Image) (w : World) (ls : Logs) → IsLegalMount i w → length (known_image i ls).units ≡ units i.shape
known_count i w ls mount = length_known i ls ∙ mount.fit.units

pub known_bits : (i : Image) (w : World) (ls : Logs) (line : ℕ) → IsLegalMount i w → bits_of (line_units (known_image i ls) line) < 2 ^ units i.shape
known_bits i w ls line mount =
    subst (λ n. bits_of (line_units (known_image i ls) line) < 2 ^ n) (known_count i w ls mount) (bits_few (known_image i ls) line (few_units i w ls mount))

range_length : (a n : ℕ) → length (range_with_len a n) ≡ n
range_length a zero = refl
range_length a (suc n) = ap suc (range_length (a + 1) n)

pub known_units : (i : Image) (w : World) (ls : Logs) (line : ℕ) → IsLegalMount i w → length (line_units (known_image i ls) line) ≤ units i.shape
known_units i w ls line mount =
    let all : length (filter (is_online (known_image i ls) line) (range_with_len 0 (length (known_image i ls).units))) ≤ length
    (range_with_len 0 (length (known_image i ls).units)) =
    filter_short (is_online (known_image i ls) line) (range_with_len 0 (length (known_image i ls).units)) in
    let count : length (range_with_len 0 (length (known_image i ls).units)) ≡ length (known_image i ls).units =
    range_length 0 (length (known_image i ls).units) in
    let own : length (known_image i ls).units ≡ units i.shape = known_count i w ls mount in
    let same : length (line_units (known_image i ls) line) ≡ length
    (filter (is_online (known_image i ls) line) (range_with_len 0 (length (known_image i ls).units))) =
    ap (λ (us : List ℕ). length us) (units_below (known_image i ls) line (few_units i w ls mount)) in
    omega arith

pub known_width : (i : Image) (w : World) (ls : Logs) (line : ℕ) → IsLegalMount i w → width (known_image i ls) line ≤ units i.shape
known_width i w ls line mount = let same : length (line_units (known_image i ls) line) ≡ width (known_image i ls) line =
    line_units_count (known_image i ls) line in let few = known_units i w ls line mount in omega arith

pub bits_width : (i : Image) (w : World) (ls : Logs) (line : ℕ) → IsLegalMount i w
    → length (units_in (bits_of (line_units (known_image i ls) line))) ≡ width (known_image i ls) line
bits_width i w ls line mount = ap (λ (us : List ℕ). length us) (bits_back (known_image i ls) line (few_units i w ls mount))
    ∙ line_units_count (known_image i ls) line
