-- How many blocks are kept as written of a unit.
use Rattle.std.proofs.Common.{◌≡◌, ℕ, ◌<◌, List, [], length, Option, Some, ap, ◌∙◌, arith}
use Rattle.std.specs.List.{AllByRecursion, slice_get}
use Rattle.std.specs.Option.{option_map_or}
use Rattle.pblk_model.specs.Shape.{units}
use Rattle.pblk_model.proofs.Options.{split_then}
use Rattle.pblk_model.proofs.Parts.{all_get, got_within}
use Rattle.stripe_parity.specs.declared.kept.KeptChunk.{KeptChunk}
use Rattle.stripe_parity.specs.ParityFile.{IsKept, IsParity, ParityFile, kept_in}
use Rattle.stripe_parity.specs.Rebuilding.{kept_of_unit}

-- what is kept of a chunk may be kept
pub kept_in_fits : (p : ParityFile) (unit chunk : ℕ) (k : KeptChunk) → IsParity p → kept_in p.chunks chunk unit ≡ Some k → IsKept p.shape k
kept_in_fits p unit chunk k is there =
    let o = split_then (λ (of : List KeptChunk). slice_get of chunk) (slice_get p.chunks unit) k there in
    all_get (IsKept p.shape) o.0 chunk k (all_get (AllByRecursion (IsKept p.shape)) p.chunks unit o.0 is.each o.1) o.2

-- and stands in the unit's list
pub unit_kept_at : (kept : List (List KeptChunk)) (unit chunk : ℕ) (k : KeptChunk) → kept_in kept chunk unit ≡ Some k
    → slice_get (kept_of_unit kept unit) chunk ≡ Some k
unit_kept_at kept unit chunk k there =
    let o = split_then (λ (of : List KeptChunk). slice_get of chunk) (slice_get kept unit) k there in
    ap (λ (x : Option (List KeptChunk)). slice_get (option_map_or (λ of. of) x []) chunk) o.1 ∙ o.2

pub unit_kept_long : (p : ParityFile) (unit : ℕ) → IsParity p → unit < units p.shape → length (kept_of_unit p.chunks unit) ≡ p.shape.chunks
unit_kept_long p unit is within =
    let of = got_within p.chunks unit (omega (arith, within, is.units_are)) in
    ap (λ (x : Option (List KeptChunk)). length (option_map_or (λ of. of) x [])) of.1
    ∙ all_get (λ (ks : List KeptChunk). length ks ≡ p.shape.chunks) p.chunks unit of.0 is.chunks_are of.1
