-- A drive that has got all chunks of an image is the one that the image is of.
use Rattle.std.proofs.Common.{◌≡◌, ℕ, ◌+◌, ◌*◌, ◌/◌, ◌%◌, ◌<◌, ◌≤◌, Some, Ok, List, length, slice_get, refl, sym, ap, ◌∙◌, subst, arith}
use Rattle.std.specs.List.{AllByRecursion, range_with_len, slice_range, sum_by}
use Rattle.std.proofs.lemmas.Nat.{div-mul-add, mod-mul-add}
use Rattle.std.proofs.lemmas.Option.{slice_get_within}
use Rattle.std.proofs.Math.Nat.{mul-add, mul-le-mul_left, mul-le-mul_right}
use Rattle.pblk_model.specs.declared.shape.Shape.{Shape}
use Rattle.pblk_model.specs.Descriptor.{read_descriptor}
use Rattle.pblk_model.specs.Geometry.{Geometry}
use Rattle.pblk_model.specs.ImageFile as image
use Rattle.pblk_model.specs.ImageFile.{StoredChunk, IsImageOf, blank_drive, blocks_end, chunks_at, descriptor_at, descriptor_of, descriptors_end, geometry_at, pointer_at, shape_at}
use Rattle.pblk_model.specs.Shape.{units}
use Rattle.pblk_laws.proofs.ImageBytesFlat.{flat_get, flat_of_flat}
use Rattle.pblk_laws.proofs.ImageBytesHeld.{IsTaken}
use Rattle.ocssd_geometry.specs.Numbers.{numbers_of}
use Rattle.ocssd_drive.specs.Drive.{DriveView, IsWhole, stored}
use Rattle.ocssd_drive.specs.Units.{with_stored}
use Rattle.drive_image.specs.Filling.{GotNth, HasNumbers, bytes_of}
use Rattle.drive_image.specs.Quiet.{IsQuiet, IsQuietUnit}
use Rattle.drive_image.proofs.Sums.{sum_within}
use Rattle.drive_image.proofs.FillingSteps.{AreFilled, blank_filled, chunk_bytes, one_filled}
use Rattle.drive_image.proofs.Flat.{all_changed}
use Rattle.drive_image.proofs.Wholes.{all_sectors}
use Rattle.pblk_model.proofs.Maps.{sum_more}
use Rattle.pblk_model.proofs.Parts.{all_get}

-- The drive has the first n chunks of the image, and their blocks end at this byte.
pub record IsFilling (b : List ℕ) (n at : ℕ) (d : DriveView) : Type 0 where
  pub numbers : HasNumbers b d
  pub whole : IsWhole d
  pub quiet : IsQuiet d
  pub filled : AreFilled b n at (stored d).units

pub begun : (b : List ℕ) (at : ℕ) (d : DriveView) → numbers_of d.geometry ≡ geometry_at b
    → stored d ≡ blank_drive (geometry_at b) (shape_at b).sector (shape_at b).capacity (shape_at b).ring
    → IsWhole d → IsQuiet d → at ≡ descriptors_end b → IsFilling b 0 at d
begun b at d geometry blank whole quiet is = record {
  numbers = record { geometry = geometry; shape = ap image.shape_of blank };
  whole = whole;
  quiet = quiet;
  filled = subst (λ us. AreFilled b 0 at us) (sym (ap (λ (x : image.Drive). x.units) blank))
      (subst (λ n. AreFilled b 0 n (blank_drive (geometry_at b) (shape_at b).sector (shape_at b).capacity (shape_at b).ring).units) (sym is) (blank_filled b));
}

pub gone_on : (b : List ℕ) (n at length : ℕ) (old new : DriveView) → IsFilling b n at old → GotNth b n at old new → HasNumbers b new → IsWhole new
    → n < chunks_at b → length ≡ bytes_of b n
    → IsFilling b (n + 1) (at + length) new
gone_on b n at length old new filling got numbers whole inside is =
    let some : 8 ≤ (shape_at b).chunks = subst (λ (s : Shape). 8 ≤ s.chunks) numbers.shape whole.accepted.drive.lines_low in
    let c = (geometry_at b).chunks in
    record {
      numbers = numbers;
      whole = whole;
      quiet = subst IsQuiet (sym got.view) (all_changed IsQuietUnit (with_stored (n % c) got.got) (n / c) old.units (λ u h. record {
        log = h.log;
        armed = h.armed;
        seat = h.seat;
      }) filling.quiet);
      filled = subst (λ us. AreFilled b (n + 1) (at + length) us) (sym (ap (λ (x : image.Drive). x.units) got.image))
          (one_filled b n at length (stored old).units got.got filling.filled got.is inside (omega arith) is);
    }

pub within_image : (b : List ℕ) (n at : ℕ) (us : List (List StoredChunk)) → IsTaken b → AreFilled b n at us → n < chunks_at b → at + bytes_of b n ≤ length b
within_image b n at us taken filled inside =
    let size : ℕ = (shape_at b).sector + 16 in
    let before = sum_by (pointer_at b) (range_with_len 0 n) in
    let part : sum_by (pointer_at b) (range_with_len 0 (n + 1)) ≤ sum_by (pointer_at b) (range_with_len 0 (chunks_at b)) = sum_within (pointer_at b) (n + 1)
    (chunks_at b) (omega arith) in
    let more : before + pointer_at b n ≤ sum_by (pointer_at b) (range_with_len 0 (chunks_at b)) = subst
    (λ m. m ≤ sum_by (pointer_at b) (range_with_len 0 (chunks_at b))) (sum_more (pointer_at b) n) part in
    let bytes : size * (before + pointer_at b n) ≤ size * sum_by (pointer_at b) (range_with_len 0 (chunks_at b)) = mul-le-mul_left size more in
    let both : size * (before + pointer_at b n) ≡ size * before + size * pointer_at b n = mul-add size before (pointer_at b n) in
    let end : blocks_end b ≡ descriptors_end b + size * sum_by (pointer_at b) (range_with_len 0 (chunks_at b)) = refl in
    omega (arith, taken.blocks, filled.ends)

described_at : (b : List ℕ) (at : ℕ) (us : List (List StoredChunk)) (unit chunk : ℕ) (kept : List StoredChunk) (k : StoredChunk)
    → AreFilled b (chunks_at b) at us
    → slice_get us unit ≡ Some kept → slice_get kept chunk ≡ Some k
    → read_descriptor (descriptor_at b (unit * (geometry_at b).chunks + chunk)) ≡ Ok (descriptor_of (geometry_at b) unit chunk k)
described_at b at us unit chunk kept k filled list is =
    let c = (geometry_at b).chunks in
    let count : length kept ≡ c = all_get (λ (u : List StoredChunk). length u ≡ c) us unit kept filled.each list in
    let low : chunk < c = subst (λ n. chunk < n) count (slice_get_within kept chunk k is) in
    let high : unit < units (shape_at b) = subst (λ n. unit < n) filled.count (slice_get_within us unit kept list) in
    let rows : (unit + 1) * c ≤ units (shape_at b) * c = mul-le-mul_right c (omega arith) in
    let inside : unit * c + chunk < units (shape_at b) * c = omega arith in
    let found = filled.done (unit * c + chunk) k inside (flat_get c us unit chunk kept k filled.each list is) in
    let by = λ (u : ℕ) (m : ℕ). read_descriptor (descriptor_at b (unit * c + chunk)) ≡ Ok (descriptor_of (geometry_at b) u m k) in
    subst (λ m. by unit m) (mod-mul-add unit c chunk low) (subst (λ u. by u ((unit * c + chunk) % c)) (div-mul-add unit c chunk low) found)

pub finished : (b : List ℕ) (at : ℕ) (d : DriveView) → IsFilling b (chunks_at b) at d → IsImageOf b (stored d)
finished b at d filling =
    let us = (stored d).units in
    let filled = filling.filled in
    record {
      settings = filling.numbers.shape;
      geometry = filling.numbers.geometry;
      count = filled.count ∙ ap units (sym filling.numbers.shape);
      chunks = subst (λ (g : Geometry). AllByRecursion (λ (u : List StoredChunk). length u ≡ g.chunks) us) (sym filling.numbers.geometry) filled.each;
      sectors = all_sectors d filling.whole;
      descriptors = λ unit chunk kept k list is. subst
          (λ (g : Geometry). read_descriptor (descriptor_at b (unit * g.chunks + chunk)) ≡ Ok (descriptor_of g unit chunk k)) (sym filling.numbers.geometry)
          (described_at b at us unit chunk kept k filled list is);
      blocks = ap (λ m. slice_range b (descriptors_end b) m) (sym filled.ends) ∙ (sym filled.blocks ∙ sym (flat_of_flat chunk_bytes us));
    }
