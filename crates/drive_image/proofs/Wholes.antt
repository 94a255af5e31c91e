-- What a drive is as it is kept in a file.
use Rattle.std.proofs.Common.{◌≡◌, ℕ, ◌<◌, suc, List, [], ◌∷◌, map, length, refl, sym, ap, ◌∙◌, subst, arith}
use Rattle.std.specs.List.{AllByRecursion, zip}
use Rattle.std.proofs.lemmas.List.{length-map}
use Rattle.pblk_model.specs.declared.shape.Shape.{Shape}
use Rattle.pblk_model.specs.Chunk.{Block, Chunk, IsBlock, IsChunk}
use Rattle.pblk_model.specs.Image.{IsFit}
use Rattle.pblk_model.specs.ImageFile.{StoredChunk, image_of}
use Rattle.ocssd_drive.specs.Drive.{DriveView, IsWhole, shape_of, stored}
use Rattle.ocssd_drive.specs.Units.{WornUnit, IsUnitOf, stored_chunks}
use Rattle.pblk_model.specs.Shape.{units}
use Rattle.drive_image.proofs.Lengths.{IsEven}
use Rattle.pblk_model.proofs.Lists.{all_weaker}
use Rattle.pblk_model.proofs.Maps.{all_mapped}

abbrev kept : Chunk × ℕ → StoredChunk
kept p = record { chunk = p.0; wear = p.1 }

kept_chunks : (P : Chunk → Type 0) (media : List Chunk) (wear : List ℕ) → AllByRecursion P media
    → AllByRecursion (λ (k : StoredChunk). P k.chunk) (map kept (zip media wear))
kept_chunks P [] wear all = tt
kept_chunks P (c ∷ media) [] all = tt
kept_chunks P (c ∷ media) (w ∷ wear) all = (all.0, kept_chunks P media wear all.1)

kept_wears : (media : List Chunk) (wear : List ℕ) → AllByRecursion (λ w. w < 256) wear
    → AllByRecursion (λ (k : StoredChunk). k.wear < 256) (map kept (zip media wear))
kept_wears [] wear all = tt
kept_wears (c ∷ media) [] all = tt
kept_wears (c ∷ media) (w ∷ wear) all = (all.0, kept_wears media wear all.1)

zip_length : {X Y : Type 0} (xs : List X) (ys : List Y) → length xs ≡ length ys → length (zip xs ys) ≡ length xs
zip_length [] ys same = refl
zip_length (x ∷ xs) [] same = absurd (omega arith)
zip_length (x ∷ xs) (y ∷ ys) same = ap suc (zip_length xs ys (omega arith))

-- A unit's chunks as they are kept.

pub unit_length : (s : Shape) (u : WornUnit) → IsUnitOf s u → length (stored_chunks u) ≡ s.chunks
unit_length s u is =
    let count : length u.unit.media ≡ s.chunks = is.fits.count ∙ ap (λ (s : Shape). s.chunks) is.shape in
    length-map (zip u.unit.media u.wear) kept ∙ (zip_length u.unit.media u.wear (count ∙ sym is.worn) ∙ count)

pub unit_chunks : (s : Shape) (u : WornUnit) → IsUnitOf s u → AllByRecursion (λ (k : StoredChunk). IsChunk s k.chunk) (stored_chunks u)
unit_chunks s u is = kept_chunks (IsChunk s) u.unit.media u.wear (subst (λ (s : Shape). AllByRecursion (IsChunk s) u.unit.media) is.shape is.fits.chunks)

pub unit_wears : (s : Shape) (u : WornUnit) → IsUnitOf s u → AllByRecursion (λ (k : StoredChunk). k.wear < 256) (stored_chunks u)
unit_wears s u is = kept_wears u.unit.media u.wear is.worn_fits

-- A drive.

pub all_chunks : (d : DriveView) → IsWhole d → AllByRecursion (AllByRecursion (λ (k : StoredChunk). IsChunk (shape_of d) k.chunk)) (stored d).units
all_chunks d whole = all_mapped (AllByRecursion (λ (k : StoredChunk). IsChunk (shape_of d) k.chunk)) stored_chunks d.units
    (all_weaker (IsUnitOf (shape_of d)) (λ (u : WornUnit). AllByRecursion (λ (k : StoredChunk). IsChunk (shape_of d) k.chunk) (stored_chunks u)) d.units
    (λ u is. unit_chunks (shape_of d) u is) whole.fit)

pub all_wears : (d : DriveView) → IsWhole d → AllByRecursion (AllByRecursion (λ (k : StoredChunk). k.wear < 256)) (stored d).units
all_wears d whole = all_mapped (AllByRecursion (λ (k : StoredChunk). k.wear < 256)) stored_chunks d.units
    (all_weaker (IsUnitOf (shape_of d)) (λ (u : WornUnit). AllByRecursion (λ (k : StoredChunk). k.wear < 256) (stored_chunks u)) d.units
    (λ u is. unit_wears (shape_of d) u is) whole.fit)

pub all_sectors : (d : DriveView) → IsWhole d → AllByRecursion
    (AllByRecursion (λ (k : StoredChunk). AllByRecursion (λ (b : Block). length b.sector ≡ d.sector) k.chunk.blocks)) (stored d).units
all_sectors d whole =
    let P : StoredChunk → Type 0 = λ k. AllByRecursion (λ (b : Block). length b.sector ≡ d.sector) k.chunk.blocks in
    all_weaker (AllByRecursion (λ (k : StoredChunk). IsChunk (shape_of d) k.chunk)) (AllByRecursion P) (stored d).units
    (λ us all. all_weaker (λ (k : StoredChunk). IsChunk (shape_of d) k.chunk) P us
    (λ k is. all_weaker (IsBlock (shape_of d)) (λ (b : Block). length b.sector ≡ d.sector) k.chunk.blocks (λ b block. block.size) is.blocks) all)
    (all_chunks d whole)

pub is_fit : (d : DriveView) → IsWhole d → IsFit (image_of (stored d))
is_fit d whole =
    let chunk : StoredChunk → Chunk = λ k. k.chunk in
    record {
      units = length-map (stored d).units (map chunk) ∙ (length-map d.units stored_chunks ∙ whole.count);
      chunks = all_mapped (λ (unit : List Chunk). length unit ≡ (shape_of d).chunks) (map chunk) (stored d).units
          (all_mapped (λ (us : List StoredChunk). length (map chunk us) ≡ (shape_of d).chunks) stored_chunks d.units
          (all_weaker (IsUnitOf (shape_of d)) (λ (u : WornUnit). length (map chunk (stored_chunks u)) ≡ (shape_of d).chunks) d.units
          (λ u is. length-map (stored_chunks u) chunk ∙ unit_length (shape_of d) u is) whole.fit));
      each = all_mapped (AllByRecursion (IsChunk (shape_of d))) (map chunk) (stored d).units
          (all_weaker (AllByRecursion (λ (k : StoredChunk). IsChunk (shape_of d) k.chunk))
          (λ (us : List StoredChunk). AllByRecursion (IsChunk (shape_of d)) (map chunk us)) (stored d).units
          (λ us all. all_mapped (IsChunk (shape_of d)) chunk us all) (all_chunks d whole));
    }

pub is_even : (d : DriveView) → IsWhole d → IsEven (stored d) (shape_of d).chunks
is_even d whole = record {
  chunks = all_mapped (λ (ks : List StoredChunk). length ks ≡ (shape_of d).chunks) stored_chunks d.units
      (all_weaker (IsUnitOf (shape_of d)) (λ (u : WornUnit). length (stored_chunks u) ≡ (shape_of d).chunks) d.units
      (λ u is. unit_length (shape_of d) u is) whole.fit);
  sectors = all_sectors d whole;
}

pub units_count : (d : DriveView) → IsWhole d → length (stored d).units ≡ units (shape_of d)
units_count d whole = length-map d.units stored_chunks ∙ whole.count
