-- Units as they are kept in a file.
use Rattle.std.proofs.Common.{◌≡◌, ℕ, zero, suc, List, [], ◌∷◌, length, map, Some, slice_get, refl, sym, ap, ◌∙◌, arith}
use Rattle.std.specs.List.{AllByRecursion, zip}
use Rattle.std.proofs.lemmas.Option.{none-some, same_Some}
use Rattle.pblk_model.specs.declared.shape.Shape.{Shape}
use Rattle.pblk_model.specs.Chunk.{Chunk}
use Rattle.pblk_model.specs.ImageFile.{StoredChunk, image_of}
use Rattle.ocssd_drive.specs.Drive.{DriveView, IsWhole, shape_of, stored, with_units}
use Rattle.ocssd_drive.specs.Units.{WornUnit, IsUnitOf, stored_chunks}
use Rattle.pblk_cli.specs.Commands.{SameNumbers}
use Rattle.pblk_model.proofs.ImageFileLemmas.{kept_chunks}

-- Their chunks.

pub media_count : (s : Shape) (u : WornUnit) → IsUnitOf s u → length u.unit.media ≡ s.chunks
media_count s u fit = fit.fits.count ∙ ap (λ (x : Shape). x.chunks) fit.shape

all_media : (s : Shape) (us : List WornUnit) → AllByRecursion (IsUnitOf s) us
    → map (map (λ (k : StoredChunk). k.chunk)) (map stored_chunks us) ≡ map (λ (u : WornUnit). u.unit.media) us
all_media s [] fit = refl
all_media s (u ∷ us) fit = rw (kept_chunks u.unit.media u.wear (media_count s u fit.0 ∙ sym fit.0.worn), all_media s us fit.1) refl

pub image_units : (d : DriveView) → IsWhole d → (image_of (stored d)).units ≡ map (λ (u : WornUnit). u.unit.media) d.units
image_units d whole = all_media (shape_of d) d.units whole.fit

pub stored_chunk : (media : List Chunk) (wear : List ℕ) (line : ℕ) (k : StoredChunk) → slice_get (map (λ (p : Chunk × ℕ). record {
  chunk = p.0;
  wear = p.1;
}) (zip media wear)) line ≡ Some k → slice_get media line ≡ Some k.chunk
stored_chunk [] wear line k there = absurd (none-some k there)
stored_chunk (c ∷ media) [] line k there = absurd (none-some k there)
stored_chunk (c ∷ media) (w ∷ wear) zero k there = ap (λ (x : StoredChunk). Some x.chunk) (same_Some (record { chunk = c; wear = w }) k there)
stored_chunk (c ∷ media) (w ∷ wear) (suc line) k there = stored_chunk media wear line k there

-- Their wear indices.

worn_of : (media : List Chunk) (wear : List ℕ) → length wear ≡ length media
    → map (λ (k : StoredChunk). k.wear) (map (λ (p : Chunk × ℕ). record { chunk = p.0; wear = p.1 }) (zip media wear)) ≡ wear
worn_of [] [] h = refl
worn_of [] (w ∷ wear) h = absurd (omega (arith, h))
worn_of (c ∷ media) [] h = absurd (omega (arith, h))
worn_of (c ∷ media) (w ∷ wear) h = ap (λ ws. w ∷ ws) (worn_of media wear (omega (arith, h)))

wears_of : (d : DriveView) (us : List WornUnit) → AllByRecursion (IsUnitOf (shape_of d)) us
    → map (map (λ (k : StoredChunk). k.wear)) (map stored_chunks us) ≡ map (λ u. u.wear) us
wears_of d [] h = refl
wears_of d (u ∷ us) h = let f = h.0 in
    let long : length u.wear ≡ length u.unit.media = f.worn ∙ ap (λ s. s.chunks) (sym f.shape) ∙ sym f.fits.count in
    ap (λ ws. ws ∷ map (map (λ (k : StoredChunk). k.wear)) (map stored_chunks us)) (worn_of u.unit.media u.wear long)
    ∙ ap (λ wss. u.wear ∷ wss) (wears_of d us h.1)

pub same_numbers : (old new : DriveView) → IsWhole old → IsWhole new → new ≡ with_units new.units old
    → map (λ u. u.wear) new.units ≡ map (λ u. u.wear) old.units → SameNumbers (stored old) (stored new)
same_numbers old new a b is wear = record {
  geometry = ap (λ d. (stored d).geometry) is;
  sector = ap (λ d. d.sector) is;
  capacity = ap (λ d. d.capacity) is;
  ring = ap (λ d. d.ring) is;
  wear = wears_of new new.units b.fit ∙ wear ∙ sym (wears_of old old.units a.fit);
}
