-- A drive of which one chunk is restored.
use Rattle.std.proofs.Common.{◌≡◌, ℕ, zero, suc, ◌<◌, List, [], ◌∷◌, length, map, replicate, get_or, refl, ap, ◌∙◌, Some, slice_get, slice_set}
use Rattle.std.specs.List.{zip}
use Rattle.std.proofs.lemmas.List.{length-set, map-set}
use Rattle.std.proofs.lemmas.Option.{slice_get-map, slice_get_read}
use Rattle.pblk_model.specs.declared.shape.Shape.{Shape}
use Rattle.pblk_model.specs.declared.chunk.Mark.{Mark}
use Rattle.pblk_model.specs.declared.chunk.ChunkState.{ChunkState}
use Rattle.pblk_model.specs.declared.chunk.ChunkState.TheVariants.{Free}
use Rattle.pblk_model.specs.Geometry.{shape_with}
use Rattle.pblk_model.specs.Blocks.{blocks_of}
use Rattle.pblk_model.specs.Chunk.{Chunk, free_chunk}
use Rattle.pblk_model.specs.ImageFile.{StoredChunk, blank_drive}
use Rattle.ocssd_geometry.specs.declared.geometry.Geometry.{Geometry}
use Rattle.ocssd_geometry.specs.Numbers.{numbers_of}
use Rattle.pblk_model.specs.Shape.{units}
use Rattle.ocssd_drive.specs.Units.{WornUnit, IsUnitOf, new_unit, stored_chunks, with_chunk, with_stored, worn_chunk}
use Rattle.ocssd_drive.specs.Drive.{DriveView, IsWhole, new_drive, shape_of, stored, with_chunk_at, with_replaced, with_restored, with_units}
use Rattle.pblk_model.proofs.Maps.{map-replicate}
use Rattle.pblk_model.proofs.Parts.{all_get, all_set}

-- this stands at a place of the drive's units
pub record IsUnitAt (d : DriveView) (i : ℕ) (u : WornUnit) : Type 0 where
  pub there : slice_get d.units i ≡ Some u
  pub fits : IsUnitOf (shape_of d) u

pub unit_at : (d : DriveView) (i : ℕ) (u : WornUnit) → IsWhole d → i < units (shape_of d) → u ≡ get_or d.units i u → IsUnitAt d i u
unit_at d i u whole within read =
    let inside : i < length d.units = rw (← whole.count) at within in
    let place = slice_get_read d.units (length d.units) i u refl inside read in
    record { there = place; fits = all_get (IsUnitOf (shape_of d)) d.units i u whole.fit place }

pub still_whole : (d : DriveView) (i : ℕ) (new : WornUnit) → IsWhole d → IsUnitOf (shape_of d) new → IsWhole (with_units (slice_set d.units i new) d)
still_whole d i new whole one = record {
  geometry_is = whole.geometry_is;
  accepted = whole.accepted;
  count = rw (length-set d.units i new) whole.count;
  fit = all_set (IsUnitOf (shape_of d)) d.units i new whole.fit one;
}

pub restored_is : (d : DriveView) (i chunk : ℕ) (k : StoredChunk) (u new : WornUnit) → slice_get d.units i ≡ Some u → new ≡ with_stored chunk k u → with_units (slice_set d.units i new) d ≡ with_restored i chunk k d
restored_is d i chunk k u new there is = rw (there, is) refl

-- the unit was handed the chunk that is said of the drive
pub restored_by : (d : DriveView) (i chunk : ℕ) (state : ChunkState) (bytes : List ℕ) (marks : List Mark) (wear : ℕ) (u new : WornUnit) → IsUnitAt d i u
    → new ≡ with_stored chunk (worn_chunk state (blocks_of u.unit.shape.sector bytes marks) wear) u → with_units (slice_set d.units i new) d ≡ with_restored i chunk (worn_chunk state (blocks_of d.sector bytes marks) wear) d
restored_by d i chunk state bytes marks wear u new at is =
    restored_is d i chunk _ u new at.there (is ∙ ap (λ (s : Shape). with_stored chunk (worn_chunk state (blocks_of s.sector bytes marks) wear) u) at.fits.shape)

-- the unit was handed a chunk in the place of one of its own
pub replaced_by : (d : DriveView) (i chunk : ℕ) (k : Chunk) (u new : WornUnit) → IsUnitAt d i u → new ≡ with_chunk chunk k u → with_units (slice_set d.units i new) d ≡ with_replaced i chunk k d
replaced_by d i chunk k u new at is = rw (at.there, is) refl

-- a chunk in this state is it with its blocks
pub chunk_is : (c : Chunk) (state : ChunkState) → c.state ≡ state → c ≡ record { state = state; blocks = c.blocks }
chunk_is c state e = ap (λ (s : ChunkState). record { state = s; blocks = c.blocks }) e

zip-set : {A B : Type 0} (xs : List A) (ys : List B) (i : ℕ) (x : A) (y : B) → zip (slice_set xs i x) (slice_set ys i y) ≡ slice_set (zip xs ys) i (x, y)
zip-set [] ys i x y = refl
zip-set (a ∷ xs) [] zero x y = refl
zip-set (a ∷ xs) [] (suc i) x y = refl
zip-set (a ∷ xs) (b ∷ ys) zero x y = refl
zip-set (a ∷ xs) (b ∷ ys) (suc i) x y = ap (λ zs. (a, b) ∷ zs) (zip-set xs ys i x y)

stored-set : (u : WornUnit) (at : ℕ) (k : StoredChunk) → stored_chunks (with_stored at k u) ≡ slice_set (stored_chunks u) at k
stored-set u at k = rw (zip-set u.unit.media u.wear at k.chunk k.wear, map-set) refl

-- the same of the drive in a file
pub stored-restored : (d : DriveView) (i chunk : ℕ) (k : StoredChunk) (u : WornUnit) → slice_get d.units i ≡ Some u → stored (with_restored i chunk k d) ≡ with_chunk_at i chunk k (stored d)
stored-restored d i chunk k u there = rw (slice_get-map, there, map-set, stored-set u chunk k) refl

abbrev worn_of : Chunk × ℕ → StoredChunk
worn_of p = record { chunk = p.0; wear = p.1 }

replicated : (n : ℕ) → map (λ (p : Chunk × ℕ). worn_of p) (zip (replicate n free_chunk) (replicate n 0)) ≡ replicate n (worn_chunk Free [] 0)
replicated zero = refl
replicated (suc n) = ap (λ (ks : List StoredChunk). worn_chunk Free [] 0 ∷ ks) (replicated n)

stored-replicate : (s : Shape) → stored_chunks (new_unit s) ≡ replicate s.chunks (worn_chunk Free [] 0)
stored-replicate s = replicated s.chunks

-- a new drive is a blank one in a file
pub stored-new : (g : Geometry) (sector capacity ring : ℕ) → stored (new_drive g sector capacity ring) ≡ blank_drive (numbers_of g) sector capacity ring
stored-new g sector capacity ring =
    let s = shape_with (numbers_of g) sector capacity ring in
    rw (map-replicate stored_chunks (units s) (new_unit s), stored-replicate s) refl
