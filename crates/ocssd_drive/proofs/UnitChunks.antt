-- A unit's chunks: all are chunks of its drive, and one of them is replaced.
use Rattle.std.proofs.Common.{◌≡◌, ℕ, zero, suc, ◌+◌, ◌<◌, lit<, replicate, nat_lt, vec_len, false, Bor, List, [], ◌∷◌, ◌++◌, length, map, get_or, slice_get, is_some, IfSome, Option, Some, None, refl, sym, ap, ap₂, subst, ◌∙◌, add-one}
use Rattle.std.proofs.lemmas.List.{length-map, map-append}
use Rattle.std.proofs.lemmas.Bool.{ltb-true, ltb-false}
use Rattle.std.proofs.lemmas.Option.{slice_get-map, slice_get_read, slice_get_within, slice_get_past, same_Some}
use Rattle.std.specs.List.{AllByRecursion}
use Rattle.pblk_model.specs.declared.shape.Shape.{Shape}
use Rattle.pblk_model.specs.Chunk.{Chunk, IsChunk, free_chunk}
use Rattle.ocssd_chunks.specs.DriveChunk.{DriveChunk}
use Rattle.unit_port.specs.Unit.{IsChunkOf, IsFitUnit}
use Rattle.ocssd_drive.specs.Units.{WornUnit, IsChunkIn, IsUnitOf}
use Rattle.ocssd_drive.specs.UnitFields.{IsSound, worn_unit}
use Rattle.ocssd_drive.specs.declared.memory_unit.MemoryUnit.TheInside.{Inside}
use Rattle.pblk_model.proofs.Lists.{with_last}
use Rattle.pblk_model.proofs.Parts.{all_get}

abbrev pub chunks_of : List DriveChunk → List Chunk
chunks_of chunks = map (λ (c : DriveChunk). c.chunk) chunks

pub all_chunks : (s : Shape) (chunks : List DriveChunk) → AllByRecursion (IsChunkIn s) chunks → AllByRecursion (IsChunk s) (chunks_of chunks)
all_chunks s [] all = tt
all_chunks s (c ∷ chunks) all = (all.0.fits, all_chunks s chunks all.1)

pub chunk_there : (chunks : List DriveChunk) (i : ℕ) (c : DriveChunk) → slice_get chunks i ≡ Some c → slice_get (chunks_of chunks) i ≡ Some c.chunk
chunk_there chunks i c there = rw (slice_get-map, there) refl

place_of : (chunks : List DriveChunk) (i : ℕ) (c : Chunk) (found : DriveChunk) → slice_get (chunks_of chunks) i ≡ Some c → found ≡ get_or chunks i found → slice_get chunks i ≡ Some found
place_of chunks i c found there read =
    let within : i < length chunks = rw (length-map chunks (λ (c : DriveChunk). c.chunk)) at (slice_get_within _ i c there) in
    slice_get_read chunks (length chunks) i found refl within read

-- this was found as the unit's chunk of a number, which contracts see as c
pub record IsFound (u : Inside) (chunk : ℕ) (c : Chunk) (found : DriveChunk) : Type 0 where
  pub there : slice_get u.chunks.items chunk ≡ Some found
  pub same : found.chunk ≡ c
  pub fits : IsChunkIn u.shape found

pub found_of : (u : Inside) (chunk : ℕ) (c : Chunk) (found : DriveChunk) → IsSound u → IsChunkOf (worn_unit u).unit chunk c → found ≡ get_or u.chunks.items chunk found → IsFound u chunk c found
found_of u chunk c found sound there read =
    let place = place_of u.chunks.items chunk c found there read in
    record {
      there = place;
      same = same_Some _ _ (sym (chunk_there u.chunks.items chunk found place) ∙ there);
      fits = all_get (IsChunkIn u.shape) u.chunks.items chunk found sound.chunks place;
    }

-- this stands at a place of the unit's chunks
pub record IsAt (u : Inside) (chunk : ℕ) (found : DriveChunk) : Type 0 where
  pub there : slice_get u.chunks.items chunk ≡ Some found
  pub fits : IsChunkIn u.shape found

pub at_place : (u : Inside) (chunk : ℕ) (found : DriveChunk) → IsSound u → chunk < length (worn_unit u).unit.media → found ≡ get_or u.chunks.items chunk found → IsAt u chunk found
at_place u chunk found sound within read =
    let inside : chunk < length u.chunks.items = rw (length-map u.chunks.items (λ (c : DriveChunk). c.chunk)) at within in
    let place = slice_get_read u.chunks.items (length u.chunks.items) chunk found refl inside read in
    record {
      there = place;
      fits = all_get (IsChunkIn u.shape) u.chunks.items chunk found sound.chunks place;
    }

-- the unit, as contracts see it, has a chunk of this number
module _ (u : Inside) (v : WornUnit) (chunk : ℕ) (is : worn_unit u ≡ v) (within : chunk < length v.unit.media) where
  inside : chunk < length u.chunks.items
  inside = rw (length-map u.chunks.items (λ (c : DriveChunk). c.chunk)) at (subst (λ (x : WornUnit). chunk < length x.unit.media) (sym is) within)

  pub chunk_within : chunk < vec_len u.chunks
  chunk_within = subst (λ (n : ℕ). chunk < n) (sym u.chunks.ok.0) inside

  pub wear_within : IsSound u → chunk < vec_len u.wear
  wear_within sound = subst (λ (n : ℕ). chunk < n) (sound.count ∙ sym sound.worn ∙ sym u.wear.ok.0) inside

  pub wear_read : IsSound u → (w : ℕ) → w ≡ get_or u.wear.items chunk w → slice_get v.wear chunk ≡ Some w
  wear_read sound w read = subst (λ (x : WornUnit). slice_get x.wear chunk ≡ Some w) is
      (slice_get_read u.wear.items (length u.wear.items) chunk w refl (subst (λ (n : ℕ). chunk < n) (sound.count ∙ sym sound.worn) inside) read)

-- this is what contracts see as the unit's chunk of a number
pub record IsChunkAt (v : WornUnit) (chunk : ℕ) (found : DriveChunk) : Type 0 where
  pub there : IsChunkOf v.unit chunk found.chunk
  pub shape : found.shape ≡ v.unit.shape

seen_at : (u : Inside) (v : WornUnit) (chunk : ℕ) (found : DriveChunk) → IsSound u → worn_unit u ≡ v → chunk < length u.chunks.items → found ≡ get_or u.chunks.items chunk found → IsChunkAt v chunk found
seen_at u v chunk found sound is within read =
    let place = slice_get_read u.chunks.items (length u.chunks.items) chunk found refl within read in
    subst (λ (x : WornUnit). IsChunkAt x chunk found) is (record {
      there = chunk_there u.chunks.items chunk found place;
      shape = (all_get (IsChunkIn u.shape) u.chunks.items chunk found sound.chunks place).shape;
    })

pub chunk_at : (u : Inside) (v : WornUnit) (chunk : ℕ) (found : DriveChunk) → IsSound u → worn_unit u ≡ v → chunk < length v.unit.media → found ≡ get_or u.chunks.items chunk found → IsChunkAt v chunk found
chunk_at u v chunk found sound is within read = seen_at u v chunk found sound is (inside u v chunk is within) read

-- a chunk that was looked up
pub looked_up : (u : Inside) (v : WornUnit) (chunk : ℕ) (r : Option (Bor DriveChunk)) → IsSound u → worn_unit u ≡ v → is_some r ≡ nat_lt chunk (length u.chunks.items)
    → IfSome r (λ x. x.now ≡ get_or u.chunks.items chunk x.now) → IfSome r (λ x. IsChunkOf v.unit chunk x.now.chunk × (x.now.shape ≡ v.unit.shape))
looked_up u v chunk None sound is some read = tt
looked_up u v chunk (Some x) sound is some read =
    let at = seen_at u v chunk x.now sound is (ltb-true _ _ (sym some)) read in
    (at.there, at.shape)

pub not_there : (u : Inside) (v : WornUnit) (chunk : ℕ) → worn_unit u ≡ v → nat_lt chunk (length u.chunks.items) ≡ false → slice_get v.unit.media chunk ≡ None
not_there u v chunk is past = subst (λ (x : WornUnit). slice_get x.unit.media chunk ≡ None) is
    (slice_get_past (chunks_of u.chunks.items) chunk (rw (length-map u.chunks.items (λ (c : DriveChunk). c.chunk)) (ltb-false _ _ past)))

-- the unit is one of its drive
pub unit_of : (u : Inside) → IsSound u → IsUnitOf u.shape (worn_unit u)
unit_of u sound = record {
  shape = refl;
  fits = record { count = length-map _ _ ∙ sound.count; chunks = all_chunks u.shape u.chunks.items sound.chunks };
  worn = sound.worn;
  worn_fits = sound.worn_fits;
}

pub fit : (u : Inside) → IsSound u → IsFitUnit (worn_unit u).unit
fit u sound = record {
  count = length-map _ _ ∙ sound.count;
  chunks = all_chunks u.shape u.chunks.items sound.chunks;
}

pub zeros_all : (n : ℕ) → AllByRecursion (λ w. w < 256) (replicate n 0)
zeros_all zero = tt
zeros_all (suc n) = (lit< tt, zeros_all n)

-- one more of the same
replicate-more : {X : Type 0} (n : ℕ) (x : X) → replicate n x ++ x ∷ [] ≡ replicate (suc n) x
replicate-more zero x = refl
replicate-more (suc n) x = ap (λ xs. x ∷ xs) (replicate-more n x)

pub one_more_same : {X : Type 0} (old new : List X) (n : ℕ) (x y : X) → old ≡ replicate n y → x ≡ y → new ≡ old ++ x ∷ [] → new ≡ replicate (n + 1) y
one_more_same old new n x y same is added = added ∙ ap₂ (λ (xs : List _) (z : _). xs ++ z ∷ []) same is ∙ replicate-more n y ∙ ap (λ (k : ℕ). replicate k y) (sym (add-one n))

pub one_more_free : (old new : List DriveChunk) (n : ℕ) (c : DriveChunk) → chunks_of old ≡ replicate n free_chunk → c.chunk ≡ free_chunk → new ≡ old ++ c ∷ [] → chunks_of new ≡ replicate (n + 1) free_chunk
one_more_free old new n c same is added = one_more_same (chunks_of old) (chunks_of new) n c.chunk free_chunk same is (ap chunks_of added ∙ map-append (λ (x : DriveChunk). x.chunk) old (c ∷ []))

-- a new chunk is one of a drive of its shape
pub new_chunk_in : (s : Shape) (c : DriveChunk) → c ≡ record { shape = s; chunk = free_chunk } → IsChunk c.shape c.chunk → IsChunkIn s c
new_chunk_in s c is fits =
    let same : c.shape ≡ s = ap (λ (x : DriveChunk). x.shape) is in
    record { shape = same; fits = subst (λ (t : Shape). IsChunk t c.chunk) same fits }

-- one more new chunk
pub one_more_in : (s : Shape) (old new : List DriveChunk) (c : DriveChunk) → AllByRecursion (IsChunkIn s) old → c ≡ record { shape = s; chunk = free_chunk } → IsChunk c.shape c.chunk → new ≡ old ++ c ∷ [] → AllByRecursion (IsChunkIn s) new
one_more_in s old new c all is fits added = subst (λ (cs : List DriveChunk). AllByRecursion (IsChunkIn s) cs) (sym added) (with_last (IsChunkIn s) old c all (new_chunk_in s c is fits))
