-- What is kept of the chunks of units that fit a shape, and the greatest of their write pointers.
use Rattle.std.proofs.Common.{◌≡◌, ◌≢◌, ℕ, ◌≤◌, ◌%◌, List, [], ◌∷◌, zero, suc, map, max, Option, Some, None, refl, sym, ap, ◌∙◌, subst, arith}
use Rattle.std.specs.List.{AllByRecursion, fold, slice_get}
use Rattle.std.specs.Option.{option_and_then, option_map_or}
use Rattle.std.proofs.lemmas.Option.{none-some, same_Some}
use Rattle.pblk_model.specs.declared.shape.Shape.{Shape}
use Rattle.pblk_model.specs.declared.chunk.ChunkState.TheVariants.{Open}
use Rattle.pblk_model.specs.Chunk.{Chunk, IsChunk}
use Rattle.pblk_model.proofs.ChunkLemmas.{pointer_within}
use Rattle.pblk_model.proofs.Parts.{all_by_get, all_get}
use Rattle.pblk_laws.specs.LineBlocks.{chunk_in}
use Rattle.unit_port.specs.Unit.{ModelUnit}
use Rattle.world_laws.specs.Finding.{NoneOpen}
use Rattle.scan_recovery.specs.Units.{AreFit, image_of}
use Rattle.stripe_parity.specs.declared.kept.KeptChunk.{KeptChunk}
use Rattle.stripe_parity.specs.ParityFile.{IsKept, greatest_pointer, kept_chunks, kept_of, pointer_in}
use Rattle.scan_recovery.proofs.FetchSteps.{chunk_fits}
use Rattle.pblk_model.proofs.Maps.{map_back}

-- a chunk of a unit, from the unit's list
pub chunk_from : (s : Shape) (us : List ModelUnit) (unit chunk : ℕ) (media : List Chunk) (c : Chunk)
    → slice_get (map (λ (u : ModelUnit). u.media) us) unit ≡ Some media
    → slice_get media chunk ≡ Some c → chunk_in (image_of s us) chunk unit ≡ Some c
chunk_from s us unit chunk media c there at =
    ap (λ (o : Option (List Chunk)). option_and_then (λ cs. slice_get cs chunk) o) there ∙ at

-- what is kept of a chunk that isn't Open may be kept
pub kept_fits : (s : Shape) (c : Chunk) → IsChunk s c → c.state ≢ Open → IsKept s (kept_of c)
kept_fits s c fits closed = record { closed = closed; place = fits.place; multiple = fits.multiple }

-- so may all that is kept of units without Open chunks
pub all_kept : (s : Shape) (us : List ModelUnit) → AreFit s us → NoneOpen (image_of s us)
    → AllByRecursion (AllByRecursion (IsKept s)) (kept_chunks (image_of s us))
all_kept s us fit closed =
    all_by_get (AllByRecursion (IsKept s)) (kept_chunks (image_of s us)) (λ unit of there.
    let m = map_back (map kept_of) (map (λ (u : ModelUnit). u.media) us) unit of there in
    subst (AllByRecursion (IsKept s)) m.2 (all_by_get (IsKept s) (map kept_of m.0) (λ chunk k at.
    let c = map_back kept_of m.0 chunk k at in
    let here = chunk_from s us unit chunk m.0 c.0 m.1 c.1 in
    subst (IsKept s) c.2 (kept_fits s c.0 (chunk_fits s us chunk unit c.0 fit here) (closed chunk unit c.0 here)))))

-- A write pointer that a chunk of a drive of this shape may have.
pub record IsPointer (s : Shape) (n : ℕ) : Type 0 where
  pub within : n ≤ s.clba
  pub multiple : n % s.ws_min ≡ 0

pub kept_pointer_fits : (s : Shape) (k : KeptChunk) → IsKept s k → IsPointer s k.pointer
kept_pointer_fits s k h = record { within = pointer_within k.state s.clba k.pointer h.place; multiple = h.multiple }

no_pointer : (s : Shape) → IsPointer s 0
no_pointer s = record { within = omega arith; multiple = grind arith }

found_pointer : (s : Shape) (o : Option KeptChunk) → ((k : KeptChunk) → o ≡ Some k → IsKept s k) → IsPointer s (option_map_or (λ k. k.pointer) o 0)
found_pointer s None all = no_pointer s
found_pointer s (Some k) all = kept_pointer_fits s k (all k refl)

greater : (s : Shape) (a b : ℕ) → IsPointer s a → IsPointer s b → IsPointer s (max a b)
greater s a b x y = record { within = omega (arith, x.within, y.within); multiple = grind (arith, x.multiple, y.multiple) }

greatest_from : (s : Shape) (chunk a : ℕ) (kept : List (List KeptChunk)) → IsPointer s a → AllByRecursion (AllByRecursion (IsKept s)) kept
    → IsPointer s (fold max a (map (pointer_in chunk) kept))
greatest_from s chunk a [] is all = is
greatest_from s chunk a (of ∷ kept) is all =
    greatest_from s chunk (max a (pointer_in chunk of)) kept
    (greater s a (pointer_in chunk of) is (found_pointer s (slice_get of chunk) (λ k. all_get (IsKept s) of chunk k all.0))) all.1

-- the greatest write pointer is one
pub greatest_fits : (s : Shape) (chunk : ℕ) (kept : List (List KeptChunk)) → AllByRecursion (AllByRecursion (IsKept s)) kept
    → IsPointer s (greatest_pointer kept chunk)
greatest_fits s chunk kept all = greatest_from s chunk 0 kept (no_pointer s) all

-- the greatest of a number of chunks, from what is kept where it lies
pub count_fits : (s : Shape) (us : List ModelUnit) (chunk n : ℕ) (kept : List (List KeptChunk)) → AreFit s us → NoneOpen (image_of s us)
    → kept ≡ kept_chunks (image_of s us) → n ≡ greatest_pointer kept chunk → IsPointer s n
count_fits s us chunk n kept fit closed same is =
    subst (IsPointer s) (sym (is ∙ ap (λ (ks : List (List KeptChunk)). greatest_pointer ks chunk) same))
    (greatest_fits s chunk (kept_chunks (image_of s us)) (all_kept s us fit closed))

from_most : (chunk a : ℕ) (kept : List (List KeptChunk)) → a ≤ fold max a (map (pointer_in chunk) kept)
from_most chunk a [] = omega arith
from_most chunk a (of ∷ kept) = omega (arith, from_most chunk (max a (pointer_in chunk of)) kept)

above_from : (chunk a : ℕ) (kept : List (List KeptChunk)) (unit : ℕ) (of : List KeptChunk) → slice_get kept unit ≡ Some of
    → pointer_in chunk of ≤ fold max a (map (pointer_in chunk) kept)
above_from chunk a [] unit of there = absurd (none-some of there)
above_from chunk a (v ∷ kept) zero of there = let same : v ≡ of = same_Some v of there in
    subst (λ (x : List KeptChunk). pointer_in chunk x ≤ fold max (max a (pointer_in chunk v)) (map (pointer_in chunk) kept)) same
    (omega (arith, from_most chunk (max a (pointer_in chunk v)) kept))
above_from chunk a (v ∷ kept) (suc unit) of there = above_from chunk (max a (pointer_in chunk v)) kept unit of there

-- it is at least that of each unit
pub greatest_above : (chunk : ℕ) (kept : List (List KeptChunk)) (unit : ℕ) (of : List KeptChunk) → slice_get kept unit ≡ Some of
    → pointer_in chunk of ≤ greatest_pointer kept chunk
greatest_above chunk kept unit of there = above_from chunk 0 kept unit of there
