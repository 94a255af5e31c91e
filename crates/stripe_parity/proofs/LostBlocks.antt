-- A block of a parity, and the chunks of the units that it comes from.
use Rattle.std.proofs.Common.{◌≡◌, ◌≢◌, ℕ, ◌<◌, List, length, map, get_or, Vec, Global, Option, Some, None, refl, sym, ap, ◌∙◌, arith}
use Rattle.std.specs.List.{AllByRecursion, slice_get}
use Rattle.std.specs.Option.{option_and_then, option_map, option_map_or}
use Rattle.std.proofs.lemmas.List.{length-map}
use Rattle.std.proofs.lemmas.Option.{slice_get_read, slice_get_within}
use Rattle.pblk_model.specs.declared.shape.Shape.{Shape}
use Rattle.pblk_model.specs.Shape.{units}
use Rattle.pblk_model.proofs.Maps.{get_mapped}
use Rattle.pblk_model.specs.declared.chunk.ChunkState.TheVariants.{Open}
use Rattle.pblk_model.specs.Chunk.{Block, Chunk}
use Rattle.pblk_model.specs.Image.{Image}
use Rattle.pblk_model.proofs.Options.{split_then}
use Rattle.pblk_model.proofs.Parts.{all_get, got_within}
use Rattle.pblk_laws.specs.LineBlocks.{chunk_in}
use Rattle.ocssd_chunks.specs.DriveChunk.{DriveChunk}
use Rattle.stripe_parity.specs.declared.kept.KeptChunk.{KeptChunk}
use Rattle.stripe_parity.specs.ParityFile.{IsParity, ParityFile, kept_in, kept_of, pointer_in}
use Rattle.stripe_parity.specs.Rebuilding.{AreAsKept, IsRebuiltBlock, kept_pointer}
use Rattle.stripe_parity.specs.Xors.{blocks_but, xor_onto}
use Rattle.stripe_parity.proofs.KeptChunks.{greatest_above}

-- Where a block is below the write pointer that is kept of a unit's chunk.
pub record IsBelowKept (p : ParityFile) (unit chunk block : ℕ) : Type 0 where
  pub of : List KeptChunk
  pub there : slice_get p.chunks unit ≡ Some of
  pub chunk_there : chunk < p.shape.chunks
  pub row : List Block
  pub row_there : slice_get p.rows chunk ≡ Some row
  pub within : block < length row

some_pointer : (o : Option KeptChunk) (block : ℕ) → block < option_map_or (λ k. k.pointer) o 0 → (k : KeptChunk) × (o ≡ Some k)
some_pointer None block below = absurd (omega (arith, below))
some_pointer (Some k) block below = (k, refl)

pub below_kept : (p : ParityFile) (unit chunk block : ℕ) → IsParity p → block < kept_pointer p.chunks chunk unit → IsBelowKept p unit chunk block
below_kept p unit chunk block is below =
    let k = some_pointer (kept_in p.chunks chunk unit) block below in
    let o = split_then (λ (of : List KeptChunk). slice_get of chunk) (slice_get p.chunks unit) k.0 k.1 in
    let long = all_get (λ (of : List KeptChunk). length of ≡ p.shape.chunks) p.chunks unit o.0 is.chunks_are o.1 in
    let low : chunk < p.shape.chunks = omega (arith, slice_get_within o.0 chunk k.0 o.2, long) in
    let r = got_within p.rows chunk (omega (arith, low, is.rows_are)) in
    let same : kept_pointer p.chunks chunk unit ≡ pointer_in chunk o.0 =
    ap (λ (x : Option (List KeptChunk)). option_map_or (λ (y : KeptChunk). y.pointer) (option_and_then (λ of. slice_get of chunk) x) 0) o.1 in
    record {
      of = o.0;
      there = o.1;
      chunk_there = low;
      row = r.0;
      row_there = r.1;
      within = omega (arith, below, same, greatest_above chunk p.chunks unit o.0 o.1, is.lengths chunk r.0 r.1);
    }

-- what is as kept isn't Open
pub closed_as_kept : (p : ParityFile) (i : Image) (lost chunk unit : ℕ) (c : Chunk) → IsParity p → AreAsKept p.chunks i lost → unit ≢ lost
    → chunk_in i chunk unit ≡ Some c → c.state ≢ Open
closed_as_kept p i lost chunk unit c is same other there =
    let kept : kept_in p.chunks chunk unit ≡ Some (kept_of c) = sym (same unit chunk other) ∙ ap (option_map kept_of) there in
    let o = split_then (λ (of : List KeptChunk). slice_get of chunk) (slice_get p.chunks unit) (kept_of c) kept in
    (all_get _ o.0 chunk (kept_of c) (all_get _ p.chunks unit o.0 is.each o.1) o.2).closed

-- a block of the parity, and the others' ones
pub rebuilt_block : (p : ParityFile) (i : Image) (lost chunk block : ℕ) (row : List Block) (from b : Block) → slice_get p.rows chunk ≡ Some row
    → slice_get row block ≡ Some from
    → b ≡ xor_onto from (blocks_but i (Some lost) chunk block) → IsRebuiltBlock p i lost chunk block b
rebuilt_block p i lost chunk block row from b row-there there is = record {
  from = from;
  there = ap (λ (o : Option (List Block)). option_and_then (λ r. slice_get r block) o) row-there ∙ there;
  is = is;
}

-- a row of the parity, from its chunk
pub row_here : (rows : List DriveChunk) (chunk : ℕ) (r : DriveChunk) → chunk < length rows → r ≡ get_or rows chunk r
    → slice_get (map (λ (x : DriveChunk). x.chunk.blocks) rows) chunk ≡ Some r.chunk.blocks
row_here rows chunk r low is = get_mapped (λ (x : DriveChunk). x.chunk.blocks) rows chunk r (slice_get_read rows (length rows) chunk r refl low is)

-- What is kept of a unit, from its list.
pub record KeptHere (kept : List (Vec KeptChunk Global)) (s : Shape) (unit : ℕ) (of : Vec KeptChunk Global) : Type 0 where
  pub long : length of.items ≡ s.chunks
  pub there : slice_get (map (λ (v : Vec KeptChunk Global). v.items) kept) unit ≡ Some of.items
  pub chunk_is : (chunk : ℕ) → kept_in (map (λ (v : Vec KeptChunk Global). v.items) kept) chunk unit ≡ slice_get of.items chunk

pub kept_here : (kept : List (Vec KeptChunk Global)) (s : Shape) (unit : ℕ) (of : Vec KeptChunk Global)
    → length (map (λ (v : Vec KeptChunk Global). v.items) kept) ≡ units s
    → AllByRecursion (λ (ks : List KeptChunk). length ks ≡ s.chunks) (map (λ (v : Vec KeptChunk Global). v.items) kept) → unit < units s
    → of ≡ get_or kept unit of → KeptHere kept s unit of
kept_here kept s unit of count chunks low is =
    let within : unit < length kept = omega (arith, low, count, length-map kept (λ (v : Vec KeptChunk Global). v.items)) in
    let at = get_mapped (λ (v : Vec KeptChunk Global). v.items) kept unit of (slice_get_read kept (length kept) unit of refl within is) in
    record {
      long = all_get (λ (ks : List KeptChunk). length ks ≡ s.chunks) (map (λ (v : Vec KeptChunk Global). v.items) kept) unit of.items chunks at;
      there = at;
      chunk_is = λ chunk. ap (λ (o : Option (List KeptChunk)). option_and_then (λ ks. slice_get ks chunk) o) at;
    }
