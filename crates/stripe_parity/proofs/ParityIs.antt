-- The parity of a drive is one that a drive may have.
use Rattle.std.proofs.Common.{◌≡◌, ℕ, ◌+◌, ◌<◌, List, [], ◌∷◌, length, map, Some, sym, ap, ◌∙◌, subst, arith}
use Rattle.std.specs.List.{AllByRecursion, slice_get}
use Rattle.std.proofs.lemmas.List.{length-map}
use Rattle.pblk_model.specs.declared.shape.Shape.{Shape}
use Rattle.pblk_model.specs.Accepted.{IsAccepted}
use Rattle.pblk_model.specs.Chunk.{Block, IsBlock}
use Rattle.pblk_model.specs.Image.{Image}
use Rattle.pblk_model.proofs.Maps.{length_mapped, row_at, map_back}
use Rattle.pblk_model.proofs.Parts.{all_by_get}
use Rattle.ocssd_chunks.specs.DriveChunk.{DriveChunk}
use Rattle.ocssd_drive.specs.Units.{IsChunkIn}
use Rattle.unit_port.specs.Unit.{ModelUnit}
use Rattle.world_laws.specs.Finding.{NoneOpen}
use Rattle.scan_recovery.specs.Units.{AreFit, image_of}
use Rattle.stripe_parity.specs.declared.kept.KeptChunk.{KeptChunk}
use Rattle.stripe_parity.specs.ParityFile.{IsParity, greatest_pointer, kept_chunks, kept_of, parity_block, parity_of, parity_row}
use Rattle.stripe_parity.proofs.KeptChunks.{all_kept}

-- as many chunks are kept of each unit as it has
pub as_many : (s : Shape) (us : List ModelUnit) → AreFit s us → AllByRecursion (λ (of : List KeptChunk). length of ≡ s.chunks) (kept_chunks (image_of s us))
as_many s us fit =
    all_by_get (λ (of : List KeptChunk). length of ≡ s.chunks) (kept_chunks (image_of s us)) (λ unit of there.
    let m = map_back (map kept_of) (map (λ (u : ModelUnit). u.media) us) unit of there in
    let u = map_back (λ (v : ModelUnit). v.media) us unit m.0 m.1 in
    let fits = fit.each unit u.0 u.1 in
    ap length (sym m.2) ∙ length-map m.0 kept_of ∙ ap length (sym u.2) ∙ fits.fits.count ∙ ap (λ (x : Shape). x.chunks) fits.shape)

-- so a chunk's number is within each list
pub all_within : {V : Type 0} (items : V → List KeptChunk) (kept : List V) (n chunk : ℕ)
    → AllByRecursion (λ (of : List KeptChunk). length of ≡ n) (map items kept) → chunk < n
    → AllByRecursion (λ v. chunk < length (items v)) kept
all_within items [] n chunk all low = tt
all_within items (v ∷ kept) n chunk all low = (omega (arith, all.0, low), all_within items kept n chunk all.1 low)

-- a row is as long as the greatest write pointer
row_long : (i : Image) (chunk : ℕ) (row : List Block) → slice_get (parity_of i).rows chunk ≡ Some row → length row ≡ greatest_pointer (kept_chunks i) chunk
row_long i chunk row there =
    let r = row_at (parity_row i) i.shape.chunks 0 chunk row there in
    let here : 0 + chunk ≡ chunk = omega arith in
    ap length (sym r.1) ∙ ap (λ k. length (parity_row i k)) here ∙ length_mapped (parity_block i chunk) 0 (greatest_pointer (kept_chunks i) chunk)

-- the blocks of chunks of a drive are blocks
pub blocks_fit : (s : Shape) (rows : List DriveChunk) → AllByRecursion (IsChunkIn s) rows
    → AllByRecursion (AllByRecursion (IsBlock s)) (map (λ (c : DriveChunk). c.chunk.blocks) rows)
blocks_fit s [] all = tt
blocks_fit s (c ∷ rows) all = (all.0.fits.blocks, blocks_fit s rows all.1)

pub parity_is : (s : Shape) (us : List ModelUnit) (rows : List DriveChunk) → IsAccepted s → AreFit s us → NoneOpen (image_of s us)
    → map (λ (c : DriveChunk). c.chunk.blocks) rows ≡ (parity_of (image_of s us)).rows
    → AllByRecursion (IsChunkIn s) rows → IsParity (parity_of (image_of s us))
parity_is s us rows accepted fit closed is all =
    let i = image_of s us in
    record {
      accepted = accepted;
      units_are = length-map i.units (map kept_of) ∙ length-map us (λ (u : ModelUnit). u.media) ∙ fit.count;
      chunks_are = as_many s us fit;
      each = all_kept s us fit closed;
      rows_are = length_mapped (parity_row i) 0 s.chunks;
      lengths = row_long i;
      blocks = subst (AllByRecursion (AllByRecursion (IsBlock s))) is (blocks_fit s rows all);
    }
