-- Blank images.
use Rattle.std.proofs.Common.{◌≡◌, ℕ, Option, Some, None, List, [], replicate, length, refl, ap}
use Rattle.std.proofs.lemmas.List.{length-replicate}
use Rattle.std.specs.List.{AllByRecursion, slice_get, fold, range_with_len}
use Rattle.std.specs.Option.{option_and_then, option_map_or, IfSome}
use Rattle.pblk_model.specs.declared.shape.Shape.{Shape}
use Rattle.pblk_model.specs.Bytes.{zeros}
use Rattle.pblk_model.specs.Shape.{units}
use Rattle.pblk_model.specs.Accepted.{IsAccepted}
use Rattle.pblk_model.specs.LineOrder.{column_of, block_of}
use Rattle.pblk_model.specs.Chunk.{Chunk, IsChunk, free_chunk}
use Rattle.pblk_model.specs.Image.{Image, IsFit, blank, is_online_in, line_chunks, width, block_at}
use Rattle.pblk_model.specs.StartRecord.{start_of}
use Rattle.pblk_model.specs.Records.{Record, records_after, line_records, records}
use Rattle.pblk_model.specs.Contents.{later_start, head, end_after, end, counted_after, counted, winner, sector_of, contents}
use Rattle.pblk_model.proofs.LeastLengths.{start_len_positive}
use Rattle.pblk_laws.proofs.Runs.{start_none}
use Rattle.pblk_model.proofs.Lists.{all_replicated}
use Rattle.pblk_model.proofs.Maps.{all_filter, all_filter_map, filter_map_none, flat_map_nil, map_constant}
use Rattle.pblk_model.proofs.Parts.{all_get_some}
use Rattle.pblk_model.proofs.ChunkLemmas.{free_is_chunk}

unfoldable pub IsEmpty : Chunk → Type 0
IsEmpty c = c.blocks ≡ []

pub no_block : (o : Option Chunk) (k : ℕ) → IfSome o IsEmpty → option_and_then (λ c. slice_get c.blocks k) o ≡ None
unfolding IsEmpty
no_block None k h = refl
no_block (Some c) k h = ap (λ blocks. slice_get blocks k) h

pub empty_line : (i : Image) (line : ℕ) → AllByRecursion (AllByRecursion IsEmpty) i.units → AllByRecursion IsEmpty (line_chunks i line)
empty_line i line h = all_filter IsEmpty (λ c. is_online_in c.state) _
    (all_filter_map IsEmpty (AllByRecursion IsEmpty) (λ unit. slice_get unit line) i.units (λ unit each. all_get_some IsEmpty unit line each) h)

empty_block : (i : Image) (line a : ℕ) → AllByRecursion (AllByRecursion IsEmpty) i.units → block_at i line a ≡ None
empty_block i line a h = no_block (slice_get (line_chunks i line) (column_of i.shape (width i line) a)) (block_of i.shape (width i line) a)
    (all_get_some IsEmpty (line_chunks i line) (column_of i.shape (width i line) a) (empty_line i line h))

pub blank_empty : (s : Shape) → AllByRecursion (AllByRecursion IsEmpty) (blank s).units
unfolding IsEmpty
blank_empty s = all_replicated (AllByRecursion IsEmpty) (units s) (replicate s.chunks free_chunk) (all_replicated IsEmpty s.chunks free_chunk refl)

pub blank_fit : (s : Shape) → IsFit (blank s)
blank_fit s = record {
  units = length-replicate (units s) (replicate s.chunks free_chunk);
  chunks = all_replicated (λ (unit : List Chunk). length unit ≡ s.chunks) (units s) (replicate s.chunks free_chunk) (length-replicate s.chunks free_chunk);
  each = all_replicated (AllByRecursion (IsChunk s)) (units s) (replicate s.chunks free_chunk)
      (all_replicated (IsChunk s) s.chunks free_chunk (free_is_chunk s));
}

pub blank_block : (s : Shape) (line a : ℕ) → block_at (blank s) line a ≡ None
blank_block s line a = empty_block (blank s) line a (blank_empty s)

pub blank_start : (s : Shape) (line : ℕ) → IsAccepted s → start_of (blank s) line ≡ None
blank_start s line accepted = start_none (blank s) line 0 (start_len_positive s accepted) (blank_block s line 0)

-- An image with no start record.

pub no_records : (i : Image) → ((line : ℕ) → start_of i line ≡ None) → records i ≡ []
no_records i none = flat_map_nil (line_records i) (range_with_len 0 i.shape.chunks) (λ line. ap (records_after i line) (none line))

pub no_head : (i : Image) → ((line : ℕ) → start_of i line ≡ None) → head i ≡ None
no_head i none = ap (fold later_start None) (filter_map_none (start_of i) (range_with_len 0 i.shape.chunks) none)

pub no_end : (i : Image) → ((line : ℕ) → start_of i line ≡ None) → end i ≡ 0
no_end i none = ap (end_after (records i)) (no_head i none)

none_counted : (i : Image) → ((line : ℕ) → start_of i line ≡ None) → counted i ≡ []
none_counted i none = ap (counted_after (records i)) (no_head i none)

pub zeros_held : (i : Image) → ((line : ℕ) → start_of i line ≡ None) → contents i ≡ replicate i.shape.capacity (zeros i.shape.sector)
zeros_held i none = map_constant (sector_of i) (zeros i.shape.sector) 0 i.shape.capacity
    (λ lba. ap (λ (rs : List Record). option_map_or (λ (r : Record). r.sector) (winner rs lba) (zeros i.shape.sector)) (none_counted i none))
