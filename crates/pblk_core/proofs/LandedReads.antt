-- What becomes readable once a program was answered, by the blocks of its chunk.
use Rattle.std.proofs.Common.{◌≡◌, ℕ, ◌+◌, ◌-◌, ◌<◌, ◌≤◌, ◌==◌, if◌then◌else◌, true, Some, List, length, take, drop, refl, sym, ap, ap₂, ◌∙◌, arith, length-drop}
use Rattle.std.specs.Prelude.{slice_get, is_some}
use Rattle.std.specs.List.{enumerate_from, filter_map, range_with_len}
use Rattle.std.proofs.lemmas.List.{length-take-le}
use Rattle.pblk_model.specs.declared.shape.Shape.{Shape}
use Rattle.pblk_model.specs.Chunk.{Block}
use Rattle.pblk_model.specs.Image.{Image}
use Rattle.pblk_model.specs.Records.{named}
use Rattle.pblk_world.specs.World.{World, log_of}
use Rattle.pblk_world.specs.EngineLog.{Opening, Taken, takes}
use Rattle.pblk_world.specs.Space.{landed_blocks}
use Rattle.stripe_placer.specs.Placing.{Program}
use Rattle.pblk_world.specs.LegalMounts.{IsLegalMount}
use Rattle.core_laws.specs.ChunkBlocks.{chunk_blocks, newly_readable, readable_blocks, unreadable_blocks}
use Rattle.core_laws.specs.ReadSlots.{address_of_block}
use Rattle.core_laws.proofs.LostBlocks.{few_readable}
use Rattle.core_laws.proofs.WaitingChunks.{landed_before_it, blocks_with_it}
use Rattle.pblk_core.specs.Readable.{block_reads, reads_of}
use Rattle.pblk_core.specs.declared.open_lines.OpenLine.{OpenLine}
use Rattle.pblk_core.proofs.LandedEntries.{read_of, reads_list, part_get}
use Rattle.pblk_core.proofs.LandedWay.{IsOnWay}
use Rattle.pblk_model.proofs.Lists.{IsAmong}
use Rattle.pblk_model.proofs.Tests.{other_number}

-- ---- the stripe is the last of its chunk, and all before it have landed

pub record IsChunkNow (i : Image) (w : World) (unit : ℕ) (of : Program) (is : IsOnWay i w unit of) : Type 0 where
  pub landed : landed_blocks i.shape (log_of w 0) is.row.opening unit ≡ of.block
  pub long : length (chunk_blocks (log_of w 0) is.row.opening unit) ≡ of.block + i.shape.ws_opt

pub chunk_now : (i : Image) (w : World) (unit : ℕ) (of : Program) → IsLegalMount i w → (is : IsOnWay i w unit of) → IsChunkNow i w unit of is
chunk_now i w unit of mount is =
    let block : is.row.stripe.stripe.at ≡ of.block = ap (λ (x : Program). x.block) is.row.is in
    record {
      landed = landed_before_it i w unit is.row.stripe is.row.opening mount is.row.waits is.row.life ∙ block;
      long = blocks_with_it i w unit is.row.stripe is.row.opening mount is.row.waits is.row.life ∙ ap (λ n. n + i.shape.ws_opt) block;
    }

-- ---- the blocks that are read

-- What is kept of each block of the chunk: its address and its mark, which is that of an entry,
-- where it bears a position.
pub record IsChunkRead (i : Image) (w : World) (unit : ℕ) (o : Opening) (slot : OpenLine) : Type 0 where
  pub reads : (n : ℕ) (b : Block) → slice_get (chunk_blocks (log_of w 0) o unit) n ≡ Some b
      → block_reads slot unit n ≡ read_of i.shape (address_of_block i (log_of w) o unit) (n, b)
  pub marks : (n : ℕ) (b : Block) → slice_get (chunk_blocks (log_of w 0) o unit) n ≡ Some b → is_some (named i.shape b.mark) ≡ true
      → (t : Taken) × IsAmong (takes (log_of w 0)) t × (b.mark ≡ t.mark)

-- those of a part
pub reads_part : (i : Image) (w : World) (unit : ℕ) (o : Opening) (slot : OpenLine) (low high : ℕ) → high ≤ length (chunk_blocks (log_of w 0) o unit)
    → IsChunkRead i w unit o slot
    → reads_of slot unit low high ≡ filter_map (read_of i.shape (address_of_block i (log_of w) o unit))
    (enumerate_from low (drop low (take high (chunk_blocks (log_of w 0) o unit))))
reads_part i w unit o slot low high within chunk =
    let count : length (drop low (take high (chunk_blocks (log_of w 0) o unit))) ≡ high - low =
    length-drop low (take high (chunk_blocks (log_of w 0) o unit))
    ∙ ap (λ n. n - low) (length-take-le high (chunk_blocks (log_of w 0) o unit) within) in
    ap (λ n. filter_map (block_reads slot unit) (range_with_len low n)) (sym count)
    ∙ reads_list (block_reads slot unit) (read_of i.shape (address_of_block i (log_of w) o unit))
    (drop low (take high (chunk_blocks (log_of w 0) o unit))) low
    (λ k b at. chunk.reads (low + k) b (part_get low high (chunk_blocks (log_of w 0) o unit) k b at))

-- ---- where the program has landed

-- where the range begins and ends
pub record IsRange (s : Shape) (block low high : ℕ) : Type 0 where
  pub from : low ≡ readable_blocks s block
  pub to : high ≡ readable_blocks s (block + s.ws_opt)

from_is : (s : Shape) (block low : ℕ) → 0 < s.ws_opt → block + s.ws_opt ≤ s.clba → low ≡ block - s.mw_cunits → low ≡ readable_blocks s block
from_is s block low some within low-is =
    low-is ∙ sym (ap (λ b. if b then s.clba else block - s.mw_cunits) (other_number block s.clba (λ e. absurd (omega arith))))

pub range_is : (s : Shape) (block low high : ℕ) → 0 < s.ws_opt → block + s.ws_opt ≤ s.clba → low ≡ block - s.mw_cunits
    → high ≡ (if block + s.ws_opt == s.clba then s.clba else block + s.ws_opt - s.mw_cunits) → IsRange s block low high
range_is s block low high some within low-is high-is = record { from = from_is s block low some within low-is; to = high-is }

-- what can be read is the part from there to there
pub record IsPart (i : Image) (w : World) (unit : ℕ) (o : Opening) (low high : ℕ) (blocks : List Block) : Type 0 where
  pub within : high ≤ length (chunk_blocks (log_of w 0) o unit)
  pub from : low ≡ readable_blocks i.shape (landed_blocks i.shape (log_of w 0) o unit)
  pub parts : blocks ≡ drop low (take high (chunk_blocks (log_of w 0) o unit))

pub new_part : (i : Image) (w : World) (unit : ℕ) (of : Program) (low high : ℕ) → IsLegalMount i w → (is : IsOnWay i w unit of)
    → of.block + i.shape.ws_opt ≤ i.shape.clba → IsRange i.shape of.block low high
    → IsPart i w unit is.row.opening low high (newly_readable i.shape (log_of w 0) is.row.opening unit)
new_part i w unit of low high mount is within range =
    let now : IsChunkNow i w unit of is = chunk_now i w unit of mount is in
    let long : length (chunk_blocks (log_of w 0) is.row.opening unit) ≡ of.block + i.shape.ws_opt = now.long in
    let few : readable_blocks i.shape (of.block + i.shape.ws_opt) ≤ of.block + i.shape.ws_opt = few_readable i.shape (of.block + i.shape.ws_opt) within in
    let high_is : high ≡ readable_blocks i.shape (of.block + i.shape.ws_opt) = range.to in
    record {
      within = omega arith;
      from = range.from ∙ ap (readable_blocks i.shape) (sym now.landed);
      parts = ap (λ n. drop (readable_blocks i.shape n) (take (readable_blocks i.shape (n + i.shape.ws_opt)) (chunk_blocks (log_of w 0) is.row.opening unit)))
          now.landed
          ∙ sym (ap₂ (λ m n. drop m (take n (chunk_blocks (log_of w 0) is.row.opening unit))) range.from range.to);
    }

-- ---- where the program failed

-- the range ends where the stripe begins
pub record IsLostRange (s : Shape) (block low high : ℕ) : Type 0 where
  pub from : low ≡ readable_blocks s block
  pub to : high ≡ block

pub lost_range : (s : Shape) (block low : ℕ) → 0 < s.ws_opt → block + s.ws_opt ≤ s.clba → low ≡ block - s.mw_cunits → IsLostRange s block low block
lost_range s block low some within low-is = record { from = from_is s block low some within low-is; to = refl }

pub unread_part : (i : Image) (w : World) (unit : ℕ) (of : Program) (low high : ℕ) → IsLegalMount i w → (is : IsOnWay i w unit of)
    → IsLostRange i.shape of.block low high
    → IsPart i w unit is.row.opening low high (unreadable_blocks i.shape (log_of w 0) is.row.opening unit)
unread_part i w unit of low high mount is range =
    let now : IsChunkNow i w unit of is = chunk_now i w unit of mount is in
    let long : length (chunk_blocks (log_of w 0) is.row.opening unit) ≡ of.block + i.shape.ws_opt = now.long in
    let high_is : high ≡ of.block = range.to in
    record {
      within = omega arith;
      from = range.from ∙ ap (readable_blocks i.shape) (sym now.landed);
      parts = ap (λ n. drop (readable_blocks i.shape n) (take n (chunk_blocks (log_of w 0) is.row.opening unit))) now.landed
          ∙ sym (ap₂ (λ m n. drop m (take n (chunk_blocks (log_of w 0) is.row.opening unit))) range.from range.to);
    }

pub reads_are : (i : Image) (w : World) (unit : ℕ) (o : Opening) (slot : OpenLine) (low high : ℕ) (blocks : List Block)
    → IsPart i w unit o low high blocks → IsChunkRead i w unit o slot
    → reads_of slot unit low high ≡ filter_map (read_of i.shape (address_of_block i (log_of w) o unit)) (enumerate_from low blocks)
reads_are i w unit o slot low high blocks part chunk =
    reads_part i w unit o slot low high part.within chunk
    ∙ ap (λ bs. filter_map (read_of i.shape (address_of_block i (log_of w) o unit)) (enumerate_from low bs)) (sym part.parts)
