-- Written blocks, and the records that they bear.
use Rattle.std.proofs.Common.{◌≡◌, ℕ, ◌+◌, ◌*◌, ◌<◌, ◌≤◌, zero, suc, true, false, Option, Some, None, length, refl, sym, subst, ap, ◌∙◌, arith}
use Rattle.std.specs.List.{AllByRecursion, Contains, slice_get, filter_map, flat_map, range_with_len}
use Rattle.std.specs.Option.{option_map, option_and_then, IfSome}
use Rattle.std.proofs.lemmas.Option.{none-some, slice_get_within}
use Rattle.pblk_model.specs.declared.chunk.ChunkState.{ChunkState}
use Rattle.pblk_model.specs.declared.chunk.ChunkState.TheVariants as states
use Rattle.pblk_model.specs.declared.chunk.Mark.{Mark}
use Rattle.pblk_model.specs.Accepted.{IsAccepted}
use Rattle.pblk_model.specs.Chunk.{Chunk, Block, IsChunk, PointerFits}
use Rattle.pblk_model.specs.LineOrder.{column_of, block_of}
use Rattle.pblk_model.specs.Image.{Image, IsFit, line_units, width, block_at}
use Rattle.pblk_model.specs.StartRecord.{StartRecord, start_of}
use Rattle.pblk_model.specs.EndRecord.{end_of}
use Rattle.pblk_model.specs.Records.{Record, named, mark_at, bears, record_at, records_after, line_records, records}
use Rattle.pblk_model.specs.Contents.{head, end_after, counts, counted_after, counted}
use Rattle.pblk_model.proofs.LeastLengths.{start_len_positive}
use Rattle.pblk_laws.specs.LineBlocks.{chunk_in}
use Rattle.pblk_laws.proofs.LineUnits.{line_units_chunks}
use Rattle.pblk_laws.proofs.Runs.{start_none}
use Rattle.pblk_world.specs.Lines.{is_empty_state}
use Rattle.world_laws.specs.Finding.{taken_state}
use Rattle.pblk_model.proofs.Lists.{all_append, all_contains}
use Rattle.pblk_model.proofs.Maps.{all_cons_option, all_filter, all_passed}
use Rattle.pblk_laws.proofs.LineBlocksLemmas.{chunk_fits}

-- ---- a written block is in a chunk that is found Closed

pub record IsInClosed (i : Image) (line a : ℕ) : Type 0 where
  pub unit : ℕ
  pub is_unit : slice_get (line_units i line) (column_of i.shape (width i line) a) ≡ Some unit
  pub chunk : Chunk
  pub is_chunk : chunk_in i line unit ≡ Some chunk
  pub closed : taken_state chunk.state ≡ states.Closed
  pub used : is_empty_state chunk.state ≡ false

written_state : (state : ChunkState) (clba wp : ℕ) → PointerFits state clba wp → 0 < wp → (taken_state state ≡ states.Closed) × (is_empty_state state ≡ false)
written_state states.Free clba wp fits some = absurd (omega arith)
written_state states.Open clba wp fits some = (refl, refl)
written_state states.Closed clba wp fits some = (refl, refl)
written_state states.Offline clba wp fits some = absurd (omega arith)

abbrev column : Image → ℕ → ℕ → ℕ
column i line a = column_of i.shape (width i line) a

abbrev block_in : Image → ℕ → ℕ → Chunk → Option Block
block_in i line a c = slice_get c.blocks (block_of i.shape (width i line) a)

pub written_in : (i : Image) (line a : ℕ) (block : Block) → IsFit i → block_at i line a ≡ Some block → IsInClosed i line a
written_in i line a block fit e =
    by_unit (slice_get (line_units i line) (column i line a)) refl
    (sym (ap (option_and_then (block_in i line a)) (line_units_chunks i line (column i line a))) ∙ e)
  where
    by_chunk : (unit : ℕ) (o : Option Chunk) → slice_get (line_units i line) (column i line a) ≡ Some unit → chunk_in i line unit ≡ o
        → option_and_then (block_in i line a) o ≡ Some block → IsInClosed i line a
    by_chunk unit None is has h = absurd (none-some block h)
    by_chunk unit (Some c) is has h =
        let low : block_of i.shape (width i line) a < length c.blocks = slice_get_within c.blocks (block_of i.shape (width i line) a) block h in
        let fits : IsChunk i.shape c = chunk_fits i line unit c fit has in
        let state = written_state c.state i.shape.clba (length c.blocks) fits.place (omega arith) in
        record { unit = unit; is_unit = is; chunk = c; is_chunk = has; closed = state.0; used = state.1 }

    by_unit : (o : Option ℕ) → slice_get (line_units i line) (column i line a) ≡ o
        → option_and_then (block_in i line a) (option_and_then (chunk_in i line) o) ≡ Some block → IsInClosed i line a
    by_unit None is h = absurd (none-some block h)
    by_unit (Some unit) is h = by_chunk unit (chunk_in i line unit) is refl h

-- so a line with a start record has such a chunk
pub start_in_closed : (i : Image) (line : ℕ) (start : StartRecord) → IsAccepted i.shape → IsFit i → start_of i line ≡ Some start → IsInClosed i line 0
start_in_closed i line start accepted fit is = go (block_at i line 0) refl
  where
    go : (o : Option Block) → block_at i line 0 ≡ o → IsInClosed i line 0
    go None e = absurd (none-some start (sym (start_none i line 0 (start_len_positive i.shape accepted) e) ∙ is))
    go (Some block) e = written_in i line 0 block fit e

-- ---- each record is that of a written block of a line with a start record

pub record IsOfBlock (i : Image) (r : Record) : Type 0 where
  pub line : r.line < i.shape.chunks
  pub start : StartRecord
  pub is_start : start_of i r.line ≡ Some start
  pub at : r.at < width i r.line * i.shape.clba
  pub block : Block
  pub is_block : block_at i r.line r.at ≡ Some block

block_bears : (i : Image) (line : ℕ) (start : StartRecord) (a : ℕ) → line < i.shape.chunks → start_of i line ≡ Some start → a < width i line * i.shape.clba
    → IfSome (record_at i line start a) (IsOfBlock i)
block_bears i line start a inside is within = by_block (block_at i line a) refl
  where
    by_name : (block : Block) (m : Mark) (o : Option (Option ℕ)) → block_at i line a ≡ Some block
        → IfSome (option_map (λ lba. record { line = line; seq = start.seq; at = a; position = m.position; lba = lba; sector = block.sector }) o) (IsOfBlock i)
    by_name block m None e = tt
    by_name block m (Some lba) e = record { line = inside; start = start; is_start = is; at = within; block = block; is_block = e }

    by_mark : (block : Block) (o : Option Mark) → block_at i line a ≡ Some block
        → IfSome (option_and_then (bears i.shape line start.seq a block) o) (IsOfBlock i)
    by_mark block None e = tt
    by_mark block (Some m) e = by_name block m (named i.shape m) e

    by_block : (o : Option Block) → block_at i line a ≡ o
        → IfSome (option_and_then (λ block. option_and_then (bears i.shape line start.seq a block) (mark_at i.shape (end_of i line start) a block)) o)
        (IsOfBlock i)
    by_block None e = tt
    by_block (Some block) e = by_mark block (mark_at i.shape (end_of i line start) a block) e

range_kept : {Y : Type 0} (P : Y → Type 0) (f : ℕ → Option Y) (a n m : ℕ) → a + n ≤ m → ((k : ℕ) → k < m → IfSome (f k) P)
    → AllByRecursion P (filter_map f (range_with_len a n))
range_kept P f a zero m within each = tt
range_kept P f a (suc n) m within each =
    all_cons_option P (f a) (filter_map f (range_with_len (a + 1) n)) (each a (omega arith)) (range_kept P f (a + 1) n m (omega arith) each)

of_line : (i : Image) (line : ℕ) (o : Option StartRecord) → line < i.shape.chunks → start_of i line ≡ o → AllByRecursion (IsOfBlock i) (records_after i line o)
of_line i line None inside e = tt
of_line i line (Some start) inside e =
    let n : ℕ = width i line * i.shape.clba in
    range_kept (IsOfBlock i) (record_at i line start) 0 (width i line * i.shape.clba) (width i line * i.shape.clba) (omega arith)
    (λ a within. block_bears i line start a inside e within)

of_lines : (i : Image) (a n : ℕ) → a + n ≤ i.shape.chunks → AllByRecursion (IsOfBlock i) (flat_map (line_records i) (range_with_len a n))
of_lines i a zero within = tt
of_lines i a (suc n) within =
    all_append (IsOfBlock i) (line_records i a) (flat_map (line_records i) (range_with_len (a + 1) n)) (of_line i a (start_of i a) (omega arith) refl)
    (of_lines i (a + 1) n (omega arith))

-- ---- records that count

of_counted : (i : Image) (o : Option StartRecord) → AllByRecursion (IsOfBlock i) (counted_after (records i) o)
of_counted i None = tt
of_counted i (Some h) = all_filter (IsOfBlock i) (counts h (end_after (records i) (Some h))) (records i) (of_lines i 0 i.shape.chunks (omega arith))

pub counted_of : (i : Image) (r : Record) → Contains (counted i) r → IsOfBlock i r
counted_of i r there = all_contains (IsOfBlock i) (counted i) r (of_counted i (head i)) there

pub counted_passed : (i : Image) (h : StartRecord) → head i ≡ Some h → AllByRecursion (λ r. counts h (end_after (records i) (Some h)) r ≡ true) (counted i)
counted_passed i h e =
    subst (λ o. AllByRecursion (λ r. counts h (end_after (records i) (Some h)) r ≡ true) (counted_after (records i) o)) (sym e)
    (all_passed (counts h (end_after (records i) (Some h))) (records i))
