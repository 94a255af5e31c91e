-- An image with one sector in its line 0.
use Rattle.std.proofs.Common.{◌≡◌, ℕ, ◌+◌, ◌*◌, ◌/◌, ◌%◌, ◌<◌, ◌≤◌, zero, suc, true, Some, None, List, [], ◌∷◌, ◌++◌, length, take, drop, replicate, refl, sym, ap, ◌∙◌, subst, arith, lit<, lit≤}
use Rattle.std.specs.List.{AllByRecursion, slice_get}
use Rattle.std.specs.Option.{option_and_then, IfSome}
use Rattle.std.proofs.lemmas.List.{length-take, length-drop, length-replicate, take-append-drop, drop-drop}
use Rattle.std.proofs.lemmas.Option.{none-some, same_Some, slice_get_within}
use Rattle.pblk_model.specs.declared.chunk.ChunkState.TheVariants.{Open}
use Rattle.pblk_model.specs.Accepted.{IsAccepted}
use Rattle.pblk_model.specs.Bytes.{zeros}
use Rattle.pblk_model.specs.Chunk.{Block, Chunk, IsBlock, IsChunk, free_chunk}
use Rattle.pblk_model.specs.LineOrder.{start_len, column_of, block_of}
use Rattle.pblk_model.specs.Marks.{sector_mark, pad_mark, meta_mark}
use Rattle.pblk_model.specs.Image.{Image, IsFit, is_online_in, line_chunks, width, block_at}
use Rattle.pblk_model.specs.StartRecord.{StartRecord, start_fits, start_bytes, read_start, start_of}
use Rattle.pblk_model.specs.History.{SectorWrite}
use Rattle.pblk_laws.specs.FilledLine.{IsFilledLine}
use Rattle.pblk_laws.proofs.Shapes.{small, small_accepted}
use Rattle.pblk_laws.proofs.BlankImages.{IsEmpty, no_block}
use Rattle.pblk_laws.proofs.Runs.{start_none}
use Rattle.pblk_laws.proofs.Starts.{fields_fit, read_back, marked, found, start_bytes_length, start_bytes_are}
use Rattle.pblk_laws.proofs.Filled.{end_none}
use Rattle.pblk_model.proofs.Lists.{all_replicated}
use Rattle.pblk_model.proofs.Maps.{all_filter, all_filter_map}
use Rattle.pblk_model.proofs.Parts.{all_dropped, all_get_some, all_taken}
use Rattle.pblk_model.proofs.ChunkLemmas.{free_is_chunk}

-- The start record and the sectors that spell it.

abbrev pub first : StartRecord
first = record { line = 0; width = 4; seq = 1; first_seq = 1; front = 0; capacity = 1000; rows = [] }

pub spelling : List ℕ
spelling = start_bytes small first

pub part : ℕ → List ℕ
part k = take 512 (drop k spelling)

first_fits : start_fits small 0 4 first ≡ true
first_fits = refl

spelling_length : length spelling ≡ 2048
unfolding spelling
spelling_length = start_bytes_length small 0 4 first small_accepted first_fits

part_length : (k : ℕ) → k + 512 ≤ 2048 → length (part k) ≡ 512
unfolding part
part_length k h = simp (length-take, length-drop) (omega (arith, spelling_length))

part_bytes : (k : ℕ) → AllByRecursion (λ x. x < 256) (part k)
unfolding part spelling
part_bytes k = all_taken (λ x. x < 256) 512 (drop k (start_bytes small first))
    (all_dropped (λ x. x < 256) k (start_bytes small first) (start_bytes_are small first))

split_off : (k j : ℕ) → k + 512 ≡ j → part k ++ drop j spelling ≡ drop k spelling
unfolding part
split_off k j e = ap (λ xs. take 512 (drop k spelling) ++ xs) (ap (λ n. drop n spelling) (sym e) ∙ sym (drop-drop 512 k spelling))
    ∙ take-append-drop 512 (drop k spelling)

past : (xs : List ℕ) (n : ℕ) → length xs ≤ n → drop n xs ≡ []
past [] zero h = refl
past [] (suc n) h = refl
past (x ∷ xs) zero h = absurd (omega arith)
past (x ∷ xs) (suc n) h = past xs n (omega arith)

parts_are : part 0 ++ (part 512 ++ (part 1024 ++ (part 1536 ++ []))) ≡ spelling
parts_are =
    let end : drop 2048 spelling ≡ [] = past spelling 2048 (omega (arith, spelling_length)) in
    ap (λ xs. part 0 ++ (part 512 ++ (part 1024 ++ (part 1536 ++ xs)))) (sym end)
    ∙ ap (λ xs. part 0 ++ (part 512 ++ (part 1024 ++ xs))) (split_off 1536 2048 refl)
    ∙ ap (λ xs. part 0 ++ (part 512 ++ xs)) (split_off 1024 1536 refl)
    ∙ ap (λ xs. part 0 ++ xs) (split_off 512 1024 refl)
    ∙ split_off 0 512 refl

-- The image: a stripe with the start record in the first unit, one with the sector in the second.

abbrev pub meta_block : ℕ → Block
meta_block k = record { sector = part k; mark = meta_mark 1 }

abbrev pub meta_blocks : List Block
meta_blocks = meta_block 0 ∷ meta_block 512 ∷ meta_block 1024 ∷ meta_block 1536 ∷ []

pub some_sector : List ℕ
some_sector = replicate 512 7

abbrev pub write : SectorWrite
write = record { lba = 5; sector = some_sector }

pub pad_sector : List ℕ
pad_sector = zeros 512

abbrev pub pad : Block
pad = record { sector = pad_sector; mark = pad_mark }

abbrev pub data_blocks : List Block
data_blocks = record { sector = some_sector; mark = sector_mark 5 0 } ∷ pad ∷ pad ∷ pad ∷ []

abbrev pub written_unit : List Block → List Chunk
written_unit blocks = record { state = Open; blocks = blocks } ∷ replicate 15 free_chunk

abbrev pub image : Image
image = record { shape = small; units = written_unit meta_blocks ∷ written_unit data_blocks ∷ replicate 16 free_chunk ∷ replicate 16 free_chunk ∷ [] }

front_written : (k : ℕ) → k < start_len small → block_at image 0 k ≡ slice_get meta_blocks k
front_written zero h = refl
front_written (suc zero) h = refl
front_written (suc (suc zero)) h = refl
front_written (suc (suc (suc zero))) h = refl
front_written (suc (suc (suc (suc k)))) h = absurd (omega arith)

read_first : read_start small 0 4 (part 0 ++ (part 512 ++ (part 1024 ++ (part 1536 ++ [])))) ≡ Some first
unfolding spelling
read_first = subst (λ bytes. read_start small 0 4 bytes ≡ Some first) (sym parts_are)
    (read_back small 0 4 first (fields_fit small 0 4 first small_accepted (lit< tt) (lit< tt) first_fits) first_fits)

starts : start_of image 0 ≡ Some first
starts = found image 0 first meta_blocks refl front_written read_first (marked 1 meta_blocks (refl, (refl, (refl, (refl, tt)))))

-- No other line is written.

free_empty : (n k : ℕ) → IfSome (slice_get (replicate n free_chunk) k) IsEmpty
unfolding IsEmpty
free_empty n k = all_get_some IsEmpty (replicate n free_chunk) k (all_replicated IsEmpty n free_chunk refl)

pub others_empty : (k : ℕ) → AllByRecursion IsEmpty (line_chunks image (suc k))
others_empty k = all_filter IsEmpty (λ c. is_online_in c.state) _
    (all_filter_map IsEmpty (λ unit. IfSome (slice_get unit (suc k)) IsEmpty) (λ (unit : List Chunk). slice_get unit (suc k)) image.units (λ unit h. h)
    (free_empty 15 k, (free_empty 15 k, (free_empty 16 (suc k), (free_empty 16 (suc k), tt)))))

others : (line : ℕ) → 0 < line → line < 16 → start_of image line ≡ None
others zero some h = absurd (omega arith)
others (suc k) some h = start_none image (suc k) 0 (lit< tt)
    (no_block (slice_get (line_chunks image (suc k)) (column_of small (width image (suc k)) 0)) (block_of small (width image (suc k)) 0)
    (all_get_some IsEmpty (line_chunks image (suc k)) (column_of small (width image (suc k)) 0) (others_empty k)))

-- Line 0 past the sector.

data_there : (k : ℕ) (w : SectorWrite) → slice_get (write ∷ []) k ≡ Some w
    → block_at image 0 (start_len small + k) ≡ Some (record { sector = w.sector; mark = sector_mark w.lba k })
data_there zero w e = ap (λ (v : SectorWrite). Some (record { sector = v.sector; mark = sector_mark v.lba 0 })) (same_Some write w e)
data_there (suc k) w e = absurd (none-some w e)

-- by column and block
pads_in : (column block a : ℕ) (b : Block) → 5 ≤ a → (a / 4) % 4 ≡ column → a / 4 / 4 * 4 + a % 4 ≡ block
    → option_and_then (λ c. slice_get c.blocks block) (slice_get (line_chunks image 0) column) ≡ Some b → b.mark ≡ pad_mark
pads_in zero block a b past c e is = absurd (let inside : block < 4 = slice_get_within meta_blocks block b is in omega arith)
pads_in (suc zero) zero a b past c e is = absurd (omega arith)
pads_in (suc zero) (suc zero) a b past c e is = ap (λ (x : Block). x.mark) (sym (same_Some pad b is))
pads_in (suc zero) (suc (suc zero)) a b past c e is = ap (λ (x : Block). x.mark) (sym (same_Some pad b is))
pads_in (suc zero) (suc (suc (suc zero))) a b past c e is = ap (λ (x : Block). x.mark) (sym (same_Some pad b is))
pads_in (suc zero) (suc (suc (suc (suc block)))) a b past c e is = absurd (none-some b is)
pads_in (suc (suc zero)) block a b past c e is = absurd (none-some b is)
pads_in (suc (suc (suc zero))) block a b past c e is = absurd (none-some b is)
pads_in (suc (suc (suc (suc column)))) block a b past c e is = absurd (none-some b is)

pads : (a : ℕ) (b : Block) → start_len small + 1 ≤ a → a < width image 0 * 64 → block_at image 0 a ≡ Some b → b.mark ≡ pad_mark
pads a b past h is = pads_in ((a / 4) % 4) (a / 4 / 4 * 4 + a % 4) a b (omega arith) refl refl is

pub is_filled : IsFilledLine image first (write ∷ [])
is_filled = record {
  some_line = lit< tt;
  start_is = starts;
  others = others;
  not_full = end_none image 0 first 248 (lit≤ tt) (lit< tt) refl;
  front = refl;
  room = lit≤ tt;
  data_blocks = data_there;
  pads = pads;
  lbas = (lit< tt, tt);
  capacity = lit< tt;
}

-- It is an image of its shape.

meta_is : (k : ℕ) → k + 512 ≤ 2048 → IsBlock small (meta_block k)
meta_is k h = record { size = part_length k h; bytes = part_bytes k; lba = lit< tt; position = lit< tt }

data_is : IsBlock small (record { sector = some_sector; mark = sector_mark 5 0 })
unfolding some_sector
data_is = record { size = length-replicate {A = ℕ} 512 7; bytes = all_replicated (λ x. x < 256) 512 7 (lit< tt); lba = lit< tt; position = lit< tt }

pad_is : IsBlock small pad
unfolding pad_sector zeros
pad_is = record { size = length-replicate {A = ℕ} 512 0; bytes = all_replicated (λ x. x < 256) 512 0 (lit< tt); lba = lit< tt; position = lit< tt }

free_units : (n : ℕ) → AllByRecursion (IsChunk small) (replicate n free_chunk)
free_units n = all_replicated (IsChunk small) n free_chunk (free_is_chunk small)

meta_chunk : IsChunk small (record { state = Open; blocks = meta_blocks })
meta_chunk = record {
  place = (lit< tt, lit< tt);
  multiple = refl;
  blocks = (meta_is 0 (lit≤ tt), (meta_is 512 (lit≤ tt), (meta_is 1024 (lit≤ tt), (meta_is 1536 (lit≤ tt), tt))));
}

data_chunk : IsChunk small (record { state = Open; blocks = data_blocks })
data_chunk = record { place = (lit< tt, lit< tt); multiple = refl; blocks = (data_is, (pad_is, (pad_is, (pad_is, tt)))) }

pub image_fit : IsFit image
image_fit = record {
  units = refl;
  chunks = (refl, (refl, (refl, (refl, tt))));
  each = ((meta_chunk, free_units 15), ((data_chunk, free_units 15), (free_units 16, (free_units 16, tt))));
}

pub filled_there : (i : Image) × (start : StartRecord) × (w : SectorWrite) × IsAccepted i.shape × IsFit i × IsFilledLine i start (w ∷ [])
filled_there = (image, first, write, small_accepted, image_fit, is_filled)
