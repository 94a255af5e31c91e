-- What an image holds whose line 0 is filled from its front.
use Rattle.std.proofs.Common.{◌≡◌, ℕ, ◌+◌, ◌-◌, ◌*◌, ◌<◌, ◌≤◌, cond, Option, Some, None, List, [], ◌++◌, length, replicate, refl, sym, ap, ◌∙◌, subst, arith}
use Rattle.std.specs.List.{slice_get, filter, filter_map, flat_map, fold, range_with_len}
use Rattle.std.specs.Option.{option_and_then, option_map, option_map_or}
use Rattle.std.proofs.lemmas.List.{append-nil, length-replicate, get_or-replicate}
use Rattle.std.proofs.lemmas.List.Elements.{filter_map-append}
use Rattle.std.proofs.lemmas.List.FromFn.{fill_by_all}
use Rattle.pblk_model.specs.Bytes.{zeros}
use Rattle.pblk_model.specs.Chunk.{Block}
use Rattle.pblk_model.specs.LineOrder.{start_len, end_len}
use Rattle.pblk_model.specs.Marks.{sector_mark, meta_mark}
use Rattle.pblk_model.specs.Image.{Image, width, block_at}
use Rattle.pblk_model.specs.StartRecord.{StartRecord, start_of, have_meta}
use Rattle.pblk_model.specs.EndRecord.{end_of, read_end}
use Rattle.pblk_model.specs.Records.{Record, named, mark_at, bears, record_at, records_after, line_records, records}
use Rattle.pblk_model.specs.Contents.{later_start, head, is_borne, least_missing, end_after, end, counts, counted_after, counted, winner, sector_of, contents}
use Rattle.pblk_model.specs.History.{SectorWrite, after}
use Rattle.pblk_laws.specs.StartBlocks.{AreStart}
use Rattle.pblk_laws.specs.FilledLine.{IsFilledLine}
use Rattle.pblk_laws.proofs.MarkNames.{named_sector, named_meta, named_pad}
use Rattle.pblk_laws.proofs.Runs.{run_none}
use Rattle.pblk_laws.proofs.Starts.{numbers, found_is}
use Rattle.pblk_laws.proofs.FilledLists.{range_split, filter_map_range_none, filter_map_first, flat_map_first, record_of, records_of, records_length, records_by_place, missing_after, each_borne, each_counts, winner_is_last, after_length}
use Rattle.pblk_model.proofs.Parts.{all_get}

-- an end record breaks off at a block that isn't written
pub end_none : (i : Image) (line : ℕ) (start : StartRecord) (a : ℕ) → width i line * i.shape.clba - end_len i.shape (width i line) ≤ a
    → a < (width i line * i.shape.clba - end_len i.shape (width i line)) + end_len i.shape (width i line) → block_at i line a ≡ None
    → end_of i line start ≡ None
end_none i line start a low high none =
    let first : ℕ = width i line * i.shape.clba - end_len i.shape (width i line) in
    let there : block_at i line (first + (a - first)) ≡ None = subst (λ x. block_at i line x ≡ None) (omega arith) none in
    ap (option_and_then (λ blocks. cond (have_meta start.seq blocks)
    (read_end i.shape line (width i line) start.seq (flat_map (λ (b : Block). b.sector) blocks)) None))
    (run_none i line first (end_len i.shape (width i line)) (a - first) (omega arith) there)

-- The record of a written block in a line without an end record.

own_mark : (i : Image) (line : ℕ) (start : StartRecord) (a : ℕ) (b : Block) → end_of i line start ≡ None → block_at i line a ≡ Some b
    → record_at i line start a ≡ bears i.shape line start.seq a b b.mark
own_mark i line start a b not_full written =
    ap (option_and_then (λ (block : Block). option_and_then (bears i.shape line start.seq a block) (mark_at i.shape (end_of i line start) a block))) written
    ∙ ap (λ e. option_and_then (bears i.shape line start.seq a b) (mark_at i.shape e a b)) not_full

borne_by : (i : Image) (line : ℕ) (start : StartRecord) (a : ℕ) (o : Option Block) → end_of i line start ≡ None
    → ((b : Block) → o ≡ Some b → named i.shape b.mark ≡ None)
    → option_and_then (λ block. option_and_then (bears i.shape line start.seq a block) (mark_at i.shape (end_of i line start) a block)) o ≡ None
borne_by i line start a None not_full none = refl
borne_by i line start a (Some b) not_full none =
    ap (λ e. option_and_then (bears i.shape line start.seq a b) (mark_at i.shape e a b)) not_full
    ∙ ap (option_map (λ lba. record { line = line; seq = start.seq; at = a; position = b.mark.position; lba = lba; sector = b.sector })) (none b refl)

no_record : (i : Image) (line : ℕ) (start : StartRecord) (a : ℕ) → end_of i line start ≡ None
    → ((b : Block) → block_at i line a ≡ Some b → named i.shape b.mark ≡ None) → record_at i line start a ≡ None
no_record i line start a not_full none = borne_by i line start a (block_at i line a) not_full none

-- The image.

module _ (i : Image) (start : StartRecord) (writes : List SectorWrite) (filled : IsFilledLine i start writes) where
  sector_record : (k : ℕ) (w : SectorWrite) → slice_get writes k ≡ Some w
      → record_at i 0 start (start_len i.shape + k) ≡ Some (record_of start.seq (start_len i.shape) k w)
  sector_record k w e =
      let lba : w.lba < i.shape.capacity = all_get (λ (v : SectorWrite). v.lba < i.shape.capacity) writes k w filled.lbas e in
      own_mark i 0 start (start_len i.shape + k) (record { sector = w.sector; mark = sector_mark w.lba k }) filled.not_full (filled.data_blocks k w e)
      ∙ ap (option_map (λ lba. record { line = 0; seq = start.seq; at = start_len i.shape + k; position = k; lba = lba; sector = w.sector }))
      (named_sector i.shape (sector_mark w.lba k) lba)

  mount : start.first_seq ≤ start.seq
  mount = (numbers i.shape 0 (width i 0) start (found_is i 0 start filled.start_is).0).first_seq

  start_record : (a : ℕ) → 0 ≤ a → a < 0 + start_len i.shape → record_at i 0 start a ≡ None
  start_record a low high =
      let found = found_is i 0 start filled.start_is in
      let blocks : List Block = found.1 in
      let are : AreStart i 0 start blocks = found.2 in
      no_record i 0 start a filled.not_full (λ b written.
      let there : slice_get blocks a ≡ Some b = sym (are.written a (omega arith)) ∙ written in
      let mark : b.mark ≡ meta_mark start.seq = all_get (λ (x : Block). x.mark ≡ meta_mark start.seq) blocks a b are.marks there in
      ap (named i.shape) mark ∙ named_meta i.shape start.seq filled.capacity)

  pad_record : (a : ℕ) → start_len i.shape + length writes ≤ a → a < width i 0 * i.shape.clba → record_at i 0 start a ≡ None
  pad_record a low high = no_record i 0 start a filled.not_full
      (λ b written. ap (named i.shape) (filled.pads a b low high written) ∙ named_pad i.shape filled.capacity)

  abbrev own_records : List Record
  own_records = records_of start.seq (start_len i.shape) 0 writes

  line_is : line_records i 0 ≡ own_records
  line_is =
      let first : ℕ = start_len i.shape in
      let n : ℕ = length writes in
      let pads : ℕ = width i 0 * i.shape.clba - (first + n) in
      let f = record_at i 0 start in
      let room : first + n ≤ width i 0 * i.shape.clba = filled.room in
      let parts : range_with_len 0 (width i 0 * i.shape.clba) ≡ range_with_len 0 first ++ (range_with_len first n ++ range_with_len (first + n) pads) =
      ap (range_with_len 0) (omega arith) ∙ range_split 0 first (n + pads) ∙ ap (λ x. range_with_len 0 first ++ range_with_len x (n + pads)) (omega arith)
      ∙ ap (λ xs. range_with_len 0 first ++ xs) (range_split first n pads) in
      let middle : filter_map f (range_with_len first n) ≡ own_records =
      ap (λ x. filter_map f (range_with_len x n)) (omega arith)
      ∙ records_by_place f start.seq first 0 writes
      (λ j w e. subst (λ x. f (first + x) ≡ Some (record_of start.seq first x w)) (omega arith) (sector_record j w e)) in
      let front : filter_map f (range_with_len 0 first) ≡ [] = filter_map_range_none f 0 first start_record in
      let back : filter_map f (range_with_len (first + n) pads) ≡ [] =
      filter_map_range_none f (first + n) pads (λ a low high. pad_record a low (omega arith)) in
      ap (records_after i 0) filled.start_is
      ∙ ap (filter_map f) parts
      ∙ filter_map-append f (range_with_len 0 first) (range_with_len first n ++ range_with_len (first + n) pads)
      ∙ ap (λ rs. rs ++ filter_map f (range_with_len first n ++ range_with_len (first + n) pads)) front
      ∙ filter_map-append f (range_with_len first n) (range_with_len (first + n) pads)
      ∙ ap (λ rs. filter_map f (range_with_len first n) ++ rs) back
      ∙ append-nil (filter_map f (range_with_len first n))
      ∙ middle

  records_are : records i ≡ own_records
  records_are = flat_map_first (line_records i) i.shape.chunks filled.some_line (λ line some inside. ap (records_after i line) (filled.others line some inside))
      ∙ line_is

  head_is : head i ≡ Some start
  head_is = ap (fold later_start None) (filter_map_first (start_of i) i.shape.chunks start filled.some_line filled.start_is filled.others)

  end_of_own : end_after own_records (Some start) ≡ length writes
  end_of_own =
      ap (least_missing (is_borne own_records start) (length own_records)) filled.front
      ∙ ap (λ n. least_missing (is_borne own_records start) n 0) (records_length start.seq (start_len i.shape) 0 writes)
      ∙ missing_after (is_borne own_records start) (length writes) 0 (λ q low high. each_borne start start.seq (start_len i.shape) 0 q writes mount low high)
      ∙ omega arith

  pub end_is : end i ≡ length writes
  end_is = ap (end_after (records i)) head_is ∙ ap (λ rs. end_after rs (Some start)) records_are ∙ end_of_own

  counted_are : counted i ≡ own_records
  counted_are =
      ap (counted_after (records i)) head_is
      ∙ ap (λ rs. counted_after rs (Some start)) records_are
      ∙ ap (λ p. filter (counts start p) own_records) end_of_own
      ∙ each_counts start start.seq (start_len i.shape) 0 (length writes) writes mount (omega arith)

  pub contents_are : contents i ≡ after (replicate i.shape.capacity (zeros i.shape.sector)) writes
  contents_are =
      let blank : List (List ℕ) = replicate i.shape.capacity (zeros i.shape.sector) in
      let long : length blank ≡ i.shape.capacity = length-replicate i.shape.capacity (zeros i.shape.sector) in
      sym (fill_by_all (sector_of i) (after blank writes) i.shape.capacity [] (after_length blank writes ∙ long)
      (λ lba inside.
      sym (ap (λ rs. option_map_or (λ (r : Record). r.sector) (winner rs lba) (zeros i.shape.sector)) counted_are
      ∙ winner_is_last start.seq (start_len i.shape) lba (zeros i.shape.sector) [] writes blank (omega arith)
      (get_or-replicate i.shape.capacity lba (zeros i.shape.sector) [] inside))))
