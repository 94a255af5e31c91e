-- Where the records of an image are.
use Rattle.std.proofs.Common.{◌≡◌, ℕ, ◌*◌, ◌<◌, Some, None, Option, length, refl, sym, subst, ap, ◌∙◌, arith, zero-add}
use Rattle.std.specs.Prelude.{slice_get}
use Rattle.std.specs.List.{Contains, range_with_len}
use Rattle.std.specs.Option.{option_and_then}
use Rattle.std.proofs.lemmas.Option.{same_Some, none-some, slice_get_within}
use Rattle.std.proofs.lemmas.List.FromFn.{length-range_with_len}
use Rattle.pblk_model.specs.declared.chunk.Mark.{Mark}
use Rattle.pblk_model.specs.Chunk.{Block}
use Rattle.pblk_model.specs.Image.{Image, width, block_at}
use Rattle.pblk_model.specs.EndRecord.{end_of}
use Rattle.pblk_model.specs.StartRecord.{StartRecord, start_of}
use Rattle.pblk_model.specs.Records.{Record, named, mark_at, bears, record_at, records_after, line_records, records}
use Rattle.pblk_laws.proofs.MarkNames.{sector_exactly}
use Rattle.prefix_law.proofs.Among.{flat_into, flat_from, made_from}
use Rattle.pblk_model.proofs.Lists.{IsAmong, among_contained}
use Rattle.pblk_model.proofs.Maps.{range_get}
use Rattle.pblk_model.proofs.Options.{map_some, split_then}
use Rattle.pblk_model.proofs.Parts.{contained_among}

-- ---- one record

abbrev pub record_with : ℕ → ℕ → ℕ → Block → Mark → Option ℕ → Record
record_with line seq a b m lba = record { line = line; seq = seq; at = a; position = m.position; lba = lba; sector = b.sector }

-- the number of a range is its place
pub range_is : (n k x : ℕ) → slice_get (range_with_len 0 n) k ≡ Some x → (x ≡ k) × (k < n)
range_is n k x e =
    let inside : k < length (range_with_len 0 n) = slice_get_within (range_with_len 0 n) k x e in
    let count : length (range_with_len 0 n) ≡ n = length-range_with_len 0 n in
    let below : k < n = omega arith in
    (same_Some x k (sym e ∙ range_get 0 n k below ∙ ap (λ m. Some m) (zero-add k)), below)

-- where a record is
pub record IsAt (i : Image) (r : Record) : Type 0 where
  pub in_range : r.line < i.shape.chunks
  pub start : StartRecord
  pub whole : start_of i r.line ≡ Some start
  pub seq : r.seq ≡ start.seq
  pub address : ℕ
  pub bears : record_at i r.line start address ≡ Some r
  pub there : IsAmong (line_records i r.line) r

placed : (i : Image) (r : Record) (line a : ℕ) (start : StartRecord) → record_at i line start a ≡ Some r → (r.line ≡ line) × (r.seq ≡ start.seq)
placed i r line a start is =
    let block = split_then (λ b. option_and_then (bears i.shape line start.seq a b) (mark_at i.shape (end_of i line start) a b)) (block_at i line a) r is in
    let mark = split_then (bears i.shape line start.seq a block.0) (mark_at i.shape (end_of i line start) a block.0) r block.2 in
    let name = map_some (record_with line start.seq a block.0 mark.0) (named i.shape mark.0) r mark.2 in
    (ap (λ (x : Record). x.line) (sym name.2), ap (λ (x : Record). x.seq) (sym name.2))

pub record_is_at : (i : Image) (r : Record) → Contains (records i) r → IsAt i r
record_is_at i r there =
    let line = flat_from (line_records i) (range_with_len 0 i.shape.chunks) r (among_contained (records i) r there) in
    let which = range_is i.shape.chunks line.0 line.1 line.2 in
    let number : line.1 ≡ line.0 = which.0 in
    let below : line.0 < i.shape.chunks = which.1 in
    by line.1 (omega arith) (start_of i line.1) refl line.3 line.3
  where
    by : (line : ℕ) → line < i.shape.chunks → (o : Option StartRecord) → start_of i line ≡ o → IsAmong (records_after i line o) r
        → IsAmong (line_records i line) r → IsAt i r
    by line range None e at mine = absurd (none-some r at.1)
    by line range (Some start) e at mine =
        let made = made_from (record_at i line start) (range_with_len 0 (width i line * i.shape.clba)) r at in
        let is = placed i r line made.1 start made.3 in
        let same : r.line ≡ line = is.0 in
        record {
          in_range = omega arith;
          start = start;
          whole = ap (start_of i) is.0 ∙ e;
          seq = is.1;
          address = made.1;
          bears = ap (λ l. record_at i l start made.1) is.0 ∙ made.3;
          there = subst (λ l. IsAmong (line_records i l) r) (sym is.0) mine;
        }

-- a record of a line's
pub of_line : (i : Image) (line : ℕ) (r : Record) → line < i.shape.chunks → IsAmong (line_records i line) r → Contains (records i) r
of_line i line r range at =
    contained_among (records i) r (flat_into (line_records i) (range_with_len 0 i.shape.chunks) line line r
    (range_get 0 i.shape.chunks line range ∙ ap (λ m. Some m) (zero-add line)) at)

-- a record of a line's names that line
pub names_line : (i : Image) (line : ℕ) (r : Record) → IsAmong (line_records i line) r → r.line ≡ line
names_line i line r at = by (start_of i line) at
  where
    by : (o : Option StartRecord) → IsAmong (records_after i line o) r → r.line ≡ line
    by None at = absurd (none-some r at.1)
    by (Some start) at =
        let made = made_from (record_at i line start) (range_with_len 0 (width i line * i.shape.clba)) r at in
        (placed i r line made.1 start made.3).0

-- a record of a sector names one of the user sectors
pub lba_inside : (i : Image) (lba : ℕ) (r : Record) → Contains (records i) r → r.lba ≡ Some lba → lba < i.shape.capacity
lba_inside i lba r there of_it =
    let at : IsAt i r = record_is_at i r there in
    let block =
    split_then (λ b. option_and_then (bears i.shape r.line at.start.seq at.address b) (mark_at i.shape (end_of i r.line at.start) at.address b))
    (block_at i r.line at.address) r at.bears in
    let mark = split_then (bears i.shape r.line at.start.seq at.address block.0) (mark_at i.shape (end_of i r.line at.start) at.address block.0) r block.2 in
    let name = map_some (record_with r.line at.start.seq at.address block.0 mark.0) (named i.shape mark.0) r mark.2 in
    ((sector_exactly i.shape mark.0 lba).0 (name.1 ∙ ap Some (ap (λ (x : Record). x.lba) name.2 ∙ of_it))).1
