-- A record that counts in an image: the block that it is of, and where that stands.
use Rattle.std.proofs.Common.{◌≡◌, ℕ, ◌+◌, ◌-◌, ◌*◌, ◌/◌, ◌%◌, ◌<◌, ◌≤◌, ◌==◌, nat_lt, zero, suc, Bool, true, false, Some, None, Option, List, [], ◌∷◌, length, refl, sym, subst, ap, ◌∙◌, arith, if◌then◌else◌}
use Rattle.std.specs.Prelude.{slice_get}
use Rattle.std.specs.List.{AllByRecursion, filter_map, flat_map, cons_option, range_with_len}
use Rattle.std.specs.Option.{option_and_then}
use Rattle.std.proofs.lemmas.Option.{same_Some, none-some, slice_get_within}
use Rattle.std.proofs.Math.Nat.{mod-lt}
use Rattle.pblk_model.specs.declared.shape.Shape.{Shape}
use Rattle.pblk_model.specs.declared.chunk.Mark.{Mark}
use Rattle.pblk_model.specs.Chunk.{Chunk, Block}
use Rattle.pblk_model.specs.LineOrder.{start_len, column_of, block_of, line_order}
use Rattle.pblk_model.specs.Marks.{void_lba, sector_mark}
use Rattle.pblk_model.specs.Image.{Image, line_units, width, block_at}
use Rattle.pblk_model.specs.StartRecord.{StartRecord, start_of}
use Rattle.pblk_model.specs.EndRecord.{EndRecord, end_of}
use Rattle.pblk_model.specs.Records.{Record, named, mark_at, bears, record_at, records_after, line_records, records}
use Rattle.pblk_model.specs.Contents.{head, end_after, counts, counted_after, counted, winner}
use Rattle.pblk_model.specs.Sealed.{AgreesWithLine, IsSealed}
use Rattle.pblk_model.proofs.OrderedBlocks.{order_exactly}
use Rattle.pblk_laws.specs.LineBlocks.{chunk_in}
use Rattle.pblk_laws.proofs.LineUnits.{line_units_count, block_named}
use Rattle.core_laws.proofs.WinnerStarts.{winner_is}
use Rattle.pblk_model.proofs.Lists.{all_append}
use Rattle.pblk_model.proofs.Maps.{all_filter}
use Rattle.pblk_model.proofs.Numbers.{some_units}
use Rattle.pblk_model.proofs.Options.{map_some, split_then}
use Rattle.pblk_model.proofs.Parts.{got_within}
use Rattle.pblk_model.proofs.Tests.{le_of_lt_false}

-- ---- options

-- ---- records

-- it is of a written block of a line with a start record
pub record IsFoundRecord (i : Image) (r : Record) : Type 0 where
  pub in_range : r.line < i.shape.chunks
  pub start : StartRecord
  pub starts : start_of i r.line ≡ Some start
  pub within : r.at < width i r.line * i.shape.clba
  pub block : Block
  pub there : block_at i r.line r.at ≡ Some block
  pub mark : Mark
  pub marked : mark_at i.shape (end_of i r.line start) r.at block ≡ Some mark
  pub names : named i.shape mark ≡ Some r.lba
  pub position : mark.position ≡ r.position
  pub sector : block.sector ≡ r.sector

found_at : (i : Image) (line a : ℕ) (start : StartRecord) (r : Record) → line < i.shape.chunks → start_of i line ≡ Some start → a < width i line * i.shape.clba
    → record_at i line start a ≡ Some r → IsFoundRecord i r
found_at i line a start r range starts within is =
    let block = split_then (λ block. option_and_then (bears i.shape line start.seq a block) (mark_at i.shape (end_of i line start) a block))
    (block_at i line a) r is in
    let mark = split_then (bears i.shape line start.seq a block.0) (mark_at i.shape (end_of i line start) a block.0) r block.2 in
    let made = map_some (λ lba. record { line = line; seq = start.seq; at = a; position = mark.0.position; lba = lba; sector = block.0.sector })
    (named i.shape mark.0) r mark.2 in
    subst (IsFoundRecord i) made.2
    (record {
      in_range = range;
      start = start;
      starts = starts;
      within = within;
      block = block.0;
      there = block.1;
      mark = mark.0;
      marked = mark.1;
      names = made.1;
      position = refl;
      sector = refl;
    })

below : (n k : ℕ) → AllByRecursion (λ m. (n ≤ m) × (m < n + k)) (range_with_len n k)
below n zero = tt
below n (suc k) = ((omega arith, omega arith), wider (range_with_len (n + 1) k) (below (n + 1) k))
  where
    wider : (xs : List ℕ) → AllByRecursion (λ m. (n + 1 ≤ m) × (m < n + 1 + k)) xs → AllByRecursion (λ m. (n ≤ m) × (m < n + suc k)) xs
    wider [] all = tt
    wider (x ∷ xs) all =
        let low : n + 1 ≤ x = all.0.0 in
        let high : x < n + 1 + k = all.0.1 in ((omega arith, omega arith), wider xs all.1)

all_made : {X Y : Type 0} (h : X → Option Y) (P : X → Type 0) (Q : Y → Type 0) → ((x : X) (y : Y) → P x → h x ≡ Some y → Q y) → (xs : List X)
    → AllByRecursion P xs → AllByRecursion Q (filter_map h xs)
all_made h P Q says [] all = tt
all_made {X} {Y} h P Q says (x ∷ xs) all = go (h x) refl (all_made h P Q says xs all.1)
  where
    go : (o : Option Y) → h x ≡ o → AllByRecursion Q (filter_map h xs) → AllByRecursion Q (cons_option o (filter_map h xs))
    go None e rest = rest
    go (Some y) e rest = (says x y all.0 e, rest)

of_line : (i : Image) (line : ℕ) → line < i.shape.chunks → (o : Option StartRecord) → start_of i line ≡ o
    → AllByRecursion (IsFoundRecord i) (records_after i line o)
of_line i line range None e = tt
of_line i line range (Some start) e = all_made (record_at i line start) (λ a. (0 ≤ a) × (a < 0 + width i line * i.shape.clba)) (IsFoundRecord i)
    (λ a r at is. let high : a < 0 + width i line * i.shape.clba = at.1 in found_at i line a start r range e (omega arith) is)
    (range_with_len 0 (width i line * i.shape.clba)) (below 0 (width i line * i.shape.clba))

of_lines : (i : Image) (lines : List ℕ) → AllByRecursion (λ line. (0 ≤ line) × (line < 0 + i.shape.chunks)) lines
    → AllByRecursion (IsFoundRecord i) (flat_map (line_records i) lines)
of_lines i [] all = tt
of_lines i (line ∷ lines) all =
    let high : line < 0 + i.shape.chunks = all.0.1 in
    all_append (IsFoundRecord i) (line_records i line) (flat_map (line_records i) lines) (of_line i line (omega arith) (start_of i line) refl)
    (of_lines i lines all.1)

counted_are : (i : Image) (o : Option StartRecord) → AllByRecursion (IsFoundRecord i) (counted_after (records i) o)
counted_are i None = tt
counted_are i (Some h) = all_filter (IsFoundRecord i) (counts h (end_after (records i) (Some h))) (records i)
    (of_lines i (range_with_len 0 i.shape.chunks) (below 0 i.shape.chunks))

pub winner_found : (i : Image) (lba : ℕ) (r : Record) → winner (counted i) lba ≡ Some r → IsFoundRecord i r
winner_found i lba r e = winner_is i (IsFoundRecord i) lba r (counted_are i (head i)) e

-- ---- its block

-- the unit and the chunk in which it stands
pub record IsPlaced (i : Image) (line at : ℕ) (block : Block) : Type 0 where
  pub unit : ℕ
  pub number : ℕ
  pub place : slice_get (line_order i.shape (line_units i line)) at ≡ Some (unit, number)
  pub chunk : Chunk
  pub there : chunk_in i line unit ≡ Some chunk
  pub written : slice_get chunk.blocks number ≡ Some block

pub block_placed : (i : Image) (line at : ℕ) (block : Block) → 0 < i.shape.ws_opt → i.shape.clba % i.shape.ws_opt ≡ 0 → at < width i line * i.shape.clba
    → block_at i line at ≡ Some block → IsPlaced i line at block
block_placed i line at block some whole within is =
    let us : List ℕ = line_units i line in
    let count : length us ≡ width i line = line_units_count i line in
    let inside : at < length us * i.shape.clba = subst (λ n. at < n * i.shape.clba) (sym count) within in
    let column : column_of i.shape (length us) at < length us = mod-lt (at / i.shape.ws_opt) (some_units (length us) i.shape.clba at inside) in
    let unit = got_within us (column_of i.shape (length us) at) column in
    let place : slice_get (line_order i.shape us) at ≡ Some (unit.0, block_of i.shape (length us) at) =
    (order_exactly i.shape us at unit.0 some whole).1 (unit.1, inside) in
    let chunk = split_then (λ (c : Chunk). slice_get c.blocks (block_of i.shape (length us) at)) (chunk_in i line unit.0) block
    (sym (block_named i line at (unit.0, block_of i.shape (length us) at) some whole place) ∙ is) in
    record { unit = unit.0; number = block_of i.shape (length us) at; place = place; chunk = chunk.0; there = chunk.1; written = chunk.2 }

-- ---- its mark

named_sector : (s : Shape) (m : Mark) (lba : ℕ) → named s m ≡ Some (Some lba) → m.lba ≡ lba
named_sector s m lba e = go (nat_lt m.lba s.capacity) e
  where
    inner : (b : Bool) → (if b then Some None else None) ≡ Some (Some lba) → ⊥
    inner true f = cc
    inner false f = cc

    go : (b : Bool) → (if b then Some (Some m.lba) else (if m.lba == void_lba then Some None else None)) ≡ Some (Some lba) → m.lba ≡ lba
    go true f = same_Some m.lba lba (same_Some (Some m.lba) (Some lba) f)
    go false f = absurd (inner (m.lba == void_lba) f)

-- in a sealed image it is the block's own
own_mark : (i : Image) (r : Record) (is : IsFoundRecord i r) → IsSealed i → (o : Option EndRecord) → end_of i r.line is.start ≡ o
    → mark_at i.shape o r.at is.block ≡ Some is.mark → is.block.mark ≡ is.mark
own_mark i r is sealed None e marked = same_Some is.block.mark is.mark marked
own_mark i r is sealed (Some end_) e marked = go (nat_lt r.at (start_len i.shape)) refl marked
  where
    agrees : AgreesWithLine i r.line end_
    agrees = sealed.ends r.line is.start end_ is.in_range is.starts e

    go : (b : Bool) → nat_lt r.at (start_len i.shape) ≡ b → (if b then None else slice_get end_.pairs (r.at - start_len i.shape)) ≡ Some is.mark
        → is.block.mark ≡ is.mark
    go true f m = absurd (none-some is.mark m)
    go false f m =
        let above : start_len i.shape ≤ r.at = le_of_lt_false r.at (start_len i.shape) f in
        let split : start_len i.shape + (r.at - start_len i.shape) ≡ r.at = omega arith in
        let inside : r.at - start_len i.shape < length end_.pairs = slice_get_within end_.pairs (r.at - start_len i.shape) is.mark m in
        let pair : slice_get end_.pairs (r.at - start_len i.shape) ≡ Some is.block.mark =
        agrees.marks (r.at - start_len i.shape) is.block inside (ap (block_at i r.line) split ∙ is.there) in
        same_Some is.block.mark is.mark (sym pair ∙ m)

pub sealed_mark : (i : Image) (lba : ℕ) (r : Record) (is : IsFoundRecord i r) → r.lba ≡ Some lba → IsSealed i → is.block.mark ≡ sector_mark lba r.position
sealed_mark i lba r is its sealed =
    let own : is.block.mark ≡ is.mark = own_mark i r is sealed (end_of i r.line is.start) refl is.marked in
    let of_lba : is.mark.lba ≡ lba = named_sector i.shape is.mark lba (is.names ∙ ap (λ (o : Option ℕ). Some o) its) in
    own ∙ ap (λ n. sector_mark n is.mark.position) of_lba ∙ ap (sector_mark lba) is.position
