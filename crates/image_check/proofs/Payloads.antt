-- What sectors hold, by the places of the newest counted records.
use Rattle.std.proofs.Common.{◌≡◌, ◌≢◌, ℕ, ◌+◌, ◌*◌, ◌<◌, ◌≤◌, zero, suc, cond, List, [], Option, Some, None, refl, sym, ap, ◌∙◌, arith}
use Rattle.std.specs.List.{AllByRecursion, cons_option, filter_map, range_with_len}
use Rattle.std.specs.Option.{IfSome, option_and_then, option_map, option_map_or}
use Rattle.std.proofs.lemmas.Bool.{eq-eqb, ne_eqb}
use native.Mathlib.Decide.{ℕ_discrete}
use Rattle.pblk_model.specs.declared.chunk.Mark.{Mark}
use Rattle.pblk_model.specs.declared.found.Winner.{Winner}
use Rattle.pblk_model.specs.Bytes.{zeros}
use Rattle.pblk_model.specs.Chunk.{Block}
use Rattle.pblk_model.specs.Image.{Image, block_at, width}
use Rattle.pblk_model.specs.StartRecord.{StartRecord, start_of}
use Rattle.pblk_model.specs.EndRecord.{EndRecord, end_of}
use Rattle.pblk_model.specs.Records.{Record, bears, line_records, mark_at, named, record_at, records, records_after}
use Rattle.pblk_model.specs.Contents.{contents, counted, counted_after, counts, end_after, head, sector_of, winner}
use Rattle.pblk_model.proofs.Lists.{all_contains, all_everywhere}
use Rattle.pblk_model.proofs.Maps.{all_filter, all_filter_map, all_flat_map, all_in_range, map_agree}
use Rattle.pblk_model.proofs.Options.{map_some}
use Rattle.pblk_laws.proofs.Winners.{winner_is_winner}
use Rattle.image_check.specs.Right.{payload_at, said_contents, said_of, said_sector, win_by, wins_of}

-- A record's sector is what is written at its place.

abbrev IsHeld : Image → Record → Type 0
IsHeld i r = payload_at i r.line r.at ≡ r.sector

abbrev borne : ℕ → ℕ → ℕ → ℕ → List ℕ → Option ℕ → Record
borne line seq a position sector lba = record { line = line; seq = seq; at = a; position = position; lba = lba; sector = sector }

named_held : (i : Image) (line seq a position : ℕ) (block : Block) (o : Option (Option ℕ)) → block_at i line a ≡ Some block
    → IfSome (option_map (borne line seq a position block.sector) o) (IsHeld i)
named_held i line seq a position block None there = tt
named_held i line seq a position block (Some lba) there = ap (λ (o : Option Block). option_map_or (λ b. b.sector) o []) there

mark_held : (i : Image) (line seq a : ℕ) (block : Block) (o : Option Mark) → block_at i line a ≡ Some block
    → IfSome (option_and_then (bears i.shape line seq a block) o) (IsHeld i)
mark_held i line seq a block None there = tt
mark_held i line seq a block (Some m) there = named_held i line seq a m.position block (named i.shape m) there

block_held : (i : Image) (line a : ℕ) (start : StartRecord) (e : Option EndRecord) (o : Option Block) → block_at i line a ≡ o
    → IfSome (option_and_then (λ block. option_and_then (bears i.shape line start.seq a block) (mark_at i.shape e a block)) o) (IsHeld i)
block_held i line a start e None there = tt
block_held i line a start e (Some block) there = mark_held i line start.seq a block (mark_at i.shape e a block) there

record_held : (i : Image) (line : ℕ) (start : StartRecord) (a : ℕ) → IfSome (record_at i line start a) (IsHeld i)
record_held i line start a = block_held i line a start (end_of i line start) (block_at i line a) refl

after_held : (i : Image) (line : ℕ) (o : Option StartRecord) → AllByRecursion (IsHeld i) (records_after i line o)
after_held i line None = tt
after_held i line (Some start) =
    let Any : ℕ → Type 0 = λ a. Unit {0} in
    let range = range_with_len 0 (width i line * i.shape.clba) in
    all_filter_map (IsHeld i) Any (record_at i line start) range (λ a h. record_held i line start a) (all_everywhere Any range (λ a. tt))

records_held : (i : Image) → AllByRecursion (IsHeld i) (records i)
records_held i = all_flat_map (IsHeld i) (line_records i) (range_with_len 0 i.shape.chunks) (λ line. after_held i line (start_of i line))

counted_held : (i : Image) (rs : List Record) (h : Option StartRecord) → AllByRecursion (IsHeld i) rs → AllByRecursion (IsHeld i) (counted_after rs h)
counted_held i rs None each = tt
counted_held i rs (Some h) each = all_filter (IsHeld i) (counts h (end_after rs (Some h))) rs each

-- What a list by number says of a number.
module _ {Y : Type 0} (f : ℕ → Option Y) (number : Y → ℕ) (same : (k : ℕ) (y : Y) → f k ≡ Some y → number y ≡ k) where
  skipped : (a m : ℕ) (o : Option Y) (ys : List Y) → f a ≡ o → a ≢ m → said_of number (cons_option o ys) m ≡ said_of number ys m
  skipped a m None ys is other = refl
  skipped a m (Some y) ys is other = ap (λ b. cond b (Some y) (said_of number ys m)) (ne_eqb (number y) m (λ e. other (sym (same a y is) ∙ e)))

  low_unsaid : (a n m : ℕ) → m < a → said_of number (filter_map f (range_with_len a n)) m ≡ None
  low_unsaid a zero m low = refl
  low_unsaid a (suc n) m low = skipped a m (f a) (filter_map f (range_with_len (a + 1) n)) refl (λ e. omega arith) ∙ low_unsaid (a + 1) n m (omega arith)

  here_said : (m : ℕ) (o : Option Y) (ys : List Y) → f m ≡ o → said_of number ys m ≡ None → said_of number (cons_option o ys) m ≡ o
  here_said m None ys is none = none
  here_said m (Some y) ys is none = ap (λ b. cond b (Some y) (said_of number ys m)) (eq-eqb (number y) m (same m y is))

  range_said : (a n m : ℕ) → a ≤ m → m < a + n → said_of number (filter_map f (range_with_len a n)) m ≡ f m
  range_said a zero m low high = absurd (omega arith)
  range_said a (suc n) m low high = by_place (ℕ_discrete a m) (λ l h. range_said (a + 1) n m l h) where
    by_place : Dec (a ≡ m) → (a + 1 ≤ m → m < a + 1 + n → said_of number (filter_map f (range_with_len (a + 1) n)) m ≡ f m)
        → said_of number (filter_map f (range_with_len a (suc n))) m ≡ f m
    by_place (yes e) rest =
        ap (λ k. said_of number (filter_map f (range_with_len k (suc n))) m) e
        ∙ here_said m (f m) (filter_map f (range_with_len (m + 1) n)) refl (low_unsaid (m + 1) n m (omega arith))
    by_place (no other) rest = skipped a m (f a) (filter_map f (range_with_len (a + 1) n)) refl other ∙ rest (omega arith) (omega arith)

module _ (i : Image) where
  lba_same : (k : ℕ) (w : Winner) → win_by k (winner (counted i) k) ≡ Some w → w.lba ≡ k
  lba_same k w is = let found = map_some {A = Record} _ (winner (counted i) k) w is in ap (λ (x : Winner). x.lba) (sym found.2)

  -- the winner of a sector holds what is written at its place
  won : (lba : ℕ) (o : Option Record) → winner (counted i) lba ≡ o
      → option_map_or (λ (w : Winner). payload_at i w.line w.at) (win_by lba o) (zeros i.shape.sector)
      ≡ option_map_or (λ (r : Record). r.sector) o (zeros i.shape.sector)
  won lba None is = refl
  won lba (Some r) is = all_contains (IsHeld i) (counted i) r (counted_held i (records i) (head i) (records_held i)) (winner_is_winner i lba r is).there

  sector_told : (lba : ℕ) → lba < i.shape.capacity → said_sector i (wins_of i) lba ≡ sector_of i lba
  sector_told lba inside =
      ap (λ o. option_map_or (λ (w : Winner). payload_at i w.line w.at) o (zeros i.shape.sector))
      (range_said (λ k. win_by k (winner (counted i) k)) (λ w. w.lba) lba_same 0 i.shape.capacity lba (omega arith) (omega arith))
      ∙ won lba (winner (counted i) lba) refl

  -- the sectors are the payloads at the winners' places, and zeros elsewhere
  pub contents_told : said_contents i (wins_of i) ≡ contents i
  contents_told = map_agree (λ lba. lba < i.shape.capacity) (said_sector i (wins_of i)) (sector_of i) sector_told (range_with_len 0 i.shape.capacity)
      (all_in_range 0 i.shape.capacity i.shape.capacity (omega arith))
