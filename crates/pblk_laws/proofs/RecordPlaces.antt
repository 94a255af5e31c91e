-- Which block of an image a record is of.
use Rattle.std.proofs.Common.{◌≡◌, ℕ, ◌*◌, Option, Some, None, List, refl, sym, subst}
use Rattle.std.specs.List.{AllByRecursion, Contains, range_with_len}
use Rattle.std.specs.Option.{option_and_then, option_map, IfSome}
use Rattle.pblk_model.specs.declared.shape.Shape.{Shape}
use Rattle.pblk_model.specs.declared.chunk.Mark.{Mark}
use Rattle.pblk_model.specs.Chunk.{Block}
use Rattle.pblk_model.specs.Image.{Image, width, block_at}
use Rattle.pblk_model.specs.StartRecord.{StartRecord, start_of}
use Rattle.pblk_model.specs.EndRecord.{EndRecord, end_of}
use Rattle.pblk_model.specs.Records.{Record, named, mark_at, bears, record_at, records_after, line_records, records}
use Rattle.pblk_model.specs.Contents.{head, end_after, counts, counted_after, counted}
use Rattle.pblk_model.proofs.Lists.{all_contains, all_everywhere}
use Rattle.pblk_model.proofs.Maps.{all_filter, all_filter_map, all_flat_map}

-- the record's line and address
IsOfPlace : ℕ → ℕ → Record → Type 0
IsOfPlace line a r = (r.line ≡ line) × (r.at ≡ a)

named_place : (line seq a position : ℕ) (sector : List ℕ) (o : Option (Option ℕ))
    → IfSome (option_map (λ lba. record { line = line; seq = seq; at = a; position = position; lba = lba; sector = sector }) o) (IsOfPlace line a)
unfolding IsOfPlace
named_place line seq a position sector None = tt
named_place line seq a position sector (Some lba) = (refl, refl)

mark_place : (s : Shape) (line seq a : ℕ) (block : Block) (o : Option Mark) → IfSome (option_and_then (bears s line seq a block) o) (IsOfPlace line a)
mark_place s line seq a block None = tt
mark_place s line seq a block (Some m) = named_place line seq a m.position block.sector (named s m)

block_place : (i : Image) (line a : ℕ) (start : StartRecord) (e : Option EndRecord) (o : Option Block)
    → IfSome (option_and_then (λ block. option_and_then (bears i.shape line start.seq a block) (mark_at i.shape e a block)) o) (IsOfPlace line a)
block_place i line a start e None = tt
block_place i line a start e (Some block) = mark_place i.shape line start.seq a block (mark_at i.shape e a block)

-- A record is the one of the block in its line at its address.
abbrev IsThere : Image → Record → Type 0
IsThere i r = (start : StartRecord) × (start_of i r.line ≡ Some start) × (record_at i r.line start r.at ≡ Some r)

there_is : (i : Image) (line a : ℕ) (start : StartRecord) (o : Option Record) → start_of i line ≡ Some start → record_at i line start a ≡ o
    → IfSome o (IsOfPlace line a) → IfSome o (IsThere i)
unfolding IsOfPlace
there_is i line a start None e f place = tt
there_is i line a start (Some r) e f place = (
  start,
  subst (λ x. start_of i x ≡ Some start) (sym place.0) e,
  subst (λ x. record_at i x start r.at ≡ Some r) (sym place.0) (subst (λ x. record_at i line start x ≡ Some r) (sym place.1) f),
)

record_there : (i : Image) (line : ℕ) (start : StartRecord) (a : ℕ) → start_of i line ≡ Some start → IfSome (record_at i line start a) (IsThere i)
record_there i line start a e = there_is i line a start (record_at i line start a) e refl (block_place i line a start (end_of i line start) (block_at i line a))

after_there : (i : Image) (line : ℕ) (o : Option StartRecord) → start_of i line ≡ o → AllByRecursion (IsThere i) (records_after i line o)
after_there i line None e = tt
after_there i line (Some start) e =
    let Any : ℕ → Type 0 = λ a. Unit {0} in
    let range = range_with_len 0 (width i line * i.shape.clba) in
    all_filter_map (IsThere i) Any (record_at i line start) range (λ a h. record_there i line start a e) (all_everywhere Any range (λ a. tt))

records_there : (i : Image) → AllByRecursion (IsThere i) (records i)
records_there i = all_flat_map (IsThere i) (line_records i) (range_with_len 0 i.shape.chunks) (λ line. after_there i line (start_of i line) refl)

counted_there : (i : Image) (rs : List Record) (h : Option StartRecord) → AllByRecursion (IsThere i) rs → AllByRecursion (IsThere i) (counted_after rs h)
counted_there i rs None each = tt
counted_there i rs (Some h) each = all_filter (IsThere i) (counts h (end_after rs (Some h))) rs each

there_alike : (i : Image) (a b : Record) → IsThere i a → IsThere i b → a.line ≡ b.line → a.at ≡ b.at → a ≡ b
there_alike i a b (s, es, ra) (t, et, rb) lines ats = cc

-- Of two records of one block there is only one.
pub records_alike : (i : Image) (a b : Record) → Contains (records i) a → Contains (records i) b → a.line ≡ b.line → a.at ≡ b.at → a ≡ b
records_alike i a b here there lines ats =
    there_alike i a b (all_contains (IsThere i) (records i) a (records_there i) here) (all_contains (IsThere i) (records i) b (records_there i) there) lines ats

pub counted_alike : (i : Image) (a b : Record) → Contains (counted i) a → Contains (counted i) b → a.line ≡ b.line → a.at ≡ b.at → a ≡ b
counted_alike i a b here there lines ats =
    let each : AllByRecursion (IsThere i) (counted i) = counted_there i (records i) (head i) (records_there i) in
    there_alike i a b (all_contains (IsThere i) (counted i) a each here) (all_contains (IsThere i) (counted i) b each there) lines ats
