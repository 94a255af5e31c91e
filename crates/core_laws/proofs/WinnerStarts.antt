-- Records that count are in lines with a start record.
use Rattle.std.proofs.Common.{◌≡◌, ℕ, Bool, true, false, Some, None, Option, List, [], ◌∷◌, sym, subst, ap, if◌then◌else◌}
use Rattle.std.specs.List.{AllByRecursion, fold, filter}
use Rattle.std.specs.Option.{option_map, option_and_then, is_some, IfSome}
use Rattle.std.proofs.lemmas.Option.{same_Some, none-some}
use Rattle.pblk_model.specs.declared.chunk.Mark.{Mark}
use Rattle.pblk_model.specs.Chunk.{Block}
use Rattle.pblk_model.specs.Image.{Image}
use Rattle.pblk_model.specs.StartRecord.{StartRecord, start_of}
use Rattle.pblk_model.specs.EndRecord.{end_of}
use Rattle.pblk_model.specs.Records.{Record, named, mark_at, bears}
use Rattle.pblk_model.specs.Contents.{counted, newer, is_newer, is_of, winner}
use Rattle.world_laws.proofs.WinnerLines.{HasStart, counted_have_start}
use Rattle.pblk_model.proofs.Maps.{all_filter}

mapped_line : (i : Image) (line seq a : ℕ) (block : Block) (m : Mark) (o : Option (Option ℕ)) (r : Record)
    → option_map (λ lba. record { line = line; seq = seq; at = a; position = m.position; lba = lba; sector = block.sector }) o ≡ Some r → r.line ≡ line
mapped_line i line seq a block m None r e = absurd (none-some r e)
mapped_line i line seq a block m (Some lba) r e =
    ap (λ (x : Record). x.line) (sym (same_Some (record { line = line; seq = seq; at = a; position = m.position; lba = lba; sector = block.sector }) r e))

marked_line : (i : Image) (line seq a : ℕ) (block : Block) (o : Option Mark) (r : Record) → option_and_then (bears i.shape line seq a block) o ≡ Some r
    → r.line ≡ line
marked_line i line seq a block None r e = absurd (none-some r e)
marked_line i line seq a block (Some m) r e = mapped_line i line seq a block m (named i.shape m) r e

pub block_line : (i : Image) (line a : ℕ) (start : StartRecord) (o : Option Block) (r : Record)
    → option_and_then (λ block. option_and_then (bears i.shape line start.seq a block) (mark_at i.shape (end_of i line start) a block)) o ≡ Some r
    → r.line ≡ line
block_line i line a start None r e = absurd (none-some r e)
block_line i line a start (Some block) r e = marked_line i line start.seq a block (mark_at i.shape (end_of i line start) a block) r e

newer_is : (P : Record → Type 0) (best : Option Record) (r : Record) → P r → IfSome best P → IfSome (newer best r) P
newer_is P None r is all = is
newer_is P (Some best) r is all = go (is_newer best r)
  where
    go : (b : Bool) → IfSome (if b then Some r else Some best) P
    go true = is
    go false = all

newest_is : (P : Record → Type 0) (rs : List Record) (best : Option Record) → AllByRecursion P rs → IfSome best P → IfSome (fold newer best rs) P
newest_is P [] best all is = is
newest_is P (r ∷ rs) best all is = newest_is P rs (newer best r) all.1 (newer_is P best r all.0 is)

-- what holds of all records that count holds of the winner
pub winner_is : (i : Image) (P : Record → Type 0) (lba : ℕ) (r : Record) → AllByRecursion P (counted i) → winner (counted i) lba ≡ Some r → P r
winner_is i P lba r all e =
    subst (λ o. IfSome o P) e
    (newest_is P (filter (λ (x : Record). is_of lba x.lba) (counted i)) None (all_filter P (λ (x : Record). is_of lba x.lba) (counted i) all) tt)

pub winner_starts : (i : Image) (lba : ℕ) (r : Record) → winner (counted i) lba ≡ Some r → is_some (start_of i r.line) ≡ true
winner_starts i lba r e = winner_is i (HasStart i) lba r (counted_have_start i) e
