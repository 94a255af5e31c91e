-- The lines in which sectors are live are lines of the drive.
use Rattle.std.proofs.Common.{◌≡◌, ℕ, ◌+◌, ◌<◌, ◌&&◌, not, Bool, true, false, Some, None, Option, List, [], ◌∷◌, refl, sym, subst, ap, arith, if◌then◌else◌}
use Rattle.std.specs.List.{AllByRecursion, find, flat_map, range_with_len}
use Rattle.std.specs.Option.{option_map, option_and_then}
use Rattle.std.proofs.lemmas.Option.{same_Some, none-some}
use Rattle.pblk_model.specs.Image.{Image}
use Rattle.pblk_model.specs.StartRecord.{StartRecord, start_of}
use Rattle.pblk_model.specs.Records.{Record, record_at, records_after, line_records, records}
use Rattle.pblk_model.specs.Contents.{head, end_after, counts, counted_after, counted, winner}
use Rattle.pblk_world.specs.World.{Logs}
use Rattle.pblk_world.specs.EngineLog.{Begun, begun, life_of, is_as_found, Placed, placements, was_lost, holds_position, Taken}
use Rattle.pblk_world.specs.Lines.{found_by, found_image}
use Rattle.pblk_world.specs.Victims.{is_in_force, line_of}
use Rattle.core_laws.proofs.StripesByPlace.{find_all}
use Rattle.core_laws.proofs.Opening.{all_made}
use Rattle.core_laws.specs.InOrder.{IsInPlace}
use Rattle.core_laws.proofs.ChangedTables.{range_below}
use Rattle.core_laws.proofs.WinnerStarts.{block_line, winner_is}
use Rattle.pblk_model.proofs.Lists.{all_append, all_imply}
use Rattle.pblk_model.proofs.Maps.{all_filter}

-- ---- records that count

lines_of : (i : Image) (line : ℕ) (o : Option StartRecord) → AllByRecursion (λ (r : Record). r.line ≡ line) (records_after i line o)
lines_of i line None = tt
lines_of i line (Some start) = all_made (record_at i line start) (λ (r : Record). r.line ≡ line) (λ a r h. block_line i line a start _ r h) (range_with_len 0 _)

all_lines : (i : Image) (n : ℕ) (lines : List ℕ) → AllByRecursion (λ line. line < n) lines
    → AllByRecursion (λ (r : Record). r.line < n) (flat_map (line_records i) lines)
all_lines i n [] all = tt
all_lines i n (line ∷ lines) all = all_append (λ (r : Record). r.line < n) (line_records i line) (flat_map (line_records i) lines)
    (all_imply (λ (r : Record). r.line ≡ line) (λ (r : Record). r.line < n) (λ r e. subst (λ m. m < n) (sym e) all.0) (line_records i line)
    (lines_of i line (start_of i line)))
    (all_lines i n lines all.1)

counted_inside : (i : Image) (o : Option StartRecord) → AllByRecursion (λ (r : Record). r.line < 0 + i.shape.chunks) (counted_after (records i) o)
counted_inside i None = tt
counted_inside i (Some h) = all_filter (λ (r : Record). r.line < 0 + i.shape.chunks) (counts h (end_after (records i) (Some h))) (records i)
    (all_lines i (0 + i.shape.chunks) (range_with_len 0 i.shape.chunks) (range_below 0 i.shape.chunks))

winner_inside : (i : Image) (lba : ℕ) (r : Record) → winner (counted i) lba ≡ Some r → r.line < 0 + i.shape.chunks
winner_inside i lba r e = winner_is i (λ (x : Record). x.line < 0 + i.shape.chunks) lba r (counted_inside i (head i)) e

-- ---- lines of sectors

same_shape : (i : Image) (logs : Logs) → (found_image i logs).shape ≡ i.shape
same_shape i logs = go (begun (logs 0))
  where
    go : (b : Option Begun) → (found_by i logs b).shape ≡ i.shape
    go None = refl
    go (Some b) = refl

only_if : (b : Bool) (m n : ℕ) → (if b then Some m else None) ≡ Some n → m ≡ n
only_if true m n e = same_Some m n e
only_if false m n e = absurd (none-some n e)

pub line_in_range : (i : Image) (logs : Logs) (lba : ℕ) (t : Option Taken) (line : ℕ) → AllByRecursion (IsInPlace i (logs 0)) (placements (logs 0))
    → line_of i logs lba t ≡ Some line → line < i.shape.chunks
line_in_range i logs lba None line all e = go (winner (counted (found_image i logs)) lba) refl e
  where
    go : (o : Option Record) → winner (counted (found_image i logs)) lba ≡ o
        → option_and_then (λ (r : Record). if is_as_found (life_of (logs 0) r.line) then Some r.line else None) o ≡ Some line → line < i.shape.chunks
    go None is f = absurd (none-some line f)
    go (Some r) is f =
        let same : r.line ≡ line = only_if (is_as_found (life_of (logs 0) r.line)) r.line line f in
        let inside : r.line < 0 + (found_image i logs).shape.chunks = winner_inside (found_image i logs) lba r is in
        let shape : (found_image i logs).shape.chunks ≡ i.shape.chunks = ap (λ s. s.chunks) (same_shape i logs) in
        omega arith
line_in_range i logs lba (Some t) line all e =
    go (find (λ (p : Placed). holds_position i.shape t.entry.position p && not (was_lost (logs 0) p) && is_in_force (logs 0) p.life p.stripe.line)
    (placements (logs 0))) refl e
  where
    go : (o : Option Placed) → find
        (λ (p : Placed). holds_position i.shape t.entry.position p && not (was_lost (logs 0) p) && is_in_force (logs 0) p.life p.stripe.line)
        (placements (logs 0)) ≡ o
        → option_map (λ (p : Placed). p.stripe.line) o ≡ Some line → line < i.shape.chunks
    go None is f = absurd (none-some line f)
    go (Some p) is f =
        subst (λ n. n < i.shape.chunks) (same_Some p.stripe.line line f)
        (find_all (IsInPlace i (logs 0))
        (λ (p : Placed). holds_position i.shape t.entry.position p && not (was_lost (logs 0) p) && is_in_force (logs 0) p.life p.stripe.line)
        (placements (logs 0)) p is all).in_range
