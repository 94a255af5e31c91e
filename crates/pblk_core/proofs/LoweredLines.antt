-- The table of lines and the placer once the entries of a lost stripe have left their line, and
-- wait again.
use Rattle.std.proofs.Common.{◌≡◌, ◌≢◌, ℕ, ◌+◌, ◌≤◌, ◌==◌, ◌&&◌, not, cond, Bool, true, false, if◌then◌else◌, Some, None, Option, List, [], ◌∷◌, length, refl, sym, ap, ap₂, ◌∙◌, arith}
use Rattle.std.specs.List.{AllByRecursion, filter}
use Rattle.std.specs.Prelude.{slice_get, slice_set}
use Rattle.std.specs.Option.{is_some, option_map_or}
use Rattle.std.proofs.lemmas.Option.{slice_get_within}
use Rattle.pblk_model.specs.declared.shape.Shape.{Shape}
use Rattle.pblk_model.specs.Marks.{meta_lba, void_lba}
use Rattle.pblk_model.specs.Records.{named}
use Rattle.pblk_world.specs.Events.{Logged}
use Rattle.pblk_world.specs.EngineLog.{Taken}
use Rattle.core_laws.specs.EntryHolds.{later_take}
use Rattle.core_laws.specs.PlacerOf.{positions_of}
use Rattle.core_laws.proofs.LoweredTables.{counted, counted_by}
use Rattle.line_table.specs.declared.row.Row.{Row}
use Rattle.line_table.specs.Rows.{IsRow, Table, lowered}
use Rattle.line_table.proofs.Places.{get_set_same}
use Rattle.stripe_placer.specs.Placing.{Placing, waits}
use Rattle.core_laws.specs.ChangedTables.{failed, with_row}
use Rattle.core_laws.specs.PlacedEntries.{lower_by, taker_of}
use Rattle.pblk_core.specs.declared.hold.Hold.{Hold}
use Rattle.pblk_core.specs.Holds.{hold_of, row_at}
use Rattle.pblk_core.specs.Losing.{all_wait, is_live, live_among, lower_hold, lowered_lines}
use Rattle.pblk_core.proofs.NotedEntries.{IsLike, row_count, row_elsewhere}
use Rattle.pblk_core.proofs.PlacedEntries.{by_name, later_is_next, taker_by}

lower_row : (line : ℕ) (t : Table) (o : Option Hold) (row : Row) → IsRow t line row → (new : Row) × IsRow (lower_hold line t o) line new × IsLike row new
lower_row line t None row there = (row, there, record { state = refl; width = refl })
lower_row line t (Some h) row there = go (h.mark.lba == void_lba) h.taker
  where
    go : (b : Bool) (o : Option ℕ) → (new : Row) × IsRow (if b then t else lower_by o line t) line new × IsLike row new
    go true o = (row, there, record { state = refl; width = refl })
    go false (Some by) = (row, there, record { state = refl; width = refl })
    go false None = (
      lowered row,
      ap (λ o. slice_get (option_map_or (λ r. slice_set t.rows line (lowered r)) o t.rows) line) there
          ∙ get_set_same t.rows line line (lowered row) refl (slice_get_within t.rows line row there),
      record { state = refl; width = refl },
    )

pub lowered_row : (rows : List Hold) (line : ℕ) (qs : List ℕ) (t : Table) (row : Row) → IsRow t line row
    → (new : Row) × IsRow (lowered_lines rows line t qs) line new × IsLike row new
lowered_row rows line [] t row there = (row, there, record { state = refl; width = refl })
lowered_row rows line (q ∷ qs) t row there =
    let one = lower_row line t (row_at rows q) row there in
    let rest = lowered_row rows line qs (lower_hold line t (row_at rows q)) one.0 one.1 in
    (rest.0, rest.1, record { state = rest.2.state ∙ one.2.state; width = rest.2.width ∙ one.2.width })

pub lowered_shape : (rows : List Hold) (line : ℕ) (qs : List ℕ) (t : Table) → (lowered_lines rows line t qs).shape ≡ t.shape
lowered_shape rows line [] t = refl
lowered_shape rows line (q ∷ qs) t = lowered_shape rows line qs (lower_hold line t (row_at rows q)) ∙ one (row_at rows q)
  where
    unless : (b : Bool) (o : Option ℕ) → (if b then t else lower_by o line t).shape ≡ t.shape
    unless true o = refl
    unless false None = refl
    unless false (Some by) = refl

    one : (o : Option Hold) → (lower_hold line t o).shape ≡ t.shape
    one None = refl
    one (Some h) = unless (h.mark.lba == void_lba) h.taker

pub lowered_length : (rows : List Hold) (line : ℕ) (qs : List ℕ) (t : Table) → length (lowered_lines rows line t qs).rows ≡ length t.rows
lowered_length rows line [] t = refl
lowered_length rows line (q ∷ qs) t = lowered_length rows line qs (lower_hold line t (row_at rows q)) ∙ one (row_at rows q)
  where
    unless : (b : Bool) (o : Option ℕ) → length (if b then t else lower_by o line t).rows ≡ length t.rows
    unless true o = refl
    unless false None = row_count line lowered t
    unless false (Some by) = refl

    one : (o : Option Hold) → length (lower_hold line t o).rows ≡ length t.rows
    one None = refl
    one (Some h) = unless (h.mark.lba == void_lba) h.taker

pub failed_length : (line : ℕ) (t : Table) → length (with_row line failed t).rows ≡ length t.rows
failed_length line t = row_count line failed t

-- ---- other lines have the rows that they had

pub failed_elsewhere : (line other : ℕ) (t : Table) → other ≢ line → slice_get (with_row line failed t).rows other ≡ slice_get t.rows other
failed_elsewhere line other t apart = row_elsewhere line other failed t apart

pub lowered_elsewhere : (rows : List Hold) (line other : ℕ) (qs : List ℕ) (t : Table) → other ≢ line
    → slice_get (lowered_lines rows line t qs).rows other ≡ slice_get t.rows other
lowered_elsewhere rows line other [] t apart = refl
lowered_elsewhere rows line other (q ∷ qs) t apart =
    lowered_elsewhere rows line other qs (lower_hold line t (row_at rows q)) apart ∙ one (row_at rows q)
  where
    unless : (b : Bool) (o : Option ℕ) → slice_get (if b then t else lower_by o line t).rows other ≡ slice_get t.rows other
    unless true o = refl
    unless false None = row_elsewhere line other lowered t apart
    unless false (Some by) = refl

    one : (o : Option Hold) → slice_get (lower_hold line t o).rows other ≡ slice_get t.rows other
    one None = refl
    one (Some h) = unless (h.mark.lba == void_lba) h.taker

-- ---- entries that wait again leave the units and the pad target

pub wait_units : (p : Placing) (qs : List ℕ) → (all_wait p qs).units ≡ p.units
wait_units p [] = refl
wait_units p (q ∷ qs) = wait_units (waits p q true) qs

pub wait_pad : (p : Placing) (qs : List ℕ) → (all_wait p qs).entries.pad ≡ p.entries.pad
wait_pad p [] = refl
wait_pad p (q ∷ qs) = wait_pad (waits p q true) qs

-- ---- how many of the entries are live

-- as many as came with them
pub live_counted : (s : Shape) (log : List Logged) (rows : List Hold) (ts : List Taken) → s.capacity ≤ meta_lba
    → AllByRecursion (λ (t : Taken). is_some (named s t.mark) ≡ true) ts
    → AllByRecursion (λ (t : Taken). row_at rows t.entry.position ≡ Some (hold_of s log t)) ts
    → live_among rows (positions_of ts) ≡ counted log s.capacity ts
unfolding counted
live_counted s log rows [] small names all = refl
live_counted s log rows (t ∷ ts) small names all =
    let n : ℕ = length (filter (λ q. option_map_or is_live (row_at rows q) false) (positions_of ts)) in
    ap (λ o. length (cond (option_map_or is_live o false) (t.entry.position ∷ filter (λ q. option_map_or is_live (row_at rows q) false) (positions_of ts))
    (filter (λ q. option_map_or is_live (row_at rows q) false) (positions_of ts)))) all.0
    ∙ by_void (t.mark.lba == void_lba) (later_take log t) n (filter (λ q. option_map_or is_live (row_at rows q) false) (positions_of ts)) refl
    ∙ ap₂ (λ a b. a + b)
    (ap (λ o. if t.mark.lba == void_lba then 0 else counted_by (taker_by o)) (later_is_next log t)
    ∙ sym (by_name s t (counted_by (taker_of log t)) 0 small names.0))
    (live_counted s log rows ts small names.1 all.1)
  where
    by_void : (b : Bool) (o : Option Taken) (n : ℕ) (qs : List ℕ) → length qs ≡ n
        → length (cond (not b && not (is_some (if b then None else taker_by o))) (t.entry.position ∷ qs) qs) ≡ (if b then 0 else counted_by (taker_by o)) + n
    by_void true o n qs long = omega (arith, long)
    by_void false None n qs long = omega (arith, long)
    by_void false (Some u) n qs long = omega (arith, long)
