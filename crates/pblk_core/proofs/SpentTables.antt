-- A line is spent by what a core keeps exactly where it is by the logs. So a core tells which lines
-- may be freed.
use Rattle.std.proofs.Common.{◌≡◌, ℕ, ◌+◌, ◌<◌, ◌≤◌, Bool, true, false, Some, None, Option, length, refl, sym, subst, ap, ◌∙◌, arith, if◌then◌else◌}
use Rattle.std.specs.Prelude.{◌↔◌, IsTrue, slice_get}
use Rattle.std.specs.List.{filter, last_or}
use Rattle.std.specs.Option.{option_map, option_map_or}
use Rattle.std.proofs.lemmas.Option.{none-some, same_Some, slice_get_within}
use Rattle.std.proofs.lemmas.List.FromFn.{length-map-range_with_len}
use Rattle.pblk_model.specs.declared.shape.Shape.{Shape}
use Rattle.pblk_model.specs.Image.{Image}
use Rattle.pblk_world.specs.EngineLog.{AsFound, Freed, LineLife, life_of, Opened, Taken, takes}
use Rattle.pblk_world.specs.Freeing.{MayFree}
use Rattle.pblk_world.specs.Fronts.{synced}
use Rattle.pblk_world.specs.Starts.{seq_in, seq_of}
use Rattle.pblk_world.specs.Victims.{live, taken_up_to, took_from}
use Rattle.pblk_world.specs.World.{World, Logs, log_of}
use Rattle.line_table.specs.declared.row.Row.{Row}
use Rattle.line_table.specs.Rows.{IsRow, Table}
use Rattle.pblk_world.specs.LegalMounts.{IsLegalMount}
use Rattle.write_window.specs.Window as view
use Rattle.core_laws.specs.ClosedLines.{ClosedLine, IsSpentBy, StartNumbers, closed_line}
use Rattle.core_laws.specs.RowsOf.{row_of_line, taker_by, taker_in}
use Rattle.core_laws.proofs.FreeLines.{may_free}
use Rattle.core_laws.proofs.PlacedLines.{get_row as row_there}
use Rattle.core_laws.proofs.VictimsAtWork.{over_where_closed}
use Rattle.core_laws.proofs.SpentLines.{is_spent as spent_may}
use Rattle.pblk_core.specs.declared.line_notes.LineNote.{LineNote}
use Rattle.pblk_core.specs.declared.line_notes.StartNote.{StartNote}
use Rattle.pblk_core.specs.declared.target_core.Core.{Core}
use Rattle.pblk_core.specs.Freeing.{IsSpentIn}
use Rattle.pblk_core.specs.LineNotes.{IsSpentNote, IsTakenBelow, closed_by, numbers_in}
use Rattle.pblk_core.specs.Stands.{IsStanding, Stands}
use Rattle.core_laws.proofs.SpentBy.{is_spent, spent_by}
use Rattle.core_laws.proofs.VictimsAtWork.{over_where_closed}
use Rattle.pblk_core.proofs.StandsLemmas.{synced_stands}
use Rattle.pblk_model.proofs.Parts.{got_within}

-- ---- what took a sector from the line last

taken_below : (front : ℕ) (o : Option Taken) → option_map_or (λ (t : Taken). t.entry.position + 1) o 0 ≤ front
    → IsTakenBelow front (option_map (λ (t : Taken). t.entry.position) o)
taken_below front None low = tt
taken_below front (Some t) low = omega arith

below_taken : (front : ℕ) (o : Option Taken) → IsTakenBelow front (option_map (λ (t : Taken). t.entry.position) o)
    → option_map_or (λ (t : Taken). t.entry.position + 1) o 0 ≤ front
below_taken front None low = omega arith
below_taken front (Some t) low = omega arith

-- ---- what a note says of its line

record IsNoteOfClosed (row : LineNote) (c : ClosedLine) : Type 0 where
  closed : row.closed ≡ true
  seq : row.seq ≡ c.seq
  top : row.top ≡ c.top

closed_note : (row : LineNote) (c : ClosedLine) → closed_by row ≡ Some c → IsNoteOfClosed row c
closed_note row c is = go row.closed refl is
  where
    go : (b : Bool) → row.closed ≡ b → (if b then Some (record { seq = row.seq; top = row.top }) else None) ≡ Some c → IsNoteOfClosed row c
    go true e f =
        let same : record { seq = row.seq; top = row.top } ≡ c = same_Some (record { seq = row.seq; top = row.top }) c f in
        record { closed = e; seq = ap (λ (x : ClosedLine). x.seq) same; top = ap (λ (x : ClosedLine). x.top) same }
    go false e f = absurd (none-some c f)

note_closed_by : (row : LineNote) → row.closed ≡ true → closed_by row ≡ Some (record { seq = row.seq; top = row.top })
note_closed_by row e = ap (λ b. if b then Some (record { seq = row.seq; top = row.top }) else None) e

start_note : (o : Option StartNote) (n : StartNumbers) → option_map numbers_in o ≡ Some n → (start : StartNote) × (o ≡ Some start) × (numbers_in start ≡ n)
start_note None n is = absurd (none-some n is)
start_note (Some start) n is = (start, refl, same_Some (numbers_in start) n is)

-- ---- what a core tells of a line

-- its tables have a row of each line
pub record HasRows (c : Core) : Type 0 where
  pub lines : length c.lines.rows ≡ c.layout.chunks
  pub notes : length c.notes.rows.items ≡ c.layout.chunks

pub rows_standing : (c : Core) → IsStanding c → HasRows c
rows_standing c standing =
    let st = standing.stands in
    let chunks : standing.image.shape.chunks ≡ c.layout.chunks = ap (λ (s : Shape). s.chunks) (sym st.layout) in
    record {
      lines = ap (λ (t : Table). length t.rows) st.table
          ∙ length-map-range_with_len (row_of_line standing.image (log_of standing.world)) 0 standing.image.shape.chunks ∙ chunks;
      notes = st.notes.count ∙ chunks;
    }

spent_same : (row : LineNote) (newest : Option StartNote) (l m : ℕ) (t u : Option ℕ) (a b : ℕ) → l ≡ m → t ≡ u → a ≡ b
    → IsSpentNote row newest l t a → IsSpentNote row newest m u b
spent_same row newest l m t u a b live taker front spent =
    subst (IsSpentNote row newest m u) front (subst (λ x. IsSpentNote row newest m x a) taker (subst (λ x. IsSpentNote row newest x t a) live spent))

pub spent_told : (c : Core) (line : ℕ) (told : Bool) (live : ℕ) (taker : Option ℕ) (front : ℕ) → front ≡ (view.synced c.window).position
    → line < length c.lines.rows → line < length c.notes.rows.items
    → ((row : Row) → IsRow c.lines line row → live ≡ row.live) → ((row : Row) → IsRow c.lines line row → taker ≡ row.taker)
    → ((row : LineNote) → slice_get c.notes.rows.items line ≡ Some row → IsTrue told ↔ IsSpentNote row c.notes.newest live taker front)
    → IsTrue told ↔ IsSpentIn c line
spent_told c line told live taker front synced inside noted lives takers tells =
    let row = got_within c.lines.rows line inside in
    let note = got_within c.notes.rows.items line noted in (
      λ yes. record {
        note = note.0;
        is_note = note.1;
        row = row.0;
        is_row = row.1;
        spent = spent_same note.0 c.notes.newest live row.0.live taker row.0.taker front (view.synced c.window).position (lives row.0 row.1)
            (takers row.0 row.1) synced ((tells note.0 note.1).0 yes);
      },
      λ spent. (tells spent.note spent.is_note).1
          (spent_same spent.note c.notes.newest spent.row.live live spent.row.taker taker (view.synced c.window).position front
          (sym (lives spent.row spent.is_row)) (sym (takers spent.row spent.is_row)) (sym synced) spent.spent),
    )

-- the row of a line
pub row_stands : {c : Core} (i : Image) (logs : Logs) → Stands i logs c → (line : ℕ) → line < i.shape.chunks → IsRow c.lines line (row_of_line i logs line)
row_stands i logs st line inside =
    let from : 0 + line ≡ line = omega arith in
    ap (λ (t : Table). slice_get t.rows line) st.table ∙ row_there (row_of_line i logs) i.shape.chunks 0 line inside
    ∙ ap (λ n. Some (row_of_line i logs n)) from

-- a line with a sequence number wasn't freed
pub taker_numbered : (i : Image) (logs : Logs) (line seq : ℕ) → seq_of i logs line ≡ Some seq
    → taker_in i logs line (life_of (logs 0) line) ≡ taker_by i logs line
taker_numbered i logs line seq has = go (life_of (logs 0) line) has
  where
    go : (life : LineLife) → seq_in i logs life line ≡ Some seq → taker_in i logs line life ≡ taker_by i logs line
    go AsFound e = refl
    go (Opened o) e = refl
    go (Freed was knows) e = absurd (none-some seq e)

module _ {c : Core} (i : Image) (w : World) (mount : IsLegalMount i w) (st : Stands i (log_of w) c) (line : ℕ) where
  front_is : (view.synced c.window).position ≡ synced i.shape (log_of w 0)
  front_is = ap (λ f. f.position) (synced_stands i w c mount st)

  pub its_row : line < i.shape.chunks → IsRow c.lines line (row_of_line i (log_of w) line)
  its_row inside = row_stands i (log_of w) st line inside

  spent_in : IsSpentBy i (log_of w) line → IsSpentIn c line
  spent_in by =
      let count : length c.notes.rows.items ≡ i.shape.chunks = st.notes.count in
      let inside : line < i.shape.chunks = by.in_range in
      let there = got_within c.notes.rows.items line (omega arith) in
      let note = closed_note there.0 by.closed (st.notes.closed line there.0 there.1 ∙ by.is_closed) in
      let start = start_note c.notes.newest by.newest (st.notes.newest ∙ by.is_newest) in
      record {
        note = there.0;
        is_note = there.1;
        row = row_of_line i (log_of w) line;
        is_row = its_row inside;
        spent = record {
          closed = note.closed;
          start = start.0;
          is_newest = start.1;
          older =
              let low : by.closed.seq < by.newest.seq = by.older in
              let own = note.seq in
              let other : start.0.seq ≡ by.newest.seq = ap (λ (n : StartNumbers). n.seq) start.2 in
              omega arith;
          below_front =
              let low : by.closed.top ≤ by.newest.front = by.below_front in
              let own = note.top in
              let other : start.0.front ≡ by.newest.front = ap (λ (n : StartNumbers). n.front) start.2 in
              omega arith;
          none_live = by.none_live;
          taken = subst (IsTakenBelow (view.synced c.window).position)
              (sym (taker_numbered i (log_of w) line by.closed.seq (over_where_closed i (log_of w) line by.closed by.is_closed).1))
              (taken_below (view.synced c.window).position (last_or None (filter (took_from i (log_of w) line) (takes (log_of w 0))))
              (subst (λ front. taken_up_to i (log_of w) line ≤ front) (sym front_is) by.takers_synced));
        };
      }

  -- by its note it is closed
  pub closed_where_spent : (spent : IsSpentIn c line) → closed_line i (log_of w) line ≡ Some (record { seq = spent.note.seq; top = spent.note.top })
  closed_where_spent spent = sym (st.notes.closed line spent.note spent.is_note) ∙ note_closed_by spent.note spent.spent.closed

  spent_here : IsSpentIn c line → IsSpentBy i (log_of w) line
  spent_here spent =
      let note : LineNote = spent.note in
      let row : Row = spent.row in
      let s = spent.spent in
      let count : length c.notes.rows.items ≡ i.shape.chunks = st.notes.count in
      let within : line < length c.notes.rows.items = slice_get_within c.notes.rows.items line note spent.is_note in
      let inside : line < i.shape.chunks = omega arith in
      let same : row_of_line i (log_of w) line ≡ row =
      same_Some (row_of_line i (log_of w) line) row (sym (its_row inside) ∙ spent.is_row) in
      let closed : closed_line i (log_of w) line ≡ Some (record { seq = note.seq; top = note.top }) = closed_where_spent spent in
      record {
        in_range = inside;
        closed = record { seq = note.seq; top = note.top };
        is_closed = closed;
        newest = numbers_in s.start;
        is_newest = sym st.notes.newest ∙ ap (option_map numbers_in) s.is_newest;
        older = s.older;
        below_front = s.below_front;
        none_live = ap (λ (r : Row). r.live) same ∙ s.none_live;
        takers_synced = subst (λ front. taken_up_to i (log_of w) line ≤ front) front_is
            (below_taken (view.synced c.window).position (last_or None (filter (took_from i (log_of w) line) (takes (log_of w 0))))
            (subst (IsTakenBelow (view.synced c.window).position) (taker_numbered i (log_of w) line note.seq (over_where_closed i (log_of w) line _ closed).1)
            (subst (λ (r : Row). IsTakenBelow (view.synced c.window).position r.taker) (sym same) s.taken)));
      }

  -- ---- so a core tells which lines may be freed

  pub spent_where_freed : MayFree i (log_of w) line → IsSpentIn c line
  spent_where_freed may = spent_in (spent_by i (log_of w) line (spent_may i w mount line may))

  pub freed_where_spent : IsSpentIn c line → MayFree i (log_of w) line
  freed_where_spent spent = may_free i w mount st.beginning st.has_begun st.full line (is_spent i (log_of w) line (spent_here spent))
