-- A core that freed a line stands for the log with that.
use Rattle.std.proofs.Common.{◌≡◌, ℕ, ◌+◌, ◌<◌, ◌≤◌, ◌^◌, ◌==◌, not, nat_eq, Bool, true, false, Some, None, List, [], ◌∷◌, ◌++◌, length, refl, sym, subst, ap, ap₂, ◌∙◌, arith}
use Rattle.std.specs.Prelude.{slice_get, slice_index, slice_set}
use Rattle.std.specs.List.{AllByRecursion, filter, range_with_len, slice_index_or}
use Rattle.std.specs.Option.{option_map}
use Rattle.std.specs.FinMap as fin
use Rattle.std.proofs.lemmas.Bool.{eqb-false, eqb-true}
use Rattle.std.proofs.lemmas.Option.{none-some, same_Some}
use Rattle.pblk_model.specs.Image.{Image}
use Rattle.pblk_model.specs.StartRecord.{Row as OlderRow}
use Rattle.pblk_meta.specs.Records.{start_numbers}
use Rattle.pblk_layout.specs.Online.{units_in}
use Rattle.pblk_world.specs.EngineLog.{Taken}
use Rattle.pblk_world.specs.Events.{Decides, Free, Logged}
use Rattle.pblk_world.specs.Freeing.{MayFree}
use Rattle.pblk_world.specs.Fronts.{first_position, is_users}
use Rattle.pblk_world.specs.Lines.{known_image}
use Rattle.pblk_world.specs.Space.{freed}
use Rattle.pblk_world.specs.World.{World, Logs, log_of}
use Rattle.line_table.specs.declared.row.LineState.TheVariants as states
use Rattle.line_table.specs.declared.row.Row.{Row}
use Rattle.line_table.specs.Rows.{Changes, IsRow, turned}
use Rattle.pblk_world.specs.LegalMounts.{IsLegalMount}
use Rattle.write_window.specs.Window as view
use Rattle.core_laws.specs.ChangedTables.{with_row}
use Rattle.core_laws.specs.ClosedLines.{ClosedLine, closed_line}
use Rattle.core_laws.specs.OpenedLines.{online_now}
use Rattle.core_laws.specs.PlacerOf.{placing_of}
use Rattle.core_laws.specs.RowsOf.{row_of_line}
use Rattle.core_laws.specs.Stepping.{after}
use Rattle.core_laws.specs.WindowOf.{sectors_in, window_from}
use Rattle.core_laws.proofs.ChangedTables.{changed_is}
use Rattle.core_laws.proofs.ClosedKept.{closed_beside, closed_freed}
use Rattle.core_laws.proofs.FreedLines.{left_freed, open_freed, placing_freed}
use Rattle.core_laws.proofs.FreedLives.{free_is_quiet, known_freed, life_beside, life_freed, openings_freed, slot_freed, units_freed, window_freed}
use Rattle.core_laws.proofs.FreedOlder.{older_freed}
use Rattle.core_laws.proofs.FreedRows.{rows_freed}
use Rattle.core_laws.proofs.FreedWidths.{numbered_width}
use Rattle.core_laws.proofs.KeptRows.{begun_kept}
use Rattle.core_laws.proofs.PlacedFront.{front_kept}
use Rattle.core_laws.proofs.PlacedLines.{get_row as row_there}
use Rattle.core_laws.proofs.QuietEvents.{IsQuiet, quiet_alike, quiet_takes}
use Rattle.core_laws.proofs.Steady.{AreAlike}
use Rattle.core_laws.proofs.TakenNumbers.{first_stays}
use Rattle.pblk_core.specs.declared.line_notes.LineNote.{LineNote}
use Rattle.pblk_core.specs.declared.resets.LineChunk.{LineChunk}
use Rattle.pblk_core.specs.declared.target_core.Core.{Core}
use Rattle.pblk_core.specs.Freeing.{IsSpentIn}
use Rattle.pblk_core.specs.LineNotes.{AreNotes, note_freed, numbers_in}
use Rattle.pblk_core.specs.Resets.{GetsChunks, in_line, resets_left, resets_of, used_in, used_units}
use Rattle.pblk_core.specs.Stands.{AreHolds, AreOpenLines, IsOlder, Stands}
use Rattle.pblk_core.proofs.AnswerCounts.{counts_same}
use Rattle.pblk_core.proofs.FreedResets.{resets_freed}
use Rattle.pblk_core.proofs.FullOpenings.{full_kept}
use Rattle.pblk_core.proofs.LineBits.{bits_width}
use Rattle.core_laws.proofs.NewestStarts.{left_kept, newest_kept}
use Rattle.core_laws.proofs.AnsweredTops.{top_kept}
use Rattle.pblk_core.proofs.NotesSet.{notes_set}
use Rattle.pblk_core.proofs.SpentTables.{closed_where_spent, freed_where_spent, its_row}
use Rattle.pblk_core.proofs.StandsOpened.{quiet_freed, quiet_holds}
use Rattle.pblk_core.proofs.SteadyLines.{open_lines_left, under_way_same}
use Rattle.pblk_model.proofs.Maps.{all_filter, map_same}

-- what a core's fields are once it freed a line
pub record IsFreedInto (old new : Core) (line : ℕ) : Type 0 where
  pub layout : new.layout ≡ old.layout
  pub map : new.map ≡ old.map
  pub window : new.window ≡ old.window
  pub placer : new.placer ≡ old.placer
  pub holds : new.holds ≡ old.holds
  pub open_same : new.open ≡ old.open
  pub online : new.online.items ≡ old.online.items
  pub lines : (live : ℕ) → slice_get old.online.items line ≡ Some live
      → Changes old.lines new.lines line (turned states.Freed (length (units_in live)))
  pub resets : GetsChunks (resets_left old.resets) (resets_left new.resets) line (units_in (used_in old.resets line))
  pub used : new.resets.used ≡ old.resets.used
  pub notes : (row : LineNote) → slice_get old.notes.rows.items line ≡ Some row
      → new.notes.rows.items ≡ slice_set old.notes.rows.items line (note_freed row)
  pub newest : new.notes.newest ≡ old.notes.newest
  pub seq : new.start.seq ≡ old.start.seq
  pub first_seq : new.start.first_seq ≡ old.start.first_seq
  pub own_capacity : new.start.capacity ≡ old.start.capacity
  pub older : (start_numbers new.start).rows ≡ filter (λ (row : OlderRow). not (row.line == line)) (start_numbers old.start).rows
  pub first : new.first ≡ old.first
  pub placed : new.placed ≡ old.placed
  pub left : new.left ≡ old.left
  pub under_way : new.under_way ≡ old.under_way
  pub answers : new.answers.items ≡ old.answers.items
  pub users : new.users ≡ old.users

-- ---- chunks that come to a list come to one place of it

parts_same : (line : ℕ) (f g b d : List LineChunk) → f ++ b ≡ g ++ d
    → AllByRecursion (λ (c : LineChunk). c.line < line) f → AllByRecursion (λ (c : LineChunk). c.line < line) g
    → AllByRecursion (λ (c : LineChunk). line < c.line) b → AllByRecursion (λ (c : LineChunk). line < c.line) d
    → (f ≡ g) × (b ≡ d)
parts_same line [] [] b d e low less high more = (refl, e)
parts_same line [] (y ∷ g) [] d e low less high more = absurd cc
parts_same line [] (y ∷ g) (x ∷ b) d e low less high more =
    let same : x ≡ y = cc in
    let up : line < x.line = high.0 in
    let down : y.line < line = less.0 in
    let level : x.line ≡ y.line = ap (λ (c : LineChunk). c.line) same in
    absurd (omega arith)
parts_same line (x ∷ f) [] b [] e low less high more = absurd cc
parts_same line (x ∷ f) [] b (y ∷ d) e low less high more =
    let same : x ≡ y = cc in
    let down : x.line < line = low.0 in
    let up : line < y.line = more.0 in
    let level : x.line ≡ y.line = ap (λ (c : LineChunk). c.line) same in
    absurd (omega arith)
parts_same line (x ∷ f) (y ∷ g) b d e low less high more =
    let same : x ≡ y = cc in
    let rest : f ++ b ≡ g ++ d = cc in
    let parts = parts_same line f g b d rest low.1 less.1 high more in
    (ap₂ (λ c cs. c ∷ cs) same parts.0, parts.1)

gets_same : (old a b : List LineChunk) (line : ℕ) (us : List ℕ) → GetsChunks old a line us → GetsChunks old b line us → a ≡ b
gets_same old a b line us x y =
    let parts = parts_same line x.front y.front x.back y.back (sym x.was ∙ y.was) x.below y.below x.above y.above in
    x.is ∙ ap₂ (λ f d. f ++ in_line line us ++ d) parts.0 parts.1 ∙ sym y.is

-- ---- the core

pub freed_stands : (i : Image) (w : World) (line : ℕ) (knows : List ℕ) (old new : Core) → IsLegalMount i w → Stands i (log_of w) old
    → IsSpentIn old line → slice_index knows 0 ≡ length (log_of w 0) → IsFreedInto old new line → Stands i (after (log_of w) (Free line) knows) new
freed_stands i w line knows old new mount st spent own is = record {
  layout = is.layout ∙ st.layout;
  beginning = st.beginning;
  has_begun = begun_kept (log_of w 0) (Free line) knows refl ∙ st.has_begun;
  capacity = ap fin.len is.map ∙ st.capacity;
  slots = λ x within. ap (λ m. fin.get m x) is.map ∙ st.slots x within ∙ ap Some (sym (slot_freed i (log_of w) line knows x));
  table = changed_is old.lines new.lines line (λ (row : Row). turned states.Freed row.width row) (row_of_line i (log_of w) line)
      (its_row i w mount st line inside) its_change
      ∙ ap (with_row line (λ (row : Row). turned states.Freed row.width row)) st.table
      ∙ sym (rows_freed i w mount line knows own st.beginning st.has_begun may);
  units = is.online ∙ st.units ∙ map_same (online_now i (log_of w)) (online_now i new_logs) (λ m. sym (units_freed i (log_of w) line knows m))
      (range_with_len 0 i.shape.chunks);
  resets = gets_same (resets_of i (log_of w)) (resets_left new.resets) (resets_of i new_logs) line (used_units (known_image i (log_of w)) line)
      (subst (λ us. GetsChunks (resets_of i (log_of w)) (resets_left new.resets) line us) its_used
      (subst (λ cs. GetsChunks cs (resets_left new.resets) line (units_in (used_in old.resets line))) st.resets is.resets))
      (resets_freed i w mount line st.beginning st.has_begun knows may.seq may.has_seq inside);
  used_lines = ap length is.used ∙ st.used_lines;
  used = λ other c closed. used_now other c closed (nat_eq other line) refl;
  notes = notes_now;
  size = ap (λ v. v.size) is.window ∙ st.size;
  window = ap sectors_in is.window ∙ st.window ∙ sym (window_freed i.shape (log_of w) line knows old.window.freed)
      ∙ ap (λ (v : view.WindowView). window_from i.shape (new_logs 0) v.freed) (sym is.window);
  from_first = subst (λ v. first_position (new_logs 0) ≤ v.freed) (sym is.window) (subst (λ p. p ≤ old.window.freed) (sym first_is) st.from_first);
  to_freed =
      let rises : freed i.shape (log_of w 0) ≤ freed i.shape (new_logs 0) = quiet_freed i.shape (log_of w 0) (Free line) knows quiet first_is in
      let low : old.window.freed ≤ freed i.shape (log_of w 0) = st.to_freed in
      subst (λ v. v.freed ≤ freed i.shape (new_logs 0)) (sym is.window) (omega arith);
  holds = subst (AreHolds i.shape (new_logs 0)) (sym is.holds) (quiet_holds i.shape (log_of w 0) (Free line) knows old.holds quiet st.holds);
  again = st.again;
  placing = is.placer ∙ st.placing ∙ sym (placing_freed i w mount line knows may.over old.placer.entries.pad st.again)
      ∙ ap (λ p. placing_of i new_logs p.entries.pad st.again) (sym is.placer);
  open_lines = subst (AreOpenLines i new_logs) (sym is.open_same)
      (open_lines_left i (log_of w) (Free line) knows old.open alike (left_freed i w mount line knows may.over) st.open_lines);
  next_seq = is.seq ∙ st.next_seq ∙ ap (λ n. st.beginning.beginning.seq + n) (sym (ap length (openings_freed (log_of w 0) line knows)));
  first_seq = is.first_seq ∙ st.first_seq;
  own_capacity = is.own_capacity ∙ st.own_capacity;
  older = is.older ∙ ap (filter (λ (row : OlderRow). not (row.line == line))) st.older ∙ sym (older_freed i (log_of w) line knows);
  fits = record {
    first = subst (λ n. n ≤ 2 ^ 62) (sym is.first) st.fits.first;
    rows = subst (λ n. AllByRecursion (IsOlder new.start.first_seq n) (start_numbers new.start).rows) (sym is.first)
        (subst (λ n. AllByRecursion (IsOlder n old.first) (start_numbers new.start).rows) (sym is.first_seq)
        (subst (AllByRecursion (IsOlder old.start.first_seq old.first)) (sym is.older)
        (all_filter (IsOlder old.start.first_seq old.first) (λ (row : OlderRow). not (row.line == line)) (start_numbers old.start).rows st.fits.rows)));
  };
  first = is.first ∙ st.first ∙ sym first_is;
  placed = ap₂ (λ a b. a + b) is.first is.placed ∙ st.placed ∙ sym (front_kept i.shape (log_of w 0) (Free line) knows refl);
  left = is.left ∙ st.left ∙ sym (open_freed i w mount line knows may.over);
  in_flight = is.under_way ∙ st.in_flight ∙ under_way_same i.shape (log_of w 0) (new_logs 0) alike;
  answers = is.answers ∙ st.answers ∙ counts_same i.shape (log_of w 0) (new_logs 0) alike;
  full = full_kept i (log_of w) (Free line) knows refl st.full;
  users = is.users ∙ st.users ∙ ap (λ ts. length (filter (λ (t : Taken). is_users t.entry.source) ts)) (sym (quiet_takes (log_of w 0) (Free line) knows quiet));
}
  where
    l : Logged
    l = record { event = Decides (Free line); knows = knows }

    new_logs : Logs
    new_logs = after (log_of w) (Free line) knows

    may : MayFree i (log_of w) line
    may = freed_where_spent i w mount st line spent

    inside : line < i.shape.chunks
    inside = may.in_range

    quiet : IsQuiet (log_of w 0) (Free line) knows
    quiet = free_is_quiet (log_of w 0) line knows

    alike : AreAlike (log_of w 0) (after (log_of w) (Free line) knows 0)
    alike = quiet_alike (log_of w 0) (Free line) knows quiet

    first_is : first_position (after (log_of w) (Free line) knows 0) ≡ first_position (log_of w 0)
    first_is = first_stays (log_of w 0) l st.beginning st.has_begun

    from : 0 + line ≡ line
    from = omega arith

    live_there : slice_get old.online.items line ≡ Some (online_now i (log_of w) line)
    live_there = ap (λ us. slice_get us line) st.units ∙ row_there (online_now i (log_of w)) i.shape.chunks 0 line inside
        ∙ ap (λ n. Some (online_now i (log_of w) n)) from

    -- ---- its row

    its_change : Changes old.lines new.lines line (λ (row : Row). turned states.Freed row.width row)
    its_change =
        let turn = is.lines (online_now i (log_of w) line) live_there in
        record {
          shape = turn.shape;
          lines = turn.lines;
          rows = λ row there. turn.rows row there ∙ ap (λ n. slice_set old.lines.rows line (turned states.Freed n row)) (wide row there);
        }
      where
        wide : (row : Row) → IsRow old.lines line row → length (units_in (online_now i (log_of w) line)) ≡ row.width
        wide row there =
            bits_width i w (log_of w) line mount
            ∙ sym (numbered_width i w mount line st.beginning st.has_begun may.seq may.has_seq)
            ∙ ap (λ (r : Row). r.width) (same_Some (row_of_line i (log_of w) line) row (sym (its_row i w mount st line inside) ∙ there))

    -- ---- its note

    closed_was : closed_line i (log_of w) line ≡ Some (record { seq = spent.note.seq; top = spent.note.top })
    closed_was = closed_where_spent i w mount st line spent

    its_used : units_in (used_in old.resets line) ≡ used_units (known_image i (log_of w)) line
    its_used = st.used line (record { seq = spent.note.seq; top = spent.note.top }) closed_was

    gone : (other : ℕ) → nat_eq other line ≡ true → closed_line i (after (log_of w) (Free line) knows) other ≡ None
    gone other e = ap (closed_line i new_logs) (eqb-true other line e) ∙ closed_freed i (log_of w) line knows

    used_now : (other : ℕ) (c : ClosedLine) → closed_line i (after (log_of w) (Free line) knows) other ≡ Some c → (b : Bool) → nat_eq other line ≡ b
        → units_in (used_in new.resets other) ≡ used_units (known_image i (after (log_of w) (Free line) knows)) other
    used_now other c closed true e = absurd (none-some c (sym (gone other e) ∙ closed))
    used_now other c closed false e =
        let was : closed_line i (log_of w) other ≡ Some c = sym (closed_beside i (log_of w) line knows other (eqb-false other line e)) ∙ closed in
        ap (λ us. units_in (slice_index_or us other 0)) is.used ∙ st.used other c was
        ∙ ap (λ (j : Image). used_units j other) (sym (known_freed i (log_of w) line knows))

    notes_now : AreNotes i (after (log_of w) (Free line) knows) new.notes
    notes_now = notes_set i (log_of w) new_logs line (note_freed spent.note) old.notes new.notes inside (is.notes spent.note spent.is_note)
        (ap (option_map numbers_in) is.newest ∙ st.notes.newest ∙ sym (newest_kept i w st.beginning (Free line) knows mount st.has_begun refl))
        (λ o life. let its = sym (life_freed (log_of w 0) line knows) ∙ life in absurd cc)
        (sym (closed_freed i (log_of w) line knows))
        (λ other apart. life_beside (log_of w 0) line knows other apart)
        (λ other apart. closed_beside i (log_of w) line knows other apart)
        (λ other o apart life. (
          left_kept i.shape (log_of w) (Free line) knows o refl,
          top_kept i (log_of w) (Free line) knows o refl (λ unit. refl),
        ))
        st.notes
