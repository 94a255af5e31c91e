-- A core that noted a reset stands for the log with it.
use Rattle.std.proofs.Common.{◌≡◌, ◌≢◌, ℕ, ◌+◌, ◌<◌, ◌≤◌, Bool, true, false, Some, List, [], length, drop, refl, sym, subst, ap, ap₂, ◌∙◌, arith, append-nil, inl, not, ◌&&◌}
use Rattle.std.specs.Prelude.{map, slice_get}
use Rattle.std.specs.List.{filter, range_with_len}
use Rattle.std.specs.FinMap as fin
use Rattle.pblk_model.specs.declared.chunk.ChunkState.{ChunkState}
use Rattle.pblk_model.specs.Shape.{units}
use Rattle.pblk_model.specs.Image.{Image, width}
use Rattle.pblk_meta.specs.Records.{start_numbers}
use Rattle.pblk_layout.specs.Online.{units_in}
use Rattle.pblk_world.specs.Events.{EngineEvent, ResetDone, Decides, Logged}
use Rattle.pblk_world.specs.World.{World, Logs, log_of}
use Rattle.pblk_world.specs.EngineLog.{Taken, openings, is_as_found}
use Rattle.pblk_world.specs.Fronts.{first_position, is_users}
use Rattle.pblk_world.specs.Lines.{is_given_up, known_image}
use Rattle.pblk_world.specs.Space.{freed}
use Rattle.pblk_world.proofs.Appending.{openings_more, life_more}
use Rattle.line_table.specs.Rows.{Changes, turned}
use Rattle.write_window.specs.Window as view
use Rattle.core_laws.specs.Stepping.{after}
use Rattle.core_laws.specs.OpenedLines.{online_now, open_lines, standing}
use Rattle.core_laws.specs.PlacerOf.{contains_unit, placing_of, entries_of, unit_row_in}
use Rattle.pblk_world.specs.LegalMounts.{IsLegalMount}
use Rattle.core_laws.specs.RowsOf.{row_of_line, rows_of}
use Rattle.core_laws.specs.WindowOf.{sectors_in, window_from}
use Rattle.core_laws.proofs.Engine.{stopped_more}
use Rattle.core_laws.proofs.TakenNumbers.{first_stays}
use Rattle.core_laws.proofs.Steady.{AreAlike, standing_same, lines_same, row_same, unanswered_in}
use Rattle.core_laws.proofs.Stopping.{entries_same}
use Rattle.core_laws.proofs.Taking.{same_placing}
use Rattle.core_laws.proofs.PlacedLines.{get_row as row_there}
use Rattle.core_laws.proofs.QuietEvents.{IsQuiet, quiet_alike, quiet_window, quiet_slot, reset_is_quiet, quiet_takes}
use Rattle.core_laws.specs.ChangedTables.{with_row}
use Rattle.core_laws.specs.ClosedLines.{ClosedLine, closed_line}
use Rattle.core_laws.proofs.ClosedKept.{closed_reset}
use Rattle.core_laws.proofs.AnsweredTops.{top_reset}
use Rattle.core_laws.proofs.FreedWidths.{not_given_up}
use Rattle.core_laws.proofs.KeptRows.{begun_kept}
use Rattle.core_laws.proofs.OpenAddresses.{addresses_kept}
use Rattle.core_laws.proofs.PlacedFront.{front_kept}
use Rattle.core_laws.proofs.ChangedTables.{changed_is}
use Rattle.pblk_core.specs.declared.target_core.Core.{Core}
use Rattle.pblk_core.specs.declared.work.Work.TheVariants.{Reset}
use Rattle.pblk_core.specs.Named.{named}
use Rattle.pblk_core.specs.LineNotes.{AreNotes}
use Rattle.pblk_core.specs.Resets.{resets_left, resets_of, units_to_reset, is_of_line, kept_units, emptied, IsResetTo, used_in}
use Rattle.pblk_core.specs.Stands.{Stands, AreHolds, AreOpenLines, AreUsed}
use Rattle.pblk_core.proofs.FirstReset.{is_there, none_there}
use Rattle.pblk_core.proofs.FoundLines.{HasOldRow, older_kept}
use Rattle.pblk_core.proofs.KeptResets.{fits_same}
use Rattle.pblk_core.proofs.LineBits.{bits_width}
use Rattle.pblk_core.proofs.NamedReset.{IsNamedReset, named_first, reset_named}
use Rattle.pblk_core.proofs.ResetChunks.{IsNoted, noted}
use Rattle.pblk_core.proofs.ResetUnits.{units_left, others_left, others_used, resets_less, units_kept}
use Rattle.pblk_core.proofs.ResetRows.{table_stays, table_turns}
use Rattle.pblk_core.proofs.StandsOpened.{quiet_holds, quiet_freed}
use Rattle.pblk_core.proofs.AnswerCounts.{counts_same}
use Rattle.pblk_core.proofs.FullOpenings.{full_kept}
use Rattle.pblk_core.proofs.NotesKept.{quiet_notes}
use Rattle.core_laws.proofs.VictimsAtWork.{over_where_closed}
use Rattle.pblk_core.proofs.SteadyLines.{open_lines_same, under_way_same}
use Rattle.pblk_model.proofs.Maps.{map_same}
use Rattle.pblk_model.proofs.Tests.{not_both, other_number}

-- what a core's fields are once it noted the reset of a chunk, which has this state
pub record IsResetInto (old new : Core) (line unit : ℕ) (state : ChunkState) : Type 0 where
  pub layout : new.layout ≡ old.layout
  pub map : new.map ≡ old.map
  pub window : new.window ≡ old.window
  pub placer : new.placer ≡ old.placer
  pub holds : new.holds ≡ old.holds
  pub open_same : new.open ≡ old.open
  pub start : new.start ≡ old.start
  pub online : new.online.items ≡ kept_units old.online.items line unit state
  pub resets : resets_left new.resets ≡ drop 1 (resets_left old.resets)
  pub used_lines : length new.resets.used ≡ length old.resets.used
  pub used : (other : ℕ) → is_of_line other (slice_get (resets_left old.resets) 0) ≡ false → used_in new.resets other ≡ used_in old.resets other
  pub notes : new.notes ≡ old.notes
  pub lines_stay : is_of_line line (slice_get (resets_left new.resets) 0) ≡ true → new.lines ≡ old.lines
  pub lines_turn : (live : ℕ) → is_of_line line (slice_get (resets_left new.resets) 0) ≡ false → slice_get new.online.items line ≡ Some live
      → Changes old.lines new.lines line (turned (emptied old.layout (length (units_in live))) (length (units_in live)))
  pub first : new.first ≡ old.first
  pub placed : new.placed ≡ old.placed
  pub left : new.left ≡ old.left
  pub under_way : new.under_way ≡ old.under_way
  pub answers : new.answers.items ≡ old.answers.items
  pub users : new.users ≡ old.users

pub named_in : (i : Image) (logs : Logs) (c : Core) (line unit : ℕ) → Stands i logs c → named c ≡ Reset line unit → IsNamedReset i logs line unit
named_in i logs c line unit st is = reset_named i logs line unit (ap (λ rs. slice_get rs 0) (sym st.resets) ∙ named_first c line unit is)

pub reset_stands : (i : Image) (w : World) (line unit event : ℕ) (knows : List ℕ) (state : ChunkState) (old new : Core) → IsLegalMount i w
    → Stands i (log_of w) old → named old ≡ Reset line unit
    → IsResetTo i (log_of w) unit event line state → IsResetInto old new line unit state → Stands i (after (log_of w) (ResetDone unit event) knows) new
reset_stands i w line unit event knows state old new mount st names to is = record {
  layout = is.layout ∙ st.layout;
  beginning = st.beginning;
  has_begun = begun_kept (log_of w 0) e knows refl ∙ st.has_begun;
  capacity = ap fin.len is.map ∙ st.capacity;
  slots = λ x within. ap (λ m. fin.get m x) is.map ∙ st.slots x within ∙ ap Some (sym (quiet_slot i (log_of w) e knows x quiet));
  table = table_is (is_of_line line (slice_get (resets_left new.resets) 0)) refl;
  units = units_are;
  resets = resets_are;
  used_lines = is.used_lines ∙ st.used_lines;
  used = used_are;
  notes = notes_are;
  size = ap (λ v. v.size) is.window ∙ st.size;
  window = ap sectors_in is.window ∙ st.window ∙ sym (quiet_window i.shape (log_of w) e knows old.window.freed quiet)
      ∙ ap (λ (v : view.WindowView). window_from i.shape (new_logs 0) v.freed) (sym is.window);
  from_first = subst (λ v. first_position (new_logs 0) ≤ v.freed) (sym is.window) (subst (λ p. p ≤ old.window.freed) (sym first_is) st.from_first);
  to_freed =
      let rises : freed i.shape (log_of w 0) ≤ freed i.shape (new_logs 0) = quiet_freed i.shape (log_of w 0) e knows quiet first_is in
      let low : old.window.freed ≤ freed i.shape (log_of w 0) = st.to_freed in
      subst (λ v. v.freed ≤ freed i.shape (new_logs 0)) (sym is.window) (omega arith);
  holds = subst (AreHolds i.shape (new_logs 0)) (sym is.holds) (quiet_holds i.shape (log_of w 0) e knows old.holds quiet st.holds);
  again = st.again;
  placing = is.placer ∙ st.placing ∙ sym placing_is ∙ ap (λ p. placing_of i new_logs p.entries.pad st.again) (sym is.placer);
  open_lines = subst (AreOpenLines i new_logs) (sym is.open_same) (open_lines_same i (log_of w) e knows old.open alike same_standing st.open_lines);
  next_seq = ap (λ s. s.seq) is.start ∙ st.next_seq ∙ ap (λ n. st.beginning.beginning.seq + n) (sym (ap length same_openings));
  first_seq = ap (λ s. s.first_seq) is.start ∙ st.first_seq;
  own_capacity = ap (λ s. s.capacity) is.start ∙ st.own_capacity;
  older = ap (λ s. (start_numbers s).rows) is.start ∙ st.older ∙ older_kept i (log_of w) e knows st.beginning st.has_begun refl (λ l. old_row l);
  fits = fits_same old new is.first (ap (λ s. s.first_seq) is.start) (ap (λ s. (start_numbers s).rows) is.start) st.fits;
  first = is.first ∙ st.first ∙ sym first_is;
  placed = ap₂ (λ a b. a + b) is.first is.placed ∙ st.placed ∙ sym (front_kept i.shape (log_of w 0) e knows refl);
  left = is.left ∙ st.left ∙ sym (addresses_kept i (log_of w) e knows refl);
  in_flight = is.under_way ∙ st.in_flight ∙ under_way_same i.shape (log_of w 0) (new_logs 0) alike;
  answers = is.answers ∙ st.answers ∙ counts_same i.shape (log_of w 0) (new_logs 0) alike;
  full = full_kept i (log_of w) e knows refl st.full;
  users = is.users ∙ st.users ∙ ap (λ ts. length (filter (λ (t : Taken). is_users t.entry.source) ts)) (sym (quiet_takes (log_of w 0) e knows quiet));
}
  where
    e : EngineEvent
    e = ResetDone unit event

    l : Logged
    l = record { event = Decides e; knows = knows }

    new_logs : Logs
    new_logs = after (log_of w) e knows

    quiet : IsQuiet (log_of w 0) e knows
    quiet = reset_is_quiet (log_of w 0) unit event knows

    alike : AreAlike (log_of w 0) (new_logs 0)
    alike = quiet_alike (log_of w 0) e knows quiet

    first_is : first_position (new_logs 0) ≡ first_position (log_of w 0)
    first_is = first_stays (log_of w 0) l st.beginning st.has_begun

    same_openings : openings (new_logs 0) ≡ openings (log_of w 0)
    same_openings = openings_more (log_of w 0) l ∙ append-nil (openings (log_of w 0))

    same_standing : standing (new_logs 0) ≡ standing (log_of w 0)
    same_standing = standing_same (log_of w 0) (new_logs 0) same_openings (λ m. life_more (log_of w 0) l m)

    old_row : (m : ℕ) → HasOldRow i (log_of w) (after (log_of w) (ResetDone unit event) knows) m
    old_row m = inl (ap is_as_found (life_more (log_of w 0) l m))

    named_is : IsNamedReset i (log_of w) line unit
    named_is = named_in i (log_of w) old line unit st names

    seen : IsNoted i (log_of w) unit event line knows state
    seen = noted i (log_of w) unit event line knows state st.beginning st.has_begun named_is to

    resets_are : resets_left new.resets ≡ resets_of i new_logs
    resets_are = is.resets ∙ ap (drop 1) st.resets ∙ sym (resets_less i (log_of w) unit event line knows state named_is seen)

    closed_is : (other : ℕ) → closed_line i (after (log_of w) (ResetDone unit event) knows) other ≡ closed_line i (log_of w) other
    closed_is other = closed_reset i w st.beginning unit event knows other mount st.has_begun to.may
        (ap (is_given_up (log_of w 0)) to.chunk ∙ named_is.given_up)

    -- a closed line has a sequence number, and the one that is reset was given up
    apart : (other : ℕ) (c : ClosedLine) → closed_line i (log_of w) other ≡ Some c → other ≢ line
    apart other c closed same =
        let kept : is_given_up (log_of w 0) other ≡ false =
        not_given_up i w mount other st.beginning st.has_begun c.seq (over_where_closed i (log_of w) other c closed).1 in
        not_both (is_given_up (log_of w 0) other) (ap (is_given_up (log_of w 0)) same ∙ named_is.given_up) kept

    used_are : AreUsed i (after (log_of w) (ResetDone unit event) knows) new.resets
    used_are other c closed =
        let was : closed_line i (log_of w) other ≡ Some c = sym (closed_is other) ∙ closed in
        let other_line : other ≢ line = apart other c was in
        ap units_in (is.used other (ap (is_of_line other) (named_first old line unit names) ∙ other_number line other (λ e. other_line (sym e))))
        ∙ st.used other c was
        ∙ sym (others_used i (log_of w) unit event line knows state seen other other_line)

    notes_are : AreNotes i (after (log_of w) (ResetDone unit event) knows) new.notes
    notes_are = subst (AreNotes i new_logs) (sym is.notes)
        (quiet_notes i w st.beginning e knows old.notes mount st.has_begun refl (λ m. life_more (log_of w 0) l m) closed_is
        (λ m o life. top_reset i (log_of w) unit event knows m o to.may (ap (is_given_up (log_of w 0)) to.chunk ∙ named_is.given_up) life) st.notes)

    units_are : new.online.items ≡ map (online_now i new_logs) (range_with_len 0 i.shape.chunks)
    units_are = is.online ∙ ap (λ us. kept_units us line unit state) st.units ∙ units_kept i w unit event line knows state mount named_is seen

    from : 0 + line ≡ line
    from = omega arith

    live_there : slice_get new.online.items line ≡ Some (online_now i new_logs line)
    live_there = ap (λ us. slice_get us line) units_are ∙ row_there (online_now i new_logs) i.shape.chunks 0 line named_is.in_range
        ∙ ap (λ m. Some (online_now i new_logs m)) from

    there : slice_get old.lines.rows line ≡ Some (row_of_line i (log_of w) (0 + line))
    there = ap (λ t. slice_get t.rows line) st.table ∙ row_there (row_of_line i (log_of w)) i.shape.chunks 0 line named_is.in_range

    others_before : (m : ℕ) → m < line → units_to_reset i new_logs m ≡ []
    others_before m less = others_left i (log_of w) unit event line knows state seen m (λ same. absurd (omega arith))
        ∙ named_is.first.before m (omega arith) less

    table_is : (b : Bool) → is_of_line line (slice_get (resets_left new.resets) 0) ≡ b → new.lines ≡ rows_of i new_logs
    table_is true at =
        let more = is_there (units_to_reset i new_logs) i.shape.chunks line (ap (λ rs. is_of_line line (slice_get rs 0)) (sym resets_are) ∙ at) in
        is.lines_stay at ∙ st.table
        ∙ sym (table_stays i w unit event line knows state st.beginning more.0 more.1 mount st.has_begun named_is seen
        (sym (units_left i (log_of w) unit event line knows state named_is seen) ∙ more.2))
    table_is false at =
        let none : units_to_reset i new_logs line ≡ [] =
        none_there (units_to_reset i new_logs) i.shape.chunks line named_is.in_range others_before
        (ap (λ rs. is_of_line line (slice_get rs 0)) (sym resets_are) ∙ at) in
        let wide : length (units_in (online_now i new_logs line)) ≡ width (known_image i new_logs) line = bits_width i w new_logs line mount in
        changed_is old.lines new.lines line
        (turned (emptied old.layout (length (units_in (online_now i new_logs line)))) (length (units_in (online_now i new_logs line))))
        (row_of_line i (log_of w) (0 + line)) there
        (is.lines_turn (online_now i new_logs line) at live_there)
        ∙ ap₂ (λ s n. with_row line (turned (emptied s n) n) old.lines) st.layout wide
        ∙ ap (with_row line (turned (emptied i.shape (width (known_image i new_logs) line)) (width (known_image i new_logs) line))) st.table
        ∙ sym (table_turns i w unit event line knows state st.beginning mount st.has_begun named_is seen
        (sym (units_left i (log_of w) unit event line knows state named_is seen) ∙ none))

    placing_is : placing_of i new_logs old.placer.entries.pad st.again ≡ placing_of i (log_of w) old.placer.entries.pad st.again
    placing_is =
        same_placing i.shape (entries_of i.shape (new_logs 0) old.placer.entries.pad) (entries_of i.shape (log_of w 0) old.placer.entries.pad)
        (map (unit_row_in i new_logs st.again) (range_with_len 0 (units i.shape))) (map (unit_row_in i (log_of w) st.again) (range_with_len 0 (units i.shape)))
        (open_lines i new_logs) (open_lines i (log_of w))
        (entries_same i.shape (log_of w 0) (new_logs 0) old.placer.entries.pad alike (quiet_takes (log_of w 0) e knows quiet))
        (map_same (unit_row_in i new_logs st.again) (unit_row_in i (log_of w) st.again)
        (λ u. row_same i (log_of w) e knows st.again st.again u (ap₂ (λ ps ns. unanswered_in ps ns u) alike.placements alike.answers)
        (ap (λ b. b && not (contains_unit st.again u)) (stopped_more (log_of w 0) l u))) (range_with_len 0 (units i.shape)))
        (lines_same i (log_of w) e knows alike same_standing)
