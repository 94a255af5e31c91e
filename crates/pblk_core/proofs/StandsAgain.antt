-- A core that was told of a stop stands for the log with it; one that has the program under way
-- again stands for the same log.
use Rattle.std.proofs.Common.{◌≡◌, ℕ, ◌+◌, ◌/◌, ◌≤◌, Some, List, ◌∷◌, length, refl, sym, subst, ap, ap₂, ◌∙◌, arith, append-nil, inl}
use Rattle.std.specs.Prelude.{if◌then◌else◌, slice_get}
use Rattle.std.specs.List.{filter, range_with_len}
use Rattle.std.specs.FinMap as fin
use Rattle.pblk_model.specs.Image.{Image, line_units}
use Rattle.pblk_meta.specs.Records.{start_numbers}
use Rattle.pblk_world.specs.Events.{EngineEvent, Again, Decides, Logged}
use Rattle.pblk_world.specs.World.{World, Logs, log_of}
use Rattle.pblk_world.specs.EngineLog.{Taken, openings, is_as_found}
use Rattle.pblk_world.specs.Fronts.{first_position, is_users}
use Rattle.pblk_world.specs.Placing.{line_end}
use Rattle.pblk_world.specs.Space.{freed}
use Rattle.pblk_world.proofs.Appending.{openings_more, life_more}
use Rattle.line_table.specs.declared.row.LineState.TheVariants as states
use Rattle.stripe_placer.specs.Placing.{Program, Placing, placed, stopped}
use Rattle.stripe_placer.specs.Placing.UnitRow.{UnderWay, Stopped}
use Rattle.write_window.specs.Window as view
use Rattle.core_laws.specs.Stepping.{after}
use Rattle.core_laws.specs.OpenedLines.{bits_of, online_now, standing}
use Rattle.core_laws.specs.PlacerOf.{placing_of, without_unit}
use Rattle.core_laws.specs.RowsOf.{row_of_line, rows_of}
use Rattle.pblk_world.specs.LegalMounts.{IsLegalMount}
use Rattle.core_laws.specs.WindowOf.{sectors_in, window_from}
use Rattle.core_laws.specs.ClosedLines.{closed_line}
use Rattle.core_laws.proofs.AnsweredTops.{top_kept}
use Rattle.core_laws.proofs.ClosedKept.{closed_stopped}
use Rattle.core_laws.proofs.KeptRows.{begun_kept, known_kept, row_kept, then_kept}
use Rattle.core_laws.proofs.KeptStripes.{KeepsStripes, alike_kept, have_landed_alike, lives_kept, stripes_kept}
use Rattle.core_laws.proofs.LandedRows.{keeps_chunks, lines_kept}
use Rattle.core_laws.proofs.OpenAddresses.{addresses_kept, failed_kept}
use Rattle.core_laws.proofs.PlacedFront.{front_kept}
use Rattle.core_laws.proofs.FreedMoments.{freed_before}
use Rattle.core_laws.proofs.QuietEvents.{IsQuiet, quiet_alike, quiet_window, quiet_slot, stop_is_quiet, quiet_takes}
use Rattle.core_laws.proofs.Steady.{AreAlike, standing_same}
use Rattle.core_laws.proofs.Stopping.{placing_again, placing_stopped}
use Rattle.core_laws.proofs.TakenNumbers.{first_stays}
use Rattle.pblk_core.specs.LineNotes.{AreNotes}
use Rattle.pblk_core.specs.Resets.{resets_left}
use Rattle.pblk_core.specs.Stands.{Stands, AreHolds, AreOpenLines, AreUsed}
use Rattle.pblk_core.specs.declared.open_lines.OpenLines.{OpenLines}
use Rattle.pblk_core.specs.declared.target_core.Core.{Core}
use Rattle.pblk_core.proofs.FoundLines.{HasOldRow, older_kept}
use Rattle.pblk_core.proofs.KeptFrames.{placed_pad}
use Rattle.pblk_core.proofs.KeptResets.{fits_same, resets_quiet}
use Rattle.pblk_core.proofs.NotesKept.{quiet_notes, quiet_used}
use Rattle.pblk_core.proofs.StandsOpened.{quiet_holds, quiet_freed}
use Rattle.pblk_core.proofs.AnswerCounts.{counts_same}
use Rattle.pblk_core.proofs.FullOpenings.{full_kept}
use Rattle.pblk_core.proofs.SteadyLines.{open_lines_same, under_way_same}
use Rattle.pblk_model.proofs.Maps.{map_same}

-- ---- a program is under way again

-- what a core's fields are once it has a stopped program under way again
pub record IsPlacedAgain (old new : Core) (of : Program) : Type 0 where
  pub layout : new.layout ≡ old.layout
  pub map : new.map ≡ old.map
  pub lines : new.lines ≡ old.lines
  pub window : new.window ≡ old.window
  pub placer : new.placer ≡ placed old.placer of
  pub holds : new.holds ≡ old.holds
  pub open_count : new.open.count ≡ old.open.count
  pub open_slots : new.open.slots.items ≡ old.open.slots.items
  pub online : new.online ≡ old.online
  pub resets : new.resets ≡ old.resets
  pub notes : new.notes ≡ old.notes
  pub start : new.start ≡ old.start
  pub first : new.first ≡ old.first
  pub placed : new.placed ≡ old.placed
  pub left : new.left ≡ old.left
  pub under_way : new.under_way ≡ old.under_way
  pub answers : new.answers.items ≡ old.answers.items
  pub users : new.users ≡ old.users

-- where its placer, and what its open lines keep beside their slots, are all that changed
pub again_into : (old mid : Core) (p : Placing) (kept : OpenLines) (of : Program) → mid ≡ record old { placer = p; «open» = kept } → p ≡ placed old.placer of
    → kept.count ≡ old.open.count → kept.slots.items ≡ old.open.slots.items → IsPlacedAgain old mid of
again_into old mid p kept of same is count slots = record {
  layout = ap (λ (c : Core). c.layout) same;
  map = ap (λ (c : Core). c.map) same;
  lines = ap (λ (c : Core). c.lines) same;
  window = ap (λ (c : Core). c.window) same;
  placer = ap (λ (c : Core). c.placer) same ∙ is;
  holds = ap (λ (c : Core). c.holds) same;
  open_count = ap (λ (c : Core). c.open.count) same ∙ count;
  open_slots = ap (λ (c : Core). c.open.slots.items) same ∙ slots;
  online = ap (λ (c : Core). c.online) same;
  resets = ap (λ (c : Core). c.resets) same;
  notes = ap (λ (c : Core). c.notes) same;
  start = ap (λ (c : Core). c.start) same;
  first = ap (λ (c : Core). c.first) same;
  placed = ap (λ (c : Core). c.placed) same;
  left = ap (λ (c : Core). c.left) same;
  under_way = ap (λ (c : Core). c.under_way) same;
  answers = ap (λ (c : Core). c.answers.items) same;
  users = ap (λ (c : Core). c.users) same;
}

-- the same open lines, kept in the same slots
same_lines : (i : Image) (logs : Logs) (old new : OpenLines) → new.count ≡ old.count → new.slots.items ≡ old.slots.items → AreOpenLines i logs old
    → AreOpenLines i logs new
same_lines i logs old new count slots are = record {
  two = ap length slots ∙ are.two;
  shapes = λ k line there. are.shapes k line (ap (λ ls. slice_get ls k) (sym slots) ∙ there);
  count = count ∙ are.count;
  few = subst (λ n. n ≤ 2) (sym count) are.few;
  each = λ k o line opening there. are.each k o line opening (ap (λ ls. slice_get ls k) (sym slots) ∙ there);
}

pub again_stands : (i : Image) (logs : Logs) (old new : Core) (of : Program) → Stands i logs old → slice_get old.placer.units of.unit ≡ Some (Stopped of)
    → IsPlacedAgain old new of → Stands i logs new
again_stands i logs old new of st there is = record {
  layout = is.layout ∙ st.layout;
  beginning = st.beginning;
  has_begun = st.has_begun;
  capacity = ap fin.len is.map ∙ st.capacity;
  slots = λ x within. ap (λ m. fin.get m x) is.map ∙ st.slots x within;
  table = is.lines ∙ st.table;
  units = ap (λ l. l.items) is.online ∙ st.units;
  resets = ap resets_left is.resets ∙ st.resets;
  used_lines = ap (λ r. length r.used) is.resets ∙ st.used_lines;
  used = subst (AreUsed i logs) (sym is.resets) st.used;
  notes = subst (AreNotes i logs) (sym is.notes) st.notes;
  size = ap (λ v. v.size) is.window ∙ st.size;
  window = ap sectors_in is.window ∙ st.window ∙ ap (λ (v : view.WindowView). window_from i.shape (logs 0) v.freed) (sym is.window);
  from_first = subst (λ v. first_position (logs 0) ≤ v.freed) (sym is.window) st.from_first;
  to_freed = subst (λ v. v.freed ≤ freed i.shape (logs 0)) (sym is.window) st.to_freed;
  holds = subst (AreHolds i.shape (logs 0)) (sym is.holds) st.holds;
  again = of.unit ∷ st.again;
  placing = placing_is;
  open_lines = same_lines i logs old.open new.open is.open_count is.open_slots st.open_lines;
  next_seq = ap (λ s. s.seq) is.start ∙ st.next_seq;
  first_seq = ap (λ s. s.first_seq) is.start ∙ st.first_seq;
  own_capacity = ap (λ s. s.capacity) is.start ∙ st.own_capacity;
  older = ap (λ s. (start_numbers s).rows) is.start ∙ st.older;
  fits = fits_same old new is.first (ap (λ s. s.first_seq) is.start) (ap (λ s. (start_numbers s).rows) is.start) st.fits;
  first = is.first ∙ st.first;
  placed = ap₂ (λ a b. a + b) is.first is.placed ∙ st.placed;
  left = is.left ∙ st.left;
  in_flight = is.under_way ∙ st.in_flight;
  answers = is.answers ∙ st.answers;
  full = st.full;
  users = is.users ∙ st.users;
}
  where
    pad_is : new.placer.entries.pad ≡ old.placer.entries.pad
    pad_is = ap (λ (p : Placing). p.entries.pad) is.placer ∙ placed_pad old.placer of

    placing_is : new.placer ≡ placing_of i logs new.placer.entries.pad (of.unit ∷ st.again)
    placing_is =
        is.placer ∙ ap (λ (p : Placing). placed p of) st.placing
        ∙ sym (placing_again i logs old.placer.entries.pad st.again of (ap (λ (p : Placing). slice_get p.units of.unit) (sym st.placing) ∙ there))
        ∙ ap (λ n. placing_of i logs n (of.unit ∷ st.again)) (sym pad_is)

-- ---- a stop

-- a stop changes no row of the table
rows_stopped : (i : Image) (w : World) (unit event : ℕ) (knows : List ℕ) → IsLegalMount i w
    → rows_of i (after (log_of w) (Again unit event) knows) ≡ rows_of i (log_of w)
rows_stopped i w unit event knows mount =
    ap (λ rows. record { shape = i.shape; rows = rows }) (map_same (row_of_line i new) (row_of_line i (log_of w)) same (range_with_len 0 i.shape.chunks))
  where
    new : Logs
    new = after (log_of w) (Again unit event) knows

    kept : KeepsStripes (log_of w 0) (new 0)
    kept = stripes_kept (log_of w 0) (Again unit event) knows refl

    same : (m : ℕ) → row_of_line i new m ≡ row_of_line i (log_of w) m
    same m =
        row_kept i (log_of w) new m (lives_kept (log_of w 0) (Again unit event) knows m refl)
        (then_kept i (log_of w) (Again unit event) knows m (freed_before i w mount.legal))
        (keeps_chunks i (log_of w) (Again unit event) knows m refl (λ u x told. absurd cc))
        (lines_kept i (log_of w) (Again unit event) knows refl refl refl (λ u. refl))
        (λ o e. ap₂ (λ a b. if a then states.Failed else if b then states.Full else states.Open) (failed_kept (log_of w 0) (new 0) kept o)
        (have_landed_alike (log_of w 0) (new 0) (alike_kept (log_of w 0) (Again unit event) knows refl (λ u. refl)) o (line_end i.shape o / i.shape.ws_opt)))

-- what a core's fields are once it was told of the stop of a program
pub record IsStoppedInto (old new : Core) (of : Program) : Type 0 where
  pub layout : new.layout ≡ old.layout
  pub map : new.map ≡ old.map
  pub lines : new.lines ≡ old.lines
  pub window : new.window ≡ old.window
  pub placer : new.placer ≡ stopped old.placer of
  pub holds : new.holds ≡ old.holds
  pub open_same : new.open ≡ old.open
  pub online : new.online ≡ old.online
  pub resets : new.resets ≡ old.resets
  pub notes : new.notes ≡ old.notes
  pub start : new.start ≡ old.start
  pub first : new.first ≡ old.first
  pub placed : new.placed ≡ old.placed
  pub left : new.left ≡ old.left
  pub under_way : new.under_way ≡ old.under_way
  pub answers : new.answers.items ≡ old.answers.items
  pub users : new.users ≡ old.users

its_stop_stands : (i : Image) (w : World) (event : ℕ) (knows : List ℕ) (old new : Core) (of : Program) → IsLegalMount i w → Stands i (log_of w) old
    → slice_get old.placer.units of.unit ≡ Some (UnderWay of) → IsStoppedInto old new of → Stands i (after (log_of w) (Again of.unit event) knows) new
its_stop_stands i w event knows old new of mount st there is = record {
  layout = is.layout ∙ st.layout;
  beginning = st.beginning;
  has_begun = begun_kept (log_of w 0) e knows refl ∙ st.has_begun;
  capacity = ap fin.len is.map ∙ st.capacity;
  slots = λ x within. ap (λ m. fin.get m x) is.map ∙ st.slots x within ∙ ap Some (sym (quiet_slot i (log_of w) e knows x quiet));
  table = is.lines ∙ st.table ∙ sym (rows_stopped i w of.unit event knows mount);
  units = ap (λ us. us.items) is.online ∙ st.units
      ∙ map_same (online_now i (log_of w)) (online_now i new_logs)
      (λ line. ap (λ (j : Image). bits_of (line_units j line)) (sym (known_kept i (log_of w) e knows refl (λ unit. refl)))) (range_with_len 0 i.shape.chunks);
  resets = ap resets_left is.resets ∙ st.resets ∙ sym (resets_quiet i (log_of w) e knows refl (λ unit. refl) (λ line. life_more (log_of w 0) l line));
  used_lines = ap (λ r. length r.used) is.resets ∙ st.used_lines;
  used = subst (AreUsed i new_logs) (sym is.resets) (quiet_used i (log_of w) e knows old.resets refl (λ unit. refl) same_closed st.used);
  notes = subst (AreNotes i new_logs) (sym is.notes)
      (quiet_notes i w st.beginning e knows old.notes mount st.has_begun refl (λ line. life_more (log_of w 0) l line) same_closed
      (λ line o life. top_kept i (log_of w) e knows o refl (λ unit. refl)) st.notes);
  size = ap (λ v. v.size) is.window ∙ st.size;
  window = ap sectors_in is.window ∙ st.window ∙ sym (quiet_window i.shape (log_of w) e knows old.window.freed quiet)
      ∙ ap (λ (v : view.WindowView). window_from i.shape (new_logs 0) v.freed) (sym is.window);
  from_first = subst (λ v. first_position (new_logs 0) ≤ v.freed) (sym is.window) (subst (λ p. p ≤ old.window.freed) (sym first_is) st.from_first);
  to_freed =
      let rises : freed i.shape (log_of w 0) ≤ freed i.shape (new_logs 0) = quiet_freed i.shape (log_of w 0) e knows quiet first_is in
      let low : old.window.freed ≤ freed i.shape (log_of w 0) = st.to_freed in
      subst (λ v. v.freed ≤ freed i.shape (new_logs 0)) (sym is.window) (omega arith);
  holds = subst (AreHolds i.shape (new_logs 0)) (sym is.holds) (quiet_holds i.shape (log_of w 0) e knows old.holds quiet st.holds);
  again = without_unit of.unit st.again;
  placing = placing_is;
  open_lines = subst (AreOpenLines i new_logs) (sym is.open_same) (open_lines_same i (log_of w) e knows old.open alike same_standing st.open_lines);
  next_seq = ap (λ s. s.seq) is.start ∙ st.next_seq ∙ ap (λ n. st.beginning.beginning.seq + n) (sym (ap length same_openings));
  first_seq = ap (λ s. s.first_seq) is.start ∙ st.first_seq;
  own_capacity = ap (λ s. s.capacity) is.start ∙ st.own_capacity;
  older = ap (λ s. (start_numbers s).rows) is.start ∙ st.older ∙ older_kept i (log_of w) e knows st.beginning st.has_begun refl (λ line. old_row line);
  fits = fits_same old new is.first (ap (λ s. s.first_seq) is.start) (ap (λ s. (start_numbers s).rows) is.start) st.fits;
  first = is.first ∙ st.first ∙ sym first_is;
  placed = ap₂ (λ a b. a + b) is.first is.placed ∙ st.placed ∙ sym (front_kept i.shape (log_of w 0) e knows refl);
  left = is.left ∙ st.left ∙ sym (addresses_kept i (log_of w) e knows refl);
  in_flight = is.under_way ∙ st.in_flight ∙ under_way_same i.shape (log_of w 0) (new_logs 0) alike;
  answers = is.answers ∙ st.answers ∙ counts_same i.shape (log_of w 0) (new_logs 0) alike;
  full = full_kept i (log_of w) e knows refl st.full;
  users = is.users ∙ st.users ∙ ap (λ ts. length (filter (λ (t : Taken). is_users t.entry.source) ts)) (sym (quiet_takes (log_of w 0) e knows quiet));
}
  where
    e : EngineEvent
    e = Again of.unit event

    l : Logged
    l = record { event = Decides e; knows = knows }

    new_logs : Logs
    new_logs = after (log_of w) e knows

    quiet : IsQuiet (log_of w 0) e knows
    quiet = stop_is_quiet (log_of w 0) of.unit event knows

    alike : AreAlike (log_of w 0) (new_logs 0)
    alike = quiet_alike (log_of w 0) e knows quiet

    first_is : first_position (new_logs 0) ≡ first_position (log_of w 0)
    first_is = first_stays (log_of w 0) l st.beginning st.has_begun

    same_openings : openings (new_logs 0) ≡ openings (log_of w 0)
    same_openings = openings_more (log_of w 0) l ∙ append-nil (openings (log_of w 0))

    same_standing : standing (new_logs 0) ≡ standing (log_of w 0)
    same_standing = standing_same (log_of w 0) (new_logs 0) same_openings (λ m. life_more (log_of w 0) l m)

    same_closed : (line : ℕ) → closed_line i (after (log_of w) (Again of.unit event) knows) line ≡ closed_line i (log_of w) line
    same_closed line = closed_stopped i (log_of w) of.unit event knows line

    old_row : (m : ℕ) → HasOldRow i (log_of w) (after (log_of w) (Again of.unit event) knows) m
    old_row m = inl (ap is_as_found (life_more (log_of w 0) l m))

    pad_is : new.placer.entries.pad ≡ old.placer.entries.pad
    pad_is = ap (λ (p : Placing). p.entries.pad) is.placer

    placing_is : new.placer ≡ placing_of i new_logs new.placer.entries.pad (without_unit of.unit st.again)
    placing_is =
        is.placer ∙ ap (λ (p : Placing). stopped p of) st.placing
        ∙ sym (placing_stopped i (log_of w) event knows old.placer.entries.pad st.again of
        (ap (λ (p : Placing). slice_get p.units of.unit) (sym st.placing) ∙ there))
        ∙ ap (λ n. placing_of i new_logs n (without_unit of.unit st.again)) (sym pad_is)

-- by the unit of the stripe
pub stopped_stands : (i : Image) (w : World) (unit event : ℕ) (knows : List ℕ) (old new : Core) (of : Program) → IsLegalMount i w → Stands i (log_of w) old
    → of.unit ≡ unit → slice_get old.placer.units of.unit ≡ Some (UnderWay of) → IsStoppedInto old new of
    → Stands i (after (log_of w) (Again unit event) knows) new
stopped_stands i w unit event knows old new of mount st same there is =
    subst (λ u. Stands i (after (log_of w) (Again u event) knows) new) same (its_stop_stands i w event knows old new of mount st there is)
