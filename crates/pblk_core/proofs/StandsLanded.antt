-- A core whose program has landed stands for the log with that.
use Rattle.std.specs.Prelude.{◌↔◌, IsTrue, slice_get, slice_set}
use Rattle.std.proofs.Common.{◌≡◌, ℕ, ◌/◌, ◌<◌, ◌&&◌, not, if◌then◌else◌, Bool, true, false, Some, Option, List, [], ◌∷◌, length, refl, sym, subst, ap, ap₂, ◌∙◌}
use Rattle.std.specs.List.{Contains}
use Rattle.pblk_model.specs.Image.{Image}
use Rattle.pblk_world.specs.Answering.{MayLand}
use Rattle.pblk_world.specs.Events.{Landed, Decides, Logged}
use Rattle.pblk_world.specs.World.{World, Logs, log_of}
use Rattle.pblk_world.specs.EngineLog.{DidLand, Taken, takes, has_failed}
use Rattle.pblk_world.specs.Fronts.{first_position}
use Rattle.pblk_world.specs.Placing.{line_end}
use Rattle.pblk_world.specs.Starts.{have_landed}
use Rattle.write_window.specs.Window.{WindowView, has_landed_at, turned}
use Rattle.write_window.specs.declared.held.Progress.TheVariants as progress
use Rattle.stripe_placer.specs.Placing.{Program, landed}
use Rattle.stripe_placer.specs.declared.placement.StripeKind.TheVariants as kinds
use Rattle.core_laws.specs.ClosedLines.{top_of}
use Rattle.core_laws.specs.Stepping.{after}
use Rattle.core_laws.specs.PlacerOf.{IsAwaited, placing_of}
use Rattle.pblk_world.specs.LegalMounts.{IsLegalMount}
use Rattle.core_laws.specs.RowsOf.{rows_of}
use Rattle.core_laws.specs.WindowOf.{is_given_back}
use Rattle.core_laws.proofs.Landing.{placing_landed}
use Rattle.core_laws.specs.ChunkBlocks.{can_be_read}
use Rattle.core_laws.proofs.LandedWindow.{given_back_landed}
use Rattle.line_table.specs.Rows.{Table}
use Rattle.line_table.specs.declared.row.Row.{Row}
use Rattle.core_laws.specs.ChangedTables.{with_row, full_if}
use Rattle.core_laws.specs.PlacedEntries.{note_entries}
use Rattle.core_laws.proofs.KeptStripes.{KeepsStripes, stripes_kept}
use Rattle.core_laws.proofs.NotedAnswers.{takes_noted}
use Rattle.core_laws.proofs.NextTakes.{rising_by}
use Rattle.core_laws.proofs.LandedEntries.{AreItsEntries, rows_landed}
use Rattle.core_laws.proofs.LineRoom.{has_room}
use Rattle.core_laws.proofs.OpenAddresses.{addresses_kept}
use Rattle.core_laws.proofs.LogOrders.{in_order, small_capacity}
use Rattle.core_laws.proofs.EntryHolds.{later_same, line_same}
use Rattle.pblk_core.specs.Entries.{noted_lines}
use Rattle.pblk_core.specs.Holds.{taker_in}
use Rattle.pblk_core.specs.Landing.{all_landed, is_open, one_landed as entry_landed}
use Rattle.pblk_core.specs.Stands.{Stands, AreHolds}
use Rattle.pblk_core.specs.declared.target_core.Core.{Core}
use Rattle.pblk_core.specs.declared.hold.Hold.{Hold}
use Rattle.pblk_core.specs.declared.hold.Holds.{Holds}
use Rattle.pblk_core.specs.declared.open_lines.OpenLines.{OpenLines}
use Rattle.pblk_core.proofs.NotedEntries.{AreEntriesOf, entries_of_way}
use Rattle.pblk_core.proofs.PlacedEntries.{lines_noted_are}
use Rattle.pblk_core.proofs.LandedLines.{HasSlot}
use Rattle.pblk_core.proofs.LandedWhole.{whole_now}
use Rattle.pblk_core.proofs.LandedCore.{line_within, open_unless, row_state}
use Rattle.core_laws.proofs.ChunksInRows.{rows_of_chunks}
use Rattle.pblk_core.specs.Answering.{IsCounted, IsKeptByAnswers, IsLineAnswered}
use Rattle.pblk_core.proofs.AnsweredNow.{AreRead}
use Rattle.pblk_core.proofs.AnsweredProgram.{chunk_noted}
use Rattle.pblk_core.proofs.StandsAnswered.{answered_stands, gone_is, last, none_is}
use Rattle.pblk_core.proofs.LandedWay.{IsOnWay, line_of_way, unit_is}
use Rattle.pblk_core.proofs.AnsweredNotes.{notes_landed}
use Rattle.pblk_core.proofs.LandedNotes.{note_answered}
use Rattle.pblk_core.specs.declared.line_notes.LineNote.{LineNote}
use Rattle.pblk_core.specs.LineNotes.{newest_landed}
use Rattle.pblk_model.proofs.Parts.{got_within}
use Rattle.pblk_model.proofs.Tests.{either_false}

-- ---- the window keeps its front and its size

pub landed_keeps : (w : WindowView) (qs : List ℕ) → ((all_landed w qs).freed ≡ w.freed) × ((all_landed w qs).size ≡ w.size)
landed_keeps w [] = (refl, refl)
landed_keeps w (q ∷ qs) =
    let rest = landed_keeps (entry_landed w q) qs in
    let one = go (has_landed_at w q) in
    (rest.0 ∙ one.0, rest.1 ∙ one.1)
  where
    go : (b : Bool) → ((if b then w else turned w q progress.Landed).freed ≡ w.freed) × ((if b then w else turned w q progress.Landed).size ≡ w.size)
    go true = (refl, refl)
    go false = (refl, refl)

-- ---- the table

table_now : (i : Image) (w : World) (unit event : ℕ) (knows : List ℕ) (of : Program) (full : Bool) → IsLegalMount i w → (is : IsOnWay i w unit of)
    → MayLand (log_of w) unit event
    → have_landed (after (log_of w) (Landed unit event) knows 0) is.row.opening (line_end i.shape is.row.opening / i.shape.ws_opt) ≡ full → (ts : List Taken)
    → AreItsEntries i (log_of w) is.row.stripe ts
    → rows_of i (after (log_of w) (Landed unit event) knows) ≡ with_row of.line (full_if full) (note_entries (log_of w 0) of.line (rows_of i (log_of w)) ts)
table_now i w unit event knows of full mount is may e ts are =
    let order = in_order i w mount in
    rows_landed i (log_of w) unit event knows is.row.stripe is.row.opening ts order.freed is.line_is.striped.some
    (has_room i w is.row.stripe.stripe.line is.row.opening mount is.stands) is.row.waits is.row.life is.stands
    (chunk_noted i w unit (DidLand event) knows is.row.stripe mount may is.row.waits)
    (rising_by (first_position (log_of w 0)) (length (takes (log_of w 0))) (takes (log_of w 0)) order.numbered) are
    ∙ ap₂ (λ ln b. with_row ln (full_if b) (note_entries (log_of w 0) ln (rows_of i (log_of w)) ts)) (sym is.its_line ∙ line_of_way i w unit of is) e

-- ---- the rows beside the entries

abbrev told_hold : Taken → Option ℕ → Option Taken → Option Hold
told_hold t ln u = Some (record { mark = t.mark; line = ln; taker = taker_in t u })

holds_now : (i : Image) (w : World) (unit event : ℕ) (knows : List ℕ) (of : Program) (kept : Holds) → IsLegalMount i w → (is : IsOnWay i w unit of)
    → AreHolds i.shape (log_of w 0) kept → AreHolds i.shape (after (log_of w) (Landed unit event) knows 0) kept
holds_now i w unit event knows of kept mount is are = record {
  room = are.room;
  each = λ t there given.
      let l : Logged = record { event = Decides (Landed unit event); knows = knows } in
      let before : is_given_back i.shape (log_of w 0) t.entry.position ≡ false =
      (either_false (is_given_back i.shape (log_of w 0) t.entry.position)
      (can_be_read i.shape (after (log_of w) (Landed unit event) knows 0) is.row.opening unit t.entry.position)
      (sym (given_back_landed i w unit event knows is.row.stripe is.row.opening t.entry.position mount is.row.waits is.row.life
      (rows_of_chunks i w is.row.opening unit mount)) ∙ given)).0 in
      are.each t (subst (λ (ts : List Taken). Contains ts t) (takes_noted (log_of w) unit knows (DidLand event)) there) before
      ∙ ap₂ (λ ln (u : Option Taken). told_hold t ln u)
      (sym (line_same i.shape (log_of w 0) (after (log_of w) (Landed unit event) knows 0) (stripes_kept (log_of w 0) (Landed unit event) knows refl).placements
      (KeepsStripes.losses (stripes_kept (log_of w 0) (Landed unit event) knows refl)) t.entry.position)) (sym (later_same (log_of w 0) l t refl));
}

-- ---- the core

-- what a core's lines, its placer and its notes are once a program has landed, where `done` says
-- whether no stripe of its line is left
pub record IsLandedInto (old new : Core) (of : Program) (done : Bool) : Type 0 where
  -- whether its line was Open
  pub sound : Bool
  pub unfailed : (row : Row) → slice_get old.lines.rows of.line ≡ Some row → sound ≡ is_open row.state
  pub lines : new.lines ≡ with_row of.line (full_if (done && sound)) (noted_lines old.holds.rows.items of.line old.lines of.positions)
  pub placer : new.placer ≡ landed old.placer of
  pub holds : new.holds ≡ old.holds
  -- whether the stripe is one of its line's start record
  pub is_start : Bool
  pub start_is : IsTrue is_start ↔ (of.kind ≡ kinds.Start)
  pub notes : (row : LineNote) → slice_get old.notes.rows.items of.line ≡ Some row
      → new.notes.rows.items ≡ slice_set old.notes.rows.items of.line (note_answered done is_start (top_of of.positions) row)
  pub newest : (row : LineNote) → slice_get old.notes.rows.items of.line ≡ Some row → new.notes.newest ≡ newest_landed is_start row old.notes.newest
  pub addresses : new.left ≡ old.left

module _ (i : Image) (w : World) (unit event : ℕ) (knows : List ℕ) (old new : Core) (of : Program) (mid : OpenLines) (done : Bool)
    (mount : IsLegalMount i w) (st : Stands i (log_of w) old) (is : IsOnWay i w unit of)
    (waits : IsAwaited i (log_of w) old.placer.entries.pad st.again of) (may : MayLand (log_of w) unit event)
    (has : HasSlot i (log_of w) old.open is.row.opening)
    (line : IsLineAnswered old.open mid new.open old.resets new.resets old.online.items of.line has.k has.slot 1 done)
    (into : IsLandedInto old new of done) where
  abbrev new_logs : Logs
  new_logs = after (log_of w) (Landed unit event) knows

  entries : AreEntriesOf i w old unit of is
  entries = entries_of_way i w old unit of mount st is

  lines_are : noted_lines old.holds.rows.items of.line old.lines of.positions ≡ note_entries (log_of w 0) of.line (rows_of i (log_of w)) entries.entries
  lines_are = ap₂ (λ (t : Table) (qs : List ℕ). noted_lines old.holds.rows.items of.line t qs) st.table (sym entries.positions)
      ∙ lines_noted_are i.shape (log_of w 0) of.line old.holds.rows.items (rows_of i (log_of w)) entries.entries
      (small_capacity i mount.accepted) refl entries.names entries.rows

  sound_is : into.sound ≡ not (has_failed (log_of w 0) is.row.opening)
  sound_is =
      let inside : is.row.opening.line < length old.lines.rows = line_within i w old unit of st is in
      let row = got_within old.lines.rows is.row.opening.line inside in
      into.unfailed row.0 (ap (slice_get old.lines.rows) (sym (line_of_way i w unit of is)) ∙ row.1)
      ∙ open_unless (has_failed (log_of w 0) is.row.opening) row.0.state (row_state i w old unit of row.0 mount st is row.1)

  whole : have_landed (new_logs 0) is.row.opening (line_end i.shape is.row.opening / i.shape.ws_opt) ≡ (done && into.sound)
  whole = whole_now i w mount unit of is event knows done
      (last i w unit (DidLand event) knows old new of mid done mount st is waits may has line)
      (none_is i w unit (DidLand event) knows old new of mid done mount st is waits may has line)
      ∙ ap (λ b. done && b) (sym sound_is)

  placing_is : new.placer ≡ placing_of i new_logs new.placer.entries.pad st.again
  placing_is =
      into.placer ∙ ap (λ p. landed p of) st.placing
      ∙ sym (ap (λ u. placing_of i (after (log_of w) (Landed u event) knows) old.placer.entries.pad st.again) (sym (unit_is i w unit of is))
      ∙ placing_landed i (log_of w) event knows old.placer.entries.pad st.again of is.line_is.striped.some waits)
      ∙ ap (λ n. placing_of i new_logs n st.again) (sym (ap (λ p. p.entries.pad) into.placer))

  pub landed_stands : IsCounted old.under_way new.under_way old.answers.items new.answers.items of.unit → IsKeptByAnswers old new
      → AreRead i (after (log_of w) (Landed unit event) knows) new → Stands i (after (log_of w) (Landed unit event) knows) new
  landed_stands counts kept reads =
      answered_stands i w unit (DidLand event) knows old new of mid done mount st is waits may has line counts kept (record {
        read = reads;
        table = into.lines ∙ ap (with_row of.line (full_if (done && into.sound))) lines_are
            ∙ sym (table_now i w unit event knows of (done && into.sound) mount is may whole entries.entries entries.own);
        notes = notes_landed i w unit event knows of mount st.beginning st.has_begun is done old.notes new.notes may into.is_start into.start_is
            (gone_is i w unit (DidLand event) knows old new of mid done mount st is waits may has line)
            into.notes into.newest st.notes;
        holds = subst (AreHolds i.shape (new_logs 0)) (sym into.holds) (holds_now i w unit event knows of old.holds mount is st.holds);
        placing = placing_is;
        left = into.addresses ∙ st.left ∙ sym (addresses_kept i (log_of w) (Landed unit event) knows refl);
      })
