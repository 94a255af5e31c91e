-- A core whose program has failed stands for the log with that.
use Rattle.std.specs.Prelude.{slice_get, slice_set}
use Rattle.std.proofs.Common.{◌≡◌, ℕ, ◌+◌, ◌-◌, ◌*◌, ◌/◌, ◌<◌, Bool, true, Some, List, [], ◌∷◌, length, take, refl, sym, subst, ap, ap₂, ◌∙◌, arith}
use Rattle.pblk_model.specs.Image.{Image}
use Rattle.pblk_world.specs.Answering.{MayLose}
use Rattle.pblk_world.specs.Events.{Lost}
use Rattle.pblk_world.specs.World.{World, Logs, log_of}
use Rattle.pblk_world.specs.EngineLog.{WasLost, takes, Opened}
use Rattle.pblk_world.specs.Fronts.{first_position}
use Rattle.pblk_world.specs.Space.{open_addresses, unplaced_in}
use Rattle.stripe_placer.specs.Entries.{Entries, with_entry}
use Rattle.stripe_placer.specs.Placing.{Placing, Program, lost, waits}
use Rattle.line_table.specs.Rows.{Table}
use Rattle.line_table.specs.declared.row.Row.{Row}
use Rattle.pblk_world.specs.LegalMounts.{IsLegalMount}
use Rattle.core_laws.specs.ChangedTables.{failed, with_row}
use Rattle.core_laws.specs.ClosedLines.{top_of}
use Rattle.core_laws.specs.PlacedEntries.{lower_entries}
use Rattle.core_laws.specs.PlacerOf.{IsAwaited, entries_of, placing_of}
use Rattle.core_laws.specs.RowsOf.{rows_of}
use Rattle.core_laws.specs.Stepping.{after}
use Rattle.core_laws.proofs.Landing.{placing_lost}
use Rattle.core_laws.proofs.LogOrders.{in_order, small_capacity}
use Rattle.core_laws.proofs.LostAddresses.{addresses_lost}
use Rattle.core_laws.proofs.LostEntries.{entries_lost, waiting_again}
use Rattle.core_laws.proofs.LostRows.{rows_lost}
use Rattle.core_laws.proofs.LostStripe.{one_lost}
use Rattle.core_laws.proofs.NotedAnswers.{takes_noted}
use Rattle.core_laws.proofs.NextTakes.{rising_by}
use Rattle.core_laws.proofs.PlacedInOrder.{ordered}
use Rattle.pblk_core.specs.LineNotes.{note_added}
use Rattle.pblk_core.specs.LineRecords.{data_left}
use Rattle.pblk_core.specs.Losing.{addresses_in, all_wait, lost_rows, lowered_lines}
use Rattle.pblk_core.specs.Stands.{Stands}
use Rattle.pblk_core.specs.declared.line_notes.LineNote.{LineNote}
use Rattle.pblk_core.specs.declared.open_lines.OpenLine.{OpenLine}
use Rattle.pblk_core.specs.declared.open_lines.OpenLines.{OpenLines}
use Rattle.pblk_core.specs.declared.target_core.Core.{Core}
use Rattle.pblk_core.proofs.AnsweredNotes.{notes_lost}
use Rattle.pblk_core.specs.Answering.{IsCounted, IsKeptByAnswers, IsLineAnswered, closed_when}
use Rattle.pblk_core.proofs.AnsweredNow.{AreRead}
use Rattle.pblk_core.proofs.AnsweredProgram.{chunk_noted}
use Rattle.pblk_core.proofs.StandsAnswered.{answered_stands, gone_is}
use Rattle.pblk_core.proofs.LandedCore.{line_within, positions_are}
use Rattle.pblk_core.proofs.LandedLines.{HasSlot}
use Rattle.pblk_core.proofs.LandedWay.{IsOnWay, line_of_way, unit_is}
use Rattle.pblk_core.proofs.LostBounds.{less_is}
use Rattle.pblk_core.proofs.LostHolds.{holds_lost, lines_lowered_are}
use Rattle.pblk_core.proofs.NotedEntries.{AreEntriesOf, entries_of_way}
use Rattle.pblk_model.proofs.Parts.{got_within}

-- ---- entries that wait again

entries_wait : (p : Placing) (qs : List ℕ)
    → all_wait p qs ≡ record { shape = p.shape; entries = waiting_again p.entries qs; units = p.units; lines = p.lines }
entries_wait p [] = refl
entries_wait p (q ∷ qs) = entries_wait (waits p q true) qs

pad_kept : (e : Entries) (qs : List ℕ) → (waiting_again e qs).pad ≡ e.pad
pad_kept e [] = refl
pad_kept e (q ∷ qs) = pad_kept (with_entry e q true) qs

-- ---- the core

-- what a core's lines, its placer, its entries and its notes are once a program has failed, of which
-- so many blocks were written, where its line had this slot and `done` says whether no stripe of it
-- is left
pub record IsLostInto (old new : Core) (of : Program) (kept : ℕ) (slot : OpenLine) (done : Bool) : Type 0 where
  pub lines : new.lines ≡ with_row of.line failed (lowered_lines old.holds.rows.items of.line old.lines of.positions)
  pub placer : new.placer ≡ all_wait (lost old.placer of) of.positions
  pub holds : new.holds.rows.items ≡ lost_rows old.holds.rows.items of.positions
  pub notes : (row : LineNote) → slice_get old.notes.rows.items of.line ≡ Some row
      → new.notes.rows.items ≡ slice_set old.notes.rows.items of.line (closed_when done (note_added (top_of (take kept of.positions)) row))
  pub newest : new.notes.newest ≡ old.notes.newest
  pub addresses : (row : Row) → slice_get old.lines.rows of.line ≡ Some row → new.left ≡ old.left - addresses_in row.state (data_left slot.records)

module _ (i : Image) (w : World) (unit event : ℕ) (knows : List ℕ) (old new : Core) (of : Program) (kept : ℕ) (mid : OpenLines) (done : Bool)
    (mount : IsLegalMount i w) (st : Stands i (log_of w) old) (is : IsOnWay i w unit of)
    (waits : IsAwaited i (log_of w) old.placer.entries.pad st.again of) (may : MayLose (log_of w) unit event)
    (kept_is : kept ≡ may.landed_before * i.shape.ws_min)
    (has : HasSlot i (log_of w) old.open is.row.opening)
    (line : IsLineAnswered old.open mid new.open old.resets new.resets old.online.items of.line has.k has.slot
    ((i.shape.clba - of.block) / i.shape.ws_opt) done)
    (into : IsLostInto old new of kept has.slot done) where
  abbrev new_logs : Logs
  new_logs = after (log_of w) (Lost unit event) knows

  entries : AreEntriesOf i w old unit of is
  entries = entries_of_way i w old unit of mount st is

  its_line : of.line ≡ is.row.stripe.stripe.line
  its_line = sym (line_of_way i w unit of is) ∙ is.its_line

  line_inside : is.row.stripe.stripe.line < i.shape.chunks
  line_inside = subst (λ n. n < i.shape.chunks) is.its_line is.line_is.well.in_range

  -- ---- the table

  lines_are : lowered_lines old.holds.rows.items of.line old.lines of.positions ≡ lower_entries (log_of w 0) of.line (rows_of i (log_of w)) entries.entries
  lines_are = ap₂ (λ (t : Table) (qs : List ℕ). lowered_lines old.holds.rows.items of.line t qs) st.table (sym entries.positions)
      ∙ lines_lowered_are i.shape (log_of w 0) of.line old.holds.rows.items (rows_of i (log_of w)) entries.entries
      (small_capacity i mount.accepted) refl entries.names entries.rows

  table_now : rows_of i (after (log_of w) (Lost unit event) knows)
      ≡ with_row of.line failed (lower_entries (log_of w 0) of.line (rows_of i (log_of w)) entries.entries)
  table_now =
      let order = in_order i w mount in
      rows_lost i (log_of w) unit event knows is.row.stripe is.row.opening order.freed (ordered i w mount).once is.row.waits is.row.life is.stands
      (chunk_noted i w unit (WasLost event) knows is.row.stripe mount may is.row.waits)
      (rising_by (first_position (log_of w 0)) (length (takes (log_of w 0))) (takes (log_of w 0)) order.numbered) entries.its
      ∙ ap₂ (λ n ts. with_row n failed (lower_entries (log_of w 0) n (rows_of i (log_of w)) ts)) (sym its_line) entries.are

  -- ---- addresses

  row : (r : Row) × (slice_get old.lines.rows of.line ≡ Some r)
  row = got_within old.lines.rows of.line (subst (λ n. n < length old.lines.rows) (line_of_way i w unit of is) (line_within i w old unit of st is))

  addresses_are : new.left ≡ open_addresses i (after (log_of w) (Lost unit event) knows)
  addresses_are =
      let all : open_addresses i (log_of w) ≡ open_addresses i (after (log_of w) (Lost unit event) knows)
      + unplaced_in i.shape (log_of w 0) (Opened is.row.opening) =
      addresses_lost i (log_of w) unit event knows is.row.stripe is.row.opening line_inside is.row.waits is.row.life is.stands in
      let now : new.left ≡ old.left - addresses_in row.0.state (data_left has.slot.records) =
      into.addresses row.0 row.1 in
      let was : old.left ≡ open_addresses i (log_of w) = st.left in
      let less : addresses_in row.0.state (data_left has.slot.records) ≡ unplaced_in i.shape (log_of w 0) (Opened is.row.opening) =
      less_is i w old unit of mount st is has row.0 row.1 in
      minus new.left old.left (open_addresses i (log_of w)) (open_addresses i (after (log_of w) (Lost unit event) knows))
      (addresses_in row.0.state (data_left has.slot.records)) (unplaced_in i.shape (log_of w 0) (Opened is.row.opening)) now was all less
    where
      minus : (a b c d x y : ℕ) → a ≡ b - x → b ≡ c → c ≡ d + y → x ≡ y → a ≡ d
      minus a b c d x y e f g h = omega arith

  -- ---- the placer

  own_pad : new.placer.entries.pad ≡ old.placer.entries.pad
  own_pad = ap (λ p. p.entries.pad) (into.placer ∙ entries_wait (lost old.placer of) of.positions) ∙ pad_kept old.placer.entries of.positions

  entries_are : entries_of i.shape (after (log_of w) (Lost unit event) knows 0) old.placer.entries.pad ≡ waiting_again old.placer.entries of.positions
  entries_are =
      entries_lost i.shape (log_of w 0) (after (log_of w) (Lost unit event) knows 0) is.row.stripe old.placer.entries.pad (ordered i w mount).once
      (rising_by (first_position (log_of w 0)) (length (takes (log_of w 0))) (takes (log_of w 0)) (in_order i w mount).numbered)
      (takes_noted (log_of w) unit knows (WasLost event)) entries.its
      (one_lost (log_of w 0) unit event knows is.row.stripe is.row.waits)
      ∙ ap₂ (λ (e : Entries) qs. waiting_again e qs) (sym (ap (λ p. p.entries) st.placing)) (sym (positions_are i w unit of is))

  placing_is : new.placer ≡ placing_of i new_logs new.placer.entries.pad st.again
  placing_is =
      into.placer ∙ entries_wait (lost old.placer of) of.positions
      ∙ ap₂ (λ (p : Placing) (es : Entries). record { shape = p.shape; entries = es; units = p.units; lines = p.lines })
      (ap (λ p. lost p of) st.placing) (sym entries_are)
      ∙ sym (ap (λ u. placing_of i (after (log_of w) (Lost u event) knows) old.placer.entries.pad st.again) (sym (unit_is i w unit of is))
      ∙ placing_lost i (log_of w) event knows old.placer.entries.pad st.again of is.line_is.striped.some waits
      ∙ ap (λ u. record (lost (placing_of i (log_of w) old.placer.entries.pad st.again) of)
      { entries = entries_of i.shape (after (log_of w) (Lost u event) knows 0) old.placer.entries.pad }) (unit_is i w unit of is))
      ∙ ap (λ n. placing_of i new_logs n st.again) (sym own_pad)

  pub lost_stands : IsCounted old.under_way new.under_way old.answers.items new.answers.items of.unit → IsKeptByAnswers old new
      → AreRead i (after (log_of w) (Lost unit event) knows) new → Stands i (after (log_of w) (Lost unit event) knows) new
  lost_stands counts keeps reads =
      answered_stands i w unit (WasLost event) knows old new of mid done mount st is waits may has line counts keeps (record {
        read = reads;
        table = into.lines ∙ ap (with_row of.line failed) lines_are ∙ sym table_now;
        notes = notes_lost i w unit event knows of mount st.beginning st.has_begun is done old.notes new.notes may kept kept_is
            (gone_is i w unit (WasLost event) knows old new of mid done mount st is waits may has line)
            into.notes into.newest st.notes;
        holds = holds_lost i w old unit event knows of mount st is entries new.holds into.holds;
        placing = placing_is;
        left = addresses_are;
      })
