-- What the tables must have of a stripe that is lost: its line has as many live sectors as its
-- entries are, and the drive as many data addresses as its line loses.
use Rattle.std.proofs.Common.{◌≡◌, ℕ, ◌+◌, ◌-◌, ◌<◌, ◌≤◌, max, min, suc, Bool, true, false, None, List, [], length, le_refl, refl, sym, subst, ap, ap₂, ◌∙◌, arith, if◌then◌else◌}
use Rattle.std.specs.Prelude.{slice_get}
use Rattle.std.specs.Option.{option_and_then}
use Rattle.std.proofs.lemmas.Option.{none-some}
use Rattle.pblk_model.specs.declared.chunk.Mark.{Mark}
use Rattle.pblk_model.specs.LineOrder.{data_len, start_len}
use Rattle.pblk_model.specs.Image.{Image}
use Rattle.pblk_world.specs.EngineLog.{has_failed, Opened, takes}
use Rattle.pblk_world.specs.Fronts.{first_position}
use Rattle.pblk_world.specs.Placing.{data_marks, end_address, next_address}
use Rattle.pblk_world.specs.Space.{open_addresses, unplaced_in}
use Rattle.pblk_world.specs.Events.{Logged, Lost}
use Rattle.pblk_world.specs.World.{World, log_of, unit_event_at, unit_event_of}
use Rattle.line_table.specs.declared.row.LineState.TheVariants.{Failed, Open}
use Rattle.line_table.specs.declared.row.Row.{Row}
use Rattle.line_table.specs.Rows.{IsRow, Table}
use Rattle.stripe_placer.specs.Placing.{Program}
use Rattle.pblk_world.specs.LegalMounts.{IsLegalMount}
use Rattle.core_laws.specs.Stepping.{after}
use Rattle.core_laws.proofs.LostAddresses.{addresses_lost}
use Rattle.core_laws.proofs.LostRows.{live_lost}
use Rattle.core_laws.proofs.LoweredTables.{counted}
use Rattle.pblk_model.proofs.Parts.{get_past}
use Rattle.pblk_core.specs.LineRecords.{data_left}
use Rattle.pblk_core.specs.Losing.{addresses_in, live_among}
use Rattle.pblk_core.specs.Stands.{Stands}
use Rattle.pblk_core.specs.declared.target_core.Core.{Core}
use Rattle.pblk_core.proofs.LandedCore.{row_state}
use Rattle.pblk_core.proofs.LandedLines.{HasSlot}
use Rattle.pblk_core.proofs.LandedWay.{IsOnWay, line_of_way}
use Rattle.pblk_core.proofs.LoweredLines.{live_counted}
use Rattle.pblk_core.proofs.NotedEntries.{AreEntriesOf, entries_of_way}
use Rattle.core_laws.proofs.LogOrders.{in_order, small_capacity}
use Rattle.core_laws.proofs.NextTakes.{rising_by}
use Rattle.core_laws.proofs.PlacedInOrder.{ordered}
use Rattle.core_laws.proofs.StripeBlocks.{have_blocks, marks_counted}
use Rattle.pblk_core.proofs.WholeMarks.{marks_all}

module _ (i : Image) (w : World) (c : Core) (unit : ℕ) (of : Program) (mount : IsLegalMount i w) (st : Stands i (log_of w) c) (is : IsOnWay i w unit of) where
  its_line : of.line ≡ is.row.stripe.stripe.line
  its_line = sym (line_of_way i w unit of is) ∙ is.its_line

  -- ---- data addresses

  module _ (has : HasSlot i (log_of w) c.open is.row.opening) (row : Row) (there : IsRow c.lines of.line row) where
    -- those that it loses are those of its line that are left
    pub less_is : addresses_in row.state (data_left has.slot.records) ≡ unplaced_in i.shape (log_of w 0) (Opened is.row.opening)
    less_is =
        ap (λ s. addresses_in s (data_left has.slot.records))
        (row_state i w c unit of row mount st is (ap (slice_get c.lines.rows) (line_of_way i w unit of is) ∙ there))
        ∙ go (has_failed (log_of w 0) is.row.opening) refl
      where
        go : (b : Bool) → has_failed (log_of w 0) is.row.opening ≡ b
            → addresses_in (if b then Failed else Open) (data_left has.slot.records)
            ≡ (if b then 0 else end_address i.shape is.row.opening - max (start_len i.shape) (next_address i.shape (log_of w 0) is.row.opening))
        go true e = refl
        go false e =
            let count : length (data_marks i.shape (log_of w 0) is.row.opening)
            ≡ min (data_len i.shape is.row.opening.start.width) (next_address i.shape (log_of w 0) is.row.opening - start_len i.shape) =
            marks_counted i.shape (log_of w 0) is.row.opening (have_blocks i w mount.accepted mount.legal) in
            let own : length has.slot.records.marks ≡ length (data_marks i.shape (log_of w 0) is.row.opening) =
            ap (λ (ms : List Mark). length ms) (has.is.records.marks ∙ marks_all i.shape (log_of w 0) is.row.opening e) in
            let long : data_len has.slot.records.shape has.slot.records.width ≡ data_len i.shape is.row.opening.start.width =
            ap₂ data_len has.is.records.shape has.is.records.width in
            let end : end_address i.shape is.row.opening ≡ start_len i.shape + data_len i.shape is.row.opening.start.width = refl in
            omega arith

    pub addresses_enough : addresses_in row.state (data_left has.slot.records) ≤ c.left
    addresses_enough =
        let all : open_addresses i (log_of w)
        ≡ open_addresses i (after (log_of w) (Lost unit 0) []) + unplaced_in i.shape (log_of w 0) (Opened is.row.opening) =
        addresses_lost i (log_of w) unit 0 [] is.row.stripe is.row.opening (subst (λ n. n < i.shape.chunks) is.its_line is.line_is.well.in_range)
        is.row.waits is.row.life is.stands in
        let was : c.left ≡ open_addresses i (log_of w) = st.left in
        omega (arith, less_is)

  -- ---- live sectors

  pub live_enough : (row : Row) → IsRow c.lines of.line row → live_among c.holds.rows.items of.positions ≤ row.live
  live_enough row there =
      let log : List Logged = log_of w 0 in
      let past : ℕ = length (log_of w (suc unit)) in
      let entries : AreEntriesOf i w c unit of is = entries_of_way i w c unit of mount st is in
      let order = in_order i w mount in
      let nothing : unit_event_at (log_of w) unit past ≡ None =
      ap (option_and_then (λ (l : Logged). unit_event_of l.event)) (get_past (log_of w (suc unit)) past (le_refl past)) in
      let low : counted log i.shape.capacity entries.its.entries ≤ row.live =
      live_lost i (log_of w) unit past [] is.row.stripe is.row.opening order.freed (ordered i w mount).once is.row.waits is.row.life is.stands
      (λ e at. absurd (none-some e (sym nothing ∙ at)))
      (rising_by (first_position log) (length (takes log)) (takes log) order.numbered) entries.its row
      (ap₂ (λ (t : Table) n. slice_get t.rows n) (sym st.table) (sym its_line) ∙ there) in
      let same : live_among c.holds.rows.items of.positions ≡ counted log i.shape.capacity entries.its.entries =
      ap (live_among c.holds.rows.items) (sym entries.positions)
      ∙ live_counted i.shape log c.holds.rows.items entries.entries (small_capacity i mount.accepted) entries.names entries.rows
      ∙ ap (counted log i.shape.capacity) (sym entries.are) in
      omega arith
