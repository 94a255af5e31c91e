use Rattle.std.proofs.Common.{◌≡◌, ◌≢◌, ℕ, ◌-◌, ◌/◌, ◌^◌, if◌then◌else◌, ◌<◌, ◌≤◌, Bool, true, false, Some, List, [], length, take, refl, sym, subst, subst₂, ap, ap₂, ◌∙◌, arith}
use Rattle.std.specs.Prelude.{min, slice_get, slice_set}
use Rattle.std.specs.List.{Contains, filter_map}
use Rattle.std.proofs.lemmas.Option.{same_Some}
use Rattle.pblk_model.specs.declared.shape.Shape.{Shape}
use Rattle.pblk_model.specs.declared.chunk.Mark.{Mark}
use Rattle.pblk_model.specs.Shape.{units}
use Rattle.pblk_model.specs.Blocks.{blocks_of}
use Rattle.pblk_world.specs.EngineLog.{WasLost, has_failed}
use Rattle.pblk_world.specs.Victims.{position_in}
use Rattle.pblk_world.specs.World.{log_of}
use Rattle.line_table.specs.declared.row.LineState.{LineState}
use Rattle.line_table.specs.declared.row.LineState.TheVariants as states
use Rattle.line_table.specs.declared.row.Row.{Row}
use Rattle.line_table.specs.Rows.{IsRow, Table}
use Rattle.stripe_placer.specs.Placing.{Program, Placing, program, lost as stripe_lost, held, lost}
use Rattle.stripe_placer.specs.Placing.UnitRow.{Idle, UnderWay}
use Rattle.core_laws.specs.ChangedTables.{failed, with_row}
use Rattle.core_laws.specs.ClosedLines.{top_of}
use Rattle.core_laws.specs.OpenedLines.{open_line}
use Rattle.core_laws.proofs.HistorySectors.{set_length}
use Rattle.pblk_model.proofs.Parts.{got_within, get_set_other}
use Rattle.pblk_core.specs.Answering.{IsAnsweredInto, IsLineAnswered, closed_when}
use Rattle.pblk_core.specs.Keeping.{KeepsFrames}
use Rattle.pblk_core.specs.LineNotes.{note_added}
use Rattle.pblk_core.specs.LineRecords.{data_left}
use Rattle.pblk_core.specs.Losing.{addresses_in, all_wait, live_among, lost_rows, lowered_lines, positions_of_marks, HasRoomFor}
use Rattle.pblk_core.specs.Readable.{all_moved, all_readable, reads_of}
use Rattle.pblk_core.specs.Stands.{stripes_left}
use Rattle.pblk_core.specs.declared.hold.Holds.{Holds}
use Rattle.pblk_core.specs.declared.line_notes.LineNote.{LineNote}
use Rattle.pblk_core.specs.declared.open_lines.OpenLine.{OpenLine}
use Rattle.pblk_core.specs.declared.target_core.Core.{Core}
use Rattle.pblk_core.proofs.AnsweredLines.{answered_open}
use Rattle.pblk_core.proofs.AnsweredNotes.{take_fewer}
use Rattle.pblk_core.proofs.AnsweredNow.{are_read}
use Rattle.pblk_core.proofs.BarrenLines.{brings_none, set_unclosed}
use Rattle.pblk_core.proofs.KeptFrames.{read_frames}
use Rattle.pblk_core.proofs.LandedCore.{block_within, count_is, got_line, row_state}
use Rattle.pblk_core.proofs.LandedKinds.{chunk_is_read}
use Rattle.pblk_core.proofs.LandedReads.{lost_range}
use Rattle.pblk_core.proofs.LandedWay.{line_of_way}
use Rattle.pblk_core.proofs.LostBounds.{addresses_enough, live_enough}
use Rattle.pblk_core.proofs.LostRoom.{held_apart, held_in_ring, marks_positions, room_for_lost}
use Rattle.pblk_core.proofs.LostTables.{lost_reads_held, lost_slots, lost_window}
use Rattle.pblk_core.proofs.LoweredLines.{failed_elsewhere, failed_length, lowered_elsewhere, lowered_length, lowered_row, lowered_shape, wait_pad, wait_units}
use Rattle.pblk_core.proofs.NotedEntries.{IsLike}
use Rattle.pblk_core.proofs.StripeUnderWay.{beside_now, chunk_ends, each_was, few_units, here, idle_now, its, its_core, its_slot, line_in, line_is_noted, positions_told, row_of_it, some_rows, unclosed, unit_within, was_there}
use Rattle.pblk_core.proofs.StandsLost.{IsLostInto, lost_stands}
use Rattle.pblk_core.proofs.TabledLines.{each_kept}
use Rattle.pblk_core.proofs.target_core.Core.note_lost.Goals as goal
use Rattle.pblk_core.proofs.target_core.Core.note_lost.Goals.{After-positions-positions, After-answer-told, After-wait_again}

pub positions-positions-requires : goal.positions-positions-requires
positions-positions-requires c = unit_within c.requires.standing c.place_of-of.ensures

-- the positions of its entries
its_positions : (c : After-positions-positions)
    → c.positions-positions.result.now ≡ Program.positions (program c.args.self.now.placer c.place_of-of.result)
its_positions c = positions_told c.requires.standing c.place_of-of.ensures c.positions-positions.result.now c.positions-positions.ensures

pub lower_lines-requires-clause-rows : goal.lower_lines-requires-clause-rows
lower_lines-requires-clause-rows c = some_rows c.requires.standing c.place_of-of.ensures

pub lower_lines-requires-clause-inside : goal.lower_lines-requires-clause-inside
lower_lines-requires-clause-inside c = line_in c.requires.standing c.place_of-of.ensures

pub lower_lines-requires-clause-some : goal.lower_lines-requires-clause-some
lower_lines-requires-clause-some c = λ row there.
    let sd = c.requires.standing in
    let at = (goal.at.lower_lines-requires-clause-some c).After-positions-positions in
    subst (λ qs. live_among c.args.self.now.holds.rows.items qs ≤ row.live) (sym (its_positions at))
    (live_enough sd.image sd.world c.args.self.now _ (program c.args.self.now.placer c.place_of-of.result) sd.legal sd.stands
    (its sd c.place_of-of.ensures).is row there)

pub unsettle_holds-requires : goal.unsettle_holds-requires
unsettle_holds-requires c = record { rows = some_rows c.requires.standing c.place_of-of.ensures }

-- ---- the rest of its chunk

pub overflow_sub-stripes : goal.overflow_sub-stripes
overflow_sub-stripes c =
    let ends = chunk_ends c.requires.standing c.place_of-of.ensures in
    subst (λ (s : Shape). c.place_of-of.result.block ≤ s.clba) (sym c.shape-shape.ensures.shape) (omega (arith, ends))

pub nonzero_div-stripes : goal.nonzero_div-stripes
nonzero_div-stripes c = subst (λ (s : Shape). 0 < s.ws_opt) (sym c.shape-shape.ensures.shape) c.shape-shape.ensures.accepted.drive.ws_opt

-- ---- the answer

pub answer-told-requires-clause-standing : goal.answer-told-requires-clause-standing
answer-told-requires-clause-standing c =
    let core : Core = c.args.self.now in
    record { lines = core.lines; window = core.window; holds = core.holds; notes = core.notes; standing = c.requires.standing }

pub answer-told-requires-clause-under_way : goal.answer-told-requires-clause-under_way
answer-told-requires-clause-under_way c = here c.requires.standing c.place_of-of.ensures

pub answer-told-requires-clause-written : goal.answer-told-requires-clause-written
answer-told-requires-clause-written c =
    let least : c.min.result ≡ min c.place_of-of.result.count c.args.kept = c.min.ensures in
    omega arith

pub answer-told-requires-clause-noted : goal.answer-told-requires-clause-noted
answer-told-requires-clause-noted c = line_is_noted c.requires.standing c.place_of-of.ensures

pub answer-told-requires-clause-held : goal.answer-told-requires-clause-held
answer-told-requires-clause-held c = λ k slot found.
    let sd = c.requires.standing in
    let unit : ℕ = c.args.stripe.now.stripe.unit in
    let of : Program = program c.args.self.now.placer c.place_of-of.result in
    let from : ℕ = c.saturating_sub-from.result in
    let block : ℕ = c.place_of-of.result.block in
    let mine = its sd c.place_of-of.ensures in
    let same : sd.image.shape ≡ c.shape-shape.result.now = sym (c.shape-shape.ensures.shape ∙ sd.stands.layout) in
    let range = lost_range sd.image.shape block from mine.is.line_is.striped.some (block_within sd.image sd.world unit of sd.legal mine.is)
    (c.saturating_sub-from.ensures ∙ ap (λ (s : Shape). block - s.mw_cunits) (sym same)) in
    let chunk = chunk_is_read sd.image sd.world unit of mine.has.slot sd.legal mine.is mine.has.is in
    λ b there. lost_reads_held sd.image sd.world c.args.self.now unit of mine.has.slot from block sd.legal sd.stands mine.is range chunk b
    (subst (λ (l : OpenLine). Contains (reads_of l unit from block) b) (its_slot sd c.place_of-of.ensures k slot found).slot
    (subst (λ u. Contains (reads_of slot u from block) b) c.place_of-of.ensures.its_unit there))

pub answer-told-requires-clause-stripes : goal.answer-told-requires-clause-stripes
answer-told-requires-clause-stripes c = λ k slot found.
    let sd = c.requires.standing in
    let core : Core = c.args.self.now in
    let mine = its sd c.place_of-of.ensures in
    let shape : sd.image.shape ≡ c.shape-shape.result.now = sym (c.shape-shape.ensures.shape ∙ sd.stands.layout) in
    let fewer = (answered_open sd.image sd.world sd.legal c.args.stripe.now.stripe.unit [] core.placer.entries.pad sd.stands.again
    (program core.placer c.place_of-of.result) mine.is (mine.waits sd.stands.again sd.stands.placing) (WasLost 0)).fewer in
    let left : mine.has.slot.stripes_left ≡ stripes_left (open_line sd.image (log_of sd.world) mine.is.row.opening) = mine.has.is.left in
    subst (λ (l : OpenLine). (c.shape-shape.result.now.clba - c.place_of-of.result.block) / c.shape-shape.result.now.ws_opt ≤ l.stripes_left)
    (sym (its_slot sd c.place_of-of.ensures k slot found).slot)
    (subst (λ (s : Shape). (s.clba - c.place_of-of.result.block) / s.ws_opt ≤ mine.has.slot.stripes_left) shape (omega (arith, fewer, left)))

-- ---- its line is Failed

lowered_table : (c : After-answer-told) → c.answer-told.new.self.lines
    ≡ lowered_lines c.args.self.now.holds.rows.items c.place_of-of.result.line c.args.self.now.lines c.positions-positions.result.now
lowered_table c = c.answer-told.ensures.lines ∙ c.lower_lines.ensures

-- the row of its line once its entries have left it
lowered_there : (c : After-answer-told) → (old : Row) × IsRow c.args.self.now.lines c.place_of-of.result.line old
    × ((row : Row) → IsRow c.answer-told.new.self.lines c.place_of-of.result.line row → IsLike old row)
lowered_there c =
    let core : Core = c.args.self.now in
    let line : ℕ = c.place_of-of.result.line in
    let old = got_within core.lines.rows line (line_in c.requires.standing c.place_of-of.ensures) in
    let now = lowered_row core.holds.rows.items line c.positions-positions.result.now core.lines old.0 old.1 in (
      old.0,
      old.1,
      λ row there. subst (IsLike old.0)
          (same_Some now.0 row (sym now.1 ∙ ap (λ (t : Table). slice_get t.rows line) (sym (lowered_table c)) ∙ there)) now.2,
    )

lowered_in : (c : After-answer-told) → c.place_of-of.result.line < length c.answer-told.new.self.lines.rows
lowered_in c =
    subst (λ n. c.place_of-of.result.line < n)
    (sym (ap (λ (t : Table). length t.rows) (lowered_table c)
    ∙ lowered_length c.args.self.now.holds.rows.items c.place_of-of.result.line c.positions-positions.result.now c.args.self.now.lines))
    (line_in c.requires.standing c.place_of-of.ensures)

pub fail_line-requires-clause-inside : goal.fail_line-requires-clause-inside
fail_line-requires-clause-inside c = lowered_in (goal.at.fail_line-requires-clause-inside c).After-answer-told

-- a line is Open, if it isn't Failed
unless_failed : (b : Bool) (s : LineState) → s ≡ (if b then states.Failed else states.Open) → s ≢ states.Failed → s ≡ states.Open
unless_failed true s is other = absurd (other is)
unless_failed false s is other = is

pub fail_line-requires-clause-open : goal.fail_line-requires-clause-open
fail_line-requires-clause-open c = λ row there other.
    let sd = c.requires.standing in
    let unit : ℕ = c.args.stripe.now.stripe.unit in
    let of : Program = program c.args.self.now.placer c.place_of-of.result in
    let mine = its sd c.place_of-of.ensures in
    let was = lowered_there (goal.at.fail_line-requires-clause-open c).After-answer-told in
    let its_line = ap (slice_get c.args.self.now.lines.rows) (line_of_way sd.image sd.world unit of mine.is) in
    unless_failed (has_failed (log_of sd.world 0) mine.is.row.opening) row.state
    ((was.2 row there).state ∙ row_state sd.image sd.world c.args.self.now unit of was.0 sd.legal sd.stands mine.is (its_line ∙ was.1))
    other

pub fail_line-requires-clause-width : goal.fail_line-requires-clause-width
fail_line-requires-clause-width c = λ row there.
    let told = c.answer-told.ensures in
    let was = lowered_there (goal.at.fail_line-requires-clause-width c).After-answer-told in
    let wide = row_of_it c.requires.standing c.place_of-of.ensures told.k c.answer-told.result.online told.slot told.found told.online in
    (was.2 row there).width ∙ ap (λ (r : Row). r.width) (same_Some was.0 wide.0 (sym was.1 ∙ wide.1)) ∙ sym wide.2

pub fail_line-requires-clause-online : goal.fail_line-requires-clause-online
fail_line-requires-clause-online c =
    let told = c.answer-told.ensures in
    subst (λ s. c.answer-told.result.online < 2 ^ units s) (sym told.kept.layout)
    (few_units c.requires.standing c.place_of-of.ensures told.k c.answer-told.result.online told.slot told.found told.online)

pub fail_line-requires-clause-shape : goal.fail_line-requires-clause-shape
fail_line-requires-clause-shape c =
    let sd = c.requires.standing in
    let at = goal.at.fail_line-requires-clause-shape c in
    ap (λ (t : Table). t.shape) (lowered_table at.After-answer-told)
    ∙ lowered_shape c.args.self.now.holds.rows.items c.place_of-of.result.line c.positions-positions.result.now c.args.self.now.lines
    ∙ ap (λ (t : Table). t.shape) sd.stands.table ∙ sym sd.stands.layout ∙ sym c.answer-told.ensures.kept.layout

pub overflow_sub-self : goal.overflow_sub-self
overflow_sub-self c =
    let sd = c.requires.standing in
    let at = (goal.at.overflow_sub-self c).After-answer-told in
    let core : Core = c.args.self.now in
    let mine = its sd c.place_of-of.ensures in
    let answered = c.answer-told.ensures in
    let slot_is = (its_slot sd c.place_of-of.ensures answered.k answered.slot answered.found).slot in
    let was = lowered_there at in
    let now = got_within c.answer-told.new.self.lines.rows c.place_of-of.result.line (lowered_in at) in
    let less : addresses_in was.0.state (data_left mine.has.slot.records) ≤ core.left = addresses_enough sd.image sd.world core _
    (program core.placer c.place_of-of.result) sd.legal sd.stands mine.is mine.has was.0 was.1 in
    let told : c.fail_line.result ≡ addresses_in was.0.state (data_left mine.has.slot.records) = c.fail_line.ensures.addresses now.0 now.1
    ∙ ap₂ addresses_in (was.2 now.0 now.1).state (answered.data_left ∙ ap (λ (l : OpenLine). data_left l.records) slot_is) in
    let left : c.answer-told.new.self.left ≡ c.args.self.now.left = answered.left in
    omega arith

pub lost-requires : goal.lost-requires
lost-requires c =
    subst (λ (p : Placing). slice_get p.units c.place_of-of.result.unit ≡ Some (UnderWay (program p c.place_of-of.result))) (sym c.answer-told.ensures.placer)
    (here c.requires.standing c.place_of-of.ensures)

-- its marks bear them
its_marks : (c : After-answer-told) (shape : Shape) (bytes : List ℕ) (marks : List Mark) → shape ≡ c.args.self.now.layout
    → blocks_of c.args.stripe.now.shape.sector bytes marks ≡ c.args.stripe.now.stripe.blocks
    → positions_of_marks shape marks ≡ Program.positions (program c.args.self.now.placer c.place_of-of.result)
its_marks c shape bytes marks same whole =
    ap (λ (s : Shape). positions_of_marks s marks) same
    ∙ marks_positions c.args.self.now.layout c.args.stripe.now.shape.sector bytes marks
    ∙ ap (filter_map (position_in c.args.self.now.layout)) whole
    ∙ c.requires.entries (program c.args.self.now.placer c.place_of-of.result) c.place_of-of.ensures.row

placer_lost : (c : After-answer-told) (new : Placing)
    → new ≡ stripe_lost c.answer-told.new.self.placer (program c.answer-told.new.self.placer c.place_of-of.result)
    → new ≡ stripe_lost c.args.self.now.placer (program c.args.self.now.placer c.place_of-of.result)
placer_lost c new is = is ∙ ap (λ (p : Placing). stripe_lost p (program p c.place_of-of.result)) c.answer-told.ensures.placer

pub wait_again-requires : goal.wait_again-requires
wait_again-requires c =
    let sd = c.requires.standing in
    let at = (goal.at.wait_again-requires c).After-answer-told in
    let core : Core = c.args.self.now in
    let of : Program = program core.placer c.place_of-of.result in
    let positions : positions_of_marks c.shape.result.now c.parts.result.1.now ≡ of.positions =
    its_marks at c.shape.result.now c.parts.result.0.now c.parts.result.1.now (c.shape.ensures.shape ∙ c.answer-told.ensures.kept.layout)
    c.parts.ensures.blocks in
    let few : length (held core.placer) ≤ core.placer.shape.ring =
    subst (λ (s : Shape). length (held core.placer) ≤ s.ring) (sym (ap (λ (p : Placing). p.shape) sd.stands.placing))
    (held_in_ring sd.image sd.world core sd.legal sd.stands) in
    record {
      room = subst (λ (p : Placing). HasRoomFor p (positions_of_marks c.shape.result.now c.parts.result.1.now))
          (sym (placer_lost at c.lost.new.self c.lost.ensures))
          (subst (HasRoomFor (lost core.placer of)) (sym positions)
          (room_for_lost core.placer of (here sd c.place_of-of.ensures) few (held_apart sd.image sd.world core sd.legal sd.stands)));
    }

-- ---- the core stands for the log with that

pub returns-clause-stands : goal.returns-clause-stands
returns-clause-stands c =
    let at = goal.at.returns-clause-stands c in
    let core : Core = c.args.self.now in
    let unit : ℕ = c.args.stripe.now.stripe.unit in
    let of : Program = program core.placer c.place_of-of.result in
    let from : ℕ = c.saturating_sub-from.result in
    let positions = its_positions at.After-positions-positions in
    let told : IsAnsweredInto _ c.answer-told.new.self of c.min.result from of.block _ c.answer-told.result = c.answer-told.ensures in
    let marks : positions_of_marks c.shape.result.now c.parts.result.1.now ≡ of.positions =
    its_marks at.After-answer-told c.shape.result.now c.parts.result.0.now c.parts.result.1.now (c.shape.ensures.shape ∙ told.kept.layout)
    c.parts.ensures.blocks in
    λ i w event knows mount st may kept_is.
    let its = its_core c.requires.standing c.place_of-of.ensures i w mount st in
    let got_is = got_line i w core unit of told.k told.slot st its told.found in
    let same : c.shape-shape.result.now ≡ i.shape = c.shape-shape.ensures.shape ∙ st.layout in
    let range = lost_range i.shape of.block from its.is.line_is.striped.some (block_within i w unit of mount its.is)
    (c.saturating_sub-from.ensures ∙ ap (λ (s : Shape). of.block - s.mw_cunits) same) in
    let chunk = chunk_is_read i w unit of its.has.slot mount its.is its.has.is in
    let written : take c.min.result of.positions ≡ take c.args.kept of.positions =
    ap (λ n. take n of.positions) (c.min.ensures ∙ ap (λ n. min n c.args.kept) (sym (count_is i w unit of its.is))) ∙ take_fewer c.args.kept of.positions in
    let line = subst (λ (s : Shape). IsLineAnswered core.open told.mid c.answer-told.new.self.open core.resets c.answer-told.new.self.resets
    core.online.items of.line its.has.k its.has.slot ((s.clba - of.block) / s.ws_opt) c.answer-told.result.is_done) same
    (subst₂ (λ k slot. IsLineAnswered core.open told.mid c.answer-told.new.self.open core.resets c.answer-told.new.self.resets core.online.items of.line k
    slot ((c.shape-shape.result.now.clba - of.block) / c.shape-shape.result.now.ws_opt) c.answer-told.result.is_done) got_is.index got_is.slot told.line) in
    let into : IsLostInto core _ of c.args.kept its.has.slot c.answer-told.result.is_done = record {
      lines = c.fail_line.ensures.lines
          ∙ ap (with_row of.line failed) (lowered_table at.After-answer-told ∙ ap (lowered_lines core.holds.rows.items of.line core.lines) positions);
      holds = ap (λ (h : Holds). h.rows.items) told.holds ∙ c.unsettle_holds.ensures ∙ ap (lost_rows core.holds.rows.items) positions;
      placer = c.wait_again.ensures
          ∙ ap₂ (λ (p : Placing) qs. all_wait p qs) (placer_lost at.After-answer-told c.lost.new.self c.lost.ensures) marks;
      notes = λ row there. told.notes row there ∙ ap (λ qs. slice_set core.notes.rows.items of.line (closed_when c.answer-told.result.is_done
          (note_added (top_of qs) row))) written;
      newest = told.newest;
      addresses = λ row there.
          let now = lowered_row core.holds.rows.items of.line c.positions-positions.result.now core.lines row there in
          ap₂ (λ m n. m - n) told.left
          (c.fail_line.ensures.addresses now.0 (ap (λ (t : Table). slice_get t.rows of.line) (lowered_table at.After-answer-told) ∙ now.1)
          ∙ ap₂ addresses_in now.2.state (told.data_left ∙ ap (λ (l : OpenLine). data_left l.records) got_is.slot));
    } in
    lost_stands i w unit event knows core _ of c.args.kept told.mid c.answer-told.result.is_done mount st its.is (its.waits st.again st.placing) may kept_is
    its.has line into told.counts
    (record {
      layout = told.kept.layout;
      online = told.kept.online;
      start = told.kept.start;
      first = told.kept.first;
      placed = told.kept.placed;
      users = told.kept.users;
      collection = told.kept.collection;
    })
    (are_read i w unit (WasLost event) knows core _ of its.has.slot from of.block core.window mount st may its.is
    (told.map ∙ ap (λ (l : OpenLine). all_moved core.layout.capacity l.records.line core.map (reads_of l of.unit from of.block)) got_is.slot)
    told.capacity
    (told.window ∙ ap (λ (l : OpenLine). all_readable core.window (reads_of l of.unit from of.block)) got_is.slot)
    refl refl
    (lost_window i w core unit of its.has.slot from of.block mount st its.is range chunk event knows)
    (λ lba below. lost_slots i w core unit of its.has.slot from of.block mount st its.is range chunk event knows lba its.has.is.records.line below))

-- ---- the placer

-- what became of it
placer_now : (old lost new : Placing) (qs : List ℕ) (of : Program) → lost ≡ stripe_lost old of → new ≡ all_wait lost qs
    → (new.units ≡ (stripe_lost old of).units) × (new.entries.pad ≡ old.entries.pad)
placer_now old lost new qs of is waits = (
  ap (λ (p : Placing). p.units) waits ∙ wait_units lost qs ∙ ap (λ (p : Placing). p.units) is,
  ap (λ (p : Placing). p.entries.pad) waits ∙ wait_pad lost qs ∙ ap (λ (p : Placing). p.entries.pad) is,
)

units_now : (c : After-wait_again) → (Placing.units c.wait_again.new.placer ≡ slice_set c.args.self.now.placer.units c.place_of-of.result.unit Idle)
    × (c.wait_again.new.placer.entries.pad ≡ c.args.self.now.placer.entries.pad)
units_now c = placer_now c.args.self.now.placer c.lost.new.self c.wait_again.new.placer (positions_of_marks c.shape.result.now c.parts.result.1.now)
    (program c.args.self.now.placer c.place_of-of.result)
    (c.lost.ensures ∙ ap (λ (p : Placing). stripe_lost p (program p c.place_of-of.result)) c.answer-told.ensures.placer) c.wait_again.ensures

pub returns-clause-pad : goal.returns-clause-pad
returns-clause-pad c = (units_now (goal.at.returns-clause-pad c).After-wait_again).1

pub returns-clause-idle : goal.returns-clause-idle
returns-clause-idle c = idle_now c.requires.standing c.place_of-of.ensures (Placing.units c.wait_again.new.placer)
    (units_now (goal.at.returns-clause-idle c).After-wait_again).0

pub returns-clause-rows : goal.returns-clause-rows
returns-clause-rows c = beside_now c.requires.standing c.place_of-of.ensures (Placing.units c.wait_again.new.placer)
    (units_now (goal.at.returns-clause-rows c).After-wait_again).0

-- ---- the window

frames : (c : After-answer-told) → KeepsFrames c.args.self.now.window c.answer-told.new.self.window
frames c = read_frames c.args.self.now.window c.answer-told.new.self.window
    (reads_of c.answer-told.ensures.slot c.place_of-of.result.unit c.saturating_sub-from.result c.place_of-of.result.block) c.answer-told.ensures.window

pub returns-clause-own : goal.returns-clause-own
returns-clause-own c = (frames (goal.at.returns-clause-own c).After-answer-told).own

pub returns-clause-count : goal.returns-clause-count
returns-clause-count c = (frames (goal.at.returns-clause-count c).After-answer-told).count

pub returns-clause-layout : goal.returns-clause-layout
returns-clause-layout c = c.answer-told.ensures.kept.layout

pub returns-clause-collection : goal.returns-clause-collection
returns-clause-collection c = c.answer-told.ensures.kept.collection

-- ---- each line has its rows still

pub returns-clause-each : goal.returns-clause-each
returns-clause-each c =
    let at = goal.at.returns-clause-each c in
    let sd = c.requires.standing in
    let core : Core = c.args.self.now in
    let line : ℕ = c.place_of-of.result.line in
    let note = got_within core.notes.rows.items line (line_is_noted sd c.place_of-of.ensures) in
    let lowered = lowered_table at.After-answer-told in
    each_kept core _ (each_was sd c.place_of-of.ensures) c.answer-told.ensures.kept.layout c.answer-told.ensures.kept.online
    (ap (λ (t : Table). length t.rows) c.fail_line.ensures.lines ∙ failed_length line c.answer-told.new.self.lines
    ∙ ap (λ (t : Table). length t.rows) lowered ∙ lowered_length core.holds.rows.items line c.positions-positions.result.now core.lines)
    (ap (λ (rows : List LineNote). length rows) (c.answer-told.ensures.notes note.0 note.1) ∙ set_length core.notes.rows.items line _)

-- ---- what is on the drive in a line that is closed was there

pub returns-clause-map : goal.returns-clause-map
returns-clause-map c =
    let told = c.answer-told.ensures in
    was_there c.requires.standing c.place_of-of.ensures told.k told.slot c.answer-told.new.self.map
    (reads_of told.slot c.place_of-of.result.unit c.saturating_sub-from.result c.place_of-of.result.block) told.found told.map

-- ---- where the line isn't closed yet

pub returns-clause-brings : goal.returns-clause-brings
returns-clause-brings c = λ none.
    let at = goal.at.returns-clause-brings c in
    let sd = c.requires.standing in
    let core : Core = c.args.self.now in
    let told = c.answer-told.ensures in
    let line : ℕ = c.place_of-of.result.line in
    let note = got_within core.notes.rows.items line (line_is_noted sd c.place_of-of.ensures) in
    let rows = told.notes note.0 note.1 ∙ ap (λ b. slice_set core.notes.rows.items line
    (closed_when b (note_added (top_of (take c.min.result (Program.positions (program core.placer c.place_of-of.result)))) note.0))) none in
    brings_none core (record c.answer-told.new.self { lines = c.fail_line.new.lines }) line (record {
      layout = told.kept.layout;
      newest = told.newest;
      others = λ other apart. record {
        notes = ap (λ (rs : List LineNote). slice_get rs other) rows ∙ get_set_other core.notes.rows.items line other _ apart;
        rows = ap (λ (t : Table). slice_get t.rows other) c.fail_line.ensures.lines ∙ failed_elsewhere line other c.answer-told.new.self.lines apart
            ∙ ap (λ (t : Table). slice_get t.rows other) (lowered_table at.After-answer-told)
            ∙ lowered_elsewhere core.holds.rows.items line other c.positions-positions.result.now core.lines apart;
        online = ap (λ us. slice_get us.items other) told.kept.online;
      };
    }) (set_unclosed core.notes.rows.items c.answer-told.new.self.notes.rows.items line _ (line_is_noted sd c.place_of-of.ensures) rows
    (unclosed sd c.place_of-of.ensures note.0 note.1))
