use Rattle.std.proofs.Common.{◌≡◌, ℕ, ◌+◌, ◌^◌, ◌<◌, ◌≤◌, ◌&&◌, Bool, true, false, Some, List, length, take, take_all, refl, sym, subst, subst₂, ap, ◌∙◌, arith, le_refl}
use Rattle.std.specs.Prelude.{◌↔◌, IsTrue, slice_get, slice_set}
use Rattle.std.specs.List.{Contains}
use Rattle.std.proofs.lemmas.Option.{same_Some, slice_get_within}
use denote.Enum.Bare.{same_true, true_same}
use Rattle.pblk_model.specs.declared.shape.Shape.{Shape}
use Rattle.pblk_model.specs.Shape.{units}
use Rattle.pblk_model.specs.Image.{Image}
use Rattle.pblk_world.specs.EngineLog.{DidLand}
use Rattle.pblk_world.specs.World.{World, log_of}
use Rattle.line_table.specs.Rows.{Table}
use Rattle.line_table.specs.declared.row.Row.{Row}
use Rattle.stripe_placer.specs.Placing.{Placing, Program, program, landed as stripe_landed}
use Rattle.stripe_placer.specs.Placing.UnitRow.{UnderWay}
use Rattle.stripe_placer.specs.contracts.placement.StripeKind.{the_type}
use Rattle.stripe_placer.specs.declared.placement.StripeKind.TheVariants.{Start}
use Rattle.write_window.specs.Window.{WindowView, IsHeld, has_landed_at}
use Rattle.pblk_world.specs.LegalMounts.{IsLegalMount}
use Rattle.core_laws.specs.ChangedTables.{with_row, full_if}
use Rattle.core_laws.specs.ClosedLines.{top_of}
use Rattle.core_laws.proofs.HistorySectors.{set_length}
use Rattle.pblk_model.proofs.Parts.{get_set_other, got_within}
use Rattle.pblk_model.proofs.Tests.{either_false}
use Rattle.pblk_core.specs.Answering.{IsAnsweredInto, IsLineAnswered, closed_when}
use Rattle.pblk_core.specs.Entries.{noted_lines}
use Rattle.pblk_core.specs.Landing.{all_landed, is_open}
use Rattle.pblk_core.specs.Keeping.{KeepsFrames}
use Rattle.pblk_core.specs.LineNotes.{note_added, note_landed}
use Rattle.pblk_core.specs.Readable.{all_moved, all_readable, reads_of}
use Rattle.pblk_core.specs.Stands.{Stands}
use Rattle.pblk_core.specs.declared.line_notes.LineNote.{LineNote}
use Rattle.pblk_core.specs.declared.open_lines.OpenLine.{OpenLine}
use Rattle.pblk_core.specs.declared.target_core.Core.{Core}
use Rattle.pblk_core.proofs.AnsweredNow.{are_read}
use Rattle.pblk_core.proofs.BarrenLines.{brings_none, noted_elsewhere, set_unclosed}
use Rattle.pblk_core.proofs.KeptFrames.{both_frames}
use Rattle.pblk_core.proofs.LandedConditions.{some_starts}
use Rattle.pblk_core.proofs.LandedCore.{block_within, count_is, entry_held, got_line, its_row, left_some, lines_kept}
use Rattle.pblk_core.proofs.LandedKinds.{chunk_is_read}
use Rattle.pblk_core.proofs.LandedNotes.{note_answered, rows_answered}
use Rattle.pblk_core.proofs.LandedReads.{IsRange, range_is}
use Rattle.pblk_core.proofs.LandedTables.{reads_held, slots_now, window_now}
use Rattle.pblk_core.proofs.LandedWay.{IsOnWay}
use Rattle.pblk_core.proofs.NotedEntries.{noted_row, note_length, note_shape, row_count}
use Rattle.pblk_core.proofs.StripeUnderWay.{beside_now, chunk_ends, each_was, few_units, here, idle_now, its, its_core, its_slot, line_in, line_is_noted, positions_told, row_of_it, some_rows, unclosed, unit_within, was_there}
use Rattle.pblk_core.proofs.StandsLanded.{IsLandedInto, landed_keeps, landed_stands}
use Rattle.pblk_core.proofs.TabledLines.{each_kept}
use Rattle.pblk_core.proofs.target_core.Core.note_landed.Goals as goal
use Rattle.pblk_core.proofs.target_core.Core.note_landed.Goals.{After-positions-positions, After-eq, After-readable_range-from, After-answer-told}

pub positions-positions-requires : goal.positions-positions-requires
positions-positions-requires c = unit_within c.requires.standing c.place_of-of.ensures

-- the positions of its entries
its_positions : (c : After-positions-positions)
    → c.positions-positions.result.now ≡ Program.positions (program c.args.self.now.placer c.place_of-of.result)
its_positions c = positions_told c.requires.standing c.place_of-of.ensures c.positions-positions.result.now c.positions-positions.ensures

pub land_entries-requires : goal.land_entries-requires
land_entries-requires c =
    let sd = c.requires.standing in
    let at = (goal.at.land_entries-requires c).After-positions-positions in
    λ k q there. entry_held sd.image sd.world c.args.self.now _ (program c.args.self.now.placer c.place_of-of.result) k q sd.legal sd.stands
    (its sd c.place_of-of.ensures).is (ap (λ qs. slice_get qs k) (sym (its_positions at)) ∙ there)

pub note_takers-requires-clause-rows : goal.note_takers-requires-clause-rows
note_takers-requires-clause-rows c = some_rows c.requires.standing c.place_of-of.ensures

pub note_takers-requires-clause-inside : goal.note_takers-requires-clause-inside
note_takers-requires-clause-inside c = line_in c.requires.standing c.place_of-of.ensures

-- ---- notes

-- whether it is one of its line's start record
its_kind : (c : After-eq) → IsTrue c.eq.result ↔ (c.place_of-of.result.kind ≡ Start)
its_kind c = (
  λ e. same_true the_type tt c.place_of-of.result.kind Start (sym c.eq.ensures ∙ e),
  λ e. c.eq.ensures ∙ true_same the_type c.place_of-of.result.kind Start e,
)

pub land-is_newer-requires-clause-inside : goal.land-is_newer-requires-clause-inside
land-is_newer-requires-clause-inside c = line_is_noted c.requires.standing c.place_of-of.ensures

pub land-is_newer-requires-clause-some : goal.land-is_newer-requires-clause-some
land-is_newer-requires-clause-some c =
    let sd = c.requires.standing in
    some_starts sd.image sd.world c.args.self.now _ (program c.args.self.now.placer c.place_of-of.result) sd.legal sd.stands
    (its sd c.place_of-of.ensures).is c.eq.result (its_kind (goal.at.land-is_newer-requires-clause-some c).After-eq)

-- ---- the blocks that can be read

pub readable_range-from-requires : goal.readable_range-from-requires
readable_range-from-requires c =
    record {
      inside = subst (λ (s : Shape). c.place_of-of.result.block + s.ws_opt ≤ s.clba) (sym c.shape.ensures.shape)
          (chunk_ends c.requires.standing c.place_of-of.ensures);
    }

its_range : (c : After-readable_range-from) (i : Image) (w : World) → IsLegalMount i w → Stands i (log_of w) c.args.self.now
    → IsOnWay i w c.args.stripe.now.stripe.unit (program c.args.self.now.placer c.place_of-of.result)
    → IsRange i.shape c.place_of-of.result.block c.readable_range-from.result.0 c.readable_range-from.result.1
its_range c i w mount st is =
    let block : ℕ = c.place_of-of.result.block in
    let s : Shape = c.shape.result.now in
    let same : s ≡ i.shape = c.shape.ensures.shape ∙ st.layout in
    let some : 0 < s.ws_opt = subst (λ (s : Shape). 0 < s.ws_opt) (sym same) is.line_is.striped.some in
    let within : block + s.ws_opt ≤ s.clba =
    subst (λ (s : Shape). block + s.ws_opt ≤ s.clba) (sym same)
    (block_within i w c.args.stripe.now.stripe.unit (program c.args.self.now.placer c.place_of-of.result) mount is) in
    subst (λ (s : Shape). IsRange s block c.readable_range-from.result.0 c.readable_range-from.result.1) same
    (range_is s block _ _ some within c.readable_range-from.ensures.from c.readable_range-from.ensures.to)

pub answer-told-requires-clause-standing : goal.answer-told-requires-clause-standing
answer-told-requires-clause-standing c =
    let core : Core = c.args.self.now in
    record { lines = core.lines; window = core.window; holds = core.holds; notes = core.notes; standing = c.requires.standing }

pub answer-told-requires-clause-under_way : goal.answer-told-requires-clause-under_way
answer-told-requires-clause-under_way c = here c.requires.standing c.place_of-of.ensures

pub answer-told-requires-clause-written : goal.answer-told-requires-clause-written
answer-told-requires-clause-written c = le_refl c.place_of-of.result.count

pub answer-told-requires-clause-noted : goal.answer-told-requires-clause-noted
answer-told-requires-clause-noted c =
    let rows : List LineNote = c.args.self.now.notes.rows.items in
    let inside = line_is_noted c.requires.standing c.place_of-of.ensures in
    let note = got_within rows c.place_of-of.result.line inside in
    subst (λ n. c.place_of-of.result.line < n)
    (sym (ap (λ (rs : List LineNote). length rs) (c.land-is_newer.ensures.rows note.0 note.1) ∙ set_length rows c.place_of-of.result.line _)) inside

pub answer-told-requires-clause-held : goal.answer-told-requires-clause-held
answer-told-requires-clause-held c = λ k slot found.
    let sd = c.requires.standing in
    let at = goal.at.answer-told-requires-clause-held c in
    let core : Core = c.args.self.now in
    let unit : ℕ = c.args.stripe.now.stripe.unit in
    let of : Program = program core.placer c.place_of-of.result in
    let from : ℕ = c.readable_range-from.result.0 in
    let to : ℕ = c.readable_range-from.result.1 in
    let mine = its sd c.place_of-of.ensures in
    let got_is = its_slot sd c.place_of-of.ensures k slot found in
    let reach = its_range at.After-readable_range-from sd.image sd.world sd.legal sd.stands mine.is in
    let chunk = chunk_is_read sd.image sd.world unit of mine.has.slot sd.legal mine.is mine.has.is in
    λ b there.
    subst (λ (v : WindowView). IsHeld v b.mark.position × (has_landed_at v b.mark.position ≡ true))
    (sym (c.land_entries.ensures ∙ ap (all_landed core.window) (its_positions at.After-positions-positions)))
    (reads_held sd.image sd.world core unit of mine.has.slot from to sd.legal sd.stands mine.is reach chunk b
    (subst (λ (l : OpenLine). Contains (reads_of l unit from to) b) got_is.slot
    (subst (λ u. Contains (reads_of slot u from to) b) c.place_of-of.ensures.its_unit there)))

pub answer-told-requires-clause-stripes : goal.answer-told-requires-clause-stripes
answer-told-requires-clause-stripes c = λ k slot found.
    let sd = c.requires.standing in
    let mine = its sd c.place_of-of.ensures in
    let some : 0 < mine.has.slot.stripes_left =
    left_some sd.image sd.world c.args.self.now _ (program c.args.self.now.placer c.place_of-of.result) sd.legal mine.is mine.has in
    subst (λ (l : OpenLine). 1 ≤ l.stripes_left) (sym (its_slot sd c.place_of-of.ensures k slot found).slot) (omega arith)

-- ---- its line is Full where no stripe of it is left

noted_table : (c : After-answer-told) → c.answer-told.new.self.lines
    ≡ noted_lines c.args.self.now.holds.rows.items c.place_of-of.result.line c.args.self.now.lines c.positions-positions.result.now
noted_table c = c.answer-told.ensures.lines ∙ c.note_takers.ensures

pub fill_line-requires-clause-inside : goal.fill_line-requires-clause-inside
fill_line-requires-clause-inside c =
    let at = goal.at.fill_line-requires-clause-inside c in
    subst (λ n. c.place_of-of.result.line < n)
    (sym (ap (λ (t : Table). length t.rows) (noted_table at.After-answer-told)
    ∙ note_length c.args.self.now.holds.rows.items c.place_of-of.result.line c.positions-positions.result.now c.args.self.now.lines))
    (line_in c.requires.standing c.place_of-of.ensures)

pub fill_line-requires-clause-online : goal.fill_line-requires-clause-online
fill_line-requires-clause-online c =
    let told = c.answer-told.ensures in
    subst (λ s. c.answer-told.result.online < 2 ^ units s) (sym told.kept.layout)
    (few_units c.requires.standing c.place_of-of.ensures told.k c.answer-told.result.online told.slot told.found told.online)

pub fill_line-requires-clause-shape : goal.fill_line-requires-clause-shape
fill_line-requires-clause-shape c =
    let sd = c.requires.standing in
    let at = goal.at.fill_line-requires-clause-shape c in
    let core : Core = c.args.self.now in
    ap (λ (t : Table). t.shape) (noted_table at.After-answer-told)
    ∙ note_shape core.holds.rows.items c.place_of-of.result.line c.positions-positions.result.now core.lines ∙ ap (λ (t : Table). t.shape) sd.stands.table
    ∙ sym sd.stands.layout ∙ sym c.answer-told.ensures.kept.layout

pub fill_line-requires-clause-width : goal.fill_line-requires-clause-width
fill_line-requires-clause-width c =
    let at = (goal.at.fill_line-requires-clause-width c).After-answer-told in
    let core : Core = c.args.self.now in
    let told = c.answer-told.ensures in
    let old = row_of_it c.requires.standing c.place_of-of.ensures told.k c.answer-told.result.online told.slot told.found told.online in
    let new = noted_row core.holds.rows.items c.place_of-of.result.line c.positions-positions.result.now core.lines old.0 old.1 in
    λ row there.
    let now : new.0 ≡ row =
    same_Some new.0 row (sym new.1 ∙ ap (λ (t : Table). slice_get t.rows c.place_of-of.result.line) (sym (noted_table at)) ∙ there) in
    sym (ap (λ (r : Row). r.width) now) ∙ new.2.width ∙ sym old.2

pub landed-requires : goal.landed-requires
landed-requires c =
    subst (λ (p : Placing). slice_get p.units c.place_of-of.result.unit ≡ Some (UnderWay (program p c.place_of-of.result))) (sym c.answer-told.ensures.placer)
    (here c.requires.standing c.place_of-of.ensures)

-- the notes of the lines, of which the stripe's has another
notes_now : (c : After-answer-told) (positions : List ℕ)
    → take c.place_of-of.result.count (Program.positions (program c.args.self.now.placer c.place_of-of.result)) ≡ positions
    → (row : LineNote) → slice_get c.args.self.now.notes.rows.items c.place_of-of.result.line ≡ Some row
    → c.answer-told.new.self.notes.rows.items ≡ slice_set c.args.self.now.notes.rows.items c.place_of-of.result.line
    (note_answered c.answer-told.result.is_done c.eq.result (top_of positions) row)
notes_now c positions are row there =
    rows_answered c.args.self.now.notes.rows.items c.land-is_newer.new.self.rows.items c.answer-told.new.self.notes.rows.items c.place_of-of.result.line
    (top_of positions) c.answer-told.result.is_done c.eq.result
    (slice_get_within c.args.self.now.notes.rows.items c.place_of-of.result.line row there) c.land-is_newer.ensures.rows
    (λ x h. c.answer-told.ensures.notes x h ∙ ap (λ qs. slice_set c.land-is_newer.new.self.rows.items c.place_of-of.result.line
    (closed_when c.answer-told.result.is_done (note_added (top_of qs) x))) are) row there

-- ---- the core stands for the log with that

placer_now : (c : After-answer-told) (new : Placing)
    → new ≡ stripe_landed c.answer-told.new.self.placer (program c.answer-told.new.self.placer c.place_of-of.result)
    → new ≡ stripe_landed c.args.self.now.placer (program c.args.self.now.placer c.place_of-of.result)
placer_now c new is = is ∙ ap (λ (p : Placing). stripe_landed p (program p c.place_of-of.result)) c.answer-told.ensures.placer

pub returns-clause-stands : goal.returns-clause-stands
returns-clause-stands c =
    let at = goal.at.returns-clause-stands c in
    let core : Core = c.args.self.now in
    let unit : ℕ = c.args.stripe.now.stripe.unit in
    let of : Program = program core.placer c.place_of-of.result in
    let from : ℕ = c.readable_range-from.result.0 in
    let to : ℕ = c.readable_range-from.result.1 in
    let positions = its_positions at.After-positions-positions in
    let told : IsAnsweredInto _ c.answer-told.new.self of c.place_of-of.result.count from to 1 c.answer-told.result = c.answer-told.ensures in
    λ i w event knows mount st may.
    let its = its_core c.requires.standing c.place_of-of.ensures i w mount st in
    let got_is = got_line i w core unit of told.k told.slot st its told.found in
    let reach = its_range at.After-readable_range-from i w mount st its.is in
    let chunk = chunk_is_read i w unit of its.has.slot mount its.is its.has.is in
    let row = its_row i w core unit of its.has.slot.online st its refl in
    let noted = noted_table at.After-answer-told ∙ ap (noted_lines core.holds.rows.items of.line core.lines) positions in
    let now = noted_row core.holds.rows.items of.line of.positions core.lines row.0 row.1 in
    let line = subst₂ (λ k slot. IsLineAnswered core.open told.mid c.answer-told.new.self.open core.resets c.answer-told.new.self.resets
    core.online.items of.line k slot 1 c.answer-told.result.is_done) got_is.index got_is.slot told.line in
    let window = c.land_entries.ensures ∙ ap (all_landed core.window) positions in
    let into : IsLandedInto core _ of c.answer-told.result.is_done = record {
      sound = is_open row.0.state;
      unfailed = λ r there. ap (λ (x : Row). is_open x.state) (same_Some row.0 r (sym row.1 ∙ there));
      lines = c.fill_line.ensures now.0 (ap (λ (t : Table). slice_get t.rows of.line) noted ∙ now.1)
          ∙ ap (λ b. with_row of.line (full_if (c.answer-told.result.is_done && b)) c.answer-told.new.self.lines) (ap is_open now.2.state)
          ∙ ap (with_row of.line (full_if (c.answer-told.result.is_done && is_open row.0.state))) noted;
      placer = placer_now at.After-answer-told c.landed.new.self c.landed.ensures;
      holds = told.holds;
      is_start = c.eq.result;
      start_is = its_kind at.After-eq;
      notes = notes_now at.After-answer-told of.positions (whole of.positions of.count (count_is i w unit of its.is));
      newest = λ r there. told.newest ∙ c.land-is_newer.ensures.newest r there;
      addresses = told.left;
    } in
    landed_stands i w unit event knows core _ of told.mid c.answer-told.result.is_done mount st its.is (its.waits st.again st.placing) may its.has line into
    told.counts
    (record {
      layout = told.kept.layout;
      online = told.kept.online;
      start = told.kept.start;
      first = told.kept.first;
      placed = told.kept.placed;
      users = told.kept.users;
      collection = told.kept.collection;
    })
    (are_read i w unit (DidLand event) knows core _ of its.has.slot from to (all_landed core.window of.positions) mount st may its.is
    (told.map ∙ ap (λ (l : OpenLine). all_moved core.layout.capacity l.records.line core.map (reads_of l of.unit from to)) got_is.slot)
    told.capacity
    (told.window ∙ ap (λ (v : WindowView). all_readable v (reads_of told.slot of.unit from to)) window
    ∙ ap (λ (l : OpenLine). all_readable (all_landed core.window of.positions) (reads_of l of.unit from to)) got_is.slot)
    (landed_keeps core.window of.positions).0 (landed_keeps core.window of.positions).1
    (window_now i w core unit event knows of its.has.slot from to mount st its.is reach chunk)
    (λ lba below. slots_now i w core unit event knows of its.has.slot from to lba mount st its.is reach chunk its.has.is.records.line below))
  where
    whole : (qs : List ℕ) (n : ℕ) → length qs ≡ n → take n qs ≡ qs
    whole qs n e = take_all n qs (omega arith)

-- ---- the window

frames : (c : After-answer-told) → KeepsFrames c.args.self.now.window c.answer-told.new.self.window
frames c =
    both_frames c.args.self.now.window c.land_entries.new.window c.answer-told.new.self.window c.positions-positions.result.now
    (reads_of c.answer-told.ensures.slot c.place_of-of.result.unit c.readable_range-from.result.0 c.readable_range-from.result.1) c.land_entries.ensures
    c.answer-told.ensures.window

pub returns-clause-own : goal.returns-clause-own
returns-clause-own c = (frames (goal.at.returns-clause-own c).After-answer-told).own

pub returns-clause-count : goal.returns-clause-count
returns-clause-count c = (frames (goal.at.returns-clause-count c).After-answer-told).count

-- ---- the placer

pub returns-clause-pad : goal.returns-clause-pad
returns-clause-pad c =
    ap (λ (p : Placing). p.entries.pad) (placer_now (goal.at.returns-clause-pad c).After-answer-told c.landed.new.self c.landed.ensures)

pub returns-clause-idle : goal.returns-clause-idle
returns-clause-idle c = idle_now c.requires.standing c.place_of-of.ensures (Placing.units c.landed.new.self)
    (ap (λ (p : Placing). p.units) (placer_now (goal.at.returns-clause-idle c).After-answer-told c.landed.new.self c.landed.ensures))

pub returns-clause-rows : goal.returns-clause-rows
returns-clause-rows c = beside_now c.requires.standing c.place_of-of.ensures (Placing.units c.landed.new.self)
    (ap (λ (p : Placing). p.units) (placer_now (goal.at.returns-clause-rows c).After-answer-told c.landed.new.self c.landed.ensures))

pub returns-clause-layout : goal.returns-clause-layout
returns-clause-layout c = c.answer-told.ensures.kept.layout

pub returns-clause-collection : goal.returns-clause-collection
returns-clause-collection c = c.answer-told.ensures.kept.collection

-- ---- each line has its rows still

pub returns-clause-each : goal.returns-clause-each
returns-clause-each c =
    let at = goal.at.returns-clause-each c in
    let sd = c.requires.standing in
    let core : Core = c.args.self.now in
    let line : ℕ = c.place_of-of.result.line in
    let note = got_within core.notes.rows.items line (line_is_noted sd c.place_of-of.ensures) in
    let old = got_within core.lines.rows line (line_in sd c.place_of-of.ensures) in
    let noted = noted_table at.After-answer-told in
    let new = noted_row core.holds.rows.items line c.positions-positions.result.now core.lines old.0 old.1 in
    each_kept core _ (each_was sd c.place_of-of.ensures) c.answer-told.ensures.kept.layout c.answer-told.ensures.kept.online
    (ap (λ (t : Table). length t.rows) (c.fill_line.ensures new.0 (ap (λ (t : Table). slice_get t.rows line) noted ∙ new.1))
    ∙ row_count line (full_if (c.answer-told.result.is_done && is_open new.0.state)) c.answer-told.new.self.lines
    ∙ ap (λ (t : Table). length t.rows) noted ∙ note_length core.holds.rows.items line c.positions-positions.result.now core.lines)
    (ap (λ (rows : List LineNote). length rows) (notes_now at.After-answer-told _ refl note.0 note.1) ∙ set_length core.notes.rows.items line _)

-- ---- what is on the drive in a line that is closed was there

pub returns-clause-map : goal.returns-clause-map
returns-clause-map c =
    let told = c.answer-told.ensures in
    was_there c.requires.standing c.place_of-of.ensures told.k told.slot c.answer-told.new.self.map
    (reads_of told.slot c.place_of-of.result.unit c.readable_range-from.result.0 c.readable_range-from.result.1) told.found told.map

-- ---- where the line isn't closed yet, and the same start record is the newest

same_closed : (start : Bool) (row : LineNote) → (note_landed start row).closed ≡ row.closed
same_closed true row = refl
same_closed false row = refl

pub returns-clause-brings : goal.returns-clause-brings
returns-clause-brings c = λ none.
    let at = goal.at.returns-clause-brings c in
    let sd = c.requires.standing in
    let core : Core = c.args.self.now in
    let told = c.answer-told.ensures in
    let line : ℕ = c.place_of-of.result.line in
    let neither = either_false c.land-is_newer.result c.answer-told.result.is_done none in
    let note = got_within core.notes.rows.items line (line_is_noted sd c.place_of-of.ensures) in
    let rows = notes_now at.After-answer-told _ refl note.0 note.1 ∙ ap (λ b. slice_set core.notes.rows.items line
    (note_answered b c.eq.result (top_of (take c.place_of-of.result.count (Program.positions (program core.placer c.place_of-of.result)))) note.0)) neither.1 in
    let old = got_within core.lines.rows line (line_in sd c.place_of-of.ensures) in
    let new = noted_row core.holds.rows.items line c.positions-positions.result.now core.lines old.0 old.1 in
    let there = ap (λ (t : Table). slice_get t.rows line) (noted_table at.After-answer-told) ∙ new.1 in
    let lines : c.fill_line.new.lines ≡ c.answer-told.new.self.lines = c.fill_line.ensures new.0 there
    ∙ ap (λ b. with_row line (full_if (b && is_open new.0.state)) c.answer-told.new.self.lines) neither.1
    ∙ sym (lines_kept c.answer-told.new.self.lines line new.0 there) in
    brings_none core (record c.answer-told.new.self { lines = c.fill_line.new.lines }) line (record {
      layout = told.kept.layout;
      newest = told.newest ∙ c.land-is_newer.ensures.same neither.0;
      others = λ other apart. record {
        notes = ap (λ (rs : List LineNote). slice_get rs other) rows ∙ get_set_other core.notes.rows.items line other _ apart;
        rows = ap (λ (t : Table). slice_get t.rows other) (lines ∙ noted_table at.After-answer-told)
            ∙ noted_elsewhere core.holds.rows.items line other c.positions-positions.result.now core.lines apart;
        online = ap (λ us. slice_get us.items other) told.kept.online;
      };
    }) (set_unclosed core.notes.rows.items c.answer-told.new.self.notes.rows.items line _ (line_is_noted sd c.place_of-of.ensures) rows
    (same_closed c.eq.result note.0 ∙ unclosed sd c.place_of-of.ensures note.0 note.1))
