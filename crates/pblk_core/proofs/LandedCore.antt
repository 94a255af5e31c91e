-- What a core keeps of a program that is under way.
use Rattle.std.proofs.Common.{◌≡◌, ℕ, ◌+◌, ◌^◌, ◌<◌, ◌≤◌, ◌==◌, ◌≢◌, if◌then◌else◌, not, Bool, true, false, Some, Option, List, length, refl, sym, subst, ap, ◌∙◌, arith}
use Rattle.std.specs.Prelude.{slice_get, slice_set}
use Rattle.std.specs.List.{range_with_len}
use Rattle.std.specs.Option.{option_map, option_map_or, option_and_then}
use Rattle.std.proofs.lemmas.List.{length-map}
use Rattle.std.proofs.lemmas.List.FromFn.{length-range_with_len}
use Rattle.std.proofs.lemmas.Option.{same_Some}
use Rattle.pblk_model.specs.Shape.{units}
use Rattle.pblk_model.specs.Image.{Image}
use Rattle.pblk_layout.specs.Online.{units_in}
use Rattle.pblk_world.specs.World.{World, log_of}
use Rattle.pblk_world.specs.EngineLog.{Placed, stripes_of, stripes_on, has_failed, holds_position}
use Rattle.pblk_world.specs.Victims.{engine_prefix}
use Rattle.line_table.specs.declared.row.Row.{Row}
use Rattle.line_table.specs.declared.row.LineState.{LineState}
use Rattle.line_table.specs.declared.row.LineState.TheVariants.{Free, Open, Full, Failed, Freed, Dead}
use Rattle.line_table.specs.Rows.{Table, IsRow}
use Rattle.stripe_placer.specs.declared.placement.Placement.{Placement}
use Rattle.stripe_placer.specs.Placing.{Program, Placing, UnitRow, program, positions_in, under_way_in}
use Rattle.stripe_placer.specs.Placing.UnitRow.{UnderWay}
use Rattle.write_window.specs.Window as view
use Rattle.core_laws.specs.PlacerOf.{IsAwaited, placing_of, positions_in_stripe}
use Rattle.pblk_world.specs.LegalMounts.{IsLegalMount}
use Rattle.core_laws.specs.OpenedLines.{open_line}
use Rattle.core_laws.specs.RowsOf.{row_of_line, rows_of, width_in}
use Rattle.core_laws.specs.ChunkBlocks.{IsInRow}
use Rattle.core_laws.proofs.HeldInWorlds.{own_in_window}
use Rattle.core_laws.specs.ChangedTables.{with_row, full_if}
use Rattle.core_laws.proofs.LineRoom.{has_room, state_failed, state_open}
use Rattle.core_laws.proofs.Placed.{stripe_holds}
use Rattle.pblk_core.specs.Answering.{IsLineOf}
use Rattle.pblk_core.specs.Landing.{is_open}
use Rattle.pblk_core.specs.Slots.{IsSlot}
use Rattle.pblk_core.specs.Stands.{Stands, stripes_left}
use Rattle.pblk_core.specs.declared.open_lines.OpenLine.{OpenLine}
use Rattle.pblk_core.specs.declared.target_core.Core.{Core}
use Rattle.pblk_core.proofs.LandedLines.{HasSlot, has_slot, found_slot}
use Rattle.pblk_core.proofs.LineCounts.{left_landed}
use Rattle.core_laws.proofs.ChunksInRows.{rows_of_chunks}
use Rattle.pblk_core.proofs.LandedWay.{IsOnWay, of_row, on_way, awaited, line_of_way, waits_there}
use Rattle.pblk_core.proofs.StandsFacts.{in_window}
use Rattle.pblk_core.proofs.LineBits.{known_bits}
use Rattle.pblk_model.proofs.Lists.{IsAmong}
use Rattle.pblk_model.proofs.Maps.{any_member, in_filter, row_at}
use Rattle.pblk_model.proofs.Parts.{got_within, set_same}
use Rattle.pblk_model.proofs.Tests.{same_number}

-- ---- the row that the placer tells

pub told_row : (p : Placing) (unit u : ℕ) (r : Option Placement) (of : Placement) (is : Program) → r ≡ Some of → u ≡ unit
    → option_map (program p) r ≡ option_and_then under_way_in (slice_get p.units u)
    → slice_get p.units unit ≡ Some (UnderWay is) → slice_get p.units unit ≡ Some (UnderWay (program p of))
told_row p unit u r of is found at told there =
    let row = ap (λ n. option_and_then under_way_in (slice_get p.units n)) at ∙ ap (option_and_then under_way_in) there in
    let same = same_Some is (program p of) (sym (ap (option_map (program p)) (sym found) ∙ told ∙ row)) in
    there ∙ ap (λ (x : Program). Some (UnderWay x)) same

-- the positions that it tells of that unit
pub told_under_way : (p : Placing) (unit u : ℕ) (of : Program) (told : List ℕ) → u ≡ unit → slice_get p.units unit ≡ Some (UnderWay of)
    → ((row : UnitRow) → slice_get p.units u ≡ Some row → told ≡ positions_in row) → told ≡ of.positions
told_under_way p unit u of told at there tells = tells (UnderWay of) (ap (slice_get p.units) at ∙ there)

pub record IsOfCore (i : Image) (w : World) (c : Core) (unit : ℕ) (of : Program) : Type 0 where
  pub is : IsOnWay i w unit of
  pub waits : (again : List ℕ) → c.placer ≡ placing_of i (log_of w) c.placer.entries.pad again → IsAwaited i (log_of w) c.placer.entries.pad again of
  pub has : HasSlot i (log_of w) c.open is.row.opening

pub of_core : (i : Image) (w : World) (c : Core) (unit : ℕ) (of : Program) → IsLegalMount i w → Stands i (log_of w) c
    → slice_get c.placer.units unit ≡ Some (UnderWay of) → IsOfCore i w c unit of
of_core i w c unit of mount st there =
    let is : IsOnWay i w unit of =
    on_way i w unit of mount (of_row i (log_of w) c.placer.entries.pad st.again unit of (ap (λ p. slice_get p.units unit) (sym st.placing) ∙ there)) in
    record {
      is = is;
      waits = λ again placing. awaited i w c.placer.entries.pad again unit of mount is (ap (λ p. slice_get p.units unit) (sym placing) ∙ there);
      has = has_slot i w c unit of mount is st;
    }

-- ---- its entries

pub count_is : (i : Image) (w : World) (unit : ℕ) (of : Program) → IsOnWay i w unit of → length of.positions ≡ of.count
count_is i w unit of is = ap (λ (x : Program). length x.positions) (sym is.row.is) ∙ ap (λ (x : Program). x.count) is.row.is

pub positions_are : (i : Image) (w : World) (unit : ℕ) (of : Program) → (is : IsOnWay i w unit of)
    → of.positions ≡ positions_in_stripe i.shape is.row.stripe.stripe
positions_are i w unit of is = sym (ap (λ (x : Program). x.positions) is.row.is)

pub holds_it : (i : Image) (w : World) (unit : ℕ) (of : Program) (k q : ℕ) → (is : IsOnWay i w unit of) → slice_get of.positions k ≡ Some q
    → holds_position i.shape q is.row.stripe ≡ true
holds_it i w unit of k q is at =
    stripe_holds i.shape q is.row.stripe
    ∙ any_member (λ m. m == q) (positions_in_stripe i.shape is.row.stripe.stripe) k q (ap (λ qs. slice_get qs k) (sym (positions_are i w unit of is)) ∙ at)
    (same_number q)

pub entry_held : (i : Image) (w : World) (c : Core) (unit : ℕ) (of : Program) (k q : ℕ) → IsLegalMount i w → Stands i (log_of w) c → IsOnWay i w unit of
    → slice_get of.positions k ≡ Some q → view.IsHeld c.window q
entry_held i w c unit of k q mount st is at =
    let own = own_in_window i w unit is.row.stripe q mount is.row.waits (holds_it i w unit of k q is at) in
    in_window i w c q st own.1 own.2

-- ---- its place in the chunk

pub in_row : (i : Image) (w : World) (unit : ℕ) (of : Program) → IsLegalMount i w → (is : IsOnWay i w unit of)
    → (n : ℕ) × (slice_get (stripes_on (log_of w 0) is.row.opening unit) n ≡ Some is.row.stripe) × IsInRow i.shape n is.row.stripe
in_row i w unit of mount is =
    let among : IsAmong (stripes_on (log_of w 0) is.row.opening unit) is.row.stripe =
    in_filter (λ (p : Placed). p.stripe.unit == unit) (stripes_of (log_of w 0) is.row.opening) is.row.stripe is.among
    (ap (λ u. u == unit) is.its_unit ∙ same_number unit) in
    (among.0, among.1, rows_of_chunks i w is.row.opening unit mount among.0 is.row.stripe among.1)

pub block_is : (i : Image) (w : World) (unit : ℕ) (of : Program) → (is : IsOnWay i w unit of) → of.block ≡ is.row.stripe.stripe.at
block_is i w unit of is = sym (ap (λ (x : Program). x.block) is.row.is)

pub block_within : (i : Image) (w : World) (unit : ℕ) (of : Program) → IsLegalMount i w → IsOnWay i w unit of → of.block + i.shape.ws_opt ≤ i.shape.clba
block_within i w unit of mount is = subst (λ n. n + i.shape.ws_opt ≤ i.shape.clba) (sym (block_is i w unit of is)) (in_row i w unit of mount is).2.within

-- ---- the units of its line

pub live_few : (i : Image) (w : World) (c : Core) (unit : ℕ) (of : Program) → IsLegalMount i w → (is : IsOnWay i w unit of)
    → (has : HasSlot i (log_of w) c.open is.row.opening) → has.slot.online < 2 ^ units i.shape
live_few i w c unit of mount is has =
    subst (λ n. n < 2 ^ units i.shape) (sym has.is.online) (known_bits i w (engine_prefix is.row.opening.number (log_of w)) is.row.opening.line mount)

pub left_some : (i : Image) (w : World) (c : Core) (unit : ℕ) (of : Program) → IsLegalMount i w → (is : IsOnWay i w unit of)
    → (has : HasSlot i (log_of w) c.open is.row.opening) → 0 < has.slot.stripes_left
left_some i w c unit of mount is has =
    let less = left_landed (open_line i (log_of w) is.row.opening) is.number (waits_there i w unit of mount is) in
    let left : has.slot.stripes_left ≡ stripes_left (open_line i (log_of w) is.row.opening) = has.is.left in
    omega arith

-- ---- its row

pub line_within : (i : Image) (w : World) (c : Core) (unit : ℕ) (of : Program) → Stands i (log_of w) c → (is : IsOnWay i w unit of)
    → is.row.opening.line < length c.lines.rows
line_within i w c unit of st is =
    let inside : is.row.opening.line < i.shape.chunks = is.line_is.well.in_range in
    let count : length (rows_of i (log_of w)).rows ≡ i.shape.chunks = length-map (range_with_len 0 i.shape.chunks) (row_of_line i (log_of w))
    ∙ length-range_with_len 0 i.shape.chunks in
    subst (λ t. is.row.opening.line < length t.rows) (sym st.table) (omega arith)

-- its line is Open, unless a stripe of it was lost
pub row_state : (i : Image) (w : World) (c : Core) (unit : ℕ) (of : Program) (row : Row) → IsLegalMount i w → Stands i (log_of w) c
    → (is : IsOnWay i w unit of) → IsRow c.lines is.row.opening.line row
    → row.state ≡ (if has_failed (log_of w 0) is.row.opening then Failed else Open)
row_state i w c unit of row mount st is there =
    let at = row_at (row_of_line i (log_of w)) i.shape.chunks 0 is.row.opening.line row
    (ap (λ t. slice_get t.rows is.row.opening.line) (sym st.table) ∙ there) in
    let from : 0 + is.row.opening.line ≡ is.row.stripe.stripe.line = (let z : 0 + is.row.opening.line ≡ is.row.opening.line = omega arith in z) ∙ is.its_line in
    ap (λ (r : Row). r.state) (sym at.1) ∙ ap (λ n. (row_of_line i (log_of w) n).state) from ∙ go (has_failed (log_of w 0) is.row.opening) refl
  where
    go : (b : Bool) → has_failed (log_of w 0) is.row.opening ≡ b → (row_of_line i (log_of w) is.row.stripe.stripe.line).state ≡ (if b then Failed else Open)
    go true e = state_failed i (log_of w) is.row.stripe.stripe.line is.row.opening is.stands e
    go false e = state_open i (log_of w) unit is.row.stripe is.row.opening is.line_is.striped.some e is.row.waits is.row.life is.stands
        (has_room i w is.row.stripe.stripe.line is.row.opening mount is.stands)

pub unopened : (s : LineState) → s ≢ Open → is_open s ≡ false
unopened Free other = refl
unopened Open other = absurd (other refl)
unopened Full other = refl
unopened Failed other = refl
unopened Freed other = refl
unopened Dead other = refl

pub open_unless : (failed : Bool) (s : LineState) → s ≡ (if failed then Failed else Open) → is_open s ≡ not failed
open_unless true s e = ap is_open e
open_unless false s e = ap is_open e

-- the slot that is found is its line's
pub record IsGot (i : Image) (w : World) (c : Core) (unit : ℕ) (of : Program) (result : ℕ) (found : OpenLine) (its : IsOfCore i w c unit of) : Type 0 where
  pub index : result ≡ its.has.k
  pub slot : found ≡ its.has.slot

pub got : (i : Image) (w : World) (c : Core) (unit : ℕ) (of : Program) (result : ℕ) (slot : OpenLine) → Stands i (log_of w) c → (its : IsOfCore i w c unit of)
    → result < 2 → ((x : OpenLine) → IsSlot c.open result x → x.records.line ≡ of.line)
    → ((x : OpenLine) → IsSlot c.open 0 x → x.records.line ≡ of.line → result ≡ 0) → IsSlot c.open result slot → IsGot i w c unit of result slot its
got i w c unit of result slot st its inside line first at =
    let index : result ≡ its.has.k = found_slot i w c its.is.row.opening of.line result (line_of_way i w unit of its.is) st its.has inside line first in
    record {
      index = index;
      slot = same_Some slot its.has.slot (sym at ∙ ap (slice_get c.open.slots.items) index ∙ its.has.there);
    }

-- so it is where the line of its number is found
pub got_line : (i : Image) (w : World) (c : Core) (unit : ℕ) (of : Program) (k : ℕ) (slot : OpenLine) → Stands i (log_of w) c → (its : IsOfCore i w c unit of)
    → IsLineOf c.open of.line k slot → IsGot i w c unit of k slot its
got_line i w c unit of k slot st its found = got i w c unit of k slot st its found.inside
    (λ x is. ap (λ (l : OpenLine). l.records.line) (same_Some x slot (sym is ∙ found.there)) ∙ found.its_line) found.first found.there

-- ---- the table by the two ways

pub lines_kept : (old : Table) (line : ℕ) (row : Row) → slice_get old.rows line ≡ Some row → old ≡ with_row line (full_if false) old
lines_kept old line row there =
    ap (λ rows. record { shape = old.shape; rows = rows })
    (sym (ap (λ o. option_map_or (λ (r : Row). slice_set old.rows line r) o old.rows) there ∙ set_same old.rows line row there))

-- its row, and the width there
pub its_row : (i : Image) (w : World) (c : Core) (unit : ℕ) (of : Program) (live : ℕ) → Stands i (log_of w) c → (its : IsOfCore i w c unit of)
    → live ≡ its.has.slot.online
    → (row : Row) × (slice_get c.lines.rows of.line ≡ Some row) × (length (units_in live) ≡ row.width)
its_row i w c unit of live st its same =
    let is : IsOnWay i w unit of = its.is in
    let some = got_within c.lines.rows of.line (subst (λ n. n < length c.lines.rows) (line_of_way i w unit of its.is) (line_within i w c unit of st its.is)) in
    let at = row_at (row_of_line i (log_of w)) i.shape.chunks 0 of.line some.0 (ap (λ t. slice_get t.rows of.line) (sym st.table) ∙ some.1) in
    let line : 0 + of.line ≡ its.is.row.stripe.stripe.line = (let z : 0 + of.line ≡ of.line = omega arith in z) ∙ sym (line_of_way i w unit of its.is)
    ∙ its.is.its_line in (
      some.0,
      some.1,
      ap (λ n. length (units_in n)) (same ∙ its.has.is.online) ∙ its.is.line_is.wide_is ∙ sym its.is.line_is.well.width
          ∙ ap (width_in i (log_of w) its.is.row.stripe.stripe.line) (sym its.is.stands)
          ∙ ap (λ n. (row_of_line i (log_of w) n).width) (sym line) ∙ ap (λ (r : Row). r.width) at.1,
    )
