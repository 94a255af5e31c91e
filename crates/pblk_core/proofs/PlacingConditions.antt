-- What the calls ask for that place a stripe.
use Rattle.std.proofs.Math.Nat.{mul-le-mul_right}
use Rattle.std.proofs.Common.{◌≡◌, ◌⊎◌, inl, inr, ℕ, ◌+◌, ◌-◌, ◌*◌, ◌<◌, ◌≤◌, ◌^◌, Bool, true, false, Some, None, Option, List, [], ◌++◌, length, take, replicate, min, refl, sym, subst, ap, ap₂, ◌∙◌, arith, length-take, nat_lt, if◌then◌else◌, ◌≢◌, nat_le}
use Rattle.std.specs.Prelude.{map, slice_get}
use Rattle.std.specs.Option.{option_map}
use Rattle.std.proofs.lemmas.List.{length-map}
use Rattle.std.proofs.lemmas.List.FromFn.{length-map-range_with_len}
use Rattle.std.proofs.lemmas.Option.{same_Some, none-some}
use Rattle.pblk_model.specs.declared.shape.Shape.{Shape}
use Rattle.pblk_model.specs.declared.chunk.Mark.{Mark}
use Rattle.pblk_model.specs.Accepted.{IsAccepted}
use Rattle.pblk_model.specs.Blocks.{blocks_of}
use Rattle.pblk_model.specs.Chunk.{Block}
use Rattle.pblk_model.specs.Image.{Image}
use Rattle.pblk_model.specs.LineOrder.{start_len, data_len, end_len}
use Rattle.pblk_model.specs.Marks.{pad_block}
use Rattle.pblk_model.specs.Shape.{units}
use Rattle.pblk_world.specs.Events.{Stripe, Place, Logged}
use Rattle.pblk_world.specs.World.{World, log_of}
use Rattle.pblk_world.specs.EngineLog.{Taken, takes, Opened, Opening, has_failed, life_of}
use Rattle.pblk_world.specs.Fronts.{first_position, taken, waiting}
use Rattle.pblk_world.specs.Placing.{next_address, end_address, line_end, data_marks, stripe_at, record_blocks, start_blocks, end_blocks}
use Rattle.pblk_world.specs.Space.{open_addresses, placed_front}
use Rattle.stripe_placer.specs.declared.placement.StripeKind.{StripeKind}
use Rattle.stripe_placer.specs.declared.placement.StripeKind.TheVariants as kinds
use Rattle.stripe_placer.specs.Placing.{Program, Placing, UnitRow, positions_in, next_stripe, placed}
use Rattle.stripe_placer.specs.Placing.UnitRow.{Idle, UnderWay}
use Rattle.stripe_placer.proofs.PlacingLemmas.{placed_has}
use Rattle.stripe_placer.proofs.Rows.{get_map as get_mapped}
use Rattle.line_table.specs.declared.row.Row.{Row}
use Rattle.line_table.specs.Rows.{Table, IsRow}
use Rattle.core_laws.proofs.LiveCounts.{live_few}
use Rattle.write_window.specs.Window as view
use Rattle.core_laws.specs.PlacerOf.{positions_of, unit_row_in}
use Rattle.pblk_world.specs.LegalMounts.{IsLegalMount}
use Rattle.core_laws.specs.Stepping.{after}
use Rattle.pblk_model.specs.EndRecord.{end_bytes}
use Rattle.core_laws.specs.RowsOf.{row_of_line}
use Rattle.core_laws.proofs.StripeBlocks.{HaveBlocks, have_blocks, marks_counted, marks_whole}
use Rattle.core_laws.specs.StripeFor.{IsStripeFor, blocks_for, positions_for}
use Rattle.pblk_core.proofs.IdleRows.{its_row}
use Rattle.pblk_core.specs.Entries.{entry_blocks, placed_lines, placed_rows}
use Rattle.pblk_core.specs.Filling.{Filling, followed_by, empty_stripe}
use Rattle.pblk_core.specs.LineRecords.{RecordsView, AreRecordsOf, AreOf, whole_marks, blocks_at_start, blocks_at_end, end_begins}
use Rattle.pblk_core.specs.Slots.{IsSlot}
use Rattle.pblk_core.specs.Stands.{Stands, IsOpenLine}
use Rattle.pblk_core.specs.declared.target_core.Core.{Core}
use Rattle.pblk_core.specs.declared.open_lines.OpenLine.{OpenLine as KeptLine}
use Rattle.pblk_core.specs.declared.open_lines.OpenLines.{OpenLines}
use Rattle.pblk_core.proofs.PlacedMarks.{few_under_way, marks_of_blocks}
use Rattle.pblk_core.proofs.PlacedStripe.{IsOfferedNow, IsInPart, IsOfKind, offered_now, of_kind, HasSlot, has_slot, found_slot}
use Rattle.pblk_core.proofs.StandsFacts.{window_taken_is}
use Rattle.pblk_core.proofs.StandsPlaced.{entries_for, positions_are, left_by_kind, slots_for}
use Rattle.core_laws.proofs.PlacedInOrder.{front_within, ordered}
use Rattle.pblk_model.proofs.Maps.{filter_short}
use Rattle.pblk_core.specs.Landing.{new_count}
use Rattle.pblk_core.proofs.SmallPositions.{taken_bounded}
use Rattle.pblk_core.proofs.WholeMarks.{marks_all, records_of}
use Rattle.pblk_core.proofs.WaitingEntries.{IsSized, are_sized, IsWaiting, waiting_at, waiting_blocks}
use Rattle.pblk_model.proofs.Maps.{row_at}
use Rattle.pblk_model.proofs.Parts.{all_at, get_whole}

-- ---- the program

pub offer : (i : Image) (w : World) (c : Core) (of : Program) → IsLegalMount i w → Stands i (log_of w) c → Some of ≡ next_stripe c.placer 0
    → slice_get c.placer.units of.unit ≡ Some Idle → (o : Opening) × IsOfferedNow i w c.placer.entries.pad o of
offer i w c of mount st next idle =
    offered_now i w c.placer.entries.pad st.again 0 of mount (ap (λ p. next_stripe p 0) (sym st.placing) ∙ sym next) (its_row st of.unit idle)

-- the opening of the program, and its place among the open lines
pub record IsFound (i : Image) (w : World) (c : Core) (of : Program) (result : ℕ) : Type 0 where
  pub o : Opening
  pub now : IsOfferedNow i w c.placer.entries.pad o of
  pub has : HasSlot i (log_of w) c.open o
  pub at : result ≡ has.k

pub found : (i : Image) (w : World) (c : Core) (of : Program) (result : ℕ) → IsLegalMount i w → Stands i (log_of w) c → Some of ≡ next_stripe c.placer 0
    → slice_get c.placer.units of.unit ≡ Some Idle → result < 2
    → ((slot : KeptLine) → IsSlot c.open result slot → slot.records.line ≡ of.line)
    → ((slot : KeptLine) → IsSlot c.open 0 slot → slot.records.line ≡ of.line → result ≡ 0) → IsFound i w c of result
found i w c of result mount st next idle inside line first =
    let its = offer i w c of mount st next idle in
    let has : HasSlot i (log_of w) c.open its.0 = has_slot i w c c.placer.entries.pad its.0 of its.1 st in
    record {
      o = its.0;
      now = its.1;
      has = has;
      at = found_slot i w c c.placer.entries.pad its.0 of result its.1 st has inside line first;
    }

pub found_there : (i : Image) (w : World) (c : Core) (of : Program) → IsLegalMount i w → Stands i (log_of w) c → Some of ≡ next_stripe c.placer 0
    → slice_get c.placer.units of.unit ≡ Some Idle
    → (k : ℕ) × (slot : KeptLine) × (k < 2) × IsSlot c.open k slot × (slot.records.line ≡ of.line)
found_there i w c of mount st next idle =
    let its = offer i w c of mount st next idle in
    let has : HasSlot i (log_of w) c.open its.0 = has_slot i w c c.placer.entries.pad its.0 of its.1 st in
    (has.k, has.slot, has.inside, has.there, has.is.records.line ∙ sym its.1.own)

-- the line that stands there
pub slot_is : (i : Image) (w : World) (c : Core) (of : Program) (result : ℕ) (slot : KeptLine) → (f : IsFound i w c of result) → IsSlot c.open result slot
    → IsOpenLine i (log_of w) f.o slot
slot_is i w c of result slot f there =
    let same : f.has.slot ≡ slot = same_Some f.has.slot slot (sym f.has.there ∙ ap (slice_get c.open.slots.items) (sym f.at) ∙ there) in
    subst (IsOpenLine i (log_of w) f.o) same f.has.is

-- ---- entries

entry_at : (ts : List Taken) (k q : ℕ) → slice_get (positions_of ts) k ≡ Some q → (t : Taken) × (slice_get ts k ≡ Some t) × (t.entry.position ≡ q)
entry_at ts k q e = go (slice_get ts k) refl (sym (get_mapped (λ (t : Taken). t.entry.position) ts k) ∙ e)
  where
    go : (o : Option Taken) → slice_get ts k ≡ o → option_map (λ (t : Taken). t.entry.position) o ≡ Some q
        → (t : Taken) × (slice_get ts k ≡ Some t) × (t.entry.position ≡ q)
    go None f g = absurd (none-some q g)
    go (Some t) f g = (t, f, same_Some t.entry.position q g)

pub in_the_window : (i : Image) (w : World) (c : Core) (o : Opening) (of : Program) (k q : ℕ) → IsLegalMount i w → Stands i (log_of w) c
    → IsOfferedNow i w c.placer.entries.pad o of
    → slice_get of.positions k ≡ Some q → view.IsHeld c.window q
in_the_window i w c o of k q mount st now e =
    let n : ℕ = entries_for of.kind i.shape.ws_opt in
    let at = entry_at (take n (waiting i.shape (log_of w 0))) k q
    (ap (λ (qs : List ℕ). slice_get qs k) (sym (now.positions ∙ positions_are i.shape (log_of w 0) of.kind)) ∙ e) in
    let is : IsWaiting i w c at.0 = waiting_at i w c k at.0 mount st (get_whole n (waiting i.shape (log_of w 0)) k at.0 at.1) in
    let end : view.taken c.window ≡ taken (log_of w 0) = window_taken_is i w c st in
    let low : c.window.freed ≤ at.0.entry.position = is.low in
    let high : at.0.entry.position < taken (log_of w 0) = is.high in
    let same : at.0.entry.position ≡ q = at.2 in
    (omega arith, omega arith)

pub positions_small : (i : Image) (w : World) (c : Core) (o : Opening) (of : Program) (k q : ℕ) → IsLegalMount i w → Stands i (log_of w) c
    → IsOfferedNow i w c.placer.entries.pad o of → slice_get of.positions k ≡ Some q → q < 2 ^ 63
positions_small i w c o of k q mount st now e =
    let n : ℕ = entries_for of.kind i.shape.ws_opt in
    let at = entry_at (take n (waiting i.shape (log_of w 0))) k q
    (ap (λ (qs : List ℕ). slice_get qs k) (sym (now.positions ∙ positions_are i.shape (log_of w 0) of.kind)) ∙ e) in
    let is : IsWaiting i w c at.0 = waiting_at i w c k at.0 mount st (get_whole n (waiting i.shape (log_of w 0)) k at.0 at.1) in
    let small : at.0.entry.position < 2 ^ 62 =
    IsSized.position (all_at (IsSized i.shape) (takes (log_of w 0)) is.number at.0 is.there (are_sized i w mount)) in
    let same : at.0.entry.position ≡ q = at.2 in
    omega arith

few_for : (kind : StripeKind) (n : ℕ) → entries_for kind n ≤ n
few_for kinds.Start n = omega arith
few_for kinds.Data n = omega arith
few_for kinds.Pad n = omega arith
few_for kinds.End n = omega arith

pub few_entries : (i : Image) (w : World) (pad : ℕ) (o : Opening) (of : Program) → IsOfferedNow i w pad o of → of.count ≤ i.shape.ws_opt
few_entries i w pad o of now =
    let n : ℕ = entries_for of.kind i.shape.ws_opt in
    let ts : List Taken = take (entries_for of.kind i.shape.ws_opt) (waiting i.shape (log_of w 0)) in
    let long : length of.positions ≡ length ts = ap (λ (qs : List ℕ). length qs) (now.positions ∙ positions_are i.shape (log_of w 0) of.kind)
    ∙ length-map ts (λ (t : Taken). t.entry.position) in
    let short : length ts ≤ n = omega (arith, length-take n (waiting i.shape (log_of w 0))) in
    let within : n ≤ i.shape.ws_opt = few_for of.kind i.shape.ws_opt in
    let count : of.count ≡ length of.positions = now.count in
    omega arith

-- ---- the table

pub line_inside : (i : Image) (w : World) (c : Core) (line : ℕ) → Stands i (log_of w) c → line < i.shape.chunks → line < length c.lines.rows
line_inside i w c line st inside =
    subst (λ (t : Table). line < length t.rows) (sym st.table)
    (subst (λ n. line < n) (sym (length-map-range_with_len (row_of_line i (log_of w)) 0 i.shape.chunks)) inside)

small_capacity : (s : Shape) → IsAccepted s → s.capacity < 2 ^ 30
small_capacity s is =
    let all : units s * s.chunks * s.clba ≤ 268435456 = blocks_few is.target.sector in
    let within : data_len s (units s) ≤ units s * s.clba =
    data_short (nat_lt (units s * s.clba - start_len s - end_len s (units s)) s.ws_opt) (units s * s.clba - start_len s - end_len s (units s))
    (data_len s (units s)) (units s * s.clba) refl (omega arith) in
    let one : data_len s (units s) * (3 * (s.chunks - 5)) ≤ units s * s.clba * (3 * (s.chunks - 5)) = mul-le-mul_right (3 * (s.chunks - 5)) within in
    let less : 3 * (s.chunks - 5) ≤ 3 * s.chunks = omega arith in
    let two : 3 * (s.chunks - 5) * (units s * s.clba) ≤ 3 * s.chunks * (units s * s.clba) = mul-le-mul_right (units s * s.clba) less in
    let turned_one : data_len s (units s) * (3 * (s.chunks - 5)) ≡ 3 * (s.chunks - 5) * data_len s (units s) =
    turned (data_len s (units s)) (3 * (s.chunks - 5)) in
    let turned_two : units s * s.clba * (3 * (s.chunks - 5)) ≡ 3 * (s.chunks - 5) * (units s * s.clba) = turned (units s * s.clba) (3 * (s.chunks - 5)) in
    let product : 3 * s.chunks * (units s * s.clba) ≡ 3 * (units s * s.chunks * s.clba) = three s.chunks (units s) s.clba in
    let spare : 4 * s.capacity ≤ 3 * (s.chunks - 5) * data_len s (units s) = is.target.spare in
    omega arith
  where
    turned : (a b : ℕ) → a * b ≡ b * a
    turned a b = grind arith

    three : (a b d : ℕ) → 3 * a * (b * d) ≡ 3 * (b * a * d)
    three a b d = grind arith

    data_short : (t : Bool) (between n most : ℕ) → n ≡ (if t then 0 else between) → between ≤ most → n ≤ most
    data_short true between n most e h = omega arith
    data_short false between n most e h = omega arith

    blocks_few : (s.sector ≡ 512) ⊎ (s.sector ≡ 4096) → units s * s.chunks * s.clba ≤ 268435456
    blocks_few (inl e) = let size : units s * s.chunks * s.clba * 512 ≤ 268435456 =
        subst (λ n. units s * s.chunks * s.clba * n ≤ 268435456) e is.target.size in omega arith
    blocks_few (inr e) = let size : units s * s.chunks * s.clba * 4096 ≤ 268435456 =
        subst (λ n. units s * s.chunks * s.clba * n ≤ 268435456) e is.target.size in omega arith

pub live_room : (i : Image) (w : World) (c : Core) (line count : ℕ) (row : Row) → IsLegalMount i w → Stands i (log_of w) c → IsRow c.lines line row
    → count ≤ i.shape.ws_opt → row.live + count < 2 ^ 32
live_room i w c line count row mount st there few =
    let its = row_at (row_of_line i (log_of w)) i.shape.chunks 0 line row (ap (λ (t : Table). slice_get t.rows line) (sym st.table) ∙ there) in
    let from : 0 + line ≡ line = omega arith in
    let live : row.live ≡ (row_of_line i (log_of w) line).live = ap (λ (r : Row). r.live) (sym its.1) ∙ ap (λ n. (row_of_line i (log_of w) n).live) from in
    let most : (row_of_line i (log_of w) line).live ≤ i.shape.capacity = live_few i (log_of w) line in
    let small : i.shape.capacity < 2 ^ 30 = small_capacity i.shape mount.accepted in
    let stripe : i.shape.ws_opt ≤ 64 = mount.accepted.drive.short_stripes in
    omega arith

-- ---- marks

data_no_pad : kinds.Data ≡ kinds.Pad → ⊥
data_no_pad e = cc

end_no_pad : kinds.End ≡ kinds.Pad → ⊥
end_no_pad e = cc

pub marks_room : (i : Image) (w : World) (o : Opening) (of : Program) (pad : ℕ) (slot : KeptLine) (more : ℕ) → IsLegalMount i w → IsOfferedNow i w pad o of
    → of.kind ≡ kinds.Data → IsOpenLine i (log_of w) o slot → more ≤ i.shape.ws_opt
    → length slot.records.marks + more ≤ data_len slot.records.shape slot.records.width
marks_room i w o of pad slot more mount now kind is few =
    let s : Shape = i.shape in
    let part = subst (IsInPart i.shape o of.at) kind now.part in
    let sound : has_failed (log_of w 0) o ≡ false = now.sound (λ e. data_no_pad (sym kind ∙ e)) in
    let count : length (data_marks s (log_of w 0) o) ≡ min (data_len s o.start.width) (next_address s (log_of w 0) o - start_len s) =
    marks_counted s (log_of w 0) o (have_blocks i w mount.accepted mount.legal) in
    let own : length slot.records.marks ≡ length (data_marks s (log_of w 0) o) =
    ap (λ (ms : List Mark). length ms) (is.records.marks ∙ marks_all s (log_of w 0) o sound) in
    let long : data_len slot.records.shape slot.records.width ≡ data_len s o.start.width = ap₂ data_len is.records.shape is.records.width in
    let at : of.at ≡ next_address s (log_of w 0) o = now.at (λ e. data_no_pad (sym kind ∙ e)) in
    let a : start_len s ≤ of.at = part.0 in
    let b : of.at + s.ws_opt ≤ start_len s + data_len s o.start.width = part.1 in
    omega arith

pub marks_told : (i : Image) (w : World) (o : Opening) (of : Program) (pad : ℕ) (slot : KeptLine) → IsLegalMount i w → IsOfferedNow i w pad o of
    → of.kind ≡ kinds.End → IsOpenLine i (log_of w) o slot
    → length slot.records.marks ≡ data_len slot.records.shape slot.records.width
marks_told i w o of pad slot mount now kind is =
    let part = subst (IsInPart i.shape o of.at) kind now.part in
    let other : of.kind ≢ kinds.Pad = λ e. end_no_pad (sym kind ∙ e) in
    ap (λ (ms : List Mark). length ms) (is.records.marks ∙ marks_all i.shape (log_of w 0) o (now.sound other))
    ∙ marks_whole i.shape (log_of w 0) o (have_blocks i w mount.accepted mount.legal) (subst (λ a. end_address i.shape o ≤ a) (now.at other) part)
    ∙ sym (ap₂ data_len is.records.shape is.records.width)

pub end_from : (i : Image) (w : World) (o : Opening) (of : Program) (pad : ℕ) (slot : KeptLine) → IsOfferedNow i w pad o of → of.kind ≡ kinds.End
    → IsOpenLine i (log_of w) o slot → end_begins slot.records ≤ of.at
end_from i w o of pad slot now kind is =
    let part : end_address i.shape o ≤ of.at = subst (IsInPart i.shape o of.at) kind now.part in
    subst (λ n. n ≤ of.at) (sym (ap₂ (λ s g. start_len s + data_len s g) is.records.shape is.records.width)) part

data_by : (t : Bool) (between n : ℕ) → n ≡ (if t then 0 else between) → 0 < n → n ≡ between
data_by true between n e some = absurd (omega arith)
data_by false between n e some = e

pub within_end : (i : Image) (w : World) (o : Opening) (at line : ℕ) (slot : KeptLine) → IsLegalMount i w → life_of (log_of w 0) line ≡ Opened o
    → at + i.shape.ws_opt ≤ line_end i.shape o → IsOpenLine i (log_of w) o slot
    → at + slot.records.shape.ws_opt ≤ end_begins slot.records + end_len slot.records.shape slot.records.width
within_end i w o at line slot mount opened whole is =
    let s : Shape = i.shape in
    let g : ℕ = o.start.width in
    let wide : 0 < data_len s g = HaveBlocks.wide (have_blocks i w mount.accepted mount.legal) line o opened in
    let between : data_len s g ≡ g * s.clba - start_len s - end_len s g =
    data_by (nat_lt (g * s.clba - start_len s - end_len s g) s.ws_opt) (g * s.clba - start_len s - end_len s g) (data_len s g) refl wide in
    let long : at + s.ws_opt ≤ g * s.clba = whole in
    let own : at + s.ws_opt ≤ start_len s + data_len s g + end_len s g = omega arith in
    subst (λ n. at + n ≤ start_len slot.records.shape + data_len slot.records.shape slot.records.width + end_len slot.records.shape slot.records.width)
    (sym (ap (λ (x : Shape). x.ws_opt) is.records.shape))
    (subst (λ n. at + s.ws_opt ≤ n) (sym (ap₂ (λ s g. start_len s + data_len s g + end_len s g) is.records.shape is.records.width)) own)

pub end_within : (i : Image) (w : World) (o : Opening) (of : Program) (pad : ℕ) (slot : KeptLine) → IsLegalMount i w → IsOfferedNow i w pad o of
    → IsOpenLine i (log_of w) o slot
    → of.at + slot.records.shape.ws_opt ≤ end_begins slot.records + end_len slot.records.shape slot.records.width
end_within i w o of pad slot mount now is = within_end i w o of.at of.line slot mount now.opened now.whole is

-- ---- the blocks of the stripe

pub start_of_line : (s : Shape) (log : List Logged) (o : Opening) (r : RecordsView) (shape : Shape) (a : ℕ) → AreRecordsOf s log o r → shape ≡ s
    → stripe_at shape (blocks_at_start r) 0 a ≡ stripe_at s (start_blocks s o) 0 a
start_of_line s log o r shape a of same = λ j. stripe_at (same j) (record_blocks (of.shape j) (of.seq j) (start_len (of.shape j)) (of.start j)) 0 a

pub end_of_line : (s : Shape) (log : List Logged) (o : Opening) (r : RecordsView) (shape : Shape) (a : ℕ) → AreOf s log o r → shape ≡ s
    → stripe_at shape (blocks_at_end r) (end_begins r) a ≡ stripe_at s (end_blocks s log o) (end_address s o) a
end_of_line s log o r shape a of same = λ j. stripe_at (same j)
    (record_blocks (of.shape j) (of.seq j) (end_len (of.shape j) (of.width j))
    (end_bytes (of.shape j) (record { line = of.line j; width = of.width j; seq = of.seq j; pairs = of.marks j })))
    (start_len (of.shape j) + data_len (of.shape j) (of.width j)) a

-- also where a stripe of the line was lost since
pub end_kept : (s : Shape) (log : List Logged) (o : Opening) (r : RecordsView) (shape : Shape) (a : ℕ) → AreRecordsOf s log o r → shape ≡ s
    → stripe_at shape (blocks_at_end r) (end_begins r) a
    ≡ stripe_at s (record_blocks s o.start.seq (end_len s o.start.width)
    (end_bytes s (record { line = o.line; width = o.start.width; seq = o.start.seq; pairs = whole_marks s log o }))) (end_address s o) a
end_kept s log o r shape a of same = λ j. stripe_at (same j)
    (record_blocks (of.shape j) (of.seq j) (end_len (of.shape j) (of.width j))
    (end_bytes (of.shape j) (record { line = of.line j; width = of.width j; seq = of.seq j; pairs = of.marks j })))
    (start_len (of.shape j) + data_len (of.shape j) (of.width j)) a

-- a stripe at the program's place, with these blocks
abbrev pub stripe_of : Program → List Block → Stripe
stripe_of of blocks = record { line = of.line; unit = of.unit; chunk = of.line; at = of.block; blocks = blocks }

pub stripe_for : (i : Image) (w : World) (pad : ℕ) (o : Opening) (of : Program) (kind : StripeKind) (blocks : List Block) → IsOfferedNow i w pad o of
    → of.kind ≡ kind → blocks ≡ blocks_for i.shape (log_of w 0) o of.at kind
    → IsStripeFor i (log_of w) o of (stripe_of of blocks)
stripe_for i w pad o of kind blocks now same is = record {
  opened = now.opened;
  line = refl;
  chunk = refl;
  unit = refl;
  at = refl;
  blocks = is ∙ ap (blocks_for i.shape (log_of w 0) o of.at) (sym same);
}

pub start_stripe_is : (i : Image) (w : World) (pad : ℕ) (o : Opening) (of : Program) (slot : KeptLine) (shape : Shape) → IsOfferedNow i w pad o of
    → of.kind ≡ kinds.Start → IsOpenLine i (log_of w) o slot → shape ≡ i.shape
    → IsStripeFor i (log_of w) o of (stripe_of of (stripe_at shape (blocks_at_start slot.records) 0 of.at))
start_stripe_is i w pad o of slot shape now kind is same =
    stripe_for i w pad o of kinds.Start (stripe_at shape (blocks_at_start slot.records) 0 of.at) now kind
    (start_of_line i.shape (log_of w 0) o slot.records shape of.at is.records same)

pub end_stripe_is : (i : Image) (w : World) (pad : ℕ) (o : Opening) (of : Program) (slot : KeptLine) (shape : Shape) → IsOfferedNow i w pad o of
    → of.kind ≡ kinds.End → IsOpenLine i (log_of w) o slot → shape ≡ i.shape
    → IsStripeFor i (log_of w) o of (stripe_of of (stripe_at shape (blocks_at_end slot.records) (end_begins slot.records) of.at))
end_stripe_is i w pad o of slot shape now kind is same =
    stripe_for i w pad o of kinds.End (stripe_at shape (blocks_at_end slot.records) (end_begins slot.records) of.at) now kind
    (end_of_line i.shape (log_of w 0) o slot.records shape of.at
    (records_of i.shape (log_of w 0) o slot.records (now.sound (λ e. end_no_pad (sym kind ∙ e))) is.records) same)

abbrev pub padded_to_stripe : Shape → List Block → List Block
padded_to_stripe s blocks = blocks ++ replicate (s.ws_opt - length blocks) (pad_block s)

pub data_stripe_is : (i : Image) (w : World) (c : Core) (o : Opening) (of : Program) (shape : Shape) → IsLegalMount i w → Stands i (log_of w) c
    → IsOfferedNow i w c.placer.entries.pad o of → of.kind ≡ kinds.Data → shape ≡ i.shape
    → IsStripeFor i (log_of w) o of (stripe_of of (padded_to_stripe shape (entry_blocks c.window c.holds.rows.items of.positions)))
data_stripe_is i w c o of shape mount st now kind same =
    stripe_for i w c.placer.entries.pad o of kinds.Data (padded_to_stripe shape (entry_blocks c.window c.holds.rows.items of.positions)) now kind
    (ap₂ padded_to_stripe same
    (ap (entry_blocks c.window c.holds.rows.items)
    (now.positions ∙ ap (positions_for i.shape (log_of w 0)) kind ∙ positions_are i.shape (log_of w 0) kinds.Data)
    ∙ waiting_blocks i w c i.shape.ws_opt mount st))

-- a stripe of pads
pub pad_stripe_is : (i : Image) (w : World) (pad : ℕ) (o : Opening) (of : Program) (shape : Shape) → IsOfferedNow i w pad o of
    → of.kind ≡ kinds.Pad → shape ≡ i.shape
    → IsStripeFor i (log_of w) o of (stripe_of of (replicate shape.ws_opt (pad_block shape)))
pad_stripe_is i w pad o of shape now kind same =
    stripe_for i w pad o of kinds.Pad (replicate shape.ws_opt (pad_block shape)) now kind (ap (λ (s : Shape). replicate s.ws_opt (pad_block s)) same)

pub pads_are : (of : Program) (shape : Shape) (again : Bool) (turn : ℕ) (begun padded : Filling)
    → begun ≡ record { shape = shape; stripe = empty_stripe of.line of.unit of.block; again = again; turn = turn }
    → padded ≡ followed_by begun (replicate (begun.shape.ws_opt - length begun.stripe.blocks) (pad_block begun.shape))
    → padded.stripe ≡ stripe_of of (replicate shape.ws_opt (pad_block shape))
pads_are of shape again turn begun padded a b =
    let whole : shape.ws_opt - 0 ≡ shape.ws_opt = omega arith in
    ap (λ (f : Filling). f.stripe) b
    ∙ ap (λ (f : Filling). (followed_by f (replicate (f.shape.ws_opt - length f.stripe.blocks) (pad_block f.shape))).stripe) a
    ∙ ap (λ n. stripe_of of (replicate n (pad_block shape))) whole

-- a stripe that was begun, filled with entries and padded
pub padded_is : (of : Program) (shape : Shape) (again : Bool) (turn : ℕ) (blocks : List Block) (begun filled padded : Filling)
    → begun ≡ record { shape = shape; stripe = empty_stripe of.line of.unit of.block; again = again; turn = turn } → filled ≡ followed_by begun blocks
    → padded ≡ followed_by filled (replicate (filled.shape.ws_opt - length filled.stripe.blocks) (pad_block filled.shape))
    → padded.stripe ≡ stripe_of of (padded_to_stripe shape blocks)
padded_is of shape again turn blocks begun filled padded a b d =
    ap (λ (f : Filling). f.stripe) d
    ∙ ap (λ (f : Filling). (followed_by f (replicate (f.shape.ws_opt - length f.stripe.blocks) (pad_block f.shape))).stripe) b
    ∙ ap (λ (f : Filling). (followed_by (followed_by f blocks) (replicate (f.shape.ws_opt - length (f.stripe.blocks ++ blocks)) (pad_block f.shape))).stripe) a

pub told_marks : (size : ℕ) (bytes : List ℕ) (marks : List Mark) (into padded : Filling) → blocks_of size bytes marks ≡ padded.stripe.blocks → into ≡ padded
    → marks ≡ map (λ (b : Block). b.mark) into.stripe.blocks
told_marks size bytes marks into padded whole same =
    sym (marks_of_blocks size bytes marks) ∙ ap (map (λ (b : Block). b.mark)) whole
    ∙ ap (λ (f : Filling). map (λ (b : Block). b.mark) f.stripe.blocks) (sym same)

-- ---- counters

-- some stripe of the program, for what is known of all of them
any_stripe : (i : Image) (w : World) (pad : ℕ) (o : Opening) (of : Program) → IsOfferedNow i w pad o of
    → IsStripeFor i (log_of w) o of (stripe_of of (blocks_for i.shape (log_of w 0) o of.at of.kind))
any_stripe i w pad o of now = stripe_for i w pad o of of.kind (blocks_for i.shape (log_of w 0) o of.at of.kind) now refl refl

pub left_room : (i : Image) (w : World) (c : Core) (o : Opening) (of : Program) → IsLegalMount i w → Stands i (log_of w) c
    → IsOfferedNow i w c.placer.entries.pad o of → of.kind ≡ kinds.Data → i.shape.ws_opt ≤ c.left
left_room i w c o of mount st now kind =
    let stripe : Stripe = stripe_of of (blocks_for i.shape (log_of w 0) o of.at of.kind) in
    let for : IsStripeFor i (log_of w) o of stripe = any_stripe i w c.placer.entries.pad o of now in
    let its = now.its stripe for in
    let is : IsOfKind i (log_of w) o stripe of.kind = of_kind i w c.placer.entries.pad o of stripe mount now for in
    let less : open_addresses i (log_of w) ≡ open_addresses i (after (log_of w) (Place stripe) []) + entries_for of.kind i.shape.ws_opt =
    left_by_kind i (log_of w) stripe [] o of.kind mount.accepted (record { opened = its.opened; idle = its.idle }) now.line is in
    let count : entries_for of.kind i.shape.ws_opt ≡ i.shape.ws_opt = ap (λ k. entries_for k i.shape.ws_opt) kind in
    let left : c.left ≡ open_addresses i (log_of w) = st.left in
    omega arith

pub placed_short : (i : Image) (w : World) (c : Core) (n : ℕ) → IsLegalMount i w → Stands i (log_of w) c → n ≤ i.shape.ws_opt → c.placed + n < 2 ^ 64
placed_short i w c n mount st few =
    let s : Shape = i.shape in
    let log : List Logged = log_of w 0 in
    let first : first_position log ≤ 2 ^ 62 = subst (λ m. m ≤ 2 ^ 62) st.first st.fits.first in
    let most : taken log ≤ 2 ^ 62 = taken_bounded i w mount first in
    let within : placed_front s log ≤ taken log = front_within s log (ordered i w mount) in
    let front : c.first + c.placed ≡ placed_front s log = st.placed in
    let short : s.ws_opt ≤ 64 = mount.accepted.drive.short_stripes in
    omega arith

pub front_short : (i : Image) (w : World) (c : Core) → IsLegalMount i w → Stands i (log_of w) c → c.first + c.placed < 2 ^ 64
front_short i w c mount st =
    let first : first_position (log_of w 0) ≤ 2 ^ 62 = subst (λ m. m ≤ 2 ^ 62) st.first st.fits.first in
    let most : taken (log_of w 0) ≤ 2 ^ 62 = taken_bounded i w mount first in
    let within : placed_front i.shape (log_of w 0) ≤ taken (log_of w 0) = front_within i.shape (log_of w 0) (ordered i w mount) in
    let front : c.first + c.placed ≡ placed_front i.shape (log_of w 0) = st.placed in
    omega arith

pub few_new : (front : ℕ) (positions : List ℕ) → new_count front positions ≤ length positions
few_new front positions = filter_short (λ q. nat_le front q) positions

pub under_way_short : (i : Image) (w : World) (c : Core) → IsLegalMount i w → Stands i (log_of w) c → c.under_way + 1 < 2 ^ 32
under_way_short i w c mount st =
    let few : c.under_way ≤ units i.shape = subst (λ n. n ≤ units i.shape) (sym st.in_flight) (few_under_way i.shape (log_of w 0)) in
    let most : units i.shape ≤ 64 = mount.accepted.drive.few_units in
    omega arith

-- ---- the unit

pub unit_inside : (i : Image) (w : World) (c : Core) (unit : ℕ) → Stands i (log_of w) c → unit < units i.shape → unit < length c.placer.units
unit_inside i w c unit st inside =
    subst (λ (p : Placing). unit < length p.units) (sym st.placing)
    (subst (λ n. unit < n) (sym (length-map-range_with_len (unit_row_in i (log_of w) st.again) 0 (units i.shape))) inside)

-- the positions that a placer tells of the unit of the next program, once that is placed
pub told_entries : (i : Image) (w : World) (c : Core) (new : Placing) (o : Opening) (of : Program) (told : List ℕ) → Stands i (log_of w) c
    → IsOfferedNow i w c.placer.entries.pad o of → new ≡ placed c.placer of
    → ((row : UnitRow) → slice_get new.units of.unit ≡ Some row → told ≡ positions_in row) → told ≡ of.positions
told_entries i w c new o of told st now is tells =
    let has = placed_has c.placer of (unit_inside i w c of.unit st now.unit) in
    tells (UnderWay of) (ap (λ (p : Placing). slice_get p.units of.unit) is ∙ has)

-- ---- what a stripe that is placed makes of a core, but for its count of stripes under way

pub record IsSettledInto (old mid : Core) (k : ℕ) (slot : KeptLine) (of : Program) (stripe : Stripe) : Type 0 where
  pub layout : mid.layout ≡ old.layout
  pub map : mid.map ≡ old.map
  pub lines : mid.lines ≡ placed_lines old.holds.rows.items of.line old.lines of.positions
  pub window : mid.window ≡ old.window
  pub placer : mid.placer ≡ placed old.placer of
  pub holds : mid.holds.rows.items ≡ placed_rows of.line old.holds.rows.items of.positions
  pub open_count : mid.open.count ≡ old.open.count
  pub open_slots : mid.open.slots.items ≡ slots_for of.kind old.open.slots.items k slot stripe
  pub online : mid.online ≡ old.online
  pub resets : mid.resets ≡ old.resets
  pub notes : mid.notes ≡ old.notes
  pub start : mid.start ≡ old.start
  pub first : mid.first ≡ old.first
  pub placed : mid.placed ≡ old.placed + new_count (old.first + old.placed) of.positions
  pub left : mid.left + entries_for of.kind old.layout.ws_opt ≡ old.left
  pub under_way : mid.under_way ≡ old.under_way
  pub answers : mid.answers.items ≡ old.answers.items
  pub users : mid.users ≡ old.users

-- a stripe of a record changes none of it
pub settled_same : (old mid : Core) (p : Placing) (kept : OpenLines) (k : ℕ) (slot : KeptLine) (of : Program) (stripe : Stripe)
    → mid ≡ record old { placer = p; «open» = kept } → p ≡ placed old.placer of
    → kept.count ≡ old.open.count → kept.slots.items ≡ old.open.slots.items → of.positions ≡ []
    → slots_for of.kind old.open.slots.items k slot stripe ≡ old.open.slots.items → entries_for of.kind old.layout.ws_opt ≡ 0
    → IsSettledInto old mid k slot of stripe
settled_same old mid p kept k slot of stripe same is count slots none quiet all = record {
  layout = ap (λ (c : Core). c.layout) same;
  map = ap (λ (c : Core). c.map) same;
  lines = ap (λ (c : Core). c.lines) same ∙ sym (ap (placed_lines old.holds.rows.items of.line old.lines) none);
  window = ap (λ (c : Core). c.window) same;
  placer = ap (λ (c : Core). c.placer) same ∙ is;
  holds = ap (λ (c : Core). c.holds.rows.items) same ∙ sym (ap (placed_rows of.line old.holds.rows.items) none);
  open_count = ap (λ (c : Core). c.open.count) same ∙ count;
  open_slots = ap (λ (c : Core). c.open.slots.items) same ∙ slots ∙ sym quiet;
  online = ap (λ (c : Core). c.online) same;
  resets = ap (λ (c : Core). c.resets) same;
  notes = ap (λ (c : Core). c.notes) same;
  start = ap (λ (c : Core). c.start) same;
  first = ap (λ (c : Core). c.first) same;
  placed = ap (λ (c : Core). c.placed) same ∙ more old.placed (new_count (old.first + old.placed) of.positions) (ap (new_count (old.first + old.placed)) none);
  left = ap₂ (λ a b. a + b) (ap (λ (c : Core). c.left) same) all ∙ sym (more old.left 0 refl);
  under_way = ap (λ (c : Core). c.under_way) same;
  answers = ap (λ (c : Core). c.answers.items) same;
  users = ap (λ (c : Core). c.users) same;
}
  where
    more : (a b : ℕ) → b ≡ 0 → a ≡ a + b
    more a b e = omega arith

pub left_back : (left less blocks n : ℕ) → less ≡ blocks → n ≡ blocks → blocks ≤ left → left - less + n ≡ left
left_back left less blocks n a b h = omega arith

-- the place of the line that was found
pub slot_there : (i : Image) (w : World) (c : Core) (of : Program) (result : ℕ) → (f : IsFound i w c of result) → IsSlot c.open result f.has.slot
slot_there i w c of result f = ap (slice_get c.open.slots.items) f.at ∙ f.has.there

pub no_positions : (i : Image) (w : World) (pad : ℕ) (o : Opening) (of : Program) (kind : StripeKind) → IsOfferedNow i w pad o of → of.kind ≡ kind
    → positions_for i.shape (log_of w 0) kind ≡ [] → of.positions ≡ []
no_positions i w pad o of kind now is none = now.positions ∙ ap (positions_for i.shape (log_of w 0)) is ∙ none
