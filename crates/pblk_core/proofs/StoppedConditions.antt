-- What the calls ask for that fill a stopped stripe again.
use Rattle.std.proofs.Common.{◌≡◌, ℕ, ◌+◌, ◌*◌, ◌<◌, ◌≤◌, true, Some, List, length, take, sym, subst, ap, ap₂, ◌∙◌, arith, length-take}
use Rattle.std.specs.Prelude.{slice_get}
use Rattle.std.proofs.lemmas.List.{length-map}
use Rattle.std.proofs.lemmas.Option.{same_Some}
use Rattle.pblk_model.specs.declared.chunk.Mark.{Mark}
use Rattle.pblk_model.specs.Image.{Image}
use Rattle.pblk_model.specs.LineOrder.{data_len, end_len, start_len}
use Rattle.pblk_world.specs.Events.{Stripe}
use Rattle.pblk_world.specs.World.{World, log_of}
use Rattle.pblk_world.specs.EngineLog.{Opened, Opening, Taken, life_of}
use Rattle.pblk_world.specs.Fronts.{waiting}
use Rattle.pblk_world.specs.Placing.{end_address, line_end}
use Rattle.stripe_placer.specs.declared.placement.StripeKind.TheVariants as kinds
use Rattle.stripe_placer.specs.Placing.{Placing, Program}
use Rattle.stripe_placer.specs.Placing.UnitRow.{Stopped}
use Rattle.write_window.specs.Window as view
use Rattle.core_laws.specs.OpenedLines.{as_opened}
use Rattle.core_laws.specs.PlacerOf.{unanswered_on, was_stopped_on}
use Rattle.pblk_world.specs.LegalMounts.{IsLegalMount}
use Rattle.core_laws.proofs.PartLengths.{ends_before}
use Rattle.core_laws.proofs.StripesInOrder.{stripe_count}
use Rattle.pblk_core.specs.Landing.{WasStopped}
use Rattle.pblk_core.specs.LineRecords.{end_begins}
use Rattle.pblk_core.specs.Slots.{IsSlot}
use Rattle.pblk_core.specs.Stands.{IsOpenLine, Stands}
use Rattle.pblk_core.specs.declared.open_lines.OpenLine.{OpenLine as KeptLine}
use Rattle.pblk_core.specs.declared.target_core.Core.{Core}
use Rattle.pblk_core.proofs.LandedCore.{entry_held}
use Rattle.pblk_core.proofs.LandedLines.{HasSlot, found_slot, has_slot}
use Rattle.pblk_core.proofs.LandedWay.{IsOnWay, line_of_way, of_stopped_row, on_way}
use Rattle.pblk_core.proofs.LineUnits.{now_units}
use Rattle.pblk_core.proofs.PlacedStripe.{IsInPart}
use Rattle.pblk_core.proofs.PlacingConditions.{within_end}
use Rattle.pblk_core.proofs.StoppedStripe.{marks_end, part, parts, positions_then}

-- a stripe that was stopped: its place in its line, and the slot of that line
pub record IsStopped (i : Image) (w : World) (c : Core) (of : Program) : Type 0 where
  pub is : IsOnWay i w of.unit of
  pub has : HasSlot i (log_of w) c.open is.row.opening
  pub was : was_stopped_on (log_of w 0) of.unit ≡ true

pub its_stopped : (i : Image) (w : World) (c : Core) (of : Program) → IsLegalMount i w → Stands i (log_of w) c
    → slice_get c.placer.units of.unit ≡ Some (Stopped of) → IsStopped i w c of
its_stopped i w c of mount st there =
    let row = of_stopped_row i (log_of w) c.placer.entries.pad st.again of.unit of (ap (λ (p : Placing). slice_get p.units of.unit) (sym st.placing) ∙ there) in
    let is : IsOnWay i w of.unit of = on_way i w of.unit of mount row.0 in
    record { is = is; has = has_slot i w c of.unit of mount is st; was = row.1 }

-- the log says so of a stripe that is filled as it was placed
pub says_stopped : (i : Image) (w : World) (c : Core) (of : Program) (stripe : Stripe) → (its : IsStopped i w c of) → stripe ≡ its.is.row.stripe.stripe
    → stripe.unit ≡ of.unit → WasStopped (log_of w 0) stripe
says_stopped i w c of stripe its same unit = record {
  placed = its.is.row.stripe;
  unanswered = ap (unanswered_on (log_of w 0)) unit ∙ its.is.row.waits;
  same = sym same;
  stopped = ap (was_stopped_on (log_of w 0)) unit ∙ its.was;
}

module _ (i : Image) (w : World) (c : Core) (of : Program) (mount : IsLegalMount i w) (its : IsStopped i w c of) where
  -- ---- its line among the open ones

  pub line_there : (k : ℕ) × (slot : KeptLine) × (k < 2) × IsSlot c.open k slot × (slot.records.line ≡ of.line)
  line_there = (its.has.k, its.has.slot, its.has.inside, its.has.there, its.has.is.records.line ∙ line_of_way i w of.unit of its.is)

  pub slot_there : (result : ℕ) → Stands i (log_of w) c → result < 2 → ((slot : KeptLine) → IsSlot c.open result slot → slot.records.line ≡ of.line)
      → ((slot : KeptLine) → IsSlot c.open 0 slot → slot.records.line ≡ of.line → result ≡ 0) → IsSlot c.open result its.has.slot
  slot_there result st inside line first =
      ap (slice_get c.open.slots.items)
      (found_slot i w c its.is.row.opening of.line result (line_of_way i w of.unit of its.is) st its.has inside line first) ∙ its.has.there

  -- the line that stands there is it
  pub slot_kept : (result : ℕ) (slot : KeptLine) → IsSlot c.open result its.has.slot → IsSlot c.open result slot
      → IsOpenLine i (log_of w) its.is.row.opening slot
  slot_kept result slot there at = subst (IsOpenLine i (log_of w) its.is.row.opening) (same_Some its.has.slot slot (sym there ∙ at)) its.has.is

  -- ---- a stripe of a record

  pub start_within : of.kind ≡ kinds.Start → of.at + i.shape.ws_opt ≤ start_len i.shape
  start_within kind = subst (IsInPart i.shape its.is.row.opening of.at) kind (part i w of.unit of mount its.is)

  end_part : of.kind ≡ kinds.End → end_address i.shape its.is.row.opening ≤ of.at
  end_part kind = subst (IsInPart i.shape its.is.row.opening of.at) kind (part i w of.unit of mount its.is)

  pub marks_again : (slot : KeptLine) → of.kind ≡ kinds.End → IsOpenLine i (log_of w) its.is.row.opening slot
      → length slot.records.marks ≡ data_len slot.records.shape slot.records.width
  marks_again slot kind is =
      ap (λ (ms : List Mark). length ms) is.records.marks ∙ marks_end i w of.unit of mount its.is kind
      ∙ sym (ap₂ data_len is.records.shape is.records.width)

  pub from_again : (slot : KeptLine) → of.kind ≡ kinds.End → IsOpenLine i (log_of w) its.is.row.opening slot → end_begins slot.records ≤ of.at
  from_again slot kind is = subst (λ n. n ≤ of.at) (sym (ap₂ (λ s g. start_len s + data_len s g) is.records.shape is.records.width)) (end_part kind)

  pub end_again_within : (slot : KeptLine) → IsOpenLine i (log_of w) its.is.row.opening slot
      → of.at + slot.records.shape.ws_opt ≤ end_begins slot.records + end_len slot.records.shape slot.records.width
  end_again_within slot is =
      let o : Opening = its.is.row.opening in
      let count : length (as_opened i (log_of w) o).stripes ≡ stripe_count i (now_units i w) o.line = its.is.line_is.count in
      let below : its.is.number < length (as_opened i (log_of w) o).stripes = its.is.inside in
      let whole : its.is.number * i.shape.ws_opt + i.shape.ws_opt ≤ line_end i.shape o =
      ends_before i.shape.ws_opt its.is.number (stripe_count i (now_units i w) o.line) (line_end i.shape o) (parts i w of.unit of mount its.is).line_is
      (omega arith) in
      let life : life_of (log_of w 0) its.is.row.stripe.stripe.line ≡ Opened o = its.is.stands in
      within_end i w o of.at its.is.row.stripe.stripe.line slot mount life
      (subst (λ a. a + i.shape.ws_opt ≤ line_end i.shape o) (sym its.is.number_is) whole) is

  -- ---- its entries

  pub held_again : (k q : ℕ) → Stands i (log_of w) c → slice_get of.positions k ≡ Some q → view.IsHeld c.window q
  held_again k q st at = entry_held i w c of.unit of k q mount st its.is at

  pub few_again : of.kind ≡ kinds.Data → length of.positions ≤ i.shape.ws_opt
  few_again kind =
      let ts : List Taken = take i.shape.ws_opt
      (waiting i.shape (take its.is.row.stripe.number (log_of w 0))) in
      let long : length of.positions ≡ length ts =
      ap (λ (qs : List ℕ). length qs) (positions_then i w of.unit of mount its.is kind) ∙ length-map ts (λ (t : Taken). t.entry.position) in
      let short : length ts ≤ i.shape.ws_opt =
      omega (arith, length-take i.shape.ws_opt (waiting i.shape (take its.is.row.stripe.number (log_of w 0)))) in
      omega arith
