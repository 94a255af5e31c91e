use Rattle.std.proofs.Common.{◌≡◌, ℕ, ◌+◌, ◌≤◌, ◌<◌, ◌^◌, List, length, refl, sym, subst, ap, ap₂, ◌∙◌, arith, false}
use Rattle.std.specs.Prelude.{slice_get, slice_set}
use Rattle.pblk_model.specs.declared.shape.Shape.{Shape}
use Rattle.pblk_model.specs.declared.chunk.Mark.{Mark}
use Rattle.pblk_model.specs.Chunk.{Block}
use Rattle.stripe_placer.specs.declared.placement.StripeKind.{StripeKind}
use Rattle.stripe_placer.specs.declared.placement.StripeKind.TheVariants as kinds
use Rattle.line_table.specs.Rows.{Table}
use Rattle.core_laws.specs.StripeFor.{IsStripeFor}
use Rattle.pblk_core.specs.Entries.{entry_blocks, placed_lines, placed_rows}
use Rattle.pblk_core.specs.Filling.{Filling, followed_by}
use Rattle.pblk_core.specs.LineRecords.{blocks_at_start, blocks_at_end, end_begins}
use Rattle.pblk_core.specs.Slots.{IsSlot, with_marks}
use Rattle.pblk_core.specs.declared.line_notes.LineNotes.{LineNotes}
use Rattle.pblk_core.proofs.BarrenLines.{brings_none, placed_elsewhere, unclosed_by_logs}
use Rattle.pblk_core.proofs.KeptFrames.{placed_pad}
use Rattle.pblk_core.proofs.PlacedStripe.{due_now}
use Rattle.pblk_core.proofs.StandsPlaced.{entries_for, line_unclosed, slots_for, placed_stands}
use Rattle.pblk_model.specs.LineOrder.{start_len}
use Rattle.pblk_model.specs.Image.{Image}
use Rattle.pblk_world.specs.World.{World, log_of}
use Rattle.pblk_world.specs.Events.{Stripe}
use Rattle.pblk_world.specs.Placing.{stripe_at}
use Rattle.pblk_world.specs.LegalMounts.{IsLegalMount}
use Rattle.stripe_placer.specs.Placing.{Program, Placing, program, under_way_in}
use Rattle.pblk_model.specs.Shape.{units}
use Rattle.pblk_core.specs.Stands.{Stands, answer_count}
use Rattle.pblk_core.proofs.AnswerCounts.{count_told}
use Rattle.pblk_core.specs.declared.open_lines.OpenLine.{OpenLine as KeptLine}
use Rattle.pblk_core.specs.declared.target_core.Core.{Core}
use Rattle.pblk_core.proofs.PlacedStripe.{IsInPart}
use Rattle.core_laws.specs.PlacerOf.{positions_in_stripe}
use Rattle.std.specs.Option.{option_and_then}
use Rattle.std.proofs.lemmas.Option.{same_Some}
use Rattle.pblk_core.specs.Landing.{new_count}
use Rattle.pblk_core.proofs.WaitingEntries.{sectors_sized}
use Rattle.pblk_core.proofs.PlacingConditions.{offer, IsFound, found, found_there, slot_is, in_the_window, few_entries, line_inside, live_room, marks_room, marks_told, end_from, end_within, left_room, placed_short, few_new, front_short, pad_stripe_is, pads_are, under_way_short, told_entries, unit_inside, start_stripe_is, end_stripe_is, data_stripe_is, stripe_of, IsSettledInto, settled_same, left_back, slot_there, no_positions, padded_is, told_marks}
use Rattle.stripe_placer.proofs.PlacingLemmas.{placed_has, placed_shape}
use Rattle.pblk_core.proofs.target_core.Core.place_new.Goals as goal
use Rattle.pblk_core.proofs.UnitRows.{placed_beside}
use Rattle.pblk_core.proofs.target_core.Core.place_new.Goals.{After-find-index, Joined-of, in-Start, in-Data, in-Pad, in-End}

pub placed-requires : goal.placed-requires
placed-requires c = (0, sym c.requires.next)

pub positions-positions-requires : goal.positions-positions-requires
positions-positions-requires c =
    let sd = c.requires.standing in
    let old : Placing = c.args.self.now.placer in
    let of : Program = program old c.args.of.now in
    let its = offer sd.image sd.world c.args.self.now of sd.legal sd.stands c.requires.next c.requires.idle in
    subst (λ (p : Placing). of.unit < units p.shape) (sym c.placed.ensures.placed)
    (subst (λ (s : Shape). of.unit < units s) (sym (placed_shape old of ∙ ap (λ (p : Placing). p.shape) sd.stands.placing)) its.1.unit)

-- the line of the program is found among the open ones
its_line : (c : After-find-index) (i : Image) (w : World) → IsLegalMount i w → Stands i (log_of w) c.args.self.now
    → IsFound i w c.args.self.now (program c.args.self.now.placer c.args.of.now) c.find-index.result
its_line c i w mount st =
    let at = c.find-index.ensures in
    found i w c.args.self.now (program c.args.self.now.placer c.args.of.now) c.find-index.result mount st c.requires.next c.requires.idle
    at.inside at.line at.first

pub find-index-requires-clause-there : goal.find-index-requires-clause-there
find-index-requires-clause-there c =
    let sd = c.requires.standing in
    let of : Program = program c.args.self.now.placer c.args.of.now in
    found_there sd.image sd.world c.args.self.now of sd.legal sd.stands c.requires.next c.requires.idle

pub start_stripe-requires-clause-shape : goal.start_stripe-requires-clause-shape
start_stripe-requires-clause-shape c = λ slot there.
    let sd = c.requires.standing in
    let begun : c.begin.new.self.shape ≡ sd.image.shape = ap (λ f. f.shape) c.begin.ensures ∙ c.requires.shape ∙ sd.stands.layout in
    begun ∙ sym (sd.stands.open_lines.shapes c.find-index.result slot there)

pub start_stripe-requires-clause-within : goal.start_stripe-requires-clause-within
start_stripe-requires-clause-within c =
    let sd = c.requires.standing in
    let of : Program = program c.args.self.now.placer c.args.of.now in
    let its = offer sd.image sd.world c.args.self.now of sd.legal sd.stands c.requires.next c.requires.idle in
    let begun : c.begin.new.self.shape ≡ sd.image.shape = ap (λ f. f.shape) c.begin.ensures ∙ c.requires.shape ∙ sd.stands.layout in
    subst (λ (s : Shape). of.at + s.ws_opt ≤ start_len s) (sym begun) (subst (IsInPart sd.image.shape its.0 of.at) c.in-Start.is its.1.part)

pub fill-requires-clause-held : goal.fill-requires-clause-held
fill-requires-clause-held c = λ k q e.
    let sd = c.requires.standing in
    let core : Core = c.args.self.now in
    let of : Program = program core.placer c.args.of.now in
    let its = offer sd.image sd.world c.args.self.now of sd.legal sd.stands c.requires.next c.requires.idle in
    let told : c.positions-positions.result.now ≡ of.positions =
    told_entries sd.image sd.world core c.placed.new.self its.0 of _ sd.stands its.1 c.placed.ensures.placed c.positions-positions.ensures in
    in_the_window sd.image sd.world core its.0 of k q sd.legal sd.stands its.1 (ap (λ qs. slice_get qs k) (sym told) ∙ e)

pub fill-requires-clause-size : goal.fill-requires-clause-size
fill-requires-clause-size c = λ q sector e.
    let sd = c.requires.standing in
    let begun : c.begin.new.self.shape ≡ sd.image.shape = ap (λ f. f.shape) c.begin.ensures ∙ c.requires.shape ∙ sd.stands.layout in
    sectors_sized sd.image sd.world c.args.self.now q sector sd.legal sd.stands e ∙ ap (λ (s : Shape). s.sector) (sym begun)

pub fill-requires-clause-room : goal.fill-requires-clause-room
fill-requires-clause-room c =
    let sd = c.requires.standing in
    let core : Core = c.args.self.now in
    let of : Program = program core.placer c.args.of.now in
    let its = offer sd.image sd.world c.args.self.now of sd.legal sd.stands c.requires.next c.requires.idle in
    let told : c.positions-positions.result.now ≡ of.positions =
    told_entries sd.image sd.world core c.placed.new.self its.0 of _ sd.stands its.1 c.placed.ensures.placed c.positions-positions.ensures in
    let begun : c.begin.new.self.shape ≡ sd.image.shape = ap (λ f. f.shape) c.begin.ensures ∙ c.requires.shape ∙ sd.stands.layout in
    subst (λ (s : Shape). length c.positions-positions.result.now ≤ s.ws_opt) (sym begun)
    (subst (λ n. n ≤ sd.image.shape.ws_opt) (sym (ap (λ (qs : List ℕ). length qs) told ∙ sym its.1.count))
    (few_entries sd.image sd.world core.placer.entries.pad its.0 of its.1))

pub settle_lines-requires-clause-inside : goal.settle_lines-requires-clause-inside
settle_lines-requires-clause-inside c =
    let sd = c.requires.standing in
    let of : Program = program c.args.self.now.placer c.args.of.now in
    let its = offer sd.image sd.world c.args.self.now of sd.legal sd.stands c.requires.next c.requires.idle in
    line_inside sd.image sd.world c.args.self.now of.line sd.stands its.1.line

pub settle_lines-requires-clause-room : goal.settle_lines-requires-clause-room
settle_lines-requires-clause-room c = λ row there.
    let sd = c.requires.standing in
    let core : Core = c.args.self.now in
    let of : Program = program core.placer c.args.of.now in
    let its = offer sd.image sd.world c.args.self.now of sd.legal sd.stands c.requires.next c.requires.idle in
    let told : c.positions-positions.result.now ≡ of.positions =
    told_entries sd.image sd.world core c.placed.new.self its.0 of _ sd.stands its.1 c.placed.ensures.placed c.positions-positions.ensures in
    let few : of.count ≤ sd.image.shape.ws_opt = few_entries sd.image sd.world core.placer.entries.pad its.0 of its.1 in
    subst (λ n. row.live + n < 2 ^ 32) (sym (ap (λ (qs : List ℕ). length qs) told ∙ sym its.1.count))
    (live_room sd.image sd.world core of.line of.count row sd.legal sd.stands there few)

pub mark_data-requires-clause-room : goal.mark_data-requires-clause-room
mark_data-requires-clause-room c = λ slot there.
    let sd = c.requires.standing in
    let core : Core = c.args.self.now in
    let of : Program = program core.placer c.args.of.now in
    let f = its_line (goal.at.mark_data-requires-clause-room c).After-find-index sd.image sd.world sd.legal sd.stands in
    let shape : c.pad.new.self.shape ≡ sd.image.shape =
    ap (λ f. f.shape) c.pad.ensures ∙ ap (λ f. f.shape) c.fill.ensures ∙ ap (λ f. f.shape) c.begin.ensures ∙ c.requires.shape ∙ sd.stands.layout in
    marks_room sd.image sd.world f.o of core.placer.entries.pad slot (length c.parts.result.1.now) sd.legal f.now c.in-Data.is
    (slot_is sd.image sd.world core of c.find-index.result slot f there)
    (subst (λ (s : Shape). length c.parts.result.1.now ≤ s.ws_opt) shape c.parts.ensures.few)

pub overflow_sub-self : goal.overflow_sub-self
overflow_sub-self c =
    let sd = c.requires.standing in
    let core : Core = c.args.self.now in
    let of : Program = program core.placer c.args.of.now in
    let its = offer sd.image sd.world c.args.self.now of sd.legal sd.stands c.requires.next c.requires.idle in
    let less : sd.image.shape.ws_opt ≤ core.left = left_room sd.image sd.world core its.0 of sd.legal sd.stands its.1 c.in-Data.is in
    subst (λ n. n ≤ core.left) (sym (c.from.ensures ∙ ap (λ (s : Shape). s.ws_opt) (c.shape.ensures.shape ∙ sd.stands.layout))) less

pub overflow_add-self : goal.overflow_add-self
overflow_add-self c =
    let sd = c.requires.standing in
    let short : c.args.self.now.first + c.args.self.now.placed < 2 ^ 64 = front_short sd.image sd.world c.args.self.now sd.legal sd.stands in
    omega arith

pub end_stripe-requires-clause-shape : goal.end_stripe-requires-clause-shape
end_stripe-requires-clause-shape c = λ slot there.
    let sd = c.requires.standing in
    let begun : c.begin.new.self.shape ≡ sd.image.shape = ap (λ f. f.shape) c.begin.ensures ∙ c.requires.shape ∙ sd.stands.layout in
    begun ∙ sym (sd.stands.open_lines.shapes c.find-index.result slot there)

pub end_stripe-requires-clause-told : goal.end_stripe-requires-clause-told
end_stripe-requires-clause-told c = λ slot there.
    let sd = c.requires.standing in
    let core : Core = c.args.self.now in
    let of : Program = program core.placer c.args.of.now in
    let f = its_line (goal.at.end_stripe-requires-clause-told c).After-find-index sd.image sd.world sd.legal sd.stands in
    marks_told sd.image sd.world f.o of core.placer.entries.pad slot sd.legal f.now c.in-End.is
    (slot_is sd.image sd.world core of c.find-index.result slot f there)

pub end_stripe-requires-clause-from : goal.end_stripe-requires-clause-from
end_stripe-requires-clause-from c = λ slot there.
    let sd = c.requires.standing in
    let core : Core = c.args.self.now in
    let of : Program = program core.placer c.args.of.now in
    let f = its_line (goal.at.end_stripe-requires-clause-from c).After-find-index sd.image sd.world sd.legal sd.stands in
    end_from sd.image sd.world f.o of core.placer.entries.pad slot f.now c.in-End.is
    (slot_is sd.image sd.world core of c.find-index.result slot f there)

pub end_stripe-requires-clause-within : goal.end_stripe-requires-clause-within
end_stripe-requires-clause-within c = λ slot there.
    let sd = c.requires.standing in
    let core : Core = c.args.self.now in
    let of : Program = program core.placer c.args.of.now in
    let f = its_line (goal.at.end_stripe-requires-clause-within c).After-find-index sd.image sd.world sd.legal sd.stands in
    end_within sd.image sd.world f.o of core.placer.entries.pad slot sd.legal f.now
    (slot_is sd.image sd.world core of c.find-index.result slot f there)

pub overflow_add-self-in-Data : goal.overflow_add-self-in-Data
overflow_add-self-in-Data c =
    let sd = c.requires.standing in
    let core : Core = c.args.self.now in
    let of : Program = program core.placer c.args.of.now in
    let its = offer sd.image sd.world core of sd.legal sd.stands c.requires.next c.requires.idle in
    let told : c.positions-positions.result.now ≡ of.positions =
    told_entries sd.image sd.world core c.placed.new.self its.0 of _ sd.stands its.1 c.placed.ensures.placed c.positions-positions.ensures in
    let few : of.count ≤ sd.image.shape.ws_opt = few_entries sd.image sd.world core.placer.entries.pad its.0 of its.1 in
    let most : length c.positions-positions.result.now ≤ sd.image.shape.ws_opt =
    subst (λ n. n ≤ sd.image.shape.ws_opt) (sym (ap (λ (qs : List ℕ). length qs) told ∙ sym its.1.count)) few in
    let new : c.count_new.result ≤ length c.positions-positions.result.now =
    subst (λ n. n ≤ length c.positions-positions.result.now) (sym c.count_new.ensures)
    (few_new (core.first + core.placed) c.positions-positions.result.now) in
    let short : core.placed + c.count_new.result < 2 ^ 64 =
    placed_short sd.image sd.world core c.count_new.result sd.legal sd.stands (omega arith) in
    omega arith

pub overflow_add-self-2 : goal.overflow_add-self-2
overflow_add-self-2 c =
    let sd = c.requires.standing in
    let old : ℕ = c.args.self.now.under_way in
    let same : c.match-of.self.under_way ≡ c.args.self.now.under_way = elim c.match-of.branch as (λ b. c.match-of.self.under_way ≡ old) [
      | in-Start w ↦ ap (λ (x : Core). x.under_way) w.self-is
      | in-Data w ↦ ap (λ (x : Core). x.under_way) w.self-is
      | in-Pad w ↦ ap (λ (x : Core). x.under_way) w.self-is
      | in-End w ↦ ap (λ (x : Core). x.under_way) w.self-is
    ] in
    let few : c.args.self.now.under_way + 1 < 2 ^ 32 = under_way_short sd.image sd.world c.args.self.now sd.legal sd.stands in
    omega arith

-- the program, and the core before it
abbrev program_in : Joined-of → Program
program_in c = program c.args.self.now.placer c.args.of.now

abbrev core_in : Joined-of → Core
core_in c = c.args.self.now

-- its line is found among the open ones
abbrev IsFoundIn : Joined-of → Image → World → Type 0
IsFoundIn c i v = IsFound i v (core_in c) (program_in c) c.find-index.result

begun_shape : (c : Joined-of) (i : Image) (v : World) → Stands i (log_of v) (core_in c) → c.begin.new.self.shape ≡ i.shape
begun_shape c i v st = ap (λ f. f.shape) c.begin.ensures ∙ c.requires.shape ∙ st.layout

begun_with : (c : Joined-of) (blocks : List Block) → (followed_by c.begin.new.self blocks).stripe ≡ stripe_of (program_in c) blocks
begun_with c blocks = ap (λ f. (followed_by f blocks).stripe) c.begin.ensures

-- the stripe is the program's
the_stripe : (c : Joined-of) (i : Image) (v : World) → IsLegalMount i v → Stands i (log_of v) (core_in c) → (f : IsFoundIn c i v)
    → IsStripeFor i (log_of v) f.o (program_in c) c.match-of.into.stripe
the_stripe c i v mount st f =
    let core : Core = core_in c in
    let of : Program = program_in c in
    let pad : ℕ = core.placer.entries.pad in
    let begun : Filling = c.begin.new.self in
    let there : IsSlot core.open c.find-index.result f.has.slot = slot_there i v core of c.find-index.result f in
    elim c.match-of.branch as (λ b. IsStripeFor i (log_of v) f.o (program_in c) c.match-of.into.stripe) [
      | in-Start w ↦
          let blocks : List Block = stripe_at begun.shape (blocks_at_start f.has.slot.records) 0 of.at in
          let filled = ap (λ f. f.stripe) (w.into-is ∙ w.start_stripe.ensures f.has.slot there) ∙ begun_with c blocks in
          subst (IsStripeFor i (log_of v) f.o of) (sym filled)
          (start_stripe_is i v pad f.o of f.has.slot begun.shape f.now w.in-Start.is f.has.is (begun_shape c i v st))
      | in-Data w ↦
          let blocks : List Block = entry_blocks core.window core.holds.rows.items of.positions in
          let told = told_entries i v core c.placed.new.self f.o of _ st f.now c.placed.ensures.placed w.positions-positions.ensures in
          let filled = w.fill.ensures ∙ ap (λ qs. followed_by begun (entry_blocks core.window core.holds.rows.items qs)) told in
          let padded = padded_is of c.args.into.now.shape false _ blocks begun w.fill.new.into w.pad.new.self c.begin.ensures filled w.pad.ensures in
          subst (IsStripeFor i (log_of v) f.o of) (sym (ap (λ f. f.stripe) w.into-is ∙ padded))
          (data_stripe_is i v core f.o of c.args.into.now.shape mount st f.now w.in-Data.is (c.requires.shape ∙ st.layout))
      | in-Pad w ↦
          let padded = pads_are of c.args.into.now.shape false _ begun w.pad-in-Pad.new.self c.begin.ensures w.pad-in-Pad.ensures in
          subst (IsStripeFor i (log_of v) f.o of) (sym (ap (λ f. f.stripe) w.into-is ∙ padded))
          (pad_stripe_is i v pad f.o of c.args.into.now.shape f.now w.in-Pad.is (c.requires.shape ∙ st.layout))
      | in-End w ↦
          let blocks : List Block = stripe_at begun.shape (blocks_at_end f.has.slot.records) (end_begins f.has.slot.records) of.at in
          let filled = ap (λ f. f.stripe) (w.into-is ∙ w.end_stripe.ensures.filled f.has.slot there) ∙ begun_with c blocks in
          subst (IsStripeFor i (log_of v) f.o of) (sym filled)
          (end_stripe_is i v pad f.o of f.has.slot begun.shape f.now w.in-End.is f.has.is (begun_shape c i v st))
    ]

the_rest : (c : Joined-of) (i : Image) (v : World) → IsLegalMount i v → Stands i (log_of v) (core_in c) → (f : IsFoundIn c i v)
    → IsSettledInto (core_in c) c.match-of.self f.has.k f.has.slot (program_in c) c.match-of.into.stripe
the_rest c i v mount st f =
    let core : Core = core_in c in
    let of : Program = program_in c in
    let mid : Core = c.match-of.self in
    let new : Placing = c.placed.new.self in
    let is = c.placed.ensures.placed in
    let slot : KeptLine = f.has.slot in
    let stripe : Stripe = c.match-of.into.stripe in
    let pad : ℕ = core.placer.entries.pad in
    let slots = λ (kind : StripeKind). slots_for kind core.open.slots.items f.has.k slot stripe in
    let takes = λ (kind : StripeKind). entries_for kind core.layout.ws_opt in
    let there : IsSlot core.open c.find-index.result slot = slot_there i v core of c.find-index.result f in
    elim c.match-of.branch as (λ b. IsSettledInto (core_in c) c.match-of.self f.has.k f.has.slot (program_in c) c.match-of.into.stripe) [
      | in-Start w ↦ settled_same core mid new core.open f.has.k slot of stripe w.self-is is refl refl
          (no_positions i v pad f.o of kinds.Start f.now w.in-Start.is refl) (ap slots w.in-Start.is) (ap takes w.in-Start.is)
      | in-Data w ↦
          let told = told_entries i v core new f.o of _ st f.now is w.positions-positions.ensures in
          let marks = told_marks w.pad.new.self.shape.sector w.parts.result.0.now w.parts.result.1.now c.match-of.into w.pad.new.self
          (assumption (w.parts.ensures)) w.into-is in
          record {
            layout = ap (λ (x : Core). x.layout) w.self-is;
            map = ap (λ (x : Core). x.map) w.self-is;
            lines = ap (λ (x : Core). x.lines) w.self-is ∙ w.settle_lines.ensures ∙ ap (placed_lines core.holds.rows.items of.line core.lines) told;
            window = ap (λ (x : Core). x.window) w.self-is;
            placer = ap (λ (x : Core). x.placer) w.self-is ∙ is;
            holds = ap (λ (x : Core). x.holds.rows.items) w.self-is ∙ w.settle_holds.ensures ∙ ap (placed_rows of.line core.holds.rows.items) told;
            open_count = ap (λ (x : Core). x.open.count) w.self-is ∙ w.mark_data.ensures.count;
            open_slots = ap (λ (x : Core). x.open.slots.items) w.self-is ∙ w.mark_data.ensures.slots slot there
                ∙ ap₂ (λ n (ms : List Mark). slice_set core.open.slots.items n (with_marks slot ms)) f.at marks ∙ sym (ap slots w.in-Data.is);
            online = ap (λ (x : Core). x.online) w.self-is;
            resets = ap (λ (x : Core). x.resets) w.self-is;
            notes = ap (λ (x : Core). x.notes) w.self-is;
            start = ap (λ (x : Core). x.start) w.self-is;
            first = ap (λ (x : Core). x.first) w.self-is;
            placed = ap (λ (x : Core). x.placed) w.self-is
                ∙ ap (λ n. core.placed + n) (w.count_new.ensures ∙ ap (new_count (core.first + core.placed)) told);
            left = ap (λ (x : Core). x.left + entries_for of.kind core.layout.ws_opt) w.self-is
                ∙ left_back core.left w.from.result i.shape.ws_opt (entries_for of.kind core.layout.ws_opt)
                (w.from.ensures ∙ ap (λ (s : Shape). s.ws_opt) (w.shape.ensures.shape ∙ st.layout))
                (ap takes w.in-Data.is ∙ ap (λ (s : Shape). s.ws_opt) st.layout) (left_room i v core f.o of mount st f.now w.in-Data.is);
            under_way = ap (λ (x : Core). x.under_way) w.self-is;
            answers = ap (λ (x : Core). x.answers.items) w.self-is;
            users = ap (λ (x : Core). x.users) w.self-is;
          }
      | in-Pad w ↦ settled_same core mid new core.open f.has.k slot of stripe w.self-is is refl refl
          (no_positions i v pad f.o of kinds.Pad f.now w.in-Pad.is refl) (ap slots w.in-Pad.is) (ap takes w.in-Pad.is)
      | in-End w ↦ settled_same core mid new w.end_stripe.new.self f.has.k slot of stripe w.self-is is w.end_stripe.ensures.count w.end_stripe.ensures.slots
          (no_positions i v pad f.o of kinds.End f.now w.in-End.is refl) (ap slots w.in-End.is) (ap takes w.in-End.is)
    ]

pub returns-clause-legal : goal.returns-clause-legal
returns-clause-legal c = λ i v mount st.
    let all = goal.at.returns-clause-legal c in
    let at = all.Joined-of in
    let f = its_line all.After-find-index i v mount st in
    f.now.may c.match-of.into.stripe (the_stripe at i v mount st f)

pub returns-clause-due : goal.returns-clause-due
returns-clause-due c = λ i v mount st.
    let all = goal.at.returns-clause-due c in
    let at = all.Joined-of in
    let f = its_line all.After-find-index i v mount st in
    due_now i v c.args.self.now.placer.entries.pad f.o (program_in at) c.match-of.into.stripe mount f.now (the_stripe at i v mount st f)

pub returns-clause-stands : goal.returns-clause-stands
returns-clause-stands c = λ i v knows mount st.
    let all = goal.at.returns-clause-stands c in
    let at = all.Joined-of in
    let f = its_line all.After-find-index i v mount st in
    let stripe : Stripe = c.match-of.into.stripe in
    let rest : IsSettledInto (core_in at) c.match-of.self f.has.k f.has.slot (program_in at) stripe = the_rest at i v mount st f in
    placed_stands i v knows (core_in at) _ f.o (program_in at) stripe mount st f.has f.now (the_stripe at i v mount st f) f.now.count (record {
      layout = rest.layout;
      map = rest.map;
      lines = rest.lines;
      window = rest.window;
      placer = rest.placer;
      holds = rest.holds;
      open_count = rest.open_count;
      open_slots = rest.open_slots;
      online = rest.online;
      resets = rest.resets;
      notes = rest.notes;
      start = rest.start;
      first = rest.first;
      placed = rest.placed;
      left = rest.left;
      under_way = ap (λ n. n + 1) rest.under_way;
      answers = rest.answers;
      users = rest.users;
    })

pub returns-clause-under_way : goal.returns-clause-under_way
returns-clause-under_way c =
    let all = goal.at.returns-clause-under_way c in
    let at = all.Joined-of in
    let sd = c.requires.standing in
    let f = its_line all.After-find-index sd.image sd.world sd.legal sd.stands in
    let rest = the_rest at sd.image sd.world sd.legal sd.stands f in
    let for : IsStripeFor sd.image (log_of sd.world) f.o (program_in at) c.match-of.into.stripe =
    the_stripe at sd.image sd.world sd.legal sd.stands f in
    let inside = unit_inside sd.image sd.world (core_in at) c.args.of.now.unit sd.stands f.now.unit in
    (program_in at, ap₂ (λ (p : Placing) u. slice_get p.units u) rest.placer for.unit ∙ placed_has c.args.self.now.placer (program_in at) inside)

pub returns-clause-entries : goal.returns-clause-entries
returns-clause-entries c = λ other there.
    let all = goal.at.returns-clause-entries c in
    let at = all.Joined-of in
    let sd = c.requires.standing in
    let f = its_line all.After-find-index sd.image sd.world sd.legal sd.stands in
    let rest = the_rest at sd.image sd.world sd.legal sd.stands f in
    let for : IsStripeFor sd.image (log_of sd.world) f.o (program_in at) c.match-of.into.stripe =
    the_stripe at sd.image sd.world sd.legal sd.stands f in
    let inside = unit_inside sd.image sd.world (core_in at) c.args.of.now.unit sd.stands f.now.unit in
    let own = ap₂ (λ (p : Placing) u. slice_get p.units u) rest.placer for.unit ∙ placed_has c.args.self.now.placer (program_in at) inside in
    ap (λ s. positions_in_stripe s c.match-of.into.stripe) (rest.layout ∙ sd.stands.layout)
    ∙ (f.now.its c.match-of.into.stripe for).positions
    ∙ ap (λ (x : Program). x.positions) (same_Some (program_in at) other (ap (option_and_then under_way_in) (sym own ∙ there)))

pub returns-clause-shape : goal.returns-clause-shape
returns-clause-shape c =
    let all = goal.at.returns-clause-shape c in
    let at = all.Joined-of in
    let sd = c.requires.standing in
    let f = its_line all.After-find-index sd.image sd.world sd.legal sd.stands in
    let there : IsSlot c.args.self.now.open c.find-index.result f.has.slot =
    slot_there sd.image sd.world (core_in at) (program_in at) c.find-index.result f in
    let begun : c.begin.new.self.shape ≡ c.args.into.now.shape = ap (λ f. f.shape) c.begin.ensures in
    elim c.match-of.branch as (λ b. c.match-of.into.shape ≡ c.args.into.now.shape) [
      | in-Start w ↦ ap (λ f. f.shape) (w.into-is ∙ w.start_stripe.ensures f.has.slot there) ∙ begun
      | in-Data w ↦ ap (λ f. f.shape) (w.into-is ∙ w.pad.ensures) ∙ ap (λ f. f.shape) w.fill.ensures ∙ begun
      | in-Pad w ↦ ap (λ f. f.shape) (w.into-is ∙ w.pad-in-Pad.ensures) ∙ begun
      | in-End w ↦ ap (λ f. f.shape) (w.into-is ∙ w.end_stripe.ensures.filled f.has.slot there) ∙ begun
    ]

pub returns-clause-window : goal.returns-clause-window
returns-clause-window c =
    let all = goal.at.returns-clause-window c in
    let at = all.Joined-of in
    let sd = c.requires.standing in
    let f = its_line all.After-find-index sd.image sd.world sd.legal sd.stands in
    (the_rest at sd.image sd.world sd.legal sd.stands f).window

pub returns-clause-first : goal.returns-clause-first
returns-clause-first c =
    let all = goal.at.returns-clause-first c in
    let at = all.Joined-of in
    let sd = c.requires.standing in
    let f = its_line all.After-find-index sd.image sd.world sd.legal sd.stands in
    let there : IsSlot c.args.self.now.open c.find-index.result f.has.slot =
    slot_there sd.image sd.world (core_in at) (program_in at) c.find-index.result f in
    let begun : c.begin.new.self.again ≡ false = ap (λ f. f.again) c.begin.ensures in
    elim c.match-of.branch as (λ b. c.match-of.into.again ≡ false) [
      | in-Start w ↦ ap (λ f. f.again) (w.into-is ∙ w.start_stripe.ensures f.has.slot there) ∙ begun
      | in-Data w ↦ ap (λ f. f.again) (w.into-is ∙ w.pad.ensures) ∙ ap (λ f. f.again) w.fill.ensures ∙ begun
      | in-Pad w ↦ ap (λ f. f.again) (w.into-is ∙ w.pad-in-Pad.ensures) ∙ begun
      | in-End w ↦ ap (λ f. f.again) (w.into-is ∙ w.end_stripe.ensures.filled f.has.slot there) ∙ begun
    ]

pub returns-clause-rows : goal.returns-clause-rows
returns-clause-rows c = λ other apart.
    let all = goal.at.returns-clause-rows c in
    let at = all.Joined-of in
    let sd = c.requires.standing in
    let f = its_line all.After-find-index sd.image sd.world sd.legal sd.stands in
    let rest = the_rest at sd.image sd.world sd.legal sd.stands f in
    let for : IsStripeFor sd.image (log_of sd.world) f.o (program_in at) c.match-of.into.stripe =
    the_stripe at sd.image sd.world sd.legal sd.stands f in
    ap (λ (p : Placing). slice_get p.units other) rest.placer
    ∙ placed_beside c.args.self.now.placer (program_in at) c.match-of.into.stripe.unit other (sym for.unit) apart

pub returns-clause-turn : goal.returns-clause-turn
returns-clause-turn c = λ i w mount st.
    let all = goal.at.returns-clause-turn c in
    let at = all.Joined-of in
    let f = its_line all.After-find-index i w mount st in
    let there : IsSlot c.args.self.now.open c.find-index.result f.has.slot = slot_there i w (core_in at) (program_in at) c.find-index.result f in
    let for : IsStripeFor i (log_of w) f.o (program_in at) c.match-of.into.stripe = the_stripe at i w mount st f in
    let begun : c.begin.new.self.turn ≡ c.index-turn.result.now = ap (λ f. f.turn) c.begin.ensures in
    let told : c.match-of.into.turn ≡ c.index-turn.result.now = elim c.match-of.branch as (λ b. c.match-of.into.turn ≡ c.index-turn.result.now) [
      | in-Start w ↦ ap (λ f. f.turn) (w.into-is ∙ w.start_stripe.ensures f.has.slot there) ∙ begun
      | in-Data w ↦ ap (λ f. f.turn) (w.into-is ∙ w.pad.ensures) ∙ ap (λ f. f.turn) w.fill.ensures ∙ begun
      | in-Pad w ↦ ap (λ f. f.turn) (w.into-is ∙ w.pad-in-Pad.ensures) ∙ begun
      | in-End w ↦ ap (λ f. f.turn) (w.into-is ∙ w.end_stripe.ensures.filled f.has.slot there) ∙ begun
    ] in
    told ∙ count_told i (log_of w) c.args.self.now c.args.of.now.unit c.index-turn.result.now st f.now.unit c.index-turn.ensures
    ∙ ap (answer_count (log_of w 0)) (sym for.unit)

-- what is collected stays
same_collection : (c : Joined-of) → c.match-of.self.collection ≡ (core_in c).collection
same_collection c = elim c.match-of.branch as (λ b. c.match-of.self.collection ≡ (core_in c).collection) [
  | in-Start w ↦ ap (λ (x : Core). x.collection) w.self-is
  | in-Data w ↦ ap (λ (x : Core). x.collection) w.self-is
  | in-Pad w ↦ ap (λ (x : Core). x.collection) w.self-is
  | in-End w ↦ ap (λ (x : Core). x.collection) w.self-is
]

-- the line of the stripe isn't closed
pub returns-clause-collecting : goal.returns-clause-collecting
returns-clause-collecting c =
    let all = goal.at.returns-clause-collecting c in
    let at = all.Joined-of in
    let sd = c.requires.standing in
    let core : Core = core_in at in
    let of : Program = program_in at in
    let f = its_line all.After-find-index sd.image sd.world sd.legal sd.stands in
    let rest = the_rest at sd.image sd.world sd.legal sd.stands f in
    let unclosed = unclosed_by_logs sd.image sd.world core of.line sd.stands
    (line_unclosed sd.image sd.world core.placer.entries.pad f.o of sd.legal f.now) in
    record {
      collection = same_collection at;
      map = rest.map;
      pad = ap (λ (p : Placing). p.entries.pad) rest.placer ∙ placed_pad c.args.self.now.placer of;
      brings = brings_none core c.match-of.self of.line (record {
        layout = rest.layout;
        newest = ap (λ (n : LineNotes). n.newest) rest.notes;
        others = λ other apart. record {
          notes = ap (λ (n : LineNotes). slice_get n.rows.items other) rest.notes;
          rows = ap (λ (t : Table). slice_get t.rows other) rest.lines ∙ placed_elsewhere core.holds.rows.items of.line other of.positions core.lines apart;
          online = ap (λ us. slice_get us.items other) rest.online;
        };
      }) (λ note there. unclosed note (ap (λ (n : LineNotes). slice_get n.rows.items of.line) (sym rest.notes) ∙ there));
    }
