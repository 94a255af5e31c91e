use Rattle.std.proofs.Common.{◌≡◌, ℕ, ◌+◌, ◌<◌, ◌≤◌, true, List, length, refl, sym, subst, ap, ap₂, ◌∙◌}
use Rattle.std.specs.Prelude.{slice_get}
use Rattle.pblk_model.specs.declared.shape.Shape.{Shape}
use Rattle.pblk_model.specs.Chunk.{Block}
use Rattle.pblk_model.specs.Image.{Image}
use Rattle.pblk_model.specs.LineOrder.{start_len}
use Rattle.pblk_model.specs.Shape.{units}
use Rattle.pblk_world.specs.Placing.{stripe_at}
use Rattle.pblk_world.specs.World.{World, log_of}
use Rattle.stripe_placer.specs.Placing.{IsNext, Placing, Program, placed, program, under_way_in}
use Rattle.stripe_placer.specs.Placing.UnitRow.{Stopped}
use Rattle.stripe_placer.proofs.PlacingLemmas.{placed_has}
use Rattle.pblk_world.specs.LegalMounts.{IsLegalMount}
use Rattle.pblk_core.specs.Entries.{entry_blocks}
use Rattle.pblk_core.specs.Filling.{Filling, followed_by}
use Rattle.pblk_core.specs.LineRecords.{blocks_at_start, blocks_at_end, end_begins}
use Rattle.pblk_core.specs.Slots.{IsSlot}
use Rattle.pblk_core.specs.Stands.{Stands, answer_count}
use Rattle.pblk_core.proofs.AnswerCounts.{count_told}
use Rattle.pblk_core.specs.declared.target_core.Core.{Core}
use Rattle.pblk_core.proofs.KeptFrames.{placed_pad}
use Rattle.pblk_core.proofs.PlacingConditions.{padded_is, pads_are, stripe_of, unit_inside}
use Rattle.core_laws.specs.PlacerOf.{positions_in_stripe}
use Rattle.std.specs.Option.{option_and_then}
use Rattle.std.proofs.lemmas.Option.{same_Some}
use Rattle.pblk_core.proofs.LandedCore.{positions_are}
use Rattle.pblk_core.proofs.BarrenLines.{brings_kept}
use Rattle.pblk_core.proofs.StandsAgain.{IsPlacedAgain, again_into, again_stands}
use Rattle.pblk_core.proofs.StoppedConditions.{IsStopped, end_again_within, few_again, from_again, held_again, its_stopped, line_there, marks_again, says_stopped, slot_kept, slot_there, start_within}
use Rattle.pblk_core.proofs.StoppedStripe.{data_again, end_again, pad_again, start_again}
use Rattle.pblk_core.proofs.WaitingEntries.{sectors_sized}
use Rattle.pblk_core.proofs.target_core.Core.place_again.Goals as goal
use Rattle.pblk_core.proofs.UnitRows.{placed_beside}
use Rattle.pblk_core.proofs.target_core.Core.place_again.Goals.{After-find-index, Joined-of, in-Start, in-Data, in-Pad, in-End}

pub find-index-requires-clause-there : goal.find-index-requires-clause-there
find-index-requires-clause-there c =
    let sd = c.requires.standing in
    let of : Program = program c.args.self.now.placer c.args.of.now in
    line_there sd.image sd.world c.args.self.now of sd.legal
    (its_stopped sd.image sd.world c.args.self.now of sd.legal sd.stands c.requires.stopped)

pub positions-positions-requires : goal.positions-positions-requires
positions-positions-requires c =
    let sd = c.requires.standing in
    let of : Program = program c.args.self.now.placer c.args.of.now in
    let its = its_stopped sd.image sd.world c.args.self.now of sd.legal sd.stands c.requires.stopped in
    subst (λ (s : Shape). of.unit < units s) (sym (ap (λ (p : Placing). p.shape) sd.stands.placing)) its.is.row.inside

-- the slot that is found is the line's
found_slot : (c : After-find-index) (i : Image) (w : World) (mount : IsLegalMount i w) → Stands i (log_of w) c.args.self.now
    → (its : IsStopped i w c.args.self.now (program c.args.self.now.placer c.args.of.now)) → IsSlot c.args.self.now.open c.find-index.result its.has.slot
found_slot c i w mount st its =
    let at = c.find-index.ensures in
    slot_there i w c.args.self.now (program c.args.self.now.placer c.args.of.now) mount its c.find-index.result st at.inside at.line at.first

pub start_stripe-requires-clause-shape : goal.start_stripe-requires-clause-shape
start_stripe-requires-clause-shape c = λ slot there.
    let sd = c.requires.standing in
    let begun : c.begin.new.self.shape ≡ sd.image.shape = ap (λ f. f.shape) c.begin.ensures ∙ c.requires.shape ∙ sd.stands.layout in
    begun ∙ sym (sd.stands.open_lines.shapes c.find-index.result slot there)

pub start_stripe-requires-clause-within : goal.start_stripe-requires-clause-within
start_stripe-requires-clause-within c =
    let sd = c.requires.standing in
    let of : Program = program c.args.self.now.placer c.args.of.now in
    let its = its_stopped sd.image sd.world c.args.self.now of sd.legal sd.stands c.requires.stopped in
    let begun : c.begin.new.self.shape ≡ sd.image.shape = ap (λ f. f.shape) c.begin.ensures ∙ c.requires.shape ∙ sd.stands.layout in
    subst (λ (s : Shape). of.at + s.ws_opt ≤ start_len s) (sym begun) (start_within sd.image sd.world c.args.self.now of sd.legal its c.in-Start.is)

pub fill-requires-clause-held : goal.fill-requires-clause-held
fill-requires-clause-held c = λ k q e.
    let sd = c.requires.standing in
    let core : Core = c.args.self.now in
    let of : Program = program core.placer c.args.of.now in
    let its = its_stopped sd.image sd.world core of sd.legal sd.stands c.requires.stopped in
    let told : c.positions-positions.result.now ≡ of.positions = c.positions-positions.ensures (Stopped of) c.requires.stopped in
    held_again sd.image sd.world core of sd.legal its k q sd.stands (ap (λ qs. slice_get qs k) (sym told) ∙ e)

pub fill-requires-clause-size : goal.fill-requires-clause-size
fill-requires-clause-size c = λ q sector e.
    let sd = c.requires.standing in
    let begun : c.begin.new.self.shape ≡ sd.image.shape = ap (λ f. f.shape) c.begin.ensures ∙ c.requires.shape ∙ sd.stands.layout in
    sectors_sized sd.image sd.world c.args.self.now q sector sd.legal sd.stands e ∙ ap (λ (s : Shape). s.sector) (sym begun)

pub fill-requires-clause-room : goal.fill-requires-clause-room
fill-requires-clause-room c =
    let sd = c.requires.standing in
    let core : Core = c.args.self.now in
    let of : Program = program core.placer c.args.of.now in
    let its = its_stopped sd.image sd.world core of sd.legal sd.stands c.requires.stopped in
    let told : c.positions-positions.result.now ≡ of.positions = c.positions-positions.ensures (Stopped of) c.requires.stopped in
    let begun : c.begin.new.self.shape ≡ sd.image.shape = ap (λ f. f.shape) c.begin.ensures ∙ c.requires.shape ∙ sd.stands.layout in
    subst (λ (s : Shape). length c.positions-positions.result.now ≤ s.ws_opt) (sym begun)
    (subst (λ n. n ≤ sd.image.shape.ws_opt) (sym (ap (λ (qs : List ℕ). length qs) told))
    (few_again sd.image sd.world core of sd.legal its c.in-Data.is))

pub end_stripe-requires-clause-shape : goal.end_stripe-requires-clause-shape
end_stripe-requires-clause-shape c = λ slot there.
    let sd = c.requires.standing in
    let begun : c.begin.new.self.shape ≡ sd.image.shape = ap (λ f. f.shape) c.begin.ensures ∙ c.requires.shape ∙ sd.stands.layout in
    begun ∙ sym (sd.stands.open_lines.shapes c.find-index.result slot there)

pub end_stripe-requires-clause-told : goal.end_stripe-requires-clause-told
end_stripe-requires-clause-told c = λ slot there.
    let sd = c.requires.standing in
    let core : Core = c.args.self.now in
    let of : Program = program core.placer c.args.of.now in
    let its = its_stopped sd.image sd.world core of sd.legal sd.stands c.requires.stopped in
    let at = found_slot (goal.at.end_stripe-requires-clause-told c).After-find-index sd.image sd.world sd.legal sd.stands its in
    marks_again sd.image sd.world core of sd.legal its slot c.in-End.is
    (slot_kept sd.image sd.world core of sd.legal its c.find-index.result slot at there)

pub end_stripe-requires-clause-from : goal.end_stripe-requires-clause-from
end_stripe-requires-clause-from c = λ slot there.
    let sd = c.requires.standing in
    let core : Core = c.args.self.now in
    let of : Program = program core.placer c.args.of.now in
    let its = its_stopped sd.image sd.world core of sd.legal sd.stands c.requires.stopped in
    let at = found_slot (goal.at.end_stripe-requires-clause-from c).After-find-index sd.image sd.world sd.legal sd.stands its in
    from_again sd.image sd.world core of sd.legal its slot c.in-End.is
    (slot_kept sd.image sd.world core of sd.legal its c.find-index.result slot at there)

pub end_stripe-requires-clause-within : goal.end_stripe-requires-clause-within
end_stripe-requires-clause-within c = λ slot there.
    let sd = c.requires.standing in
    let core : Core = c.args.self.now in
    let of : Program = program core.placer c.args.of.now in
    let its = its_stopped sd.image sd.world core of sd.legal sd.stands c.requires.stopped in
    let at = found_slot (goal.at.end_stripe-requires-clause-within c).After-find-index sd.image sd.world sd.legal sd.stands its in
    end_again_within sd.image sd.world core of sd.legal its slot
    (slot_kept sd.image sd.world core of sd.legal its c.find-index.result slot at there)

-- ---- what is filled

-- the program, and the core before it
abbrev program_in : Joined-of → Program
program_in c = program c.args.self.now.placer c.args.of.now

abbrev core_in : Joined-of → Core
core_in c = c.args.self.now

abbrev IsStoppedIn : Joined-of → Image → World → Type 0
IsStoppedIn c i w = IsStopped i w (core_in c) (program_in c)

begun_shape : (c : Joined-of) (i : Image) (w : World) → Stands i (log_of w) (core_in c) → c.begin.new.self.shape ≡ i.shape
begun_shape c i w st = ap (λ f. f.shape) c.begin.ensures ∙ c.requires.shape ∙ st.layout

begun_with : (c : Joined-of) (blocks : List Block) → (followed_by c.begin.new.self blocks).stripe ≡ stripe_of (program_in c) blocks
begun_with c blocks = ap (λ f. (followed_by f blocks).stripe) c.begin.ensures

-- the stripe is as it was placed
the_stripe : (c : Joined-of) (i : Image) (w : World) → IsLegalMount i w → Stands i (log_of w) (core_in c) → (its : IsStoppedIn c i w)
    → IsSlot (core_in c).open c.find-index.result its.has.slot → c.match-of.into.stripe ≡ its.is.row.stripe.stripe
the_stripe c i w mount st its there =
    let core : Core = core_in c in
    let of : Program = program_in c in
    let begun : Filling = c.begin.new.self in
    elim c.match-of.branch as (λ b. c.match-of.into.stripe ≡ its.is.row.stripe.stripe) [
      | in-Start v ↦
          let blocks : List Block = stripe_at begun.shape (blocks_at_start its.has.slot.records) 0 of.at in
          ap (λ f. f.stripe) (v.into-is ∙ v.start_stripe.ensures its.has.slot there) ∙ begun_with c blocks
          ∙ start_again i w of.unit of mount its.is its.has.slot begun.shape v.in-Start.is its.has.is (begun_shape c i w st)
      | in-Data v ↦
          let blocks : List Block = entry_blocks core.window core.holds.rows.items of.positions in
          let told : v.positions-positions.result.now ≡ of.positions = v.positions-positions.ensures (Stopped of) c.requires.stopped in
          let filled = v.fill.ensures ∙ ap (λ qs. followed_by begun (entry_blocks core.window core.holds.rows.items qs)) told in
          let padded = padded_is of c.args.into.now.shape true _ blocks begun v.fill.new.into v.pad.new.self c.begin.ensures filled v.pad.ensures in
          ap (λ f. f.stripe) v.into-is ∙ padded
          ∙ data_again i w of.unit of mount its.is core c.args.into.now.shape v.in-Data.is st (c.requires.shape ∙ st.layout)
      | in-Pad v ↦
          let padded = pads_are of c.args.into.now.shape true _ begun v.pad-in-Pad.new.self c.begin.ensures v.pad-in-Pad.ensures in
          ap (λ f. f.stripe) v.into-is ∙ padded
          ∙ pad_again i w of.unit of mount its.is c.args.into.now.shape v.in-Pad.is (c.requires.shape ∙ st.layout)
      | in-End v ↦
          let blocks : List Block = stripe_at begun.shape (blocks_at_end its.has.slot.records) (end_begins its.has.slot.records) of.at in
          ap (λ f. f.stripe) (v.into-is ∙ v.end_stripe.ensures.filled its.has.slot there) ∙ begun_with c blocks
          ∙ end_again i w of.unit of mount its.is its.has.slot begun.shape v.in-End.is its.has.is (begun_shape c i w st)
    ]

-- its placer is as it was when the stripe has been filled
same_placer : (c : Joined-of) → c.match-of.self.placer ≡ (core_in c).placer
same_placer c = elim c.match-of.branch as (λ b. c.match-of.self.placer ≡ (core_in c).placer) [
  | in-Start v ↦ ap (λ (x : Core). x.placer) v.self-is
  | in-Data v ↦ ap (λ (x : Core). x.placer) v.self-is
  | in-Pad v ↦ ap (λ (x : Core). x.placer) v.self-is
  | in-End v ↦ ap (λ (x : Core). x.placer) v.self-is
]

pub placed-requires : goal.placed-requires
placed-requires c =
    let at = (goal.at.placed-requires c).Joined-of in
    subst (λ (p : Placing). IsNext p (program p c.args.of.now)) (sym (same_placer at)) (0, sym c.requires.next)

-- the core but for its placer is as it was
the_rest : (c : Joined-of) (new : Placing) → new ≡ placed c.match-of.self.placer (program c.match-of.self.placer c.args.of.now)
    → IsPlacedAgain (core_in c) (record c.match-of.self { placer = new }) (program_in c)
the_rest c new placing =
    let core : Core = core_in c in
    let of : Program = program_in c in
    let is : new ≡ placed core.placer of = placing ∙ ap (λ (p : Placing). placed p (program p c.args.of.now)) (same_placer c) in
    let into : Core = record c.match-of.self { placer = new } in
    elim c.match-of.branch as (λ b. IsPlacedAgain (core_in c) (record c.match-of.self { placer = new }) (program_in c)) [
      | in-Start v ↦ again_into core into new core.open of (ap (λ (x : Core). record x { placer = new }) v.self-is) is refl refl
      | in-Data v ↦ again_into core into new core.open of (ap (λ (x : Core). record x { placer = new }) v.self-is) is refl refl
      | in-Pad v ↦ again_into core into new core.open of (ap (λ (x : Core). record x { placer = new }) v.self-is) is refl refl
      | in-End v ↦
          again_into core into new v.end_stripe.new.self of (ap (λ (x : Core). record x { placer = new }) v.self-is) is
          v.end_stripe.ensures.count v.end_stripe.ensures.slots
    ]

-- what a stripe that is filled has
record IsFilledAgain (c : Joined-of) : Type 0 where
  again : c.match-of.into.again ≡ true
  shape : c.match-of.into.shape ≡ c.args.into.now.shape
  turn : c.match-of.into.turn ≡ c.index-turn.result.now

the_filling : (c : Joined-of) (i : Image) (w : World) (its : IsStoppedIn c i w) → IsSlot (core_in c).open c.find-index.result its.has.slot → IsFilledAgain c
the_filling c i w its there =
    let again : c.begin.new.self.again ≡ true = ap (λ f. f.again) c.begin.ensures in
    let shape : c.begin.new.self.shape ≡ c.args.into.now.shape = ap (λ f. f.shape) c.begin.ensures in
    let turn : c.begin.new.self.turn ≡ c.index-turn.result.now = ap (λ f. f.turn) c.begin.ensures in
    elim c.match-of.branch as (λ b. IsFilledAgain c) [
      | in-Start v ↦
          let is = v.into-is ∙ v.start_stripe.ensures its.has.slot there in
          record { again = ap (λ f. f.again) is ∙ again; shape = ap (λ f. f.shape) is ∙ shape; turn = ap (λ f. f.turn) is ∙ turn }
      | in-Data v ↦
          let is = v.into-is ∙ v.pad.ensures in
          record {
            again = ap (λ f. f.again) is ∙ ap (λ f. f.again) v.fill.ensures ∙ again;
            shape = ap (λ f. f.shape) is ∙ ap (λ f. f.shape) v.fill.ensures ∙ shape;
            turn = ap (λ f. f.turn) is ∙ ap (λ f. f.turn) v.fill.ensures ∙ turn;
          }
      | in-Pad v ↦
          let is = v.into-is ∙ v.pad-in-Pad.ensures in
          record { again = ap (λ f. f.again) is ∙ again; shape = ap (λ f. f.shape) is ∙ shape; turn = ap (λ f. f.turn) is ∙ turn }
      | in-End v ↦
          let is = v.into-is ∙ v.end_stripe.ensures.filled its.has.slot there in
          record { again = ap (λ f. f.again) is ∙ again; shape = ap (λ f. f.shape) is ∙ shape; turn = ap (λ f. f.turn) is ∙ turn }
    ]

pub returns-clause-again : goal.returns-clause-again
returns-clause-again c =
    let all = goal.at.returns-clause-again c in
    let at = all.Joined-of in
    let sd = c.requires.standing in
    let its = its_stopped sd.image sd.world (core_in at) (program_in at) sd.legal sd.stands c.requires.stopped in
    (the_filling at sd.image sd.world its (found_slot all.After-find-index sd.image sd.world sd.legal sd.stands its)).again

pub returns-clause-shape : goal.returns-clause-shape
returns-clause-shape c =
    let all = goal.at.returns-clause-shape c in
    let at = all.Joined-of in
    let sd = c.requires.standing in
    let its = its_stopped sd.image sd.world (core_in at) (program_in at) sd.legal sd.stands c.requires.stopped in
    (the_filling at sd.image sd.world its (found_slot all.After-find-index sd.image sd.world sd.legal sd.stands its)).shape

pub returns-clause-stripe : goal.returns-clause-stripe
returns-clause-stripe c = λ i w mount st.
    let all = goal.at.returns-clause-stripe c in
    let at = all.Joined-of in
    let its = its_stopped i w (core_in at) (program_in at) mount st c.requires.stopped in
    let same = the_stripe at i w mount st its (found_slot all.After-find-index i w mount st its) in
    says_stopped i w (core_in at) (program_in at) c.match-of.into.stripe its same (ap (λ s. s.unit) same ∙ its.is.its_unit)

pub returns-clause-stands : goal.returns-clause-stands
returns-clause-stands c = λ i w mount st.
    let at = (goal.at.returns-clause-stands c).Joined-of in
    again_stands i (log_of w) (core_in at) _ (program_in at) st c.requires.stopped (the_rest at c.placed.new.self c.placed.ensures.placed)

pub returns-clause-window : goal.returns-clause-window
returns-clause-window c = (the_rest (goal.at.returns-clause-window c).Joined-of c.placed.new.self c.placed.ensures.placed).window

pub returns-clause-under_way : goal.returns-clause-under_way
returns-clause-under_way c =
    let all = goal.at.returns-clause-under_way c in
    let at = all.Joined-of in
    let sd = c.requires.standing in
    let its = its_stopped sd.image sd.world (core_in at) (program_in at) sd.legal sd.stands c.requires.stopped in
    let same = the_stripe at sd.image sd.world sd.legal sd.stands its
    (found_slot all.After-find-index sd.image sd.world sd.legal sd.stands its) in
    let inside = unit_inside sd.image sd.world (core_in at) c.args.of.now.unit sd.stands its.is.row.inside in (
      program_in at,
      ap₂ (λ (p : Placing) u. slice_get p.units u) (the_rest at c.placed.new.self c.placed.ensures.placed).placer (ap (λ s. s.unit) same ∙ its.is.its_unit)
          ∙ placed_has c.args.self.now.placer (program_in at) inside,
    )

pub returns-clause-entries : goal.returns-clause-entries
returns-clause-entries c = λ other there.
    let all = goal.at.returns-clause-entries c in
    let at = all.Joined-of in
    let sd = c.requires.standing in
    let its = its_stopped sd.image sd.world (core_in at) (program_in at) sd.legal sd.stands c.requires.stopped in
    let same = the_stripe at sd.image sd.world sd.legal sd.stands its
    (found_slot all.After-find-index sd.image sd.world sd.legal sd.stands its) in
    let inside = unit_inside sd.image sd.world (core_in at) c.args.of.now.unit sd.stands its.is.row.inside in
    let rest = the_rest at c.placed.new.self c.placed.ensures.placed in
    let own = ap₂ (λ (p : Placing) u. slice_get p.units u) rest.placer (ap (λ s. s.unit) same ∙ its.is.its_unit)
    ∙ placed_has c.args.self.now.placer (program_in at) inside in
    ap₂ positions_in_stripe (rest.layout ∙ sd.stands.layout) same
    ∙ sym (positions_are sd.image sd.world c.args.of.now.unit (program_in at) its.is)
    ∙ ap (λ (x : Program). x.positions) (same_Some (program_in at) other (ap (option_and_then under_way_in) (sym own ∙ there)))

pub returns-clause-rows : goal.returns-clause-rows
returns-clause-rows c = λ other apart.
    let all = goal.at.returns-clause-rows c in
    let at = all.Joined-of in
    let sd = c.requires.standing in
    let its = its_stopped sd.image sd.world (core_in at) (program_in at) sd.legal sd.stands c.requires.stopped in
    let same = the_stripe at sd.image sd.world sd.legal sd.stands its
    (found_slot all.After-find-index sd.image sd.world sd.legal sd.stands its) in
    ap (λ (p : Placing). slice_get p.units other) (the_rest at c.placed.new.self c.placed.ensures.placed).placer
    ∙ placed_beside c.args.self.now.placer (program_in at) c.match-of.into.stripe.unit other (sym (ap (λ s. s.unit) same ∙ its.is.its_unit)) apart

pub returns-clause-turn : goal.returns-clause-turn
returns-clause-turn c = λ i w mount st.
    let all = goal.at.returns-clause-turn c in
    let at = all.Joined-of in
    let its = its_stopped i w (core_in at) (program_in at) mount st c.requires.stopped in
    let slot = found_slot all.After-find-index i w mount st its in
    let unit : c.match-of.into.stripe.unit ≡ c.args.of.now.unit = ap (λ s. s.unit) (the_stripe at i w mount st its slot) ∙ its.is.its_unit in
    (the_filling at i w its slot).turn
    ∙ count_told i (log_of w) c.args.self.now c.args.of.now.unit c.index-turn.result.now st its.is.row.inside c.index-turn.ensures
    ∙ ap (answer_count (log_of w 0)) (sym unit)

-- what is collected stays
same_collection : (c : Joined-of) → c.match-of.self.collection ≡ (core_in c).collection
same_collection c = elim c.match-of.branch as (λ b. c.match-of.self.collection ≡ (core_in c).collection) [
  | in-Start v ↦ ap (λ (x : Core). x.collection) v.self-is
  | in-Data v ↦ ap (λ (x : Core). x.collection) v.self-is
  | in-Pad v ↦ ap (λ (x : Core). x.collection) v.self-is
  | in-End v ↦ ap (λ (x : Core). x.collection) v.self-is
]

pub returns-clause-collecting : goal.returns-clause-collecting
returns-clause-collecting c =
    let at = (goal.at.returns-clause-collecting c).Joined-of in
    let rest = the_rest at c.placed.new.self c.placed.ensures.placed in
    record {
      collection = same_collection at;
      map = rest.map;
      pad = ap (λ (p : Placing). p.entries.pad) rest.placer ∙ placed_pad c.args.self.now.placer (program_in at);
      brings = brings_kept c.args.self.now (record c.match-of.self { placer = c.placed.new.self }) rest.layout rest.notes rest.lines rest.online;
    }
