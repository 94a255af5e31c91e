-- A core that placed a stripe stands for the log with it.
use Rattle.std.proofs.Common.{◌≡◌, ◌≢◌, inl, inr, ℕ, ◌+◌, ◌-◌, ◌/◌, ◌<◌, ◌≤◌, not, zero, suc, nat_eq, Bool, true, false, None, Some, List, [], ◌∷◌, ◌++◌, length, take, drop, refl, sym, subst, ap, ap₂, ◌∙◌, arith, append-nil, length-append, length-take, length-set, replicate, le_trans, if◌then◌else◌, min, nat_le, ◌==◌, le_refl, cond, Option}
use Rattle.pblk_model.specs.Contents.{least_missing}
use Rattle.std.specs.Prelude.{◌%◌, map, slice_get, slice_set, slice_range, is_some}
use Rattle.std.specs.List.{AllByRecursion, Contains, filter, range_with_len}
use Rattle.std.specs.Option.{option_map_or}
use Rattle.std.specs.FinMap as fin
use Rattle.std.proofs.lemmas.Bool.{eqb-true}
use Rattle.std.proofs.lemmas.List.{length-map, length-replicate, map-append}
use Rattle.std.proofs.lemmas.List.FromFn.{length-range_with_len}
use Rattle.std.proofs.lemmas.Option.{same_Some, slice_get_within}
use Rattle.pblk_model.specs.declared.shape.Shape.{Shape}
use Rattle.pblk_model.specs.declared.chunk.Mark.{Mark}
use Rattle.pblk_model.specs.Accepted.{IsAccepted}
use Rattle.pblk_model.specs.Chunk.{Block}
use Rattle.pblk_model.specs.Image.{Image, line_units}
use Rattle.pblk_model.specs.Records.{named}
use Rattle.pblk_model.specs.Marks.{pad_block}
use Rattle.pblk_meta.specs.Records.{start_numbers}
use Rattle.pblk_world.specs.Events.{Stripe, Place, Decides, Logged}
use Rattle.pblk_world.specs.World.{World, Logs, log_of}
use Rattle.pblk_world.specs.EngineLog.{Taken, takes, openings, Opening, Opened, is_life, life_of, has_failed, Placed, placements, stripes_of, block_of_taken, is_as_found}
use Rattle.pblk_world.specs.Fronts.{first_position, taken, waiting, is_users}
use Rattle.pblk_world.specs.Placing.{MayPlace, next_address, end_address, data_marks}
use Rattle.pblk_world.specs.Space.{freed, placed_front, open_addresses}
use Rattle.pblk_world.proofs.Appending.{openings_more, life_more}
use Rattle.stripe_placer.specs.declared.placement.StripeKind.{StripeKind}
use Rattle.stripe_placer.specs.declared.placement.StripeKind.TheVariants as kinds
use Rattle.stripe_placer.specs.OpenLines.{OpenLine, Stripe as OpenStripe, has_left, in_line, is_closed, is_to_place, is_unplaced, numbers, stripe_is, with_stripe}
use Rattle.stripe_placer.specs.OpenLines.Stripe.{Unplaced, Unanswered, Landed as OutcomeLanded, Lost as OutcomeLost}
use Rattle.stripe_placer.specs.Placing.{Program, Placing, placed}
use Rattle.line_table.specs.Rows.{Table}
use Rattle.core_laws.proofs.LeftLines.{left_apart}
use Rattle.core_laws.proofs.PlacedLines.{IsPlacedAt, IsStanding, all_standing, line_now, placed_at}
use Rattle.core_laws.proofs.PlacedRows.{failed_now}
use Rattle.pblk_core.proofs.LineCounts as counts
use Rattle.pblk_core.proofs.WholeMarks.{marks_all, marks_then, whole_elsewhere, whole_pad}
use Rattle.pblk_core.specs.Landing.{new_count}
use Rattle.pblk_core.specs.LineRecords.{whole_marks}
use Rattle.core_laws.specs.ClosedLines.{closed_line}
use Rattle.core_laws.specs.InOrder.{AreSoundLogs}
use Rattle.core_laws.specs.PlacedEntries.{place_entries}
use Rattle.core_laws.proofs.ClosedKept.{closed_placed}
use Rattle.core_laws.proofs.ClosedLanded.{closed_as, closed_by_left, closed_if}
use Rattle.core_laws.proofs.KeptRows.{begun_kept, known_kept}
use Rattle.core_laws.proofs.LogOrders.{in_order}
use Rattle.core_laws.proofs.PlacedAddresses.{data_addresses, other_addresses}
use Rattle.core_laws.proofs.PlacedFront.{front_placed}
use Rattle.core_laws.proofs.PlacedRows.{rows_placed, rows_beside}
use Rattle.core_laws.proofs.LeastPositions.{least_rises}
use Rattle.core_laws.proofs.QuietEvents.{place_kept, place_window, place_slot}
use Rattle.core_laws.proofs.Untouched.{AreKept, given_kept}
use Rattle.core_laws.specs.OpenedLines.{bits_of, online_now, open_line, standing}
use Rattle.core_laws.specs.PlacerOf.{placing_of, positions_of, positions_in_stripe, entries_of, fresh_entries, lost_entries, IsStripeOf}
use Rattle.pblk_world.specs.LegalMounts.{IsLegalMount}
use Rattle.core_laws.specs.RowsOf.{rows_of}
use Rattle.core_laws.specs.Stepping.{after}
use Rattle.core_laws.specs.WindowOf.{is_given_back, sectors_in, window_from}
use Rattle.core_laws.proofs.TakenNumbers.{first_stays}
use Rattle.core_laws.proofs.PlacedLines.{placing_placed}
use Rattle.core_laws.proofs.Placing.{IsPlacing, with_place}
use Rattle.core_laws.proofs.LeftLines.{left_before, left_placed}
use Rattle.core_laws.proofs.PlacedInOrder.{IsOrdered, fresh_in_order, lost_below, ordered}
use Rattle.core_laws.proofs.StandingOpenings.{rise_filtered, standing_rise, one_place}
use Rattle.core_laws.proofs.StripeBlocks.{have_blocks, length_joined as blocks_length}
use Rattle.core_laws.specs.StripeFor.{IsStripeFor, blocks_for, positions_for}
use Rattle.line_table.proofs.Places.{get_set_same, get_set_other}
use Rattle.pblk_core.specs.Entries.{placed_lines, placed_rows}
use Rattle.pblk_core.specs.Slots.{with_marks}
use Rattle.pblk_core.specs.Stands.{Stands, AreHolds, AreUsed, IsOpenLine, AreOpenLines, left_openings, stripes_left}
use Rattle.pblk_core.specs.Holds.{hold_of, row_at}
use Rattle.pblk_core.specs.declared.hold.Hold.{Hold}
use Rattle.pblk_core.specs.declared.target_core.Core.{Core}
use Rattle.pblk_core.specs.declared.open_lines.OpenLine.{OpenLine as KeptLine}
use Rattle.pblk_core.proofs.NotesKept.{quiet_used}
use Rattle.pblk_core.proofs.NotesSet.{notes_placed}
use Rattle.pblk_core.specs.LineNotes.{AreNotes}
use Rattle.pblk_core.proofs.PlacedEntries.{rows_length, row_placed_is, lines_placed_are}
use Rattle.pblk_core.proofs.AnswerCounts.{counts_placed}
use Rattle.pblk_core.proofs.FullOpenings.{full_kept}
use Rattle.pblk_core.proofs.PlacedMarks.{line_blocks, marks_before, marks_more, marks_beyond, one_more_under_way}
use Rattle.pblk_core.proofs.PlacedStripe.{IsOfferedNow, IsInPart, IsOfKind, of_kind, HasSlot}
use Rattle.pblk_core.proofs.SteadyLines.{units_same}
use Rattle.pblk_core.proofs.WaitingEntries.{IsWaiting, waiting_at}
use Rattle.pblk_core.proofs.FoundLines.{older_kept}
use Rattle.pblk_core.proofs.KeptResets.{resets_quiet, fits_same}
use Rattle.pblk_core.specs.Resets.{resets_left}
use Rattle.pblk_model.proofs.Lists.{IsAmong}
use Rattle.pblk_model.proofs.Maps.{all_filter, found_passes, from_filter, map_same}
use Rattle.pblk_model.proofs.Parts.{all_at, all_by_get, get_whole}
use Rattle.pblk_model.proofs.Tests.{both, le_true, not_both, not_true, other_number, same_number}
use Rattle.pblk_world.proofs.EngineLogLemmas.{takes_more}

-- ---- by the kind of a stripe

-- how many of the entries that wait are placed at most
abbrev pub entries_for : StripeKind → ℕ → ℕ
entries_for kinds.Start blocks = 0
entries_for kinds.Data blocks = blocks
entries_for kinds.Pad blocks = 0
entries_for kinds.End blocks = 0

-- the open lines once a stripe of one of them is placed: data tell their marks
abbrev pub slots_for : StripeKind → List KeptLine → ℕ → KeptLine → Stripe → List KeptLine
slots_for kinds.Start slots k slot stripe = slots
slots_for kinds.Data slots k slot stripe = slice_set slots k (with_marks slot (map (λ (b : Block). b.mark) stripe.blocks))
slots_for kinds.Pad slots k slot stripe = slots
slots_for kinds.End slots k slot stripe = slots

-- what a core's fields are once it placed a stripe
pub record IsPlacedInto (old new : Core) (k : ℕ) (slot : KeptLine) (of : Program) (stripe : Stripe) : Type 0 where
  pub layout : new.layout ≡ old.layout
  pub map : new.map ≡ old.map
  pub lines : new.lines ≡ placed_lines old.holds.rows.items of.line old.lines of.positions
  pub window : new.window ≡ old.window
  pub placer : new.placer ≡ placed old.placer of
  pub holds : new.holds.rows.items ≡ placed_rows of.line old.holds.rows.items of.positions
  pub open_count : new.open.count ≡ old.open.count
  pub open_slots : new.open.slots.items ≡ slots_for of.kind old.open.slots.items k slot stripe
  pub online : new.online ≡ old.online
  pub resets : new.resets ≡ old.resets
  pub notes : new.notes ≡ old.notes
  pub start : new.start ≡ old.start
  pub first : new.first ≡ old.first
  pub placed : new.placed ≡ old.placed + new_count (old.first + old.placed) of.positions
  pub left : new.left + entries_for of.kind old.layout.ws_opt ≡ old.left
  pub under_way : new.under_way ≡ old.under_way + 1
  pub answers : new.answers.items ≡ old.answers.items
  pub users : new.users ≡ old.users

-- ---- entries

map_taken : {X Y : Type 0} (f : X → Y) (n : ℕ) (xs : List X) → take n (map f xs) ≡ map f (take n xs)
map_taken f zero xs = refl
map_taken f (suc n) [] = refl
map_taken f (suc n) (x ∷ xs) = ap (λ ys. f x ∷ ys) (map_taken f n xs)

pub positions_are : (s : Shape) (log : List Logged) (kind : StripeKind)
    → positions_for s log kind ≡ positions_of (take (entries_for kind s.ws_opt) (waiting s log))
positions_are s log kinds.Start = refl
positions_are s log kinds.Data = map_taken (λ (t : Taken). t.entry.position) s.ws_opt (waiting s log)
positions_are s log kinds.Pad = refl
positions_are s log kinds.End = refl

-- ---- the table

rows_by_kind : (i : Image) (logs : Logs) (stripe : Stripe) (knows : List ℕ) (o : Opening) (kind : StripeKind) → AreSoundLogs i logs → IsOrdered i.shape (logs 0)
    → IsPlacing (logs 0) stripe o
    → IsOfKind i logs o stripe kind
    → rows_of i (after logs (Place stripe) knows) ≡ place_entries (logs 0) stripe.line (rows_of i logs)
    (take (entries_for kind i.shape.ws_opt) (waiting i.shape (logs 0)))
rows_by_kind i logs stripe knows o kinds.Start is order at its = rows_beside i logs stripe knows o is.small at is.freed is.numbered (inl its)
rows_by_kind i logs stripe knows o kinds.Data is order at its = rows_placed i logs stripe knows o is.small at is.freed order its
rows_by_kind i logs stripe knows o kinds.Pad is order at its = rows_beside i logs stripe knows o is.small at is.freed is.numbered (inr (inr its))
rows_by_kind i logs stripe knows o kinds.End is order at its = rows_beside i logs stripe knows o is.small at is.freed is.numbered (inr (inl its))

-- ---- addresses

pub left_by_kind : (i : Image) (logs : Logs) (stripe : Stripe) (knows : List ℕ) (o : Opening) (kind : StripeKind) → IsAccepted i.shape
    → IsPlacing (logs 0) stripe o → stripe.line < i.shape.chunks → IsOfKind i logs o stripe kind
    → open_addresses i logs ≡ open_addresses i (after logs (Place stripe) knows) + entries_for kind i.shape.ws_opt
left_by_kind i logs stripe knows o kinds.Start accepted at inside its = let same =
    other_addresses i logs stripe knows o accepted.drive at inside (inl its) in omega arith
left_by_kind i logs stripe knows o kinds.Data accepted at inside its = data_addresses i logs stripe knows o accepted.drive at inside its
left_by_kind i logs stripe knows o kinds.Pad accepted at inside its = let same =
    other_addresses i logs stripe knows o accepted.drive at inside (inr (inr its)) in omega arith
left_by_kind i logs stripe knows o kinds.End accepted at inside its = let same =
    other_addresses i logs stripe knows o accepted.drive at inside (inr (inl its)) in omega arith

-- ---- the marks of the line

abbrev pub marks_for : StripeKind → Stripe → List Mark
marks_for kinds.Start stripe = []
marks_for kinds.Data stripe = map (λ (b : Block). b.mark) stripe.blocks
marks_for kinds.Pad stripe = []
marks_for kinds.End stripe = []

short_range : {X : Type 0} (xs : List X) (a n : ℕ) → length (slice_range xs a (a + n)) ≤ n
short_range xs a n =
    let same : a + n - a ≡ n = omega arith in
    let short : length (take n (drop a xs)) ≤ n = omega (arith, length-take n (drop a xs)) in
    subst (λ m. length (take m (drop a xs)) ≤ n) (sym same) short

pads_fill : (w : ℕ) (b : Block) (bs : List Block) → length bs ≤ w → length (bs ++ replicate (w - length bs) b) ≤ w
pads_fill w b bs few = omega (arith, length-append bs (replicate (w - length bs) b), length-replicate (w - length bs) b)

pub blocks_short : (s : Shape) (log : List Logged) (o : Opening) (at : ℕ) (kind : StripeKind) → length (blocks_for s log o at kind) ≤ s.ws_opt
blocks_short s log o at kinds.Start = short_range _ (at - 0) s.ws_opt
blocks_short s log o at kinds.Data =
    let ts : List Taken = take s.ws_opt (waiting s log) in
    pads_fill s.ws_opt (pad_block s) (map block_of_taken ts) (omega (arith, length-map ts block_of_taken, length-take s.ws_opt (waiting s log)))
blocks_short s log o at kinds.Pad = omega (arith, length-replicate s.ws_opt (pad_block s))
blocks_short s log o at kinds.End = short_range _ (at - end_address s o) s.ws_opt

placed_blocks : (i : Image) (w : World) (o : Opening) → IsLegalMount i w → length (line_blocks (log_of w 0) o) ≡ next_address i.shape (log_of w 0) o
placed_blocks i w o mount =
    blocks_length i.shape.ws_opt (stripes_of (log_of w 0) o)
    (all_filter (λ (p : Placed). length p.stripe.blocks ≡ i.shape.ws_opt) (λ (p : Placed). is_life o.number p.life) (placements (log_of w 0))
    (have_blocks i w mount.accepted mount.legal).blocks)

-- a stripe that isn't a pad
sound_marks : (i : Image) (w : World) (stripe : Stripe) (knows : List ℕ) (o : Opening) (at : ℕ) (kind : StripeKind) → IsLegalMount i w
    → life_of (log_of w 0) stripe.line ≡ Opened o → kind ≢ kinds.Pad
    → at ≡ next_address i.shape (log_of w 0) o → IsInPart i.shape o at kind → length stripe.blocks ≤ i.shape.ws_opt
    → data_marks i.shape (with_place (log_of w 0) stripe knows) o ≡ data_marks i.shape (log_of w 0) o ++ marks_for kind stripe
sound_marks i w stripe knows o at kinds.Start mount opened other is part short =
    let long : length (line_blocks (log_of w 0) o) ≡ next_address i.shape (log_of w 0) o = placed_blocks i w o mount in
    marks_before i.shape (log_of w 0) stripe knows o opened (omega arith) ∙ sym (append-nil (data_marks i.shape (log_of w 0) o))
sound_marks i w stripe knows o at kinds.Data mount opened other is part short =
    let long : length (line_blocks (log_of w 0) o) ≡ next_address i.shape (log_of w 0) o = placed_blocks i w o mount in
    let a = part.0 in
    let b = part.1 in
    marks_more i.shape (log_of w 0) stripe knows o opened (omega arith) (omega arith)
sound_marks i w stripe knows o at kinds.Pad mount opened other is part short = absurd (other refl)
sound_marks i w stripe knows o at kinds.End mount opened other is part short =
    let long : length (line_blocks (log_of w 0) o) ≡ next_address i.shape (log_of w 0) o = placed_blocks i w o mount in
    marks_beyond i.shape (log_of w 0) stripe knows o opened (omega arith) ∙ sym (append-nil (data_marks i.shape (log_of w 0) o))

unplaced_marks : (kind : StripeKind) (stripe : Stripe) → kind ≡ kinds.Pad → marks_for kind stripe ≡ []
unplaced_marks kind stripe e = ap (λ k. marks_for k stripe) e

marks_by_kind : (i : Image) (w : World) (stripe : Stripe) (knows : List ℕ) (o : Opening) (pad : ℕ) (of : Program) → IsLegalMount i w
    → IsPlacing (log_of w 0) stripe o → IsOfferedNow i w pad o of → length stripe.blocks ≤ i.shape.ws_opt
    → whole_marks i.shape (with_place (log_of w 0) stripe knows) o ≡ whole_marks i.shape (log_of w 0) o ++ marks_for of.kind stripe
marks_by_kind i w stripe knows o pad of mount placing now short = go (has_failed (log_of w 0) o) refl
  where
    new : List Logged
    new = with_place (log_of w 0) stripe knows

    opened : life_of (log_of w 0) stripe.line ≡ Opened o
    opened = placing.opened

    kept : has_failed (with_place (log_of w 0) stripe knows) o ≡ has_failed (log_of w 0) o
    kept = failed_now (log_of w 0) stripe knows o o placing

    go : (b : Bool) → has_failed (log_of w 0) o ≡ b
        → whole_marks i.shape (with_place (log_of w 0) stripe knows) o ≡ whole_marks i.shape (log_of w 0) o ++ marks_for of.kind stripe
    go true e =
        marks_then i.shape (log_of w 0) stripe knows o (whole_pad (log_of w 0) stripe knows o opened e)
        ∙ sym (append-nil (whole_marks i.shape (log_of w 0) o))
        ∙ ap (λ ms. whole_marks i.shape (log_of w 0) o ++ ms) (sym (unplaced_marks of.kind stripe (its_pad e)))
      where
        its_pad : has_failed (log_of w 0) o ≡ true → of.kind ≡ kinds.Pad
        its_pad f = by of.kind refl
          where
            by : (k : StripeKind) → of.kind ≡ k → of.kind ≡ kinds.Pad
            by kinds.Pad g = g
            by kinds.Start g = absurd (not_both _ f (now.sound (λ h. unlike (sym g ∙ h))))
              where
                unlike : kinds.Start ≡ kinds.Pad → ⊥
                unlike h = cc
            by kinds.Data g = absurd (not_both _ f (now.sound (λ h. unlike (sym g ∙ h))))
              where
                unlike : kinds.Data ≡ kinds.Pad → ⊥
                unlike h = cc
            by kinds.End g = absurd (not_both _ f (now.sound (λ h. unlike (sym g ∙ h))))
              where
                unlike : kinds.End ≡ kinds.Pad → ⊥
                unlike h = cc
    go false e =
        marks_all i.shape new o (kept ∙ e)
        ∙ sound_marks i w stripe knows o of.at of.kind mount opened (now.unpadded e) (now.at (now.unpadded e)) now.part short
        ∙ ap (λ ms. ms ++ marks_for of.kind stripe) (sym (marks_all i.shape (log_of w 0) o e))

-- ---- the open lines

abbrev with_all : KeptLine → List Mark → KeptLine
with_all slot marks = record {
  records = record {
    shape = slot.records.shape;
    line = slot.records.line;
    width = slot.records.width;
    seq = slot.records.seq;
    start = slot.records.start;
    marks = marks;
  };
  online = slot.online;
  stripes_left = slot.stripes_left;
}

-- a line of the open ones, now
abbrev slot_now : StripeKind → KeptLine → Stripe → KeptLine
slot_now kind slot stripe = with_marks slot (marks_for kind stripe)

-- no more marks
same_slot : (slot line : KeptLine) → line ≡ slot → line ≡ with_marks slot []
same_slot slot line e = e ∙ ap (λ (ms : List Mark). with_all slot ms) (sym (append-nil slot.records.marks))

here_now : (kind : StripeKind) (slots : List KeptLine) (k : ℕ) (slot line : KeptLine) (stripe : Stripe) → slice_get slots k ≡ Some slot
    → slice_get (slots_for kind slots k slot stripe) k ≡ Some line
    → line ≡ slot_now kind slot stripe
here_now kinds.Start slots k slot line stripe there e = same_slot slot line (sym (same_Some slot line (sym there ∙ e)))
here_now kinds.Data slots k slot line stripe there e =
    same_Some line (with_marks slot (map (λ (b : Block). b.mark) stripe.blocks))
    (sym e ∙ get_set_same slots k k (with_marks slot (map (λ (b : Block). b.mark) stripe.blocks)) refl (slice_get_within slots k slot there))
here_now kinds.Pad slots k slot line stripe there e = same_slot slot line (sym (same_Some slot line (sym there ∙ e)))
here_now kinds.End slots k slot line stripe there e = same_slot slot line (sym (same_Some slot line (sym there ∙ e)))

else_now : (kind : StripeKind) (slots : List KeptLine) (k j : ℕ) (slot : KeptLine) (stripe : Stripe) → j ≢ k
    → slice_get (slots_for kind slots k slot stripe) j ≡ slice_get slots j
else_now kinds.Start slots k j slot stripe other = refl
else_now kinds.Data slots k j slot stripe other = get_set_other slots k j (with_marks slot (map (λ (b : Block). b.mark) stripe.blocks)) other
else_now kinds.Pad slots k j slot stripe other = refl
else_now kinds.End slots k j slot stripe other = refl

slots_count : (kind : StripeKind) (slots : List KeptLine) (k : ℕ) (slot : KeptLine) (stripe : Stripe)
    → length (slots_for kind slots k slot stripe) ≡ length slots
slots_count kinds.Start slots k slot stripe = refl
slots_count kinds.Data slots k slot stripe = length-set slots k (with_marks slot (map (λ (b : Block). b.mark) stripe.blocks))
slots_count kinds.Pad slots k slot stripe = refl
slots_count kinds.End slots k slot stripe = refl

-- ---- what is left of the lines

its_place : (i : Image) (w : World) (stripe : Stripe) (o : Opening) (pad : ℕ) (of : Program) → IsLegalMount i w → IsStripeOf i (log_of w) pad o stripe of
    → (j : ℕ) × IsPlacedAt i (log_of w) o stripe of j
its_place i w stripe o pad of mount its = placed_at i (log_of w) pad o stripe of mount.accepted.drive.ws_opt its

line_then : (i : Image) (w : World) (stripe : Stripe) (knows : List ℕ) (o other : Opening) (pad : ℕ) (of : Program) → IsLegalMount i w
    → IsPlacing (log_of w 0) stripe o → IsStripeOf i (log_of w) pad o stripe of → IsAmong (standing (log_of w 0)) other
    → open_line i (after (log_of w) (Place stripe) knows) other ≡ in_line of.line (of.at / i.shape.ws_opt) Unanswered (open_line i (log_of w) other)
line_then i w stripe knows o other pad of mount placing its stands =
    let at = its_place i w stripe o pad of mount its in
    line_now i (log_of w) knows o stripe of at.0 mount.accepted.drive.ws_opt placing at.1 other
    (all_at (IsStanding (log_of w 0)) (standing (log_of w 0)) stands.0 other stands.1 (all_standing (log_of w 0)))

left_of_it : (i : Image) (w : World) (stripe : Stripe) (knows : List ℕ) (o : Opening) (pad : ℕ) (of : Program) → IsLegalMount i w
    → IsPlacing (log_of w 0) stripe o → IsOfferedNow i w pad o of → IsStripeOf i (log_of w) pad o stripe of
    → stripes_left (open_line i (after (log_of w) (Place stripe) knows) o) ≡ stripes_left (open_line i (log_of w) o)
left_of_it i w stripe knows o pad of mount placing now its =
    let at = its_place i w stripe o pad of mount its in
    let j : ℕ = at.0 in
    let l : OpenLine = open_line i (log_of w) o in
    let found = found_passes (is_to_place l) (numbers l) j at.1.next in
    let two = both (stripe_is l is_unplaced j) (not (is_closed l j)) found.0 in
    ap stripes_left (line_then i w stripe knows o o pad of mount placing its now.stands
    ∙ ap (λ b. if b then with_stripe l (of.at / i.shape.ws_opt) Unanswered else l) (ap (λ n. n == of.line) at.1.its_line ∙ same_number of.line)
    ∙ ap (λ n. with_stripe l n Unanswered) at.1.number)
    ∙ counts.left_placed l j (unplaced_there (slice_get l.stripes j) refl two.0) (not_true (is_closed l j) two.1)
  where
    unplaced_there : (x : Option OpenStripe) → x ≡ x → option_map_or is_unplaced x false ≡ true → x ≡ Some Unplaced
    unplaced_there None e h = absurd cc
    unplaced_there (Some Unplaced) e h = refl
    unplaced_there (Some Unanswered) e h = absurd cc
    unplaced_there (Some OutcomeLanded) e h = absurd cc
    unplaced_there (Some OutcomeLost) e h = absurd cc

line_of_others : (i : Image) (w : World) (stripe : Stripe) (knows : List ℕ) (o other : Opening) (pad : ℕ) (of : Program) → IsLegalMount i w
    → IsPlacing (log_of w 0) stripe o → IsStripeOf i (log_of w) pad o stripe of → IsAmong (standing (log_of w 0)) other → other.line ≢ of.line
    → open_line i (after (log_of w) (Place stripe) knows) other ≡ open_line i (log_of w) other
line_of_others i w stripe knows o other pad of mount placing its stands apart =
    line_then i w stripe knows o other pad of mount placing its stands
    ∙ ap (λ b. if b then with_stripe (open_line i (log_of w) other) (of.at / i.shape.ws_opt) Unanswered else open_line i (log_of w) other)
    (other_number other.line of.line apart)

line_of_it : (i : Image) (w : World) (stripe : Stripe) (knows : List ℕ) (o : Opening) (pad : ℕ) (of : Program) (slot : KeptLine) → IsLegalMount i w
    → IsPlacing (log_of w 0) stripe o → o.number < length (log_of w 0) → IsOfferedNow i w pad o of → IsStripeOf i (log_of w) pad o stripe of
    → length stripe.blocks ≤ i.shape.ws_opt → IsOpenLine i (log_of w) o slot
    → IsOpenLine i (after (log_of w) (Place stripe) knows) o (slot_now of.kind slot stripe)
line_of_it i w stripe knows o pad of slot mount placing before now its short is = record {
  records = record {
    shape = is.records.shape;
    line = is.records.line;
    width = is.records.width;
    seq = is.records.seq;
    start = is.records.start;
    marks = ap (λ ms. ms ++ marks_for of.kind stripe) is.records.marks ∙ sym (marks_by_kind i w stripe knows o pad of mount placing now short);
  };
  online = is.online ∙ ap bits_of (sym (units_same i (log_of w) (Place stripe) knows o before));
  left = is.left ∙ sym (left_of_it i w stripe knows o pad of mount placing now its);
}

line_of_other : (i : Image) (w : World) (stripe : Stripe) (knows : List ℕ) (o other : Opening) (pad : ℕ) (of : Program) (slot : KeptLine) → IsLegalMount i w
    → IsPlacing (log_of w 0) stripe o → other.number < length (log_of w 0) → IsOfferedNow i w pad o of → IsStripeOf i (log_of w) pad o stripe of
    → IsAmong (standing (log_of w 0)) other → is_life other.number (Opened o) ≡ false → other.line ≢ of.line → IsOpenLine i (log_of w) other slot
    → IsOpenLine i (after (log_of w) (Place stripe) knows) other slot
line_of_other i w stripe knows o other pad of slot mount placing before now its stands apart elsewhere is = record {
  records = record {
    shape = is.records.shape;
    line = is.records.line;
    width = is.records.width;
    seq = is.records.seq;
    start = is.records.start;
    marks = is.records.marks ∙ sym
        (marks_then i.shape (log_of w 0) stripe knows other (whole_elsewhere (log_of w 0) stripe knows o other placing.opened apart));
  };
  online = is.online ∙ ap bits_of (sym (units_same i (log_of w) (Place stripe) knows other before));
  left = is.left ∙ ap stripes_left (sym (line_of_others i w stripe knows o other pad of mount placing its stands elsewhere));
}

-- what is known of the stripe that is placed
record IsHere (i : Image) (w : World) (c : Core) (pad : ℕ) (o : Opening) (of : Program) (stripe : Stripe) : Type 0 where
  now : IsOfferedNow i w pad o of
  for : IsStripeFor i (log_of w) o of stripe
  its : IsStripeOf i (log_of w) pad o stripe of
  may : MayPlace i (log_of w) stripe
  placing : IsPlacing (log_of w 0) stripe o
  kind : IsOfKind i (log_of w) o stripe of.kind
  short : length stripe.blocks ≤ i.shape.ws_opt
  count : of.count ≡ length of.positions
  positions : of.positions ≡ positions_of (take (entries_for of.kind i.shape.ws_opt) (waiting i.shape (log_of w 0)))

is_here : (i : Image) (w : World) (c : Core) (pad : ℕ) (o : Opening) (of : Program) (stripe : Stripe) → IsLegalMount i w → IsOfferedNow i w pad o of
    → IsStripeFor i (log_of w) o of stripe → of.count ≡ length of.positions → IsHere i w c pad o of stripe
is_here i w c pad o of stripe mount now for count =
    let its : IsStripeOf i (log_of w) pad o stripe of = now.its stripe for in
    let kind : IsOfKind i (log_of w) o stripe of.kind = of_kind i w pad o of stripe mount now for in
    record {
      now = now;
      for = for;
      its = its;
      may = now.may stripe for;
      placing = record { opened = its.opened; idle = its.idle };
      kind = kind;
      short = subst (λ (bs : List Block). length bs ≤ i.shape.ws_opt) (sym for.blocks)
          (blocks_short i.shape (log_of w 0) o of.at of.kind);
      count = count;
      positions = now.positions ∙ positions_are i.shape (log_of w 0) of.kind;
    }

lines_stand : (i : Image) (w : World) (knows : List ℕ) (old new : Core) (o : Opening) (of : Program) (stripe : Stripe) → IsLegalMount i w
    → Stands i (log_of w) old → (has : HasSlot i (log_of w) old.open o)
    → IsHere i w old old.placer.entries.pad o of stripe → IsPlacedInto old new has.k has.slot of stripe
    → AreOpenLines i (after (log_of w) (Place stripe) knows) new.open
lines_stand i w knows old new o of stripe mount st has here is = record {
  two = ap (λ (ls : List KeptLine). length ls) is.open_slots ∙ slots_count of.kind old.open.slots.items has.k has.slot stripe ∙ st.open_lines.two;
  shapes = λ k line there. shape_of k line there;
  count = is.open_count ∙ st.open_lines.count ∙ ap (λ (os : List Opening). length os) (sym left);
  few = subst (λ n. n ≤ 2) (sym is.open_count) st.open_lines.few;
  each = λ k other line at there.
      by_place k other line (ap (λ (os : List Opening). slice_get os k) (sym left) ∙ at)
      (ap (λ (ls : List KeptLine). slice_get ls k) (sym is.open_slots) ∙ there) (nat_eq k has.k) refl;
}
  where
    new_logs : Logs
    new_logs = after (log_of w) (Place stripe) knows

    left : left_openings i (after (log_of w) (Place stripe) knows) ≡ left_openings i (log_of w)
    left = left_placed i (log_of w) knows old.placer.entries.pad o stripe of mount.accepted.drive.ws_opt here.its

    apart : (k : ℕ) → nat_eq k has.k ≡ false → k ≢ has.k
    apart k e f = absurd (true_false (sym (ap (λ m. nat_eq m has.k) f ∙ same_number has.k) ∙ e))
      where
        true_false : true ≡ false → ⊥
        true_false e = absurd cc

    shape_of : (k : ℕ) (line : KeptLine) → slice_get new.open.slots.items k ≡ Some line → line.records.shape ≡ i.shape
    shape_of k line there = go (nat_eq k has.k) refl
      where
        now : slice_get (slots_for of.kind old.open.slots.items has.k has.slot stripe) k ≡ Some line
        now = ap (λ (ls : List KeptLine). slice_get ls k) (sym is.open_slots) ∙ there

        go : (b : Bool) → nat_eq k has.k ≡ b → line.records.shape ≡ i.shape
        go true e =
            let same : k ≡ has.k = eqb-true k has.k e in
            ap (λ (l : KeptLine). l.records.shape)
            (here_now of.kind old.open.slots.items has.k has.slot line stripe has.there
            (ap (slice_get (slots_for of.kind old.open.slots.items has.k has.slot stripe)) (sym same) ∙ now))
            ∙ st.open_lines.shapes has.k has.slot has.there
        go false e = st.open_lines.shapes k line (sym (else_now of.kind old.open.slots.items has.k k has.slot stripe (apart k e)) ∙ now)

    by_place : (k : ℕ) (other : Opening) (line : KeptLine) → slice_get (left_openings i (log_of w)) k ≡ Some other
        → slice_get (slots_for of.kind old.open.slots.items has.k has.slot stripe) k ≡ Some line
        → (b : Bool) → nat_eq k has.k ≡ b → IsOpenLine i (after (log_of w) (Place stripe) knows) other line
    by_place k other line at there true e =
        let same : k ≡ has.k = eqb-true k has.k e in
        let own : o ≡ other = same_Some o other (sym has.opening ∙ ap (slice_get (left_openings i (log_of w))) (sym same) ∙ at) in
        let slot : line ≡ slot_now of.kind has.slot stripe =
        here_now of.kind old.open.slots.items has.k has.slot line stripe has.there
        (ap (slice_get (slots_for of.kind old.open.slots.items has.k has.slot stripe)) (sym same) ∙ there) in
        subst (λ (p : Opening). IsOpenLine i (after (log_of w) (Place stripe) knows) p line) own
        (subst (IsOpenLine i (after (log_of w) (Place stripe) knows) o) (sym slot)
        (line_of_it i w stripe knows o old.placer.entries.pad of has.slot mount here.placing
        (left_before i (log_of w) has.k o has.opening) here.now here.its here.short has.is))
    by_place k other line at there false e =
        let before : slice_get old.open.slots.items k ≡ Some line = sym (else_now of.kind old.open.slots.items has.k k has.slot stripe (apart k e)) ∙ there in
        line_of_other i w stripe knows o other old.placer.entries.pad of line mount here.placing (left_before i (log_of w) k other at) here.now here.its
        (from_filter (λ (p : Opening). has_left (open_line i (log_of w) p)) (standing (log_of w 0)) other (k, at))
        (other_number o.number other.number
        (λ f. apart k e (one_place (left_openings i (log_of w)) k has.k other o
        (rise_filtered (λ p. has_left (open_line i (log_of w) p)) (standing (log_of w 0)) (standing_rise (log_of w 0))) at has.opening (sym f))))
        (λ f. apart k e (left_apart i (log_of w) k has.k other o at has.opening (f ∙ here.now.own)))
        (st.open_lines.each k other line at before)

-- ---- positions that are placed for the first time

none_from : (front : ℕ) (ts : List Taken) → AllByRecursion (λ (t : Taken). t.entry.position < front) ts → new_count front (positions_of ts) ≡ 0
none_from front [] all = refl
none_from front (t ∷ ts) all =
    ap (λ b. length (cond b (t.entry.position ∷ filter (λ q. nat_le front q) (positions_of ts)) (filter (λ q. nat_le front q) (positions_of ts))))
    (above_no front t.entry.position all.0) ∙ none_from front ts all.1
  where
    above_no : (m n : ℕ) → n < m → nat_le m n ≡ false
    above_no m n e = grind arith

taken_from : (front n k m : ℕ) → front ≤ m → length (filter (λ q. nat_le front q) (take k (range_with_len m n))) ≡ min k n
taken_from front n zero m low = let z : min 0 n ≡ 0 = omega arith in sym z
taken_from front zero (suc k) m low = let z : min (suc k) 0 ≡ 0 = omega arith in sym z
taken_from front (suc n) (suc k) m low =
    let z : suc (min k n) ≡ min (suc k) (suc n) = omega arith in
    ap (λ b. length (cond b (m ∷ filter (λ q. nat_le front q) (take k (range_with_len (m + 1) n)))
    (filter (λ q. nat_le front q) (take k (range_with_len (m + 1) n)))))
    (le_true front m low) ∙ ap suc (taken_from front n k (m + 1) (omega arith)) ∙ z

-- of the first entries that wait, those that were lost come first
of_waiting : (front k n : ℕ) (lost : List Taken) → AllByRecursion (λ (t : Taken). t.entry.position < front) lost
    → new_count front (take k (positions_of lost ++ range_with_len front n)) ≡ min (k - length lost) n
of_waiting front k n [] all = taken_from front n k front (le_refl front) ∙ (let z : min k n ≡ min (k - 0) n = omega arith in z)
of_waiting front zero n (t ∷ lost) all = let z : 0 ≡ min (0 - suc (length lost)) n = omega arith in z
of_waiting front (suc k) n (t ∷ lost) all =
    let z : k - length lost ≡ suc k - suc (length lost) = omega arith in
    ap (λ b. length (cond b (t.entry.position ∷ filter (λ q. nat_le front q) (take k (positions_of lost ++ range_with_len front n)))
    (filter (λ q. nat_le front q) (take k (positions_of lost ++ range_with_len front n)))))
    (above_no front t.entry.position all.0)
    ∙ of_waiting front k n lost all.1 ∙ ap (λ m. min m n) z
  where
    above_no : (m n : ℕ) → n < m → nat_le m n ≡ false
    above_no m n e = grind arith

new_is : (i : Image) (w : World) (pad : ℕ) (o : Opening) (of : Program) → IsLegalMount i w → IsOfferedNow i w pad o of
    → new_count (placed_front i.shape (log_of w 0)) of.positions ≡ of.count - length (entries_of i.shape (log_of w 0) pad).lost
new_is i w pad o of mount now =
    let s : Shape = i.shape in
    let log : List Logged = log_of w 0 in
    let front : ℕ = placed_front s log in
    let k : ℕ = entries_for of.kind s.ws_opt in
    let n : ℕ = taken log - placed_front s log in
    let lost : List Taken = lost_entries s log in
    let positions : of.positions ≡ take k (positions_of lost ++ range_with_len front n) =
    now.positions ∙ positions_are s log of.kind ∙ sym (map_taken (λ (t : Taken). t.entry.position) k (waiting s log))
    ∙ ap (take k) (map-append (λ (t : Taken). t.entry.position) lost (fresh_entries s log)
    ∙ ap (λ qs. positions_of lost ++ qs) (fresh_in_order s log (ordered i w mount))) in
    let all : length (positions_of lost) ≡ length lost = length-map lost (λ (t : Taken). t.entry.position) in
    let long : length (range_with_len front n) ≡ n = length-range_with_len front n in
    let both_long : length (positions_of lost ++ range_with_len front n) ≡ length (positions_of lost) + length (range_with_len front n) =
    length-append (positions_of lost) (range_with_len front n) in
    let count : of.count ≡ min k (length lost + n) = now.count ∙ ap (λ (qs : List ℕ). length qs) positions
    ∙ length-take k (positions_of lost ++ range_with_len front n) ∙ ap (min k) (both_long ∙ ap₂ (λ a b. a + b) all long) in
    ap (new_count front) positions ∙ of_waiting front k n lost (lost_below s log (ordered i w mount))
    ∙ (let z : min (k - length lost) n ≡ min k (length lost + n) - length lost = omega arith in z) ∙ ap₂ (λ a b. a - b) (sym count) (sym all)

-- ---- the notes

-- the line isn't closed, since this stripe is still to be placed
pub line_unclosed : (i : Image) (w : World) (pad : ℕ) (o : Opening) (of : Program) → IsLegalMount i w → IsOfferedNow i w pad o of
    → closed_line i (log_of w) of.line ≡ None
line_unclosed i w pad o of mount now =
    ap (closed_line i (log_of w)) now.own
    ∙ closed_by_left i w mount o (ap (life_of (log_of w 0)) (sym now.own) ∙ now.opened)
    ∙ ap (λ t. closed_if (not t) (closed_as i (log_of w) o)) now.has

-- ---- the core

freed_placed : (s : Shape) (log : List Logged) (stripe : Stripe) (knows : List ℕ) (o : Opening) → IsPlacing log stripe o
    → first_position (with_place log stripe knows) ≡ first_position log
    → freed s log ≤ freed s (with_place log stripe knows)
freed_placed s log stripe knows o is first =
    let new : List Logged = with_place log stripe knows in
    let kept : AreKept log new = place_kept log stripe knows o is.opened (omega (arith, is.idle)) in
    let more : length (takes log) ≤ length (takes new) =
    subst (λ ts. length (takes log) ≤ length ts) (sym (takes_more log (record { event = Decides (Place stripe); knows = knows }) ∙ append-nil (takes log)))
    (omega arith) in
    subst (λ p. freed s log ≤ least_missing (is_given_back s new) (length (takes new)) p) (sym first)
    (least_rises (is_given_back s log) (is_given_back s new) (length (takes log)) (length (takes new)) (first_position log)
    (λ q e. given_kept s log new kept q ∙ e) more)

pub placed_stands : (i : Image) (w : World) (knows : List ℕ) (old new : Core) (o : Opening) (of : Program) (stripe : Stripe) → IsLegalMount i w
    → Stands i (log_of w) old → (has : HasSlot i (log_of w) old.open o)
    → IsOfferedNow i w old.placer.entries.pad o of → IsStripeFor i (log_of w) o of stripe → of.count ≡ length of.positions
    → IsPlacedInto old new has.k has.slot of stripe
    → Stands i (after (log_of w) (Place stripe) knows) new
placed_stands i w knows old new o of stripe mount st has now for count is = record {
  layout = is.layout ∙ st.layout;
  beginning = st.beginning;
  has_begun = begun_kept (log_of w 0) (Place stripe) knows refl ∙ st.has_begun;
  capacity = ap (λ m. fin.len m) is.map ∙ st.capacity;
  slots = λ lba within. ap (λ m. fin.get m lba) is.map ∙ st.slots lba within
      ∙ ap Some (sym (place_slot i (log_of w) w stripe knows lba mount.legal refl here.may));
  table = table_is;
  units = ap (λ l. l.items) is.online ∙ st.units ∙ map_same (online_now i (log_of w)) (online_now i new_logs)
      (λ line. sym (ap (λ (j : Image). bits_of (line_units j line)) (known_kept i (log_of w) (Place stripe) knows refl (λ unit. refl))))
      (range_with_len 0 i.shape.chunks);
  resets = ap resets_left is.resets ∙ st.resets
      ∙ sym (resets_quiet i (log_of w) (Place stripe) knows refl (λ unit. refl)
      (λ line. life_more (log_of w 0) (record { event = Decides (Place stripe); knows = knows }) line));
  used_lines = ap (λ r. length r.used) is.resets ∙ st.used_lines;
  used = subst (AreUsed i new_logs) (sym is.resets)
      (quiet_used i (log_of w) (Place stripe) knows old.resets refl (λ unit. refl) (λ line. closed_placed i (log_of w) stripe knows line) st.used);
  notes = subst (AreNotes i new_logs) (sym is.notes) (notes_placed i w st.beginning stripe knows old.notes mount st.has_begun st.notes);
  size = ap (λ v. v.size) is.window ∙ st.size;
  window = ap sectors_in is.window ∙ st.window ∙ sym (place_window i (log_of w) w stripe knows old.window.freed mount.legal refl here.may)
      ∙ ap (window_from i.shape (new_logs 0)) (sym (ap (λ v. v.freed) is.window));
  from_first = subst (λ v. first_position (new_logs 0) ≤ v.freed) (sym is.window) (subst (λ p. p ≤ old.window.freed) (sym first_is) st.from_first);
  to_freed = subst (λ v. v.freed ≤ freed i.shape (new_logs 0)) (sym is.window)
      (le_trans st.to_freed (freed_placed i.shape (log_of w 0) stripe knows o here.placing first_is));
  holds = holds_are;
  again = st.again;
  placing = placing_is ∙ ap (λ p. placing_of i new_logs p st.again) (sym (ap (λ (p : Placing). p.entries.pad) placing_is));
  open_lines = lines_stand i w knows old new o of stripe mount st has here is;
  next_seq = ap (λ r. r.seq) is.start ∙ st.next_seq ∙ ap (λ os. st.beginning.beginning.seq + length os) (sym openings_are);
  first_seq = ap (λ r. r.first_seq) is.start ∙ st.first_seq;
  own_capacity = ap (λ r. r.capacity) is.start ∙ st.own_capacity;
  older = ap (λ r. (start_numbers r).rows) is.start ∙ st.older
      ∙ older_kept i (log_of w) (Place stripe) knows st.beginning st.has_begun refl
      (λ line. inl (ap is_as_found (life_more (log_of w 0) (record { event = Decides (Place stripe); knows = knows }) line)));
  fits = fits_same old new is.first (ap (λ r. r.first_seq) is.start) (ap (λ r. (start_numbers r).rows) is.start) st.fits;
  first = is.first ∙ st.first ∙ sym first_is;
  placed = placed_is;
  left = left_is;
  in_flight = is.under_way ∙ ap (λ n. n + 1) st.in_flight ∙ sym (one_more_under_way i.shape (log_of w 0) stripe knows o here.placing here.its.in_range);
  answers = is.answers ∙ st.answers ∙ counts_placed i.shape (log_of w 0) stripe knows;
  full = full_kept i (log_of w) (Place stripe) knows refl st.full;
  users = is.users ∙ st.users ∙ ap (λ ts. length (filter (λ (t : Taken). is_users t.entry.source) ts)) (sym takes_are);
}
  where
    here : IsHere i w old old.placer.entries.pad o of stripe
    here = is_here i w old old.placer.entries.pad o of stripe mount now for count

    new_logs : Logs
    new_logs = after (log_of w) (Place stripe) knows

    order : AreSoundLogs i (log_of w)
    order = in_order i w mount

    ts : List Taken
    ts = take (entries_for of.kind i.shape.ws_opt) (waiting i.shape (log_of w 0))

    takes_are : takes (new_logs 0) ≡ takes (log_of w 0)
    takes_are = takes_more (log_of w 0) (record { event = Decides (Place stripe); knows = knows }) ∙ append-nil (takes (log_of w 0))

    openings_are : openings (new_logs 0) ≡ openings (log_of w 0)
    openings_are = openings_more (log_of w 0) (record { event = Decides (Place stripe); knows = knows }) ∙ append-nil (openings (log_of w 0))

    first_is : first_position (new_logs 0) ≡ first_position (log_of w 0)
    first_is = first_stays (log_of w 0) (record { event = Decides (Place stripe); knows = knows }) st.beginning st.has_begun

    rows : AllByRecursion (λ (t : Taken). row_at old.holds.rows.items t.entry.position ≡ Some (hold_of i.shape (log_of w 0) t)) ts
    rows = all_by_get (λ (t : Taken). row_at old.holds.rows.items t.entry.position ≡ Some (hold_of i.shape (log_of w 0) t)) ts
        (λ k t e. IsWaiting.row (waiting_at i w old k t mount st (get_whole (entries_for of.kind i.shape.ws_opt) (waiting i.shape (log_of w 0)) k t e)))

    names : AllByRecursion (λ (t : Taken). is_some (named i.shape t.mark) ≡ true) ts
    names = all_by_get (λ (t : Taken). is_some (named i.shape t.mark) ≡ true) ts (λ k t e.
        let waits = waiting_at i w old k t mount st (get_whole (entries_for of.kind i.shape.ws_opt) (waiting i.shape (log_of w 0)) k t e) in
        all_at (λ (t : Taken). is_some (named i.shape t.mark) ≡ true) (takes (log_of w 0)) waits.number t waits.there order.named)

    table_is : new.lines ≡ rows_of i new_logs
    table_is =
        is.lines
        ∙ ap₂ (λ (t : Table) (qs : List ℕ). placed_lines old.holds.rows.items of.line t qs) st.table here.positions
        ∙ lines_placed_are i.shape (log_of w 0) of.line old.holds.rows.items (rows_of i (log_of w)) ts order.small refl names rows
        ∙ ap (λ line. place_entries (log_of w 0) line (rows_of i (log_of w)) ts) (sym for.line)
        ∙ sym (rows_by_kind i (log_of w) stripe knows o of.kind order (ordered i w mount) here.placing here.kind)

    in_stripe : positions_in_stripe i.shape stripe ≡ positions_of ts
    in_stripe = here.its.positions ∙ here.positions

    holds_are : AreHolds i.shape (new_logs 0) new.holds
    holds_are = record {
      room = ap (λ (hs : List Hold). length hs) is.holds ∙ rows_length of.line of.positions old.holds.rows.items ∙ st.holds.room;
      each = λ t among kept.
          ap (λ (hs : List Hold). slice_get hs (t.entry.position % i.shape.ring))
          (is.holds ∙ ap₂ (λ line (qs : List ℕ). placed_rows line old.holds.rows.items qs) (sym for.line) here.positions)
          ∙ row_placed_is i w old stripe knows o (entries_for of.kind i.shape.ws_opt) t mount st here.placing in_stripe
          (subst (λ (xs : List Taken). Contains xs t) takes_are among)
          (sym (given_kept i.shape (log_of w 0) (new_logs 0)
          (place_kept (log_of w 0) stripe knows o here.placing.opened (omega (arith, here.placing.idle))) t.entry.position) ∙ kept);
    }

    placing_is : new.placer ≡ placing_of i new_logs old.placer.entries.pad st.again
    placing_is =
        is.placer ∙ ap (λ p. placed p of) st.placing
        ∙ sym (placing_placed i (log_of w) knows old.placer.entries.pad st.again o stripe of mount.accepted.drive.ws_opt here.its order.numbered)

    placed_is : new.first + new.placed ≡ placed_front i.shape (new_logs 0)
    placed_is =
        let front : placed_front i.shape (new_logs 0) ≡ placed_front i.shape (log_of w 0) +
        (of.count - length (entries_of i.shape (log_of w 0) old.placer.entries.pad).lost) =
        front_placed i (log_of w) knows old.placer.entries.pad o stripe of here.its order.numbered in
        let before : old.first + old.placed ≡ placed_front i.shape (log_of w 0) = st.placed in
        let fresh : new_count (placed_front i.shape (log_of w 0)) of.positions ≡ of.count -
        length (entries_of i.shape (log_of w 0) old.placer.entries.pad).lost = new_is i w old.placer.entries.pad o of mount now in
        let a : new.first ≡ old.first = is.first in
        let b : new.placed ≡ old.placed + new_count (placed_front i.shape (log_of w 0)) of.positions =
        is.placed ∙ ap (λ n. old.placed + new_count n of.positions) before in
        omega arith

    left_is : new.left ≡ open_addresses i new_logs
    left_is =
        let before : old.left ≡ open_addresses i (log_of w) = st.left in
        let less : new.left + entries_for of.kind old.layout.ws_opt ≡ old.left = is.left in
        let same : entries_for of.kind old.layout.ws_opt ≡ entries_for of.kind i.shape.ws_opt = ap (λ (s : Shape). entries_for of.kind s.ws_opt) st.layout in
        let before_it : open_addresses i (log_of w) ≡ open_addresses i new_logs + entries_for of.kind i.shape.ws_opt =
        left_by_kind i (log_of w) stripe knows o of.kind mount.accepted here.placing here.may.in_range here.kind in
        omega arith
