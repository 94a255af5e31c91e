-- What a slot says of the stripes of its line.
use Rattle.std.proofs.Common.{◌≡◌, ℕ, ◌+◌, ◌-◌, ◌%◌, ◌<◌, ◌≤◌, true, false, cond, Some, List, length, refl, sym, ap, subst, ◌∙◌, arith}
use Rattle.std.specs.Prelude.{nat_lt}
use Rattle.std.specs.List.{slice_get, slice_set}
use Rattle.stripe_placer.specs.OpenLines.{Stripe, OpenLine, next_of, in_one_chunk, with_stripe, has_failed, kind_of, is_lost}
use Rattle.stripe_placer.specs.OpenLines.Stripe.{Unanswered, Landed}
use Rattle.stripe_placer.specs.Slots.{open_line, outcomes, outcome_in, KeepsLine, KeepsCounts, IsSlot}
use Rattle.stripe_placer.specs.declared.placement.StripeKind.TheVariants as kinds
use Rattle.stripe_placer.specs.declared.slot.Chunk.TheVariants as chunk
use Rattle.stripe_placer.specs.declared.slot.Slot.TheInside.{Inside}
use Rattle.stripe_placer.proofs.Chunks.{Describes, described, column, IsPlaceable, placeable, IsWaiting, is_waiting, landed_outcomes, answered_keeps}
use Rattle.stripe_placer.proofs.Counted.{few_unanswered, few_lost, some_unanswered, LandsIn, landed_counts}
use Rattle.stripe_placer.proofs.Tallies.{some_counted}
use Rattle.pblk_model.proofs.Maps.{length_mapped}
use Rattle.pblk_model.proofs.Tests.{lt_true, not_before}

pub its_chunks : (s : Inside) → IsSlot s → Describes (open_line s) s.chunks s.width s.next s.stripe_count
its_chunks s is = described s.line s.online s.width s.start_count s.data_count s.stripe_count s.next s.chunks is.keeps

pub can_be_placed : (s : Inside) (l : OpenLine) (j : ℕ) → IsSlot s → open_line s ≡ l → next_of l ≡ Some j
    → ((i : ℕ) → slice_get l.stripes i ≡ Some Unanswered → in_one_chunk l i j ≡ false) → IsPlaceable s.chunks s.width s.next s.stripe_count j
can_be_placed s l j is same next alone = placeable (open_line s) s.chunks s.width s.next s.stripe_count j (its_chunks s is) (ap next_of same ∙ next)
    (subst (λ (v : OpenLine). (i : ℕ) → slice_get v.stripes i ≡ Some Unanswered → in_one_chunk v i j ≡ false) (sym same) alone)

pub it_waits : (s : Inside) (l : OpenLine) (j : ℕ) → IsSlot s → open_line s ≡ l → slice_get l.stripes j ≡ Some Unanswered
    → IsWaiting s.chunks s.width s.next s.stripe_count j
it_waits s l j is same waits =
    is_waiting (open_line s) s.chunks s.width s.next s.stripe_count j (its_chunks s is) (ap (λ (v : OpenLine). slice_get v.stripes j) same ∙ waits)

pub its_stripe : (s : Inside) (l : OpenLine) (j : ℕ) → open_line s ≡ l → slice_get l.stripes j ≡ Some Unanswered
    → slice_get (outcomes s.chunks s.width s.next s.stripe_count) j ≡ Some Unanswered
its_stripe s l j same waits = ap (λ (v : OpenLine). slice_get v.stripes j) same ∙ waits

pub its_column : (s : Inside) (j : ℕ) → IsSlot s → j % s.width < length s.chunks
its_column s j is = omega (arith, is.keeps.chunk_count, is.keeps.few, column s.width j is.keeps.some)

pub unanswered_short : (s : Inside) → IsSlot s → s.unanswered ≤ 65536
unanswered_short s is = omega (
  arith,
  few_unanswered (outcomes s.chunks s.width s.next s.stripe_count) s.start_count s.data_count s.start_left s.data_left s.unanswered s.lost is.counts,
  length_mapped (outcome_in s.chunks s.width s.next) 0 s.stripe_count,
  is.keeps.stripes_short,
)

pub lost_short : (s : Inside) → IsSlot s → s.lost ≤ 65536
lost_short s is = omega (
  arith,
  few_lost (outcomes s.chunks s.width s.next s.stripe_count) s.start_count s.data_count s.start_left s.data_left s.unanswered s.lost is.counts,
  length_mapped (outcome_in s.chunks s.width s.next) 0 s.stripe_count,
  is.keeps.stripes_short,
)

-- a slot with these stripes
abbrev pub with_stripes : Inside → List Stripe → OpenLine
with_stripes s xs = record { line = s.line; online = s.online; start_count = s.start_count; data_count = s.data_count; stripes = xs }

-- one stripe of its line was changed
pub stripe_changed : (s : Inside) (l : OpenLine) (j : ℕ) (to : Stripe) (xs : List Stripe) → open_line s ≡ l
    → slice_set (outcomes s.chunks s.width s.next s.stripe_count) j to ≡ xs → with_stripes s xs ≡ with_stripe l j to
stripe_changed s l j to xs same set = ap (with_stripes s) (sym set) ∙ ap (λ (v : OpenLine). with_stripe v j to) same

-- whether a stripe was lost
pub failed_is : (s : Inside) (l : OpenLine) → IsSlot s → open_line s ≡ l → has_failed l ≡ nat_lt 0 s.lost
failed_is s l is same = ap has_failed (sym same) ∙ sym (some_counted is_lost (outcomes s.chunks s.width s.next s.stripe_count))
    ∙ ap (nat_lt 0) (sym is.counts.lost_is)

pub kind_pad : (l : OpenLine) (j : ℕ) → has_failed l ≡ true → kinds.Pad ≡ kind_of l j
kind_pad l j failed = sym (ap (λ b. cond b kinds.Pad
    (cond (nat_lt j l.start_count) kinds.Start (cond (nat_lt j (l.start_count + l.data_count)) kinds.Data kinds.End))) failed)

pub kind_other : (l : OpenLine) (j : ℕ) → has_failed l ≡ false
    → kind_of l j ≡ cond (nat_lt j l.start_count) kinds.Start (cond (nat_lt j (l.start_count + l.data_count)) kinds.Data kinds.End)
kind_other l j failed = ap (λ b. cond b kinds.Pad
    (cond (nat_lt j l.start_count) kinds.Start (cond (nat_lt j (l.start_count + l.data_count)) kinds.Data kinds.End))) failed

-- the kind of a slot's stripe, by what was lost and by where it lies
pub slot_pad : (s : Inside) (l : OpenLine) (j : ℕ) → IsSlot s → open_line s ≡ l → 0 < s.lost → kinds.Pad ≡ kind_of l j
slot_pad s l j is same some = kind_pad l j (failed_is s l is same ∙ lt_true 0 s.lost some)

slot_other : (s : Inside) (l : OpenLine) (j : ℕ) → IsSlot s → open_line s ≡ l → s.lost ≤ 0
    → cond (nat_lt j s.start_count) kinds.Start (cond (nat_lt j (s.start_count + s.data_count)) kinds.Data kinds.End) ≡ kind_of l j
slot_other s l j is same none = sym (kind_other (open_line s) j (failed_is s (open_line s) is refl ∙ not_before 0 s.lost none))
    ∙ ap (λ (v : OpenLine). kind_of v j) same

pub slot_start : (s : Inside) (l : OpenLine) (j : ℕ) → IsSlot s → open_line s ≡ l → s.lost ≤ 0 → j < s.start_count → kinds.Start ≡ kind_of l j
slot_start s l j is same none below =
    sym (ap (λ b. cond b kinds.Start (cond (nat_lt j (s.start_count + s.data_count)) kinds.Data kinds.End)) (lt_true j s.start_count below))
    ∙ slot_other s l j is same none

pub slot_data : (s : Inside) (l : OpenLine) (j : ℕ) → IsSlot s → open_line s ≡ l → s.lost ≤ 0 → s.start_count ≤ j → j < s.start_count + s.data_count
    → kinds.Data ≡ kind_of l j
slot_data s l j is same none from below = sym (ap (λ b. cond b kinds.Data kinds.End) (lt_true j (s.start_count + s.data_count) below))
    ∙ sym (ap (λ b. cond b kinds.Start (cond (nat_lt j (s.start_count + s.data_count)) kinds.Data kinds.End)) (not_before j s.start_count from))
    ∙ slot_other s l j is same none

pub slot_end : (s : Inside) (l : OpenLine) (j : ℕ) → IsSlot s → open_line s ≡ l → s.lost ≤ 0 → s.start_count + s.data_count ≤ j → kinds.End ≡ kind_of l j
slot_end s l j is same none past = sym (ap (λ b. cond b kinds.Data kinds.End) (not_before j (s.start_count + s.data_count) past))
    ∙ sym (ap (λ b. cond b kinds.Start (cond (nat_lt j (s.start_count + s.data_count)) kinds.Data kinds.End)) (not_before j s.start_count (omega arith)))
    ∙ slot_other s l j is same none

-- a stripe has landed, which leaves fewer
pub landed_slot : (s : Inside) (l : OpenLine) (j a b : ℕ) → IsSlot s → open_line s ≡ l → slice_get l.stripes j ≡ Some Unanswered
    → LandsIn j s.start_count s.data_count a b s.start_left s.data_left
    → KeepsCounts (outcomes (slice_set s.chunks (j % s.width) chunk.Open) s.width s.next s.stripe_count) s.start_count s.data_count a b
    (s.unanswered - 1) s.lost
landed_slot s l j a b is same waits lands =
    let here : slice_get (outcomes s.chunks s.width s.next s.stripe_count) j ≡ Some Unanswered = its_stripe s l j same waits in
    let some : 1 ≤ s.unanswered = some_unanswered
    (outcomes s.chunks s.width s.next s.stripe_count) j s.start_count s.data_count s.start_left s.data_left s.unanswered s.lost is.counts here in
    subst (λ (xs : List Stripe). KeepsCounts xs s.start_count s.data_count a b (s.unanswered - 1) s.lost)
    (landed_outcomes s.chunks s.width s.next s.stripe_count j (its_column s j is) (it_waits s l j is same waits))
    (landed_counts (outcomes s.chunks s.width s.next s.stripe_count) j s.start_count s.data_count a b s.start_left s.data_left
    (s.unanswered - 1) s.unanswered s.lost is.counts here lands (omega arith))

pub landed_keeps : (s : Inside) (j : ℕ) → IsSlot s
    → KeepsLine s.online s.width s.start_count s.data_count s.stripe_count s.next (slice_set s.chunks (j % s.width) chunk.Open)
landed_keeps s j is = answered_keeps s.online s.width s.start_count s.data_count s.stripe_count s.next j s.chunks chunk.Open is.keeps tt

pub landed_view : (s : Inside) (l : OpenLine) (j : ℕ) → IsSlot s → open_line s ≡ l → slice_get l.stripes j ≡ Some Unanswered
    → with_stripes s (outcomes (slice_set s.chunks (j % s.width) chunk.Open) s.width s.next s.stripe_count) ≡ with_stripe l j Landed
landed_view s l j is same waits =
    stripe_changed s l j Landed _ same (landed_outcomes s.chunks s.width s.next s.stripe_count j (its_column s j is) (it_waits s l j is same waits))
