-- Entries are placed in order for the first time: those that were placed at least once are the ones
-- below the front placed. The lost ones among these wait before the others.
use Rattle.std.proofs.Common.{◌≡◌, inl, inr, ℕ, ◌+◌, ◌-◌, ◌<◌, ◌≤◌, ◌==◌, ◌&&◌, ◌||◌, zero, suc, not, nat_eq, nat_lt, nat_le, min, Bool, true, false, Some, None, List, [], ◌∷◌, ◌++◌, length, take, drop, replicate, refl, sym, subst, ap, ap₂, ◌∙◌, arith, append-nil}
use Rattle.std.specs.Prelude.{is_some, if◌then◌else◌, slice_range}
use Rattle.std.specs.List.{AllByRecursion, filter_map, list_any, range_with_len}
use Rattle.std.specs.Option.{option_to_list}
use Rattle.std.proofs.lemmas.Bool.{eqb-true}
use Rattle.std.proofs.lemmas.List.Folds.{list_any-append}
use Rattle.pblk_model.specs.declared.shape.Shape.{Shape}
use Rattle.pblk_model.specs.Chunk.{Block}
use Rattle.pblk_model.specs.Image.{Image}
use Rattle.pblk_model.specs.Marks.{meta_lba, pad_block}
use Rattle.pblk_model.specs.LineOrder.{start_len, end_len}
use Rattle.pblk_model.specs.StartRecord.{start_bytes}
use Rattle.pblk_model.specs.EndRecord.{end_bytes}
use Rattle.pblk_model.specs.Records.{named}
use Rattle.pblk_world.specs.Events.{EngineEvent, Stripe, Place, Decides, Logged}
use Rattle.pblk_world.specs.World.{World, Logs, log_of}
use Rattle.pblk_world.specs.EngineLog.{Begun, begun, Taken, takes, life_of, Opening, Placed, placed_by, placements, was_lost, holds_position}
use Rattle.pblk_world.specs.Fronts.{first_position, taken, times_placed, times_lost, was_placed, waits, waiting}
use Rattle.pblk_world.specs.Space.{placed_front}
use Rattle.pblk_world.specs.Victims.{position_in}
use Rattle.pblk_world.specs.Placing.{next_address, end_address, end_record, MayPlace, data_blocks, record_blocks}
use Rattle.pblk_world.specs.Legal.{IsDecision}
use Rattle.pblk_world.proofs.Appending.{placements_more}
use Rattle.pblk_world.specs.LegalMounts.{IsLegalMount}
use Rattle.world_laws.proofs.LineStripes.{IsKind}
use Rattle.core_laws.specs.PlacerOf.{positions_of, positions_in_stripe, lost_entries, fresh_entries}
use Rattle.core_laws.proofs.PlainLogs.{NoPlacementLost}
use Rattle.core_laws.specs.Positions.{AreNumbered, AreMarked}
use Rattle.core_laws.specs.Placed.{placed_count}
use Rattle.core_laws.specs.PlacedEntries.{AreSectorsOrVoid}
use Rattle.core_laws.proofs.BlockPositions.{Bears, positions_by, record_positions, no_pad_positions}
use Rattle.core_laws.proofs.HeldOnce.{HeldOnce, held_once}
use Rattle.core_laws.proofs.KeptByEvents.{IsKept, kept}
use Rattle.core_laws.proofs.KeptPositions.{marked_after, named_after}
use Rattle.core_laws.proofs.NextTakes.{IsRising, rising_by, rising_filtered, rising_taken, rising_joined}
use Rattle.core_laws.proofs.Placed.{is_in_list, any_counts, stripe_holds, rest_are_last, placed_are_first, range_dropped, range_taken, range_joined, in_range}
use Rattle.core_laws.proofs.PlacerOfLemmas.{positions_taken}
use Rattle.core_laws.proofs.SyncedWindow.{numbered_above}
use Rattle.core_laws.proofs.WaitingEntries.{positions_both}
use Rattle.core_laws.proofs.TakenNumbers.{first_stays, numbered_after}
use Rattle.pblk_model.proofs.Lists.{IsAmong, all_append, all_imply, all_true, among_all, among_more, zipped}
use Rattle.pblk_model.proofs.Maps.{all_filter, all_mapped, all_passed, filter_none, filter_same}
use Rattle.pblk_model.proofs.Parts.{all_taken}
use Rattle.pblk_model.proofs.Tests.{not_true, or_no, second_of}
use Rattle.pblk_model.proofs.MarksLemmas.{accepted_small}
use Rattle.pblk_world.proofs.EngineLogLemmas.{takes_more, takes_grow}

-- ---- lists

take_joined : {X : Type 0} (n : ℕ) (xs ys : List X) → take n (xs ++ ys) ≡ take n xs ++ take (n - length xs) ys
take_joined zero xs ys = let none : 0 ≡ 0 - length xs = omega arith in ap (λ k. take k ys) none
take_joined (suc n) [] ys = let all : suc n ≡ suc n - 0 = omega arith in ap (λ k. take k ys) all
take_joined (suc n) (x ∷ xs) ys =
    let less : n - length xs ≡ suc n - suc (length xs) = omega arith in
    ap (λ zs. x ∷ zs) (take_joined n xs ys ∙ ap (λ k. take n xs ++ take k ys) less)

length_taken : {X : Type 0} (n : ℕ) (xs : List X) → n ≤ length xs → length (take n xs) ≡ n
length_taken zero xs within = refl
length_taken (suc n) [] within = absurd (omega arith)
length_taken (suc n) (x ∷ xs) within = ap suc (length_taken n xs (omega arith))

positions_dropped : (n : ℕ) (ts : List Taken) → positions_of (drop n ts) ≡ drop n (positions_of ts)
positions_dropped zero ts = refl
positions_dropped (suc n) [] = refl
positions_dropped (suc n) (t ∷ ts) = positions_dropped n ts

-- what stands in a list adds nothing to it
none_added : (xs ys : List ℕ) → AllByRecursion (λ m. is_in_list ys m ≡ true) xs → (q : ℕ) → (is_in_list ys q || is_in_list xs q) ≡ is_in_list ys q
none_added [] ys all q = or_no (is_in_list ys q)
none_added (x ∷ xs) ys all q = go (nat_eq x q) refl (none_added xs ys all.1 q)
  where
    go : (b : Bool) → nat_eq x q ≡ b → (is_in_list ys q || is_in_list xs q) ≡ is_in_list ys q
        → (is_in_list ys q || (b || is_in_list xs q)) ≡ is_in_list ys q
    go true e rest =
        let there : is_in_list ys q ≡ true = ap (is_in_list ys) (sym (eqb-true x q e)) ∙ all.0 in
        ap (λ c. c || true) there ∙ sym there
    go false e rest = rest

or_regrouped : (a b c : Bool) → (a || (b || c)) ≡ ((a || b) || c)
or_regrouped true b c = refl
or_regrouped false b c = refl

-- ---- what the log of a mount has

-- the stripes hold the positions of so many first entries, and no others
pub record AreInOrder (s : Shape) (log : List Logged) : Type 0 where
  pub count : ℕ
  pub within : count ≤ length (takes log)
  pub held : (q : ℕ) → list_any (holds_position s q) (placements log) ≡ is_in_list (range_with_len (first_position log) count) q

-- the entries in a stripe, in the order of their positions
pub record HasEntries (s : Shape) (log : List Logged) (stripe : Stripe) : Type 0 where
  pub entries : List Taken
  pub positions : positions_in_stripe s stripe ≡ positions_of entries
  pub rising : IsRising entries
  pub among : AllByRecursion (IsAmong (takes log)) entries

abbrev HaveEntries : Shape → List Logged → Type 0
HaveEntries s log = AllByRecursion (λ (p : Placed). HasEntries s log p.stripe) (placements log)

pub record IsOrdered (s : Shape) (log : List Logged) : Type 0 where
  pub numbered : AreNumbered log
  pub marked : AreMarked log
  pub named : AreSectorsOrVoid s log
  pub order : AreInOrder s log
  pub entries : AllByRecursion (λ (p : Placed). HasEntries s log p.stripe) (placements log)
  pub once : HeldOnce s log

was_placed_is : (s : Shape) (log : List Logged) (order : AreInOrder s log) (t : Taken)
    → was_placed s log t ≡ is_in_list (range_with_len (first_position log) order.count) t.entry.position
was_placed_is s log order t = any_counts (holds_position s t.entry.position) (placements log) ∙ order.held t.entry.position

pub fresh_are_last : (s : Shape) (log : List Logged) → AreNumbered log → (order : AreInOrder s log) → fresh_entries s log ≡ drop order.count (takes log)
fresh_are_last s log numbered order =
    filter_same (λ t. not (was_placed s log t)) (λ (t : Taken). not (is_in_list (range_with_len (first_position log) order.count) t.entry.position))
    (λ t. ap not (was_placed_is s log order t)) (takes log)
    ∙ rest_are_last (first_position log) order.count (length (takes log)) (takes log) numbered

fresh_positions : (s : Shape) (log : List Logged) → AreNumbered log → (order : AreInOrder s log)
    → positions_of (fresh_entries s log) ≡ range_with_len (first_position log + order.count) (length (takes log) - order.count)
fresh_positions s log numbered order =
    ap positions_of (fresh_are_last s log numbered order) ∙ positions_dropped order.count (takes log) ∙ ap (drop order.count) numbered
    ∙ range_dropped (first_position log) order.count (length (takes log))

-- the entries that were lost were placed before
lost_held : (s : Shape) (log : List Logged) (order : AreInOrder s log)
    → AllByRecursion (λ (t : Taken). is_in_list (range_with_len (first_position log) order.count) t.entry.position ≡ true) (lost_entries s log)
lost_held s log order =
    all_imply (λ (t : Taken). (waits s log t && was_placed s log t) ≡ true)
    (λ (t : Taken). is_in_list (range_with_len (first_position log) order.count) t.entry.position ≡ true)
    (λ t e. sym (was_placed_is s log order t) ∙ second_of (waits s log t) (was_placed s log t) e) (lost_entries s log)
    (all_passed (λ t. waits s log t && was_placed s log t) (takes log))

below_range : (a n q : ℕ) → is_in_list (range_with_len a n) q ≡ true → q < a + n
below_range a n q e = let is : (nat_le a q && nat_lt q (a + n)) ≡ true = sym (in_range a n q) ∙ e in grind arith

above_range : (a n q : ℕ) → a ≤ q → is_in_list (range_with_len a n) q ≡ false → a + n ≤ q
above_range a n q low e = let is : (nat_le a q && nat_lt q (a + n)) ≡ false = sym (in_range a n q) ∙ e in grind arith

-- what waits does so in the order of its positions
pub waiting_rises : (s : Shape) (log : List Logged) → AreNumbered log → AreInOrder s log → IsRising (waiting s log)
waiting_rises s log numbered order =
    rising_joined (first_position log + order.count) (lost_entries s log) (fresh_entries s log)
    (rising_filtered (λ t. waits s log t && was_placed s log t) (takes log) rise) (rising_filtered (λ t. not (was_placed s log t)) (takes log) rise)
    (all_imply (λ (t : Taken). is_in_list (range_with_len (first_position log) order.count) t.entry.position ≡ true)
    (λ (t : Taken). t.entry.position < first_position log + order.count)
    (λ t e. below_range (first_position log) order.count t.entry.position e) (lost_entries s log) (lost_held s log order))
    (zipped (λ (t : Taken). not (was_placed s log t) ≡ true) (λ (t : Taken). first_position log ≤ t.entry.position)
    (λ (t : Taken). first_position log + order.count ≤ t.entry.position)
    (λ t e low. above_range (first_position log) order.count t.entry.position low (sym (was_placed_is s log order t) ∙ not_true (was_placed s log t) e))
    (fresh_entries s log) (all_passed (λ t. not (was_placed s log t)) (takes log))
    (all_filter (λ (t : Taken). first_position log ≤ t.entry.position) (λ t. not (was_placed s log t)) (takes log)
    (numbered_above (first_position log) (takes log) numbered)))
  where
    rise : IsRising (takes log)
    rise = rising_by (first_position log) (length (takes log)) (takes log) numbered

-- ---- a stripe that is placed next

-- it holds entries that were lost and the next ones that weren't placed, or none
pub record HoldsNext (s : Shape) (log : List Logged) (from : ℕ) (stripe : Stripe) : Type 0 where
  pub its : HasEntries s log stripe
  pub count : ℕ
  pub within : from + count ≤ length (takes log)
  pub held : (q : ℕ) → (is_in_list (range_with_len (first_position log) from) q || is_in_list (positions_in_stripe s stripe) q)
      ≡ is_in_list (range_with_len (first_position log) (from + count)) q

holds_none : (s : Shape) (log : List Logged) (from : ℕ) (stripe : Stripe) (bs : List Block) → from ≤ length (takes log) → stripe.blocks ≡ bs
    → filter_map (position_in s) bs ≡ [] → HoldsNext s log from stripe
holds_none s log from stripe bs within is none =
    let here : positions_in_stripe s stripe ≡ [] = ap (filter_map (position_in s)) is ∙ none in
    let same : from ≡ from + 0 = omega arith in
    record {
      its = record { entries = []; positions = here; rising = tt; among = tt };
      count = 0;
      within = omega arith;
      held = λ q. ap (λ qs. is_in_list (range_with_len (first_position log) from) q || is_in_list qs q) here
          ∙ or_no (is_in_list (range_with_len (first_position log) from) q)
          ∙ ap (λ n. is_in_list (range_with_len (first_position log) n) q) same;
    }

pub waiting_among : (s : Shape) (log : List Logged) → AllByRecursion (IsAmong (takes log)) (waiting s log)
waiting_among s log =
    all_append (IsAmong (takes log)) (lost_entries s log) (fresh_entries s log)
    (all_filter (IsAmong (takes log)) (λ t. waits s log t && was_placed s log t) (takes log) (among_all (takes log)))
    (all_filter (IsAmong (takes log)) (λ t. not (was_placed s log t)) (takes log) (among_all (takes log)))

all_bear : (s : Shape) (log : List Logged) → AreSectorsOrVoid s log → AreMarked log → AllByRecursion (Bears s) (takes log)
all_bear s log named_ marked =
    zipped (λ (t : Taken). is_some (named s t.mark) ≡ true) (λ (t : Taken). t.mark.position ≡ t.entry.position) (Bears s)
    (λ t names own. ap (λ b. if b then Some t.mark.position else None) names ∙ ap (λ n. Some n) own) (takes log) named_ marked

holds_waiting : (s : Shape) (log : List Logged) (stripe : Stripe) → s.capacity ≤ meta_lba → AreNumbered log → AreMarked log → AreSectorsOrVoid s log
    → (order : AreInOrder s log)
    → stripe.blocks ≡ data_blocks s log → HoldsNext s log order.count stripe
holds_waiting s log stripe small numbered marked named_ order is = record {
  its = record {
    entries = take s.ws_opt (waiting s log);
    positions = here ∙ sym (positions_taken s.ws_opt (waiting s log));
    rising = rising_taken s.ws_opt (waiting s log) (waiting_rises s log numbered order);
    among = all_taken (IsAmong (takes log)) s.ws_opt (waiting s log) (waiting_among s log);
  };
  count = more;
  within = let within : order.count ≤ length (takes log) = order.within in omega arith;
  held = λ q. ap (λ qs. is_in_list old q || is_in_list qs q) (here ∙ parts)
      ∙ ap (λ b. is_in_list old q || b) (list_any-append (λ x. x == q) (take s.ws_opt lost) next)
      ∙ or_regrouped (is_in_list old q) (is_in_list (take s.ws_opt lost) q) (is_in_list next q)
      ∙ ap (λ b. b || is_in_list next q) (none_added (take s.ws_opt lost) old
      (all_taken (λ m. is_in_list old m ≡ true) s.ws_opt lost
      (all_mapped (λ m. is_in_list old m ≡ true) (λ (t : Taken). t.entry.position) (lost_entries s log) (lost_held s log order))) q)
      ∙ sym (list_any-append (λ x. x == q) old next)
      ∙ ap (λ qs. is_in_list qs q) (range_joined (first_position log) order.count more);
}
  where
    lost : List ℕ
    lost = positions_of (lost_entries s log)

    old : List ℕ
    old = range_with_len (first_position log) order.count

    more : ℕ
    more = min (s.ws_opt - length lost) (length (takes log) - order.count)

    next : List ℕ
    next = range_with_len (first_position log + order.count) more

    here : positions_in_stripe s stripe ≡ take s.ws_opt (positions_of (waiting s log))
    here = ap (filter_map (position_in s)) is ∙ positions_by s log (all_bear s log named_ marked) small

    parts : take s.ws_opt (positions_of (waiting s log)) ≡ take s.ws_opt lost ++ next
    parts = ap (take s.ws_opt) (positions_both (lost_entries s log) (fresh_entries s log))
        ∙ take_joined s.ws_opt lost (positions_of (fresh_entries s log))
        ∙ ap (λ qs. take s.ws_opt lost ++ take (s.ws_opt - length lost) qs) (fresh_positions s log numbered order)
        ∙ ap (λ qs. take s.ws_opt lost ++ qs) (range_taken (first_position log + order.count) (s.ws_opt - length lost) (length (takes log) - order.count))

by_kind : (i : Image) (logs : Logs) (stripe : Stripe) (o : Opening) → i.shape.capacity ≤ meta_lba → AreNumbered (logs 0) → AreMarked (logs 0)
    → AreSectorsOrVoid i.shape (logs 0) → (order : AreInOrder i.shape (logs 0))
    → IsKind i logs o stripe → HoldsNext i.shape (logs 0) order.count stripe
by_kind i logs stripe o small numbered marked named_ order (inl is) =
    holds_none i.shape (logs 0) order.count stripe
    (slice_range (record_blocks i.shape o.start.seq (start_len i.shape) (start_bytes i.shape o.start)) (next_address i.shape (logs 0) o - 0)
    (next_address i.shape (logs 0) o - 0 + i.shape.ws_opt)) order.within is.blocks
    (record_positions i.shape o.start.seq (start_len i.shape) (start_bytes i.shape o.start) (next_address i.shape (logs 0) o - 0)
    (next_address i.shape (logs 0) o - 0 + i.shape.ws_opt) small)
by_kind i logs stripe o small numbered marked named_ order (inr (inl is)) =
    holds_waiting i.shape (logs 0) stripe small numbered marked named_ order is.blocks
by_kind i logs stripe o small numbered marked named_ order (inr (inr (inl is))) =
    holds_none i.shape (logs 0) order.count stripe
    (slice_range (record_blocks i.shape o.start.seq (end_len i.shape o.start.width) (end_bytes i.shape (end_record i.shape (logs 0) o)))
    (next_address i.shape (logs 0) o - end_address i.shape o) (next_address i.shape (logs 0) o - end_address i.shape o + i.shape.ws_opt)) order.within
    is.blocks
    (record_positions i.shape o.start.seq (end_len i.shape o.start.width) (end_bytes i.shape (end_record i.shape (logs 0) o))
    (next_address i.shape (logs 0) o - end_address i.shape o) (next_address i.shape (logs 0) o - end_address i.shape o + i.shape.ws_opt) small)
by_kind i logs stripe o small numbered marked named_ order (inr (inr (inr is))) =
    holds_none i.shape (logs 0) order.count stripe (replicate i.shape.ws_opt (pad_block i.shape)) order.within is.blocks
    (no_pad_positions i.shape i.shape.ws_opt small)

-- ---- what each event keeps

record IsPlacedSo (s : Shape) (log : List Logged) : Type 0 where
  numbered : AreNumbered log
  marked : AreMarked log
  named_ : AreSectorsOrVoid s log
  order : AreInOrder s log
  entries : HaveEntries s log

same_entries : (s : Shape) (log : List Logged) (l : Logged) (stripe : Stripe) → HasEntries s log stripe → HasEntries s (log ++ l ∷ []) stripe
same_entries s log l stripe its = record {
  entries = its.entries;
  positions = its.positions;
  rising = its.rising;
  among = all_imply (IsAmong (takes log)) (IsAmong (takes (log ++ l ∷ [])))
      (λ t at. subst (λ (ts : List Taken). IsAmong ts t) (sym (takes_more log l)) (among_more (takes log) _ t at)) its.entries its.among;
}

next_held : (i : Image) (known : Logs) (log : List Logged) (stripe : Stripe) → i.shape.capacity ≤ meta_lba → known 0 ≡ log → MayPlace i known stripe
    → (is : IsPlacedSo i.shape log) → HoldsNext i.shape log is.order.count stripe
next_held i known log stripe small own may is =
    subst (λ (x : List Logged). (is : IsPlacedSo i.shape x) → HoldsNext i.shape x is.order.count stripe) own
    (λ is. by_kind i known stripe may.opening small is.numbered is.marked is.named_ is.order may.kind) is

order_after : (i : Image) (known : Logs) (log : List Logged) (beginning : Begun) (e : EngineEvent) (knows : List ℕ) → i.shape.capacity ≤ meta_lba
    → begun log ≡ Some beginning → known 0 ≡ log
    → IsDecision i known beginning e → IsPlacedSo i.shape log → AreInOrder i.shape (log ++ record { event = Decides e; knows = knows } ∷ [])
order_after i known log beginning (Place stripe) knows small begins own may is =
    let s : Shape = i.shape in
    let l : Logged = record { event = Decides (Place stripe); knows = knows } in
    let placed : Placed = record { number = length log; stripe = stripe; life = life_of (take (length log) log) stripe.line } in
    let next : HoldsNext i.shape log is.order.count stripe = next_held i known log stripe small own may is in
    let grow : length (takes log) ≤ length (takes (log ++ l ∷ [])) = takes_grow log l in
    let within : is.order.count + next.count ≤ length (takes log) = next.within in
    record {
      count = is.order.count + next.count;
      within = omega arith;
      held = λ q. ap (list_any (holds_position i.shape q)) (placements_more log l)
          ∙ list_any-append (holds_position i.shape q) (placements log) (option_to_list (placed_by log (length log) (Decides (Place stripe))))
          ∙ ap₂ (λ a b. a || b) (is.order.held q) (or_no (holds_position i.shape q placed) ∙ stripe_holds i.shape q placed)
          ∙ next.held q
          ∙ ap (λ a. is_in_list (range_with_len a (is.order.count + next.count)) q) (sym (first_stays log l beginning begins));
    }
order_after i known log beginning e knows small begins own may is =
    let l : Logged = record { event = Decides e; knows = knows } in
    let grow : length (takes log) ≤ length (takes (log ++ l ∷ [])) = takes_grow log l in
    let within : is.order.count ≤ length (takes log) = is.order.within in
    record {
      count = is.order.count;
      within = omega arith;
      held = λ q. ap (list_any (holds_position i.shape q)) (placements_more log l ∙ append-nil (placements log)) ∙ is.order.held q
          ∙ ap (λ a. is_in_list (range_with_len a is.order.count) q) (sym (first_stays log l beginning begins));
    }

entries_after : (i : Image) (known : Logs) (log : List Logged) (beginning : Begun) (e : EngineEvent) (knows : List ℕ) → i.shape.capacity ≤ meta_lba
    → known 0 ≡ log → IsDecision i known beginning e → IsPlacedSo i.shape log
    → HaveEntries i.shape (log ++ record { event = Decides e; knows = knows } ∷ [])
entries_after i known log beginning e knows small own may is =
    subst (AllByRecursion (λ (p : Placed). HasEntries i.shape (log ++ l ∷ []) p.stripe)) (sym (placements_more log l))
    (all_append (λ (p : Placed). HasEntries i.shape (log ++ l ∷ []) p.stripe) (placements log) (option_to_list (placed_by log (length log) (Decides e)))
    (all_imply (λ (p : Placed). HasEntries i.shape log p.stripe) (λ (p : Placed). HasEntries i.shape (log ++ l ∷ []) p.stripe)
    (λ p its. same_entries i.shape log l p.stripe its) (placements log) is.entries) (new e may))
  where
    l : Logged
    l = record { event = Decides e; knows = knows }

    new : (d : EngineEvent) → IsDecision i known beginning d
        → AllByRecursion (λ (p : Placed). HasEntries i.shape (log ++ record { event = Decides e; knows = knows } ∷ []) p.stripe)
        (option_to_list (placed_by log (length log) (Decides d)))
    new (Place stripe) may = (
      same_entries i.shape log (record { event = Decides e; knows = knows }) stripe (next_held i known log stripe small own may is).its,
      tt,
    )
    new d may = tt

none_yet : (s : Shape) (log : List Logged) → placements log ≡ [] → AreInOrder s log
none_yet s log none = record {
  count = 0;
  within = omega arith;
  held = λ q. ap (list_any (holds_position s q)) none;
}

placed_kept : (i : Image) → i.shape.capacity ≤ meta_lba → IsKept i (λ e. true) (IsPlacedSo i.shape)
placed_kept i small = record {
  empty = record { numbered = refl; marked = tt; named_ = tt; order = none_yet i.shape [] refl; entries = tt };
  first = λ known b knows may. record { numbered = refl; marked = tt; named_ = tt; order = none_yet i.shape _ refl; entries = tt };
  next = λ known log beginning e knows begins own passes may was. record {
    numbered = numbered_after i known log beginning e knows begins own may was.numbered;
    marked = marked_after i known log beginning e knows may was.marked;
    named_ = named_after i known log beginning e knows may was.named_;
    order = order_after i known log beginning e knows small begins own may was;
    entries = entries_after i known log beginning e knows small own may was;
  };
}

pub ordered : (i : Image) (w : World) → IsLegalMount i w → IsOrdered i.shape (log_of w 0)
ordered i w mount =
    let is : IsPlacedSo i.shape (log_of w 0) =
    kept i (λ e. true) (IsPlacedSo i.shape) (placed_kept i (accepted_small i.shape mount.accepted)) w mount.legal (all_true (log_of w 0)) in
    record {
      numbered = is.numbered;
      marked = is.marked;
      named = is.named_;
      order = is.order;
      entries = is.entries;
      once = held_once i w mount;
    }

-- ---- what that says

pub count_is : (s : Shape) (log : List Logged) (is : IsOrdered s log) → placed_count s log ≡ is.order.count
count_is s log is =
    ap length (filter_same (was_placed s log) (λ (t : Taken). is_in_list (range_with_len (first_position log) is.order.count) t.entry.position)
    (was_placed_is s log is.order) (takes log)
    ∙ placed_are_first (first_position log) is.order.count (length (takes log)) (takes log) is.numbered)
    ∙ length_taken is.order.count (takes log) is.order.within

pub some_hold_below : (s : Shape) (log : List Logged) → IsOrdered s log → (q : ℕ)
    → list_any (holds_position s q) (placements log) ≡ (nat_le (first_position log) q && nat_lt q (placed_front s log))
some_hold_below s log is q =
    is.order.held q ∙ ap (λ n. is_in_list (range_with_len (first_position log) n) q) (sym (count_is s log is))
    ∙ in_range (first_position log) (placed_count s log) q

pub fresh_in_order : (s : Shape) (log : List Logged) → IsOrdered s log
    → positions_of (fresh_entries s log) ≡ range_with_len (placed_front s log) (taken log - placed_front s log)
fresh_in_order s log is =
    let same : placed_count s log ≡ is.order.count = count_is s log is in
    let left : length (takes log) - is.order.count ≡ taken log - placed_front s log = omega arith in
    fresh_positions s log is.numbered is.order ∙ ap₂ range_with_len (ap (λ n. first_position log + n) (sym same)) left

pub front_within : (s : Shape) (log : List Logged) → IsOrdered s log → placed_front s log ≤ taken log
front_within s log is =
    let same : placed_count s log ≡ is.order.count = count_is s log is in
    let within : is.order.count ≤ length (takes log) = is.order.within in
    omega arith

-- what was lost is below the front placed
pub lost_below : (s : Shape) (log : List Logged) → IsOrdered s log → AllByRecursion (λ (t : Taken). t.entry.position < placed_front s log) (lost_entries s log)
lost_below s log is =
    let same : placed_count s log ≡ is.order.count = count_is s log is in
    all_imply (λ (t : Taken). is_in_list (range_with_len (first_position log) is.order.count) t.entry.position ≡ true)
    (λ (t : Taken). t.entry.position < placed_front s log)
    (λ t e. let below : t.entry.position < first_position log + is.order.count = below_range (first_position log) is.order.count t.entry.position e in
    omega arith) (lost_entries s log) (lost_held s log is.order)

-- the entries that were placed are those below it
pub placed_below : (s : Shape) (log : List Logged) → IsOrdered s log
    → AllByRecursion (λ (t : Taken). was_placed s log t ≡ nat_lt t.entry.position (placed_front s log)) (takes log)
placed_below s log is =
    all_imply (λ (t : Taken). first_position log ≤ t.entry.position) (λ (t : Taken). was_placed s log t ≡ nat_lt t.entry.position (placed_front s log))
    (λ t above. was_placed_is s log is.order t
    ∙ ap (λ n. is_in_list (range_with_len (first_position log) n) t.entry.position) (sym (count_is s log is))
    ∙ in_range (first_position log) (placed_count s log) t.entry.position
    ∙ not_under (first_position log) t.entry.position (nat_lt t.entry.position (placed_front s log)) above)
    (takes log) (numbered_above (first_position log) (takes log) is.numbered)
  where
    not_under : (a q : ℕ) (b : Bool) → a ≤ q → (nat_le a q && b) ≡ b
    not_under a q b above = grind arith

-- ---- where nothing was lost

no_times_lost : (s : Shape) (log : List Logged) → NoPlacementLost log → (t : Taken) → times_lost s log t ≡ 0
no_times_lost s log none t = ap length
    (filter_none (λ p. was_lost log p && holds_position s t.entry.position p) (placements log)
    (all_imply (IsAmong (placements log)) (λ (p : Placed). (was_lost log p && holds_position s t.entry.position p) ≡ false)
    (λ p at. ap (λ b. b && holds_position s t.entry.position p) (none p)) (placements log) (among_all (placements log))))

pub lost_are_none : (s : Shape) (log : List Logged) → NoPlacementLost log → lost_entries s log ≡ []
lost_are_none s log none = filter_none (λ t. waits s log t && was_placed s log t) (takes log)
    (all_imply (IsAmong (takes log)) (λ (t : Taken). (waits s log t && was_placed s log t) ≡ false)
    (λ t at. ap (λ k. (times_placed s log t == k) && was_placed s log t) (no_times_lost s log none t) ∙ not_both_zero (times_placed s log t)) (takes log)
    (among_all (takes log)))
  where
    not_both_zero : (k : ℕ) → ((k == 0) && nat_lt 0 k) ≡ false
    not_both_zero k = grind arith

pub waiting_are_last : (s : Shape) (log : List Logged) → NoPlacementLost log → (is : IsOrdered s log) → waiting s log ≡ drop is.order.count (takes log)
waiting_are_last s log none is = ap₂ (λ (ts us : List Taken). ts ++ us) (lost_are_none s log none) (fresh_are_last s log is.numbered is.order)
