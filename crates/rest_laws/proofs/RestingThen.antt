-- A mount over a tidy image in which nothing failed, as it was at a length of the engine's log. At
-- rest there, it has no cause to refuse anything.
use Rattle.std.proofs.Common.{◌≡◌, inr, ℕ, ◌+◌, ◌^◌, ◌<◌, ◌≤◌, ◌-◌, max, false, true, suc, Some, Option, List, ◌++◌, length, take, drop, sym, subst, ap, ◌∙◌, arith, length-append, length-take}
use Rattle.std.specs.Prelude.{slice_get}
use Rattle.std.specs.List.{Contains, enumerate_from, filter, filter_map, range_with_len}
use Rattle.std.specs.Option.{option_and_then, option_map_or}
use Rattle.std.proofs.lemmas.List.Elements.{filter_map-append}
use Rattle.pblk_model.specs.declared.shape.Shape.{Shape}
use Rattle.pblk_model.specs.Image.{Image}
use Rattle.pblk_model.specs.UnitLog.{UnitEvent}
use Rattle.pblk_world.specs.AtRest.{IsAtRest, IsResting, IsWornFlush, IsWornWrite, logs_at, pad_target}
use Rattle.pblk_world.specs.EngineLog.{Begun, begun, named_by, named_events, opened_by, Opening, openings, Placed, placements, is_answered, Taken, takes}
use Rattle.pblk_world.specs.Events.{Logged}
use Rattle.pblk_world.specs.Fronts.{first_position, synced, taken, waiting}
use Rattle.pblk_world.specs.Lines.{found_by, found_image, known_image}
use Rattle.pblk_world.specs.Space.{addresses, is_due, open_addresses, position_limit, room}
use Rattle.pblk_world.specs.Victims.{engine_prefix}
use Rattle.pblk_world.specs.World.{World, Logs, log_of, unit_event_of}
use Rattle.pblk_world.proofs.EngineLogLemmas.{begun_taken}
use Rattle.pblk_model.proofs.Lists.{among_contained, among_more}
use Rattle.pblk_model.proofs.Maps.{enumerate_append}
use Rattle.pblk_model.proofs.Options.{split_then}
use Rattle.pblk_model.proofs.Parts.{contained_among, get_below, get_more, take_and_drop}
use Rattle.pblk_world.specs.LegalMounts.{IsLegalMount, NoStripeLost}
use Rattle.pblk_world.specs.Orders.{AreReset}
use Rattle.world_laws.specs.SameTold.{AreSameTold}
use Rattle.world_laws.proofs.Fronts.{synced_later}
use Rattle.world_laws.proofs.Later.{takes_joined}
use Rattle.world_laws.proofs.Stripes.{IsOpening, opening_is}
use Rattle.world_laws.proofs.ToldImages.{found_at, image_same, told_then}
use Rattle.world_laws.proofs.ToldTables.{addresses_told, due_told, open_told, room_told}
use Rattle.core_laws.specs.Spent.{OpensWhenFull}
use Rattle.world_laws.proofs.EarlierLogs.{some_begun}
use Rattle.rest_laws.specs.RestingMounts.{IsRestingMount}
use Rattle.rest_laws.specs.Tidy.{AreWide, HasWholeChunks, has_free_chunks, IsFaultless, IsTidy}
use Rattle.rest_laws.specs.TidyMounts.{HasNumbersLeft, HasRoom, IsTidyMount}
use Rattle.rest_laws.proofs.LengthLogs.{IsWorldAt, told_at, world_at}
use Rattle.rest_laws.proofs.NothingFailed.{faultless_kept, faultless_wide}
use Rattle.rest_laws.proofs.NotedResets.{all_noted}
use Rattle.rest_laws.proofs.RestingRoom.{has_room, not_due}
use Rattle.rest_laws.proofs.RestingWork.{target_synced}
use Rattle.rest_laws.proofs.StillMounts.{still}
use Rattle.rest_laws.proofs.TidyFound.{found_tidy}
use Rattle.rest_laws.proofs.ToldRest.{may_free_told, no_work_told}
use Rattle.rest_laws.proofs.VictimStripes.{prefix_of}
use Rattle.rest_laws.proofs.WrittenThen.{written_then}

-- ---- a longer log

named_more : (log more : List Logged) (unit number : ℕ) → Contains (named_events log unit) number → Contains (named_events (log ++ more) unit) number
named_more log more unit number there =
    subst (λ (ns : List ℕ). Contains ns number) (sym (filter_map-append (λ (l : Logged). named_by unit l.event) log more))
    (let at = among_contained (named_events log unit) number there in
    contained_among (named_events log unit ++ named_events more unit) number (among_more (named_events log unit) (named_events more unit) number at))

opened_more : (log more : List Logged) → (others : List Opening) × (openings (log ++ more) ≡ openings log ++ others)
opened_more log more =
    let f : ℕ × Logged → Option Opening = λ event. opened_by event.0 event.1.knows event.1.event in (
      filter_map f (enumerate_from (0 + length log) more),
      ap (filter_map f) (enumerate_append 0 log more)
          ∙ filter_map-append f (enumerate_from 0 log) (enumerate_from (0 + length log) more),
    )

lower : (x y k : ℕ) → 0 < k → x + k ≤ y → x < y
lower x y k some e = omega arith

-- ---- each line was opened in want of room

module _ (i : Image) (w : World) (is : IsTidyMount i w) where
  full_at : (o : Opening) → Contains (openings (log_of w 0)) o → open_addresses i (engine_prefix o.number (log_of w)) ≡ 0
  full_at o there =
      let at = among_contained (openings (log_of w 0)) o there in
      let h : IsOpening (log_of w 0) at.0 o = opening_is (log_of w 0) at.0 o at.1 in
      let within : o.number < length (log_of w 0) = get_below (log_of w 0) o.number h.logged h.there in
      let v : IsWorldAt i w o.number = world_at i w o.number is.mount.legal (omega arith) in
      open_told i (log_of v.world) (engine_prefix o.number (log_of w)) v.told
      ∙ sym (open_told i (log_of v.world) (logs_at o.number (log_of w)) (told_at i w o.number is.mount.legal (omega arith) v))
      ∙ (is.full.each o.number h.logged.knows o.line o.start
      (h.there ∙ ap (λ e. Some (record { event = e; knows = h.logged.knows })) h.event)).full

  -- ---- the world at a length

  module _ (n : ℕ) (some : 0 < n) (within : n ≤ length (log_of w 0)) where
    abbrev v : IsWorldAt i w n
    v = world_at i w n is.mount.legal within

    abbrev now : Logs
    now = log_of (world_at i w n is.mount.legal within).world

    pub mount_v : IsLegalMount i (world_at i w n is.mount.legal within).world
    mount_v = record { accepted = is.mount.accepted; fit = is.mount.fit; legal = v.legal }

    pub told : AreSameTold i (log_of (world_at i w n is.mount.legal within).world) (logs_at n (log_of w))
    told = told_at i w n is.mount.legal within v

    b : (x : Begun) × (begun (log_of w 0) ≡ Some x)
    b = some_begun i w is.mount.legal (omega (arith, some, within))

    begins : begun (log_of (world_at i w n is.mount.legal within).world 0) ≡ Some b.0
    begins = ap begun v.own ∙ begun_taken n (log_of w 0) some ∙ b.1

    found_same : found_image i (log_of (world_at i w n is.mount.legal within).world) ≡ found_image i (log_of w)
    found_same = sym v.told.found ∙ found_at i (log_of w) n some

    tidy : IsTidy (found_image i (log_of w))
    tidy = found_tidy i w is.mount b.0 b.1 is.tidy is.found_faultless

    whole : HasWholeChunks (found_image i (log_of (world_at i w n is.mount.legal within).world))
    whole = subst HasWholeChunks (sym found_same) tidy.whole

    four : 4 ≤ length (filter (has_free_chunks (found_image i (log_of (world_at i w n is.mount.legal within).world))) (range_with_len 0 i.shape.chunks))
    four = subst (λ (j : Image). 4 ≤ length (filter (has_free_chunks j) (range_with_len 0 i.shape.chunks))) (sym found_same)
        (subst (λ (s : Shape). 4 ≤ length (filter (has_free_chunks (found_image i (log_of w))) (range_with_len 0 s.chunks)))
        (ap (λ (x : Option Begun). (found_by i (log_of w) x).shape) b.1) tidy.some_free)

    faultless : IsFaultless (log_of (world_at i w n is.mount.legal within).world)
    faultless = record {
      none_failed = λ unit number landed_before e named at.
          let own = v.grown 0 in
          let its = v.grown (suc unit) in
          is.faultless.none_failed unit number landed_before e
          (subst (λ (xs : List Logged). Contains (named_events xs unit) number) (sym own.1) (named_more (now 0) own.0 unit number named))
          (later unit number e its.0 its.1 at);
    }
      where
        later : (unit number : ℕ) (e : UnitEvent) (more : List Logged)
            → log_of w (suc unit) ≡ log_of (world_at i w n is.mount.legal within).world (suc unit) ++ more
            → option_and_then (λ (l : Logged). unit_event_of l.event)
            (slice_get (log_of (world_at i w n is.mount.legal within).world (suc unit)) number) ≡ Some e
            → option_and_then (λ (l : Logged). unit_event_of l.event) (slice_get (log_of w (suc unit)) number) ≡ Some e
        later unit number e more parts at =
            let from = split_then (λ (l : Logged). unit_event_of l.event) (slice_get (now (suc unit)) number) e at in
            ap (option_and_then (λ (l : Logged). unit_event_of l.event)) (ap (λ (xs : List Logged). slice_get xs number) parts
            ∙ get_more (now (suc unit)) more number from.0 from.1) ∙ from.2

    pub none_lost : NoStripeLost (log_of (world_at i w n is.mount.legal within).world 0)
    none_lost = faultless_kept i (world_at i w n is.mount.legal within).world v.legal faultless

    pub wide : AreWide (known_image i (log_of (world_at i w n is.mount.legal within).world))
    wide = faultless_wide i (world_at i w n is.mount.legal within).world mount_v b.0 begins faultless whole

    pub wide_then : AreWide (known_image i (engine_prefix n (log_of w)))
    wide_then = subst AreWide (sym (image_same i now (engine_prefix n (log_of w)) v.told)) wide

    pub full : OpensWhenFull i (log_of (world_at i w n is.mount.legal within).world)
    full o there =
        let at = among_contained (openings (now 0)) o there in
        let h : IsOpening (now 0) at.0 o = opening_is (now 0) at.0 o at.1 in
        let inside : o.number < length (now 0) = get_below (now 0) o.number h.logged h.there in
        let count : length (now 0) ≤ n = no_more n (log_of w 0) (now 0) v.own in
        let others = v.grown 0 in
        let more = opened_more (now 0) others.0 in
        let then_ : Contains (openings (log_of w 0)) o = subst (λ (os : List Opening). Contains os o) (sym (ap openings others.1 ∙ more.1))
        (contained_among (openings (now 0) ++ more.0) o (among_more (openings (now 0)) more.0 o at)) in
        sym (open_told i (engine_prefix o.number now) (engine_prefix o.number (engine_prefix n (log_of w)))
        (told_then i now (engine_prefix n (log_of w)) o.number v.told))
        ∙ ap (open_addresses i) (prefix_of i w is.mount n within o.number (omega arith)) ∙ full_at o then_
      where
        no_more : (m : ℕ) (xs ys : List Logged) → ys ≡ take m xs → length ys ≤ m
        no_more m xs ys e = let count : length ys ≡ length (take m xs) = ap length e in omega (arith, length-take m xs)

    -- ---- at rest

    module _ (left : HasNumbersLeft i.shape (take n (log_of w 0))) (asked : ℕ) (rest : IsResting i (logs_at n (log_of w)) asked) where
      reset : AreReset i (log_of (world_at i w n is.mount.legal within).world)
      reset = (no_work_told i now (logs_at n (log_of w)) told asked rest.no_work).no_reset

      pub resting : IsRestingMount i (world_at i w n is.mount.legal within).world asked
      resting = record {
        mount = mount_v;
        none_lost = none_lost;
        full = full;
        wide = wide;
        resting = record {
          no_work = no_work_told i now (logs_at n (log_of w)) told asked rest.no_work;
          stripes = subst (λ (xs : List Logged). (p : Placed) → Contains (placements xs) p → is_answered xs p ≡ true) told.own rest.stripes;
          resets = λ unit number. all_noted i (world_at i w n is.mount.legal within).world mount_v b.0 begins unit number reset;
          none_to_free = λ line may. rest.none_to_free line (may_free_told i now (logs_at n (log_of w)) told line
              (λ o is_open r written. inr (written_then i w is.mount n some within line o is_open r written)) may);
        };
        beginning = left.beginning;
        begins = ap begun v.own ∙ left.begins;
        seq_number = subst (λ (xs : List Logged). left.beginning.beginning.seq + length (openings xs) < 2 ^ 61) (sym v.own) left.seq_number;
        front_number = subst (λ (xs : List Logged). synced i.shape xs < 2 ^ 61) (sym v.own) left.front_number;
      }

    module _ (left : HasNumbersLeft i.shape (take n (log_of w 0))) (asked : ℕ) (rest : IsResting i (logs_at n (log_of w)) asked)
        (roomy : HasRoom i (log_of w)) where
      address : length (waiting i.shape (log_of (world_at i w n is.mount.legal within).world 0))
          < addresses i (log_of (world_at i w n is.mount.legal within).world)
      address =
          let there : length (waiting i.shape (take n (log_of w 0))) < addresses i (logs_at n (log_of w)) =
          roomy.each n some within rest.no_work.no_reset in
          let same : addresses i (logs_at n (log_of w)) ≡ addresses i now = addresses_told i now (logs_at n (log_of w)) told in
          let few : length (waiting i.shape (now 0)) ≡ length (waiting i.shape (take n (log_of w 0))) =
          ap (λ (xs : List Logged). length (waiting i.shape xs)) v.own in
          omega arith

      some_address : 0 < addresses i (log_of (world_at i w n is.mount.legal within).world)
      some_address = above (length (waiting i.shape (now 0))) (addresses i now) address
        where
          above : (x y : ℕ) → x < y → 0 < y
          above x y e = omega arith

      -- what was asked for is synced
      pub synced_then : asked ≤ taken (take n (log_of w 0)) → asked ≤ synced i.shape (take n (log_of w 0))
      synced_then low =
          subst (λ (xs : List Logged). asked ≤ synced i.shape xs) v.own
          (target_synced i (world_at i w n is.mount.legal within).world asked
          (still i (world_at i w n is.mount.legal within).world asked (resting left asked rest)) asked some_address below_target
          (subst (λ (xs : List Logged). asked ≤ taken xs) (sym v.own) low))
        where
          below_target : asked ≤ pad_target i (log_of (world_at i w n is.mount.legal within).world) asked
          below_target = omega arith

      position_then : (k : ℕ) → taken (take n (log_of w 0)) + k ≤ position_limit (take n (log_of w 0))
          → taken (log_of (world_at i w n is.mount.legal within).world 0) + k ≤ position_limit (log_of (world_at i w n is.mount.legal within).world 0)
      position_then k = subst (λ (xs : List Logged). taken xs + k ≤ position_limit xs) (sym v.own)

      pub room_then : taken (take n (log_of w 0)) + 16 ≤ position_limit (take n (log_of w 0))
          → taken (take n (log_of w 0)) + 16 ≤ room i (logs_at n (log_of w))
      room_then far =
          let positions : taken (now 0) + 16 ≤ position_limit (now 0) = position_then 16 far in
          let has : taken (now 0) + 16 ≤ room i now =
          has_room i (world_at i w n is.mount.legal within).world asked (resting left asked rest) four
          (lower (taken (now 0)) (position_limit (now 0)) 16 (omega arith) positions) address positions in
          let same : room i (logs_at n (log_of w)) ≡ room i now = room_told i now (logs_at n (log_of w)) told in
          let front : taken (now 0) ≡ taken (take n (log_of w 0)) = ap taken v.own in
          omega arith

      pub not_due_then : taken (take n (log_of w 0)) < position_limit (take n (log_of w 0)) → is_due i (engine_prefix n (log_of w)) ≡ false
      not_due_then far = due_told i now (engine_prefix n (log_of w)) v.told
          ∙ not_due i (world_at i w n is.mount.legal within).world asked (resting left asked rest) four
          (subst (λ (xs : List Logged). taken xs < position_limit xs) (sym v.own) far) address

-- ---- no refusal

pub no_worn_flush : (i : Image) (w : World) (n wanted have : ℕ) → IsTidyMount i w → HasRoom i (log_of w) → HasNumbersLeft i.shape (take n (log_of w 0))
    → ¬ IsWornFlush i (log_of w) n wanted have
no_worn_flush i w n wanted have is roomy left worn =
    let enough : wanted ≤ synced i.shape (take n (log_of w 0)) =
    synced_then i w is n worn.at_rest.has_begun worn.at_rest.within left wanted worn.at_rest.resting roomy worn.all_taken in
    let short : have < wanted = worn.above in
    let at : have ≡ synced i.shape (take n (log_of w 0)) = worn.is_synced in
    omega arith

pub no_worn_write : (i : Image) (w : World) (n count wanted have : ℕ) → IsTidyMount i w → HasRoom i (log_of w)
    → HasNumbersLeft i.shape (take n (log_of w 0)) → taken (take n (log_of w 0)) + 16 ≤ position_limit (take n (log_of w 0)) → count ≤ 16
    → ¬ IsWornWrite i (log_of w) n count wanted have
no_worn_write i w n count wanted have is roomy left far few worn =
    let enough : taken (take n (log_of w 0)) + 16 ≤ room i (logs_at n (log_of w)) =
    room_then i w is n worn.at_rest.has_begun worn.at_rest.within left 0 worn.at_rest.resting roomy far in
    let short : have < wanted = worn.above in
    let less : room i (logs_at n (log_of w)) ≤ have = worn.room in
    let own : wanted ≤ taken (take n (log_of w 0)) + count = worn.own_count in
    omega arith

pub due_over : (i : Image) (w : World) (n asked : ℕ) → IsTidyMount i w → HasRoom i (log_of w) → HasNumbersLeft i.shape (take n (log_of w 0))
    → taken (take n (log_of w 0)) < position_limit (take n (log_of w 0)) → IsAtRest i (log_of w) asked n
    → is_due i (engine_prefix n (log_of w)) ≡ false
due_over i w n asked is roomy left far rest = not_due_then i w is n rest.has_begun rest.within left asked rest.resting roomy far

-- ---- numbers that are left were left before

pub left_before : (s : Shape) (log : List Logged) (n : ℕ) → 0 < n → HasNumbersLeft s log → HasNumbersLeft s (take n log)
left_before s log n some left = record {
  beginning = left.beginning;
  begins = begun_taken n log some ∙ left.begins;
  seq_number = seq;
  front_number = front;
}
  where
    parts : take n log ++ drop n log ≡ log
    parts = take_and_drop n log

    seq : left.beginning.beginning.seq + length (openings (take n log)) < 2 ^ 61
    seq =
        let more = opened_more (take n log) (drop n log) in
        let count : length (openings log) ≡ length (openings (take n log)) + length more.0 =
        ap (λ (xs : List Logged). length (openings xs)) (sym parts) ∙ ap (λ (os : List Opening). length os) more.1
        ∙ length-append (openings (take n log)) more.0 in
        let number : left.beginning.beginning.seq + length (openings log) < 2 ^ 61 = left.seq_number in
        omega arith

    front : synced s (take n log) < 2 ^ 61
    front =
        let grown : synced s (take n log) ≤ synced s (take n log ++ drop n log) = synced_later s (take n log) (drop n log) in
        let whole : synced s (take n log ++ drop n log) ≡ synced s log = ap (synced s) parts in
        let number : synced s log < 2 ^ 61 = left.front_number in
        omega arith

pub positions_before : (log : List Logged) (n k : ℕ) → 0 < n → taken log + k ≤ position_limit log → taken (take n log) + k ≤ position_limit (take n log)
positions_before log n k some left =
    let first : first_position (take n log) ≡ first_position log =
    ap (λ (x : Option Begun). option_map_or (λ (b : Begun). b.beginning.first) x 0) (begun_taken n log some) in
    let limit : position_limit (take n log) ≡ position_limit log = ap (λ m. max (2 ^ 61 - 2) m) first in
    let count : length (takes log) ≡ length (takes (take n log)) + length (takes (drop n log)) =
    ap (λ (xs : List Logged). length (takes xs)) (sym (take_and_drop n log)) ∙ ap (λ (ts : List Taken). length ts) (takes_joined (take n log) (drop n log))
    ∙ length-append (takes (take n log)) (takes (drop n log)) in
    omega arith
