-- Where nothing more is written to an opened line, by what the engine was told, each of its stripes
-- was answered.
use Rattle.std.proofs.Common.{◌≡◌, ◌⊎◌, inl, inr, ℕ, ◌+◌, ◌*◌, ◌<◌, ◌≤◌, ◌==◌, nat_lt, Bool, true, false, cond, Some, None, Option, List, [], ◌∷◌, ◌++◌, length, take, drop, refl, sym, subst, ap, ◌∙◌, arith, length-append}
use Rattle.std.specs.Prelude.{slice_get}
use Rattle.std.specs.List.{AllByRecursion, Contains, filter, filter_map, find, list_any}
use Rattle.std.specs.Option.{is_some, option_and_then}
use Rattle.std.proofs.lemmas.Bool.{cases_order}
use Rattle.std.proofs.Math.Nat.{mul-le-mul_right}
use Rattle.std.proofs.Math.Seq.{take-length}
use Rattle.pblk_model.specs.declared.chunk.ChunkState.{ChunkState}
use Rattle.pblk_model.specs.declared.chunk.ChunkState.TheVariants as states
use Rattle.pblk_model.specs.Chunk.{Chunk}
use Rattle.pblk_model.specs.LineOrder.{block_of, column_of}
use Rattle.pblk_model.specs.Image.{Image, is_online_in, line_chunks, line_units, width}
use Rattle.pblk_laws.specs.LineBlocks.{chunk_in}
use Rattle.pblk_laws.proofs.LineUnits.{line_units_chunks, line_units_count}
use Rattle.pblk_world.specs.Events.{Logged}
use Rattle.pblk_world.specs.World.{World, Logs, log_of, media}
use Rattle.pblk_world.specs.EngineLog.{Answer, answer_of, answers, Begun, begun, is_answered, is_life, is_loss, life_of, Opened, Opening, Placed, placed_on, placements, stripes_of, stripes_on, turn, was_lost}
use Rattle.pblk_world.specs.Lines.{are_over, is_over_state, known_image}
use Rattle.pblk_world.specs.Placing.{IsNext, MayPlace, next_block}
use Rattle.pblk_world.specs.Victims.{engine_prefix}
use Rattle.pblk_world.proofs.EngineLogLemmas.{begun_knows}
use Rattle.pblk_world.proofs.LinesLemmas.{length_known}
use Rattle.pblk_world.proofs.VictimsLemmas.{whole_prefix}
use Rattle.pblk_model.proofs.Lists.{IsAmong, among_contained}
use Rattle.pblk_model.proofs.Maps.{all_filter, all_passed, any_found, any_member, filter_both, filters_swap, found_passes, from_filter, in_filter}
use Rattle.pblk_model.proofs.Options.{mapped_some, some_value, split_then}
use Rattle.pblk_model.proofs.Parts.{all_at, all_by_get, contained_among, get_below, get_whole_within, got_within, none_past, take_and_drop}
use Rattle.pblk_model.proofs.Tests.{either_false, lt_true, not_both, same_number}
use Rattle.pblk_world.specs.LegalMounts.{IsLegalMount}
use Rattle.world_laws.proofs.Later.{answer_later, placed_within}
use Rattle.world_laws.proofs.LifePlaces.{HasPlace, began, has_place, units_now}
use Rattle.world_laws.proofs.LifeUnits.{chunk_known}
use Rattle.world_laws.proofs.LineBlocks.{IsLineOf, opened_line}
use Rattle.world_laws.proofs.LineStripes.{IsKind, stripe_kind}
use Rattle.world_laws.proofs.Openings.{placed_at}
use Rattle.world_laws.proofs.StripePlaces.{kth_place}
use Rattle.world_laws.proofs.Stripes.{IsPlaced, placed_is, stripe_is, stripe_of_prefix}
use Rattle.world_laws.proofs.UnitTurns.{earlier_placed, lesser, rise_all, some_rise, turn_is}
use Rattle.core_laws.specs.ChunkBlocks.{NoneLostIn}
use Rattle.core_laws.specs.PlacerOf.{unanswered_on}
use Rattle.core_laws.proofs.Answered.{IsFirst, first_unanswered}
use Rattle.core_laws.proofs.AnsweredUnits.{first_answer}
use Rattle.core_laws.proofs.LandedOn.{landed_on}
use Rattle.core_laws.proofs.KnownFilling.{HasLoss, IsFilled, filled_now}
use Rattle.core_laws.proofs.OpeningNumbers.{life_at}
use Rattle.core_laws.proofs.OverChunks.{known_there}
use Rattle.core_laws.proofs.OverLines.{over_chunk}
use Rattle.core_laws.proofs.PlacedAnew.{one_number}
use Rattle.core_laws.proofs.StripeEnds.{below_end, of_unit}
use Rattle.core_laws.proofs.UnansweredLines.{first_open}

-- ---- lists

-- those that pass among the first ones pass among those that are less than another
few_before : (ps : List Placed) (f : Placed → Bool) (n number : ℕ) → AllByRecursion (λ (q : Placed). q.number < number) (take n ps)
    → length (filter f (take n ps)) ≤ length (filter (λ (q : Placed). nat_lt q.number number) (filter f ps))
few_before ps f n number below =
    let less : Placed → Bool = λ q. nat_lt q.number number in
    let first : filter less (filter f (take n ps)) ≡ filter f (take n ps) =
    kept (filter f (take n ps)) (all_filter (λ (q : Placed). q.number < number) f (take n ps) below) in
    let parts : filter less (filter f ps) ≡ filter less (filter f (take n ps)) ++ filter less (filter f (drop n ps)) =
    ap (λ qs. filter less (filter f qs)) (sym (take_and_drop n ps)) ∙ ap (filter less) (filter_both f (take n ps) (drop n ps))
    ∙ filter_both less (filter f (take n ps)) (filter f (drop n ps)) in
    let count : length (filter less (filter f ps)) ≡ length (filter less (filter f (take n ps))) + length (filter less (filter f (drop n ps))) =
    ap length parts ∙ length-append (filter less (filter f (take n ps))) (filter less (filter f (drop n ps))) in
    let same : length (filter less (filter f (take n ps))) ≡ length (filter f (take n ps)) = ap length first in
    omega arith
  where
    kept : (qs : List Placed) → AllByRecursion (λ (q : Placed). q.number < number) qs → filter (λ (q : Placed). nat_lt q.number number) qs ≡ qs
    kept [] h = refl
    kept (q ∷ qs) h = ap (λ b. cond b (q ∷ filter (λ (r : Placed). nat_lt r.number number) qs) (filter (λ (r : Placed). nat_lt r.number number) qs))
        (lt_true q.number number h.0) ∙ ap (λ rs. q ∷ rs) (kept qs h.1)

module _ (i : Image) (w : World) (mount : IsLegalMount i w) (o : Opening) (is_open : life_of (log_of w 0) o.line ≡ Opened o) where
  abbrev log : List Logged
  log = log_of w 0

  line_is : IsLineOf i w o
  line_is = opened_line i w mount o is_open

  -- ---- a stripe that isn't answered

  module _ (p : Placed) (of_opening : Contains (stripes_of (log_of w 0) o) p) (waits : is_answered (log_of w 0) p ≡ false) where
    abbrev unit : ℕ
    unit = p.stripe.unit

    its : Contains (placements (log_of w 0)) p
    its = (stripe_is i w o p mount.legal line_is.opened of_opening).0

    may_of : (q : Placed) → Contains (placements (log_of w 0)) q → MayPlace i (engine_prefix q.number (log_of w)) q.stripe
    may_of q there = let placed : IsPlaced log q = placed_is log q there in
        placed_at i w q.number q.stripe placed.logged mount.legal placed.there placed.event

    -- one that was placed before another on its unit was answered when that was placed
    answered_then : (q r : Placed) → Contains (stripes_of (log_of w 0) o) q → Contains (placements (log_of w 0)) r → q.stripe.unit ≡ r.stripe.unit
        → q.number < r.number → is_answered (take r.number (log_of w 0)) q ≡ true
    answered_then q r mine there same before =
        let test : Placed → Bool = λ x. is_life o.number x.life in
        let at : IsAmong (placements (take r.number log)) q = from_filter test (placements (take r.number log)) q
        (among_contained (stripes_of (take r.number log) o) q (stripe_of_prefix log r.number o q mine before)) in
        (may_of r there).idle q (contained_among (placed_on (take r.number log) r.stripe.unit) q
        (in_filter (λ (x : Placed). x.stripe.unit == r.stripe.unit) (placements (take r.number log)) q at (ap (λ u. u == r.stripe.unit) same
        ∙ same_number r.stripe.unit)))

    within_then : (q : Placed) (n : ℕ) → Contains (stripes_of (log_of w 0) o) q → q.number < n → q.number < length (take n (log_of w 0))
    within_then q n mine before = placed_within (take n log) q (contained_among (placements (take n log)) q
        (from_filter (λ x. is_life o.number x.life) (placements (take n log)) q
        (among_contained (stripes_of (take n log) o) q (stripe_of_prefix log n o q mine before))))

    answer_kept : (q : Placed) (n : ℕ) (a : Answer) → Contains (stripes_of (log_of w 0) o) q → q.number < n → answer_of (take n (log_of w 0)) q ≡ Some a
        → answer_of (log_of w 0) q ≡ Some a
    answer_kept q n a mine before is = subst (λ (xs : List Logged). answer_of xs q ≡ Some a) (take_and_drop n log)
        (answer_later (take n log) (drop n log) q a (within_then q n mine before) is)

    -- no stripe is placed on the unit behind it
    none_behind : (q : Placed) → IsAmong (stripes_on (log_of w 0) o p.stripe.unit) q → p.number < q.number → ⊥
    none_behind q at after =
        let mine = of_unit i w mount o is_open unit q at in
        let there : Contains (placements log) q = (stripe_is i w o q mount.legal line_is.opened mine.0).0 in
        let answered = some_value (answer_of (take q.number log) p) (answered_then p q of_opening there (sym mine.1) after) in
        not_both (is_answered log p) (ap is_some (answer_kept p q.number answered.0 of_opening after answered.1)) waits

    -- and none there was lost
    none_lost : (q : Placed) → IsAmong (stripes_on (log_of w 0) o p.stripe.unit) q → was_lost (log_of w 0) q ≡ true → ⊥
    none_lost q at lost = order (cases_order q.number p.number)
      where
        mine : Contains (stripes_of (log_of w 0) o) q × (q.stripe.unit ≡ p.stripe.unit)
        mine = of_unit i w mount o is_open unit q at

        order : (q.number ≡ p.number) ⊎ ((q.number < p.number) ⊎ (p.number < q.number)) → ⊥
        order (inl same) =
            let one : q ≡ p = one_number i w mount q p (stripe_is i w o q mount.legal line_is.opened mine.0).0 its same in
            by_answer (answer_of log p) refl (ap (was_lost log) (sym one) ∙ lost) waits
          where
            by_answer : (a : Option Answer) → answer_of (log_of w 0) p ≡ a → is_loss a ≡ true → is_some a ≡ false → ⊥
            by_answer None e h k = absurd cc
            by_answer (Some a) e h k = absurd cc
        order (inr (inr after)) = none_behind q at after
        order (inr (inl before)) = by_kind (stripe_kind i w o p mount.legal line_is.opened of_opening)
          where
            answered : (a : Answer) × (answer_of (take p.number (log_of w 0)) q ≡ Some a)
            answered = some_value (answer_of (take p.number log) q) (answered_then q p mine.0 its mine.1 before)

            then_lost : was_lost (take p.number (log_of w 0)) q ≡ true
            then_lost = ap is_loss answered.1 ∙ ap is_loss (sym (answer_kept q p.number answered.0 mine.0 before answered.1)) ∙ lost

            in_then : IsAmong (stripes_of (take p.number (log_of w 0)) o) q
            in_then = among_contained (stripes_of (take p.number log) o) q (stripe_of_prefix log p.number o q mine.0 before)

            in_order : IsNext i (engine_prefix p.number (log_of w)) o p.stripe → ⊥
            in_order x = not_both (list_any (was_lost (take p.number log)) (stripes_of (take p.number log) o))
                (any_member (was_lost (take p.number log)) (stripes_of (take p.number log) o) in_then.0 q in_then.1 then_lost) x.not_failed

            by_kind : IsKind i (engine_prefix p.number (log_of w)) o p.stripe → ⊥
            by_kind (inl x) = in_order x.next
            by_kind (inr (inl x)) = in_order x.next
            by_kind (inr (inr (inl x))) = in_order x.next
            by_kind (inr (inr (inr x))) =
                let none = either_false (list_any (was_lost (take p.number log)) (stripes_on (take p.number log) o unit))
                (next_block i.shape (take p.number log) o unit == i.shape.clba) x.chunk_left in
                let there : IsAmong (stripes_on (take p.number log) o unit) q =
                in_filter (λ (y : Placed). y.stripe.unit == unit) (stripes_of (take p.number log) o) q in_then
                (ap (λ u. u == unit) mine.1 ∙ same_number unit) in
                not_both (list_any (was_lost (take p.number log)) (stripes_on (take p.number log) o unit))
                (any_member (was_lost (take p.number log)) (stripes_on (take p.number log) o unit) there.0 q there.1 then_lost) none.0

    pub no_loss : HasLoss (log_of w 0) o p.stripe.unit → ⊥
    no_loss h =
        let found = some_value (find (was_lost log) (stripes_on log o unit)) (sym (any_found (was_lost log) (stripes_on log o unit)) ∙ h) in
        let passes = found_passes (was_lost log) (stripes_on log o unit) found.0 found.1 in
        none_lost found.0 passes.1 passes.0

    -- ---- its place

    its_turn : IsAmong (stripes_on (log_of w 0) o p.stripe.unit) p
    its_turn = in_filter (λ (q : Placed). q.stripe.unit == unit) (stripes_of log o) p (among_contained (stripes_of log o) p of_opening) (same_number unit)

    place : p.stripe.at ≡ its_turn.0 * i.shape.ws_opt
    place = kth_place i w o unit its_turn.0 p mount line_is.opened its_turn.1

    -- the answered ones there are before it
    few_answered : length (landed_on (log_of w 0) o p.stripe.unit) ≤ its_turn.0
    few_answered =
        let f : Placed → Bool = λ q. is_life o.number q.life in
        let here : IsAmong (placed_on log unit) p =
        in_filter (λ (q : Placed). q.stripe.unit == unit) (placements log) p (among_contained (placements log) p its) (same_number unit) in
        let turn_here : turn log p ≡ here.0 = turn_is log unit here.0 p here.1 in
        let few : length (answers log unit) ≤ here.0 = none_past (answers log unit) here.0 (none_there (ap (slice_get (answers log unit)) (sym turn_here))) in
        let below : AllByRecursion (λ (q : Placed). q.number < p.number) (take (length (answers log unit)) (placed_on log unit)) =
        all_by_get (λ (q : Placed). q.number < p.number) (take (length (answers log unit)) (placed_on log unit)) (λ k q at.
        let whole = get_whole_within (length (answers log unit)) (placed_on log unit) k q at in
        earlier_placed log unit k here.0 q p (let inside : k < length (answers log unit) = whole.1 in omega arith) whole.0 here.1) in
        let less = few_before (placed_on log unit) f (length (answers log unit)) p.number below in
        let swapped : filter f (placed_on log unit) ≡ stripes_on log o unit = filters_swap f (λ (q : Placed). q.stripe.unit == unit) (placements log) in
        let count : length (filter (λ (q : Placed). nat_lt q.number p.number) (filter f (placed_on log unit))) ≡ its_turn.0 =
        ap (λ qs. length (filter (λ (q : Placed). nat_lt q.number p.number) qs)) swapped
        ∙ lesser (stripes_on log o unit) its_turn.0 p (some_rise (λ (q : Placed). q.stripe.unit == unit) (stripes_of log o)
        (some_rise f (placements log) (rise_all log))) its_turn.1 in
        omega arith
      where
        none_there : {x : Option Answer} → x ≡ answer_of (log_of w 0) p → x ≡ None
        none_there {x} same = same ∙ go (answer_of (log_of w 0) p) refl waits
          where
            go : (a : Option Answer) → answer_of (log_of w 0) p ≡ a → is_some a ≡ false → answer_of (log_of w 0) p ≡ None
            go None e h = e
            go (Some a) e h = absurd cc

    below : p.stripe.at < i.shape.clba
    below = below_end i w mount o is_open unit its_turn.0 p its_turn.1

    -- ---- its chunk

    abbrev b : (x : Begun) × (begun (log_of w 0) ≡ Some x)
    b = began i w o.line o mount.legal is_open

    not_closed : (c : Chunk) → chunk_in (known_image i (log_of w)) o.line p.stripe.unit ≡ Some c → c.state ≡ states.Closed → ⊥
    not_closed c is_known closed =
        let its_units = split_then (λ (cs : List Chunk). slice_get cs o.line) (slice_get (known_image i (log_of w)).units unit) c is_known in
        let inside : unit < length (known_image i (log_of w)).units = get_below (known_image i (log_of w)).units unit its_units.0 its_units.1 in
        let count : length (known_image i (log_of w)).units ≡ length i.units = length_known i (log_of w) in
        let has = got_within i.units unit (omega arith) in
        let some : 0 < length log = begun_knows (length log) log b.0 (ap begun (take-length log) ∙ b.1) in
        let filled : IsFilled i.shape log o unit c = filled_now i w mount o is_open unit has.0 has.1 c
        (sym (chunk_known i w mount.legal b.0 b.1 unit o.line has.0 has.1 (length log) some)
        ∙ ap (λ (logs : Logs). chunk_in (known_image i logs) o.line unit) (whole_prefix (log_of w)) ∙ is_known) in
        by (filled.closed closed) filled.blocks
      where
        by : (i.shape.clba ≤ length c.blocks) ⊎ HasLoss (log_of w 0) o p.stripe.unit
            → length c.blocks ≤ length (landed_on (log_of w 0) o p.stripe.unit) * i.shape.ws_opt → ⊥
        by (inr loss) few = no_loss loss
        by (inl full) few =
            let rows : length (landed_on log o unit) * i.shape.ws_opt ≤ its_turn.0 * i.shape.ws_opt = mul-le-mul_right i.shape.ws_opt few_answered in
            let low : p.stripe.at < i.shape.clba = below in
            let at : p.stripe.at ≡ its_turn.0 * i.shape.ws_opt = place in
            absurd (omega arith)

    -- it is one of the line's chunks
    pub not_over : are_over i (log_of w) o.line ≡ true → ⊥
    not_over over =
        let now_image : Image = media i (log_of w) in
        let known : Image = known_image i (log_of w) in
        let at : HasPlace i w mount.accepted mount.legal o p is_open of_opening = has_place i w mount.accepted mount.legal o p is_open of_opening in
        let column : ℕ = column_of i.shape (width now_image o.line) at.first in
        let parts = mapped_some (slice_get (line_units now_image o.line) column)
        (block_of i.shape (width now_image o.line) at.first) unit p.stripe.at at.place in
        let inside : column < length (line_units now_image o.line) = get_below (line_units now_image o.line) column unit parts.0 in
        let wide : length (line_units now_image o.line) ≡ length (line_chunks now_image o.line) = line_units_count now_image o.line in
        let d = got_within (line_chunks now_image o.line) column (omega arith) in
        let there : chunk_in now_image o.line unit ≡ Some d.0 =
        ap (option_and_then (chunk_in now_image o.line)) (sym parts.0) ∙ sym (line_units_chunks now_image o.line column) ∙ d.1 in
        let c = known_there i w mount o.line o is_open unit d.0 there in
        let units : slice_get (line_units known o.line) column ≡ Some unit =
        ap (λ us. slice_get us column) (units_now i w mount o is_open) ∙ parts.0 in
        let chunk : slice_get (line_chunks known o.line) column ≡ Some c.0 =
        line_units_chunks known o.line column ∙ ap (option_and_then (chunk_in known o.line)) units ∙ c.1 in
        let online : is_online_in c.0.state ≡ true =
        all_at (λ (x : Chunk). is_online_in x.state ≡ true) (line_chunks known o.line) column c.0 chunk
        (all_passed (λ (x : Chunk). is_online_in x.state) (filter_map (λ u. slice_get u o.line) known.units)) in
        not_closed c.0 c.1 (closed c.0.state (over_chunk i w mount o is_open over unit c.0 c.1) online)
      where
        closed : (state : ChunkState) → is_over_state false state ≡ true → is_online_in state ≡ true → state ≡ states.Closed
        closed states.Free a b = absurd cc
        closed states.Open a b = absurd cc
        closed states.Closed a b = refl
        closed states.Offline a b = absurd cc

  pub over_answered : are_over i (log_of w) o.line ≡ true → (p : Placed) → Contains (stripes_of (log_of w 0) o) p → is_answered (log_of w 0) p ≡ true
  over_answered over p there = go (is_answered log p) refl
    where
      go : (t : Bool) → is_answered (log_of w 0) p ≡ t → is_answered (log_of w 0) p ≡ true
      go true e = e
      go false e = absurd (not_over p there e over)

-- no stripe was lost in the chunk of one that isn't answered
pub none_lost_there : (i : Image) (w : World) (unit : ℕ) (p : Placed) (o : Opening) → IsLegalMount i w → unanswered_on (log_of w 0) unit ≡ Some p
    → p.life ≡ Opened o → NoneLostIn (log_of w 0) o unit
none_lost_there i w unit p o mount waits life = go (list_any (was_lost (log_of w 0)) (stripes_on (log_of w 0) o unit)) refl
  where
    first : IsFirst (log_of w 0) unit p
    first = first_unanswered (log_of w 0) unit p waits

    there : Contains (placements (log_of w 0)) p
    there = contained_among (placements (log_of w 0)) p first.among

    opened : life_of (log_of w 0) p.stripe.line ≡ Opened o
    opened = first_open i w unit p mount.legal waits ∙ life

    line : o.line ≡ p.stripe.line
    line = (life_at (log_of w 0) p.stripe.line o opened).1

    is_open : life_of (log_of w 0) o.line ≡ Opened o
    is_open = ap (life_of (log_of w 0)) line ∙ opened

    of_opening : Contains (stripes_of (log_of w 0) o) p
    of_opening = contained_among (stripes_of (log_of w 0) o) p
        (in_filter (λ (q : Placed). is_life o.number q.life) (placements (log_of w 0)) p first.among (ap (is_life o.number) life ∙ same_number o.number))

    go : (b : Bool) → list_any (was_lost (log_of w 0)) (stripes_on (log_of w 0) o unit) ≡ b → b ≡ false
    go false e = refl
    go true e = absurd (no_loss i w mount o is_open p of_opening (ap is_some (first_answer (log_of w 0) unit p waits))
        (subst (λ u. HasLoss (log_of w 0) o u) (sym first.of_unit) e))
