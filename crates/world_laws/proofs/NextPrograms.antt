-- The program that comes next on a unit is taken by its chunk, unless the unit was stopped: the
-- stripe stands at the chunk's pointer.
use Rattle.std.proofs.Common.{◌≡◌, ℕ, ◌+◌, ◌*◌, ◌/◌, ◌%◌, ◌<◌, ◌≤◌, ◌⊎◌, inl, inr, ◌==◌, ◌||◌, not, nat_lt, zero, suc, Bool, true, false, Some, None, Option, List, length, take, drop, refl, sym, subst, ap, ap₂, ◌∙◌, arith, if◌then◌else◌}
use Rattle.std.specs.Prelude.{slice_get}
use Rattle.std.specs.List.{Contains, filter, filter_map, list_any}
use Rattle.std.specs.Option.{is_some, option_and_then}
use Rattle.std.proofs.lemmas.Bool.{cases_lt, cases_order, eqb-true}
use Rattle.std.proofs.lemmas.List.Elements.{filter-append}
use Rattle.std.proofs.lemmas.Option.{same_Some}
use Rattle.std.proofs.Math.Nat.{div-add-mod}
use Rattle.pblk_model.specs.declared.shape.Shape.{Shape}
use Rattle.pblk_model.specs.declared.chunk.ChunkErr.TheVariants as errors
use Rattle.pblk_model.specs.declared.chunk.ChunkState.{ChunkState}
use Rattle.pblk_model.specs.declared.chunk.ChunkState.TheVariants as states
use Rattle.pblk_model.specs.Chunk.{Chunk, pointer}
use Rattle.pblk_model.specs.ChunkStep.{Write, place_refusal, refusal, write_refusal_in}
use Rattle.pblk_model.specs.LineOrder.{block_of, column_of, data_len, end_len, start_len}
use Rattle.pblk_model.specs.Image.{Image, is_online_in, line_chunks, line_units, width}
use Rattle.pblk_model.proofs.ChunkLemmas.{pointer_within}
use Rattle.pblk_model.proofs.LineOrder.{block_below}
use Rattle.pblk_model.proofs.LineOrderLemmas.{whole_line}
use Rattle.pblk_laws.specs.LineBlocks.{chunk_in}
use Rattle.pblk_laws.proofs.LineUnits.{line_units_chunks}
use Rattle.pblk_world.specs.Events.{Logged}
use Rattle.pblk_world.specs.World.{World, log_of, media, unit_events}
use Rattle.pblk_world.specs.EngineLog.{Answer, DidLand, WasLost, answer_of, has_landed, is_answered, is_land, is_life, is_loss, last_opening, life_of, Opened, Opening, Placed, placed_on, placements, stripes_of, stripes_on, was_lost}
use Rattle.pblk_world.specs.Commanding.{ended_stripes, has_stopped}
use Rattle.pblk_world.specs.Lines.{is_empty_state, place_of}
use Rattle.pblk_world.specs.Placing.{IsNext, MayPlace, end_address, next_block}
use Rattle.pblk_world.specs.Victims.{engine_prefix}
use Rattle.pblk_model.proofs.Lists.{IsAmong, among_contained}
use Rattle.pblk_model.proofs.Maps.{all_passed, any_member, from_filter, in_filter}
use Rattle.pblk_model.proofs.Numbers.{some_units}
use Rattle.pblk_model.proofs.Options.{mapped_some}
use Rattle.pblk_model.proofs.Parts.{all_at, contained_among, get_more, got_within, take_and_drop}
use Rattle.pblk_model.proofs.Tests.{either_false, not_before, not_both, other_number, same_number}
use Rattle.pblk_world.specs.LegalMounts.{IsLegalMount}
use Rattle.world_laws.proofs.Later.{landed_later, placed_within}
use Rattle.world_laws.proofs.Stripes.{IsPlaced, life_of_stripe, placed_is, stripe_is}
use Rattle.world_laws.proofs.Lives.{life_is_known}
use Rattle.world_laws.proofs.Openings.{placed_at}
use Rattle.world_laws.specs.UnitChunks.{chunk_after}
use Rattle.world_laws.proofs.LifePlaces.{HasPlace, has_place}
use Rattle.world_laws.proofs.LineBlocks.{IsLandedProgram, IsLineOf, landed_program, opened_line}
use Rattle.world_laws.proofs.LineStarts.{in_order_at}
use Rattle.world_laws.proofs.LineStripes.{IsKind, IsSplit, before, next_fits, some_data, stripe_count, stripe_kind, stripes_split, turn_on_unit}
use Rattle.world_laws.proofs.MediaChunks.{chunk_of_media}
use Rattle.world_laws.proofs.Pending.{pending_is_open}
use Rattle.world_laws.proofs.StripePlaces.{kth_place}
use Rattle.world_laws.proofs.UnitTurns.{Rises, earlier_placed, rise_all, rise_between, some_rise, unit_is}
use Rattle.world_laws.proofs.ChunkPointers.{IsBehind, IsTurn, behind_last, fits_chunk, none_ended}

-- ---- a write at the pointer that fits is taken

taken_there : (s : Shape) (wp n : ℕ) → 0 < n → n % s.ws_min ≡ 0 → wp + n ≤ s.clba → place_refusal s wp wp n ≡ None
taken_there s wp n some whole fits =
    ap (λ t. if not t then Some errors.NotAtPointer else (if (n == 0) || not (n % s.ws_min == 0) then Some errors.NotMultiple
    else (if nat_lt s.clba (wp + n) then Some errors.PastEnd else None))) (same_number wp)
    ∙ ap₂ (λ t m. if t || not (m == 0) then Some errors.NotMultiple else (if nat_lt s.clba (wp + n) then Some errors.PastEnd else None))
    (other_number n 0 (λ e. absurd (omega arith))) whole
    ∙ ap (λ t. if t then Some errors.PastEnd else None) (not_before s.clba (wp + n) fits)

write_taken : (s : Shape) (state : ChunkState) (wp n : ℕ) → (state ≡ states.Free) ⊎ (state ≡ states.Open) → 0 < n → n % s.ws_min ≡ 0 → wp + n ≤ s.clba
    → write_refusal_in s state wp wp n ≡ None
write_taken s state wp n (inl is) some whole fits = ap (λ x. write_refusal_in s x wp wp n) is ∙ taken_there s wp n some whole fits
write_taken s state wp n (inr is) some whole fits = ap (λ x. write_refusal_in s x wp wp n) is ∙ taken_there s wp n some whole fits

free_is : (state : ChunkState) → is_empty_state state ≡ true → is_online_in state ≡ true → state ≡ states.Free
free_is states.Free empty online = refl
free_is states.Open empty online = absurd cc
free_is states.Closed empty online = absurd cc
free_is states.Offline empty online = absurd cc

-- what is answered and wasn't lost has landed
pub landed_of_answered : (log : List Logged) (p : Placed) → is_answered log p ≡ true → was_lost log p ≡ false → has_landed log p ≡ true
landed_of_answered log p answered kept = go (answer_of log p) answered kept
  where
    go : (a : Option Answer) → is_some a ≡ true → is_loss a ≡ false → is_land a ≡ true
    go None some kept = absurd cc
    go (Some (DidLand number)) some kept = refl
    go (Some (WasLost number)) some kept = absurd cc

none_of : {X : Type 0} (f : X → Bool) (xs : List X) (k : ℕ) (x : X) → list_any f xs ≡ false → slice_get xs k ≡ Some x → f x ≡ false
none_of f xs k x none at = go (f x) refl
  where
    go : (t : Bool) → f x ≡ t → f x ≡ false
    go false e = e
    go true e = absurd (not_both (list_any f xs) (any_member f xs k x at e) none)

-- ---- the stripe that comes next

module _ (i : Image) (w : World) (mount : IsLegalMount i w) (o : Opening) (is_open : life_of (log_of w 0) o.line ≡ Opened o) (unit : ℕ) (p : Placed)
    (there : Contains (stripes_of (log_of w 0) o) p)
    (next : slice_get (placed_on (log_of w 0) unit) (ended_stripes (log_of w (suc unit))) ≡ Some p) where
  abbrev log : List Logged
  log = log_of w 0

  abbrev own : List Logged
  own = log_of w (suc unit)

  line : IsLineOf i w o
  line = opened_line i w mount o is_open

  on : p.stripe.unit ≡ unit
  on = unit_is log unit (ended_stripes own) p next

  -- those of the opening that were placed on the unit before
  abbrev ahead : List Placed
  ahead = stripes_on (take p.number (log_of w 0)) o unit

  still_ahead : (k : ℕ) (q : Placed) → slice_get (stripes_on (take p.number (log_of w 0)) o unit) k ≡ Some q
      → slice_get (stripes_on (log_of w 0) o unit) k ≡ Some q
  still_ahead k q at =
      let split : IsSplit log o p.number = stripes_split log o p.number in
      let test : Placed → Bool = λ z. z.stripe.unit == unit in
      ap (λ ps. slice_get ps k) (ap (filter test) split.parts ∙ filter-append test (stripes_of (take p.number log) o) split.more)
      ∙ get_more (filter test (stripes_of (take p.number log) o)) (filter test split.more) k q at

  its_turn : IsAmong (stripes_on (log_of w 0) o unit) p
  its_turn = in_filter (λ (z : Placed). z.stripe.unit == unit) (stripes_of log o) p (among_contained (stripes_of log o) p there)
      (ap (λ u. u == unit) on ∙ same_number unit)

  place : p.stripe.at ≡ length (stripes_on (take p.number (log_of w 0)) o unit) * i.shape.ws_opt
  place = kth_place i w o unit its_turn.0 p mount line.opened its_turn.1
      ∙ ap (λ n. n * i.shape.ws_opt) (sym (turn_on_unit log o unit its_turn.0 p its_turn.1))

  -- ---- they have landed

  kind : IsKind i (engine_prefix p.number (log_of w)) o p.stripe
  kind = stripe_kind i w o p mount.legal line.opened there

  none_lost : (k : ℕ) (q : Placed) → slice_get (stripes_on (take p.number (log_of w 0)) o unit) k ≡ Some q → was_lost (take p.number (log_of w 0)) q ≡ false
  none_lost k q at = go kind
    where
      in_all : IsAmong (stripes_of (take p.number log) o) q
      in_all = from_filter (λ (z : Placed). z.stripe.unit == unit) (stripes_of (take p.number log) o) q (k, at)

      in_order : IsNext i (engine_prefix p.number (log_of w)) o p.stripe → was_lost (take p.number log) q ≡ false
      in_order x = none_of (was_lost (take p.number log)) (stripes_of (take p.number log) o) in_all.0 q x.not_failed in_all.1

      go : IsKind i (engine_prefix p.number (log_of w)) o p.stripe → was_lost (take p.number log) q ≡ false
      go (inl x) = in_order x.next
      go (inr (inl x)) = in_order x.next
      go (inr (inr (inl x))) = in_order x.next
      go (inr (inr (inr x))) =
          let kept = either_false (list_any (was_lost (take p.number log)) (stripes_on (take p.number log) o p.stripe.unit))
          (next_block i.shape (take p.number log) o p.stripe.unit == i.shape.clba) x.chunk_left in
          none_of (was_lost (take p.number log)) (stripes_on (take p.number log) o unit) k q
          (ap (λ u. list_any (was_lost (take p.number log)) (stripes_on (take p.number log) o u)) (sym on) ∙ kept.0) at

  ahead_landed : (k : ℕ) (q : Placed) → slice_get (stripes_on (take p.number (log_of w 0)) o unit) k ≡ Some q → has_landed (log_of w 0) q ≡ true
  ahead_landed k q at =
      let n : ℕ = p.number in
      let is = stripe_is i w o p mount.legal line.opened there in
      let placed : IsPlaced log p = placed_is log p is.0 in
      let may : MayPlace i (engine_prefix p.number (log_of w)) p.stripe =
      placed_at i w p.number p.stripe placed.logged mount.legal placed.there placed.event in
      let of_opening : IsAmong (stripes_of (take n log) o) q = from_filter (λ (z : Placed). z.stripe.unit == unit) (stripes_of (take n log) o) q (k, at) in
      let among : IsAmong (placements (take n log)) q = from_filter (λ (z : Placed). is_life o.number z.life) (placements (take n log)) q of_opening in
      let its_unit : (q.stripe.unit == unit) ≡ true =
      all_at (λ (z : Placed). (z.stripe.unit == unit) ≡ true) (stripes_on (take n log) o unit) k q at
      (all_passed (λ (z : Placed). z.stripe.unit == unit) (stripes_of (take n log) o)) in
      let here : Contains (placed_on (take n log) unit) q =
      contained_among (placed_on (take n log) unit) q (in_filter (λ (z : Placed). z.stripe.unit == unit) (placements (take n log)) q among its_unit) in
      let answered : is_answered (take n log) q ≡ true = may.idle q (subst (λ u. Contains (placed_on (take n log) u) q) (sym on) here) in
      let landed : has_landed (take n log) q ≡ true = landed_of_answered (take n log) q answered (none_lost k q at) in
      subst (λ (xs : List Logged). has_landed xs q ≡ true) (take_and_drop n log)
      (landed_later (take n log) (drop n log) q (placed_within (take n log) q (contained_among (placements (take n log)) q among)) landed)

  -- ---- the chunk

  module _ (running : has_stopped (unit_events (log_of w) unit) ≡ false) (c : Chunk)
      (now : chunk_after i (log_of w) o.line unit (length (log_of w (suc unit))) ≡ Some c) where
    abbrev Turn : ℕ → Type 0
    Turn y = IsTurn i w mount o is_open unit running y

    -- a stripe whose turn is over was placed before
    turn_ahead : (y : ℕ) (e : IsTurn i w mount o is_open unit running y) → e.index < length (stripes_on (take p.number (log_of w 0)) o unit)
    turn_ahead y e = by (cases_order e.index its_turn.0) e.at
        (earlier_placed log unit (ended_stripes (take y own)) (ended_stripes own) e.placed p e.over e.in_order next)
        (turn_on_unit log o unit its_turn.0 p its_turn.1)
      where
        rise : Rises (stripes_on (log_of w 0) o unit)
        rise = some_rise (λ (z : Placed). z.stripe.unit == unit) (stripes_of log o)
            (some_rise (λ (z : Placed). is_life o.number z.life) (placements log) (rise_all log))

        by : {m : ℕ} {r : Placed} → (m ≡ its_turn.0) ⊎ ((m < its_turn.0) ⊎ (its_turn.0 < m)) → slice_get (stripes_on (log_of w 0) o unit) m ≡ Some r
            → r.number < p.number → length (stripes_on (take p.number (log_of w 0)) o unit) ≡ its_turn.0
            → m < length (stripes_on (take p.number (log_of w 0)) o unit)
        by {m} {r} (inl same) at early count =
            let one : r ≡ p = same_Some r p (sym at ∙ ap (slice_get (stripes_on log o unit)) same ∙ its_turn.1) in
            let number : r.number ≡ p.number = ap (λ (z : Placed). z.number) one in absurd (omega arith)
        by (inr (inl below)) at early count = omega arith
        by {m} {r} (inr (inr past)) at early count =
            let late : p.number < r.number = rise_between (stripes_on log o unit) its_turn.0 m p r rise past its_turn.1 at in absurd (omega arith)

    -- it is as the stripes before left it
    record IsReady : Type 0 where
      at : p.stripe.at ≡ pointer c
      state : p.stripe.at < i.shape.clba → (c.state ≡ states.Free) ⊎ (c.state ≡ states.Open)

    -- the unit is one of the line's
    is_online : is_online_in c.state ≡ true
    is_online =
        let now_image : Image = media i (log_of w) in
        let at : HasPlace i w mount.accepted mount.legal o p is_open there = has_place i w mount.accepted mount.legal o p is_open there in
        let column : ℕ = column_of i.shape (width now_image o.line) at.first in
        let parts = mapped_some (slice_get (line_units now_image o.line) column)
        (block_of i.shape (width now_image o.line) at.first) p.stripe.unit p.stripe.at at.place in
        let chunk : slice_get (line_chunks now_image o.line) column ≡ Some c =
        line_units_chunks now_image o.line column ∙ ap (option_and_then (chunk_in now_image o.line)) (parts.0 ∙ ap (λ u. Some u) on)
        ∙ chunk_of_media i (log_of w) o.line unit ∙ now in
        all_at (λ (x : Chunk). is_online_in x.state ≡ true) (line_chunks now_image o.line) column c chunk
        (all_passed (λ (x : Chunk). is_online_in x.state) (filter_map (λ u. slice_get u o.line) now_image.units))

    -- none was placed before
    first_there : length (stripes_on (take p.number (log_of w 0)) o unit) ≡ 0 → IsReady
    first_there none =
        let nothing = none_ended i w mount o is_open unit running c now (λ y e. let below : e.index < length ahead = turn_ahead y e in omega arith) in
        let begins : pointer c ≡ 0 = nothing.0 in record {
          at = place ∙ ap (λ n. n * i.shape.ws_opt) none ∙ (let zeros : 0 * i.shape.ws_opt ≡ pointer c = omega arith in zeros);
          state = λ below. inl (free_is c.state nothing.1 is_online);
        }

    -- some were
    behind : (k : ℕ) → length (stripes_on (take p.number (log_of w 0)) o unit) ≡ suc k → IsReady
    behind k count =
        let last = got_within ahead k (omega arith) in
        let its : slice_get (stripes_on log o unit) k ≡ Some last.0 = still_ahead k last.0 last.1 in
        let of_opening : Contains (stripes_of log o) last.0 =
        contained_among (stripes_of log o) last.0 (from_filter (λ (z : Placed). z.stripe.unit == unit) (stripes_of log o) last.0 (k, its)) in
        let its_unit : last.0.stripe.unit ≡ unit = eqb-true last.0.stripe.unit unit
        (all_at (λ (z : Placed). (z.stripe.unit == unit) ≡ true) (stripes_on log o unit) k last.0 its
        (all_passed (λ (z : Placed). z.stripe.unit == unit) (stripes_of log o))) in
        let is = stripe_is i w o last.0 mount.legal line.opened of_opening in
        let x : IsLandedProgram w last.0.stripe.unit last.0 = landed_program i w mount.legal last.0 is.0 (ahead_landed k last.0 last.1) in
        let h : IsBehind i w mount o is_open unit running c now last.0 =
        behind_last i w mount o is_open unit running c now k last.0 its (subst (λ u. IsLandedProgram w u last.0) its_unit x)
        (λ y e. let below : e.index < length ahead = turn_ahead y e in omega arith) in
        let there_at : last.0.stripe.at ≡ k * i.shape.ws_opt = kth_place i w o unit k last.0 mount line.opened its in
        let here : p.stripe.at ≡ suc k * i.shape.ws_opt = place ∙ ap (λ m. m * i.shape.ws_opt) count in
        let next_at : p.stripe.at ≡ last.0.stripe.at + i.shape.ws_opt = omega arith in
        record { at = next_at ∙ sym h.pointer_is; state = λ below. inr (h.state (omega arith)) }

    ready : IsReady
    ready = go (length (stripes_on (take p.number (log_of w 0)) o unit)) refl
      where
        go : (n : ℕ) → length (stripes_on (take p.number (log_of w 0)) o unit) ≡ n → IsReady
        go zero e = first_there e
        go (suc k) e = behind k e

    -- the stripe fits the chunk
    in_line : (a : ℕ) → IsNext i (engine_prefix p.number (log_of w)) o p.stripe → a ≡ before (log_of w 0) o p.number * i.shape.ws_opt
        → a < o.start.width * i.shape.clba → p.stripe.at < i.shape.clba
    in_line a x is below =
        let now_image : Image = media i (log_of w) in
        let place_is : place_of now_image o.line (a + 0) ≡ Some (p.stripe.unit, p.stripe.at + 0) =
        ap (λ y. place_of now_image o.line (y + 0)) is ∙ in_order_at i w mount o line p 0 there x mount.accepted.drive.ws_opt in
        let parts = mapped_some (slice_get (line_units now_image o.line) (column_of i.shape (width now_image o.line) (a + 0)))
        (block_of i.shape (width now_image o.line) (a + 0)) p.stripe.unit (p.stripe.at + 0) place_is in
        let wide : o.start.width * i.shape.clba ≡ width now_image o.line * i.shape.clba = ap (λ g. g * i.shape.clba) line.width_is in
        let some_width : 0 < width now_image o.line = some_units (width now_image o.line) i.shape.clba (a + 0) (omega arith) in
        let low : block_of i.shape (width now_image o.line) (a + 0) < i.shape.clba =
        block_below i.shape.ws_opt (width now_image o.line) i.shape.clba (a + 0) mount.accepted.drive.ws_opt
        mount.accepted.drive.whole_stripes some_width (omega arith) in
        let here : p.stripe.at + 0 ≡ block_of i.shape (width now_image o.line) (a + 0) = parts.1 in
        omega arith

    below_end : p.stripe.at < i.shape.clba
    below_end = go kind
      where
        first : ℕ
        first = before (log_of w 0) o p.number * i.shape.ws_opt

        all : start_len i.shape + data_len i.shape o.start.width + end_len i.shape o.start.width ≡ o.start.width * i.shape.clba
        all = whole_line i.shape o.start.width (some_data i w o mount.legal line.opened)

        go : IsKind i (engine_prefix p.number (log_of w)) o p.stripe → p.stripe.at < i.shape.clba
        go (inl x) = let low : first < start_len i.shape = x.within in in_line first x.next refl (omega (arith, all))
        go (inr (inl x)) = let low : first < end_address i.shape o = x.within in in_line first x.next refl (omega (arith, all))
        go (inr (inr (inl x))) = in_line first x.next refl x.within
        go (inr (inr (inr x))) =
            let left = either_false (list_any (was_lost (take p.number log)) (stripes_on (take p.number log) o p.stripe.unit))
            (next_block i.shape (take p.number log) o p.stripe.unit == i.shape.clba) x.chunk_left in
            let r : IsReady = ready in
            let most : pointer c ≤ i.shape.clba = pointer_within c.state i.shape.clba (pointer c) (fits_chunk i w mount o is_open unit running c now).place in
            by (cases_lt p.stripe.at i.shape.clba) (ap (λ a. a == i.shape.clba) x.at ∙ left.1) (omega (arith, r.at))
          where
            by : (p.stripe.at < i.shape.clba) ⊎ (i.shape.clba ≤ p.stripe.at) → (p.stripe.at == i.shape.clba) ≡ false
                → p.stripe.at ≤ i.shape.clba → p.stripe.at < i.shape.clba
            by (inl below) apart most = below
            by (inr past) apart most =
                let same : p.stripe.at ≡ i.shape.clba = omega arith in
                absurd (not_both (p.stripe.at == i.shape.clba) (ap (λ a. a == i.shape.clba) same ∙ same_number i.shape.clba) apart)

    -- so its program is taken
    pub next_taken : refusal i.shape c (Write p.stripe.at p.stripe.blocks) ≡ None
    next_taken =
        let r : IsReady = ready in
        let n : ℕ = i.shape.ws_opt in
        let blocks : length p.stripe.blocks ≡ n = stripe_count i w o p mount.accepted mount.legal line.opened there in
        let parts : n * (i.shape.clba / n) + i.shape.clba % n ≡ i.shape.clba = div-add-mod i.shape.clba n in
        let none : i.shape.clba % n ≡ 0 = mount.accepted.drive.whole_stripes in
        let chunk : i.shape.clba ≡ i.shape.clba / n * n = omega arith in
        let at : p.stripe.at ≡ length ahead * n = place in
        let few : length ahead * n < i.shape.clba / n * n = omega (arith, below_end) in
        let fits : length ahead * n + n ≤ i.shape.clba / n * n = next_fits n (length ahead) (i.shape.clba / n) few in
        ap₂ (λ a m. write_refusal_in i.shape c.state (pointer c) a m) r.at blocks
        ∙ write_taken i.shape c.state (pointer c) n (r.state below_end) mount.accepted.drive.ws_opt mount.accepted.drive.whole_writes (omega (arith, r.at))

-- ---- the law

pub next_program_taken : (i : Image) (w : World) (unit : ℕ) (p : Placed) (c : Chunk) → IsLegalMount i w
    → slice_get (placed_on (log_of w 0) unit) (ended_stripes (log_of w (suc unit))) ≡ Some p → has_stopped (unit_events (log_of w) unit) ≡ false
    → chunk_in (media i (log_of w)) p.stripe.line unit ≡ Some c → refusal i.shape c (Write p.stripe.at p.stripe.blocks) ≡ None
next_program_taken i w unit p c mount next running found =
    let log : List Logged = log_of w 0 in
    let among : IsAmong (placements log) p =
    from_filter (λ (q : Placed). q.stripe.unit == unit) (placements log) p (ended_stripes (log_of w (suc unit)), next) in
    let life = life_of_stripe i w p mount.legal (contained_among (placements log) p among) in
    let stands : life_of log p.stripe.line ≡ Opened life.0 =
    pending_is_open i w mount.legal unit (ended_stripes (log_of w (suc unit))) p next (omega arith) ∙ life.1 in
    let its_line : life.0.line ≡ p.stripe.line = (life_is_known log p.stripe.line life.0 (ap last_opening stands)).1 in
    let passes : is_life life.0.number p.life ≡ true = ap (is_life life.0.number) life.1 ∙ same_number life.0.number in
    let there : Contains (stripes_of log life.0) p =
    contained_among (stripes_of log life.0) p (in_filter (λ (q : Placed). is_life life.0.number q.life) (placements log) p among passes) in
    next_taken i w mount life.0 (ap (life_of log) its_line ∙ stands) unit p there next running c
    (sym (chunk_of_media i (log_of w) life.0.line unit) ∙ ap (λ l. chunk_in (media i (log_of w)) l unit) its_line ∙ found)
