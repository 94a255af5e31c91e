-- Where nothing was lost and each line was opened once the open ones were full: once all stripes of
-- a line have landed, all its positions are below the front synced.
use Rattle.std.proofs.Common.{◌≡◌, ◌⊎◌, inl, inr, ℕ, ◌*◌, ◌/◌, ◌%◌, ◌<◌, ◌≤◌, ◌&&◌, nat_le, nat_lt, Bool, true, false, Some, Option, List, length, take, drop, refl, sym, subst, ap, ◌∙◌, arith, length-take}
use Rattle.std.specs.Prelude.{slice_get}
use Rattle.std.specs.List.{Contains, list_any}
use Rattle.std.proofs.lemmas.Bool.{cases_lt, cases_order}
use Rattle.std.proofs.lemmas.Option.{same_Some}
use Rattle.std.proofs.Math.Nat.{mod-eq_of_lt, mul-le-mul_left}
use Rattle.pblk_model.specs.declared.shape.Shape.{Shape}
use Rattle.pblk_model.specs.Image.{Image, line_units, width}
use Rattle.pblk_model.specs.Shape.{units}
use Rattle.pblk_laws.proofs.LineUnits.{line_units_count}
use Rattle.std.specs.Option.{option_map_or}
use Rattle.pblk_world.specs.EngineLog.{Begun, Opened, Opening, has_landed, holds_position, is_answered, is_life, life_of, openings, Placed, placed_on, placements, stripes_of, was_lost}
use Rattle.pblk_world.specs.Events.{Logged}
use Rattle.pblk_world.specs.Fronts.{first_position, has_landed_at, synced, taken}
use Rattle.pblk_world.specs.Lines.{known_image}
use Rattle.pblk_world.specs.Placing.{MayPlace, line_end}
use Rattle.pblk_world.specs.Space.{placed_front}
use Rattle.pblk_world.specs.Starts.{have_landed}
use Rattle.pblk_world.specs.Victims.{engine_prefix}
use Rattle.pblk_world.specs.World.{World, log_of}
use Rattle.pblk_world.proofs.EngineLogLemmas.{begun_taken}
use Rattle.pblk_world.proofs.LinesLemmas.{length_known}
use Rattle.pblk_world.proofs.SyncedFront.{synced_missing}
use Rattle.pblk_model.proofs.Lists.{IsAmong, among_contained}
use Rattle.pblk_model.proofs.Maps.{any_member, in_filter}
use Rattle.pblk_model.proofs.Parts.{contained_among, get_below, take_and_drop}
use Rattle.pblk_model.proofs.Tests.{and_both, below_of, both, le_true, lt_true, not_both, same_number}
use Rattle.pblk_world.specs.LegalMounts.{IsLegalMount}
use Rattle.world_laws.proofs.Fronts.{synced_from}
use Rattle.world_laws.proofs.Later.{answered_later, placed_later, placed_within}
use Rattle.world_laws.proofs.LineStarts.{landed_of}
use Rattle.world_laws.proofs.Made.{IsMade, made, own_then}
use Rattle.world_laws.proofs.NextPrograms.{landed_of_answered}
use Rattle.world_laws.proofs.Openings.{placed_at}
use Rattle.world_laws.proofs.Stripes.{IsPlaced, life_of_stripe, one_opening, opening_then, placed_is, stripe_is}
use Rattle.core_laws.proofs.LosslessMounts.{IsLosslessMount}
use Rattle.core_laws.specs.Spent.{OpensWhenFull}
use Rattle.core_laws.proofs.Distinct.{passing}
use Rattle.core_laws.proofs.FreedWidths.{opened_width}
use Rattle.core_laws.proofs.KeptLines.{on_drive}
use Rattle.core_laws.proofs.LandedNow.{opened_now}
use Rattle.core_laws.proofs.LineRoom.{few_stripes}
use Rattle.core_laws.proofs.PlacedAnew.{earlier_stripe, one_kept, one_number}
use Rattle.core_laws.proofs.PlacedInOrder.{IsOrdered, front_within, ordered, some_hold_below}
use Rattle.core_laws.proofs.LosslessMounts.{lossless_made}
use Rattle.core_laws.proofs.LaterLines.{none_in_older}
use Rattle.core_laws.proofs.PlainLogs.{NoPlacementLost, never_lost}
use Rattle.rest_laws.proofs.ChunkRows.{IsInRow, all_landed, in_row}
use Rattle.rest_laws.proofs.WideLines.{column_of_unit}
use Rattle.pblk_model.proofs.Tests.{same}
use Rattle.std.proofs.Common.{◌==◌}

module _ (i : Image) (w : World) (lossless : IsLosslessMount i w) (full : OpensWhenFull i (log_of w)) where
  abbrev log : List Logged
  log = log_of w 0

  abbrev s : Shape
  s = i.shape

  mount : IsLegalMount i w
  mount = lossless.mount

  order : IsOrdered i.shape (log_of w 0)
  order = ordered i w lossless.mount

  not_lost : (p : Placed) → was_lost (log_of w 0) p ≡ false
  not_lost p = never_lost log lossless.none_lost p

  -- how a stripe's line had been opened when it was placed
  pub record IsOf (p : Placed) (o : Opening) : Type 0 where
    pub life : p.life ≡ Opened o
    pub opened : Contains (openings (log_of w 0)) o
    pub before : o.number < p.number

  pub of : (p : Placed) → Contains (placements (log_of w 0)) p → (o : Opening) × IsOf p o
  of p there =
      let stands = life_of_stripe i w p mount.legal there in
      let then_ = opening_then log p.number p.stripe.line stands.0 stands.2 in
      (stands.0, record { life = stands.1; opened = then_.0; before = then_.2 })

  -- positions were placed in order before a stripe was, from the same position on
  pub ordered_then : (p : Placed) → Contains (placements (log_of w 0)) p → IsOrdered i.shape (take p.number (log_of w 0))
  ordered_then p there =
      let is : IsPlaced log p = placed_is log p there in
      let h : IsMade i w 0 p.number is.logged = made i w 0 p.number is.logged mount.legal is.there in
      subst (IsOrdered s) (own_then i w 0 p.number is.logged h) (ordered i h.before (lossless_made i w p.number is.logged lossless h).mount)

  pub lost_then : (p : Placed) → Contains (placements (log_of w 0)) p → NoPlacementLost (take p.number (log_of w 0))
  lost_then p there =
      let is : IsPlaced log p = placed_is log p there in
      let h : IsMade i w 0 p.number is.logged = made i w 0 p.number is.logged mount.legal is.there in
      subst NoPlacementLost (own_then i w 0 p.number is.logged h)
      (never_lost (log_of h.before 0) (lossless_made i w p.number is.logged lossless h).none_lost)

  pub first_then : (n : ℕ) → 0 < n → first_position (take n (log_of w 0)) ≡ first_position (log_of w 0)
  first_then n some = ap (λ (b : Option Begun). option_map_or (λ (x : Begun). x.beginning.first) b 0) (begun_taken n (log_of w 0) some)

  -- A position below that of another stripe that was placed is in a stripe that was placed before
  -- or is the same.
  pub placed_before : (p q : Placed) (r m : ℕ) → Contains (placements (log_of w 0)) p → Contains (placements (log_of w 0)) q
      → holds_position i.shape r p ≡ true → holds_position i.shape m q ≡ true → first_position (log_of w 0) ≤ m → m ≤ r → p.number < q.number → ⊥
  placed_before p q r m p_there q_there p_holds q_holds from within earlier =
      let n : ℕ = q.number in
      let then_ : IsOrdered s (take n log) = ordered_then q q_there in
      let first : first_position (take n log) ≡ first_position log = first_then n (omega arith) in
      let its : IsAmong (placements (take n log)) p = earlier_stripe i w mount p n p_there earlier in
      let held : list_any (holds_position s r) (placements (take n log)) ≡ true =
      any_member (holds_position s r) (placements (take n log)) its.0 p its.1 p_holds in
      let parts = both (nat_le (first_position (take n log)) r) (nat_lt r (placed_front s (take n log)))
      (sym (some_hold_below s (take n log) then_ r) ∙ held) in
      let below : r < placed_front s (take n log) = below_of r (placed_front s (take n log)) parts.1 in
      let also : list_any (holds_position s m) (placements (take n log)) ≡ true =
      some_hold_below s (take n log) then_ m
      ∙ and_both (nat_le (first_position (take n log)) m) (nat_lt m (placed_front s (take n log)))
      (le_true (first_position (take n log)) m (omega arith)) (lt_true m (placed_front s (take n log)) (omega arith)) in
      let other = passing (holds_position s m) (placements (take n log)) also in
      let there : Contains (placements (take n log)) other.0 = contained_among (placements (take n log)) other.0 other.1 in
      let now : Contains (placements log) other.0 =
      subst (λ (xs : List Logged). Contains (placements xs) other.0) (take_and_drop n log) (placed_later (take n log) (drop n log) other.0 there) in
      let same : q ≡ other.0 = one_kept i w mount q other.0 m q_there now q_holds other.2 (not_lost q) (not_lost other.0) in
      let number : q.number ≡ other.0.number = ap (λ (x : Placed). x.number) same in
      let few : other.0.number < length (take n log) = placed_within (take n log) other.0 there in
      let short : length (take n log) ≤ n = omega (arith, length-take n log) in
      absurd (omega arith)

  module _ (o : Opening) (is_open : life_of (log_of w 0) o.line ≡ Opened o)
      (landed : have_landed (log_of w 0) o (line_end i.shape o / i.shape.ws_opt) ≡ true)
      (wide : width (known_image i (log_of w)) o.line ≡ units i.shape) where
    -- each of its stripes has landed
    has_landed_whole : (p : Placed) → Contains (stripes_of (log_of w 0) o) p → has_landed (log_of w 0) p ≡ true
    has_landed_whole = all_landed i w lossless o is_open landed

    -- it has a stripe on each unit
    column : (unit : ℕ) → unit < units i.shape → (c : ℕ) × (slice_get (line_units (known_image i (log_of w)) o.line) c ≡ Some unit)
    column unit inside =
        let count : length (known_image i (log_of w)).units ≡ units i.shape = length_known i (log_of w) ∙ mount.fit.units in
        column_of_unit (known_image i (log_of w)) o.line unit (wide ∙ sym count) (omega arith)

    at_column : (unit c : ℕ) → slice_get (line_units (known_image i (log_of w)) o.line) c ≡ Some unit
        → (p : Placed) × Contains (stripes_of (log_of w 0) o) p × (p.stripe.unit ≡ unit)
    at_column unit c is =
        let us : List ℕ = line_units (known_image i (log_of w)) o.line in
        let many : length us ≡ width (known_image i (log_of w)) o.line = line_units_count (known_image i (log_of w)) o.line in
        let early : c < length us = get_below us c unit is in
        let its_width : o.start.width ≡ width (known_image i (log_of w)) o.line = opened_width i w mount o.line o is_open in
        let rows : o.start.width * s.ws_opt ≤ line_end s o = mul-le-mul_left o.start.width (one_stripe (cases_lt s.clba s.ws_opt)) in
        let few : o.start.width ≤ line_end s o / s.ws_opt = few_stripes o.start.width (line_end s o) s.ws_opt mount.accepted.drive.ws_opt rows in
        let stripe = landed_of log o (line_end s o / s.ws_opt) c landed (omega arith) in
        let row : IsInRow i w lossless o is_open c stripe.0 = in_row i w lossless o is_open c stripe.0 stripe.1 in
        let turn : c % length us ≡ c = mod-eq_of_lt early in (
          stripe.0,
          contained_among (stripes_of log o) stripe.0 (c, stripe.1),
          same_Some stripe.0.stripe.unit unit (subst (λ k. Some stripe.0.stripe.unit ≡ slice_get us k) turn (sym row.unit) ∙ is),
        )
      where
        one_stripe : (i.shape.clba < i.shape.ws_opt) ⊎ (i.shape.ws_opt ≤ i.shape.clba) → i.shape.ws_opt ≤ i.shape.clba
        one_stripe (inr fits) = fits
        one_stripe (inl less) =
            let rest : i.shape.clba % i.shape.ws_opt ≡ i.shape.clba = mod-eq_of_lt less in
            let none : i.shape.clba % i.shape.ws_opt ≡ 0 = mount.accepted.drive.whole_stripes in
            let some : 0 < i.shape.clba = mount.accepted.drive.clba in
            absurd (omega arith)

    on_each_unit : (unit : ℕ) → unit < units i.shape → (p : Placed) × Contains (stripes_of (log_of w 0) o) p × (p.stripe.unit ≡ unit)
    on_each_unit unit inside = at_column unit (column unit inside).0 (column unit inside).1

    pub below_synced : (p : Placed) (r : ℕ) → Contains (stripes_of (log_of w 0) o) p → holds_position i.shape r p ≡ true → r < synced i.shape (log_of w 0)
    below_synced p r its holds = go (cases_lt r (synced s log))
      where
        m : ℕ
        m = synced i.shape (log_of w 0)

        placed_p : Contains (placements (log_of w 0)) p
        placed_p = (stripe_is i w o p mount.legal (opened_now i w mount o.line o is_open).0 its).0

        life_p : p.life ≡ Opened o
        life_p = (stripe_is i w o p mount.legal (opened_now i w mount o.line o is_open).0 its).1

        opened_o : Contains (openings (log_of w 0)) o
        opened_o = (opened_now i w mount o.line o is_open).0

        -- the position at the front is placed, and hasn't landed
        at_front : synced i.shape (log_of w 0) ≤ r
            → (q : Placed) × Contains (placements (log_of w 0)) q × (holds_position i.shape (synced i.shape (log_of w 0)) q ≡ true)
            × (has_landed (log_of w 0) q ≡ false)
        at_front above =
            let at = among_contained (placements log) p placed_p in
            let held : list_any (holds_position s r) (placements log) ≡ true = any_member (holds_position s r) (placements log) at.0 p at.1 holds in
            let parts = both (nat_le (first_position log) r) (nat_lt r (placed_front s log)) (sym (some_hold_below s log order r) ∙ held) in
            let below : r < placed_front s log = below_of r (placed_front s log) parts.1 in
            let from : first_position log ≤ synced s log = synced_from s log in
            let within : placed_front s log ≤ taken log = front_within s log order in
            let also : list_any (holds_position s (synced s log)) (placements log) ≡ true =
            some_hold_below s log order (synced s log)
            ∙ and_both (nat_le (first_position log) (synced s log)) (nat_lt (synced s log) (placed_front s log))
            (le_true (first_position log) (synced s log) from) (lt_true (synced s log) (placed_front s log) (omega arith)) in
            let other = passing (holds_position s (synced s log)) (placements log) also in
            let missing : has_landed_at s log (synced s log) ≡ false = synced_missing s log (omega arith) in
            (other.0, contained_among (placements log) other.0 other.1, other.2, by other.0 other.1 other.2 missing (has_landed log other.0) refl)
          where
            by : (q : Placed) → IsAmong (placements (log_of w 0)) q → holds_position i.shape (synced i.shape (log_of w 0)) q ≡ true
                → has_landed_at i.shape (log_of w 0) (synced i.shape (log_of w 0)) ≡ false
                → (b : Bool) → has_landed (log_of w 0) q ≡ b → has_landed (log_of w 0) q ≡ false
            by q among its_position missing false e = e
            by q among its_position missing true e =
                let test : Placed → Bool = λ x. has_landed log x && holds_position s (synced s log) x in
                absurd (not_both (list_any test (placements log)) (any_member test (placements log) among.0 q among.1
                (and_both (has_landed log q) (holds_position s (synced s log) q) e its_position)) missing)

        -- it can't be in a stripe that was placed before
        not_earlier : synced i.shape (log_of w 0) ≤ r → (q : Placed) → Contains (placements (log_of w 0)) q
            → holds_position i.shape (synced i.shape (log_of w 0)) q ≡ true → has_landed (log_of w 0) q ≡ false → q.number < p.number → ⊥
        not_earlier above q there holds_q waits earlier = by_opening (of q there).0 (of q there).1
          where
            by_opening : (x : Opening) → IsOf q x → ⊥
            by_opening x its_x = by_number (cases_order x.number o.number)
              where
                -- the line has a stripe on the same unit, which was placed while the other was
                -- under way
                on_its_unit : q.number ≤ o.number → ⊥
                on_its_unit late =
                    let beside = on_each_unit q.stripe.unit (on_drive i w q mount there) in
                    let its_own = stripe_is i w o beside.0 mount.legal opened_o beside.1 in
                    let behind : o.number < beside.0.number = (opening_then log beside.0.number beside.0.stripe.line o its_own.2).2 in
                    let at : IsPlaced log beside.0 = placed_is log beside.0 its_own.0 in
                    let may : MayPlace i (engine_prefix beside.0.number (log_of w)) beside.0.stripe =
                    placed_at i w beside.0.number beside.0.stripe at.logged mount.legal at.there at.event in
                    let then_ : IsAmong (placements (take beside.0.number log)) q = earlier_stripe i w mount q beside.0.number there (omega arith) in
                    let on : IsAmong (placed_on (take beside.0.number log) beside.0.stripe.unit) q =
                    in_filter (λ (y : Placed). y.stripe.unit == beside.0.stripe.unit) (placements (take beside.0.number log)) q then_
                    (ap (λ u. q.stripe.unit == u) beside.2 ∙ same_number q.stripe.unit) in
                    let answered : is_answered (take beside.0.number log) q ≡ true =
                    may.idle q (contained_among (placed_on (take beside.0.number log) beside.0.stripe.unit) q on) in
                    let now : is_answered log q ≡ true = subst (λ (xs : List Logged). is_answered xs q ≡ true) (take_and_drop beside.0.number log)
                    (answered_later (take beside.0.number log) (drop beside.0.number log) q
                    (placed_within (take beside.0.number log) q (contained_among (placements (take beside.0.number log)) q then_)) answered) in
                    not_both (has_landed log q) (landed_of_answered log q now (not_lost q)) waits

                by_number : (x.number ≡ o.number) ⊎ ((x.number < o.number) ⊎ (o.number < x.number)) → ⊥
                by_number (inl same) =
                    let one : x ≡ o = one_opening log x o its_x.opened opened_o same in
                    let its_life : is_life o.number q.life ≡ true = ap (is_life o.number) (its_x.life ∙ ap Opened one) ∙ same_number o.number in
                    let mine : IsAmong (stripes_of log o) q =
                    in_filter (λ (y : Placed). is_life o.number y.life) (placements log) q (among_contained (placements log) q there) its_life in
                    not_both (has_landed log q) (has_landed_whole q (contained_among (stripes_of log o) q mine)) waits
                by_number (inr (inr later)) =
                    let since : x.number < q.number = its_x.before in
                    none_in_older i w mount full x o p r its_x.opened placed_p life_p holds (omega arith) later
                by_number (inr (inl older)) = by_time (cases_lt o.number q.number)
                  where
                    by_time : (o.number < q.number) ⊎ (q.number ≤ o.number) → ⊥
                    by_time (inl later) = none_in_older i w mount full o x q (synced s log) opened_o there its_x.life holds_q later older
                    by_time (inr late) = on_its_unit late

        go : (r < synced i.shape (log_of w 0)) ⊎ (synced i.shape (log_of w 0) ≤ r) → r < synced i.shape (log_of w 0)
        go (inl below) = below
        go (inr above) =
            let q = at_front above in
            absurd (by_order q.0 q.1 q.2 q.3 (cases_order q.0.number p.number))
          where
            by_order : (q : Placed) → Contains (placements (log_of w 0)) q → holds_position i.shape (synced i.shape (log_of w 0)) q ≡ true
                → has_landed (log_of w 0) q ≡ false
                → (q.number ≡ p.number) ⊎ ((q.number < p.number) ⊎ (p.number < q.number)) → ⊥
            by_order q there holds_q waits (inl same) =
                not_both (has_landed log q) (subst (λ (x : Placed). has_landed log x ≡ true) (sym (one_number i w mount q p there placed_p same))
                (has_landed_whole p its)) waits
            by_order q there holds_q waits (inr (inl earlier)) = not_earlier above q there holds_q waits earlier
            by_order q there holds_q waits (inr (inr later)) =
                placed_before p q r (synced s log) placed_p there holds holds_q (synced_from s log) above later
