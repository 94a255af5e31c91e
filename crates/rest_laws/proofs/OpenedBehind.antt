-- A line that was opened before another one had a stripe left when that one was opened, or it is
-- behind its start record.
use Rattle.std.proofs.Common.{◌≡◌, ◌⊎◌, inl, inr, ℕ, ◌/◌, ◌<◌, ◌≤◌, ◌&&◌, not, Bool, true, false, Some, List, length, take, drop, refl, sym, subst, ap, ap₂, ◌∙◌, arith, length-take}
use Rattle.std.specs.Prelude.{slice_get}
use Rattle.std.specs.List.{AllByRecursion, Contains, range_with_len, sum_by}
use Rattle.std.proofs.lemmas.List.{take-take}
use Rattle.std.proofs.lemmas.Option.{same_Some}
use Rattle.std.proofs.Math.Seq.{take-length}
use Rattle.pblk_model.specs.Image.{Image, width}
use Rattle.pblk_model.specs.Records.{Record}
use Rattle.pblk_model.specs.Shape.{units}
use Rattle.pblk_world.specs.EngineLog.{is_opened, life_of, LineLife, Opened, Opening, openings, Placed, stripes_of}
use Rattle.pblk_world.specs.Events.{Logged}
use Rattle.pblk_world.specs.Fronts.{synced}
use Rattle.pblk_world.specs.Lines.{are_over, has_stripe_left, known_image}
use Rattle.pblk_world.specs.Opening.{MayOpen}
use Rattle.pblk_world.specs.Placing.{line_end}
use Rattle.pblk_world.specs.Space.{unplaced_in}
use Rattle.pblk_world.specs.Starts.{have_landed, seq_in}
use Rattle.pblk_world.specs.Victims.{engine_prefix, positions_in}
use Rattle.pblk_world.specs.World.{World, log_of}
use Rattle.pblk_model.proofs.Lists.{IsAmong, all_contains, among_contained}
use Rattle.pblk_model.proofs.Parts.{contained_among, get_below, take_and_drop}
use Rattle.pblk_world.specs.LegalMounts.{IsLegalMount}
use Rattle.world_laws.proofs.LineStarts.{landed_of}
use Rattle.world_laws.proofs.LineStripes.{stripe_then}
use Rattle.world_laws.proofs.Made.{IsMade, made, own_then}
use Rattle.world_laws.proofs.Newest.{have_landed_later}
use Rattle.world_laws.proofs.NextLives.{IsOpenSince, open_since}
use Rattle.world_laws.proofs.StartRecords.{IsNthOpening, nth_opening}
use Rattle.world_laws.proofs.Stripes.{IsOpening, opening_is, opening_of_prefix}
use Rattle.world_laws.proofs.ToldSince.{told_up_to}
use Rattle.world_laws.proofs.ToldTables.{left_told}
use Rattle.core_laws.specs.InOrder.{FitsItsLine}
use Rattle.core_laws.proofs.LosslessMounts.{IsLosslessMount}
use Rattle.core_laws.specs.Spent.{OpensWhenFull}
use Rattle.core_laws.proofs.Engine.{openings_before}
use Rattle.core_laws.proofs.FreedWidths.{opened_width}
use Rattle.core_laws.proofs.LandedNow.{opened_now}
use Rattle.core_laws.proofs.LandedOver.{over_is}
use Rattle.core_laws.proofs.LaterLines.{seq_rises}
use Rattle.core_laws.proofs.LineRoom.{few_stripes, has_room}
use Rattle.core_laws.proofs.OverLines.{IsOfStripe, of_stripe, positions_written}
use Rattle.core_laws.proofs.LosslessMounts.{lossless_made}
use Rattle.core_laws.proofs.PlainLogs.{none_failed}
use Rattle.rest_laws.specs.BehindLines.{IsBehind}
use Rattle.rest_laws.proofs.OverSynced.{below_synced}

module _ (i : Image) (w : World) (lossless : IsLosslessMount i w) (full : OpensWhenFull i (log_of w)) (n : Opening)
    (opened : Contains (openings (log_of w 0)) n) where
  abbrev log : List Logged
  log = log_of w 0

  mount : IsLegalMount i w
  mount = lossless.mount

  pub nth : (k : ℕ) × IsNthOpening i w k n × IsOpening (log_of w 0) k n
  nth = let at = among_contained (openings log) n opened in
      (at.0, nth_opening i w at.0 n mount.legal at.1, opening_is log at.0 n at.1)

  -- when it was opened it was allowed to
  pub may_open : MayOpen i (engine_prefix n.number (log_of w)) nth.1.g n.line n.start
  may_open = nth.1.may

  -- the world then
  h : IsMade i w 0 n.number nth.2.logged
  h = made i w 0 n.number nth.2.logged mount.legal nth.2.there

  own : log_of h.before 0 ≡ take n.number (log_of w 0)
  own = own_then i w 0 n.number nth.2.logged h

  earlier : IsLosslessMount i h.before
  earlier = lossless_made i w n.number nth.2.logged lossless h

  full_then : OpensWhenFull i (log_of h.before)
  full_then x there =
      let its : Contains (openings (take n.number log)) x = subst (λ (xs : List Logged). Contains (openings xs) x) own there in
      let few : length (take n.number log) ≤ n.number = omega (arith, length-take n.number log) in
      let below : x.number < length (take n.number log) =
      all_contains (λ (y : Opening). y.number < length (take n.number log)) (openings (take n.number log)) x (openings_before (take n.number log)) its in
      let same : take x.number (log_of h.before 0) ≡ take x.number log =
      ap (take x.number) own ∙ take-take x.number n.number log (omega arith) in
      ap (λ (xs : List Logged). sum_by (λ line. unplaced_in i.shape xs (life_of xs line)) (range_with_len 0 i.shape.chunks)) same
      ∙ full x (opening_of_prefix log n.number x its)

  module _ (o : Opening) (is_open : life_of (log_of w 0) o.line ≡ Opened o) (before : o.number < n.number)
      (wide : width (known_image i (log_of w)) o.line ≡ units i.shape) where
    open_then : life_of (log_of h.before 0) o.line ≡ Opened o
    open_then =
        let far : n.number < length log = get_below log n.number nth.2.logged nth.2.there in
        let since : IsOpenSince i w mount.legal o.line (length log) o =
        open_since i w mount.legal (length log) o.line o (omega arith) (ap (λ (xs : List Logged). life_of xs o.line) (take-length log) ∙ is_open) in
        ap (λ (xs : List Logged). life_of xs o.line) own ∙ since.since n.number before (omega arith)

    wide_then : width (known_image i (log_of h.before)) o.line ≡ units i.shape
    wide_then = sym (opened_width i h.before earlier.mount o.line o open_then) ∙ opened_width i w mount o.line o is_open ∙ wide

    module _ (over : are_over i (log_of h.before) o.line ≡ true) where
      landed_then : have_landed (log_of h.before 0) o (line_end i.shape o / i.shape.ws_opt) ≡ true
      landed_then = sym (over_is i h.before earlier.mount o open_then (none_failed (log_of h.before 0) earlier.none_lost o)) ∙ over

      over_now : are_over i (log_of w) o.line ≡ true
      over_now =
          let count : ℕ = line_end i.shape o / i.shape.ws_opt in
          let first : have_landed (take n.number log) o count ≡ true = ap (λ (xs : List Logged). have_landed xs o count) (sym own) ∙ landed_then in
          over_is i w mount o is_open (none_failed (log_of w 0) lossless.none_lost o)
          ∙ subst (λ (xs : List Logged). have_landed xs o count ≡ true) (take_and_drop n.number log)
          (have_landed_later (take n.number log) (drop n.number log) o count first)

      -- each of its stripes was placed by then
      placed_then : (p : Placed) → Contains (stripes_of (log_of w 0) o) p → Contains (stripes_of (log_of h.before 0) o) p
      placed_then p its =
          let count : ℕ = line_end i.shape o / i.shape.ws_opt in
          let at : IsAmong (stripes_of log o) p = among_contained (stripes_of log o) p its in
          let room : FitsItsLine i.shape log o = has_room i w o.line o mount is_open in
          let few : length (stripes_of log o) ≤ line_end i.shape o / i.shape.ws_opt =
          few_stripes (length (stripes_of log o)) (line_end i.shape o) i.shape.ws_opt mount.accepted.drive.ws_opt room.within in
          let below : at.0 < length (stripes_of log o) = get_below (stripes_of log o) at.0 p at.1 in
          let first : have_landed (take n.number log) o count ≡ true = ap (λ (xs : List Logged). have_landed xs o count) (sym own) ∙ landed_then in
          let there = landed_of (take n.number log) o count at.0 first (omega arith) in
          let now : slice_get (stripes_of log o) at.0 ≡ Some there.0 = stripe_then log o n.number at.0 there.0 there.1 in
          let same : there.0 ≡ p = same_Some there.0 p (sym now ∙ at.1) in
          subst (λ (xs : List Logged). Contains (stripes_of xs o) p) (sym own)
          (contained_among (stripes_of (take n.number log) o) p (at.0, there.1 ∙ ap (λ (x : Placed). Some x) same))

      all_below : AllByRecursion (λ position. position < n.start.front) (positions_in i (log_of w) (Opened o) o.line)
      all_below =
          positions_written i w mount o is_open (λ position. position < n.start.front) (λ r written. by r (of_stripe i w mount o is_open r written))
        where
          by : (r : Record) → IsOfStripe i w mount o is_open r → r.position < n.start.front
          by r s =
              let its : r.position < synced i.shape (log_of h.before 0) =
              below_synced i h.before earlier full_then o open_then landed_then wide_then s.placed r.position (placed_then s.placed s.of_opening) s.holds in
              let front : n.start.front ≡ synced i.shape (take n.number log) = may_open.front in
              subst (λ m. r.position < m) (ap (synced i.shape) own ∙ sym front) its

      is_behind : IsBehind i (log_of w) n.start o.line
      is_behind = record {
        over = over_now;
        seq = o.start.seq;
        has_seq = ap (λ (l : LineLife). seq_in i (log_of w) l o.line) is_open;
        older = seq_rises i w mount o n (opened_now i w mount o.line o is_open).0 opened before;
        below_front = subst (λ (l : LineLife). AllByRecursion (λ position. position < n.start.front) (positions_in i (log_of w) l o.line))
            (sym is_open) all_below;
      }

    pub left_or_behind : (has_stripe_left i (engine_prefix n.number (log_of w)) o.line ≡ true) ⊎ IsBehind i (log_of w) n.start o.line
    left_or_behind = go (are_over i (log_of h.before) o.line) refl
      where
        go : (t : Bool) → are_over i (log_of h.before) o.line ≡ t
            → (has_stripe_left i (engine_prefix n.number (log_of w)) o.line ≡ true) ⊎ IsBehind i (log_of w) n.start o.line
        go true e = inr (is_behind e)
        go false e = inl (left_told i (log_of h.before) (engine_prefix n.number (log_of w)) (told_up_to i w n.number nth.2.logged h) o.line
            ∙ ap₂ (λ a b. a && not b) (ap is_opened open_then) e)
