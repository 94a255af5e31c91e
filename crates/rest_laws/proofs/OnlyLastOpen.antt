-- Where no stripe is under way and none of an end record is left to be placed, only the line that
-- was opened last has a stripe left.
use Rattle.std.proofs.Common.{◌≡◌, ◌⊎◌, inl, inr, ℕ, ◌+◌, ◌-◌, ◌/◌, ◌<◌, ◌≤◌, max, Bool, true, false, List, length, take, refl, sym, subst, ap, ◌∙◌, arith, length-append, if◌then◌else◌}
use Rattle.std.specs.List.{Contains}
use Rattle.std.proofs.lemmas.Bool.{cases_lt}
use Rattle.std.proofs.Math.Nat.{div-le_of_le-mul, mul-le-mul_right, mul_comm}
use Rattle.std.proofs.Math.Seq.{take-length}
use Rattle.pblk_model.specs.Image.{Image}
use Rattle.pblk_model.specs.LineOrder.{data_len, start_len}
use Rattle.pblk_world.specs.EngineLog.{has_failed, is_answered, life_of, Opened, Opening, openings, Placed, placements, stripes_of, was_lost}
use Rattle.pblk_world.specs.Events.{Logged, Stripe}
use Rattle.pblk_world.specs.Lines.{are_over}
use Rattle.pblk_world.specs.Placing.{IsEnd, end_address, end_blocks, line_end, next_address, stripe_at}
use Rattle.pblk_world.specs.Space.{unplaced_in}
use Rattle.pblk_world.specs.World.{World, log_of}
use Rattle.pblk_model.proofs.Lists.{all_of, among_contained}
use Rattle.pblk_model.proofs.Maps.{any_fail}
use Rattle.pblk_model.proofs.Parts.{get_below}
use Rattle.pblk_model.proofs.Tests.{not_both}
use Rattle.pblk_world.specs.LegalMounts.{IsLegalMount}
use Rattle.world_laws.proofs.LineStripes.{IsSplit, failed_later, some_data, stripes_split}
use Rattle.world_laws.proofs.NextLives.{IsOpenSince, open_since}
use Rattle.world_laws.proofs.StartRecords.{nth_opening}
use Rattle.world_laws.proofs.Stripes.{IsOpening, opening_is}
use Rattle.core_laws.proofs.LosslessMounts.{IsLosslessMount}
use Rattle.core_laws.specs.Spent.{OpensWhenFull}
use Rattle.core_laws.proofs.LandedNow.{opened_now}
use Rattle.core_laws.proofs.LandedOver.{over_is}
use Rattle.rest_laws.proofs.NextPlaces.{first_landed, stripe_with}
use Rattle.core_laws.proofs.LaterLines.{none_in_sum}
use Rattle.core_laws.proofs.PlainLogs.{never_lost, none_failed}

module _ (i : Image) (w : World) (lossless : IsLosslessMount i w) (full : OpensWhenFull i (log_of w)) (n : Opening)
    (opened : Contains (openings (log_of w 0)) n) (o : Opening) (before : o.number < n.number) (is_open : life_of (log_of w 0) o.line ≡ Opened o)
    (answered : (p : Placed) → Contains (placements (log_of w 0)) p → is_answered (log_of w 0) p ≡ true)
    (none : (stripe : Stripe) → stripe.line ≡ o.line → ¬ IsEnd i (log_of w) o stripe) where
  abbrev log : List Logged
  log = log_of w 0

  mount : IsLegalMount i w
  mount = lossless.mount

  -- its data was placed before
  data_placed : end_address i.shape o ≤ next_address i.shape (log_of w 0) o
  data_placed =
      let then_ : List Logged = take n.number log in
      let at = among_contained (openings log) n opened in
      let is : IsOpening log at.0 n = opening_is log at.0 n at.1 in
      let far : n.number < length log = get_below log n.number is.logged is.there in
      let since : IsOpenSince i w mount.legal o.line (length log) o =
      open_since i w mount.legal (length log) o.line o (omega arith) (ap (λ (xs : List Logged). life_of xs o.line) (take-length log) ∙ is_open) in
      let life : life_of then_ o.line ≡ Opened o = since.since n.number before (omega arith) in
      let own : Contains (openings log) o = (opened_now i w mount o.line o is_open).0 in
      let its = among_contained (openings log) o own in
      let in_range : o.line < i.shape.chunks = (nth_opening i w its.0 o mount.legal its.1).may.in_range in
      let zero : unplaced_in i.shape then_ (Opened o) ≡ 0 =
      ap (unplaced_in i.shape then_) (sym life)
      ∙ none_in_sum (λ line. unplaced_in i.shape then_ (life_of then_ line)) i.shape.chunks (full n opened) o.line in_range in
      let left : end_address i.shape o - max (start_len i.shape) (next_address i.shape then_ o) ≡ 0 =
      ap (λ t. if t then 0 else end_address i.shape o - max (start_len i.shape) (next_address i.shape then_ o)) (sym not_failed) ∙ zero in
      let some : 0 < data_len i.shape o.start.width = some_data i w o mount.legal own in
      let split : IsSplit log o n.number = stripes_split log o n.number in
      let parts : length (stripes_of log o) ≡ length (stripes_of then_ o) + length split.more =
      ap (λ (xs : List Placed). length xs) split.parts ∙ length-append (stripes_of then_ o) split.more in
      let few : next_address i.shape then_ o ≤ next_address i.shape log o = mul-le-mul_right i.shape.ws_opt (omega arith) in
      by_numbers (start_len i.shape) (data_len i.shape o.start.width) (next_address i.shape then_ o) (next_address i.shape log o) left some few
    where
      by_numbers : (a d m n : ℕ) → a + d - max a m ≡ 0 → 0 < d → m ≤ n → a + d ≤ n
      by_numbers a d m n x y z = omega arith

      not_failed : has_failed (take n.number (log_of w 0)) o ≡ false
      not_failed = go (has_failed (take n.number log) o) refl
        where
          go : (t : Bool) → has_failed (take n.number (log_of w 0)) o ≡ t → has_failed (take n.number (log_of w 0)) o ≡ false
          go false e = e
          go true e = absurd (not_both (has_failed log o) (failed_later log o n.number e)
              (any_fail (was_lost log) (stripes_of log o) (all_of (λ p. was_lost log p ≡ false)
              (λ p. never_lost log lossless.none_lost p) (stripes_of log o))))

  pub others_over : are_over i (log_of w) o.line ≡ true
  others_over = go (cases_lt (next_address i.shape log o) (line_end i.shape o))
    where
      -- as many whole stripes as blocks are placed
      fit : (a : ℕ) → a ≤ next_address i.shape (log_of w 0) o → a / i.shape.ws_opt ≤ length (stripes_of (log_of w 0) o)
      fit a low = div-le_of_le-mul i.shape.ws_opt (subst (λ m. a ≤ m) (mul_comm (length (stripes_of log o)) i.shape.ws_opt) low)

      own : Contains (openings (log_of w 0)) o
      own = (opened_now i w mount o.line o is_open).0

      go : (next_address i.shape (log_of w 0) o < line_end i.shape o) ⊎ (line_end i.shape o ≤ next_address i.shape (log_of w 0) o)
          → are_over i (log_of w) o.line ≡ true
      go (inr past) =
          over_is i w mount o is_open (none_failed (log_of w 0) lossless.none_lost o)
          ∙ first_landed i w lossless o own answered (line_end i.shape o / i.shape.ws_opt) (fit (line_end i.shape o) past)
      go (inl more) =
          let stripe = stripe_with i w lossless o is_open
          (stripe_at i.shape (end_blocks i.shape log o) (end_address i.shape o) (next_address i.shape log o)) in
          absurd (none stripe.0 stripe.1 (record {
            next = stripe.2;
            from = data_placed;
            within = more;
            data_landed = first_landed i w lossless o own answered (end_address i.shape o / i.shape.ws_opt) (fit (end_address i.shape o) data_placed);
            blocks = stripe.3;
          }))
