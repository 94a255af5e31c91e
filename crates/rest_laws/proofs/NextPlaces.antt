-- Where the next stripe of an opened line would stand, and that its first stripes have landed once
-- they are answered.
use Rattle.std.proofs.Common.{◌≡◌, ℕ, ◌/◌, ◌<◌, ◌≤◌, nat_le, true, false, Some, List, length, take, refl, subst, ap, arith}
use Rattle.std.specs.Prelude.{slice_get}
use Rattle.std.specs.List.{Contains, list_all}
use Rattle.std.specs.Option.{option_map}
use Rattle.std.proofs.Math.Nat.{mod-lt}
use Rattle.pblk_model.specs.Chunk.{Block}
use Rattle.pblk_model.specs.Image.{Image, line_units, width}
use Rattle.pblk_model.specs.LineOrder.{block_of, column_of, data_len}
use Rattle.pblk_laws.proofs.LineUnits.{line_units_count}
use Rattle.pblk_world.specs.EngineLog.{has_landed, is_answered, life_of, Opened, Opening, openings, Placed, placements, stripes_of, was_lost}
use Rattle.pblk_world.specs.Events.{Stripe}
use Rattle.pblk_world.specs.Lines.{known_image}
use Rattle.pblk_world.specs.Placing.{IsNext, next_address}
use Rattle.pblk_world.specs.Starts.{have_landed}
use Rattle.pblk_world.specs.World.{World, log_of}
use Rattle.pblk_model.proofs.Lists.{all_of}
use Rattle.pblk_model.proofs.Maps.{any_fail}
use Rattle.pblk_model.proofs.Parts.{all_by_get, all_taken, contained_among, got_within}
use Rattle.pblk_model.proofs.Tests.{and_both, le_true, lt_true}
use Rattle.pblk_world.specs.LegalMounts.{IsLegalMount}
use Rattle.world_laws.proofs.LineStripes.{some_data}
use Rattle.world_laws.proofs.NextPrograms.{landed_of_answered}
use Rattle.world_laws.proofs.Stripes.{stripe_is}
use Rattle.core_laws.proofs.LosslessMounts.{IsLosslessMount}
use Rattle.core_laws.proofs.EachChunk.{all_hold}
use Rattle.core_laws.proofs.FreedWidths.{opened_width}
use Rattle.core_laws.proofs.LandedNow.{opened_now}
use Rattle.core_laws.proofs.OpenedRows.{has_width}
use Rattle.core_laws.proofs.PlainLogs.{never_lost}

module _ (i : Image) (w : World) (lossless : IsLosslessMount i w) (o : Opening) where
  mount : IsLegalMount i w
  mount = lossless.mount

  not_lost : (p : Placed) → was_lost (log_of w 0) p ≡ false
  not_lost p = never_lost (log_of w 0) lossless.none_lost p

  -- ---- landed

  module _ (opened : Contains (openings (log_of w 0)) o)
      (answered : (p : Placed) → Contains (placements (log_of w 0)) p → is_answered (log_of w 0) p ≡ true) where
    pub answered_landed : (p : Placed) → Contains (stripes_of (log_of w 0) o) p → has_landed (log_of w 0) p ≡ true
    answered_landed p its = landed_of_answered (log_of w 0) p (answered p (stripe_is i w o p mount.legal opened its).0) (not_lost p)

    pub first_landed : (count : ℕ) → count ≤ length (stripes_of (log_of w 0) o) → have_landed (log_of w 0) o count ≡ true
    first_landed count enough =
        and_both (nat_le count (length (stripes_of (log_of w 0) o))) (list_all (has_landed (log_of w 0)) (take count (stripes_of (log_of w 0) o)))
        (le_true count (length (stripes_of (log_of w 0) o)) enough)
        (all_hold (has_landed (log_of w 0)) (take count (stripes_of (log_of w 0) o))
        (all_taken (λ (p : Placed). has_landed (log_of w 0) p ≡ true) count (stripes_of (log_of w 0) o)
        (all_by_get (λ (p : Placed). has_landed (log_of w 0) p ≡ true) (stripes_of (log_of w 0) o) (λ k p there.
        answered_landed p (contained_among (stripes_of (log_of w 0) o) p (k, there))))))

  -- ---- the next stripe

  module _ (is_open : life_of (log_of w 0) o.line ≡ Opened o) where
    known : Image
    known = known_image i (log_of w)

    units_there : (a : ℕ) → (unit : ℕ)
        × (slice_get (line_units (known_image i (log_of w)) o.line) (column_of i.shape (width (known_image i (log_of w)) o.line) a) ≡ Some unit)
    units_there a =
        let us : List ℕ = line_units (known_image i (log_of w)) o.line in
        let many : length us ≡ width (known_image i (log_of w)) o.line = line_units_count (known_image i (log_of w)) o.line in
        let own : o.start.width ≡ width (known_image i (log_of w)) o.line = opened_width i w mount o.line o is_open in
        let some : 0 < o.start.width =
        has_width i.shape o.start.width (lt_true 0 (data_len i.shape o.start.width) (some_data i w o mount.legal (opened_now i w mount o.line o is_open).0)) in
        let more : 0 < length us = omega arith in
        got_within us (column_of i.shape (width (known_image i (log_of w)) o.line) a)
        (subst (λ m. column_of i.shape m a < length us) many (mod-lt (a / i.shape.ws_opt) more))

    -- with any blocks it is a stripe of the line
    pub stripe_with : (blocks : List Block) → (stripe : Stripe) × (stripe.line ≡ o.line) × IsNext i (log_of w) o stripe × (stripe.blocks ≡ blocks)
    stripe_with blocks =
        let a : ℕ = next_address i.shape (log_of w 0) o in
        let unit = units_there a in (
          record { line = o.line; unit = unit.0; chunk = o.line; at = block_of i.shape (width (known_image i (log_of w)) o.line) a; blocks = blocks },
          refl,
          record {
            not_failed = any_fail (was_lost (log_of w 0)) (stripes_of (log_of w 0) o)
                (all_of (λ p. was_lost (log_of w 0) p ≡ false) not_lost (stripes_of (log_of w 0) o));
            in_order = ap (option_map (λ unit. (unit, block_of i.shape (width (known_image i (log_of w)) o.line) a))) unit.1;
          },
          refl,
        )
