-- Each stripe of an opened line lies within its chunk.
use Rattle.std.proofs.Common.{◌≡◌, ◌⊎◌, inl, inr, ℕ, ◌+◌, ◌*◌, ◌/◌, ◌%◌, ◌<◌, ◌≤◌, ◌==◌, zero, suc, true, false, Some, List, length, take, refl, sym, ap, ◌∙◌, arith, div-add-mod'}
use Rattle.std.specs.Prelude.{slice_get}
use Rattle.std.specs.List.{Contains, list_any}
use Rattle.std.proofs.lemmas.Bool.{cases_lt, eqb-true}
use Rattle.pblk_model.specs.LineOrder.{block_of, column_of, data_len, end_len, start_len}
use Rattle.pblk_model.specs.Image.{Image, line_units, width}
use Rattle.pblk_model.proofs.LineOrder.{block_below}
use Rattle.pblk_model.proofs.LineOrderLemmas.{whole_line}
use Rattle.pblk_laws.proofs.LineUnits.{line_units_count}
use Rattle.pblk_world.specs.Events.{Logged}
use Rattle.pblk_world.specs.World.{World, log_of, media}
use Rattle.pblk_world.specs.EngineLog.{life_of, Opened, Opening, Placed, stripes_of, stripes_on, was_lost}
use Rattle.pblk_world.specs.Lines.{known_image, place_of}
use Rattle.pblk_world.specs.Placing.{IsNext, end_address, next_address, next_block}
use Rattle.pblk_world.specs.Victims.{engine_prefix}
use Rattle.pblk_model.proofs.Lists.{IsAmong}
use Rattle.pblk_model.proofs.Maps.{all_passed, from_filter}
use Rattle.pblk_model.proofs.Numbers.{some_units}
use Rattle.pblk_model.proofs.Options.{mapped_some}
use Rattle.pblk_model.proofs.Parts.{all_at, contained_among, get_below, got_within}
use Rattle.pblk_model.proofs.Tests.{either_false, not_both, same_number}
use Rattle.pblk_world.specs.LegalMounts.{IsLegalMount}
use Rattle.world_laws.proofs.LineBlocks.{IsLineOf, opened_line}
use Rattle.world_laws.proofs.LineStripes.{IsKind, next_fits, some_data, stripe_kind}
use Rattle.world_laws.proofs.StripePlaces.{kth_place}
use Rattle.world_laws.proofs.Stripes.{stripe_is}

module _ (i : Image) (w : World) (mount : IsLegalMount i w) (o : Opening) (is_open : life_of (log_of w 0) o.line ≡ Opened o) where
  abbrev log : List Logged
  log = log_of w 0

  line_is : IsLineOf i w o
  line_is = opened_line i w mount o is_open

  -- a stripe of the opening on a unit
  pub of_unit : (unit : ℕ) (q : Placed) → IsAmong (stripes_on (log_of w 0) o unit) q → Contains (stripes_of (log_of w 0) o) q × (q.stripe.unit ≡ unit)
  of_unit unit q at = (
    contained_among (stripes_of log o) q (from_filter (λ (x : Placed). x.stripe.unit == unit) (stripes_of log o) q at),
    eqb-true q.stripe.unit unit (all_at (λ (x : Placed). (x.stripe.unit == unit) ≡ true) (stripes_on log o unit) at.0 q at.1
        (all_passed (λ (x : Placed). x.stripe.unit == unit) (stripes_of log o))),
  )

  -- one in line order
  in_line : (p : Placed) → Contains (stripes_of (log_of w 0) o) p → IsNext i (engine_prefix p.number (log_of w)) o p.stripe → (a : ℕ)
      → a ≡ next_address i.shape (take p.number (log_of w 0)) o → a < o.start.width * i.shape.clba → p.stripe.at < i.shape.clba
  in_line p of_opening x a is below =
      let known : Image = known_image i (engine_prefix p.number (log_of w)) in
      let its_line : p.stripe.line ≡ o.line = (stripe_is i w o p mount.legal line_is.opened of_opening).3 in
      let g : width known p.stripe.line ≡ o.start.width =
      ap (width known) its_line ∙ sym (line_units_count known o.line) ∙ ap length (line_is.units p of_opening)
      ∙ line_units_count (media i (log_of w)) o.line ∙ sym line_is.width_is in
      let parts = mapped_some (slice_get (line_units known p.stripe.line) (column_of i.shape (width known p.stripe.line) a))
      (block_of i.shape (width known p.stripe.line) a) p.stripe.unit p.stripe.at (ap (place_of known p.stripe.line) is ∙ x.in_order) in
      let wide : width known p.stripe.line * i.shape.clba ≡ o.start.width * i.shape.clba = ap (λ n. n * i.shape.clba) g in
      let low : block_of i.shape (width known p.stripe.line) a < i.shape.clba =
      block_below i.shape.ws_opt (width known p.stripe.line) i.shape.clba a mount.accepted.drive.ws_opt mount.accepted.drive.whole_stripes
      (some_units (width known p.stripe.line) i.shape.clba a (omega arith)) (omega arith) in
      let here : p.stripe.at ≡ block_of i.shape (width known p.stripe.line) a = parts.1 in
      omega arith

  -- the one of this number on its unit, where what is before it fits the chunk
  below_by : (unit k : ℕ) (p : Placed) → slice_get (stripes_on (log_of w 0) o unit) k ≡ Some p → k * i.shape.ws_opt ≤ i.shape.clba
      → p.stripe.at < i.shape.clba
  below_by unit k p there fits = go (stripe_kind i w o p mount.legal line_is.opened mine.0)
    where
      mine : Contains (stripes_of (log_of w 0) o) p × (p.stripe.unit ≡ unit)
      mine = of_unit unit p (k, there)

      place : p.stripe.at ≡ k * i.shape.ws_opt
      place = kth_place i w o unit k p mount line_is.opened there

      all : start_len i.shape + data_len i.shape o.start.width + end_len i.shape o.start.width ≡ o.start.width * i.shape.clba
      all = whole_line i.shape o.start.width (some_data i w o mount.legal line_is.opened)

      first : ℕ
      first = next_address i.shape (take p.number (log_of w 0)) o

      go : IsKind i (engine_prefix p.number (log_of w)) o p.stripe → p.stripe.at < i.shape.clba
      go (inl x) = let low : first < start_len i.shape = x.within in in_line p mine.0 x.next first refl (omega (arith, all))
      go (inr (inl x)) = let low : first < end_address i.shape o = x.within in in_line p mine.0 x.next first refl (omega (arith, all))
      go (inr (inr (inl x))) = in_line p mine.0 x.next first refl x.within
      go (inr (inr (inr x))) =
          let left = either_false (list_any (was_lost (take p.number log)) (stripes_on (take p.number log) o p.stripe.unit))
          (next_block i.shape (take p.number log) o p.stripe.unit == i.shape.clba) x.chunk_left in
          by (cases_lt p.stripe.at i.shape.clba) (ap (λ a. a == i.shape.clba) x.at ∙ left.1)
        where
          by : (p.stripe.at < i.shape.clba) ⊎ (i.shape.clba ≤ p.stripe.at) → (p.stripe.at == i.shape.clba) ≡ false → p.stripe.at < i.shape.clba
          by (inl below) apart = below
          by (inr past) apart =
              let same : p.stripe.at ≡ i.shape.clba = omega (arith, place, fits) in
              absurd (not_both (p.stripe.at == i.shape.clba) (ap (λ a. a == i.shape.clba) same ∙ same_number i.shape.clba) apart)

  pub below_end : (unit k : ℕ) (p : Placed) → slice_get (stripes_on (log_of w 0) o unit) k ≡ Some p → p.stripe.at < i.shape.clba
  below_end unit zero p there = below_by unit zero p there (omega arith)
  below_end unit (suc j) p there =
      let inside : suc j < length (stripes_on log o unit) = get_below (stripes_on log o unit) (suc j) p there in
      let last = got_within (stripes_on log o unit) j (omega arith) in
      let low : last.0.stripe.at < i.shape.clba = below_end unit j last.0 last.1 in
      let at : last.0.stripe.at ≡ j * i.shape.ws_opt = kth_place i w o unit j last.0 mount line_is.opened last.1 in
      let none_over : i.shape.clba % i.shape.ws_opt ≡ 0 = mount.accepted.drive.whole_stripes in
      let rows : i.shape.clba ≡ i.shape.clba / i.shape.ws_opt * i.shape.ws_opt = omega (arith, div-add-mod' i.shape.clba i.shape.ws_opt) in
      let next : j * i.shape.ws_opt + i.shape.ws_opt ≤ i.shape.clba / i.shape.ws_opt * i.shape.ws_opt =
      next_fits i.shape.ws_opt j (i.shape.clba / i.shape.ws_opt) (omega arith) in
      let more : suc j * i.shape.ws_opt ≡ j * i.shape.ws_opt + i.shape.ws_opt = omega arith in
      below_by unit (suc j) p there (omega arith)
