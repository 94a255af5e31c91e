-- A pad that is due in a line of which a stripe was lost: once each of its stripes is answered, the
-- line has a stripe to place, and that is a pad.
use Rattle.std.proofs.Common.{◌≡◌, ◌⊎◌, inl, inr, ℕ, ◌+◌, ◌*◌, ◌%◌, ◌<◌, ◌≤◌, ◌==◌, ◌||◌, nat_lt, true, false, Some, None, Option, List, [], length, map, refl, sym, subst, ap, ap₂, ◌∙◌, arith, if◌then◌else◌}
use Rattle.std.specs.Prelude.{slice_get}
use Rattle.std.specs.List.{Contains, filter_map, list_any}
use Rattle.std.specs.Option.{is_some}
use Rattle.pblk_model.specs.Image.{Image, line_units, width}
use Rattle.pblk_model.specs.LineOrder.{block_of, column_of}
use Rattle.pblk_model.specs.Shape.{units}
use Rattle.pblk_world.specs.Events.{Logged, Stripe}
use Rattle.pblk_world.specs.World.{World, log_of}
use Rattle.pblk_world.specs.EngineLog.{is_opened, Opened, Opening, life_of, Placed, is_answered, stripes_of, stripes_on, was_lost}
use Rattle.pblk_world.specs.Lines.{known_image, place_of}
use Rattle.pblk_world.specs.Placing.{IsPad}
use Rattle.stripe_placer.specs.declared.placement.StripeKind.{StripeKind}
use Rattle.stripe_placer.specs.declared.placement.StripeKind.TheVariants as kinds
use Rattle.stripe_placer.specs.Entries.{Entries}
use Rattle.stripe_placer.specs.OpenLines.{OpenLine, has_left, is_to_place, is_unanswered, kind_of, next_of, numbers}
use Rattle.stripe_placer.specs.Placing.{Program, allowed_at, allows, next_in, next_positions, program_of}
use Rattle.pblk_world.specs.LegalMounts.{IsLegalMount}
use Rattle.core_laws.specs.OpenedLines.{open_line, open_lines, standing}
use Rattle.core_laws.proofs.ChunksInRows.{rows_of_chunks}
use Rattle.core_laws.proofs.DoneLines.{is_done, none_unanswered}
use Rattle.core_laws.proofs.Followed.{follow}
use Rattle.core_laws.proofs.GivenBack.{rows_within}
use Rattle.core_laws.proofs.KnownFilling.{HasLoss}
use Rattle.core_laws.proofs.OfferedStripes.{unit_within}
use Rattle.core_laws.proofs.OpenWhileLeft.{over_where_none_left}
use Rattle.core_laws.proofs.PaddedLines.{fails_with, unit, unit_is}
use Rattle.core_laws.proofs.PlacedLines.{found_any}
use Rattle.core_laws.proofs.PlainOpenings.{life_stands}
use Rattle.pblk_model.proofs.Lists.{IsAmong}
use Rattle.pblk_model.proofs.Maps.{any_found, given_at, in_filter, in_map}
use Rattle.pblk_model.proofs.Options.{mapped_some}
use Rattle.pblk_model.proofs.Tests.{either_false, not_both, or_left, same_number}

module _ (i : Image) (w : World) (mount : IsLegalMount i w) (o : Opening) (is_open : life_of (log_of w 0) o.line ≡ Opened o) (stripe : Stripe)
    (line : stripe.line ≡ o.line) (pads : IsPad i (log_of w) o stripe)
    (answered : (p : Placed) → Contains (stripes_of (log_of w 0) o) p → is_answered (log_of w 0) p ≡ true) where
  abbrev log : List Logged
  log = log_of w 0

  abbrev us : List ℕ
  us = line_units (known_image i (log_of w)) o.line

  abbrev line_now : OpenLine
  line_now = open_line i (log_of w) o

  -- its chunk isn't done with
  abbrev count : ℕ
  count = length (stripes_on (log_of w 0) o stripe.unit)

  undone : (list_any (was_lost (log_of w 0)) (stripes_on (log_of w 0) o stripe.unit) ≡ false)
      × ((length (stripes_on (log_of w 0) o stripe.unit) * i.shape.ws_opt == i.shape.clba) ≡ false)
  undone = either_false (list_any (was_lost log) (stripes_on log o stripe.unit)) (count * i.shape.ws_opt == i.shape.clba) pads.chunk_left

  column : (c : ℕ) × (slice_get (line_units (known_image i (log_of w)) o.line) c ≡ Some stripe.unit)
  column =
      let known : Image = known_image i (log_of w) in
      let place : place_of known o.line pads.address ≡ Some (stripe.unit, stripe.at) =
      subst (λ n. place_of known n pads.address ≡ Some (stripe.unit, stripe.at)) line pads.place in
      let c : ℕ = column_of i.shape (width known o.line) pads.address in
      (c, (mapped_some (slice_get us c) (block_of i.shape (width known o.line) pads.address) stripe.unit stripe.at place).0)

  -- so a stripe of the line is to be placed
  to_place : (j : ℕ) × (next_of (open_line i (log_of w) o) ≡ Some j)
  to_place = go (next_of line_now) refl
    where
      go : (x : Option ℕ) → next_of (open_line i (log_of w) o) ≡ x → (j : ℕ) × (next_of (open_line i (log_of w) o) ≡ Some j)
      go (Some j) e = (j, e)
      go None e = absurd (by (is_done i w mount o is_open (over_where_none_left i w mount o is_open none) column.0 stripe.unit column.1))
        where
          none : has_left (open_line i (log_of w) o) ≡ false
          none = ap₂ (λ a b. a || b) (any_found (is_to_place line_now) (numbers line_now) ∙ ap is_some e) (none_unanswered i w mount o is_open answered)

          by : (i.shape.clba ≤ length (stripes_on (log_of w 0) o stripe.unit) * i.shape.ws_opt) ⊎ HasLoss (log_of w 0) o stripe.unit → ⊥
          by (inr loss) = not_both (list_any (was_lost log) (stripes_on log o stripe.unit)) loss undone.0
          by (inl full) =
              let within : count * i.shape.ws_opt ≤ i.shape.clba = rows_within i.shape log o stripe.unit (rows_of_chunks i w o stripe.unit mount) in
              let same : count * i.shape.ws_opt ≡ i.shape.clba = omega (arith, full, within) in
              not_both (count * i.shape.ws_opt == i.shape.clba) (ap (λ n. n == i.shape.clba) same ∙ same_number i.shape.clba) undone.1

  kind_is : kind_of (open_line i (log_of w) o) to_place.0 ≡ kinds.Pad
  kind_is = ap (λ b. if b then kinds.Pad else if nat_lt to_place.0 line_now.start_count then kinds.Start
      else if nat_lt to_place.0 (line_now.start_count + line_now.data_count) then kinds.Data else kinds.End)
      (fails_with i w mount o is_open pads.failed)

  -- and it is offered
  pub offered_pad : (e : Entries) → (of : Program) × IsAmong (filter_map (next_in i.shape e) (open_lines i (log_of w))) of × (of.unit < units i.shape)
  offered_pad e =
      let j : ℕ = to_place.0 in
      let of : Program = program_of i.shape line_now j kinds.Pad [] in
      let given : next_in i.shape e line_now ≡ Some of =
      ap (allowed_at i.shape e line_now) to_place.1
      ∙ ap (λ (kind : StripeKind). if allows i.shape e line_now kind then Some (program_of i.shape line_now j kind (next_positions i.shape e kind)) else None)
      kind_is in
      let left : has_left line_now ≡ true =
      or_left (list_any (is_to_place line_now) (numbers line_now)) (list_any is_unanswered line_now.stripes)
      (found_any (is_to_place line_now) (numbers line_now) j to_place.1) in
      let at : IsAmong (open_lines i (log_of w)) line_now =
      in_filter has_left (map (open_line i (log_of w)) (standing log)) line_now
      (in_map (open_line i (log_of w)) (standing log) o
      (life_stands i (line_units (known_image i (log_of w))) w (follow i w mount) o.line o is_open)) left in
      let its = unit i w mount o is_open j to_place.1 in (
        of,
        given_at (next_in i.shape e) (open_lines i (log_of w)) line_now of at.0 at.1 given,
        subst (λ u. u < units i.shape) (sym (unit_is i w mount o is_open j to_place.1))
            (unit_within i (line_units (known_image i (log_of w))) w o.line (j % length us) its.0 (follow i w mount) (ap is_opened is_open) its.1),
      )
