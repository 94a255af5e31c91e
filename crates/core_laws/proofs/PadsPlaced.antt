-- What the placer offers may be placed: the next stripe of a line, and a pad in a line of which a
-- stripe was lost.
use Rattle.std.proofs.Common.{◌≡◌, ℕ, ◌+◌, ◌%◌, ◌<◌, ◌==◌, Bool, true, false, Some, None, List, length, map, refl, sym, subst, ap, ◌∙◌, inr}
use Rattle.std.specs.Prelude.{if◌then◌else◌, nat_lt}
use Rattle.std.specs.List.{filter_map, range_with_len}
use Rattle.std.proofs.lemmas.Bool.{eqb-true}
use Rattle.pblk_model.specs.Image.{Image, line_units}
use Rattle.pblk_model.specs.Shape.{units}
use Rattle.pblk_world.specs.Events.{Stripe}
use Rattle.pblk_world.specs.World.{World, log_of}
use Rattle.pblk_world.specs.EngineLog.{Opened, Opening, is_opened, life_of, has_failed, Placed, placed_on, placements, answers}
use Rattle.pblk_world.specs.Lines.{known_image}
use Rattle.pblk_world.specs.Placing.{MayPlace}
use Rattle.pblk_world.specs.Victims.{position_in}
use Rattle.stripe_placer.specs.Entries.{Entries}
use Rattle.stripe_placer.specs.declared.placement.StripeKind.TheVariants as kinds
use Rattle.stripe_placer.specs.OpenLines.{kind_of, unit_of}
use Rattle.stripe_placer.specs.Placing.{Program, is_ready, next_in, next_positions, next_stripe, stopped_in}
use Rattle.stripe_placer.proofs.Named.{IsProgramIn, its_program}
use Rattle.core_laws.specs.OpenedLines.{open_line}
use Rattle.core_laws.specs.PlacerOf.{entries_of, unit_row_in, placing_of, IsStripeOf}
use Rattle.core_laws.specs.StripeFor.{blocks_for, IsStripeFor}
use Rattle.core_laws.proofs.Followed.{IsFollowed, follow}
use Rattle.core_laws.proofs.IdleRows.{all_answered}
use Rattle.core_laws.proofs.OfferedStripes.{IsOfferedBy, offered_line, unit_idle, unit_within}
use Rattle.core_laws.proofs.PaddedLines.{fails_with, unit, unit_is, pad_is}
use Rattle.core_laws.proofs.Placeable.{kind_positions, whole_may_be_placed, whole_is_its}
use Rattle.core_laws.proofs.PlainOpenings.{opened_lines}
use Rattle.core_laws.proofs.UnitTurns.{filtered_is}
use Rattle.pblk_model.proofs.Lists.{IsAmong, among_contained}
use Rattle.pblk_world.proofs.EngineLogLemmas.{opened_same}
use Rattle.pblk_world.specs.LegalMounts.{IsLegalMount}

module _ (i : Image) (w : World) (mount : IsLegalMount i w) (pad : ℕ) (again : List ℕ) (busy : ℕ) (of : Program) (o : Opening)
    (next : next_stripe (placing_of i (log_of w) pad again) busy ≡ Some of) (none : stopped_in (unit_row_in i (log_of w) again of.unit) ≡ None)
    (opened : life_of (log_of w 0) of.line ≡ Opened o) (failed : has_failed (log_of w 0) o ≡ true) where
  abbrev us : ℕ → List ℕ
  us = line_units (known_image i (log_of w))

  abbrev entries : Entries
  entries = entries_of i.shape (log_of w 0) pad

  is : IsFollowed i (line_units (known_image i (log_of w))) w
  is = follow i w mount

  record IsPadIn : Type 0 where
    life : life_of (log_of w 0) o.line ≡ Opened o
    offered : next_in i.shape (entries_of i.shape (log_of w 0) pad) (open_line i (log_of w) o) ≡ Some of
    ready : is_ready (map (unit_row_in i (log_of w) again) (range_with_len 0 (units i.shape))) busy of.unit ≡ true

  here : IsPadIn
  here =
      let by = offered_line i us w pad again busy of is next none in
      let its = its_program i.shape entries (open_line i (log_of w) by.0) of by.1.next in
      let line : by.0.line ≡ of.line = ap (λ (x : Program). x.line) its.1.is in
      let same : by.0 ≡ o = opened_same by.0 o (sym by.1.life ∙ ap (life_of (log_of w 0)) line ∙ opened) in
      let its_by : IsOfferedBy i us w pad of o = subst (IsOfferedBy i us w pad of) same by.1 in
      record { life = its_by.life; offered = its_by.next; ready = by.2 }

  its : (j : ℕ) × IsProgramIn i.shape (entries_of i.shape (log_of w 0) pad) (open_line i (log_of w) o) of j
  its = its_program i.shape entries (open_line i (log_of w) o) of (IsPadIn.offered here)

  its_line : of.line ≡ o.line
  its_line = sym (ap (λ (x : Program). x.line) its.1.is)

  kind_is : kind_of (open_line i (log_of w) o) its.0 ≡ kinds.Pad
  kind_is = ap (λ b. if b then kinds.Pad else if nat_lt its.0 (open_line i (log_of w) o).start_count then kinds.Start
      else if nat_lt its.0 ((open_line i (log_of w) o).start_count + (open_line i (log_of w) o).data_count) then kinds.Data else kinds.End)
      (fails_with i w mount o (IsPadIn.life here) failed)

  its_kind : of.kind ≡ kinds.Pad
  its_kind = sym (ap (λ (x : Program). x.kind) its.1.is) ∙ kind_is

  of_unit : of.unit ≡ unit_of (open_line i (log_of w) o) its.0
  of_unit = sym (ap (λ (x : Program). x.unit) its.1.is)

  within : of.unit < units i.shape
  within =
      let at = unit i w mount o (IsPadIn.life here) its.0 its.1.next in
      let same : of.unit ≡ at.0 = of_unit ∙ unit_is i w mount o (IsPadIn.life here) its.0 its.1.next in
      subst (λ u. u < units i.shape) (sym same)
      (unit_within i us w o.line (its.0 % length (us o.line)) at.0 is (ap is_opened (IsPadIn.life here)) at.1)

  idle : length (answers (log_of w 0) of.unit) ≡ length (placed_on (log_of w 0) of.unit)
  idle = unit_idle i us w again busy of is within (IsPadIn.ready here) none

  pub pad_may_be_placed : (stripe : Stripe) → IsStripeFor i (log_of w) o of stripe → MayPlace i (log_of w) stripe
  pad_may_be_placed stripe for =
      let line : stripe.line ≡ o.line = for.line ∙ its_line in
      record {
        in_range = subst (λ n. n < i.shape.chunks) (sym line) (opened_lines i us w is o.line o (IsPadIn.life here)).in_range;
        chunk = for.chunk ∙ sym for.line;
        opening = o;
        is_open = ap (life_of (log_of w 0)) line ∙ IsPadIn.life here;
        idle = λ p there.
            let at : IsAmong (placed_on (log_of w 0) stripe.unit) p = among_contained (placed_on (log_of w 0) stripe.unit) p there in
            all_answered (log_of w 0) stripe.unit p
            (subst (λ u. length (answers (log_of w 0) u) ≡ length (placed_on (log_of w 0) u)) (sym for.unit) idle) at
            (eqb-true p.stripe.unit stripe.unit
            (filtered_is (λ (q : Placed). q.stripe.unit == stripe.unit) (placements (log_of w 0)) at.0 p at.1));
        kind = inr (inr (inr (pad_is i w mount o (IsPadIn.life here) its.0 its.1.next stripe failed line (for.unit ∙ of_unit)
            (for.at ∙ sym (ap (λ (x : Program). x.block) its.1.is)) (for.blocks ∙ ap (blocks_for i.shape (log_of w 0) o of.at) its_kind))));
      }

  pub pad_is_its : (stripe : Stripe) → IsStripeFor i (log_of w) o of stripe → IsStripeOf i (log_of w) pad o stripe of
  pad_is_its stripe for = record {
    opened = ap (life_of (log_of w 0)) (for.line ∙ its_line) ∙ IsPadIn.life here;
    next = IsPadIn.offered here;
    unit = for.unit;
    block = for.at;
    positions = ap (filter_map (position_in i.shape)) for.blocks ∙ kind_positions i us w pad o of.at of.kind is
        ∙ ap (next_positions i.shape entries) (sym (ap (λ (x : Program). x.kind) its.1.is)) ∙ ap (λ (x : Program). x.positions) its.1.is;
    in_range = subst (λ u. u < units i.shape) (sym for.unit) within;
    idle = subst (λ u. length (answers (log_of w 0) u) ≡ length (placed_on (log_of w 0) u)) (sym for.unit) idle;
  }

-- ---- the laws

pub next_may_be_placed : (i : Image) (w : World) (pad : ℕ) (again : List ℕ) (busy : ℕ) (of : Program) (o : Opening) (stripe : Stripe) → IsLegalMount i w
    → next_stripe (placing_of i (log_of w) pad again) busy ≡ Some of → stopped_in (unit_row_in i (log_of w) again of.unit) ≡ None
    → IsStripeFor i (log_of w) o of stripe → MayPlace i (log_of w) stripe
next_may_be_placed i w pad again busy of o stripe mount next none for = go (has_failed (log_of w 0) o) refl
  where
    go : (b : Bool) → has_failed (log_of w 0) o ≡ b → MayPlace i (log_of w) stripe
    go true e = pad_may_be_placed i w mount pad again busy of o next none for.opened e stripe for
    go false e = whole_may_be_placed i (line_units (known_image i (log_of w))) w pad again busy of o stripe (follow i w mount) e next none for

pub next_is_its : (i : Image) (w : World) (pad : ℕ) (again : List ℕ) (busy : ℕ) (of : Program) (o : Opening) (stripe : Stripe) → IsLegalMount i w
    → next_stripe (placing_of i (log_of w) pad again) busy ≡ Some of → stopped_in (unit_row_in i (log_of w) again of.unit) ≡ None
    → IsStripeFor i (log_of w) o of stripe → IsStripeOf i (log_of w) pad o stripe of
next_is_its i w pad again busy of o stripe mount next none for = go (has_failed (log_of w 0) o) refl
  where
    go : (b : Bool) → has_failed (log_of w 0) o ≡ b → IsStripeOf i (log_of w) pad o stripe of
    go true e = pad_is_its i w mount pad again busy of o next none for.opened e stripe for
    go false e = whole_is_its i (line_units (known_image i (log_of w))) w pad again busy of o stripe (follow i w mount) e next none for
