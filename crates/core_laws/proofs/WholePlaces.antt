-- The stripes of an opened line that were placed before one of it was lost are its first ones in
-- line order. The pads of a line that is Failed have places behind those.
use Rattle.std.proofs.Common.{◌≡◌, ◌⊎◌, inl, inr, ℕ, ◌/◌, ◌%◌, ◌<◌, ◌≤◌, not, Bool, true, false, Some, List, length, take, refl, sym, ap, ◌∙◌, arith}
use Rattle.std.specs.Prelude.{slice_get}
use Rattle.std.specs.List.{filter}
use Rattle.std.proofs.lemmas.Bool.{cases_order}
use Rattle.std.proofs.lemmas.List.{take-take as take_within}
use Rattle.std.proofs.Math.Nat.{mul-div_cancel}
use Rattle.pblk_model.specs.Image.{Image, line_units}
use Rattle.pblk_laws.proofs.LineUnits.{line_units_rise}
use Rattle.pblk_world.specs.Events.{Logged}
use Rattle.pblk_world.specs.World.{World, log_of}
use Rattle.pblk_world.specs.EngineLog.{Opened, Opening, Placed, is_life, life_of, placements, stripes_of, has_failed}
use Rattle.pblk_world.specs.Lines.{known_image}
use Rattle.pblk_world.specs.LegalMounts.{IsLegalMount}
use Rattle.world_laws.proofs.LineStripes.{failed_later}
use Rattle.world_laws.proofs.UnitTurns.{Rises, rise_all, rise_between, some_rise}
use Rattle.core_laws.specs.OpenedLines.{as_opened, is_stripe_at}
use Rattle.core_laws.proofs.FirstLanded.{AreFirst, first_count, first_passing, first_where, passes_within, within_passes}
use Rattle.core_laws.proofs.Followed.{follow}
use Rattle.core_laws.proofs.LineNumbers.{IsNumbered, numbered, one_numbered}
use Rattle.core_laws.proofs.StripesByPlace.{by_parts}
use Rattle.core_laws.proofs.StripesInOrder.{IsAtPlace, placed_in_order}
use Rattle.pblk_model.proofs.Lists.{IsAmong}
use Rattle.pblk_model.proofs.Parts.{get_taken, one_column}
use Rattle.pblk_model.proofs.Tests.{not_both}

-- no stripe of the line was lost when it was placed
abbrev pub was_whole : List Logged → Opening → Placed → Bool
was_whole log o p = not (has_failed (take p.number log) o)

-- so it was before
pub whole_before : (log : List Logged) (o : Opening) (p r : Placed) → p.number ≤ r.number → was_whole log o r ≡ true → was_whole log o p ≡ true
whole_before log o p r before e = go (has_failed (take p.number log) o) refl
  where
    go : (b : Bool) → has_failed (take p.number log) o ≡ b → not b ≡ true
    go false f = refl
    go true f =
        let later : has_failed (take r.number log) o ≡ true = failed_later (take r.number log) o p.number
        (ap (λ (xs : List Logged). has_failed xs o) (take_within p.number r.number log before) ∙ f) in
        sym (ap not later) ∙ e

pub whole_first : (log : List Logged) (o : Opening) → (n : ℕ) × AreFirst (was_whole log o) n (stripes_of log o)
whole_first log o = first_where (was_whole log o) (stripes_of log o) (λ j k p r below a b e.
    let less : p.number < r.number = rise_between (stripes_of log o) j k p r rises below a b in
    whole_before log o p r (omega arith) e)
  where
    rises : Rises (stripes_of log o)
    rises = some_rise (λ (p : Placed). is_life o.number p.life) (placements log) (rise_all log)

module _ (i : Image) (w : World) (mount : IsLegalMount i w) (o : Opening) (is_open : life_of (log_of w 0) o.line ≡ Opened o) where
  abbrev log : List Logged
  log = log_of w 0

  abbrev us : List ℕ
  us = line_units (known_image i (log_of w)) o.line

  abbrev wholes : List Placed
  wholes = filter (was_whole (log_of w 0) o) (stripes_of (log_of w 0) o)

  some : 0 < i.shape.ws_opt
  some = mount.accepted.drive.ws_opt

  -- a stripe's place in line order is its place among those of its line
  pub whole_number : (p : Placed) (among : IsAmong (stripes_of (log_of w 0) o) p) → was_whole (log_of w 0) o p ≡ true
      → IsNumbered.number (numbered i w mount o is_open p among) ≡ among.0
  whole_number p among e =
      let is : IsNumbered i w mount o is_open p = numbered i w mount o is_open p among in
      let g : ℕ = length us in
      let place : IsAtPlace i (line_units (known_image i (log_of w))) o.line among.0 p.stripe.unit p.stripe.at =
      placed_in_order i (line_units (known_image i (log_of w))) w (follow i w mount) o.line o is_open among.0 p among.1
      (unfailed (has_failed (take p.number log) o) e) in
      by_parts (IsNumbered.number (numbered i w mount o is_open p among)) among.0 g
      (sym (mul-div_cancel (is.number / g) {n = i.shape.ws_opt} some) ∙ ap (λ m. m / i.shape.ws_opt) (sym is.row ∙ place.its_block)
      ∙ mul-div_cancel (among.0 / g) {n = i.shape.ws_opt} some)
      (one_column us (is.number % g) (among.0 % g) p.stripe.unit (line_units_rise (known_image i (log_of w)) o.line) is.unit place.its_unit)
    where
      unfailed : (b : Bool) → not b ≡ true → b ≡ false
      unfailed false f = refl
      unfailed true f = absurd cc

  pub whole_at : (p : Placed) (among : IsAmong (stripes_of (log_of w 0) o) p) → was_whole (log_of w 0) o p ≡ true
      → slice_get (filter (was_whole (log_of w 0) o) (stripes_of (log_of w 0) o)) (IsNumbered.number (numbered i w mount o is_open p among)) ≡ Some p
  whole_at p among e =
      let first = whole_first log o in
      ap (slice_get wholes) (whole_number p among e)
      ∙ ap (λ (ps : List Placed). slice_get ps among.0) (first_passing (was_whole log o) first.0 (stripes_of log o) first.1)
      ∙ get_taken first.0 (stripes_of log o) among.0 (passes_within (was_whole log o) first.0 (stripes_of log o) among.0 p first.1 among.1 e)
      ∙ among.1

  -- a pad stands behind all of them
  pub pad_behind : (p : Placed) (among : IsAmong (stripes_of (log_of w 0) o) p) → was_whole (log_of w 0) o p ≡ false
      → length (filter (was_whole (log_of w 0) o) (stripes_of (log_of w 0) o)) ≤ IsNumbered.number (numbered i w mount o is_open p among)
  pad_behind p among e = go (cases_order n first.0)
    where
      first : (n : ℕ) × AreFirst (was_whole (log_of w 0) o) n (stripes_of (log_of w 0) o)
      first = whole_first (log_of w 0) o

      is : IsNumbered i w mount o is_open p
      is = numbered i w mount o is_open p among

      n : ℕ
      n = IsNumbered.number (numbered i w mount o is_open p among)

      count : length (filter (was_whole (log_of w 0) o) (stripes_of (log_of w 0) o)) ≡ first.0
      count = first_count (was_whole log o) first.0 (stripes_of log o) first.1

      go : (n ≡ first.0) ⊎ ((n < first.0) ⊎ (first.0 < n))
          → length (filter (was_whole (log_of w 0) o) (stripes_of (log_of w 0) o)) ≤ IsNumbered.number (numbered i w mount o is_open p among)
      go (inl same) = let c = count in omega arith
      go (inr (inr more)) = let c = count in omega arith
      go (inr (inl less)) =
          let q = within_passes (was_whole log o) first.0 (stripes_of log o) n first.1 less in
          let other : IsAmong (stripes_of log o) q.0 = (n, q.1) in
          let at : is_stripe_at i.shape (as_opened i (log_of w) o) q.0.stripe.unit q.0.stripe.at n ≡ true =
          ap (is_stripe_at i.shape (as_opened i (log_of w) o) q.0.stripe.unit q.0.stripe.at) (sym (whole_number q.0 (n, q.1) q.2))
          ∙ IsNumbered.at (numbered i w mount o is_open q.0 (n, q.1)) in
          let same : p ≡ q.0 = one_numbered i w mount o is_open p q.0 n among other is.at at in
          absurd (not_both (was_whole log o p) (ap (was_whole log o) same ∙ q.2) e)
