-- Where the logs name no work, nothing is in flight, and each reset was noted, a target is at rest.
use Rattle.std.proofs.Common.{◌≡◌, ◌≢◌, ◌⊎◌, ℕ, ◌+◌, ◌<◌, ◌≤◌, ◌^◌, ◌==◌, ◌&&◌, ◌||◌, not, nat_lt, max, Bool, true, false, Some, None, List, [], ◌∷◌, length, refl, sym, subst, ap, ◌∙◌, arith, le_refl}
use Rattle.std.specs.Prelude.{slice_get, position}
use Rattle.std.specs.List.{filter, range_with_len}
use Rattle.std.specs.Option.{is_some, option_map_or}
use Rattle.std.proofs.lemmas.Option.{none-some}
use Rattle.pblk_model.specs.Image.{Image}
use Rattle.pblk_model.specs.Shape.{units}
use Rattle.pblk_world.specs.World.{World, Logs, log_of}
use Rattle.pblk_world.specs.EngineLog.{openings, Placed}
use Rattle.pblk_world.specs.Fronts.{synced, waiting}
use Rattle.pblk_world.specs.LegalMounts.{IsLegalMount}
use Rattle.pblk_world.specs.Orders.{AreReset, NoneToFree}
use Rattle.pblk_world.specs.Space.{open_addresses}
use Rattle.pblk_world.specs.AtRest.{AreResetsNoted, IsAtRest, IsCopyDue, IsResting, pad_target}
use Rattle.world_laws.proofs.NotedResets.{noted_at}
use Rattle.line_table.specs.Rows.{is_free}
use Rattle.stripe_placer.specs.Placing.{next_stripe}
use Rattle.stripe_placer.specs.Placing.UnitRow.{Idle}
use Rattle.core_laws.specs.OpenedLines.{open_lines}
use Rattle.core_laws.specs.PlacerOf.{placing_of, row_in, unanswered_on, waits_again}
use Rattle.core_laws.specs.RowsOf.{rows_of}
use Rattle.core_laws.proofs.IdleRows.{row_there}
use Rattle.step_laws.proofs.UnitSteps.{engine_longer}
use Rattle.write_ring.specs.declared.view.View.{View}
use Rattle.pblk_core.specs.Collecting.{Collects}
use Rattle.pblk_core.specs.Copies.{is_copy_due, is_copying}
use Rattle.pblk_core.specs.Named.{choice, first_seq_of, pad_of, work_beside, work_of}
use Rattle.pblk_core.specs.Resets.{resets_of}
use Rattle.pblk_core.specs.Stands.{Stands, under_way}
use Rattle.pblk_core.specs.declared.target_core.Core.{Core}
use Rattle.pblk_core.specs.declared.work.Work.TheVariants as works
use Rattle.pblk_core.specs.declared.work.Why.{Why}
use Rattle.pblk_core.specs.declared.work.Why.TheVariants as whys
use Rattle.pblk_core.proofs.CopiesDue.{copy_by_test, test_of_copy}
use Rattle.pblk_core.proofs.Laws.{reset_empty}
use Rattle.pblk_core.proofs.StandsTold.{collects_told, copies_told, stands_told}
use Rattle.pblk_model.proofs.Options.{none_there}
use Rattle.pblk_model.proofs.Maps.{in_filter, range_get}
use Rattle.pblk_model.proofs.Tests.{either_false, le_of_lt_false, not_both}
use Rattle.pblk_engine.specs.Hearts.{IsHeart}
use Rattle.pblk_engine.proofs.Decisions.{by_left, none_to_free_left, told_left}
use Rattle.pblk_engine.proofs.NextWork.{no_reset_named, none_first}
use Rattle.pblk_engine.proofs.NoneToPlace.{answered, none_due_now, none_opened, not_placed}

-- ---- what is chosen

same_why : (a b : Why) → works.Nothing a ≡ works.Nothing b → a ≡ b
same_why a b e = cc

-- no copy is chosen, and nothing is in flight where the reason is another
not_chosen : (has_stripe asks_line has_free may_open has_copy in_flight : Bool) (reason : Why)
    → choice has_stripe asks_line has_free may_open has_copy in_flight ≡ works.Nothing reason → reason ≢ whys.Busy
    → (has_copy ≡ false) × (in_flight ≡ false)
not_chosen true a h m k f reason e other = absurd cc
not_chosen false false h m true f reason e other = absurd cc
not_chosen false false h m false true reason e other = absurd (other (sym (same_why whys.Busy reason e)))
not_chosen false false h m false false reason e other = (refl, refl)
not_chosen false true false m true f reason e other = absurd cc
not_chosen false true false m false true reason e other = absurd (other (sym (same_why whys.Busy reason e)))
not_chosen false true false m false false reason e other = (refl, refl)
not_chosen false true true false true f reason e other = absurd cc
not_chosen false true true false false true reason e other = absurd (other (sym (same_why whys.Busy reason e)))
not_chosen false true true false false false reason e other = (refl, refl)
not_chosen false true true true k f reason e other = absurd cc

-- with no copy under way
not_due : (due copying : Bool) → copying ≡ false → (due && not copying) ≡ false → due ≡ false
not_due due true none e = absurd cc
not_due true false none e = absurd cc
not_due false false none e = refl

-- where no unit has a stripe that isn't answered, no such stripe is on any
none_counted : (n : ℕ) → nat_lt 0 n ≡ false → n ≡ 0
none_counted n e = let low : n ≤ 0 = le_of_lt_false 0 n e in omega arith

pub empty_counts : {X : Type 0} (xs : List X) → length xs ≡ 0 → xs ≡ []
empty_counts [] e = refl
empty_counts (x ∷ xs) e = absurd (omega arith)

module _ (i : Image) (w : World) (pad : ℕ) (again : List ℕ) (copying : Bool) (reason : Why) (mount : IsLegalMount i w) (other : reason ≢ whys.Busy)
    (none : work_of i (log_of w) pad again copying ≡ works.Nothing reason) where
  named : (slice_get (resets_of i (log_of w)) 0 ≡ None) × (work_beside i (log_of w) pad again copying ≡ works.Nothing reason)
  named = no_reset_named (slice_get (resets_of i (log_of w)) 0) (work_beside i (log_of w) pad again copying) (works.Nothing reason)
      (λ line unit e. absurd cc) none

  none_reset : AreReset i (log_of w)
  none_reset line range given = reset_empty i w line mount (none_first (resets_of i (log_of w)) named.0) range given

  placed : (is_some (next_stripe (placing_of i (log_of w) pad again) 0) ≡ false)
      × ((nat_lt 0 (length (waiting i.shape (log_of w 0))) && (open_addresses i (log_of w) == 0)) ≡ true
      → (is_some (position is_free (rows_of i (log_of w)).rows) ≡ false)
      ⊎ ((nat_lt (length (open_lines i (log_of w))) 2 &&
      (nat_lt (first_seq_of (log_of w) + length (openings (log_of w 0))) (2 ^ 61) && nat_lt (synced i.shape (log_of w 0)) (2 ^ 61))) ≡ false))
  placed = not_placed _ _ _ _ _ _ (works.Nothing reason) named.1 (λ e. absurd cc) (λ e. absurd cc)

  chosen : ((is_copy_due i (log_of w) && not copying) ≡ false) × ((nat_lt 0 (under_way i.shape (log_of w 0)) || copying) ≡ false)
  chosen = not_chosen (is_some (next_stripe (placing_of i (log_of w) pad again) 0))
      (nat_lt 0 (length (waiting i.shape (log_of w 0))) && (open_addresses i (log_of w) == 0))
      (is_some (position is_free (rows_of i (log_of w)).rows))
      (nat_lt (length (open_lines i (log_of w))) 2 &&
      (nat_lt (first_seq_of (log_of w) + length (openings (log_of w 0))) (2 ^ 61) && nat_lt (synced i.shape (log_of w 0)) (2 ^ 61)))
      (is_copy_due i (log_of w) && not copying) (nat_lt 0 (under_way i.shape (log_of w 0)) || copying) reason named.1 other

  idle : (nat_lt 0 (under_way i.shape (log_of w 0)) ≡ false) × (copying ≡ false)
  idle = either_false (nat_lt 0 (under_way i.shape (log_of w 0))) copying chosen.1

  pub none_copied : ¬ IsCopyDue i (log_of w)
  none_copied due = not_both (is_copy_due i (log_of w)) (test_of_copy i (log_of w) due) (not_due (is_copy_due i (log_of w)) copying idle.1 chosen.0)

  -- each stripe that was placed is answered
  none_waits : (unit : ℕ) → unit < units i.shape → unanswered_on (log_of w 0) unit ≡ None
  none_waits unit inside = none_there (unanswered_on (log_of w 0) unit) (go (is_some (unanswered_on (log_of w 0) unit)) refl)
    where
      go : (b : Bool) → is_some (unanswered_on (log_of w 0) unit) ≡ b → b ≡ false
      go false is = refl
      go true is =
          let at : slice_get (range_with_len 0 (units i.shape)) unit ≡ Some unit = range_get 0 (units i.shape) unit inside
          ∙ ap (λ n. Some n) (let zero : 0 + unit ≡ unit = omega arith in zero) in
          let among = in_filter (λ u. is_some (unanswered_on (log_of w 0) u)) (range_with_len 0 (units i.shape)) unit (unit, at) is in
          let empty = empty_counts (filter (λ u. is_some (unanswered_on (log_of w 0) u)) (range_with_len 0 (units i.shape)))
          (none_counted (under_way i.shape (log_of w 0)) idle.0) in
          absurd (none-some unit (ap (λ us. slice_get us among.0) (sym empty) ∙ among.1))

  row_idle : (unit : ℕ) → unit < units i.shape → slice_get (placing_of i (log_of w) pad again).units unit ≡ Some Idle
  row_idle unit inside = row_there i (log_of w) again unit inside
      ∙ ap (λ o. Some (option_map_or (λ (p : Placed). row_in i (log_of w) (waits_again (log_of w 0) again unit) p.life p) o Idle)) (none_waits unit inside)

  pub is_resting : (asked : ℕ) → pad_target i (log_of w) asked ≤ pad → AreResetsNoted (log_of w) → NoneToFree i (log_of w) → IsResting i (log_of w) asked
  is_resting asked within noted settled = record {
    no_work = record {
      no_reset = none_reset;
      no_program = λ stripe. none_due_now i w pad again mount row_idle (none_there (next_stripe (placing_of i (log_of w) pad again) 0) placed.0)
          (pad_target i (log_of w) asked) stripe within;
      no_opening = none_opened i w mount placed.1;
      no_copy = none_copied;
    };
    stripes = answered i w pad again mount row_idle;
    resets = noted;
    none_to_free = settled;
  }

-- ---- a heart whose core names no work

pub pad_kept : (asked x pad : ℕ) → max 0 x ≤ pad → asked ≤ pad → max asked x ≤ pad
pad_kept asked x pad low within = omega arith

module _ (i : Image) (w : World) (c : Core) (v : View) (mount : IsLegalMount i w) (is : IsHeart i (log_of w) c v) (none_to_free : NoneToFree i (log_of w)) where
  abbrev then_ : World
  then_ = is.left.left

  pub stands_then : Stands i (log_of is.left.left) c
  stands_then = stands_told i (log_of w) (log_of then_) (told_left i w c v mount is) c is.stands

  pub collects_then : Collects i (log_of is.left.left) c
  collects_then = collects_told i (log_of w) (log_of then_) (told_left i w c v mount is) c is.collects

  noted_then : AreResetsNoted (log_of then_)
  noted_then = subst AreResetsNoted is.left.whole (noted_at (log_of w) is.noted)

  pub rests : (reason : Why) → reason ≢ whys.Busy → work_of i (log_of is.left.left) (pad_of c) stands_then.again (is_copying c) ≡ works.Nothing reason
      → (asked : ℕ) → asked ≤ pad_of c → IsAtRest i (log_of w) asked (length (log_of w 0))
  rests reason other none asked within = record {
    has_begun = engine_longer w is.stands.beginning is.stands.has_begun;
    within = le_refl (length (log_of w 0));
    resting = by_left i w c v mount is (λ (logs : Logs). IsResting i logs asked)
        (is_resting i then_ (pad_of c) stands_then.again (is_copying c) reason is.left.legal other none asked
        (pad_kept asked _ (pad_of c) collects_then.asked within) noted_then (none_to_free_left i w c v mount is none_to_free));
  }

  -- nor is a copy due by all that it knows
  pub none_to_copy : (reason : Why) → reason ≢ whys.Busy → work_of i (log_of is.left.left) (pad_of c) stands_then.again (is_copying c) ≡ works.Nothing reason
      → ¬ IsCopyDue i (log_of w)
  none_to_copy reason other none due =
      none_copied i then_ (pad_of c) stands_then.again (is_copying c) reason is.left.legal other none
      (copy_by_test i (log_of then_) (copies_told i (log_of w) (log_of then_) (told_left i w c v mount is) ∙ test_of_copy i (log_of w) due))
