-- Stripes that are under way. A heart whose core names a copy, and that has none: nothing else can be done.
use Rattle.std.proofs.Common.{◌≡◌, ◌⊎◌, ℕ, ◌+◌, ◌<◌, ◌^◌, ◌==◌, ◌&&◌, nat_lt, true, false, Some, None, Option, List, length, refl, sym, ap, ◌∙◌, le_refl}
use Rattle.std.specs.Prelude.{slice_get, position}
use Rattle.std.specs.List.{Contains}
use Rattle.std.specs.Option.{is_some, option_map_or}
use Rattle.std.proofs.lemmas.Option.{same_Some}
use Rattle.pblk_model.specs.Image.{Image}
use Rattle.pblk_model.specs.Shape.{units}
use Rattle.pblk_world.specs.World.{World, Logs, log_of}
use Rattle.pblk_world.specs.EngineLog.{Placed, answers, is_answered, openings, placements}
use Rattle.pblk_world.specs.Fronts.{synced, waiting}
use Rattle.pblk_world.specs.LegalMounts.{IsLegalMount}
use Rattle.pblk_world.specs.Orders.{NoneToFree}
use Rattle.pblk_world.specs.Space.{open_addresses}
use Rattle.pblk_world.specs.AtRest.{pad_target, logs_at}
use Rattle.line_table.specs.Rows.{is_free}
use Rattle.stripe_placer.specs.Placing.{next_stripe, Placing, Program, UnitRow, is_under_way}
use Rattle.stripe_placer.specs.Placing.UnitRow.{Idle, UnderWay, Stopped}
use Rattle.core_laws.specs.OpenedLines.{open_lines}
use Rattle.core_laws.specs.PlacerOf.{placing_of, row_in, unanswered_on, unit_row_in, waits_again}
use Rattle.core_laws.specs.RowsOf.{rows_of}
use Rattle.core_laws.proofs.AnsweredUnits.{first_answer}
use Rattle.core_laws.proofs.IdleRows.{row_there}
use Rattle.write_ring.specs.declared.view.View.{View}
use Rattle.pblk_core.specs.Collecting.{Collects}
use Rattle.pblk_core.specs.Copies.{is_copying}
use Rattle.pblk_core.specs.Named.{first_seq_of, pad_of, work_beside, named}
use Rattle.pblk_core.specs.Resets.{resets_of}
use Rattle.pblk_core.specs.Stands.{Stands}
use Rattle.pblk_core.specs.declared.target_core.Core.{Core}
use Rattle.pblk_core.specs.declared.work.Work.TheVariants as works
use Rattle.pblk_model.proofs.Maps.{from_filter}
use Rattle.pblk_model.proofs.Options.{none_there}
use Rattle.pblk_model.proofs.Parts.{contained_among}
use Rattle.pblk_engine.specs.Hearts.{IsHeart}
use Rattle.pblk_engine.proofs.Decisions.{by_left}
use Rattle.pblk_engine.proofs.NextWork.{no_reset_named, none_first}
use Rattle.pblk_core.specs.Landing.{IsUnderWayOn}
use Rattle.pblk_core.proofs.Laws.{reset_empty}
use Rattle.pblk_core.proofs.WorkOf.{work_is}
use Rattle.pblk_engine.specs.Alone.{IsCopyAlone}
use Rattle.pblk_engine.proofs.NoneToPlace.{answered, none_due_now, none_opened, not_placed, still_idle}
use Rattle.pblk_engine.proofs.CopySearch.{copy_named}
use Rattle.pblk_engine.proofs.RestingHearts.{collects_then, pad_kept, stands_then}

-- ---- a stripe that is under way

-- it isn't answered
pub under_way_waits : (i : Image) (logs : Logs) (again : List ℕ) (unit : ℕ) (of : Program) → unit_row_in i logs again unit ≡ UnderWay of
    → (p : Placed) × Contains (placements (logs 0)) p × (is_answered (logs 0) p ≡ false)
under_way_waits i logs again unit of row = go (unanswered_on (logs 0) unit) refl row
  where
    go : (o : Option Placed) → unanswered_on (logs 0) unit ≡ o
        → option_map_or (λ (p : Placed). row_in i logs (waits_again (logs 0) again unit) p.life p) o Idle ≡ UnderWay of
        → (p : Placed) × Contains (placements (logs 0)) p × (is_answered (logs 0) p ≡ false)
    go None e row = absurd cc
    go (Some p) e row = (
      p,
      contained_among (placements (logs 0)) p
          (from_filter (λ (q : Placed). q.stripe.unit == unit) (placements (logs 0)) p (length (answers (logs 0) unit), e)),
      ap is_some (first_answer (logs 0) unit p e),
    )

pub waits_on : (i : Image) (logs : Logs) (c : Core) → Stands i logs c → (unit : ℕ) → unit < units i.shape → IsUnderWayOn c unit
    → (p : Placed) × Contains (placements (logs 0)) p × (is_answered (logs 0) p ≡ false)
waits_on i logs c st unit inside on =
    under_way_waits i logs st.again unit on.0 (same_Some (unit_row_in i logs st.again unit) (UnderWay on.0)
    (sym (row_there i logs st.again unit inside) ∙ ap (λ (p : Placing). slice_get p.units unit) (sym st.placing) ∙ on.1))

-- ---- a copy alone

module _ (i : Image) (w : World) (c : Core) (v : View) (mount : IsLegalMount i w) (is : IsHeart i (log_of w) c v) (none_to_free : NoneToFree i (log_of w))
    (names : named c ≡ works.Copy) (none_going : (unit : ℕ) → unit < units i.shape → ¬ IsUnderWayOn c unit) where
  abbrev then_ : World
  then_ = is.left.left

  stands : Stands i (log_of is.left.left) c
  stands = stands_then i w c v mount is none_to_free

  collects : Collects i (log_of is.left.left) c
  collects = collects_then i w c v mount is none_to_free

  no_reset : (slice_get (resets_of i (log_of is.left.left)) 0 ≡ None)
      × (work_beside i (log_of is.left.left) (pad_of c) stands.again (is_copying c) ≡ works.Copy)
  no_reset = no_reset_named (slice_get (resets_of i (log_of then_)) 0) (work_beside i (log_of then_) (pad_of c) stands.again (is_copying c)) works.Copy
      (λ line unit e. absurd cc) (sym (work_is i then_ c is.left.legal stands collects) ∙ names)

  beside : work_beside i (log_of is.left.left) (pad_of c) stands.again (is_copying c) ≡ works.Copy
  beside = no_reset.1

  placed : (is_some (next_stripe (placing_of i (log_of is.left.left) (pad_of c) stands.again) 0) ≡ false)
      × ((nat_lt 0 (length (waiting i.shape (log_of is.left.left 0))) && (open_addresses i (log_of is.left.left) == 0)) ≡ true
      → (is_some (position is_free (rows_of i (log_of is.left.left)).rows) ≡ false)
      ⊎ ((nat_lt (length (open_lines i (log_of is.left.left))) 2 &&
      (nat_lt (first_seq_of (log_of is.left.left) + length (openings (log_of is.left.left 0))) (2 ^ 61)
      && nat_lt (synced i.shape (log_of is.left.left 0)) (2 ^ 61))) ≡ false))
  placed = not_placed _ _ _ _ _ _ works.Copy beside (λ e. absurd cc) (λ e. absurd cc)

  no_stripe : next_stripe (placing_of i (log_of is.left.left) (pad_of c) stands.again) 0 ≡ None
  no_stripe = none_there (next_stripe (placing_of i (log_of then_) (pad_of c) stands.again) 0) placed.0

  not_going : (unit : ℕ) → unit < units i.shape → is_under_way (unit_row_in i (log_of is.left.left) stands.again unit) ≡ false
  not_going unit inside = go (unit_row_in i (log_of then_) stands.again unit) refl
    where
      go : (r : UnitRow) → unit_row_in i (log_of is.left.left) stands.again unit ≡ r → is_under_way r ≡ false
      go Idle e = refl
      go (Stopped of) e = refl
      go (UnderWay of) e = absurd (none_going unit inside (
        of,
        ap (λ (p : Placing). slice_get p.units unit) stands.placing ∙ row_there i (log_of then_) stands.again unit inside
            ∙ ap (λ (r : UnitRow). Some r) e,
      ))

  row_idle : (unit : ℕ) → unit < units i.shape → slice_get (placing_of i (log_of is.left.left) (pad_of c) stands.again).units unit ≡ Some Idle
  row_idle unit inside = still_idle i (log_of then_) (pad_of c) stands.again no_stripe unit inside (not_going unit inside)

  alone_then : IsCopyAlone i (log_of is.left.left)
  alone_then = record {
    reset = λ line inside given. reset_empty i then_ line is.left.legal (none_first (resets_of i (log_of then_)) no_reset.0) inside given;
    asked = pad_of c;
    stripes = answered i then_ (pad_of c) stands.again is.left.legal row_idle;
    no_program = λ stripe. none_due_now i then_ (pad_of c) stands.again is.left.legal row_idle no_stripe (pad_target i (log_of then_) (pad_of c)) stripe
        (pad_kept (pad_of c) _ (pad_of c) collects.asked (le_refl (pad_of c)));
    no_opening = none_opened i then_ is.left.legal placed.1;
    due = (copy_named i then_ c is.left.legal stands collects names).1;
  }

  pub copy_alone : IsCopyAlone i (logs_at (length (log_of w 0)) (log_of w))
  copy_alone = by_left i w c v mount is (IsCopyAlone i) alone_then
