-- Where a core offers no stripe and no unit has one, and no line may be opened, none is to be placed and none to be opened.
use Rattle.std.proofs.Common.{◌≡◌, ◌≢◌, ◌⊎◌, inl, inr, ℕ, ◌+◌, ◌<◌, ◌≤◌, ◌^◌, ◌==◌, ◌&&◌, not, nat_lt, Bool, true, false, Some, None, Option, List, length, refl, sym, ap, ap₂, ◌∙◌, arith, ◌++◌, map}
use Rattle.std.specs.Prelude.{slice_get, position, nat_eq}
use Rattle.std.specs.List.{Contains, range_with_len, filter_map}
use Rattle.std.specs.Option.{is_some, option_map_or}
use Rattle.std.proofs.lemmas.Bool.{cases_order}
use Rattle.std.proofs.lemmas.List.{length-map}
use Rattle.pblk_model.specs.Image.{Image, line_units}
use Rattle.pblk_model.specs.Shape.{units}
use Rattle.pblk_model.specs.StartRecord.{StartRecord}
use Rattle.pblk_world.specs.Events.{Stripe}
use Rattle.pblk_world.specs.World.{World, Logs, log_of}
use Rattle.pblk_world.specs.EngineLog.{Begun, begun, Opening, openings, Opened, life_of, Placed, placements, is_answered}
use Rattle.pblk_world.specs.Fronts.{synced, waiting}
use Rattle.pblk_world.specs.Lines.{known_image, is_free_line, has_stripe_left}
use Rattle.pblk_world.specs.LegalMounts.{IsLegalMount}
use Rattle.pblk_world.specs.Opening.{MayOpen}
use Rattle.pblk_world.specs.Space.{open_addresses}
use Rattle.pblk_world.specs.AtRest.{IsDue}
use Rattle.line_table.specs.Rows.{is_free}
use Rattle.stripe_placer.specs.OpenLines.{has_left}
use Rattle.stripe_placer.specs.Placing.{next_stripe, Program, UnitRow, stopped_in, is_under_way, is_ready, next_in}
use Rattle.stripe_placer.specs.Placing.UnitRow.{Idle, UnderWay, Stopped}
use Rattle.core_laws.specs.LeftOpenings.{left_openings}
use Rattle.core_laws.specs.OpenedLines.{open_line, open_lines, standing}
use Rattle.core_laws.specs.PlacerOf.{placing_of, entries_of, unit_row_in}
use Rattle.core_laws.specs.RowsOf.{rows_of}
use Rattle.core_laws.proofs.Followed.{follow}
use Rattle.core_laws.proofs.IdleRows.{its_row, row_there}
use Rattle.core_laws.proofs.LeftLines.{lines_of_left, left_opened, left_apart}
use Rattle.core_laws.proofs.NextLine.{none_free}
use Rattle.core_laws.proofs.NoneDue.{idle_answered, none_at, none_due}
use Rattle.core_laws.proofs.OpenedTurns.{chunks_left}
use Rattle.core_laws.proofs.PlainOpenings.{opened_lines}
use Rattle.core_laws.proofs.UnitTurns.{filtered_is}
use Rattle.pblk_core.specs.Named.{choice, first_seq_of}
use Rattle.pblk_core.specs.declared.work.Work.TheVariants as works
use Rattle.pblk_model.proofs.Options.{none_there}
use Rattle.pblk_model.proofs.Maps.{given_at}
use Rattle.pblk_model.proofs.Parts.{all_at, got_within}
use Rattle.pblk_model.proofs.Tests.{lt_true, not_both}
use Rattle.pblk_core.specs.declared.work.Work.{Work}
use Rattle.std.proofs.lemmas.Nat.Bits.{bit_at-zero}
use Rattle.pblk_model.proofs.Lists.{IsAmong, among_more}

-- ---- what is chosen

-- neither a program nor an opening is chosen
pub not_placed : (has_stripe asks_line has_free may_open has_copy in_flight : Bool) (work : Work)
    → choice has_stripe asks_line has_free may_open has_copy in_flight ≡ work → work ≢ works.Program → work ≢ works.Open
    → (has_stripe ≡ false) × (asks_line ≡ true → (has_free ≡ false) ⊎ (may_open ≡ false))
not_placed true a h m k f work e program opening = absurd (program (sym e))
not_placed false false h m k f work e program opening = (refl, λ asks. absurd cc)
not_placed false true false m k f work e program opening = (refl, λ asks. inl refl)
not_placed false true true false k f work e program opening = (refl, λ asks. inr refl)
not_placed false true true true k f work e program opening = absurd (opening (sym e))

-- ---- units without a stripe that was stopped

not_under_way : (r : UnitRow) (of : Program) → stopped_in r ≡ Some of → is_under_way r ≡ false
not_under_way Idle of e = absurd cc
not_under_way (UnderWay p) of e = absurd cc
not_under_way (Stopped p) of e = refl

idle_row : (r : UnitRow) → is_under_way r ≡ false → stopped_in r ≡ None → r ≡ Idle
idle_row Idle going stopped = refl
idle_row (UnderWay p) going stopped = absurd cc
idle_row (Stopped p) going stopped = absurd cc

module _ (i : Image) (logs : Logs) (pad : ℕ) (again : List ℕ) (none : next_stripe (placing_of i logs pad again) 0 ≡ None) (unit : ℕ)
    (inside : unit < units i.shape) where
  abbrev rows : List UnitRow
  rows = map (unit_row_in i logs again) (range_with_len 0 (units i.shape))

  -- one that was stopped would be offered
  no_stopped : stopped_in (unit_row_in i logs again unit) ≡ None
  no_stopped = go (stopped_in (unit_row_in i logs again unit)) refl
    where
      go : (o : Option Program) → stopped_in (unit_row_in i logs again unit) ≡ o → o ≡ None
      go None e = refl
      go (Some of) e = absurd (not_both (is_ready rows 0 of.unit) yes_ no_)
        where
          there : slice_get rows unit ≡ Some (unit_row_in i logs again unit)
          there = row_there i logs again unit inside

          among : IsAmong (filter_map stopped_in rows ++ filter_map (next_in i.shape (entries_of i.shape (logs 0) pad)) (open_lines i logs)) of
          among = among_more (filter_map stopped_in rows) (filter_map (next_in i.shape (entries_of i.shape (logs 0) pad)) (open_lines i logs)) of
              (given_at stopped_in rows (unit_row_in i logs again unit) of unit there e)

          no_ : is_ready rows 0 of.unit ≡ false
          no_ = none_at (λ (x : Program). is_ready rows 0 x.unit)
              (filter_map stopped_in rows ++ filter_map (next_in i.shape (entries_of i.shape (logs 0) pad)) (open_lines i logs)) among.0 of none among.1

          yes_ : is_ready rows 0 of.unit ≡ true
          yes_ = ap₂ (λ b (r : Option UnitRow). not (nat_eq b 1) && not (option_map_or is_under_way r false)) (bit_at-zero of.unit)
              (ap (slice_get rows) (its_row i logs again unit of e) ∙ there)
              ∙ ap not (not_under_way (unit_row_in i logs again unit) of e)

  -- so it has none, where none is under way
  pub still_idle : is_under_way (unit_row_in i logs again unit) ≡ false → slice_get (placing_of i logs pad again).units unit ≡ Some Idle
  still_idle going = row_there i logs again unit inside ∙ ap (λ (r : UnitRow). Some r) (idle_row (unit_row_in i logs again unit) going no_stopped)

-- ---- each unit is idle

module _ (i : Image) (w : World) (pad : ℕ) (again : List ℕ) (mount : IsLegalMount i w)
    (idle : (unit : ℕ) → unit < units i.shape → slice_get (placing_of i (log_of w) pad again).units unit ≡ Some Idle) where
  pub answered : (p : Placed) → Contains (placements (log_of w 0)) p → is_answered (log_of w 0) p ≡ true
  answered p there = idle_answered i (line_units (known_image i (log_of w))) w pad again p (follow i w mount) idle there

  pub none_due_now : next_stripe (placing_of i (log_of w) pad again) 0 ≡ None → (asked : ℕ) (stripe : Stripe) → asked ≤ pad → ¬ IsDue i (log_of w) asked stripe
  none_due_now none asked stripe within =
      none_due i (line_units (known_image i (log_of w))) w pad again asked stripe (follow i w mount) none answered within

-- ---- no line may be opened

module _ (i : Image) (w : World) (mount : IsLegalMount i w)
    (opens_none : (nat_lt 0 (length (waiting i.shape (log_of w 0))) && (open_addresses i (log_of w) == 0)) ≡ true
    → (is_some (position is_free (rows_of i (log_of w)).rows) ≡ false)
    ⊎ ((nat_lt (length (open_lines i (log_of w))) 2 &&
    (nat_lt (first_seq_of (log_of w) + length (openings (log_of w 0))) (2 ^ 61) && nat_lt (synced i.shape (log_of w 0)) (2 ^ 61))) ≡ false)) where
  -- where a line may be opened, at most one has a stripe left
  one_line : (b : Begun) (line : ℕ) (start : StartRecord) → MayOpen i (log_of w) b line start → length (open_lines i (log_of w)) < 2
  one_line b line start may = go (cases_order (length (left_openings i (log_of w))) 1)
    where
      count : length (open_lines i (log_of w)) ≡ length (left_openings i (log_of w))
      count = ap length (lines_of_left i (log_of w)) ∙ length-map (left_openings i (log_of w)) (open_line i (log_of w))

      opened_at : (k : ℕ) (o : Opening) → slice_get (left_openings i (log_of w)) k ≡ Some o → life_of (log_of w 0) o.line ≡ Opened o
      opened_at k o e = all_at (λ (o : Opening). life_of (log_of w 0) o.line ≡ Opened o) (left_openings i (log_of w)) k o e (left_opened i (log_of w))

      left_at : (k : ℕ) (o : Opening) → slice_get (left_openings i (log_of w)) k ≡ Some o → has_left (open_line i (log_of w) o) ≡ true
      left_at k o e = filtered_is (λ o. has_left (open_line i (log_of w) o)) (standing (log_of w 0)) k o e

      has_at : (k : ℕ) (o : Opening) → slice_get (left_openings i (log_of w)) k ≡ Some o → has_stripe_left i (log_of w) o.line ≡ true
      has_at k o e = chunks_left i w o mount (opened_at k o e) (left_at k o e)

      range_of : (line : ℕ) (o : Opening) → life_of (log_of w 0) line ≡ Opened o → line < i.shape.chunks
      range_of line o life = (opened_lines i (line_units (known_image i (log_of w))) w (follow i w mount) line o life).in_range

      two : (a c : Opening) → slice_get (left_openings i (log_of w)) 0 ≡ Some a → slice_get (left_openings i (log_of w)) 1 ≡ Some c → ⊥
      two a c e f =
          let one : a.line ≡ c.line = may.one_other a.line c.line (range_of a.line a (opened_at 0 a e)) (range_of c.line c (opened_at 1 c f)) (has_at 0 a e)
          (has_at 1 c f) in
          let same : 0 ≡ 1 = left_apart i (log_of w) 0 1 a c e f one in
          absurd (omega (arith, same))

      go : (length (left_openings i (log_of w)) ≡ 1) ⊎ ((length (left_openings i (log_of w)) < 1) ⊎ (1 < length (left_openings i (log_of w))))
          → length (open_lines i (log_of w)) < 2
      go (inl same) = omega (arith, count, same)
      go (inr (inl few)) = omega (arith, count, few)
      go (inr (inr many)) =
          let a : (o : Opening) × (slice_get (left_openings i (log_of w)) 0 ≡ Some o) = got_within (left_openings i (log_of w)) 0 (omega (arith, many)) in
          let c : (o : Opening) × (slice_get (left_openings i (log_of w)) 1 ≡ Some o) = got_within (left_openings i (log_of w)) 1 many in
          absurd (two a.0 c.0 a.1 c.1)

  pub none_opened : (b : Begun) (line : ℕ) (start : StartRecord) → begun (log_of w 0) ≡ Some b → 0 < length (waiting i.shape (log_of w 0))
      → open_addresses i (log_of w) ≡ 0 → ¬ MayOpen i (log_of w) b line start
  none_opened b line start has waits full may = go (opens_none asks)
    where
      asks : (nat_lt 0 (length (waiting i.shape (log_of w 0))) && (open_addresses i (log_of w) == 0)) ≡ true
      asks = ap₂ (λ x n. x && (n == 0)) (lt_true 0 (length (waiting i.shape (log_of w 0))) waits) full

      seq : first_seq_of (log_of w) + length (openings (log_of w 0)) ≡ start.seq
      seq = ap (λ (o : Option Begun). option_map_or (λ (x : Begun). x.beginning.seq) o 0 + length (openings (log_of w 0))) has ∙ sym may.seq

      low : first_seq_of (log_of w) + length (openings (log_of w 0)) < 2 ^ 61
      low = let number : start.seq < 2 ^ 61 = may.seq_number in omega (arith, seq, number)

      front : synced i.shape (log_of w 0) < 2 ^ 61
      front = let number : start.front < 2 ^ 61 = may.front_number in let is : start.front ≡ synced i.shape (log_of w 0) =
          may.front in omega (arith, is, number)

      opens : (nat_lt (length (open_lines i (log_of w))) 2 &&
          (nat_lt (first_seq_of (log_of w) + length (openings (log_of w 0))) (2 ^ 61) && nat_lt (synced i.shape (log_of w 0)) (2 ^ 61))) ≡ true
      opens = ap₂ (λ x y. x && y) (lt_true (length (open_lines i (log_of w))) 2 (one_line b line start may))
          (ap₂ (λ x y. x && y) (lt_true (first_seq_of (log_of w) + length (openings (log_of w 0))) (2 ^ 61) low)
          (lt_true (synced i.shape (log_of w 0)) (2 ^ 61) front))

      go : (is_some (position is_free (rows_of i (log_of w)).rows) ≡ false)
          ⊎ ((nat_lt (length (open_lines i (log_of w))) 2 &&
          (nat_lt (first_seq_of (log_of w) + length (openings (log_of w 0))) (2 ^ 61) && nat_lt (synced i.shape (log_of w 0)) (2 ^ 61))) ≡ false) → ⊥
      go (inl no_free) = not_both (is_free_line i (log_of w) line) may.is_free
          (none_free i (log_of w) line (none_there (position is_free (rows_of i (log_of w)).rows) no_free) may.in_range)
      go (inr not_open) = not_both _ opens not_open
