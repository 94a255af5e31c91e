-- What a stop changes of a placer, and a program that is under way again.
use Rattle.std.proofs.Common.{◌≡◌, ◌≢◌, ℕ, ◌+◌, ◌==◌, ◌&&◌, ◌||◌, not, Bool, true, false, Some, None, Option, List, [], ◌∷◌, ◌++◌, refl, sym, ap, ap₂, ◌∙◌, arith, append-nil}
use Rattle.std.specs.Prelude.{map, slice_get, slice_set, if◌then◌else◌}
use Rattle.std.specs.List.{filter, range_with_len}
use Rattle.std.specs.Option.{option_map_or}
use Rattle.pblk_model.specs.declared.shape.Shape.{Shape}
use Rattle.pblk_model.specs.Shape.{units}
use Rattle.pblk_model.specs.Image.{Image}
use Rattle.pblk_world.specs.Events.{Again, Decides, Logged}
use Rattle.pblk_world.specs.World.{Logs}
use Rattle.pblk_world.specs.EngineLog.{LineLife, AsFound, Opened, Freed, takes, Placed, placements, answers, openings}
use Rattle.pblk_world.specs.Fronts.{was_placed, waits}
use Rattle.pblk_world.proofs.Appending.{life_more, openings_more, placements_more}
use Rattle.stripe_placer.specs.Placing.{Program, UnitRow, Placing, IsUnderWay, stopped, placed, placed_again, placed_first, is_stopped}
use Rattle.stripe_placer.specs.Placing.UnitRow.{Idle, UnderWay, Stopped}
use Rattle.core_laws.specs.Stepping.{after}
use Rattle.core_laws.specs.OpenedLines.{open_lines}
use Rattle.core_laws.specs.PlacerOf.{positions_of, lost_entries, fresh_entries, entries_of, program_of_placed, row_of_program, row_in, unanswered_on, was_stopped_on, contains_unit, without_unit, waits_again, unit_row_in, placing_of}
use Rattle.core_laws.proofs.Engine.{stopped_more}
use Rattle.core_laws.proofs.Steady.{AreAlike, is_lost_same, is_fresh_same, standing_same, lines_same, row_same, row_in_same, unanswered_before, unanswered_in}
use Rattle.core_laws.proofs.Taking.{same_placing, same_entries}
use Rattle.core_laws.proofs.UnitRows.{not_without, others_within, under_way_is, stopped_is}
use Rattle.pblk_model.proofs.Maps.{filter_same, row_at, rows_set}
use Rattle.pblk_model.proofs.Numbers.{fun_same}
use Rattle.pblk_model.proofs.Tests.{other_number, same_number}
use Rattle.pblk_world.proofs.EngineLogLemmas.{answers_more, takes_more}

-- ---- entries

-- where as many entries were taken
pub entries_same : (s : Shape) (old new : List Logged) (pad : ℕ) → AreAlike old new → takes new ≡ takes old → entries_of s new pad ≡ entries_of s old pad
entries_same s old new pad alike same =
    same_entries (positions_of (lost_entries s new)) (positions_of (lost_entries s old)) (positions_of (fresh_entries s new))
    (positions_of (fresh_entries s old)) pad
    (ap positions_of (filter_same (λ u. waits s new u && was_placed s new u) (λ u. waits s old u && was_placed s old u) (is_lost_same s old new alike)
    (takes new) ∙ ap (filter (λ u. waits s old u && was_placed s old u)) same))
    (ap positions_of (filter_same (λ u. not (was_placed s new u)) (λ u. not (was_placed s old u)) (is_fresh_same s old new alike) (takes new)
    ∙ ap (filter (λ u. not (was_placed s old u))) same))

-- ---- the row of the unit

-- a row with a program is that of a stripe that isn't answered
turned_row : (i : Image) (logs : Logs) (was now : Bool) (life : LineLife) (p : Placed) (of : Program) → row_in i logs was life p ≡ UnderWay of
    → row_in i logs now life p ≡ row_of_program now of
turned_row i logs was now AsFound p of e = absurd cc
turned_row i logs was now (Opened o) p of e = ap (row_of_program now) (under_way_is was (program_of_placed i logs o p) of e)
turned_row i logs was now (Freed past k) p of e = absurd cc

stopped_row : (i : Image) (logs : Logs) (was now : Bool) (life : LineLife) (p : Placed) (of : Program) → row_in i logs was life p ≡ Stopped of
    → row_in i logs now life p ≡ row_of_program now of
stopped_row i logs was now AsFound p of e = absurd cc
stopped_row i logs was now (Opened o) p of e = ap (row_of_program now) (stopped_is was (program_of_placed i logs o p) of e).1
stopped_row i logs was now (Freed past k) p of e = absurd cc

by_row : (i : Image) (logs : Logs) (was now : Bool) (u : Option Placed) (of : Program)
    → option_map_or (λ (p : Placed). row_in i logs was p.life p) u Idle ≡ UnderWay of
    → option_map_or (λ (p : Placed). row_in i logs now p.life p) u Idle ≡ row_of_program now of
by_row i logs was now None of e = absurd cc
by_row i logs was now (Some p) of e = turned_row i logs was now p.life p of e

by_stopped_row : (i : Image) (logs : Logs) (was now : Bool) (u : Option Placed) (of : Program)
    → option_map_or (λ (p : Placed). row_in i logs was p.life p) u Idle ≡ Stopped of
    → option_map_or (λ (p : Placed). row_in i logs now p.life p) u Idle ≡ row_of_program now of
by_stopped_row i logs was now None of e = absurd cc
by_stopped_row i logs was now (Some p) of e = stopped_row i logs was now p.life p of e

-- ---- a program that is under way again

again_elsewhere : (i : Image) (logs : Logs) (again : List ℕ) (unit v : ℕ) → v ≢ unit → unit_row_in i logs (unit ∷ again) v ≡ unit_row_in i logs again v
again_elsewhere i logs again unit v other =
    ap (λ b. option_map_or (λ (p : Placed). row_in i logs (was_stopped_on (logs 0) v && not (b || contains_unit again v)) p.life p)
    (unanswered_on (logs 0) v) Idle) (other_number unit v (λ e. other (sym e)))

not_again : (a b c : Bool) → b ≡ true → (a && not (b || c)) ≡ false
not_again true true c e = refl
not_again false true c e = refl
not_again a false c e = absurd cc

again_here : (i : Image) (logs : Logs) (again : List ℕ) (of : Program) → unit_row_in i logs again of.unit ≡ Stopped of
    → unit_row_in i logs (of.unit ∷ again) of.unit ≡ UnderWay of
again_here i logs again of e =
    ap (λ b. option_map_or (λ (p : Placed). row_in i logs b p.life p) (unanswered_on (logs 0) of.unit) Idle)
    (not_again (was_stopped_on (logs 0) of.unit) (of.unit == of.unit) (contains_unit again of.unit) (same_number of.unit))
    ∙ by_stopped_row i logs (waits_again (logs 0) again of.unit) false (unanswered_on (logs 0) of.unit) of e

placed_stopped : (p : Placing) (of : Program) → slice_get p.units of.unit ≡ Some (Stopped of) → placed p of ≡ placed_again p of
placed_stopped p of e = ap (λ (r : Option UnitRow). if option_map_or is_stopped r false then placed_again p of else placed_first p of) e

pub placing_again : (i : Image) (logs : Logs) (pad : ℕ) (again : List ℕ) (of : Program)
    → slice_get (placing_of i logs pad again).units of.unit ≡ Some (Stopped of)
    → placing_of i logs pad (of.unit ∷ again) ≡ placed (placing_of i logs pad again) of
placing_again i logs pad again of e =
    let row = row_at (unit_row_in i logs again) (units i.shape) 0 of.unit (Stopped of) e in
    let from : 0 + of.unit ≡ of.unit = omega arith in
    same_placing i.shape (entries_of i.shape (logs 0) pad) (entries_of i.shape (logs 0) pad)
    (map (unit_row_in i logs (of.unit ∷ again)) (range_with_len 0 (units i.shape)))
    (slice_set (map (unit_row_in i logs again) (range_with_len 0 (units i.shape))) of.unit (UnderWay of))
    (open_lines i logs) (open_lines i logs)
    refl
    (rows_set (unit_row_in i logs again) (unit_row_in i logs (of.unit ∷ again)) (units i.shape) 0 of.unit (UnderWay of) row.0
    (ap (unit_row_in i logs (of.unit ∷ again)) from ∙ again_here i logs again of (ap (unit_row_in i logs again) (sym from) ∙ row.1))
    (λ m other. again_elsewhere i logs again of.unit m (λ e. other (e ∙ sym from))))
    refl
    ∙ sym (placed_stopped (placing_of i logs pad again) of e)

-- ---- a stop

abbrev with_stop : List Logged → ℕ → ℕ → List ℕ → List Logged
with_stop log unit event knows = log ++ record { event = Decides (Again unit event); knows = knows } ∷ []

alike : (log : List Logged) (unit event : ℕ) (knows : List ℕ) → AreAlike log (with_stop log unit event knows)
alike log unit event knows = record {
  placements = placements_more log (record { event = Decides (Again unit event); knows = knows }) ∙ append-nil (placements log);
  answers = fun_same (answers (with_stop log unit event knows)) (answers log)
      (λ u. answers_more log (record { event = Decides (Again unit event); knows = knows }) u ∙ append-nil (answers log u));
}

stopped_elsewhere : (log : List Logged) (unit event : ℕ) (knows again : List ℕ) (v : ℕ) → v ≢ unit
    → waits_again (with_stop log unit event knows) (without_unit unit again) v ≡ waits_again log again v
stopped_elsewhere log unit event knows again v other =
    ap₂ (λ a b. a && not b)
    (stopped_more log (record { event = Decides (Again unit event); knows = knows }) v
    ∙ ap (λ b. if b then true else was_stopped_on log v) (other_number unit v (λ e. other (sym e))))
    (others_within unit again v other)

stopped_now : (log : List Logged) (unit event : ℕ) (knows again : List ℕ) → waits_again (with_stop log unit event knows) (without_unit unit again) unit ≡ true
stopped_now log unit event knows again =
    ap₂ (λ a b. a && not b)
    (stopped_more log (record { event = Decides (Again unit event); knows = knows }) unit
    ∙ ap (λ b. if b then true else was_stopped_on log unit) (same_number unit))
    (not_without unit again)

-- the row of the unit, whose stripe isn't answered
stopped_here : (i : Image) (logs : Logs) (event : ℕ) (knows again : List ℕ) (of : Program) → unit_row_in i logs again of.unit ≡ UnderWay of
    → unit_row_in i (after logs (Again of.unit event) knows) (without_unit of.unit again) of.unit ≡ Stopped of
stopped_here i logs event knows again of e =
    let same = alike (logs 0) of.unit event knows in
    let open_now : unanswered_on (after logs (Again of.unit event) knows 0) of.unit ≡ unanswered_on (logs 0) of.unit =
    ap₂ (λ ps ns. unanswered_in ps ns of.unit) same.placements same.answers in
    ap₂ (λ b u. option_map_or (λ (p : Placed). row_in i (after logs (Again of.unit event) knows) b p.life p) u Idle)
    (stopped_now (logs 0) of.unit event knows again) open_now
    ∙ go (unanswered_on (logs 0) of.unit) refl
    ∙ by_row i logs (waits_again (logs 0) again of.unit) true (unanswered_on (logs 0) of.unit) of e
  where
    go : (u : Option Placed) → unanswered_on (logs 0) of.unit ≡ u
        → option_map_or (λ (p : Placed). row_in i (after logs (Again of.unit event) knows) true p.life p) u Idle ≡ option_map_or
        (λ (p : Placed). row_in i logs true p.life p) u Idle
    go None f = refl
    go (Some p) f = row_in_same i logs (Again of.unit event) knows true p.life p (unanswered_before (logs 0) of.unit p f)

pub placing_stopped : (i : Image) (logs : Logs) (event : ℕ) (knows : List ℕ) (pad : ℕ) (again : List ℕ) (of : Program)
    → IsUnderWay (placing_of i logs pad again) of
    → placing_of i (after logs (Again of.unit event) knows) pad (without_unit of.unit again) ≡ stopped (placing_of i logs pad again) of
placing_stopped i logs event knows pad again of e =
    let same : AreAlike (logs 0) (after logs (Again of.unit event) knows 0) = alike (logs 0) of.unit event knows in
    let l : Logged = record { event = Decides (Again of.unit event); knows = knows } in
    let new : Logs = after logs (Again of.unit event) knows in
    let row = row_at (unit_row_in i logs again) (units i.shape) 0 of.unit (UnderWay of) e in
    let from : 0 + of.unit ≡ of.unit = omega arith in
    same_placing i.shape (entries_of i.shape (new 0) pad) (entries_of i.shape (logs 0) pad)
    (map (unit_row_in i new (without_unit of.unit again)) (range_with_len 0 (units i.shape)))
    (slice_set (map (unit_row_in i logs again) (range_with_len 0 (units i.shape))) of.unit (Stopped of))
    (open_lines i new) (open_lines i logs)
    (entries_same i.shape (logs 0) (new 0) pad same (takes_more (logs 0) l ∙ append-nil (takes (logs 0))))
    (rows_set (unit_row_in i logs again) (unit_row_in i new (without_unit of.unit again)) (units i.shape) 0 of.unit (Stopped of) row.0
    (ap (unit_row_in i new (without_unit of.unit again)) from ∙ stopped_here i logs event knows again of (ap (unit_row_in i logs again) (sym from) ∙ row.1))
    (λ m other. row_same i logs (Again of.unit event) knows again (without_unit of.unit again) m
    (ap₂ (λ ps ns. unanswered_in ps ns m) same.placements same.answers)
    (stopped_elsewhere (logs 0) of.unit event knows again m (λ f. other (f ∙ sym from)))))
    (lines_same i logs (Again of.unit event) knows same
    (standing_same (logs 0) (new 0) (openings_more (logs 0) l ∙ append-nil (openings (logs 0))) (λ line. life_more (logs 0) l line)))
