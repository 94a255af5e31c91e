-- Which commands an opening lost that was refused, by what the units did: they have its answer.
use Rattle.std.proofs.Common.{◌≡◌, ◌≢◌, ◌⊎◌, inl, inr, ℕ, suc, ◌+◌, ◌-◌, ◌^◌, ◌<◌, ◌≤◌, true, Some, List, [], ◌∷◌, ◌++◌, length, length-append, min, refl, sym, subst, ap, ◌∙◌, arith, append-nil, lit<}
use Rattle.std.specs.Prelude.{slice_get}
use Rattle.std.specs.List.{filter_map}
use Rattle.std.specs.Option.{option_map_or}
use Rattle.std.proofs.lemmas.Bool.{cases_lt}
use Rattle.std.proofs.lemmas.Option.{none-some, same_Some}
use Rattle.pblk_model.specs.declared.shape.Shape.{Shape}
use Rattle.pblk_model.specs.Shape.{units}
use Rattle.pblk_model.specs.UnitLog.{UnitEvent}
use Rattle.pblk_model.proofs.Parts.{get_last, get_right, got_within}
use Rattle.pblk_world.specs.Events.{Logged}
use Rattle.pblk_world.specs.Makers.{opening_worker}
use Rattle.pblk_world.specs.World.{World, log_of, unit_event_of, unit_events}
use Rattle.core_laws.proofs.NextWorlds.{none_beyond}
use Rattle.unit_port.specs.Unit.{ModelUnit}
use Rattle.scan_recovery.specs.DriveFaults.{AreStepsOf, IsDriveFault, IsDriveFaultAt, drive_faults_of, is_drive_fault}
use Rattle.scan_recovery.specs.Units.{image_of, log_length}
use Rattle.scan_recovery.proofs.WorldLosses.{OneSince, losses_beside, losses_more}
use Rattle.block_port.specs.declared.rows.DriveAnswer.{DriveAnswer}
use Rattle.step_laws.specs.Opened.{after_events, after_units, new_events}
use Rattle.step_laws.specs.Whole.{opening_maker, unit_step}
use Rattle.block_target.specs.Closes.{answer_at}
use Rattle.block_target.specs.Opened.{AreReadied, readied_world}

-- the answer that names an event
abbrev pub answer_of : ℕ → ℕ → DriveAnswer
answer_of unit event = record { unit = unit; event = event }

-- a session's worker isn't the opening
pub first_is_other : 0 ≢ opening_worker
first_is_other same = let some : 0 < 2 ^ 64 = lit< tt in absurd (omega (arith, same))

events_by : (s : Shape) (unit : ℕ) (w : World) (events : List UnitEvent) → AreStepsOf opening_worker w
    → AreStepsOf opening_worker (after_events s unit w events)
events_by s unit w [] by = by
events_by s unit w (e ∷ events) by = events_by s unit (unit_step s unit e (opening_maker w) w ∷ w) events ((refl, omega arith), by)

units_by : (s : Shape) (unit : ℕ) (w : World) (all : List (List UnitEvent)) → AreStepsOf opening_worker w → AreStepsOf opening_worker (after_units s unit w all)
units_by s unit w [] by = by
units_by s unit w (events ∷ all) by = units_by s (suc unit) (after_events s unit w events) all (events_by s unit w events by)

-- the opening made all commands of what was done then
pub readied_by : (s : Shape) (old new : List ModelUnit) → AreStepsOf opening_worker (readied_world s old new)
readied_by s old new = units_by s 0 [] (new_events old new) tt

-- so another worker lost none
none_of_session : (worker : ℕ) (w : World) → worker ≢ opening_worker → AreStepsOf opening_worker w → drive_faults_of worker w ≡ []
none_of_session worker w apart by =
    ap (drive_faults_of worker) (sym (append-nil w)) ∙ losses_beside opening_worker worker w [] (λ same. apart (sym same)) by

-- ---- an opening that answered with an event

module _ (s : Shape) (old new : List ModelUnit) (readied : AreReadied s old new) (count : length new ≡ length old) (fit : length old ≡ units s) where
  abbrev w : World
  w = readied_world s old new

  -- only units have events
  of_unit : (unit k : ℕ) (e : UnitEvent) → slice_get (unit_events (log_of w) unit) k ≡ Some e → unit < length new
  of_unit unit k e there = go (cases_lt unit (length new))
    where
      go : (unit < length new) ⊎ (length new ≤ unit) → unit < length new
      go (inl low) = low
      go (inr high) =
          let none : log_of w (suc unit) ≡ [] =
          none_beyond (image_of s old) w readied.legal.legal (suc unit) (omega (arith, count, fit, high)) in
          absurd (none-some e (ap (λ (log : List Logged). slice_get (filter_map (λ (l : Logged). unit_event_of l.event) log) k) (sym none) ∙ there))

  -- an event of the world is one that its unit has beyond those that it had before
  loss_at : (unit k : ℕ) (e : UnitEvent) → slice_get (unit_events (log_of w) unit) k ≡ Some e → is_drive_fault e ≡ true
      → IsDriveFault old new unit (log_length old unit + k)
  loss_at unit k e there lost =
      let v = got_within new unit (of_unit unit k e there) in
      let was = readied.each unit v.0 v.1 in
      let has : log_length old unit ≡ length was.0.log = ap (λ o. option_map_or (λ (x : ModelUnit). length x.log) o 0) was.1 in
      record {
        before = was.0;
        was = was.1;
        since = omega (arith, has);
        after = v.0;
        there = v.1;
        event = e;
        at = ap (λ n. slice_get v.0.log (n + k)) has ∙ ap (λ (log : List UnitEvent). slice_get log (length was.0.log + k)) was.2.log
            ∙ get_right was.0.log (unit_events (log_of w) unit) k ∙ there;
        lost = lost;
      }

  module _ (unit number : ℕ) (lost : IsDriveFaultAt old new unit number) where
    was : (h : ModelUnit) × (slice_get old unit ≡ Some h) × (lost.last.of.log ≡ h.log ++ unit_events (log_of w) unit)
    was = let is = readied.each unit lost.last.of lost.last.there in (is.0, is.1, is.2.log)

    has : log_length old unit ≡ length was.0.log
    has = ap (λ o. option_map_or (λ (x : ModelUnit). length x.log) o 0) was.1

    whole : length lost.last.of.log ≡ length lost.last.front + 1
    whole = ap (λ (log : List UnitEvent). length log) lost.last.log ∙ length-append lost.last.front (lost.event ∷ [])

    long : length lost.earlier.log ≡ length was.0.log
    long = ap (λ (x : ModelUnit). length x.log) (same_Some lost.earlier was.0 (sym lost.there ∙ was.1))

    -- where it stands
    index : ℕ
    index = length lost.last.front - length was.0.log

    at : length was.0.log + index ≡ length lost.last.front
    unfolding index
    at = let since : length lost.earlier.log < length lost.last.of.log = lost.since in omega (arith, long, whole)

    one : OneSince [] w unit index
    one = record {
      event = lost.event;
      since = (let none : length (unit_events (log_of []) unit) ≡ 0 = refl in omega (arith, none));
      there = sym (get_right was.0.log (unit_events (log_of w) unit) index)
          ∙ ap (λ (log : List UnitEvent). slice_get log (length was.0.log + index)) (sym was.2)
          ∙ ap (slice_get lost.last.of.log) at ∙ ap (λ (log : List UnitEvent). slice_get log (length lost.last.front)) lost.last.log
          ∙ get_last lost.last.front lost.event;
      lost = lost.lost;
      only = λ other k e low there again.
          let it = lost.only other (log_length old other + k) (loss_at other k e there again) in
          let same : log_length old other ≡ log_length old unit = ap (log_length old) it.0 in
          (it.0, omega (arith, it.1, same, has, whole, at));
    }

    losses : drive_faults_of opening_worker w ≡ (unit, index) ∷ []
    losses = ap (drive_faults_of opening_worker) (sym (append-nil w))
        ∙ losses_more opening_worker w [] unit index (readied_by s old new) (subst (λ (v : World). OneSince [] v unit index) (sym (append-nil w)) one)

    its_answer : answer_of unit number ≡ answer_at old (unit, index)
    its_answer =
        let same : length lost.last.of.log ≡ log_length old unit + index + 1 = omega (arith, has, whole, at) in
        ap (answer_of unit) (lost.last.number_is ∙ ap (λ n. min n (2 ^ 64 - 1)) same)

    -- the event is all that it lost
    pub opening_answered : (place : ℕ × ℕ) × (drive_faults_of opening_worker w ≡ place ∷ []) × (answer_of unit number ≡ answer_at old place)
    opening_answered = ((unit, index), losses, its_answer)

  -- no other worker lost one
  pub none_of_others : (worker : ℕ) → worker ≢ opening_worker → drive_faults_of worker (readied_world s old new) ≡ []
  none_of_others worker apart = none_of_session worker (readied_world s old new) apart (readied_by s old new)
