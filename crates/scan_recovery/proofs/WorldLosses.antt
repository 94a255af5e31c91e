-- Which commands a worker lost as a world grows by its steps.
use Rattle.std.proofs.Common.{◌≡◌, ◌≢◌, ◌⊎◌, inl, inr, ℕ, suc, ◌+◌, ◌-◌, ◌<◌, ◌≤◌, ◌==◌, ◌&&◌, Bool, true, false, Some, Option, List, [], ◌∷◌, ◌++◌, length, length-append, refl, sym, subst, ap, ap₂, ◌∙◌, arith, append-nil, if◌then◌else◌}
use Rattle.std.specs.Prelude.{slice_get}
use Rattle.std.specs.List.{cons_option, filter_map}
use Rattle.std.proofs.lemmas.Bool.{cases_lt, eq-eqb, ne_eqb}
use Rattle.std.proofs.lemmas.List.Elements.{filter_map-append}
use Rattle.std.proofs.lemmas.Option.{same_Some, slice_get_within}
use native.Mathlib.Decide.{ℕ_discrete}
use Rattle.pblk_model.specs.UnitLog.{UnitEvent}
use Rattle.pblk_world.specs.Events.{Event, Decides, Does, Logged, Maker, Step}
use Rattle.pblk_world.specs.World.{World, log_of, unit_event_of, unit_events}
use Rattle.pblk_world.proofs.Growing.{grows}
use Rattle.pblk_world.proofs.WorldLemmas.{log_here, log_elsewhere}
use Rattle.scan_recovery.specs.DriveFaults.{AreStepsOf, IsGivenBy, is_drive_fault_of, drive_faults_of, place_in, is_drive_fault}
use Rattle.pblk_model.proofs.Parts.{get_first, get_last, get_more}
use Rattle.pblk_model.proofs.Tests.{second_of}

-- ---- the events of a unit

abbrev events : World → ℕ → List UnitEvent
events w unit = unit_events (log_of w) unit

abbrev given : Logged → Option UnitEvent
given l = unit_event_of l.event

-- they stay as the world grows
pub events_stay : (later w : World) (unit : ℕ) → (more : List UnitEvent) × (unit_events (log_of (later ++ w)) unit ≡ unit_events (log_of w) unit ++ more)
events_stay later w unit =
    let more = grows later w (suc unit) in
    (filter_map given more.0, ap (filter_map given) more.1 ∙ filter_map-append given (log_of w (suc unit)) more.0)

pub no_fewer : (later w : World) (unit : ℕ) → length (unit_events (log_of w) unit) ≤ length (unit_events (log_of (later ++ w)) unit)
no_fewer later w unit =
    let more = events_stay later w unit in
    let long : length (events (later ++ w) unit) ≡ length (events w unit) + length more.0 =
    ap (λ (es : List UnitEvent). length es) more.1 ∙ length-append (events w unit) more.0 in
    omega arith

pub still_there : (later w : World) (unit k : ℕ) (e : UnitEvent) → slice_get (unit_events (log_of w) unit) k ≡ Some e
    → slice_get (unit_events (log_of (later ++ w)) unit) k ≡ Some e
still_there later w unit k e there =
    let more = events_stay later w unit in
    ap (λ (es : List UnitEvent). slice_get es k) more.1 ∙ get_more (events w unit) more.0 k e there

-- a step of a unit
module _ (step : Step) (w : World) where
  own_log : (unit : ℕ) → step.author ≡ suc unit → unit_events (log_of (step ∷ w)) unit
      ≡ unit_events (log_of w) unit ++ cons_option (unit_event_of step.logged.event) []
  own_log unit own = ap (filter_map given) (log_here step w (suc unit) own) ∙ filter_map-append given (log_of w (suc unit)) (step.logged ∷ [])

  pub made_here : (unit : ℕ) (e : UnitEvent) (maker : Maker) → step.author ≡ suc unit → step.logged.event ≡ Does e maker
      → unit_events (log_of (step ∷ w)) unit ≡ unit_events (log_of w) unit ++ e ∷ []
  made_here unit e maker own is = own_log unit own
      ∙ ap (λ (ev : Event). unit_events (log_of w) unit ++ cons_option (unit_event_of ev) []) is

  -- the unit has what it had, or this command is its last
  abbrev WasMade : ℕ → Type 0
  WasMade unit = (e : UnitEvent) × (maker : Maker) × (step.logged.event ≡ Does e maker) × (step.author ≡ suc unit)

  made_or_not : (unit : ℕ) → (unit_events (log_of (step ∷ w)) unit ≡ unit_events (log_of w) unit) ⊎ WasMade unit
  made_or_not unit = by (ℕ_discrete step.author (suc unit))
    where
      own : step.author ≡ suc unit → (ev : Event) → step.logged.event ≡ ev
          → (unit_events (log_of (step ∷ w)) unit ≡ unit_events (log_of w) unit) ⊎ WasMade unit
      own same (Decides d) is = inl (own_log unit same ∙ ap (λ (ev : Event). unit_events (log_of w) unit ++ cons_option (unit_event_of ev) []) is
          ∙ append-nil (unit_events (log_of w) unit))
      own same (Does e maker) is = inr (e, maker, is, same)

      by : Dec (step.author ≡ suc unit) → (unit_events (log_of (step ∷ w)) unit ≡ unit_events (log_of w) unit) ⊎ WasMade unit
      by (yes same) = own same step.logged.event refl
      by (no apart) = inl (ap (filter_map given) (log_elsewhere step w (suc unit) apart))

-- ---- one step

module _ (worker : ℕ) (step : Step) (w : World) where
  loss_kept : is_drive_fault_of worker step.logged.event ≡ false → drive_faults_of worker (step ∷ w) ≡ drive_faults_of worker w
  loss_kept kept = ap (λ b. if b then drive_faults_of worker w ++ place_in w step ∷ [] else drive_faults_of worker w) kept

  loss_more : is_drive_fault_of worker step.logged.event ≡ true → drive_faults_of worker (step ∷ w) ≡ drive_faults_of worker w ++ place_in w step ∷ []
  loss_more lost = ap (λ b. if b then drive_faults_of worker w ++ place_in w step ∷ [] else drive_faults_of worker w) lost

  -- a command that was lost
  abbrev IsLossHere : Type 0
  IsLossHere = (e : UnitEvent) × (slice_get (unit_events (log_of (step ∷ w)) (step.author - 1)) (length (unit_events (log_of w) (step.author - 1))) ≡ Some e)
      × (is_drive_fault e ≡ true)

  lost_here : (ev : Event) → step.logged.event ≡ ev → IsGivenBy worker step.author ev → is_drive_fault_of worker ev ≡ true → IsLossHere
  lost_here (Decides d) is by lost = absurd cc
  lost_here (Does e maker) is by lost =
      let unit : ℕ = step.author - 1 in
      let of : step.author ≡ suc (step.author - 1) = omega (arith, by.1) in (
        e,
        ap (λ (es : List UnitEvent). slice_get es (length (unit_events (log_of w) (step.author - 1)))) (made_here step w (step.author - 1) e maker of is)
            ∙ get_last (unit_events (log_of w) (step.author - 1)) e,
        second_of (maker.worker == worker) (is_drive_fault e) lost,
      )

-- ---- no command was lost

-- none of the units' events that the new world has beyond those of the old one
abbrev pub NoneSince : World → World → Type 0
NoneSince old new = (unit k : ℕ) (e : UnitEvent) → length (unit_events (log_of old) unit) ≤ k → slice_get (unit_events (log_of new) unit) k ≡ Some e
    → is_drive_fault e ≡ true → ⊥

pub losses_stay : (worker : ℕ) (later old : World) → AreStepsOf worker later → NoneSince old (later ++ old)
    → drive_faults_of worker (later ++ old) ≡ drive_faults_of worker old
losses_stay worker [] old made none = refl
losses_stay worker (step ∷ later) old made none =
    by (losses_stay worker later old made.1 (λ unit k e low there. none unit k e low (still_there (step ∷ []) (later ++ old) unit k e there)))
    (is_drive_fault_of worker step.logged.event) refl
  where
    by : drive_faults_of worker (later ++ old) ≡ drive_faults_of worker old → (b : Bool) → is_drive_fault_of worker step.logged.event ≡ b
        → drive_faults_of worker (step ∷ (later ++ old)) ≡ drive_faults_of worker old
    by rest false kept = loss_kept worker step (later ++ old) kept ∙ rest
    by rest true lost =
        let at = lost_here worker step (later ++ old) step.logged.event refl made.0 lost in
        absurd (none (step.author - 1) (length (unit_events (log_of (later ++ old)) (step.author - 1))) at.0 (no_fewer later old (step.author - 1)) at.1 at.2)

-- ---- one command was lost

-- of the units' events that the new world has beyond those of the old one just this
pub record OneSince (old new : World) (unit index : ℕ) : Type 0 where
  pub event : UnitEvent
  pub since : length (unit_events (log_of old) unit) ≤ index
  pub there : slice_get (unit_events (log_of new) unit) index ≡ Some event
  pub lost : is_drive_fault event ≡ true
  pub only : (other k : ℕ) (e : UnitEvent) → length (unit_events (log_of old) other) ≤ k → slice_get (unit_events (log_of new) other) k ≡ Some e
      → is_drive_fault e ≡ true → (other ≡ unit) × (k ≡ index)

module _ (worker : ℕ) (step : Step) (later old : World) (unit index : ℕ) (by : IsGivenBy worker step.author step.logged.event)
    (made : AreStepsOf worker later) (one : OneSince old (step ∷ (later ++ old)) unit index) where
  abbrev w : World
  w = later ++ old

  -- it is the last step
  module _ (lost : is_drive_fault_of worker step.logged.event ≡ true) where
    at : IsLossHere worker step w
    at = lost_here worker step w step.logged.event refl by lost

    is_it : (step.author - 1 ≡ unit) × (length (unit_events (log_of w) (step.author - 1)) ≡ index)
    is_it = one.only (step.author - 1) (length (unit_events (log_of w) (step.author - 1))) at.0 (no_fewer later old (step.author - 1)) at.1 at.2

    none : NoneSince old w
    none other k e low there was =
        let it = one.only other k e low (still_there (step ∷ []) w other k e there) was in
        let within : k < length (unit_events (log_of w) other) = slice_get_within (unit_events (log_of w) other) k e there in
        let same : length (unit_events (log_of w) other) ≡ length (unit_events (log_of w) (step.author - 1)) =
        ap (λ n. length (unit_events (log_of w) n)) (it.0 ∙ sym is_it.0) in
        absurd (omega (arith, is_it.1, it.1))

    is_last : drive_faults_of worker (step ∷ w) ≡ drive_faults_of worker old ++ (unit, index) ∷ []
    is_last = loss_more worker step w lost
        ∙ ap₂ (λ (xs : List (ℕ × ℕ)) (p : ℕ × ℕ). xs ++ p ∷ []) (losses_stay worker later old made none) (λ j. (is_it.0 j, is_it.1 j))

  -- it is earlier
  module _ (kept : is_drive_fault_of worker step.logged.event ≡ false) where
    not_it : (e : UnitEvent) (maker : Maker) → step.logged.event ≡ Does e maker → IsGivenBy worker step.author (Does e maker) → is_drive_fault e ≡ true → ⊥
    not_it e maker is own was =
        let so : ((maker.worker == worker) && is_drive_fault e) ≡ true = ap₂ (λ a b. a && b) (eq-eqb maker.worker worker own.0) was in
        let not : ((maker.worker == worker) && is_drive_fault e) ≡ false = sym (ap (is_drive_fault_of worker) is) ∙ kept in
        absurd cc

    it_was_made : WasMade step w unit → slice_get (unit_events (log_of w) unit) index ≡ Some one.event
    it_was_made (e, maker, is, own) = before (cases_lt index (length (unit_events (log_of w) unit)))
      where
        all : unit_events (log_of (step ∷ w)) unit ≡ unit_events (log_of w) unit ++ e ∷ []
        all = made_here step w unit e maker own is

        before : (index < length (unit_events (log_of w) unit)) ⊎ (length (unit_events (log_of w) unit) ≤ index)
            → slice_get (unit_events (log_of w) unit) index ≡ Some one.event
        before (inl low) = sym (get_first (unit_events (log_of w) unit) (e ∷ []) index low)
            ∙ ap (λ (es : List UnitEvent). slice_get es index) (sym all) ∙ one.there
        before (inr high) =
            let within : index < length (unit_events (log_of (step ∷ w)) unit) =
            slice_get_within (unit_events (log_of (step ∷ w)) unit) index one.event one.there in
            let long : length (unit_events (log_of (step ∷ w)) unit) ≡ length (unit_events (log_of w) unit) + 1 =
            ap (λ (es : List UnitEvent). length es) all ∙ length-append (unit_events (log_of w) unit) (e ∷ []) in
            let at_end : index ≡ length (unit_events (log_of w) unit) = omega arith in
            let same : e ≡ one.event = same_Some e one.event (sym (get_last (unit_events (log_of w) unit) e)
            ∙ ap (slice_get (unit_events (log_of w) unit ++ e ∷ [])) (sym at_end)
            ∙ ap (λ (es : List UnitEvent). slice_get es index) (sym all) ∙ one.there) in
            absurd (not_it e maker is (subst (IsGivenBy worker step.author) is by) (ap is_drive_fault same ∙ one.lost))

    still : slice_get (unit_events (log_of w) unit) index ≡ Some one.event
    still = go (made_or_not step w unit)
      where
        go : (unit_events (log_of (step ∷ w)) unit ≡ unit_events (log_of w) unit) ⊎ WasMade step w unit
            → slice_get (unit_events (log_of w) unit) index ≡ Some one.event
        go (inl same) = ap (λ (es : List UnitEvent). slice_get es index) (sym same) ∙ one.there
        go (inr made_so) = it_was_made made_so

    is_earlier : OneSince old w unit index
    is_earlier = record {
      event = one.event;
      since = one.since;
      there = still;
      lost = one.lost;
      only = λ other k e low there. one.only other k e low (still_there (step ∷ []) w other k e there);
    }

pub losses_more : (worker : ℕ) (later old : World) (unit index : ℕ) → AreStepsOf worker later → OneSince old (later ++ old) unit index
    → drive_faults_of worker (later ++ old) ≡ drive_faults_of worker old ++ (unit, index) ∷ []
losses_more worker [] old unit index made one =
    let low : index < length (unit_events (log_of old) unit) = slice_get_within (unit_events (log_of old) unit) index one.event one.there in
    let high : length (unit_events (log_of old) unit) ≤ index = one.since in
    absurd (omega arith)
losses_more worker (step ∷ later) old unit index made one =
    by (λ earlier. losses_more worker later old unit index made.1 earlier) (is_drive_fault_of worker step.logged.event) refl
  where
    by : (OneSince old (later ++ old) unit index → drive_faults_of worker (later ++ old) ≡ drive_faults_of worker old ++ (unit, index) ∷ [])
        → (b : Bool) → is_drive_fault_of worker step.logged.event ≡ b
        → drive_faults_of worker (step ∷ (later ++ old)) ≡ drive_faults_of worker old ++ (unit, index) ∷ []
    by more true lost = is_last worker step later old unit index made.0 made.1 one lost
    by more false kept = loss_kept worker step (later ++ old) kept ∙ more (is_earlier worker step later old unit index made.0 made.1 one kept)

-- ---- steps of others

-- what no step of another worker changes
pub losses_beside : (worker other : ℕ) (later old : World) → worker ≢ other → AreStepsOf worker later
    → drive_faults_of other (later ++ old) ≡ drive_faults_of other old
losses_beside worker other [] old apart made = refl
losses_beside worker other (step ∷ later) old apart made =
    loss_kept other step (later ++ old) (not_his step.logged.event made.0) ∙ losses_beside worker other later old apart made.1
  where
    not_his : (ev : Event) → IsGivenBy worker step.author ev → is_drive_fault_of other ev ≡ false
    not_his (Decides d) by = refl
    not_his (Does e maker) by = ap (λ b. b && is_drive_fault e) (ne_eqb maker.worker other (λ same. apart (sym by.0 ∙ same)))
