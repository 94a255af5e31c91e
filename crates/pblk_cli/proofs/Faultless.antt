-- What plans and a stop make of a run: which commands are lost, and that none is without them.
use Rattle.std.proofs.Common.{◌≡◌, ◌⊎◌, ℕ, ◌<◌, ◌≤◌, suc, true, Option, None, List, [], ◌∷◌, length, map, refl, sym, subst, ap, ◌∙◌, arith, inl, inr}
use Rattle.std.specs.Prelude.{◌&&◌, slice_get, Some}
use Rattle.std.specs.List.{AllByRecursion, Contains, filter_map}
use Rattle.std.proofs.lemmas.Bool.{cases_lt}
use Rattle.std.proofs.lemmas.Option.{none-some}
use Rattle.pblk_model.specs.ChunkStep.{ChunkCommand, Read, Reset, Write}
use Rattle.pblk_model.specs.Image.{Image}
use Rattle.pblk_model.specs.Shape.{units}
use Rattle.pblk_model.specs.UnitLog.{UnitEvent, UnitOutcome, Answered, Failed, Stopped}
use Rattle.pblk_world.specs.Commanding.{is_program}
use Rattle.pblk_world.specs.Events.{Logged}
use Rattle.pblk_world.specs.World.{World, log_of, unit_event_of, unit_events}
use Rattle.pblk_world.specs.LegalMounts.{IsLegalMount, NoStripeLost}
use Rattle.core_laws.specs.FaultlessMounts.{AreAnswered, IsFaultlessMount, is_answered}
use Rattle.unit_port.specs.declared.armed.CommandKind.{CommandKind}
use Rattle.unit_port.specs.declared.armed.CommandKind.TheVariants as kinds
use Rattle.unit_port.specs.declared.armed.FaultPlan.{FaultPlan}
use Rattle.unit_port.specs.declared.armed.Fuse.{Fuse}
use Rattle.unit_port.specs.Armed.{is_fail, is_stop}
use Rattle.ocssd_drive.specs.Faults.{kind_of}
use Rattle.scan_recovery.specs.DriveFaults.{is_fetch}
use Rattle.core_laws.proofs.NextWorlds.{none_beyond}
use Rattle.rest_laws.proofs.LostEvents.{IsFailedProgram, none_lost}
use Rattle.pblk_model.proofs.Lists.{IsAmong, contains_cases, contains_first, contains_none}
use Rattle.pblk_model.proofs.Maps.{any_member, given_at}
use Rattle.pblk_model.proofs.Options.{split_then}
use Rattle.pblk_model.proofs.Parts.{all_by_get}
use Rattle.pblk_model.proofs.Tests.{either, first_of, second_of}
use Rattle.pblk_cli.specs.Stops.{AreNames, AreOutcomesBy, HasFallen, HasPlan, IsDriveFaultIn, name_at}
use Rattle.pblk_cli.proofs.PlannedFaults.{failed_by}

-- ---- kinds and outcomes

kind_of_fetch : (c : ChunkCommand) → is_fetch c ≡ true → kind_of c ≡ kinds.Fetch
kind_of_fetch (Write at blocks) e = absurd cc
kind_of_fetch (Read block) e = refl
kind_of_fetch Reset e = absurd cc

kind_of_program : (c : ChunkCommand) → is_program c ≡ true → kind_of c ≡ kinds.Program
kind_of_program (Write at blocks) e = refl
kind_of_program (Read block) e = absurd cc
kind_of_program Reset e = absurd cc

-- what neither failed nor was stopped was answered
answered : (o : UnitOutcome) → (is_fail o ≡ true → ⊥) → (is_stop o ≡ true → ⊥) → is_answered o ≡ true
answered (Answered answer) unfailed unstopped = refl
answered (Failed k) unfailed unstopped = absurd (unfailed refl)
answered (Stopped k) unfailed unstopped = absurd (unstopped refl)

-- ---- causes

-- A world in which units did what these plans and this fuse make of their commands.
module _ (i : Image) (w : World) (plans : List FaultPlan) (fuse : Option Fuse) (by : AreOutcomesBy i plans fuse (log_of w)) where
  -- a unit was stopped only where the fuse fell, and a command failed only by a plan
  stopped_by : (unit k : ℕ) (e : UnitEvent) → unit < length i.units → slice_get (unit_events (log_of w) unit) k ≡ Some e → is_stop e.outcome ≡ true
      → HasFallen fuse (log_of w)
  stopped_by unit k e low there stop = by.fallen unit low (any_member (λ (x : UnitEvent). is_stop x.outcome) (unit_events (log_of w) unit) k e there stop)

  planned_for : (unit k : ℕ) (e : UnitEvent) → unit < length i.units → slice_get (unit_events (log_of w) unit) k ≡ Some e → is_fail e.outcome ≡ true
      → HasPlan plans (kind_of e.command) unit
  planned_for unit k e low there = failed_by i.shape plans fuse unit _ e (by.outcomes unit low k e there)

  -- a lost command was stopped, or is a fetch that was to fail
  cause_of : (place : ℕ × ℕ) → IsDriveFaultIn i (log_of w) place → HasFallen fuse (log_of w) ⊎ HasPlan plans kinds.Fetch place.0
  cause_of place loss = go (either (is_stop loss.event.outcome) (is_fetch loss.event.command && is_fail loss.event.outcome) loss.lost)
    where
      go : (is_stop loss.event.outcome ≡ true) ⊎ ((is_fetch loss.event.command && is_fail loss.event.outcome) ≡ true)
          → HasFallen fuse (log_of w) ⊎ HasPlan plans kinds.Fetch place.0
      go (inl stop) = inl (stopped_by place.0 place.1 loss.event loss.unit loss.there stop)
      go (inr fetch) = inr (subst (λ kind. HasPlan plans kind place.0)
          (kind_of_fetch loss.event.command (first_of (is_fetch loss.event.command) (is_fail loss.event.outcome) fetch))
          (planned_for place.0 place.1 loss.event loss.unit loss.there
          (second_of (is_fetch loss.event.command) (is_fail loss.event.outcome) fetch)))

  named_cause : (places : List (ℕ × ℕ)) (event : ℕ × ℕ) → AllByRecursion (IsDriveFaultIn i (log_of w)) places → Contains (map name_at places) event
      → HasFallen fuse (log_of w) ⊎ HasPlan plans kinds.Fetch event.0
  named_cause [] event each there = absurd (contains_none event there)
  named_cause (p ∷ places) event each there =
      go (λ more. named_cause places event each.1 more) (contains_cases (name_at p) event (map name_at places) there)
    where
      go : (Contains (map name_at places) event → HasFallen fuse (log_of w) ⊎ HasPlan plans kinds.Fetch event.0)
          → (name_at p ≡ event) ⊎ Contains (map name_at places) event → HasFallen fuse (log_of w) ⊎ HasPlan plans kinds.Fetch event.0
      go others (inl first) = subst (λ (x : ℕ × ℕ). HasFallen fuse (log_of w) ⊎ HasPlan plans kinds.Fetch x.0) first (cause_of p each.0)
      go others (inr more) = others more

  -- a name is of a unit that was stopped, or that has a fetch which was to fail
  pub has_cause : (names : List (ℕ × ℕ)) (event : ℕ × ℕ) → AreNames i (log_of w) names → Contains names event
      → HasFallen fuse (log_of w) ⊎ HasPlan plans kinds.Fetch event.0
  has_cause names event named there = named_cause named.places event named.each (subst (λ (xs : List (ℕ × ℕ)). Contains xs event) named.names_are there)

  module _ (legal : IsLegalMount i w) where
    -- nothing is logged of a unit that the drive hasn't
    in_drive : (unit k : ℕ) (l : Logged) → slice_get (log_of w (suc unit)) k ≡ Some l → unit < length i.units
    in_drive unit k l there = go (cases_lt unit (length i.units))
      where
        go : (unit < length i.units) ⊎ (length i.units ≤ unit) → unit < length i.units
        go (inl low) = low
        go (inr high) =
            let fit : length i.units ≡ units i.shape = legal.fit.units in
            let none : log_of w (suc unit) ≡ [] = none_beyond i w legal.legal (suc unit) (omega arith) in
            absurd (none-some l (ap (λ (log : List Logged). slice_get log k) (sym none) ∙ there))

    -- the engine hears of a lost stripe only where a program was to fail
    pub unlost : ((unit : ℕ) → HasPlan plans kinds.Program unit → ⊥) → NoStripeLost (log_of w 0)
    unlost unplanned = none_lost i w legal.legal (λ unit number lost. unplanned unit (plan_for unit number lost))
      where
        plan_for : (unit number : ℕ) → IsFailedProgram (log_of w) unit number → HasPlan plans kinds.Program unit
        plan_for unit number lost =
            let from = split_then (λ (l : Logged). unit_event_of l.event) (slice_get (log_of w (suc unit)) number) lost.program lost.there in
            let at : IsAmong (unit_events (log_of w) unit) lost.program =
            given_at (λ (l : Logged). unit_event_of l.event) (log_of w (suc unit)) from.0 lost.program number from.1 from.2 in
            subst (λ kind. HasPlan plans kind unit) (kind_of_program lost.program.command lost.is)
            (planned_for unit at.0 lost.program (in_drive unit number from.0 from.1) at.1 (ap is_fail lost.failed))

-- ---- neither a plan nor a fuse

module _ (i : Image) (w : World) (plans : List FaultPlan) (fuse : Option Fuse) (by : AreOutcomesBy i plans fuse (log_of w)) (no_plans : plans ≡ [])
    (no_fuse : fuse ≡ None) where
  no_plan : (kind : CommandKind) (unit : ℕ) → HasPlan plans kind unit → ⊥
  no_plan kind unit h = contains_none h.plan (subst (λ (ps : List FaultPlan). Contains ps h.plan) no_plans h.named)

  not_fallen : HasFallen fuse (log_of w) → ⊥
  not_fallen h = none-some h.of (sym no_fuse ∙ h.is)

  in_units : (unit : ℕ) → unit < length i.units → AreAnswered (unit_events (log_of w) unit)
  in_units unit low = all_by_get (λ e. is_answered e.outcome ≡ true) (unit_events (log_of w) unit) (λ k e there.
      answered e.outcome (λ fail. no_plan (kind_of e.command) unit (planned_for i w plans fuse by unit k e low there fail))
      (λ stop. not_fallen (stopped_by i w plans fuse by unit k e low there stop)))

  pub faultless : IsLegalMount i w → IsFaultlessMount i w
  faultless legal = record {
    mount = legal;
    none_lost = unlost i w plans fuse by legal (no_plan kinds.Program);
    answered = λ unit. at unit (cases_lt unit (length i.units));
  }
    where
      at : (unit : ℕ) → (unit < length i.units) ⊎ (length i.units ≤ unit) → AreAnswered (unit_events (log_of w) unit)
      at unit (inl low) = in_units unit low
      at unit (inr high) =
          let fit : length i.units ≡ units i.shape = legal.fit.units in
          let none : log_of w (suc unit) ≡ [] = none_beyond i w legal.legal (suc unit) (omega arith) in
          subst AreAnswered (sym (ap (filter_map (λ (l : Logged). unit_event_of l.event)) none)) tt

  pub unnamed : (names : List (ℕ × ℕ)) → AreNames i (log_of w) names → names ≡ []
  unnamed [] named = refl
  unnamed (event ∷ names) named = go (has_cause i w plans fuse by (event ∷ names) event named (contains_first event names))
    where
      go : HasFallen fuse (log_of w) ⊎ HasPlan plans kinds.Fetch event.0 → event ∷ names ≡ []
      go (inl fell) = absurd (not_fallen fell)
      go (inr fetch) = absurd (no_plan kinds.Fetch event.0 fetch)
