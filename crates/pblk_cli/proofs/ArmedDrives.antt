-- A loaded drive that was armed with plans and a stop: its units, and what they did by these.
use Rattle.std.proofs.Common.{◌≡◌, ℕ, zero, suc, ◌+◌, ◌<◌, ◌≤◌, true, List, [], ◌∷◌, ◌++◌, length, map, Option, None, Some, slice_get, refl, sym, subst, ap, ◌∙◌, arith, inr}
use Rattle.std.specs.List.{AllByRecursion, enumerate_from}
use Rattle.std.specs.Option.{option_map_or}
use Rattle.std.proofs.lemmas.List.{length-map}
use Rattle.std.proofs.lemmas.List.FromFn.{length-enumerate_from}
use Rattle.std.proofs.lemmas.Option.{none-some, same_Some, slice_get_within}
use Rattle.atomic_table.specs.Seated.{TableId}
use Rattle.pblk_model.specs.declared.shape.Shape.{Shape}
use Rattle.pblk_model.specs.Image.{Image}
use Rattle.pblk_model.specs.ImageFile.{StoredChunk}
use Rattle.pblk_model.specs.UnitLog.{UnitEvent}
use Rattle.pblk_world.specs.World.{Logs, unit_events}
use Rattle.unit_port.specs.declared.armed.FaultPlan.{FaultPlan}
use Rattle.unit_port.specs.declared.armed.Fuse.{Fuse}
use Rattle.unit_port.specs.Armed.{Armed, events_since, has_stopped}
use Rattle.unit_port.specs.Unit.{ModelUnit}
use Rattle.ocssd_drive.specs.Drive.{DriveView, IsWhole, armed_unit, armed_units, shape_of, with_units}
use Rattle.ocssd_drive.specs.Faults.{changes_of}
use Rattle.ocssd_drive.specs.Outcomes.{AreEventsBy, IsEventBy, any_stop}
use Rattle.ocssd_drive.specs.Units.{IsUnitOf, WornUnit, stored_chunks}
use Rattle.drive_image.specs.Quiet.{IsQuietUnit}
use Rattle.scan_recovery.specs.Units.{log_length}
use Rattle.step_laws.specs.Opened.{AreArmed}
use Rattle.pblk_cli.specs.Serving.{AreNewDriveFaults, DidByArms, FellBetween, IsLeftBy, IsNewDriveFault, units_of, wear_of}
use Rattle.pblk_cli.specs.Stops.{AreNames, AreOutcomesBy, HasFallen, IsDriveFaultIn, arms_of}
use Rattle.pblk_model.proofs.Lists.{all_weaker}
use Rattle.pblk_model.proofs.Parts.{got_within}

-- The units are stored as before, and have the wear indices that they had.

stored_from : (plans : List FaultPlan) (fuse : Option Fuse) (word : Option TableId) (n : ℕ) (us : List WornUnit)
    → map stored_chunks (map (armed_unit plans fuse word) (enumerate_from n us)) ≡ map stored_chunks us
stored_from plans fuse word n [] = refl
stored_from plans fuse word n (u ∷ us) = ap (λ (cs : List (List StoredChunk)). stored_chunks u ∷ cs) (stored_from plans fuse word (n + 1) us)

pub stored_armed : (plans : List FaultPlan) (fuse : Option Fuse) (word : Option TableId) (us : List WornUnit)
    → map stored_chunks (armed_units plans fuse word us) ≡ map stored_chunks us
stored_armed plans fuse word us = stored_from plans fuse word 0 us

wear_from : (plans : List FaultPlan) (fuse : Option Fuse) (word : Option TableId) (n : ℕ) (us : List WornUnit)
    → wear_of (map (armed_unit plans fuse word) (enumerate_from n us)) ≡ wear_of us
wear_from plans fuse word n [] = refl
wear_from plans fuse word n (u ∷ us) = ap (λ (ws : List (List ℕ)). u.wear ∷ ws) (wear_from plans fuse word (n + 1) us)

pub wear_armed : (plans : List FaultPlan) (fuse : Option Fuse) (word : Option TableId) (us : List WornUnit)
    → wear_of (armed_units plans fuse word us) ≡ wear_of us
wear_armed plans fuse word us = wear_from plans fuse word 0 us

-- They fit as they did.
fit_from : (plans : List FaultPlan) (fuse : Option Fuse) (word : Option TableId) (s : Shape) (n : ℕ) (us : List WornUnit)
    → AllByRecursion (IsUnitOf s) (map (armed_unit plans fuse word) (enumerate_from n us)) → AllByRecursion (IsUnitOf s) us
fit_from plans fuse word s n [] fit = tt
fit_from plans fuse word s n (u ∷ us) fit = (
  record {
    shape = fit.0.shape;
    fits = record { count = fit.0.fits.count; chunks = fit.0.fits.chunks };
    worn = fit.0.worn;
    worn_fits = fit.0.worn_fits;
  },
  fit_from plans fuse word s (n + 1) us fit.1,
)

pub whole_before : (found : DriveView) (plans : List FaultPlan) (fuse : Option Fuse) (word : Option TableId)
    → IsWhole (with_units (armed_units plans fuse word found.units) found)
    → IsWhole found
whole_before found plans fuse word whole = record {
  geometry_is = whole.geometry_is;
  accepted = whole.accepted;
  count =
      sym (length-map (enumerate_from 0 found.units) (armed_unit plans fuse word) ∙ length-enumerate_from 0 found.units) ∙ whole.count;
  fit = fit_from plans fuse word (shape_of found) 0 found.units whole.fit;
}

-- A unit of such a drive: nothing was logged of it before.
pub record IsFresh (plans : List FaultPlan) (fuse : Option Fuse) (word : Option TableId) (number : ℕ) (u : ModelUnit) : Type 0 where
  pub log : u.log ≡ []
  pub arms : u.armed ≡ record { unit = number; plans = plans; fuse = fuse; word = word; since = 0 }

fresh_from : (plans : List FaultPlan) (fuse : Option Fuse) (word : Option TableId) (n : ℕ) (us : List WornUnit) → AllByRecursion IsQuietUnit us
    → (k m : ℕ) (u : ModelUnit) → n + k ≡ m
    → slice_get (units_of (map (armed_unit plans fuse word) (enumerate_from n us))) k ≡ Some u → IsFresh plans fuse word m u
fresh_from plans fuse word n [] quiet k m u e there = absurd (none-some u there)
fresh_from plans fuse word n (x ∷ us) quiet zero m u e there =
    let number : n ≡ m = omega arith in
    let its : (armed_unit plans fuse word (n, x)).unit ≡ u = same_Some (armed_unit plans fuse word (n, x)).unit u there in
    subst (IsFresh plans fuse word m) its (record {
      log = quiet.0.log;
      arms = ap (λ k. record { unit = k; plans = plans; fuse = fuse; word = word; since = length x.unit.log }) number
          ∙ ap (λ (log : List UnitEvent). record { unit = m; plans = plans; fuse = fuse; word = word; since = length log }) quiet.0.log;
    })
fresh_from plans fuse word n (x ∷ us) quiet (suc k) m u e there = fresh_from plans fuse word (n + 1) us quiet.1 k m u (omega arith) there

pub fresh_at : (plans : List FaultPlan) (fuse : Option Fuse) (word : Option TableId) (us : List WornUnit) → AllByRecursion IsQuietUnit us
    → (k : ℕ) (u : ModelUnit)
    → slice_get (units_of (armed_units plans fuse word us)) k ≡ Some u → IsFresh plans fuse word k u
fresh_at plans fuse word us quiet k u there = fresh_from plans fuse word 0 us quiet k k u (omega arith) there

-- so the drive may be opened
pub are_armed : (plans : List FaultPlan) (fuse : Option Fuse) (word : Option TableId) (us : List WornUnit) → AllByRecursion IsQuietUnit us
    → AreArmed (units_of (armed_units plans fuse word us))
are_armed plans fuse word us quiet k u there =
    let fresh : IsFresh plans fuse word k u = fresh_at plans fuse word us quiet k u there in
    inr (let from : u.armed.since ≡ 0 = ap (λ (a : Armed). a.since) fresh.arms in omega arith)

-- Outcomes by the same plans and fuse.

same_event : (s : Shape) (plans : List FaultPlan) (fuse : Option Fuse) (word : Option TableId) (unit : ℕ) (before : List UnitEvent) (e : UnitEvent)
    → IsEventBy s (record { unit = unit; plans = plans; fuse = fuse; word = word; since = 0 }) before e → IsEventBy s (arms_of plans fuse unit) before e
same_event s plans fuse word unit before e h = record { found = h.found; by = h.by; has_fuse = h.has_fuse; stays = h.stays; own = h.own }

events_told : (s t : Shape) (plans : List FaultPlan) (fuse : Option Fuse) (word : Option TableId) (unit : ℕ) (a : Armed) (log events : List UnitEvent) → s ≡ t
    → a ≡ record { unit = unit; plans = plans; fuse = fuse; word = word; since = 0 } → log ≡ events
    → AreEventsBy s a (events_since a log) → AreEventsBy t (arms_of plans fuse unit) events
events_told s t plans fuse word unit a log events shape arms same h =
    let there : AreEventsBy t (record { unit = unit; plans = plans; fuse = fuse; word = word; since = 0 }) events =
    subst (λ (x : Shape). AreEventsBy x (record { unit = unit; plans = plans; fuse = fuse; word = word; since = 0 }) events) shape
    (subst (λ (x : Armed). AreEventsBy s x (events_since x events)) arms
    (subst (λ (xs : List UnitEvent). AreEventsBy s a (events_since a xs)) same h)) in
    λ k e at. same_event t plans fuse word unit _ e (there k e at)

stopped_told : (plans : List FaultPlan) (fuse : Option Fuse) (word : Option TableId) (unit : ℕ) (a : Armed) (log events : List UnitEvent)
    → a ≡ record { unit = unit; plans = plans; fuse = fuse; word = word; since = 0 } → log ≡ events → any_stop events ≡ true → has_stopped a log ≡ true
stopped_told plans fuse word unit a log events arms same stop =
    subst (λ (x : Armed). has_stopped x log ≡ true) (sym arms)
    (subst (λ (xs : List UnitEvent). has_stopped (record { unit = unit; plans = plans; fuse = fuse; word = word; since = 0 }) xs ≡ true) (sym same) stop)

changes_told : (plans : List FaultPlan) (fuse : Option Fuse) (word : Option TableId) (unit n : ℕ) (a : Armed) (log events : List UnitEvent)
    → a ≡ record { unit = unit; plans = plans; fuse = fuse; word = word; since = 0 } → log ≡ events → n ≤ changes_of (events_since a log)
    → n ≤ changes_of events
changes_told plans fuse word unit n a log events arms same h =
    subst (λ (xs : List UnitEvent). n ≤ changes_of xs) same (subst (λ (x : Armed). n ≤ changes_of (events_since x log)) arms h)

-- A drive that was loaded, armed, and did what these logs say.
module _ (i : Image) (plans : List FaultPlan) (fuse : Option Fuse) (word : Option TableId) (us left : List WornUnit) (logs : Logs)
    (quiet : AllByRecursion IsQuietUnit us)
    (count : length (units_of (armed_units plans fuse word us)) ≡ length i.units)
    (shapes : (k : ℕ) (u : ModelUnit) → slice_get (units_of (armed_units plans fuse word us)) k ≡ Some u → u.shape ≡ i.shape)
    (here : length (units_of left) ≡ length i.units)
    (each : (k : ℕ) (u : ModelUnit) → slice_get (units_of left) k ≡ Some u → IsLeftBy i (units_of (armed_units plans fuse word us)) logs k u) where
  abbrev olds : List ModelUnit
  olds = units_of (armed_units plans fuse word us)

  -- what a unit's log has are the events of these logs
  log_is : (k : ℕ) (u : ModelUnit) → slice_get (units_of left) k ≡ Some u → u.log ≡ unit_events logs k
  log_is k u there =
      let at = each k u there in
      at.log ∙ ap (λ (xs : List UnitEvent). xs ++ unit_events logs k) (fresh_at plans fuse word us quiet k at.before at.was).log

  old_at : (k : ℕ) → k < length i.units → (u : ModelUnit) × (slice_get (units_of (armed_units plans fuse word us)) k ≡ Some u)
  old_at k low = got_within (units_of (armed_units plans fuse word us)) k (subst (λ n. k < n) (sym count) low)

  left_at : (k : ℕ) → k < length i.units → (v : ModelUnit) × (slice_get (units_of left) k ≡ Some v)
  left_at k low = got_within (units_of left) k (subst (λ n. k < n) (sym here) low)

  has_fallen : (a : Armed) → a.fuse ≡ fuse → FellBetween (armed_units plans fuse word us) left a → HasFallen fuse logs
  has_fallen a arms f = record {
    of = f.fuse;
    is = sym arms ∙ f.is;
    counted = f.counted;
    fell = changes_told plans fuse word f.fuse.unit f.fuse.nth f.before.armed f.after.log (unit_events logs f.fuse.unit)
        (fresh_at plans fuse word us quiet f.fuse.unit f.before f.was).arms (log_is f.fuse.unit f.after f.there) f.fell;
  }

  pub outcomes_by : DidByArms (armed_units plans fuse word us) left → AreOutcomesBy i plans fuse logs
  outcomes_by did = record {
    outcomes = λ k low.
        let u = old_at k low in
        let v = left_at k low in
        events_told u.0.shape i.shape plans fuse word k u.0.armed v.0.log (unit_events logs k) (shapes k u.0 u.1)
        (fresh_at plans fuse word us quiet k u.0 u.1).arms
        (log_is k v.0 v.1) (did.outcomes k u.0 v.0 u.1 v.1);
    fallen = λ k low stop.
        let u = old_at k low in
        let v = left_at k low in
        has_fallen u.0.armed (ap (λ (a : Armed). a.fuse) (fresh_at plans fuse word us quiet k u.0 u.1).arms)
        (did.fallen k u.0 v.0 u.1 v.1 (stopped_told plans fuse word k u.0.armed v.0.log (unit_events logs k)
        (fresh_at plans fuse word us quiet k u.0 u.1).arms (log_is k v.0 v.1) stop));
  }

  loss_in : (place : ℕ × ℕ) → IsNewDriveFault (units_of (armed_units plans fuse word us)) (units_of left) place → IsDriveFaultIn i logs place
  loss_in place h = record {
    unit = subst (λ n. place.0 < n) here (slice_get_within (units_of left) place.0 h.unit h.there);
    event = h.event;
    there = ap (λ (xs : List UnitEvent). slice_get xs place.1) (sym (log_is place.0 h.unit h.there)) ∙ h.event_is;
    lost = h.lost;
  }

  pub are_names : (names : List (ℕ × ℕ)) → AreNewDriveFaults (units_of (armed_units plans fuse word us)) (units_of left) names → AreNames i logs names
  are_names names h = record {
    places = h.places;
    names_are = h.names_are;
    each = all_weaker (IsNewDriveFault (units_of (armed_units plans fuse word us)) (units_of left)) (IsDriveFaultIn i logs) h.places
        (λ place. loss_in place) h.each;
    distinct = h.distinct;
  }

  -- nothing had been logged before
  pub unlogged_before : (unit : ℕ) → log_length (units_of (armed_units plans fuse word us)) unit ≡ 0
  unlogged_before unit = go (slice_get (units_of (armed_units plans fuse word us)) unit) refl
    where
      go : (o : Option ModelUnit) → slice_get (units_of (armed_units plans fuse word us)) unit ≡ o → option_map_or (λ u. length u.log) o 0 ≡ 0
      go None is = refl
      go (Some u) is = ap (λ (xs : List UnitEvent). length xs) (fresh_at plans fuse word us quiet unit u is).log
