-- Units that were disarmed after a run: what they did, and what their drive is.
use Rattle.std.proofs.Common.{◌≡◌, ℕ, zero, suc, ◌<◌, ◌≤◌, true, List, [], ◌∷◌, length, map, Some, slice_get, refl, sym, subst, ap, ◌∙◌}
use Rattle.std.proofs.lemmas.List.{length-map}
use Rattle.std.proofs.lemmas.Option.{none-some, same_Some, slice_get_within}
use Rattle.pblk_model.specs.declared.shape.Shape.{Shape}
use Rattle.pblk_model.specs.declared.script.Command.{Command}
use Rattle.pblk_model.specs.Image.{Image}
use Rattle.pblk_model.specs.UnitLog.{UnitEvent}
use Rattle.pblk_world.specs.World.{Logs, World, log_of}
use Rattle.unit_port.specs.Armed.{Armed, events_since, has_stopped}
use Rattle.unit_port.specs.Unit.{ModelUnit, IsStopped}
use Rattle.ocssd_drive.specs.Drive.{FuseFell}
use Rattle.ocssd_drive.specs.Faults.{changes_of}
use Rattle.ocssd_drive.specs.Outcomes.{AreEventsBy}
use Rattle.ocssd_drive.specs.Units.{WornUnit, disarmed}
use Rattle.scan_recovery.specs.Units.{AreFit}
use Rattle.run_threads.specs.declared.records.Records.{Records}
use Rattle.pblk_cli.specs.Serving.{AreBack, DidByArms, FellBetween, IsLeftBy, IsNewDriveFault, IsServing, units_of}
use Rattle.pblk_model.proofs.Lists.{all_weaker}
use Rattle.pblk_model.proofs.Maps.{get_mapped}
use Rattle.pblk_model.proofs.Parts.{got_within}

-- Places.

-- the unit that was disarmed there
record WasThere (units : List WornUnit) (k : ℕ) (v : ModelUnit) : Type 0 where
  unit : WornUnit
  there : slice_get units k ≡ Some unit
  is : v ≡ (disarmed unit).unit

was_there : (units : List WornUnit) (k : ℕ) (v : ModelUnit) → slice_get (units_of (map disarmed units)) k ≡ Some v → WasThere units k v
was_there [] k v e = absurd (none-some v e)
was_there (u ∷ units) zero v e = record { unit = u; there = refl; is = sym (same_Some (disarmed u).unit v e) }
was_there (u ∷ units) (suc k) v e = let at = was_there units k v e in record { unit = at.unit; there = at.there; is = at.is }

-- it is there still
record IsThere (units : List WornUnit) (k : ℕ) (u : ModelUnit) : Type 0 where
  unit : ModelUnit
  there : slice_get (units_of (map disarmed units)) k ≡ Some unit
  log : unit.log ≡ u.log

is_there : (units : List WornUnit) (k : ℕ) (u : ModelUnit) → slice_get (units_of units) k ≡ Some u → IsThere units k u
is_there [] k u e = absurd (none-some u e)
is_there (x ∷ units) zero u e = record { unit = (disarmed x).unit; there = refl; log = ap (λ (y : ModelUnit). y.log) (same_Some x.unit u e) }
is_there (x ∷ units) (suc k) u e = let at = is_there units k u e in record { unit = at.unit; there = at.there; log = at.log }

-- What was done.

left_disarmed : (i : Image) (handed : List ModelUnit) (logs : Logs) (k : ℕ) (x : WornUnit) → IsLeftBy i handed logs k x.unit
    → IsLeftBy i handed logs k (disarmed x).unit
left_disarmed i handed logs k x h = record { media = h.media; before = h.before; was = h.was; log = h.log }

loss_disarmed : (handed : List ModelUnit) (units : List WornUnit) (place : ℕ × ℕ) → IsNewDriveFault handed (units_of units) place
    → IsNewDriveFault handed (units_of (map disarmed units)) place
loss_disarmed handed units place h =
    let at = is_there units place.0 h.unit h.there in
    record {
      before = h.before;
      was = h.was;
      since = h.since;
      unit = at.unit;
      there = at.there;
      event = h.event;
      event_is = ap (λ (log : List UnitEvent). slice_get log place.1) at.log ∙ h.event_is;
      lost = h.lost;
    }

pub serving_disarmed : (i : Image) (handed : List ModelUnit) (units : List WornUnit) (script : List (List Command)) (helpers : ℕ) (records : Records)
    (w : World)
    → IsServing i handed (units_of units) script helpers records w → IsServing i handed (units_of (map disarmed units)) script helpers records w
serving_disarmed i handed units script helpers records w h = record {
  legal = h.legal;
  has_begun = h.has_begun;
  each = λ k v there.
      let at = was_there units k v there in
      subst (IsLeftBy i handed (log_of w) k) (sym at.is)
      (left_disarmed i handed (log_of w) k at.unit (h.each k at.unit.unit (get_mapped (λ (x : WornUnit). x.unit) units k at.unit at.there)));
  recorded = h.recorded;
  named = record {
    places = h.named.places;
    names_are = h.named.names_are;
    each = all_weaker (IsNewDriveFault handed (units_of units)) (IsNewDriveFault handed (units_of (map disarmed units))) h.named.places
        (λ place. loss_disarmed handed units place) h.named.each;
    distinct = h.named.distinct;
  };
  lost = h.lost;
  history_is = h.history_is;
  worn = h.worn;
  granted = h.granted;
  begun = h.begun;
  urgent = h.urgent;
  after_resets = h.after_resets;
  opened_full = h.opened_full;
  none_was_left = h.none_was_left;
  none_to_free = h.none_to_free;
  flushed = h.flushed;
  all_synced = h.all_synced;
  over = h.over;
  kept = h.kept;
  told = h.told;
  run = h.run;
}

-- Arms.

events_by : (s t : Shape) (a b : Armed) (log other : List UnitEvent) → s ≡ t → a ≡ b → log ≡ other → AreEventsBy s a (events_since a log)
    → AreEventsBy t b (events_since b other)
events_by s t a b log other shape arms same h =
    subst (λ (x : Shape). AreEventsBy x b (events_since b other)) shape
    (subst (λ (x : Armed). AreEventsBy s x (events_since x other)) arms
    (subst (λ (xs : List UnitEvent). AreEventsBy s a (events_since a xs)) same h))

module _ (s : Shape) (old units : List WornUnit) (fit : AreFit s (units_of old)) (back : AreBack s old units)
    (outcomes : (k : ℕ) (u : WornUnit) → slice_get units k ≡ Some u → AreEventsBy u.unit.shape u.unit.armed (events_since u.unit.armed u.unit.log))
    (stopped : (k : ℕ) (u : WornUnit) → slice_get units k ≡ Some u → IsStopped u.unit → FuseFell units u.unit.armed) where
  fell : (a b : Armed) → a ≡ b → FuseFell units a → FellBetween old (map disarmed units) b
  fell a b arms f =
      let low : f.fuse.unit < length (units_of old) = subst (λ n. f.fuse.unit < n) (sym (length-map units (λ (x : WornUnit). x.unit)) ∙ back.count)
      (slice_get_within units f.fuse.unit f.unit f.there) in
      let was = got_within (units_of old) f.fuse.unit low in
      let now = get_mapped (λ (x : WornUnit). x.unit) units f.fuse.unit f.unit f.there in
      let at = is_there units f.fuse.unit f.unit.unit now in
      let its : f.unit.unit.armed ≡ was.0.armed = back.arms f.fuse.unit was.0 f.unit.unit was.1 now in
      record {
        fuse = f.fuse;
        is = ap (λ (x : Armed). x.fuse) (sym arms) ∙ f.is;
        counted = f.counted;
        before = was.0;
        was = was.1;
        after = at.unit;
        there = at.there;
        fell = subst (λ (x : Armed). f.fuse.nth ≤ changes_of (events_since x at.unit.log)) its
            (subst (λ (log : List UnitEvent). f.fuse.nth ≤ changes_of (events_since f.unit.unit.armed log)) (sym at.log) f.fell);
      }

  pub did_by_arms : DidByArms old (map disarmed units)
  did_by_arms = record {
    outcomes = λ k u v was there.
        let at = was_there units k v there in
        let now = get_mapped (λ (x : WornUnit). x.unit) units k at.unit at.there in
        events_by at.unit.unit.shape u.shape at.unit.unit.armed u.armed at.unit.unit.log v.log
        ((back.shapes k at.unit.unit now).0 ∙ sym (fit.each k u was).shape) (back.arms k u at.unit.unit was now)
        (sym (ap (λ (x : ModelUnit). x.log) at.is)) (outcomes k at.unit at.there);
    fallen = λ k u v was there stop.
        let at = was_there units k v there in
        let now = get_mapped (λ (x : WornUnit). x.unit) units k at.unit at.there in
        let arms : at.unit.unit.armed ≡ u.armed = back.arms k u at.unit.unit was now in
        let its : has_stopped at.unit.unit.armed at.unit.unit.log ≡ true =
        subst (λ (x : Armed). has_stopped x at.unit.unit.log ≡ true) (sym arms)
        (subst (λ (log : List UnitEvent). has_stopped u.armed log ≡ true) (ap (λ (x : ModelUnit). x.log) at.is) stop) in
        fell at.unit.unit.armed u.armed arms (stopped k at.unit at.there its);
  }
