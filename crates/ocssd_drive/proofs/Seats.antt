-- What a unit's seat at the stop word says of a log with one more event.
use Rattle.std.proofs.Common.{◌≡◌, ◌<◌, ◌≤◌, if◌then◌else◌, ◌||◌, ℕ, Bool, true, false, List, [], ◌∷◌, ◌++◌, refl, sym, ◌∙◌, arith, length, inl, inr, Option, None, Some}
use Rattle.pblk_model.specs.UnitLog.{UnitEvent}
use Rattle.unit_port.specs.declared.armed.CommandKind.{CommandKind}
use Rattle.unit_port.specs.declared.armed.Fuse.{Fuse}
use Rattle.unit_port.specs.Armed.{Armed, events_since, has_failed, has_stopped, is_fail, is_stop}
use Rattle.ocssd_drive.specs.declared.fault.Fault.{Fault}
use Rattle.ocssd_drive.specs.declared.fault.Fault.TheVariants as faults
use Rattle.ocssd_drive.specs.Faults.{changes_of, fault_of, first_fault, fuse_cut, is_failing, is_stopping, kind_of, plan_fault}
use Rattle.ocssd_drive.specs.StopWord.{SeatView}
use Rattle.ocssd_drive.specs.Journal.{IsCalm, SeatSays, SeatTells, SeatTellsBy}
use Rattle.ocssd_drive.specs.Arming.{IsLoaded, finds, seat_after, view_after}
use Rattle.ocssd_drive.proofs.Befalls.{was_stopped, falls_now, never_fails, never_stops}
use Rattle.ocssd_drive.proofs.Counted.{changes_of-more, changes_of-grows}
use Rattle.ocssd_drive.proofs.Events.{events_since-add, has_failed-add, has_stopped-add}
use Rattle.pblk_model.proofs.Tests.{or_true}

or_left : (x y : Bool) → (x || y) ≡ true → y ≡ false → x ≡ true
or_left true y either none = refl
or_left false y either none = cc

unfound : (found : Bool) → (found ≡ true → false ≡ true) → (found || false) ≡ false
unfound true h = sym (h refl)
unfound false h = refl

module _ (a : Armed) (log : List UnitEvent) (event : UnitEvent) (since : a.since ≤ length log) where
  stopped_before : is_stop event.outcome ≡ false → has_stopped a (log ++ event ∷ []) ≡ true → has_stopped a log ≡ true
  stopped_before not_now stopped = or_left _ _ (sym (has_stopped-add a log event since) ∙ stopped) not_now

  -- the fuse fell before
  fell_before : (f : Fuse) (s : SeatView) → SeatSays a log f s → s.view.fell ≡ true → (s.view.fuse ≡ true) × (f.nth ≤ changes_of (events_since a (log ++ event ∷ []))) × (0 < f.nth) × (has_stopped a (log ++ event ∷ []) ≡ true)
  fell_before f s old fell =
      let grows = changes_of-grows (events_since a log) event in
      let before = old.fell fell in
      (before.0, rw (events_since-add a log event since) (omega arith), before.2, rw (has_stopped-add a log event since, before.3) refl)

  -- a command that isn't stopped
  says_still : (f : Fuse) (s : SeatView) → is_stop event.outcome ≡ false → SeatSays a log f s → SeatSays a (log ++ event ∷ []) f s
  says_still f s not_now old = record {
    word = old.word;
    fuse = old.fuse;
    stopped = λ stopped. old.stopped (stopped_before not_now stopped);
    fell = λ fell. fell_before f s old fell;
  }

  -- a command that met any fault
  says_more : (f : Fuse) (s : SeatView) (kind : CommandKind) (plan : Option ℕ) (fault : Fault) → kind_of event.command ≡ kind → is_stop event.outcome ≡ is_stopping fault
      → fault ≡ (if s.view.found then faults.Stopped else first_fault (fuse_cut (Some f) a.unit kind (changes_of (events_since a log))) (plan_fault plan))
      → SeatSays a log f s → SeatSays a (log ++ event ∷ []) f (record { word = s.word; view = view_after fault s.view })
  says_more f s kind plan faults.Nothing of stops is old = says_still f s stops old
  says_more f s kind plan (faults.Fails cut) of stops is old = says_still f s stops old
  says_more f s kind plan (faults.Stops cut) of stops is old =
      let falls = falls_now f a.unit (changes_of (events_since a log)) kind s.view.found plan cut is in
      let more = changes_of-more (events_since a log) event kind of falls.change in
      let own : s.view.fuse ≡ true = old.fuse ∙ falls.here in
      record {
        word = old.word;
        fuse = old.fuse;
        stopped = λ stopped. inr (own, refl);
        fell = λ fell. (own, rw (events_since-add a log event since) (omega (arith, falls.nth)), omega (arith, falls.nth), rw (has_stopped-add a log event since, stops) (or_true _));
      }
  says_more f s kind plan faults.Stopped of stops is old = record {
    word = old.word;
    fuse = old.fuse;
    stopped = λ stopped. inl (was_stopped s.view.found _ plan is);
    fell = λ fell. fell_before f s old fell;
  }

  pub tells_more : (fuse : Option Fuse) (seat : Option SeatView) (kind : CommandKind) (plan : Option ℕ) (fault : Fault) → kind_of event.command ≡ kind → is_stop event.outcome ≡ is_stopping fault
      → fault ≡ (if finds seat then faults.Stopped else first_fault (fuse_cut fuse a.unit kind (changes_of (events_since a log))) (plan_fault plan))
      → SeatTellsBy a log fuse seat → SeatTellsBy a (log ++ event ∷ []) fuse (seat_after fault seat)
  tells_more None None kind plan fault of stops is old = old
  tells_more None (Some s) kind plan fault of stops is old = absurd old
  tells_more (Some f) None kind plan fault of stops is old = absurd old
  tells_more (Some f) (Some s) kind plan fault of stops is old = says_more f s kind plan fault of stops is old

  -- without plans no command fails
  still_unfailed : (kind : CommandKind) (found : Bool) (fault : Fault) → is_fail event.outcome ≡ is_failing fault → fault ≡ fault_of a (events_since a log) found kind
      → (a.plans ≡ [] → has_failed a log ≡ false) → a.plans ≡ [] → has_failed a (log ++ event ∷ []) ≡ false
  still_unfailed kind found fault fails is old none =
      rw (has_failed-add a log event since, old none, fails, is, none) (never_fails found _)

  -- without a fuse no seat found the word set
  not_found : (fuse : Option Fuse) (seat : Option SeatView) → SeatTellsBy a log fuse seat → fuse ≡ None → finds seat ≡ false
  not_found fuse None tells none = refl
  not_found None (Some s) tells none = absurd tells
  not_found (Some f) (Some s) tells none = cc

  -- without a fuse no command is stopped
  still_unstopped : (kind : CommandKind) (seat : Option SeatView) (fault : Fault) → is_stop event.outcome ≡ is_stopping fault → fault ≡ fault_of a (events_since a log) (finds seat) kind
      → SeatTells a log seat → (a.fuse ≡ None → has_stopped a log ≡ false) → a.fuse ≡ None → has_stopped a (log ++ event ∷ []) ≡ false
  still_unstopped kind seat fault stops is tells old none =
      let clear = not_found a.fuse seat tells none in
      rw (has_stopped-add a log event since, old none, stops, is, clear, none) (never_stops _)

  pub calm_more : (kind : CommandKind) (seat : Option SeatView) (fault : Fault) → is_fail event.outcome ≡ is_failing fault → is_stop event.outcome ≡ is_stopping fault
      → fault ≡ fault_of a (events_since a log) (finds seat) kind → SeatTells a log seat → IsCalm a log → IsCalm a (log ++ event ∷ [])
  calm_more kind seat fault fails stops is tells old = record {
    fails = still_unfailed kind (finds seat) fault fails is old.fails;
    stops = still_unstopped kind seat fault stops is tells old.stops;
  }

-- a load gives what the seat says afterwards
pub loaded_finds : (old new : Option SeatView) (result : Bool) → IsLoaded old new result → finds new ≡ result
loaded_finds None new result h = rw (h.0, h.1) refl
loaded_finds (Some s) new true h = rw h.0 (or_true s.view.found)
loaded_finds (Some s) new false h = rw h.0 (unfound s.view.found h.1)

pub loaded_again : (old new : Option SeatView) (result : Bool) → IsLoaded old new result → IsLoaded old new (finds new)
loaded_again old new result h = rw (loaded_finds old new result h) h
