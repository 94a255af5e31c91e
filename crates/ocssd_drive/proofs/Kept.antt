-- What a journal keeps, when it is armed and when it has one more event.
use Rattle.std.proofs.Common.{◌≡◌, ◌+◌, ◌-◌, ◌^◌, ◌≤◌, ℕ, List, [], ◌∷◌, ◌++◌, refl, arith, length, length-append, min, inl, Option, None, Some}
use Rattle.pblk_model.specs.UnitLog.{UnitEvent}
use Rattle.unit_port.specs.declared.armed.CommandKind.{CommandKind}
use Rattle.unit_port.specs.declared.armed.CommandKind.TheVariants as kinds
use Rattle.unit_port.specs.declared.armed.Fuse.{Fuse}
use Rattle.unit_port.specs.Armed.{Armed, events_since, is_fail, is_stop}
use Rattle.ocssd_drive.specs.Faults.{fault_of, is_failing, is_stopping, kind_of}
use Rattle.ocssd_drive.specs.Tally.{IsTally, TallyView, idle_tally}
use Rattle.ocssd_drive.specs.StopWord.{SeatView}
use Rattle.ocssd_drive.specs.Journal.{FitsArming, SeatTellsBy, word_of}
use Rattle.ocssd_drive.specs.Arming.{AreTallies, finds, own_fuse, seat_after}
use Rattle.ocssd_drive.specs.Fields.{AreFieldsOf, last_arms}
use Rattle.ocssd_drive.specs.declared.journal.Arming.{Arming}
use Rattle.ocssd_drive.specs.declared.journal.Journal.TheInside.{Inside}
use Rattle.ocssd_drive.specs.declared.fault.Fault.{Fault}
use Rattle.ocssd_drive.proofs.Events.{events_since-add, no_events}
use Rattle.ocssd_drive.proofs.Seats.{calm_more, tells_more}

pub last_arms-add : (arms : List Armed) (a : Armed) → last_arms (arms ++ a ∷ []) ≡ a
last_arms-add [] a = refl
last_arms-add (b ∷ []) a = refl
last_arms-add (b ∷ d ∷ arms) a = last_arms-add (d ∷ arms) a

-- without plans
pub idle_is_tally : (kind : CommandKind) (tally : TallyView) → tally ≡ idle_tally → IsTally [] 0 kind 0 tally
idle_is_tally kind tally idle = rw idle (record { counted = inl refl; ahead = tt; falls = λ m later. refl })

-- the seat of a unit that is armed now, whose log has no event since
fresh_seat : (a : Armed) (log : List UnitEvent) (fuse : Option Fuse) (seat : Option SeatView) → events_since a log ≡ [] → a.word ≡ word_of seat → FitsArming a.unit fuse seat → SeatTellsBy a log fuse seat
fresh_seat a log None None none word fits = word
fresh_seat a log None (Some s) none word fits = fits
fresh_seat a log (Some f) None none word fits = fits
fresh_seat a log (Some f) (Some s) none word fits = record {
  word = word;
  fuse = fits.0;
  stopped = λ stopped. grind (arith, none);
  fell = λ fell. grind arith;
}

-- a unit that is armed now
pub kept_anew : (log : List UnitEvent) (events : ℕ) (arms : List Armed) (arming : Arming) (fuse : Option Fuse) (a : Armed) → last_arms arms ≡ a → a.since ≡ length log → events ≡ min (length log) (2 ^ 64 - 1)
    → IsTally a.plans a.unit kinds.Program 0 arming.programs → IsTally a.plans a.unit kinds.Fetch 0 arming.fetches → IsTally a.plans a.unit kinds.Reset 0 arming.resets
    → fuse ≡ own_fuse a.unit a.fuse → FitsArming a.unit a.fuse arming.stop → a.word ≡ word_of arming.stop
    → AreFieldsOf (record { log = log; events = events; arms = arms; armed = arming; fuse = fuse })
kept_anew log events arms arming fuse a last now count programs fetches resets own fits word =
    let none : events_since a log ≡ [] = no_events a log now in
    record {
      events = count;
      since = rw last (omega arith);
      tallies = rw last (rw none (record { programs = programs; fetches = fetches; resets = resets }));
      fuse = rw last own;
      seat = rw last (fresh_seat a log a.fuse arming.stop none word fits);
      calm = rw last (record { fails = λ _. rw none refl; stops = λ _. rw none refl });
    }

-- a command of this kind met this fault, and is counted
pub kept_noted : (j : Inside) (event : UnitEvent) (kind : CommandKind) (fault : Fault) (log : List UnitEvent) (events : ℕ) (arming : Arming) → AreFieldsOf j
    → kind_of event.command ≡ kind → fault ≡ fault_of (last_arms j.arms) (events_since (last_arms j.arms) j.log) (finds j.armed.stop) kind
    → is_fail event.outcome ≡ is_failing fault → is_stop event.outcome ≡ is_stopping fault
    → log ≡ j.log ++ event ∷ [] → events ≡ min (j.events + 1) (2 ^ 64 - 1) → arming.stop ≡ seat_after fault j.armed.stop
    → AreTallies (last_arms j.arms) (events_since (last_arms j.arms) j.log ++ event ∷ []) arming.programs arming.fetches arming.resets
    → AreFieldsOf (record { log = log; events = events; arms = j.arms; armed = arming; fuse = j.fuse })
kept_noted j event kind fault log events arming old of is fails stops log_is events_are stop tallies =
    let a = last_arms j.arms in
    let since : a.since ≤ length j.log = old.since in
    let longer = length-append j.log (event ∷ []) in
    let before = old.events in
    record {
      events = rw (log_is, longer) (omega arith);
      since = rw (log_is, longer) (omega arith);
      tallies = rw (log_is, events_since-add a j.log event since) tallies;
      fuse = old.fuse;
      seat = rw (log_is, stop) (tells_more a j.log event since a.fuse j.armed.stop kind _ fault of stops is old.seat);
      calm = rw log_is (calm_more a j.log event since kind j.armed.stop fault fails stops is old.seat old.calm);
    }
