-- The events since a unit was armed.
use Rattle.std.proofs.Common.{◌≡◌, ◌≤◌, ◌||◌, List, [], ◌∷◌, ◌++◌, refl, arith, length}
use Rattle.std.proofs.lemmas.List.{drop-append-le, drop_all}
use Rattle.std.proofs.Math.Bool.{or-false}
use Rattle.std.proofs.lemmas.List.Folds.{list_any-append}
use Rattle.pblk_model.specs.UnitLog.{UnitEvent}
use Rattle.unit_port.specs.Armed.{Armed, events_since, has_failed, has_stopped, is_fail, is_stop}

pub no_events : (a : Armed) (log : List UnitEvent) → a.since ≡ length log → events_since a log ≡ []
no_events a log now = drop_all a.since log (omega arith)

-- one more
pub events_since-add : (a : Armed) (log : List UnitEvent) (event : UnitEvent) → a.since ≤ length log → events_since a (log ++ event ∷ []) ≡ events_since a log ++ event ∷ []
events_since-add a log event since = drop-append-le a.since log (event ∷ []) since

pub has_failed-add : (a : Armed) (log : List UnitEvent) (event : UnitEvent) → a.since ≤ length log → has_failed a (log ++ event ∷ []) ≡ (has_failed a log || is_fail event.outcome)
has_failed-add a log event since = rw (events_since-add a log event since, list_any-append, or-false) refl

pub has_stopped-add : (a : Armed) (log : List UnitEvent) (event : UnitEvent) → a.since ≤ length log → has_stopped a (log ++ event ∷ []) ≡ (has_stopped a log || is_stop event.outcome)
has_stopped-add a log event since = rw (events_since-add a log event since, list_any-append, or-false) refl
