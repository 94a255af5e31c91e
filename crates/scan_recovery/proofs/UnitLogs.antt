-- What each unit has of the events of several units.
use Rattle.std.proofs.Common.{◌≡◌, ◌≢◌, ℕ, ◌<◌, ◌==◌, Bool, true, false, Some, None, Option, List, [], ◌∷◌, ◌++◌, cond, length, refl, sym, ap, ◌∙◌, arith, append-nil, append_assoc}
use Rattle.std.specs.Prelude.{drop, slice_get, slice_set}
use Rattle.std.specs.List.{AllByRecursion, fold}
use Rattle.std.specs.Option.{option_map_or}
use Rattle.std.proofs.lemmas.Bool.{eq-eqb, ne_eqb}
use Rattle.std.proofs.lemmas.List.{length-set}
use Rattle.std.proofs.lemmas.Option.{same_Some, slice_get_within}
use native.Mathlib.Decide.{ℕ_discrete}
use Rattle.pblk_model.specs.UnitLog.{UnitEvent, after_log}
use Rattle.unit_port.specs.Unit.{ModelUnit}
use Rattle.unit_port.specs.Commands.{EventAt, with_event, after_one, after_all, events_of}
use Rattle.unit_port.proofs.Units.{after_one_is}
use Rattle.scan_recovery.specs.DriveFaults.{grown_by}
use Rattle.pblk_model.proofs.Lists.{all_cond}
use Rattle.pblk_model.proofs.Parts.{drop_front, get_set_other, get_set_same}

-- ---- after an event of one unit

pub own_event : (e : EventAt) (us : List ModelUnit) (k : ℕ) (u : ModelUnit) → slice_get us k ≡ Some u → e.unit ≡ k
    → slice_get (after_one us e) k ≡ Some (with_event u e.event)
own_event e us k u there same =
    let at : slice_get us e.unit ≡ Some u = ap (slice_get us) same ∙ there in
    ap (λ (xs : List ModelUnit). slice_get xs k) (after_one_is us e u at)
    ∙ ap (slice_get (slice_set us e.unit (with_event u e.event))) (sym same)
    ∙ get_set_same us e.unit (with_event u e.event) (slice_get_within us e.unit u at)

pub others_event : (e : EventAt) (us : List ModelUnit) (k : ℕ) → e.unit ≢ k → slice_get (after_one us e) k ≡ slice_get us k
others_event e us k apart = go (slice_get us e.unit)
  where
    go : (o : Option ModelUnit) → slice_get (option_map_or (λ u. slice_set us e.unit (with_event u e.event)) o us) k ≡ slice_get us k
    go None = refl
    go (Some u) = get_set_other us e.unit k (with_event u e.event) (λ same. apart (sym same))

-- ---- after events of several

-- a unit after events of its own
abbrev pub with_events : ModelUnit → List UnitEvent → ModelUnit
with_events u es = fold with_event u es

first_own : (e : EventAt) (events : List EventAt) (us : List ModelUnit) (k : ℕ) (u : ModelUnit) → slice_get us k ≡ Some u → Dec (e.unit ≡ k)
    → ((v : ModelUnit) → slice_get (after_one us e) k ≡ Some v → slice_get (after_all us (e ∷ events)) k ≡ Some (with_events v (events_of k events)))
    → slice_get (after_all us (e ∷ events)) k ≡ Some (with_events u (events_of k (e ∷ events)))
first_own e events us k u there (yes same) more = rw (eq-eqb e.unit k same) (more (with_event u e.event) (own_event e us k u there same))
first_own e events us k u there (no apart) more = rw (ne_eqb e.unit k apart) (more u (others_event e us k apart ∙ there))

pub unit_after : (events : List EventAt) (us : List ModelUnit) (k : ℕ) (u : ModelUnit) → slice_get us k ≡ Some u
    → slice_get (after_all us events) k ≡ Some (with_events u (events_of k events))
unit_after [] us k u there = there
unit_after (e ∷ events) us k u there =
    first_own e events us k u there (ℕ_discrete e.unit k) (λ v at. unit_after events (after_one us e) k v at)

-- there are as many
pub as_many : (events : List EventAt) (us : List ModelUnit) → length (after_all us events) ≡ length us
as_many [] us = refl
as_many (e ∷ events) us = as_many events (after_one us e) ∙ go (slice_get us e.unit)
  where
    go : (o : Option ModelUnit) → length (option_map_or (λ u. slice_set us e.unit (with_event u e.event)) o us) ≡ length us
    go None = refl
    go (Some u) = length-set us e.unit (with_event u e.event)

-- ---- what is left of a unit

pub log_after : (es : List UnitEvent) (u : ModelUnit) → (with_events u es).log ≡ u.log ++ es
log_after [] u = sym (append-nil u.log)
log_after (e ∷ es) u = log_after es (with_event u e) ∙ append_assoc u.log (e ∷ []) es

pub media_after : (es : List UnitEvent) (u : ModelUnit) → (with_events u es).media ≡ after_log u.shape u.media es
media_after [] u = refl
media_after (e ∷ es) u = media_after es (with_event u e)

-- its log grew by its own events
pub grown_after : (events : List EventAt) (us : List ModelUnit) (k : ℕ) (u v : ModelUnit) → slice_get us k ≡ Some u
    → slice_get (after_all us events) k ≡ Some v → (v.log ≡ u.log ++ events_of k events) × (grown_by u v ≡ events_of k events)
grown_after events us k u v there after =
    let is : with_events u (events_of k events) ≡ v = same_Some (with_events u (events_of k events)) v (sym (unit_after events us k u there) ∙ after) in
    let log : v.log ≡ u.log ++ events_of k events = ap (λ (x : ModelUnit). x.log) (sym is) ∙ log_after (events_of k events) u in
    (log, ap (drop (length u.log)) log ∙ drop_front u.log (events_of k events) (length u.log) refl)

-- ---- its own events

pub all_own : (P : UnitEvent → Type 0) (k : ℕ) (events : List EventAt) → AllByRecursion (λ e. P e.event) events → AllByRecursion P (events_of k events)
all_own P k [] all = tt
all_own P k (e ∷ events) all = all_cond P (e.unit == k) e.event (events_of k events) all.0 (all_own P k events all.1)

-- the last of all is one of its unit
pub some_own : (front : List EventAt) (last : EventAt) (k : ℕ) → last.unit ≡ k → 0 < length (events_of k (front ++ last ∷ []))
some_own [] last k same = rw (eq-eqb last.unit k same) (omega arith)
some_own (e ∷ front) last k same = go (e.unit == k) (some_own front last k same)
  where
    go : (b : Bool) → 0 < length (events_of k (front ++ last ∷ []))
        → 0 < length (cond b (e.event ∷ events_of k (front ++ last ∷ [])) (events_of k (front ++ last ∷ [])))
    go true some = omega arith
    go false some = some
