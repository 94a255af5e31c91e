-- What the commands of a unit come to by what it is armed with, one command after another.
use Rattle.std.proofs.Common.{◌≡◌, ◌⊎◌, ℕ, ◌<◌, ◌≤◌, List, [], ◌∷◌, ◌++◌, length, length-append, take, slice_get, sym, ap, subst, ◌∙◌, inl, inr, arith}
use Rattle.std.proofs.lemmas.Bool.{cases_order}
use Rattle.std.proofs.lemmas.List.{take-append-le}
use Rattle.std.proofs.lemmas.Option.{none-some, slice_get_past}
use Rattle.pblk_model.specs.declared.shape.Shape.{Shape}
use Rattle.pblk_model.specs.ChunkStep.{ChunkCommand}
use Rattle.pblk_model.specs.UnitLog.{UnitEvent, UnitOutcome}
use Rattle.unit_port.specs.Armed.{Armed, events_since}
use Rattle.ocssd_drive.specs.declared.fault.Fault.{Fault}
use Rattle.ocssd_drive.specs.declared.memory_unit.MemoryUnit.TheInside.{Inside}
use Rattle.ocssd_drive.specs.Arming.{finds}
use Rattle.ocssd_drive.specs.Faults.{IsOutcomeBy, kind_of}
use Rattle.ocssd_drive.specs.Journal.{JournalView}
use Rattle.ocssd_drive.specs.Outcomes.{AreEventsBy, IsByArms, IsEventBy}
use Rattle.ocssd_drive.proofs.Events.{events_since-add, no_events}
use Rattle.ocssd_drive.proofs.Lists.{some_same}
use Rattle.ocssd_drive.proofs.UnitSteps.{Finds}
use Rattle.pblk_model.proofs.Parts.{get_first, get_last, take_front}

module _ (s : Shape) (a : Armed) where
  none_by : AreEventsBy s a []
  none_by k e there = absurd (none-some e there)

  -- one more event
  one_more : (events : List UnitEvent) (next : UnitEvent) → AreEventsBy s a events → IsEventBy s a events next → AreEventsBy s a (events ++ next ∷ [])
  one_more events next each is k e there = at (cases_order k (length events))
    where
      at : (k ≡ length events) ⊎ ((k < length events) ⊎ (length events < k)) → IsEventBy s a (take k (events ++ next ∷ [])) e
      at (inl here) =
          let same : next ≡ e = some_same next e (sym (get_last events next) ∙ ap (slice_get (events ++ next ∷ [])) (sym here) ∙ there) in
          subst (λ (x : UnitEvent). IsEventBy s a (take k (events ++ next ∷ [])) x) same
          (subst (λ (xs : List UnitEvent). IsEventBy s a xs next) (sym (take_front events (next ∷ []) k (sym here))) is)
      at (inr (inl before)) = subst (λ (xs : List UnitEvent). IsEventBy s a xs e) (sym (take-append-le k events (next ∷ []) (omega arith)))
          (each k e (sym (get_first events (next ∷ []) k before) ∙ there))
      at (inr (inr past)) =
          let long : length (events ++ next ∷ []) ≤ k = omega (arith, length-append events (next ∷ [])) in
          absurd (none-some e (sym (slice_get_past (events ++ next ∷ []) k long) ∙ there))

  -- a unit that is armed now
  pub armed_now : (log : List UnitEvent) → a.since ≡ length log → IsByArms s a log
  armed_now log now = record { since = omega arith; events = subst (AreEventsBy s a) (sym (no_events a log now)) none_by }

  by_arms_add : (log : List UnitEvent) (next : UnitEvent) → IsByArms s a log → IsEventBy s a (events_since a log) next → IsByArms s a (log ++ next ∷ [])
  by_arms_add log next h is = record {
    since = (let low : a.since ≤ length log = h.since in omega (arith, length-append log (next ∷ [])));
    events = subst (AreEventsBy s a) (sym (events_since-add a log next h.since)) (one_more (events_since a log) next h.events is);
  }

-- a command of a unit met this fault, and its event was noted
pub by_arms_noted : (u : Inside) (chunk : ℕ) (command : ChunkCommand) (fault : Fault) (outcome : UnitOutcome) (j next : JournalView)
    → IsByArms u.shape u.journal.armed u.journal.log → Finds u.journal (kind_of command) fault j → IsOutcomeBy u.shape command fault outcome
    → next.log ≡ j.log ++ record { chunk = chunk; command = command; outcome = outcome } ∷ [] → next.armed ≡ j.armed
    → IsByArms u.shape next.armed next.log
by_arms_noted u chunk command fault outcome j next h f by noted armed =
    let e : UnitEvent = record { chunk = chunk; command = command; outcome = outcome } in
    let is : IsEventBy u.shape u.journal.armed (events_since u.journal.armed u.journal.log) (record { chunk = chunk; command = command; outcome = outcome }) =
    record {
      found = finds j.seat;
      by = subst (λ (x : Fault). IsOutcomeBy u.shape command x outcome) f.is by;
      has_fuse = f.word;
      stays = f.stays;
      own = f.own;
    } in
    subst (λ (x : Armed). IsByArms u.shape x next.log) (sym (armed ∙ f.armed))
    (subst (λ (xs : List UnitEvent). IsByArms u.shape u.journal.armed xs)
    (sym (noted ∙ ap (λ (xs : List UnitEvent). xs ++ record { chunk = chunk; command = command; outcome = outcome } ∷ []) f.log))
    (by_arms_add u.shape u.journal.armed u.journal.log (record { chunk = chunk; command = command; outcome = outcome }) h is))
