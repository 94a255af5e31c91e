-- A unit by the logs of a mount, as they grow by an event of its own, and by those of others.
use Rattle.std.proofs.Common.{◌≡◌, ◌⊎◌, inl, inr, ℕ, suc, ◌+◌, ◌-◌, ◌≤◌, ◌||◌, true, false, Some, List, [], ◌∷◌, ◌++◌, append_assoc, drop, length, length-append, sym, subst, ap, ap₂, ◌∙◌, arith}
use Rattle.std.specs.List.{filter_map, list_any}
use Rattle.std.specs.Option.{option_map, unwrap_or}
use Rattle.std.specs.Prelude.{slice_get}
use Rattle.std.proofs.lemmas.List.{drop-append-le}
use Rattle.std.proofs.lemmas.List.Folds.{list_any-append}
use Rattle.pblk_model.specs.declared.shape.Shape.{Shape}
use Rattle.pblk_model.specs.Chunk.{Chunk}
use Rattle.pblk_model.specs.ChunkStep.{ChunkCommand}
use Rattle.pblk_model.specs.Image.{Image}
use Rattle.pblk_model.specs.UnitLog.{UnitEvent, UnitOutcome, IsEvent, after_event, after_log}
use Rattle.pblk_world.specs.Commanding.{has_stopped, was_stopped}
use Rattle.pblk_world.specs.Events.{Does, Logged, Maker}
use Rattle.pblk_world.specs.World.{Logs, media, unit_events, unit_event_of}
use Rattle.pblk_world.proofs.WorldLemmas.{media_at}
use Rattle.unit_port.specs.Armed.{Armed, IsUnarmed, has_stopped as was_stopped_since, is_stop}
use Rattle.unit_port.specs.Commands.{with_event}
use Rattle.unit_port.specs.Unit.{ModelUnit, IsFitUnit, IsStopped, Steps}
use Rattle.unit_port.proofs.Units.{stays_stopped}
use Rattle.step_laws.specs.NextEvents.{CanDo}
use Rattle.step_laws.proofs.Readied.{stop_is}
use Rattle.step_laws.proofs.UnitSteps.{after_last}
use Rattle.pblk_model.proofs.Maps.{more}
use Rattle.pblk_model.proofs.Parts.{get_last}
use Rattle.pblk_model.proofs.Tests.{either, not_both, or_no, or_right}
use Rattle.pblk_engine.specs.Arms.{IsArm, last_event, some_event}

-- ---- its own log is the same

pub arm_stays : (i : Image) (logs next : Logs) (number : ℕ) (handed u : ModelUnit) → next (suc number) ≡ logs (suc number) → IsArm i logs number handed u
    → IsArm i next number handed u
arm_stays i logs next number handed u same arm =
    let events : unit_events next number ≡ unit_events logs number = ap (λ (log : List Logged). filter_map (λ l. unit_event_of l.event) log) same in
    record {
      shape = arm.shape;
      media = media_at i next number
          ∙ ap (λ (es : List UnitEvent). option_map (λ (chunks : List Chunk). after_log i.shape chunks es) (slice_get i.units number)) events
          ∙ sym (media_at i logs number) ∙ arm.media;
      fit = arm.fit;
      log = arm.log ∙ ap (λ (es : List UnitEvent). handed.log ++ es) (sym events);
      arms = arm.arms;
      armed = arm.armed;
      stopped = λ was. arm.stopped (ap has_stopped (sym events) ∙ was);
    }

-- ---- one event more

module _ (i : Image) (logs next : Logs) (number : ℕ) (handed old new : ModelUnit) (maker : Maker) (knows : List ℕ) (chunk : ℕ)
    (command : ChunkCommand) (outcome : UnitOutcome) (arm : IsArm i logs number handed old) (steps : Steps old chunk command outcome new) where
  abbrev event : UnitEvent
  event = record { chunk = chunk; command = command; outcome = outcome }

  pub can_do : CanDo i logs number event
  can_do = record {
    chunks = old.media;
    has_chunks = arm.media;
    event = subst (λ (s : Shape). IsEvent s old.media event) arm.shape steps.event;
    stopped = λ was. steps.stopped (arm.stopped was);
  }

  pub last_now : last_event new ≡ event
  last_now =
      let long : length new.log ≡ length old.log + 1 = ap (λ (log : List UnitEvent). length log) steps.log ∙ length-append old.log (event ∷ []) in
      let end : length new.log - 1 ≡ length old.log = omega arith in
      ap (λ o. unwrap_or o some_event) (ap₂ (λ (log : List UnitEvent) n. slice_get log n) steps.log end ∙ get_last old.log event)

  module _ (own : next (suc number) ≡ logs (suc number) ++ record { event = Does event maker; knows = knows } ∷ []) where
    pub events_next : unit_events next number ≡ unit_events logs number ++ event ∷ []
    events_next = ap (λ (log : List Logged). filter_map (λ l. unit_event_of l.event) log) own
        ∙ more (λ (l : Logged). unit_event_of l.event) (logs (suc number)) (record { event = Does event maker; knows = knows })

    media_next : slice_get (media i next).units number ≡ option_map (λ chunks. after_event i.shape chunks event) (slice_get (media i logs).units number)
    media_next =
        media_at i next number
        ∙ ap (λ es. option_map (λ cs. after_log i.shape cs es) (slice_get i.units number)) events_next
        ∙ after_last i.shape (unit_events logs number) event (slice_get i.units number)
        ∙ ap (option_map (λ cs. after_event i.shape cs event)) (sym (media_at i logs number))

    log_next : new.log ≡ handed.log ++ unit_events next number
    log_next =
        steps.log ∙ ap (λ (log : List UnitEvent). log ++ event ∷ []) arm.log
        ∙ append_assoc handed.log (unit_events logs number) (event ∷ [])
        ∙ ap (λ (events : List UnitEvent). handed.log ++ events) (sym events_next)

    stops_next : has_stopped (unit_events next number) ≡ (has_stopped (unit_events logs number) || was_stopped outcome)
    stops_next =
        ap has_stopped events_next
        ∙ list_any-append (λ (x : UnitEvent). was_stopped x.outcome) (unit_events logs number) (event ∷ [])
        ∙ ap (λ b. has_stopped (unit_events logs number) || b) (or_no (was_stopped outcome))

    -- where the unit is armed, its log tells a stop
    tells : (IsUnarmed old.armed → is_stop outcome ≡ false) → was_stopped outcome ≡ true → IsStopped (with_event old event)
    tells quiet was =
        let stop : is_stop outcome ≡ true = sym (stop_is outcome) ∙ was in
        elim arm.armed [
          | inl none ↦ absurd (not_both (is_stop outcome) stop (quiet none))
          | inr since ↦
              let stops = λ (x : UnitEvent). is_stop x.outcome in
              let long : length old.log ≡ length handed.log + length (unit_events logs number) =
              ap (λ (log : List UnitEvent). length log) arm.log ∙ length-append handed.log (unit_events logs number) in
              ap (list_any stops) (drop-append-le old.armed.since old.log (event ∷ []) (omega (arith, ap (λ (a : Armed). a.since) arm.arms)))
              ∙ list_any-append stops (drop old.armed.since old.log) (event ∷ [])
              ∙ or_right (list_any stops (drop old.armed.since old.log)) (list_any stops (event ∷ [])) (or_no (is_stop outcome) ∙ stop)
        ]

    stopped_next : (IsUnarmed old.armed → is_stop outcome ≡ false) → has_stopped (unit_events next number) ≡ true
        → IsStopped (with_event old event)
    stopped_next quiet was =
        elim (either (has_stopped (unit_events logs number)) (was_stopped outcome) (sym stops_next ∙ was)) [
          | inl before ↦ stays_stopped old event (arm.stopped before)
          | inr now ↦ tells quiet now
        ]

    -- the unit is as the logs with that event leave it
    pub arm_next : (IsFitUnit old → IsFitUnit new) → (IsUnarmed old.armed → is_stop outcome ≡ false) → IsArm i next number handed new
    arm_next fits quiet = record {
      shape = steps.shape ∙ arm.shape;
      media = media_next ∙ ap (option_map (λ (cs : List Chunk). after_event i.shape cs event)) arm.media
          ∙ ap (λ (s : Shape). Some (after_event s old.media event)) (sym arm.shape) ∙ ap (λ (cs : List Chunk). Some cs) (sym steps.media);
      fit = fits arm.fit;
      log = log_next;
      arms = steps.armed ∙ arm.arms;
      armed = subst (λ (a : Armed). IsUnarmed a ⊎ (a.since ≤ length handed.log)) (sym steps.armed) arm.armed;
      stopped = λ was. ap₂ (λ (a : Armed) (log : List UnitEvent). was_stopped_since a log) steps.armed steps.log ∙ stopped_next quiet was;
    }
