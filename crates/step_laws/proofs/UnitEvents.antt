-- What one unit does before a mount begins: programs of Pad blocks and fetches, one after another,
-- whatever becomes of them.
use Rattle.std.proofs.Common.{◌≡◌, ◌≢◌, inl, inr, ℕ, true, Some, None, Option, List, [], ◌∷◌, ◌++◌, append-nil, append_assoc, refl, sym, subst, ap, ◌∙◌}
use Rattle.std.specs.Prelude.{⊤, slice_get}
use Rattle.std.specs.Option.{option_map}
use Rattle.pblk_model.specs.declared.shape.Shape.{Shape}
use Rattle.pblk_model.specs.Chunk.{Chunk}
use Rattle.pblk_model.specs.ChunkStep.{ChunkCommand, Write, Read, Reset}
use Rattle.pblk_model.specs.UnitLog.{UnitEvent, Stopped, IsEvent, after_event, after_log}
use Rattle.pblk_model.specs.Image.{Image}
use Rattle.pblk_world.specs.Events.{Maker, Logged}
use Rattle.pblk_world.specs.World.{World, Logs, log_of, media, unit_events}
use Rattle.pblk_world.specs.EngineLog.{Begun, begun}
use Rattle.pblk_world.specs.Commanding.{was_stopped, has_stopped, IsPadding, IsCommand}
use Rattle.pblk_world.proofs.WorldLemmas.{media_at}
use Rattle.pblk_world.specs.LegalMounts.{IsLegalMount}
use Rattle.unit_port.specs.Unit.{ModelUnit, IsStopped}
use Rattle.unit_port.specs.Commands.{with_event}
use Rattle.unit_port.proofs.Units.{stays_stopped}
use Rattle.scan_recovery.proofs.UnitLogs.{with_events}
use Rattle.step_laws.specs.Whole.{unit_step, opening_maker}
use Rattle.step_laws.specs.Opened.{after_events}
use Rattle.step_laws.proofs.UnitSteps.{engine_log, events_now, events_elsewhere, media_now, stops_now, unit_next}
use Rattle.pblk_model.proofs.Tests.{either}

abbrev pub IsPadOrFetch : Image → Chunk → ChunkCommand → Type 0
IsPadOrFetch i c (Write at blocks) = IsPadding i c at blocks
IsPadOrFetch i c (Read b) = ⊤
IsPadOrFetch i c Reset = ⊥

-- the unit did this: where it was stopped, and where it now was, its log tells so
pub record IsReadying (i : Image) (u : ModelUnit) (e : UnitEvent) : Type 0 where
  pub event : IsEvent i.shape u.media e
  pub does : IsPadOrFetch i event.found e.command
  pub stopped : IsStopped u → e.outcome ≡ Stopped 0
  pub tells : was_stopped e.outcome ≡ true → IsStopped (with_event u e)

-- one after another
abbrev pub AreReadying : Image → ModelUnit → List UnitEvent → Type 0
AreReadying i u [] = ⊤
AreReadying i u (e ∷ events) = IsReadying i u e × AreReadying i (with_event u e) events

-- ---- a stop is one for good

stays : (events : List UnitEvent) (u : ModelUnit) → IsStopped u → IsStopped (with_events u events)
stays [] u was = was
stays (e ∷ events) u was = stays events (with_event u e) (stays_stopped u e was)

pub stopped_after : (i : Image) (events : List UnitEvent) (u : ModelUnit) → AreReadying i u events → has_stopped events ≡ true
    → IsStopped (with_events u events)
stopped_after i [] u are was = absurd cc
stopped_after i (e ∷ events) u are was =
    elim (either (was_stopped e.outcome) (has_stopped events) was) [
      | inl now ↦ stays events (with_event u e) (are.0.tells now)
      | inr later ↦ stopped_after i events (with_event u e) are.1 later
    ]

-- ---- its events in a world

pub own_events : (s : Shape) (unit : ℕ) (events : List UnitEvent) (w : World)
    → unit_events (log_of (after_events s unit w events)) unit ≡ unit_events (log_of w) unit ++ events
own_events s unit [] w = sym (append-nil (unit_events (log_of w) unit))
own_events s unit (e ∷ events) w =
    own_events s unit events (unit_step s unit e (opening_maker w) w ∷ w)
    ∙ ap (λ (es : List UnitEvent). es ++ events) (events_now s unit e (opening_maker w) w)
    ∙ append_assoc (unit_events (log_of w) unit) (e ∷ []) events

pub others_events : (s : Shape) (unit : ℕ) (events : List UnitEvent) (w : World) (other : ℕ) → other ≢ unit
    → unit_events (log_of (after_events s unit w events)) other ≡ unit_events (log_of w) other
others_events s unit [] w other apart = refl
others_events s unit (e ∷ events) w other apart =
    others_events s unit events (unit_step s unit e (opening_maker w) w ∷ w) other apart
    ∙ events_elsewhere s unit e (opening_maker w) w other apart

pub events_quiet : (s : Shape) (unit : ℕ) (events : List UnitEvent) (w : World) → log_of (after_events s unit w events) 0 ≡ log_of w 0
events_quiet s unit [] w = refl
events_quiet s unit (e ∷ events) w = events_quiet s unit events (unit_step s unit e (opening_maker w) w ∷ w) ∙ engine_log s unit e (opening_maker w) w

-- ---- a unit as a world leaves it

pub record IsAt (i : Image) (w : World) (number : ℕ) (u : ModelUnit) : Type 0 where
  pub shape : u.shape ≡ i.shape
  pub media : slice_get (media i (log_of w)).units number ≡ Some u.media
  pub stopped : has_stopped (unit_events (log_of w) number) ≡ true → IsStopped u

-- another unit's events leave it so
pub at_elsewhere : (i : Image) (unit : ℕ) (events : List UnitEvent) (w : World) (other : ℕ) (u : ModelUnit) → other ≢ unit → IsAt i w other u
    → IsAt i (after_events i.shape unit w events) other u
at_elsewhere i unit events w other u apart at = record {
  shape = at.shape;
  media = media_at i (log_of (after_events i.shape unit w events)) other
      ∙ ap (λ (es : List UnitEvent). option_map (λ (cs : List Chunk). after_log i.shape cs es) (slice_get i.units other)) same
      ∙ sym (media_at i (log_of w) other) ∙ at.media;
  stopped = λ was. at.stopped (sym (ap has_stopped same) ∙ was);
}
  where
    same : unit_events (log_of (after_events i.shape unit w events)) other ≡ unit_events (log_of w) other
    same = others_events i.shape unit events w other apart

at_next : (i : Image) (w : World) (unit : ℕ) (u : ModelUnit) (e : UnitEvent) (maker : Maker) → IsAt i w unit u → IsReadying i u e
    → IsAt i (unit_step i.shape unit e maker w ∷ w) unit (with_event u e)
at_next i w unit u e maker at is = record {
  shape = at.shape;
  media = media_now i unit e maker w ∙ ap (option_map (λ (cs : List Chunk). after_event i.shape cs e)) at.media
      ∙ ap (λ (s : Shape). Some (after_event s u.media e)) (sym at.shape);
  stopped = λ was.
      elim (either (has_stopped (unit_events (log_of w) unit)) (was_stopped e.outcome) (sym (stops_now i.shape unit e maker w) ∙ was)) [
        | inl before ↦ stays_stopped u e (at.stopped before)
        | inr now ↦ is.tells now
      ];
}

-- ---- its steps

may_be_told : (i : Image) (logs : Logs) (unit chunk : ℕ) (c : Chunk) (command : ChunkCommand) → IsPadOrFetch i c command
    → IsCommand i logs unit c chunk command None
may_be_told i logs unit chunk c (Write at blocks) does = does
may_be_told i logs unit chunk c (Read b) does = tt
may_be_told i logs unit chunk c Reset does = absurd does

one_step : (i : Image) (w : World) (unit : ℕ) (u : ModelUnit) (e : UnitEvent) (maker : Maker) → IsLegalMount i w → log_of w 0 ≡ [] → IsAt i w unit u
    → IsReadying i u e → IsLegalMount i (unit_step i.shape unit e maker w ∷ w)
one_step i w unit u e maker mount none at is =
    unit_next i w unit e maker mount
    (record { chunks = u.media; has_chunks = at.media; event = is.event; stopped = λ was. is.stopped (at.stopped was) })
    (subst (λ (o : Option Begun). IsCommand i (log_of w) unit is.event.found e.chunk e.command o) (sym (ap (λ (log : List Logged). begun log) none))
    (may_be_told i (log_of w) unit e.chunk is.event.found e.command is.does))

pub all_steps : (i : Image) (events : List UnitEvent) (w : World) (unit : ℕ) (u : ModelUnit) → IsLegalMount i w → log_of w 0 ≡ [] → IsAt i w unit u
    → AreReadying i u events → IsLegalMount i (after_events i.shape unit w events)
all_steps i [] w unit u mount none at are = mount
all_steps i (e ∷ events) w unit u mount none at are =
    all_steps i events (unit_step i.shape unit e (opening_maker w) w ∷ w) unit (with_event u e)
    (one_step i w unit u e (opening_maker w) mount none at are.0)
    (engine_log i.shape unit e (opening_maker w) w ∙ none)
    (at_next i w unit u e (opening_maker w) at are.0) are.1
