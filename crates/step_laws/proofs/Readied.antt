-- What padding and scanning make of units: each has events of its own, which make its drive ready.
use Rattle.std.proofs.Common.{◌≡◌, inl, inr, ℕ, true, false, Some, List, [], ◌∷◌, ◌++◌, length-append, refl, sym, subst, ap, ◌∙◌, arith, ◌+◌, ◌-◌, ◌*◌, ◌/◌, ◌%◌, ◌<◌}
use Rattle.std.specs.Prelude.{⊤, drop, slice_get}
use Rattle.std.specs.List.{AllByRecursion, list_any}
use Rattle.std.proofs.lemmas.Nat.{mod-mul-add}
use Rattle.std.proofs.lemmas.Bool.{eq-eqb, ne_eqb}
use Rattle.std.proofs.lemmas.List.{drop-append-le}
use Rattle.std.proofs.lemmas.List.Folds.{list_any-append}
use Rattle.std.proofs.lemmas.Option.{same_Some}
use native.Mathlib.Decide.{ℕ_discrete}
use Rattle.pblk_model.specs.declared.shape.Shape.{Shape}
use Rattle.pblk_model.specs.Chunk.{Chunk, Block, pointer}
use Rattle.pblk_model.specs.ChunkStep.{ChunkCommand, Write, Read, WritesBlocks}
use Rattle.pblk_model.specs.Marks.{pad_block}
use Rattle.pblk_model.specs.UnitLog.{UnitEvent, UnitOutcome, Answered, Failed, Stopped, IsEvent, IsOutcome}
use Rattle.pblk_model.specs.Image.{Image}
use Rattle.pblk_world.specs.Commanding.{IsPadding, was_stopped}
use Rattle.unit_port.specs.Armed.{IsUnarmed, is_fail, is_stop}
use Rattle.unit_port.specs.Unit.{ModelUnit, IsStopped}
use Rattle.unit_port.specs.Commands.{EventAt, IsNext, AreNext, command_of, with_event, after_one, after_all, events_of}
use Rattle.scan_recovery.specs.Fetches.{IsFetch}
use Rattle.scan_recovery.specs.Pads.{ArePads, IsNextPad, pads_from}
use Rattle.scan_recovery.specs.Units.{image_of}
use Rattle.scan_recovery.specs.Readying.{WereReadied}
use Rattle.scan_recovery.proofs.PadSteps.{event_was, next_above}
use Rattle.scan_recovery.proofs.PadsLemmas.{pads_count}
use Rattle.scan_recovery.proofs.UnitLogs.{others_event, own_event}
use Rattle.step_laws.specs.Opened.{IsArmed}
use Rattle.step_laws.proofs.UnitEvents.{IsPadOrFetch, IsReadying, AreReadying}
use Rattle.pblk_model.proofs.Lists.{all_replicated}
use Rattle.pblk_model.proofs.Tests.{not_both, or_no, or_right}

-- ---- units that a fuse or a plan may stop

pub stop_is : (o : UnitOutcome) → was_stopped o ≡ is_stop o
stop_is (Answered a) = refl
stop_is (Failed k) = refl
stop_is (Stopped k) = refl

-- its log tells a stop
tells_stop : (u : ModelUnit) (e : UnitEvent) → IsArmed u → (IsUnarmed u.armed → (is_fail e.outcome ≡ false) × (is_stop e.outcome ≡ false))
    → was_stopped e.outcome ≡ true → IsStopped (with_event u e)
tells_stop u e armed quiet was =
    let stop : is_stop e.outcome ≡ true = sym (stop_is e.outcome) ∙ was in
    elim armed [
      | inl none ↦ absurd (not_both (is_stop e.outcome) stop (quiet none).1)
      | inr since ↦
          let stops = λ (x : UnitEvent). is_stop x.outcome in
          ap (list_any stops) (drop-append-le u.armed.since u.log (e ∷ []) since)
          ∙ list_any-append stops (drop u.armed.since u.log) (e ∷ [])
          ∙ or_right (list_any stops (drop u.armed.since u.log)) (list_any stops (e ∷ [])) (or_no (is_stop e.outcome) ∙ stop)
    ]

armed_after : (u : ModelUnit) (e : UnitEvent) → IsArmed u → IsArmed (with_event u e)
armed_after u e armed = elim armed [ inl none ↦ inl none | inr since ↦ inr (omega (arith, length-append u.log (e ∷ []))) ]

-- of a drive of this shape
abbrev pub AreTelling : Shape → List ModelUnit → Type 0
AreTelling s us = (k : ℕ) (u : ModelUnit) → slice_get us k ≡ Some u → (u.shape ≡ s) × IsArmed u

telling_after : (s : Shape) (us : List ModelUnit) (e : EventAt) → IsNext us e → AreTelling s us → AreTelling s (after_one us e)
telling_after s us e next telling = λ k u there. go k u there (ℕ_discrete e.unit k)
  where
    go : (k : ℕ) (u : ModelUnit) → slice_get (after_one us e) k ≡ Some u → Dec (e.unit ≡ k) → (u.shape ≡ s) × IsArmed u
    go k u there (yes same) =
        let was : slice_get us k ≡ Some next.unit = ap (slice_get us) (sym same) ∙ next.there in
        let is : with_event next.unit e.event ≡ u = same_Some (with_event next.unit e.event) u (sym (own_event e us k next.unit was same) ∙ there) in
        let of = telling k next.unit was in
        subst (λ (x : ModelUnit). (x.shape ≡ s) × IsArmed x) is (of.0, armed_after next.unit e.event of.1)
    go k u there (no apart) = telling k u (sym (others_event e us k apart) ∙ there)

-- ---- events of several units

pub record IsReadyingAt (i : Image) (us : List ModelUnit) (e : EventAt) : Type 0 where
  pub unit : ModelUnit
  pub there : slice_get us e.unit ≡ Some unit
  pub step : IsReadying i unit e.event

abbrev pub AreReadyingAll : Image → List ModelUnit → List EventAt → Type 0
AreReadyingAll i us [] = ⊤
AreReadyingAll i us (e ∷ events) = IsReadyingAt i us e × AreReadyingAll i (after_one us e) events

readying_append : (i : Image) (us : List ModelUnit) (xs ys : List EventAt) → AreReadyingAll i us xs → AreReadyingAll i (after_all us xs) ys
    → AreReadyingAll i us (xs ++ ys)
readying_append i us [] ys a b = b
readying_append i us (x ∷ xs) ys a b = (a.0, readying_append i (after_one us x) xs ys a.1 b)

-- an event of a unit of another drive's shape, which is the same
abbrev same_event : (s t : Shape) (media : List Chunk) (e : UnitEvent) → s ≡ t → IsEvent s media e → IsEvent t media e
same_event s t media e is h = record {
  found = h.found;
  there = h.there;
  blocks = subst (λ (x : Shape). WritesBlocks x e.command) is h.blocks;
  outcome = subst (λ (x : Shape). IsOutcome x h.found e.command e.outcome) is h.outcome;
}

readies : (i : Image) (us : List ModelUnit) (e : EventAt) (command : ChunkCommand) → AreTelling i.shape us → (next : IsNext us e)
    → e.event.command ≡ command → IsPadOrFetch i next.event.found command → IsReadyingAt i us e
readies i us e command telling next is does = record {
  unit = next.unit;
  there = next.there;
  step = record {
    event = same_event next.unit.shape i.shape next.unit.media e.event (telling e.unit next.unit next.there).0 next.event;
    does = subst (λ (x : ChunkCommand). IsPadOrFetch i next.event.found x) (sym is) does;
    stopped = next.stopped;
    tells = tells_stop next.unit e.event (telling e.unit next.unit next.there).1 next.quiet;
  };
}

-- a program that pads
to_multiple : (at w : ℕ) → 0 < w → (at + ((at / w + 1) * w - at)) % w ≡ 0
to_multiple at w some =
    let above : at < (at / w + 1) * w = next_above at w some in
    let whole : at + ((at / w + 1) * w - at) ≡ (at / w + 1) * w + 0 = omega arith in
    ap (λ n. n % w) whole ∙ mod-mul-add (at / w + 1) w 0 some

pads_there : (i : Image) (us : List ModelUnit) (e : EventAt) → 0 < i.shape.ws_opt → (pad : IsNextPad i.shape us (command_of e)) (next : IsNext us e)
    → IsPadding i next.event.found (pointer pad.found) (pads_from i.shape (pointer pad.found))
pads_there i us e some pad next =
    let same : pad.found ≡ next.event.found = same_Some pad.found next.event.found (sym pad.there ∙ event_was i.shape us e next) in
    let at : ℕ = pointer pad.found in
    record {
      is_open = ap (λ (c : Chunk). c.state) (sym same) ∙ pad.is_open;
      at_pointer = ap pointer same;
      pads = all_replicated (λ (b : Block). b ≡ pad_block i.shape) ((at / i.shape.ws_opt + 1) * i.shape.ws_opt - at) (pad_block i.shape) refl;
      whole = ap (λ n. (at + n) % i.shape.ws_opt) (pads_count i.shape at) ∙ to_multiple at i.shape.ws_opt some;
    }

pads_ready : (i : Image) (us : List ModelUnit) (events : List EventAt) → 0 < i.shape.ws_opt → AreTelling i.shape us → ArePads i.shape us events
    → AreReadyingAll i us events × AreTelling i.shape (after_all us events)
pads_ready i us [] some telling pads = (tt, telling)
pads_ready i us (e ∷ events) some telling pads =
    let rest = pads_ready i (after_one us e) events some (telling_after i.shape us e pads.1 telling) pads.2 in
    let at : ℕ = pointer pads.0.found in
    ((readies i us e (Write at (pads_from i.shape at)) telling pads.1 pads.0.command (pads_there i us e some pads.0 pads.1), rest.0), rest.1)

-- and fetches
fetches_ready : (i j : Image) (us : List ModelUnit) (events : List EventAt) → AreTelling i.shape us → AllByRecursion (IsFetch j) events → AreNext us events
    → AreReadyingAll i us events
fetches_ready i j us [] telling fetches next = tt
fetches_ready i j us (e ∷ events) telling fetches next = (
  readies i us e (Read fetches.0.block) telling next.0 fetches.0.command tt,
  fetches_ready i j (after_one us e) events (telling_after i.shape us e next.0 telling) fetches.1 next.1,
)

-- all of an opening
pub all_ready : (i : Image) (old new : List ModelUnit) → 0 < i.shape.ws_opt → AreTelling i.shape old → (were : WereReadied i.shape old new)
    → AreReadyingAll i old (were.pads ++ were.fetches)
all_ready i old new some telling were =
    let padded = pads_ready i old were.pads some telling were.padded in
    readying_append i old were.pads were.fetches padded.0
    (fetches_ready i (image_of i.shape (after_all old were.pads)) (after_all old were.pads) were.fetches padded.1 were.fetched were.next)

-- ---- the events of one unit

first_own : (i : Image) (e : EventAt) (events : List EventAt) (us : List ModelUnit) (k : ℕ) (u : ModelUnit) → slice_get us k ≡ Some u → IsReadyingAt i us e
    → Dec (e.unit ≡ k) → ((v : ModelUnit) → slice_get (after_one us e) k ≡ Some v → AreReadying i v (events_of k events))
    → AreReadying i u (events_of k (e ∷ events))
first_own i e events us k u there is (yes same) more =
    let its : is.unit ≡ u = same_Some is.unit u (sym is.there ∙ ap (slice_get us) same ∙ there) in
    rw (eq-eqb e.unit k same)
    (subst (λ (x : ModelUnit). IsReadying i x e.event) its is.step, more (with_event u e.event) (own_event e us k u there same))
first_own i e events us k u there is (no apart) more = rw (ne_eqb e.unit k apart) (more u (others_event e us k apart ∙ there))

pub own_ready : (i : Image) (events : List EventAt) (us : List ModelUnit) (k : ℕ) (u : ModelUnit) → slice_get us k ≡ Some u → AreReadyingAll i us events
    → AreReadying i u (events_of k events)
own_ready i [] us k u there are = tt
own_ready i (e ∷ events) us k u there are =
    first_own i e events us k u there are.0 (ℕ_discrete e.unit k) (λ v at. own_ready i events (after_one us e) k v at are.1)
