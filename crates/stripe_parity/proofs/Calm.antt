-- Units that are armed with nothing stay so, and none of their fetches fails or is stopped.
use Rattle.std.proofs.Common.{◌≡◌, ◌≢◌, ℕ, List, [], ◌∷◌, ◌++◌, true, false, Some, Result, Ok, Err, refl, sym, ap, ◌∙◌, subst}
use Rattle.std.specs.List.{slice_get, slice_set}
use Rattle.std.specs.Result.{IfErr}
use Rattle.std.proofs.lemmas.Bool.{false≢true}
use Rattle.std.proofs.lemmas.Option.{same_Some, slice_get_within}
use native.Mathlib.Decide.{ℕ_discrete}
use Rattle.pblk_model.specs.declared.shape.Shape.{Shape}
use Rattle.pblk_model.specs.UnitLog.{UnitOutcome, Answered, Failed, Stopped}
use Rattle.pblk_model.proofs.Parts.{get_set_other, get_set_same}
use Rattle.unit_port.specs.Armed.{IsUnarmed, is_fail, is_stop}
use Rattle.unit_port.specs.Commands.{AreNext, AreUnarmed, EventAt, IsNext, after_all, after_one, with_event}
use Rattle.unit_port.specs.Did.{failed_or_stopped}
use Rattle.unit_port.specs.Unit.{ModelUnit}
use Rattle.unit_port.proofs.Units.{after_one_is}
use Rattle.scan_recovery.specs.Fetches.{WereFetched}
use Rattle.scan_recovery.specs.Pads.{ArePads, WerePadded}
use Rattle.scan_recovery.specs.declared.error.ScanErr.{ScanErr}
use Rattle.scan_recovery.specs.declared.error.ScanErr.TheVariants as scan

unarmed_at : (us : List ModelUnit) (e : EventAt) (u : ModelUnit) (k : ℕ) (v : ModelUnit) → slice_get us e.unit ≡ Some u → AreUnarmed us
    → slice_get (slice_set us e.unit (with_event u e.event)) k ≡ Some v → Dec (k ≡ e.unit)
    → IsUnarmed v.armed
unarmed_at us e u k v there calm at (yes same) =
    let new = with_event u e.event in
    let here : Some new ≡ Some v = sym (get_set_same us e.unit new (slice_get_within us e.unit u there)) ∙ ap (slice_get (slice_set us e.unit new)) (sym same)
    ∙ at in
    subst (λ (x : ModelUnit). IsUnarmed x.armed) (same_Some new v here) (calm e.unit u there)
unarmed_at us e u k v there calm at (no other) = calm k v (sym (get_set_other us e.unit k (with_event u e.event) other) ∙ at)

unarmed_after : (us : List ModelUnit) (e : EventAt) → AreUnarmed us → IsNext us e → AreUnarmed (after_one us e)
unarmed_after us e calm h = rw (after_one_is us e h.unit h.there) (λ k v at. unarmed_at us e h.unit k v h.there calm at (ℕ_discrete k e.unit))

not_lost : (o : UnitOutcome) → (is_fail o ≡ false) × (is_stop o ≡ false) → failed_or_stopped o ≡ true → ⊥
not_lost (Answered answer) quiet lost = false≢true lost
not_lost (Failed k) quiet lost = false≢true (sym quiet.0)
not_lost (Stopped k) quiet lost = false≢true (sym quiet.1)

none_lost : (us : List ModelUnit) (front : List EventAt) (last : EventAt) → AreUnarmed us → AreNext us (front ++ last ∷ [])
    → failed_or_stopped last.event.outcome ≡ true → ⊥
none_lost us [] last calm next lost = not_lost last.event.outcome (next.0.quiet (calm last.unit next.0.unit next.0.there)) lost
none_lost us (e ∷ front) last calm next lost = none_lost (after_one us e) front last (unarmed_after us e calm next.0) next.1 lost

pub none_fails : (s : Shape) (old new : List ModelUnit) (unit event : ℕ) → AreUnarmed old → WereFetched s old new (Some (scan.Drive unit event)) → ⊥
none_fails s old new unit event calm (events, h) =
    let (front, last, is, good, of, lost, end) = h.ends in
    none_lost old front last calm (subst (AreNext old) is h.next) lost

-- Padding.

none_stops : (s : Shape) (us : List ModelUnit) (front : List EventAt) (last : EventAt) → AreUnarmed us → ArePads s us (front ++ last ∷ [])
    → is_stop last.event.outcome ≡ true → ⊥
none_stops s us [] last calm pads stops = false≢true (sym (pads.1.quiet (calm last.unit pads.1.unit pads.1.there)).1 ∙ stops)
none_stops s us (e ∷ front) last calm pads stops = none_stops s (after_one us e) front last (unarmed_after us e calm pads.1) pads.2 stops

still_unarmed : (s : Shape) (us : List ModelUnit) (events : List EventAt) → AreUnarmed us → ArePads s us events → AreUnarmed (after_all us events)
still_unarmed s us [] calm pads = calm
still_unarmed s us (e ∷ events) calm pads = still_unarmed s (after_one us e) events (unarmed_after us e calm pads.1) pads.2

unarmed_padded : (s : Shape) (old new : List ModelUnit) (r : Result (Unit {0}) ScanErr) → AreUnarmed old → WerePadded s old new r → AreUnarmed new
unarmed_padded s old new r calm (events, h) = subst AreUnarmed (sym h.units) (still_unarmed s old events calm h.pads)

pub padded_unarmed : (s : Shape) (old new : List ModelUnit) (r : Result (Unit {0}) ScanErr) → (r ≢ Err scan.Memory → WerePadded s old new r)
    → (r ≡ Err scan.Memory → new ≡ old) → AreUnarmed old → AreUnarmed new
padded_unarmed s old new (Ok done) padded same calm = unarmed_padded s old new (Ok done) calm (padded (λ e. cc e))
padded_unarmed s old new (Err (scan.Drive unit event)) padded same calm = unarmed_padded s old new (Err (scan.Drive unit event)) calm (padded (λ e. cc e))
padded_unarmed s old new (Err scan.Memory) padded same calm = subst AreUnarmed (sym (same refl)) calm

no_stop : (s : Shape) (old new : List ModelUnit) (unit event : ℕ) → AreUnarmed old → WerePadded s old new (Err (scan.Drive unit event)) → ⊥
no_stop s old new unit event calm (events, h) =
    let (front, last, is, quiet, of, stops, end) = h.ends in
    none_stops s old front last calm (subst (ArePads s old) is h.pads) stops

pub padded_wanting : (s : Shape) (old new : List ModelUnit) (r : Result (Unit {0}) ScanErr) → (r ≢ Err scan.Memory → WerePadded s old new r) → AreUnarmed old
    → IfErr r (λ e. e ≡ scan.Memory)
padded_wanting s old new (Ok done) padded calm = tt
padded_wanting s old new (Err (scan.Drive unit event)) padded calm = absurd (no_stop s old new unit event calm (padded (λ e. cc e)))
padded_wanting s old new (Err scan.Memory) padded calm = refl
