-- The programs of Pad blocks one after another: what they leave of a drive.
use Rattle.std.proofs.Common.{◌≡◌, ◌≢◌, ℕ, ◌+◌, ◌-◌, ◌*◌, ◌/◌, ◌^◌, ◌<◌, ◌≤◌, ◌⊎◌, suc, min, inl, inr, true, false, Option, Some, None, List, [], ◌∷◌, ◌++◌, map, length, Result, Ok, Err, refl, sym, ap, ◌∙◌, subst, arith, append_assoc}
use Rattle.std.specs.List.{AllByRecursion, slice_get, slice_set}
use Rattle.std.specs.Option.{option_map_or, option_and_then}
use Rattle.std.proofs.lemmas.List.{length-map, length-set}
use Rattle.std.proofs.lemmas.Option.{none-some, same_Some, slice_get_within}
use Rattle.std.proofs.lemmas.Grind.{fold-append}
use native.Mathlib.Decide.{ℕ_discrete}
use Rattle.pblk_model.specs.declared.shape.Shape.{Shape}
use Rattle.pblk_model.specs.declared.chunk.ChunkState.{ChunkState}
use Rattle.pblk_model.specs.declared.chunk.ChunkState.TheVariants.{Open}
use Rattle.pblk_model.specs.Accepted.{IsAccepted}
use Rattle.pblk_model.specs.Chunk.{Chunk, Block, IsChunk, pointer}
use Rattle.pblk_model.specs.ChunkStep.{ChunkCommand, Write}
use Rattle.pblk_model.specs.UnitLog.{UnitOutcome, UnitEvent, IsOutcome, IsEvent, IsUnitLog, after_outcome}
use Rattle.pblk_model.specs.Image.{Image, IsFit}
use Rattle.pblk_model.specs.Contents.{contents, end}
use Rattle.pblk_model.specs.Sealed.{IsSealed}
use Rattle.pblk_laws.specs.LineBlocks.{chunk_in}
use Rattle.pblk_laws.proofs.UnitChunks.{log_keeps, log_count}
use Rattle.unit_port.specs.Armed.{is_stop}
use Rattle.unit_port.specs.declared.unit.UnitErr.{UnitErr}
use Rattle.unit_port.specs.declared.unit.UnitErr.TheVariants as unit_errors
use Rattle.unit_port.specs.Unit.{ModelUnit, IsFitUnit, TellsDone}
use Rattle.world_laws.specs.SameImages.{HoldsTheSame}
use Rattle.world_laws.specs.Padding.{IsPaddedAt, ArePadded}
use Rattle.world_laws.proofs.PaddedImages.{padded_sealed, padded_holds}
use Rattle.unit_port.specs.Commands.{UnitCommand, EventAt, command_of, IsNext, AreKept, with_event, after_one, after_all}
use Rattle.unit_port.specs.Did.{Did, command_at}
use Rattle.unit_port.proofs.Units.{after_one_is}
use Rattle.world_laws.specs.Finding.{NoneOpen}
use Rattle.scan_recovery.specs.declared.error.ScanErr.{ScanErr}
use Rattle.scan_recovery.specs.declared.error.ScanErr.TheVariants as errors
use Rattle.scan_recovery.specs.Units.{image_of, AreFit, IsUnitOf}
use Rattle.scan_recovery.specs.Pads.{pads_from, room_in, room_at, ArePads, Ends, HasPadded, IsNextPad, IsNotOpen, IsOpenAt, IsQuiet, NoneOpenBefore}
use Rattle.scan_recovery.proofs.PadSteps.{Leaves, leaves, chunk_of, next_above, event_was, event_is, event_others}
use Rattle.pblk_model.proofs.Lists.{all_append}
use Rattle.pblk_model.proofs.Parts.{all_get, get_set_other, get_set_same}

-- Units of a drive.

pub fit_image : (s : Shape) (us : List ModelUnit) → AreFit s us → IsFit (image_of s us)
fit_image s us fit = record {
  units = length-map us (λ (u : ModelUnit). u.media) ∙ fit.count;
  chunks = each_unit (λ unit. length unit ≡ s.chunks) (λ u. u.media) us
      (λ k u h. let of = fit.each k u h in of.fits.count ∙ ap (λ (x : Shape). x.chunks) of.shape);
  each = each_unit (AllByRecursion (IsChunk s)) (λ u. u.media) us
      (λ k u h. let of = fit.each k u h in subst (λ (x : Shape). AllByRecursion (IsChunk x) u.media) of.shape of.fits.chunks);
} where
  each_unit : {X : Type 0} (P : X → Type 0) (f : ModelUnit → X) (us : List ModelUnit) → ((k : ℕ) (u : ModelUnit) → slice_get us k ≡ Some u → P (f u))
      → AllByRecursion P (map f us)
  each_unit P f [] h = tt
  each_unit P f (u ∷ us) h = (h 0 u refl, each_unit P f us (λ k. h (suc k)))

pub fit_kept : (s : Shape) (old new : List ModelUnit) → AreFit s old → AreKept old new → AreFit s new
fit_kept s old new fit kept = record {
  count = kept.count ∙ fit.count;
  each = λ k v h. (let was = kept.each k v h in let of = fit.each k was.0 was.1 in record { shape = was.2.shape ∙ of.shape; fits = was.2.fits of.fits });
}

-- An event leaves them so.

event_fits : (u : ModelUnit) (e : UnitEvent) → 0 < u.shape.ws_min → IsFitUnit u → IsEvent u.shape u.media e → IsFitUnit (with_event u e)
unfolding IsUnitLog
event_fits u e some fits event = record {
  count = log_count u.shape u.media (e ∷ []) ∙ fits.count;
  chunks = log_keeps u.shape u.media (e ∷ []) some fits.chunks (event, tt);
}

pub fit_after : (s : Shape) (us : List ModelUnit) (e : EventAt) → IsAccepted s → AreFit s us → IsNext us e → AreFit s (after_one us e)
fit_after s us e accepted fit h = subst (AreFit s) (sym (after_one_is us e h.unit h.there)) (record {
  count = length-set us e.unit (with_event h.unit e.event) ∙ fit.count;
  each = λ k v there. at_place k v there (ℕ_discrete k e.unit);
}) where
  at_place : (k : ℕ) (v : ModelUnit) → slice_get (slice_set us e.unit (with_event h.unit e.event)) k ≡ Some v → Dec (k ≡ e.unit) → IsUnitOf s v
  at_place k v there (yes same) =
      let of = fit.each e.unit h.unit h.there in
      let some : 0 < h.unit.shape.ws_min = subst (λ (x : Shape). 0 < x.ws_min) (sym of.shape) accepted.drive.ws_min in
      let is : with_event h.unit e.event ≡ v =
      same_Some (with_event h.unit e.event) v
      (sym (get_set_same us e.unit (with_event h.unit e.event) (slice_get_within us e.unit h.unit h.there))
      ∙ ap (slice_get (slice_set us e.unit (with_event h.unit e.event))) (sym same) ∙ there) in
      subst (IsUnitOf s) is (record { shape = of.shape; fits = event_fits h.unit e.event some of.fits h.event })
  at_place k v there (no other) = fit.each k v (sym (get_set_other us e.unit k (with_event h.unit e.event) other) ∙ there)

-- What one program leaves.

pub event_leaves : (s : Shape) (us : List ModelUnit) (e : EventAt) → IsAccepted s → AreFit s us → IsNextPad s us (command_of e) → (h : IsNext us e)
    → Leaves s h.event.found (after_outcome s h.event.found e.event.command e.event.outcome) e.event.outcome
event_leaves s us e accepted fit pad h =
    let of = fit.each e.unit h.unit h.there in
    let c : Chunk = h.event.found in
    let same : pad.found ≡ c = same_Some pad.found c (sym pad.there ∙ event_was s us e h) in
    let is_open : c.state ≡ Open = ap (λ (x : Chunk). x.state) (sym same) ∙ pad.is_open in
    let chunk : IsChunk s c = subst (λ (x : Shape). IsChunk x c) of.shape
    (all_get (IsChunk h.unit.shape) h.unit.media e.event.chunk c of.fits.chunks h.event.there) in
    let at : ℕ = pointer pad.found in
    let n : ℕ = (at / s.ws_opt + 1) * s.ws_opt - at in
    let some : 0 < n = (let above = next_above at s.ws_opt accepted.drive.ws_opt in omega arith) in
    let outcome : IsOutcome s c (Write at (pads_from s at)) e.event.outcome =
    subst (λ (command : ChunkCommand). IsOutcome s c command e.event.outcome) pad.command
    (subst (λ (x : Shape). IsOutcome x c e.event.command e.event.outcome) of.shape h.event.outcome) in
    subst (λ (command : ChunkCommand). Leaves s c (after_outcome s c command e.event.outcome) e.event.outcome) (sym pad.command)
    (leaves s c at n e.event.outcome chunk is_open some outcome)

event_pads : (s : Shape) (us : List ModelUnit) (e : EventAt) → IsAccepted s → AreFit s us → IsNextPad s us (command_of e) → IsNext us e
    → ArePadded (image_of s us) (image_of s (after_one us e))
event_pads s us e accepted fit pad h = record {
  shape = refl;
  count = length-map (after_one us e) (λ (u : ModelUnit). u.media) ∙ (fit_after s us e accepted fit h).count ∙ sym fit.count
      ∙ sym (length-map us (λ (u : ModelUnit). u.media));
  chunks = λ l u. at_place l u (ℕ_discrete l e.event.chunk) (ℕ_discrete u e.unit);
} where
  at_place : (l u : ℕ) → Dec (l ≡ e.event.chunk) → Dec (u ≡ e.unit)
      → (chunk_in (image_of s (after_one us e)) l u ≡ chunk_in (image_of s us) l u) ⊎ IsPaddedAt (image_of s us) (image_of s (after_one us e)) l u
  at_place l u (yes a) (yes b) = inr (record {
    old = h.event.found;
    new = after_outcome s h.event.found e.event.command e.event.outcome;
    was = ap (λ n. chunk_in (image_of s us) n u) a ∙ ap (chunk_in (image_of s us) e.event.chunk) b ∙ event_was s us e h;
    is = ap (λ n. chunk_in (image_of s (after_one us e)) n u) a ∙ ap (chunk_in (image_of s (after_one us e)) e.event.chunk) b
        ∙ event_is s us e h (fit.each e.unit h.unit h.there).shape;
    padded = (event_leaves s us e accepted fit pad h).padded;
  })
  at_place l u (yes a) (no n) = inl (event_others s us e h l u (λ x y. n y))
  at_place l u (no n) other = inl (event_others s us e h l u (λ x y. n x))

-- What all of them leave.

pub record Holds (s : Shape) (old new : List ModelUnit) : Type 0 where
  pub sealed : IsSealed (image_of s new)
  pub contents_are : contents (image_of s new) ≡ contents (image_of s old)
  pub end_is : end (image_of s new) ≡ end (image_of s old)

pub all_hold : (s : Shape) (us : List ModelUnit) (events : List EventAt) → IsAccepted s → AreFit s us → ArePads s us events → IsSealed (image_of s us)
    → Holds s us (after_all us events)
all_hold s us [] accepted fit pads whole = record { sealed = whole; contents_are = refl; end_is = refl }
all_hold s us (e ∷ events) accepted fit pads whole =
    let h : IsNext us e = pads.1 in
    let fit' = fit_after s us e accepted fit h in
    let now : ArePadded (image_of s us) (image_of s (after_one us e)) = event_pads s us e accepted fit pads.0 h in
    let same : HoldsTheSame (image_of s us) (image_of s (after_one us e)) = padded_holds (image_of s us) (image_of s (after_one us e)) accepted whole now in
    let rest = all_hold s (after_one us e) events accepted fit' pads.2 (padded_sealed (image_of s us) (image_of s (after_one us e)) accepted whole now) in
    record { sealed = rest.sealed; contents_are = rest.contents_are ∙ same.contents; end_is = rest.end_is ∙ same.end }

-- One after another.

pads_append : (s : Shape) (us : List ModelUnit) (xs ys : List EventAt) → ArePads s us xs → ArePads s (after_all us xs) ys → ArePads s us (xs ++ ys)
pads_append s us [] ys h k = k
pads_append s us (e ∷ xs) ys h k = (h.0, h.1, pads_append s (after_one us e) xs ys h.2 k)

ends_append : (new : List ModelUnit) (xs ys : List EventAt) (r : Result (Unit {0}) ScanErr) → AllByRecursion IsQuiet xs → Ends new ys r → Ends new (xs ++ ys) r
ends_append new xs ys (Ok done) h k = all_append IsQuiet xs ys h k
ends_append new xs ys (Err (errors.Drive unit number)) h (front, last, is, quiet, unit_is, stop, named) =
    (xs ++ front, last, ap (λ zs. xs ++ zs) is ∙ sym (append_assoc xs front (last ∷ [])), all_append IsQuiet xs front h quiet, unit_is, stop, named)
ends_append new xs ys (Err errors.Memory) h k = k

pub none_padded : (s : Shape) (us : List ModelUnit) → HasPadded s us us [] (Ok tt)
none_padded s us = record { pads = tt; units = refl; ends = tt }

pub joined : (s : Shape) (a b c : List ModelUnit) (xs ys : List EventAt) (r : Result (Unit {0}) ScanErr) → HasPadded s a b xs (Ok tt) → HasPadded s b c ys r
    → HasPadded s a c (xs ++ ys) r
joined s a b c xs ys r h k = record {
  pads = pads_append s a xs ys h.pads (subst (λ us. ArePads s us ys) h.units k.pads);
  units = k.units ∙ ap (λ us. after_all us ys) h.units ∙ sym (fold-append after_one a xs ys);
  ends = ends_append c xs ys r h.ends k.ends;
}

abbrev pub HasRun : Shape → List ModelUnit → List ModelUnit → Result (Unit {0}) ScanErr → Type 0
HasRun s old new r = (events : List EventAt) × HasPadded s old new events r

pub run_joined : (s : Shape) (a b c : List ModelUnit) (r : Result (Unit {0}) ScanErr) → HasRun s a b (Ok tt) → HasRun s b c r → HasRun s a c r
run_joined s a b c r h k = (h.0 ++ k.0, joined s a b c h.0 k.0 r h.1 k.1)

-- The first Open chunk.

pub one_pad : (s : Shape) (old new : List ModelUnit) (line unit at : ℕ) (e : EventAt) → IsOpenAt (image_of s old) line unit at
    → NoneOpenBefore (image_of s old) line unit → Did old (command_at unit line (Write at (pads_from s at))) e new → ArePads s old (e ∷ [])
one_pad s old new line unit at e found before did = (
  subst (IsNextPad s old) (sym did.command) (record {
    found = found.found;
    there = found.there;
    is_open = found.is_open;
    is_first = before;
    command = ap (λ p. Write p (pads_from s p)) (sym found.pointer_is);
  }),
  did.next,
  tt,
)

pub still_before : (s : Shape) (old new : List ModelUnit) (line unit : ℕ) (command : ChunkCommand) (e : EventAt) → NoneOpenBefore (image_of s old) line unit
    → Did old (command_at unit line command) e new → NoneOpenBefore (image_of s new) line unit
still_before s old new line unit command e before did l u c first h =
    let unit_is : e.unit ≡ unit = ap (λ (x : UnitCommand). x.unit) did.command in
    let line_is : e.event.chunk ≡ line = ap (λ (x : UnitCommand). x.chunk) did.command in
    before l u c first (sym (event_others s old e did.next l u
    (λ a b. elim first [ inl less ↦ absurd (omega arith) | inr same ↦ (let m = same.1 in absurd (omega arith)) ]))
    ∙ ap (λ us. chunk_in (image_of s us) l u) (sym did.units) ∙ h)

room_there : (s : Shape) (i : Image) (line unit : ℕ) (c : Chunk) → chunk_in i line unit ≡ Some c → room_at s i line unit ≡ room_in s c.state (pointer c)
room_there s i line unit c h = ap (λ o. option_map_or (λ c. room_in s c.state (pointer c)) o 0) h

pub less_room : (s : Shape) (old new : List ModelUnit) (line unit at : ℕ) (e : EventAt) → IsAccepted s → AreFit s old → IsOpenAt (image_of s old) line unit at
    → NoneOpenBefore (image_of s old) line unit
    → Did old (command_at unit line (Write at (pads_from s at))) e new → is_stop e.event.outcome ≡ false
    → room_at s (image_of s new) line unit < room_at s (image_of s old) line unit
less_room s old new line unit at e accepted fit found before did quiet =
    let unit_is : e.unit ≡ unit = ap (λ (x : UnitCommand). x.unit) did.command in
    let line_is : e.event.chunk ≡ line = ap (λ (x : UnitCommand). x.chunk) did.command in
    let pads = one_pad s old new line unit at e found before did in
    let h : IsNext old e = did.next in
    let c : Chunk = h.event.found in
    let d : Chunk = after_outcome s c e.event.command e.event.outcome in
    let smaller = (event_leaves s old e accepted fit pads.0 h).smaller quiet in
    let was : room_at s (image_of s old) e.event.chunk e.unit ≡ room_in s c.state (pointer c) =
    room_there s (image_of s old) e.event.chunk e.unit c (event_was s old e h) in
    let is : room_at s (image_of s (after_one old e)) e.event.chunk e.unit ≡ room_in s d.state (pointer d) =
    room_there s (image_of s (after_one old e)) e.event.chunk e.unit d (event_is s old e h (fit.each e.unit h.unit h.there).shape) in
    let less : room_at s (image_of s (after_one old e)) e.event.chunk e.unit < room_at s (image_of s old) e.event.chunk e.unit = omega arith in
    subst (λ us. room_at s (image_of s us) line unit < room_at s (image_of s old) line unit) (sym did.units)
    (subst (λ l. room_at s (image_of s (after_one old e)) l unit < room_at s (image_of s old) l unit) line_is
    (subst (λ u. room_at s (image_of s (after_one old e)) e.event.chunk u < room_at s (image_of s old) e.event.chunk u) unit_is less))

pub next_unit : (i : Image) (line unit : ℕ) → NoneOpenBefore i line unit → ((c : Chunk) → chunk_in i line unit ≡ Some c → c.state ≢ Open)
    → NoneOpenBefore i line (unit + 1)
next_unit i line unit before here l u c (inl less) h = before l u c (inl less) h
next_unit i line unit before here l u c (inr (same, below)) h = at_place (ℕ_discrete u unit) where
  at_place : Dec (u ≡ unit) → c.state ≢ Open
  at_place (yes e) = here c (ap (chunk_in i line) (sym e) ∙ ap (λ n. chunk_in i n u) (sym same) ∙ h)
  at_place (no n) = before l u c (inr (same, omega arith)) h

chunk_within : (i : Image) (l u count : ℕ) (c : Chunk) → chunk_in i l u ≡ Some c → length i.units ≤ count → u < count
chunk_within i l u count c h few = by_unit (slice_get i.units u) refl where
  by_unit : (o : Option (List Chunk)) → slice_get i.units u ≡ o → u < count
  by_unit None e = absurd (none-some c (sym (ap (option_and_then (λ chunks. slice_get chunks l)) e) ∙ h))
  by_unit (Some chunks) e = omega (arith, slice_get_within i.units u chunks e)

pub line_within : (i : Image) (l u : ℕ) (c : Chunk) → IsFit i → chunk_in i l u ≡ Some c → l < i.shape.chunks
line_within i l u c fit h = by_unit (slice_get i.units u) refl where
  by_unit : (o : Option (List Chunk)) → slice_get i.units u ≡ o → l < i.shape.chunks
  by_unit None e = absurd (none-some c (sym (ap (option_and_then (λ chunks. slice_get chunks l)) e) ∙ h))
  by_unit (Some chunks) e = omega (
    arith,
    slice_get_within chunks l c (sym (ap (option_and_then (λ chunks. slice_get chunks l)) e) ∙ h),
    all_get (λ unit. length unit ≡ i.shape.chunks) i.units u chunks fit.chunks e,
  )

-- past the last line
pub none_open : (i : Image) → IsFit i → NoneOpenBefore i i.shape.chunks 0 → NoneOpen i
none_open i fit before l u c h = before l u c (inl (line_within i l u c fit h)) h

pub next_line : (i : Image) (line count : ℕ) → length i.units ≤ count → NoneOpenBefore i line count → NoneOpenBefore i (line + 1) 0
next_line i line count few before l u c (inl less) h = at_place (ℕ_discrete l line) where
  at_place : Dec (l ≡ line) → c.state ≢ Open
  at_place (yes e) = before l u c (inr (e, chunk_within i l u count c h few)) h
  at_place (no n) = before l u c (inl (omega arith)) h
next_line i line count few before l u c (inr (same, below)) h = absurd (omega arith)

-- How a program ended.

told_ok : (r : Result (Unit {0}) UnitErr) (done : Unit {0}) (o : UnitOutcome) → r ≡ Ok done → TellsDone r o → is_stop o ≡ false
told_ok r done o is h = ap is_stop (subst (λ (x : Result (Unit {0}) UnitErr). TellsDone x o) is h)

told_failed : (r : Result (Unit {0}) UnitErr) (o : UnitOutcome) → r ≡ Err unit_errors.Failed → TellsDone r o → is_stop o ≡ false
told_failed r o is h = let t = subst (λ (x : Result (Unit {0}) UnitErr). TellsDone x o) is h in ap is_stop t.1

told_stopped : (r : Result (Unit {0}) UnitErr) (o : UnitOutcome) → r ≡ Err unit_errors.Stopped → TellsDone r o → is_stop o ≡ true
told_stopped r o is h = let t = subst (λ (x : Result (Unit {0}) UnitErr). TellsDone x o) is h in ap is_stop t.1

abbrev pub DidPads : Shape → List ModelUnit → ℕ → ℕ → ℕ → List Block → Result (Unit {0}) UnitErr → List ModelUnit → Type 0
DidPads s old line unit at blocks r new = (e : EventAt) × Did old (command_at unit line (Write at blocks)) e new × TellsDone r e.event.outcome

of_pads : (s : Shape) (old new : List ModelUnit) (line unit at : ℕ) (blocks : List Block) (e : EventAt) → blocks ≡ pads_from s at
    → Did old (command_at unit line (Write at blocks)) e new → Did old (command_at unit line (Write at (pads_from s at))) e new
of_pads s old new line unit at blocks e is h = subst (λ bs. Did old (command_at unit line (Write at bs)) e new) is h

module _ (s : Shape) (old new : List ModelUnit) (line unit at : ℕ) (blocks : List Block) (accepted : IsAccepted s) (fit : AreFit s old)
    (opened : IsOpenAt (image_of s old) line unit at) (first : NoneOpenBefore (image_of s old) line unit) (is : blocks ≡ pads_from s at) where
  quiet_run : (e : EventAt) → Did old (command_at unit line (Write at blocks)) e new → is_stop e.event.outcome ≡ false → HasRun s old new (Ok tt)
  quiet_run e did quiet =
      let d = of_pads s old new line unit at blocks e is did in
      (e ∷ [], record { pads = one_pad s old new line unit at e opened first d; units = d.units; ends = (quiet, tt) })

  pub done_stripe : (r : Result (Unit {0}) UnitErr) (done : Unit {0}) → r ≡ Ok done → DidPads s old line unit at blocks r new
      → HasRun s old new (Ok tt) × (room_at s (image_of s new) line unit < room_at s (image_of s old) line unit) × NoneOpenBefore (image_of s new) line unit
  done_stripe r done r-is (e, did, told) =
      let d = of_pads s old new line unit at blocks e is did in
      let quiet = told_ok r done e.event.outcome r-is told in (
        quiet_run e did quiet,
        less_room s old new line unit at e accepted fit opened first d quiet,
        still_before s old new line unit (Write at (pads_from s at)) e first d,
      )

  pub failed_stripe : (r : Result (Unit {0}) UnitErr) → r ≡ Err unit_errors.Failed → DidPads s old line unit at blocks r new
      → HasRun s old new (Ok tt) × (room_at s (image_of s new) line unit < room_at s (image_of s old) line unit) × NoneOpenBefore (image_of s new) line unit
  failed_stripe r r-is (e, did, told) =
      let d = of_pads s old new line unit at blocks e is did in
      let quiet = told_failed r e.event.outcome r-is told in (
        quiet_run e did quiet,
        less_room s old new line unit at e accepted fit opened first d quiet,
        still_before s old new line unit (Write at (pads_from s at)) e first d,
      )

  pub stopped_stripe : (r : Result (Unit {0}) UnitErr) (v : ModelUnit) (number : ℕ) → r ≡ Err unit_errors.Stopped → DidPads s old line unit at blocks r new
      → slice_get new unit ≡ Some v → number ≡ min (length v.log) (2 ^ 64 - 1)
      → HasRun s old new (Err (errors.Drive unit number)) × NoneOpenBefore (image_of s new) line unit
  stopped_stripe r v number r-is (e, did, told) there number-is =
      let d = of_pads s old new line unit at blocks e is did in
      let stop = told_stopped r e.event.outcome r-is told in
      let unit_is : e.unit ≡ unit = ap (λ (x : UnitCommand). x.unit) d.command in
      let h : IsNext old e = d.next in
      let is_v : with_event h.unit e.event ≡ v =
      same_Some (with_event h.unit e.event) v
      (sym (get_set_same old e.unit (with_event h.unit e.event) (slice_get_within old e.unit h.unit h.there))
      ∙ ap (λ us. slice_get us e.unit) (sym (after_one_is old e h.unit h.there) ∙ sym d.units) ∙ ap (slice_get new) unit_is ∙ there) in (
        (
          e ∷ [],
          record {
            pads = one_pad s old new line unit at e opened first d;
            units = d.units;
            ends = (
              [],
              e,
              refl,
              tt,
              unit_is,
              stop,
              record { of = v; there = there; front = h.unit.log; log = ap (λ (x : ModelUnit). x.log) (sym is_v); number_is = number-is },
            );
          },
        ),
        still_before s old new line unit (Write at (pads_from s at)) e first d,
      )

pub kept_holds : (s : Shape) (old new : List ModelUnit) (r : Result (Unit {0}) ScanErr) → IsAccepted s → AreFit s old → HasRun s old new r
    → IsSealed (image_of s old) → Holds s old new
kept_holds s old new r accepted fit (events, h) whole = subst (Holds s old) (sym h.units) (all_hold s old events accepted fit h.pads whole)

-- What a unit says of a chunk.

pub open_here : (s : Shape) (us : List ModelUnit) (line unit wp : ℕ) (v : ModelUnit) (state : ChunkState) → slice_get us unit ≡ Some v
    → (found : Chunk) × (slice_get v.media line ≡ Some found) × (state ≡ found.state) × (wp ≡ pointer found)
    → state ≡ Open → IsOpenAt (image_of s us) line unit wp
open_here s us line unit wp v state there (found, chunk, state_is, wp_is) is = record {
  found = found;
  there = chunk_of s us line unit v there ∙ chunk;
  is_open = sym state_is ∙ is;
  pointer_is = sym wp_is;
}

pub not_open_here : (s : Shape) (us : List ModelUnit) (line unit wp : ℕ) (v : ModelUnit) (state : ChunkState) → slice_get us unit ≡ Some v
    → (found : Chunk) × (slice_get v.media line ≡ Some found) × (state ≡ found.state) × (wp ≡ pointer found)
    → (state ≡ Open → ⊥) → IsNotOpen (image_of s us) line unit
not_open_here s us line unit wp v state there (found, chunk, state_is, wp_is) is c h opened =
    let same : found ≡ c = same_Some found c (sym (chunk_of s us line unit v there ∙ chunk) ∙ h) in
    is (state_is ∙ ap (λ (x : Chunk). x.state) same ∙ opened)

pub chunk_here : (s : Shape) (us : List ModelUnit) (line unit : ℕ) (v : ModelUnit) → AreFit s us → slice_get us unit ≡ Some v → line < s.chunks
    → line < length v.media
chunk_here s us line unit v fit there inside = let of = fit.each unit v there in let count : length v.media ≡ s.chunks = of.fits.count
    ∙ ap (λ (x : Shape). x.chunks) of.shape in omega arith
