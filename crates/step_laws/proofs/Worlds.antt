-- What all units did, as a world.
use Rattle.std.proofs.Common.{◌≡◌, ◌⊎◌, inl, inr, ℕ, ◌+◌, ◌<◌, ◌≤◌, zero, suc, true, Some, None, List, [], ◌∷◌, ◌++◌, length, get_or, refl, sym, subst, ap, ◌∙◌, arith}
use Rattle.std.specs.Prelude.{map, slice_get}
use Rattle.std.specs.List.{enumerate_from}
use Rattle.std.specs.Option.{option_map}
use Rattle.std.proofs.lemmas.List.{length-map}
use Rattle.std.proofs.lemmas.List.Sums.{fold-append}
use Rattle.std.proofs.lemmas.Option.{same_Some, none-some, slice_get-map, slice_get_cases}
use Rattle.pblk_model.specs.declared.shape.Shape.{Shape}
use Rattle.pblk_model.specs.Accepted.{IsAccepted}
use Rattle.pblk_model.specs.Chunk.{Chunk}
use Rattle.pblk_model.specs.UnitLog.{UnitEvent, after_log}
use Rattle.pblk_model.specs.Image.{Image}
use Rattle.pblk_world.specs.Commanding.{has_stopped}
use Rattle.pblk_world.specs.World.{World, log_of, media, unit_events}
use Rattle.pblk_world.specs.Legal.{IsLegal}
use Rattle.pblk_world.proofs.WorldLemmas.{length_media, media_at}
use Rattle.pblk_world.specs.LegalMounts.{IsLegalMount}
use Rattle.unit_port.specs.Unit.{ModelUnit, IsStopped}
use Rattle.unit_port.specs.Commands.{EventAt, after_one, after_all, events_of}
use Rattle.scan_recovery.specs.DriveFaults.{grown_by}
use Rattle.scan_recovery.specs.Readying.{WereReadied}
use Rattle.scan_recovery.specs.Units.{AreFit, image_of}
use Rattle.scan_recovery.proofs.PadLoops.{fit_image}
use Rattle.scan_recovery.proofs.UnitLogs.{as_many, grown_after, media_after, unit_after, with_events}
use Rattle.step_laws.specs.Opened.{AreArmed, new_events, after_events, after_units}
use Rattle.step_laws.proofs.ChunkEvents.{same_images}
use Rattle.step_laws.proofs.Readied.{all_ready, own_ready}
use Rattle.step_laws.proofs.UnitEvents.{AreReadying, IsAt, all_steps, at_elsewhere, events_quiet, others_events, own_events, stopped_after}
use Rattle.pblk_model.proofs.Parts.{get_past}

-- ---- units one after another

events_below : (s : Shape) (all : List (List UnitEvent)) (unit : ℕ) (w : World) (n : ℕ) → n < unit
    → unit_events (log_of (after_units s unit w all)) n ≡ unit_events (log_of w) n
events_below s [] unit w n low = refl
events_below s (events ∷ all) unit w n low =
    events_below s all (suc unit) (after_events s unit w events) n (omega arith)
    ∙ others_events s unit events w n (λ same. absurd (omega arith))

-- a unit has its events
its_events : (s : Shape) (all : List (List UnitEvent)) (unit : ℕ) (w : World) (n k : ℕ) (events : List UnitEvent) → n ≡ unit + k
    → slice_get all k ≡ Some events → unit_events (log_of (after_units s unit w all)) n ≡ unit_events (log_of w) n ++ events
its_events s [] unit w n k events at there = absurd (none-some events there)
its_events s (first ∷ all) unit w n zero events at there =
    let same : n ≡ unit = omega arith in
    events_below s all (suc unit) (after_events s unit w first) n (omega arith)
    ∙ subst (λ m. unit_events (log_of (after_events s unit w first)) m ≡ unit_events (log_of w) m ++ first) (sym same) (own_events s unit first w)
    ∙ ap (λ (es : List UnitEvent). unit_events (log_of w) n ++ es) (same_Some first events there)
its_events s (first ∷ all) unit w n (suc k) events at there =
    its_events s all (suc unit) (after_events s unit w first) n k events (omega arith) there
    ∙ ap (λ (es : List UnitEvent). es ++ events) (others_events s unit first w n (λ same. absurd (omega arith)))

-- the engine did nothing
pub units_quiet : (s : Shape) (unit : ℕ) (w : World) (all : List (List UnitEvent)) → log_of (after_units s unit w all) 0 ≡ log_of w 0
units_quiet s unit w [] = refl
units_quiet s unit w (events ∷ all) = units_quiet s (suc unit) (after_events s unit w events) all ∙ events_quiet s unit events w

-- the unit of that number can have them
abbrev CanHave : Image → World → ℕ → List UnitEvent → Type 0
CanHave i w n events = (u : ModelUnit) × IsAt i w n u × AreReadying i u events

abbrev CanAll : Image → World → ℕ → List (List UnitEvent) → Type 0
CanAll i w unit all = (n k : ℕ) (events : List UnitEvent) → n ≡ unit + k → slice_get all k ≡ Some events → CanHave i w n events

all_units : (i : Image) (all : List (List UnitEvent)) (unit : ℕ) (w : World) → IsLegalMount i w → log_of w 0 ≡ [] → CanAll i w unit all
    → IsLegalMount i (after_units i.shape unit w all)
all_units i [] unit w mount none can = mount
all_units i (first ∷ all) unit w mount none can =
    let its : CanHave i w unit first = can unit 0 first (omega arith) refl in
    all_units i all (suc unit) (after_events i.shape unit w first) (all_steps i first w unit its.0 mount none its.1 its.2)
    (events_quiet i.shape unit first w ∙ none)
    (λ n k events at there.
    let h : CanHave i w n events = can n (suc k) events (omega arith) there in
    (h.0, at_elsewhere i unit first w n h.0 (λ same. absurd (omega arith)) h.1, h.2))

-- ---- before all of it

still : (s : Shape) (n k : ℕ) (xs : List (List Chunk)) → slice_get (map (λ unit. after_log s unit.1 []) (enumerate_from n xs)) k ≡ slice_get xs k
still s n k [] = refl
still s n zero (x ∷ xs) = refl
still s n (suc k) (x ∷ xs) = still s (n + 1) k xs

at_first : (s : Shape) (us : List ModelUnit) (k : ℕ) (u : ModelUnit) → AreFit s us → slice_get us k ≡ Some u → IsAt (image_of s us) [] k u
at_first s us k u fit there = record {
  shape = (fit.each k u there).shape;
  media = still s 0 k (map (λ (u : ModelUnit). u.media) us) ∙ slice_get-map (λ (u : ModelUnit). u.media) us k
      ∙ ap (option_map (λ (u : ModelUnit). u.media)) there;
  stopped = λ was. absurd cc;
}

nothing_done : (s : Shape) (us : List ModelUnit) → IsAccepted s → AreFit s us → IsLegalMount (image_of s us) []
unfolding IsLegal
nothing_done s us accepted fit = record { accepted = accepted; fit = fit_image s us fit; legal = tt }

-- ---- an opening

-- what a unit has done is what its log grew by
new_at : (old new : List ModelUnit) (k : ℕ) (u v : ModelUnit) → slice_get old k ≡ Some u → slice_get new k ≡ Some v
    → slice_get (new_events old new) k ≡ Some (grown_by u v)
new_at [] new k u v a b = absurd (none-some u a)
new_at (x ∷ old) [] k u v a b = absurd (none-some v b)
new_at (x ∷ old) (y ∷ new) zero u v a b = ap (λ (z : ModelUnit). Some (grown_by z y)) (same_Some x u a)
    ∙ ap (λ (z : ModelUnit). Some (grown_by u z)) (same_Some y v b)
new_at (x ∷ old) (y ∷ new) (suc k) u v a b = new_at old new k u v a b

units_at : (old new : List ModelUnit) (k : ℕ) (events : List UnitEvent) → slice_get (new_events old new) k ≡ Some events
    → (u v : ModelUnit) × (slice_get old k ≡ Some u) × (slice_get new k ≡ Some v) × (grown_by u v ≡ events)
units_at [] new k events e = absurd (none-some events e)
units_at (u ∷ old) [] k events e = absurd (none-some events e)
units_at (u ∷ old) (v ∷ new) zero events e = (u, v, refl, refl, same_Some (grown_by u v) events e)
units_at (u ∷ old) (v ∷ new) (suc k) events e = units_at old new k events e

module _ (s : Shape) (old new : List ModelUnit) (were : WereReadied s old new) where
  abbrev i : Image
  i = image_of s old

  abbrev all : List EventAt
  all = were.pads ++ were.fetches

  abbrev opened : World
  opened = after_units s 0 [] (new_events old new)

  new_is : new ≡ after_all old all
  new_is = were.units ∙ sym (fold-append after_one old were.pads were.fetches)

  now : (k : ℕ) (u : ModelUnit) → slice_get old k ≡ Some u → slice_get new k ≡ Some (with_events u (events_of k all))
  now k u there = ap (λ (us : List ModelUnit). slice_get us k) new_is ∙ unit_after all old k u there

  grown : (k : ℕ) (u v : ModelUnit) → slice_get old k ≡ Some u → slice_get new k ≡ Some v
      → (v.log ≡ u.log ++ events_of k all) × (grown_by u v ≡ events_of k all)
  grown k u v there after = grown_after all old k u v there (ap (λ (us : List ModelUnit). slice_get us k) (sym new_is) ∙ after)

  did : (k : ℕ) (u v : ModelUnit) → slice_get old k ≡ Some u → slice_get new k ≡ Some v → unit_events (log_of opened) k ≡ events_of k all
  did k u v there after = its_events s (new_events old new) 0 [] k k (grown_by u v) (omega arith) (new_at old new k u v there after)
      ∙ (grown k u v there after).1

  pub logs_are : (number : ℕ) (u v : ModelUnit) → slice_get old number ≡ Some u → slice_get new number ≡ Some v
      → v.log ≡ u.log ++ unit_events (log_of opened) number
  logs_are number u v there after = (grown number u v there after).0
      ∙ ap (λ (es : List UnitEvent). u.log ++ es) (sym (did number u v there after))

  as_long : length new ≡ length old
  as_long = ap (λ (us : List ModelUnit). length us) new_is ∙ as_many all old

  pub media_are : AreFit s old → media i (log_of opened) ≡ image_of s new
  media_are fit = same_images s (media i (log_of opened)).units (map (λ (u : ModelUnit). u.media) new) (λ k. at k (slice_get_cases old k).1)
    where
      at : (k : ℕ) → ((u : ModelUnit) × (k < length old) × (slice_get old k ≡ Some u) × (get_or old k u ≡ u)) ⊎ ((length old ≤ k) × (slice_get old k ≡ None))
          → slice_get (media i (log_of opened)).units k ≡ slice_get (map (λ (u : ModelUnit). u.media) new) k
      at k (inl is) =
          let u : ModelUnit = is.0 in
          let v : ModelUnit = with_events is.0 (events_of k all) in
          media_at i (log_of opened) k
          ∙ ap (λ (es : List UnitEvent). option_map (λ (cs : List Chunk). after_log s cs es) (slice_get i.units k)) (did k is.0 v is.2 (now k is.0 is.2))
          ∙ ap (option_map (λ (cs : List Chunk). after_log s cs (events_of k all)))
          (slice_get-map (λ (x : ModelUnit). x.media) old k ∙ ap (option_map (λ (x : ModelUnit). x.media)) is.2)
          ∙ ap (λ (t : Shape). Some (after_log t is.0.media (events_of k all))) (sym (fit.each k is.0 is.2).shape)
          ∙ ap (λ (cs : List Chunk). Some cs) (sym (media_after (events_of k all) is.0))
          ∙ sym (slice_get-map (λ (x : ModelUnit). x.media) new k ∙ ap (option_map (λ (x : ModelUnit). x.media)) (now k is.0 is.2))
      at k (inr past) =
          let long : length (media i (log_of opened)).units ≡ length old =
          length_media i (log_of opened) ∙ length-map old (λ (u : ModelUnit). u.media) in
          let many : length (map (λ (u : ModelUnit). u.media) new) ≡ length old = length-map new (λ (u : ModelUnit). u.media) ∙ as_long in
          get_past (media i (log_of opened)).units k (omega arith)
          ∙ sym (get_past (map (λ (u : ModelUnit). u.media) new) k (omega arith))

-- where a stop shows in the logs
module _ (s : Shape) (old new : List ModelUnit) (accepted : IsAccepted s) (fit : AreFit s old) (armed : AreArmed old) (were : WereReadied s old new) where
  ready : (k : ℕ) (u : ModelUnit) → slice_get old k ≡ Some u → AreReadying (image_of s old) u (events_of k (were.pads ++ were.fetches))
  ready k u there =
      own_ready (image_of s old) (were.pads ++ were.fetches) old k u there
      (all_ready (image_of s old) old new accepted.drive.ws_opt (λ n v at. ((fit.each n v at).shape, armed n v at)) were)

  can : (n k : ℕ) (events : List UnitEvent) → n ≡ 0 + k → slice_get (new_events old new) k ≡ Some events → CanHave (image_of s old) [] n events
  can n k events at there =
      let of = units_at old new k events there in
      let same : k ≡ n = omega arith in
      let which : events_of k (were.pads ++ were.fetches) ≡ events = sym (grown s old new were k of.0 of.1 of.2 of.3).1 ∙ of.4 in
      subst (λ m. CanHave (image_of s old) [] m events) same
      (of.0, at_first s old k of.0 fit of.2, subst (AreReadying (image_of s old) of.0) which (ready k of.0 of.2))

  pub legal_mount : IsLegalMount (image_of s old) (after_units s 0 [] (new_events old new))
  legal_mount = all_units (image_of s old) (new_events old new) 0 [] (nothing_done s old accepted fit) refl can

  pub stops_there : (number : ℕ) (v : ModelUnit) → slice_get new number ≡ Some v
      → has_stopped (unit_events (log_of (after_units s 0 [] (new_events old new))) number) ≡ true → IsStopped v
  stops_there number v after was = at (slice_get_cases old number).1
    where
      at : ((u : ModelUnit) × (number < length old) × (slice_get old number ≡ Some u) × (get_or old number u ≡ u))
          ⊎ ((length old ≤ number) × (slice_get old number ≡ None)) → IsStopped v
      at (inl is) =
          let events : List UnitEvent = events_of number (were.pads ++ were.fetches) in
          let which : with_events is.0 events ≡ v = same_Some (with_events is.0 events) v (sym (now s old new were number is.0 is.2) ∙ after) in
          subst IsStopped which
          (stopped_after (image_of s old) events is.0 (ready number is.0 is.2)
          (sym (ap has_stopped (did s old new were number is.0 v is.2 after)) ∙ was))
      at (inr past) =
          let none : slice_get new number ≡ None =
          get_past new number (let long : length new ≡ length old = as_long s old new were in omega arith) in
          absurd (none-some v (sym none ∙ after))
