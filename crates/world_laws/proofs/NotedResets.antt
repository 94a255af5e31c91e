-- The engine has noted each reset that wasn't stopped: of logs that are merged, and after a step.
use Rattle.std.proofs.Common.{◌≡◌, ◌⊎◌, inl, inr, ℕ, ◌-◌, ◌<◌, ◌≤◌, ◌==◌, suc, Bool, true, false, if◌then◌else◌, Some, Option, List, [], ◌∷◌, ◌++◌, length, drop, refl, sym, subst, ap, ◌∙◌, arith, append-nil}
use Rattle.std.specs.Prelude.{slice_get}
use Rattle.std.specs.List.{Contains}
use Rattle.std.specs.Option.{option_and_then}
use Rattle.std.proofs.Math.Seq.{take-length}
use Rattle.std.proofs.lemmas.List.Elements.{filter_map-append}
use Rattle.std.proofs.lemmas.Option.{same_Some}
use Rattle.pblk_model.specs.ChunkStep.{ChunkCommand, Read, Reset, Write}
use Rattle.pblk_model.specs.Image.{Image}
use Rattle.pblk_model.specs.UnitLog.{UnitEvent}
use Rattle.pblk_world.specs.AtRest.{AreResetsNoted, IsUnnotedReset, knows_last, logs_at}
use Rattle.pblk_world.specs.Commanding.{is_reset, was_stopped}
use Rattle.pblk_world.specs.EngineLog.{named_by, named_events}
use Rattle.pblk_world.specs.Events.{Logged, Step}
use Rattle.pblk_world.specs.Legal.{IsLegal}
use Rattle.pblk_world.specs.World.{World, Logs, knows_engine, log_of, unit_event_at, unit_event_of}
use Rattle.pblk_world.proofs.Growing.{at_end}
use Rattle.pblk_world.proofs.WorldLemmas.{log_here}
use Rattle.pblk_model.proofs.Lists.{among_contained, among_more}
use Rattle.pblk_model.proofs.Maps.{given_at}
use Rattle.pblk_model.proofs.Options.{split_then}
use Rattle.pblk_model.proofs.Parts.{contained_among, get_last, get_more, take_and_drop}
use Rattle.pblk_model.proofs.Tests.{not_both, same}
use Rattle.world_laws.specs.Merged.{AreMerged, Begins}
use Rattle.world_laws.proofs.Deeds.{IsDeed, deed}
use Rattle.world_laws.proofs.NamedPrefixes.{was_made}
use Rattle.world_laws.proofs.Resets.{IsReset, reset}

-- ---- longer logs

-- what the engine names it names in a longer log, too
named_more : (log all : List Logged) (unit number : ℕ) → Begins log all → Contains (named_events log unit) number → Contains (named_events all unit) number
named_more log all unit number begins named =
    subst (λ (xs : List Logged). Contains (named_events xs unit) number) (sym begins.1)
    (subst (λ (xs : List ℕ). Contains xs number) (sym (filter_map-append (λ (l : Logged). named_by unit l.event) log begins.0))
    (contained_among (named_events log unit ++ named_events begins.0 unit) number
    (among_more (named_events log unit) (named_events begins.0 unit) number (among_contained (named_events log unit) number named))))

abbrev event_in : List Logged → ℕ → Option UnitEvent
event_in log number = option_and_then (λ (l : Logged). unit_event_of l.event) (slice_get log number)

event_more : (log all : List Logged) (number : ℕ) (e : UnitEvent) → Begins log all → event_in log number ≡ Some e → event_in all number ≡ Some e
event_more log all number e begins is =
    let at = split_then (λ (l : Logged). unit_event_of l.event) (slice_get log number) e is in
    ap (λ (xs : List Logged). event_in xs number) begins.1
    ∙ ap (option_and_then (λ (l : Logged). unit_event_of l.event)) (get_more log begins.0 number at.0 at.1) ∙ at.2

-- ---- merged logs

noted_by : (a merged : Logs) (unit number : ℕ) → Begins (a 0) (merged 0) → Begins (merged (suc unit)) (a (suc unit)) → AreResetsNoted a
    → IsUnnotedReset merged unit number → ⊥
noted_by a merged unit number engine own noted is = noted unit number (record {
  event = is.event;
  is_known = event_more (merged (suc unit)) (a (suc unit)) number is.event own is.is_known;
  reset = is.reset;
  not_stopped = is.not_stopped;
  unnoted = λ named. is.unnoted (named_more (a 0) (merged 0) unit number engine named);
})

pub noted_merged : (a b merged : Logs) → AreMerged a b merged → AreResetsNoted a → AreResetsNoted b → AreResetsNoted merged
noted_merged a b merged are first second unit number is = go (are.units unit)
  where
    go : Begins (merged (suc unit)) (a (suc unit)) ⊎ Begins (merged (suc unit)) (b (suc unit)) → ⊥
    go (inl own) = noted_by a merged unit number are.engine_of_first own first is
    go (inr own) = noted_by b merged unit number are.engine_of_second own second is

-- ---- at the end of the engine's log

pub noted_at : (logs : Logs) → AreResetsNoted logs → AreResetsNoted (logs_at (length (logs 0)) logs)
noted_at logs noted unit number is = noted_by logs (logs_at (length (logs 0)) logs) unit number
    ([], take-length (logs 0) ∙ sym (append-nil (logs 0)))
    (drop upto (logs (suc unit)), sym (take_and_drop upto (logs (suc unit)))) noted is
  where
    upto : ℕ
    upto = knows_last (slice_get (logs 0) (length (logs 0) - 1)) (suc unit)

-- ---- one more step

module _ (w : World) (step : Step) where
  longer : (author : ℕ) → Begins (log_of w author) (log_of (step ∷ w) author)
  longer author = go (step.author == author)
    where
      go : (t : Bool) → Begins (log_of w author) (if t then log_of w author ++ step.logged ∷ [] else log_of w author)
      go true = (step.logged ∷ [], refl)
      go false = ([], sym (append-nil (log_of w author)))

  -- an event stood in the units' logs before, or is that of the step
  old_or_new : (unit number : ℕ) (e : UnitEvent) → unit_event_at (log_of (step ∷ w)) unit number ≡ Some e
      → (unit_event_at (log_of w) unit number ≡ Some e)
      ⊎ ((step.author ≡ suc unit) × (number ≡ length (log_of w (suc unit))) × (unit_event_of step.logged.event ≡ Some e))
  old_or_new unit number e is = go (step.author == suc unit) refl is
    where
      last : step.author ≡ suc unit → (l : Logged) → unit_event_of l.event ≡ Some e
          → (slice_get (log_of w (suc unit)) number ≡ Some l) ⊎ ((number ≡ length (log_of w (suc unit))) × (step.logged ≡ l))
          → (unit_event_at (log_of w) unit number ≡ Some e)
          ⊎ ((step.author ≡ suc unit) × (number ≡ length (log_of w (suc unit))) × (unit_event_of step.logged.event ≡ Some e))
      last author l event (inl old) = inl (ap (option_and_then (λ (x : Logged). unit_event_of x.event)) old ∙ event)
      last author l event (inr new) = inr (author, new.0, ap (λ (x : Logged). unit_event_of x.event) new.1 ∙ event)

      go : (t : Bool) → (step.author == suc unit) ≡ t
          → event_in (if t then log_of w (suc unit) ++ step.logged ∷ [] else log_of w (suc unit)) number ≡ Some e
          → (unit_event_at (log_of w) unit number ≡ Some e)
          ⊎ ((step.author ≡ suc unit) × (number ≡ length (log_of w (suc unit))) × (unit_event_of step.logged.event ≡ Some e))
      go false apart there = inl there
      go true its there =
          let at = split_then (λ (l : Logged). unit_event_of l.event) (slice_get (log_of w (suc unit) ++ step.logged ∷ []) number) e there in
          last (same step.author (suc unit) its) at.0 at.2 (at_end (log_of w (suc unit)) step.logged at.0 number at.1)

  -- a reset that isn't noted now wasn't noted before
  unnoted_before : (unit number : ℕ) → IsUnnotedReset (log_of (step ∷ w)) unit number → ¬ Contains (named_events (log_of w 0) unit) number
  unnoted_before unit number is named = is.unnoted (named_more (log_of w 0) (log_of (step ∷ w) 0) unit number (longer 0) named)

  pub noted_kept : ((e : UnitEvent) → unit_event_of step.logged.event ≡ Some e → is_reset e.command ≡ true → was_stopped e.outcome ≡ true)
      → AreResetsNoted (log_of w) → AreResetsNoted (log_of (step ∷ w))
  noted_kept stops noted unit number is = go (old_or_new unit number is.event is.is_known)
    where
      go : (unit_event_at (log_of w) unit number ≡ Some is.event)
          ⊎ ((step.author ≡ suc unit) × (number ≡ length (log_of w (suc unit))) × (unit_event_of step.logged.event ≡ Some is.event)) → ⊥
      go (inl old) = noted unit number (record {
        event = is.event;
        is_known = old;
        reset = is.reset;
        not_stopped = is.not_stopped;
        unnoted = unnoted_before unit number is;
      })
      go (inr new) = not_both (was_stopped is.event.outcome) (stops is.event new.2 is.reset) is.not_stopped

-- ---- a reset that is noted

pub noted_reset : (w : World) (unit : ℕ) (reset note : Step) → reset.author ≡ suc unit → note.author ≡ 0
    → named_by unit note.logged.event ≡ Some (length (log_of w (suc unit))) → AreResetsNoted (log_of w) → AreResetsNoted (log_of (note ∷ reset ∷ w))
noted_reset w unit reset note resets notes names noted u number is = first (old_or_new (reset ∷ w) note u number is.event is.is_known)
  where
    second : (unit_event_at (log_of w) u number ≡ Some is.event)
        ⊎ ((reset.author ≡ suc u) × (number ≡ length (log_of w (suc u))) × (unit_event_of reset.logged.event ≡ Some is.event)) → ⊥
    second (inl old) = noted u number (record {
      event = is.event;
      is_known = old;
      reset = is.reset;
      not_stopped = is.not_stopped;
      unnoted = λ named. is.unnoted (named_more (log_of (reset ∷ w) 0) (log_of (note ∷ reset ∷ w) 0) u number (longer (reset ∷ w) note 0)
          (named_more (log_of w 0) (log_of (reset ∷ w) 0) u number (longer w reset 0) named));
    })
    second (inr new) =
        let one : suc unit ≡ suc u = sym resets ∙ new.0 in
        let same_unit : unit ≡ u = omega arith in
        let its : named_by u note.logged.event ≡ Some number =
        subst (λ v. named_by v note.logged.event ≡ Some (length (log_of w (suc v)))) same_unit names ∙ ap (λ n. Some n) (sym new.1) in
        is.unnoted (subst (λ (log : List Logged). Contains (named_events log u) number) (sym (log_here note (reset ∷ w) 0 notes))
        (contained_among (named_events (log_of (reset ∷ w) 0 ++ note.logged ∷ []) u) number
        (given_at (λ (x : Logged). named_by u x.event) (log_of (reset ∷ w) 0 ++ note.logged ∷ []) note.logged number (length (log_of (reset ∷ w) 0))
        (get_last (log_of (reset ∷ w) 0) note.logged) its)))

    first : (unit_event_at (log_of (reset ∷ w)) u number ≡ Some is.event)
        ⊎ ((note.author ≡ suc u) × (number ≡ length (log_of (reset ∷ w) (suc u))) × (unit_event_of note.logged.event ≡ Some is.event)) → ⊥
    first (inl old) = second (old_or_new w reset u number is.event old)
    first (inr new) = let no : 0 ≡ suc u = sym notes ∙ new.0 in absurd (omega arith)

-- ---- before the mount begins no chunk is reset

pub reset_is : (command : ChunkCommand) → is_reset command ≡ true → command ≡ Reset
reset_is (Write at blocks) e = absurd cc
reset_is (Read b) e = absurd cc
reset_is Reset e = refl

pub noted_before : (i : Image) (w : World) → IsLegal i w → log_of w 0 ≡ [] → AreResetsNoted (log_of w)
noted_before i w legal none unit number is =
    let at = split_then (λ (l : Logged). unit_event_of l.event) (slice_get (log_of w (suc unit)) number) is.event is.is_known in
    let d : IsDeed i w unit number at.0 = deed i w unit number at.0 legal at.1 in
    let its : d.event ≡ is.event = same_Some d.event is.event (sym d.is_event ∙ at.2) in
    let r : IsReset i w legal unit number at.0 at.1 d = reset i w legal unit number at.0 at.1 d
    (reset_is d.event.command (ap (λ (e : UnitEvent). is_reset e.command) its ∙ is.reset)) in
    let knew : 0 < knows_engine at.0 = r.knew in
    let few : knows_engine at.0 ≤ length (log_of w 0) = (was_made i w (suc unit) number at.0 legal at.1).within 0 in
    let nothing : length (log_of w 0) ≡ 0 = ap (λ (log : List Logged). length log) none in
    absurd (omega arith)
