-- The next step of a unit whose author knows all logs.
use Rattle.std.proofs.Common.{◌≡◌, ◌≢◌, ◌⊎◌, ℕ, ◌<◌, ◌==◌, ◌||◌, suc, Bool, true, false, Some, None, Option, List, [], ◌∷◌, ◌++◌, length, refl, sym, subst, ap, ◌∙◌, arith, if◌then◌else◌}
use Rattle.std.specs.Prelude.{slice_get}
use Rattle.std.specs.List.{AllByRecursion, Contains, filter_map}
use Rattle.std.specs.Option.{option_map, option_and_then, IfSome}
use Rattle.std.proofs.lemmas.Bool.{eqb-true}
use Rattle.std.proofs.lemmas.List.Folds.{list_any-append}
use Rattle.std.proofs.lemmas.List.Sums.{fold-append}
use Rattle.std.proofs.lemmas.Option.{none-some, slice_get_within}
use Rattle.pblk_model.specs.declared.shape.Shape.{Shape}
use Rattle.pblk_model.specs.Shape.{units}
use Rattle.pblk_model.specs.Chunk.{Chunk}
use Rattle.pblk_model.specs.UnitLog.{UnitEvent, after_outcome, after_event, after_log}
use Rattle.pblk_model.specs.Image.{Image, IsFit}
use Rattle.pblk_laws.specs.LineBlocks.{chunk_in}
use Rattle.pblk_world.specs.Events.{Landed, Lost, Again, ResetDone, Event, Decides, Does, Maker, Logged, Step}
use Rattle.pblk_world.specs.World.{World, Logs, log_of, known, prefixes, media, unit_events, unit_event_of}
use Rattle.pblk_world.specs.EngineLog.{Begun, begun, Placed, placed_on, named_by, named_events}
use Rattle.pblk_world.specs.Commanding.{was_stopped, has_stopped, IsCommand}
use Rattle.pblk_world.specs.Answering.{IsNew}
use Rattle.pblk_world.specs.Legal.{IsAllowed, IsLegal}
use Rattle.pblk_world.specs.LegalMounts.{IsLegalMount}
use Rattle.world_laws.proofs.EarlierLogs.{some_begun}
use Rattle.core_laws.specs.StripePrograms.{HasHappened}
use Rattle.core_laws.proofs.Happened.{happened}
use Rattle.step_laws.specs.NextEvents.{CanDo}
use Rattle.step_laws.specs.Whole.{unit_step, after_unit, next_event}
use Rattle.step_laws.proofs.ChunkEvents.{IsTurned, turned_here, turned_beside}
use Rattle.step_laws.proofs.Knowing.{next_legal}
use Rattle.pblk_model.proofs.Lists.{all_contains}
use Rattle.pblk_model.proofs.Maps.{all_filter_map, more}
use Rattle.pblk_model.proofs.Parts.{all_by_get, get_last, get_whole_within}
use Rattle.pblk_model.proofs.Tests.{not_both, or_no}
use Rattle.pblk_world.proofs.WorldLemmas.{length_media, log_elsewhere, log_here, media_at}

-- ---- the logs

pub unit_log : (s : Shape) (unit : ℕ) (e : UnitEvent) (maker : Maker) (w : World)
    → log_of (unit_step s unit e maker w ∷ w) (suc unit) ≡ log_of w (suc unit) ++ (unit_step s unit e maker w).logged ∷ []
unit_log s unit e maker w = log_here (unit_step s unit e maker w) w (suc unit) refl

pub other_log : (s : Shape) (unit : ℕ) (e : UnitEvent) (maker : Maker) (w : World) (author : ℕ) → author ≢ suc unit
    → log_of (unit_step s unit e maker w ∷ w) author ≡ log_of w author
other_log s unit e maker w author apart = log_elsewhere (unit_step s unit e maker w) w author (λ same. apart (sym same))

pub engine_log : (s : Shape) (unit : ℕ) (e : UnitEvent) (maker : Maker) (w : World) → log_of (unit_step s unit e maker w ∷ w) 0 ≡ log_of w 0
engine_log s unit e maker w = other_log s unit e maker w 0 (λ same. let no : 0 ≡ suc unit = same in absurd (omega arith))

-- its number is how long the log was
pub new_event : (s : Shape) (unit : ℕ) (e : UnitEvent) (maker : Maker) (w : World)
    → slice_get (log_of (unit_step s unit e maker w ∷ w) (suc unit)) (next_event w unit) ≡ Some (unit_step s unit e maker w).logged
new_event s unit e maker w =
    ap (λ (log : List Logged). slice_get log (next_event w unit)) (unit_log s unit e maker w)
    ∙ get_last (log_of w (suc unit)) (unit_step s unit e maker w).logged

-- ---- its events

pub events_now : (s : Shape) (unit : ℕ) (e : UnitEvent) (maker : Maker) (w : World)
    → unit_events (log_of (unit_step s unit e maker w ∷ w)) unit ≡ unit_events (log_of w) unit ++ e ∷ []
events_now s unit e maker w = ap (λ (log : List Logged). filter_map (λ l. unit_event_of l.event) log) (unit_log s unit e maker w)
    ∙ more (λ (l : Logged). unit_event_of l.event) (log_of w (suc unit)) (unit_step s unit e maker w).logged

pub events_elsewhere : (s : Shape) (unit : ℕ) (e : UnitEvent) (maker : Maker) (w : World) (other : ℕ) → other ≢ unit
    → unit_events (log_of (unit_step s unit e maker w ∷ w)) other ≡ unit_events (log_of w) other
events_elsewhere s unit e maker w other apart = ap (λ (log : List Logged). filter_map (λ l. unit_event_of l.event) log)
    (other_log s unit e maker w (suc other) (λ same. let is : suc other ≡ suc unit = same in apart (omega arith)))

-- whether one of them was stopped
pub stops_now : (s : Shape) (unit : ℕ) (e : UnitEvent) (maker : Maker) (w : World)
    → has_stopped (unit_events (log_of (unit_step s unit e maker w ∷ w)) unit) ≡ (has_stopped (unit_events (log_of w) unit) || was_stopped e.outcome)
stops_now s unit e maker w =
    ap has_stopped (events_now s unit e maker w)
    ∙ list_any-append (λ (x : UnitEvent). was_stopped x.outcome) (unit_events (log_of w) unit) (e ∷ [])
    ∙ ap (λ b. has_stopped (unit_events (log_of w) unit) || b) (or_no (was_stopped e.outcome))

pub stops_elsewhere : (s : Shape) (unit : ℕ) (e : UnitEvent) (maker : Maker) (w : World) (other : ℕ) → other ≢ unit
    → has_stopped (unit_events (log_of (unit_step s unit e maker w ∷ w)) other) ≡ has_stopped (unit_events (log_of w) other)
stops_elsewhere s unit e maker w other apart = ap has_stopped (events_elsewhere s unit e maker w other apart)

-- ---- the media

-- one event more
pub after_last : (s : Shape) (es : List UnitEvent) (e : UnitEvent) (o : Option (List Chunk))
    → option_map (λ cs. after_log s cs (es ++ e ∷ [])) o ≡ option_map (λ cs. after_event s cs e) (option_map (λ cs. after_log s cs es) o)
after_last s es e None = refl
after_last s es e (Some chunks) = ap (λ (cs : List Chunk). Some cs) (fold-append (after_event s) chunks es (e ∷ []))

pub media_now : (i : Image) (unit : ℕ) (e : UnitEvent) (maker : Maker) (w : World)
    → slice_get (media i (log_of (unit_step i.shape unit e maker w ∷ w))).units unit ≡ option_map (λ chunks. after_event i.shape chunks e)
    (slice_get (media i (log_of w)).units unit)
media_now i unit e maker w =
    media_at i (log_of (unit_step i.shape unit e maker w ∷ w)) unit
    ∙ ap (λ es. option_map (λ cs. after_log i.shape cs es) (slice_get i.units unit)) (events_now i.shape unit e maker w)
    ∙ after_last i.shape (unit_events (log_of w) unit) e (slice_get i.units unit)
    ∙ ap (option_map (λ cs. after_event i.shape cs e)) (sym (media_at i (log_of w) unit))

pub media_elsewhere : (i : Image) (unit : ℕ) (e : UnitEvent) (maker : Maker) (w : World) (other : ℕ) → other ≢ unit
    → slice_get (media i (log_of (unit_step i.shape unit e maker w ∷ w))).units other ≡ slice_get (media i (log_of w)).units other
media_elsewhere i unit e maker w other apart =
    media_at i (log_of (unit_step i.shape unit e maker w ∷ w)) other
    ∙ ap (λ es. option_map (λ cs. after_log i.shape cs es) (slice_get i.units other)) (events_elsewhere i.shape unit e maker w other apart)
    ∙ sym (media_at i (log_of w) other)

pub media_turned : (i : Image) (unit : ℕ) (e : UnitEvent) (maker : Maker) (w : World)
    → IsTurned i.shape (media i (log_of w)) (media i (log_of (unit_step i.shape unit e maker w ∷ w))) unit e
media_turned i unit e maker w =
    record { own = media_now i unit e maker w; others = λ other apart. media_elsewhere i unit e maker w other apart }

-- of one chunk
pub chunk_now : (i : Image) (unit : ℕ) (e : UnitEvent) (maker : Maker) (w : World)
    → chunk_in (media i (log_of (unit_step i.shape unit e maker w ∷ w))) e.chunk unit ≡ option_map
    (λ c. after_outcome i.shape c e.command e.outcome) (chunk_in (media i (log_of w)) e.chunk unit)
chunk_now i unit e maker w =
    turned_here i.shape (media i (log_of w)) (media i (log_of (unit_step i.shape unit e maker w ∷ w))) unit e (media_turned i unit e maker w)

pub chunk_elsewhere : (i : Image) (unit : ℕ) (e : UnitEvent) (maker : Maker) (w : World) (other line : ℕ) → (other ≢ unit) ⊎ (line ≢ e.chunk)
    → chunk_in (media i (log_of (unit_step i.shape unit e maker w ∷ w))) line other ≡ chunk_in (media i (log_of w)) line other
chunk_elsewhere i unit e maker w other line apart =
    turned_beside i.shape (media i (log_of w)) (media i (log_of (unit_step i.shape unit e maker w ∷ w))) unit e other line (media_turned i unit e maker w) apart

-- ---- what the engine named is in the unit's log

named_here : (logs : Logs) (l : Logged) (other event unit n : ℕ) (e : UnitEvent) → IsNew (prefixes l logs) other event e → (b : Bool) → (other == unit) ≡ b
    → IfSome (if b then Some event else None) (λ n. n < length (logs (suc unit)))
named_here logs l other event unit n e new true same =
    subst (λ u. event < length (logs (suc u))) (eqb-true other unit same)
    (slice_get_within (logs (suc other)) event new.logged (get_whole_within (known l (suc other)) (logs (suc other)) event new.logged new.is_known).0)
named_here logs l other event unit n e new false same = tt

named_by_event : (i : Image) (logs : Logs) (l : Logged) (unit : ℕ) (e : Event) → IsAllowed i 0 e (prefixes l logs)
    → IfSome (named_by unit e) (λ n. n < length (logs (suc unit)))
named_by_event i logs l unit (Decides (Landed other event)) may = named_here logs l other event unit 0 may.2.program may.2.new (other == unit) refl
named_by_event i logs l unit (Decides (Lost other event)) may = named_here logs l other event unit 0 may.2.program may.2.new (other == unit) refl
named_by_event i logs l unit (Decides (Again other event)) may = named_here logs l other event unit 0 may.2.program may.2.new (other == unit) refl
named_by_event i logs l unit (Decides (ResetDone other event)) may = named_here logs l other event unit 0 may.2.reset may.2.new (other == unit) refl
named_by_event i logs l unit (Decides e) may = tt
named_by_event i logs l unit (Does e maker) may = tt

pub named_within : (i : Image) (w : World) (unit : ℕ) → IsLegal i w → AllByRecursion (λ n. n < length (log_of w (suc unit))) (named_events (log_of w 0) unit)
named_within i w unit legal =
    all_filter_map (λ n. n < length (log_of w (suc unit))) (λ (l : Logged). IfSome (named_by unit l.event) (λ n. n < length (log_of w (suc unit))))
    (λ (l : Logged). named_by unit l.event) (log_of w 0) (λ l h. h)
    (all_by_get (λ (l : Logged). IfSome (named_by unit l.event) (λ n. n < length (log_of w (suc unit)))) (log_of w 0) (λ k l there.
    let is : HasHappened i (log_of w) 0 k l = happened i w 0 legal k l there in named_by_event i (log_of w) l unit l.event is.allowed))

-- ---- it may be done

pub has_begun : (i : Image) (w : World) (unit k : ℕ) (p : Placed) → IsLegal i w → slice_get (placed_on (log_of w 0) unit) k ≡ Some p
    → (b : Begun) × (begun (log_of w 0) ≡ Some b)
has_begun i w unit k p legal there = some_begun i w legal (some (log_of w 0) there)
  where
    some : (log : List Logged) → slice_get (placed_on log unit) k ≡ Some p → 0 < length log
    some [] e = absurd (none-some p e)
    some (l ∷ log) e = omega arith

pub engine_longer : (w : World) (b : Begun) → begun (log_of w 0) ≡ Some b → 0 < length (log_of w 0)
engine_longer w b e = go (log_of w 0) e
  where
    go : (log : List Logged) → begun log ≡ Some b → 0 < length log
    go [] e = absurd (none-some b e)
    go (l ∷ log) e = omega arith

pub has_chunks : (o : Option (List Chunk)) (chunk : ℕ) (c : Chunk) → option_and_then (λ chunks. slice_get chunks chunk) o ≡ Some c
    → (chunks : List Chunk) × (o ≡ Some chunks) × (slice_get chunks chunk ≡ Some c)
has_chunks None chunk c e = absurd (none-some c e)
has_chunks (Some chunks) chunk c e = (chunks, refl, e)

-- what has chunks is one of the drive's units
pub unit_inside : (i : Image) (logs : Logs) (unit : ℕ) (chunks : List Chunk) → IsFit i → slice_get (media i logs).units unit ≡ Some chunks
    → unit < units i.shape
unit_inside i logs unit chunks fit has =
    let within : unit < length (media i logs).units = slice_get_within (media i logs).units unit chunks has in
    let count : length (media i logs).units ≡ length i.units = length_media i logs in
    let all : length i.units ≡ units i.shape = fit.units in
    omega arith

-- the chunk of the command stands on the drive
pub found_there : (i : Image) (logs : Logs) (unit : ℕ) (e : UnitEvent) (can : CanDo i logs unit e)
    → chunk_in (media i logs) e.chunk unit ≡ Some can.event.found
found_there i logs unit e can = ap (option_and_then (λ (chunks : List Chunk). slice_get chunks e.chunk)) can.has_chunks ∙ can.event.there

-- a command that isn't stopped is one of a unit that wasn't
pub running : (i : Image) (logs : Logs) (unit : ℕ) (e : UnitEvent) → CanDo i logs unit e → was_stopped e.outcome ≡ false
    → has_stopped (unit_events logs unit) ≡ false
running i logs unit e can ends = go (has_stopped (unit_events logs unit)) refl
  where
    go : (b : Bool) → has_stopped (unit_events logs unit) ≡ b → b ≡ false
    go true was = absurd (not_both (was_stopped e.outcome) (ap was_stopped (can.stopped was)) ends)
    go false was = refl

-- a unit does what it can do and may be told to
pub unit_next : (i : Image) (w : World) (unit : ℕ) (e : UnitEvent) (maker : Maker) → IsLegalMount i w → (can : CanDo i (log_of w) unit e)
    → IsCommand i (log_of w) unit can.event.found e.chunk e.command (begun (log_of w 0))
    → IsLegalMount i (after_unit i.shape unit e maker w)
unit_next i w unit e maker mount can command =
    let range : unit < units i.shape = unit_inside i (log_of w) unit can.chunks mount.fit can.has_chunks in record {
      accepted = mount.accepted;
      fit = mount.fit;
      legal = next_legal i w (suc unit) (Does e maker) mount.legal (omega arith)
          (record { chunks = can.chunks; has_chunks = can.has_chunks; event = can.event; stopped = can.stopped; command = command });
    }

-- ---- the engine didn't name it yet

pub is_new : (i : Image) (w : World) (unit : ℕ) (e : UnitEvent) (maker : Maker) → IsLegal i w
    → IsNew (log_of (after_unit i.shape unit e maker w)) unit (next_event w unit) e
is_new i w unit e maker legal =
    let s : Step = unit_step i.shape unit e maker w in record {
      logged = s.logged;
      is_known = new_event i.shape unit e maker w;
      event = refl;
      once = λ named.
          let within : next_event w unit < length (log_of w (suc unit)) =
          all_contains (λ n. n < length (log_of w (suc unit))) (named_events (log_of w 0) unit) (next_event w unit) (named_within i w unit legal)
          (subst (λ (log : List Logged). Contains (named_events log unit) (next_event w unit)) (engine_log i.shape unit e maker w) named) in
          absurd (omega arith);
    }
