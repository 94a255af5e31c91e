-- A chunk of a unit after one event more of the unit's log.
use Rattle.std.proofs.Common.{◌≡◌, ◌≢◌, ℕ, ◌<◌, suc, length, arith, take, Some, None, Option, List, [], ◌∷◌, ◌++◌, refl, ap, ◌∙◌}
use Rattle.std.specs.Prelude.{slice_get}
use Rattle.std.specs.List.{filter_map}
use Rattle.std.specs.Option.{option_map, option_and_then, option_to_list}
use Rattle.std.proofs.lemmas.List.Sums.{fold-append}
use Rattle.std.proofs.lemmas.Option.{none-some}
use Rattle.pblk_model.specs.Chunk.{Chunk}
use Rattle.pblk_model.specs.UnitLog.{UnitEvent, after_event, after_outcome, after_log}
use Rattle.pblk_model.specs.Image.{Image}
use Rattle.pblk_model.proofs.UnitLogLemmas.{event_beside, event_here}
use Rattle.pblk_laws.proofs.UnitChunks.{log_count}
use Rattle.pblk_world.specs.Events.{Logged}
use Rattle.pblk_world.specs.World.{Logs, unit_event_of, unit_events, media, known, prefixes}
use Rattle.pblk_world.proofs.WorldLemmas.{media_at}
use Rattle.pblk_model.proofs.Maps.{more}
use Rattle.pblk_model.proofs.Options.{split_then}
use Rattle.pblk_model.proofs.Parts.{get_below, got_within, take_next}
use Rattle.world_laws.specs.UnitChunks.{chunk_after, first_events}

events_of : List Logged → List UnitEvent
events_of log = filter_map (λ (l : Logged). unit_event_of l.event) log

pub first_next : (logs : Logs) (unit n : ℕ) (l : Logged) (e : UnitEvent) → slice_get (logs (suc unit)) n ≡ Some l → unit_event_of l.event ≡ Some e
    → first_events logs unit (suc n) ≡ first_events logs unit n ++ e ∷ []
unfolding first_events events_of
first_next logs unit n l e there is =
    ap events_of (take_next (logs (suc unit)) n l there) ∙ more (λ (m : Logged). unit_event_of m.event) (take n (logs (suc unit))) l
    ∙ ap (λ (o : Option UnitEvent). events_of (take n (logs (suc unit))) ++ option_to_list o) is

-- the chunks that an author finds, by the prefix of its own log that it names
pub named_chunk : (i : Image) (logs : Logs) (l : Logged) (line unit n : ℕ) → known l (suc unit) ≡ n
    → option_and_then (λ (cs : List Chunk). slice_get cs line) (slice_get (media i (prefixes l logs)).units unit) ≡ chunk_after i logs line unit n
unfolding first_events chunk_after events_of
named_chunk i logs l line unit n own = ap (option_and_then (λ (cs : List Chunk). slice_get cs line)) (media_at i (prefixes l logs) unit)
    ∙ go (slice_get i.units unit)
    ∙ ap (λ k. option_and_then (λ (cs : List Chunk). slice_get (after_log i.shape cs (events_of (take k (logs (suc unit))))) line) (slice_get i.units unit)) own
  where
    go : (o : Option (List Chunk)) → option_and_then (λ (cs : List Chunk). slice_get cs line)
        (option_map (λ (cs : List Chunk). after_log i.shape cs (unit_events (prefixes l logs) unit)) o)
        ≡ option_and_then (λ (cs : List Chunk). slice_get (after_log i.shape cs (unit_events (prefixes l logs) unit)) line) o
    go None = refl
    go (Some cs) = refl

module _ (i : Image) (logs : Logs) (unit n : ℕ) (l : Logged) (e : UnitEvent) (there : slice_get (logs (suc unit)) n ≡ Some l)
    (is : unit_event_of l.event ≡ Some e) where
  next_chunks : (cs : List Chunk) → after_log i.shape cs (first_events logs unit (suc n)) ≡ after_event i.shape
      (after_log i.shape cs (first_events logs unit n)) e
  next_chunks cs = ap (after_log i.shape cs) (first_next logs unit n l e there is) ∙ fold-append (after_event i.shape) cs (first_events logs unit n) (e ∷ [])

  pub chunk_beside : (line : ℕ) → e.chunk ≢ line → chunk_after i logs line unit (suc n) ≡ chunk_after i logs line unit n
  unfolding chunk_after
  chunk_beside line other = go (slice_get i.units unit)
    where
      go : (o : Option (List Chunk)) → option_and_then (λ (cs : List Chunk). slice_get (after_log i.shape cs (first_events logs unit (suc n))) line) o
          ≡ option_and_then (λ (cs : List Chunk). slice_get (after_log i.shape cs (first_events logs unit n)) line) o
      go None = refl
      go (Some cs) = ap (λ (ds : List Chunk). slice_get ds line) (next_chunks cs)
          ∙ event_beside i.shape (after_log i.shape cs (first_events logs unit n)) e line other

  pub chunk_here : (c : Chunk) → chunk_after i logs e.chunk unit n ≡ Some c
      → chunk_after i logs e.chunk unit (suc n) ≡ Some (after_outcome i.shape c e.command e.outcome)
  unfolding chunk_after
  chunk_here c found = go (slice_get i.units unit) found
    where
      go : (o : Option (List Chunk)) → option_and_then (λ (cs : List Chunk). slice_get (after_log i.shape cs (first_events logs unit n)) e.chunk) o ≡ Some c
          → option_and_then (λ (cs : List Chunk). slice_get (after_log i.shape cs (first_events logs unit (suc n))) e.chunk) o ≡ Some
          (after_outcome i.shape c e.command e.outcome)
      go None f = absurd (none-some c f)
      go (Some cs) f = ap (λ (ds : List Chunk). slice_get ds e.chunk) (next_chunks cs)
          ∙ event_here i.shape (after_log i.shape cs (first_events logs unit n)) e e.chunk c refl f

-- a chunk of a unit is there after each of its prefixes, or after none
pub still_there : (i : Image) (logs : Logs) (line unit n m : ℕ) (c : Chunk) → chunk_after i logs line unit n ≡ Some c → (d : Chunk)
    × (chunk_after i logs line unit m ≡ Some d)
unfolding chunk_after
still_there i logs line unit n m c there =
    let its = split_then (λ (cs : List Chunk). slice_get (after_log i.shape cs (first_events logs unit n)) line) (slice_get i.units unit) c there in
    let long : length (after_log i.shape its.0 (first_events logs unit n)) ≡ length its.0 = log_count i.shape its.0 (first_events logs unit n) in
    let same : length (after_log i.shape its.0 (first_events logs unit m)) ≡ length its.0 = log_count i.shape its.0 (first_events logs unit m) in
    let inside : line < length (after_log i.shape its.0 (first_events logs unit n)) = get_below
    (after_log i.shape its.0 (first_events logs unit n)) line c its.2 in
    let at = got_within (after_log i.shape its.0 (first_events logs unit m)) line (omega arith) in
    (at.0, ap (option_and_then (λ (cs : List Chunk). slice_get (after_log i.shape cs (first_events logs unit m)) line)) its.1 ∙ at.1)
