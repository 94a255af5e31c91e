-- What each event of a unit was: a command that the unit might make by what it knew of the engine's
-- log, with an outcome that the chunk allowed, after a stop only a stop that leaves nothing.
use Rattle.std.proofs.Common.{◌≡◌, ◌≢◌, ℕ, suc, true, false, Bool, nat_eq, Some, List, take, refl, sym, subst, ap, ◌∙◌}
use Rattle.std.specs.Prelude.{slice_get}
use Rattle.std.specs.List.{filter_map}
use Rattle.std.specs.Option.{option_and_then}
use Rattle.std.proofs.lemmas.Bool.{eqb-true, eqb-false}
use Rattle.pblk_model.specs.Chunk.{Chunk}
use Rattle.pblk_model.specs.ChunkStep.{ChunkCommand, Write, Read, Reset, WritesBlocks}
use Rattle.pblk_model.specs.UnitLog.{UnitEvent, Stopped, IsOutcome, after_outcome}
use Rattle.pblk_model.specs.Image.{Image}
use Rattle.pblk_model.proofs.UnitLogLemmas.{read_leaves}
use Rattle.pblk_world.specs.Events.{Event, Decides, Does, Logged}
use Rattle.pblk_world.specs.World.{World, Logs, log_of, knows_engine, prefixes, unit_event_of, unit_events}
use Rattle.pblk_world.specs.EngineLog.{begun}
use Rattle.pblk_world.specs.Commanding.{has_stopped, IsCommand, MayDo}
use Rattle.pblk_world.specs.Legal.{IsLegal, IsAllowed}
use Rattle.world_laws.specs.UnitChunks.{chunk_after, first_events}
use Rattle.world_laws.proofs.NamedPrefixes.{IsByPrefixes, was_made}
use Rattle.world_laws.proofs.UnitChunks.{named_chunk, chunk_beside, chunk_here}

pub record IsDeed (i : Image) (w : World) (unit n : ℕ) (l : Logged) : Type 0 where
  pub event : UnitEvent
  pub is_event : unit_event_of l.event ≡ Some event
  pub found : Chunk
  pub there : chunk_after i (log_of w) event.chunk unit n ≡ Some found
  pub writes : WritesBlocks i.shape event.command
  pub outcome : IsOutcome i.shape found event.command event.outcome
  pub stopped : has_stopped (first_events (log_of w) unit n) ≡ true → event.outcome ≡ Stopped 0
  pub command : IsCommand i (prefixes l (log_of w)) unit found event.chunk event.command (begun (take (knows_engine l) (log_of w 0)))
  pub left : chunk_after i (log_of w) event.chunk unit (suc n) ≡ Some (after_outcome i.shape found event.command event.outcome)
  pub others : (line : ℕ) → event.chunk ≢ line → chunk_after i (log_of w) line unit (suc n) ≡ chunk_after i (log_of w) line unit n

module _ (i : Image) (w : World) (unit n : ℕ) (l : Logged) (there : slice_get (log_of w (suc unit)) n ≡ Some l) (made : IsByPrefixes i w (suc unit) n l) where
  abbrev named : Logs
  named = prefixes l (log_of w)

  pub same_events : unit_events named unit ≡ first_events (log_of w) unit n
  unfolding first_events
  same_events = ap (λ k. filter_map (λ (m : Logged). unit_event_of m.event) (take k (log_of w (suc unit)))) made.own

  by_may : (e : UnitEvent) → unit_event_of l.event ≡ Some e → MayDo i named unit e → IsDeed i w unit n l
  by_may e is may =
      let found : chunk_after i (log_of w) e.chunk unit n ≡ Some may.event.found =
      sym (named_chunk i (log_of w) l e.chunk unit n made.own) ∙ ap (option_and_then (λ (cs : List Chunk). slice_get cs e.chunk)) may.has_chunks
      ∙ may.event.there in
      record {
        event = e;
        is_event = is;
        found = may.event.found;
        there = found;
        writes = may.event.blocks;
        outcome = may.event.outcome;
        stopped = λ was. may.stopped (ap has_stopped same_events ∙ was);
        command = may.command;
        left = chunk_here i (log_of w) unit n l e there is may.event.found found;
        others = chunk_beside i (log_of w) unit n l e there is;
      }

  by_event : (event : Event) → l.event ≡ event → IsAllowed i (suc unit) event named → IsDeed i w unit n l
  by_event (Decides e) is allowed = absurd allowed
  by_event (Does e maker) is allowed = by_may e (ap unit_event_of is) allowed

  deed_of : IsDeed i w unit n l
  deed_of = by_event l.event refl made.allowed

pub deed : (i : Image) (w : World) (unit n : ℕ) (l : Logged) → IsLegal i w → slice_get (log_of w (suc unit)) n ≡ Some l → IsDeed i w unit n l
deed i w unit n l legal there = deed_of i w unit n l there (was_made i w (suc unit) n l legal there)

-- ---- events that leave all chunks as they were

none_left : (i : Image) (c : Chunk) (command : ChunkCommand) → after_outcome i.shape c command (Stopped 0) ≡ c
none_left i c (Write at blocks) = refl
none_left i c (Read b) = refl
none_left i c Reset = refl

module _ (i : Image) (w : World) (unit n : ℕ) (l : Logged) (d : IsDeed i w unit n l) where
  pub leaves_all : after_outcome i.shape d.found d.event.command d.event.outcome ≡ d.found → (line : ℕ)
      → chunk_after i (log_of w) line unit (suc n) ≡ chunk_after i (log_of w) line unit n
  leaves_all same line = go (nat_eq d.event.chunk line) refl
    where
      go : (b : Bool) → nat_eq d.event.chunk line ≡ b → chunk_after i (log_of w) line unit (suc n) ≡ chunk_after i (log_of w) line unit n
      go true is = subst (λ k. chunk_after i (log_of w) k unit (suc n) ≡ chunk_after i (log_of w) k unit n) (eqb-true d.event.chunk line is)
          (d.left ∙ ap (λ c. Some c) same ∙ sym d.there)
      go false is = d.others line (eqb-false d.event.chunk line is)

  pub fetch_leaves : (at : ℕ) → d.event.command ≡ Read at → (line : ℕ) → chunk_after i (log_of w) line unit (suc n) ≡ chunk_after i (log_of w) line unit n
  fetch_leaves at is = leaves_all (ap (λ c. after_outcome i.shape d.found c d.event.outcome) is ∙ read_leaves i.shape d.found at d.event.outcome)

  pub stop_leaves : d.event.outcome ≡ Stopped 0 → (line : ℕ) → chunk_after i (log_of w) line unit (suc n) ≡ chunk_after i (log_of w) line unit n
  stop_leaves is = leaves_all (ap (after_outcome i.shape d.found d.event.command) is ∙ none_left i d.found d.event.command)
