-- The mount's beginning: the engine's first event, at which no chunk was open. From there on a unit
-- that doesn't know of it only fetches.
use Rattle.std.proofs.Common.{◌≡◌, ◌≢◌, ℕ, ◌+◌, ◌-◌, ◌<◌, ◌≤◌, suc, zero, Some, None, List, [], ◌∷◌, length, take, refl, sym, subst, ap, ◌∙◌, arith}
use Rattle.std.specs.Prelude.{slice_get, slice_index}
use Rattle.std.specs.List.{AllByRecursion}
use Rattle.std.proofs.lemmas.Option.{same_Some, none-some}
use Rattle.pblk_model.specs.declared.chunk.ChunkState.TheVariants as states
use Rattle.pblk_model.specs.Chunk.{Chunk}
use Rattle.pblk_model.specs.ChunkStep.{ChunkCommand, Write, Read, Reset}
use Rattle.pblk_model.specs.UnitLog.{UnitEvent}
use Rattle.pblk_model.specs.Image.{Image}
use Rattle.pblk_world.specs.Events.{Event, Begin, Decides, Does, Logged}
use Rattle.pblk_world.specs.World.{World, Logs, log_of, known, knows_engine, prefixes, media, unit_event_of}
use Rattle.pblk_world.specs.EngineLog.{Begun, begun, begun_by}
use Rattle.pblk_world.specs.Opening.{MayBegin}
use Rattle.pblk_world.specs.Commanding.{IsCommand}
use Rattle.pblk_world.specs.Legal.{IsAllowed, IsLegal}
use Rattle.pblk_world.proofs.EngineLogLemmas.{begun_taken}
use Rattle.pblk_world.proofs.Growing.{knowledge_rises}
use Rattle.pblk_model.proofs.Options.{split_then}
use Rattle.pblk_model.proofs.Parts.{all_at, get_below, got_within}
use Rattle.world_laws.specs.UnitChunks.{chunk_after}
use Rattle.world_laws.proofs.NamedPrefixes.{IsByPrefixes, was_made}
use Rattle.world_laws.proofs.Deeds.{IsDeed, deed, fetch_leaves}
use Rattle.world_laws.proofs.UnitChunks.{named_chunk}

-- ---- the engine's first event

pub record IsBeginning (i : Image) (w : World) (b : Begun) : Type 0 where
  pub logged : Logged
  pub there : slice_get (log_of w 0) 0 ≡ Some logged
  pub event : logged.event ≡ Decides (Begin b.beginning)
  pub knows : logged.knows ≡ b.knows
  pub may : MayBegin i (prefixes logged (log_of w)) b.beginning

first_by : (i : Image) (w : World) (b : Begun) (l : Logged) (event : Event) → slice_get (log_of w 0) 0 ≡ Some l → l.event ≡ event
    → begun_by l.knows event ≡ Some b → IsAllowed i 0 event (prefixes l (log_of w)) → IsBeginning i w b
first_by i w b l (Decides (Begin beginning)) there is by allowed =
    let same : record { beginning = beginning; knows = l.knows } ≡ b = same_Some (record { beginning = beginning; knows = l.knows }) b by in
    record {
      logged = l;
      there = there;
      event = is ∙ ap (λ (x : Begun). Decides (Begin x.beginning)) same;
      knows = ap (λ (x : Begun). x.knows) same;
      may = subst (λ (x : Begun). MayBegin i (prefixes l (log_of w)) x.beginning) same allowed;
    }
first_by i w b l event there is by allowed = absurd (none-some b by)

begun_head : (log : List Logged) (l : Logged) → slice_get log 0 ≡ Some l → begun log ≡ begun_by l.knows l.event
begun_head [] l there = absurd (none-some l there)
begun_head (m ∷ log) l there = ap (λ (x : Logged). begun_by x.knows x.event) (same_Some m l there)

pub beginning_of : (i : Image) (w : World) (b : Begun) → IsLegal i w → begun (log_of w 0) ≡ Some b → IsBeginning i w b
beginning_of i w b legal begins = go (log_of w 0) refl begins
  where
    go : (log : List Logged) → log_of w 0 ≡ log → begun log ≡ Some b → IsBeginning i w b
    go [] e f = absurd (none-some b f)
    go (l ∷ log) e f =
        let there : slice_get (log_of w 0) 0 ≡ Some l = ap (λ (xs : List Logged). slice_get xs 0) e in
        first_by i w b l l.event there refl f (was_made i w 0 0 l legal there).allowed

-- a log of the engine that isn't empty has begun
begun_as : (i : Image) (logs : Logs) (knows : List ℕ) (event : Event) → logs 0 ≡ [] → IsAllowed i 0 event logs → (b : Begun) × (begun_by knows event ≡ Some b)
begun_as i logs knows (Decides (Begin b)) empty allowed = (record { beginning = b; knows = knows }, refl)
begun_as i logs knows (Decides e) empty allowed = absurd (none-some allowed.0 (ap begun (sym empty) ∙ allowed.1))
begun_as i logs knows (Does e maker) empty allowed = absurd allowed

pub begun_there : (i : Image) (w : World) (n : ℕ) → IsLegal i w → n ≤ length (log_of w 0) → 0 < n → (b : Begun) × (begun (take n (log_of w 0)) ≡ Some b)
begun_there i w n legal few some =
    let first = got_within (log_of w 0) 0 (omega arith) in
    let made : IsByPrefixes i w 0 0 first.0 = was_made i w 0 0 first.0 legal first.1 in
    let b = begun_as i (prefixes first.0 (log_of w)) first.0.knows first.0.event (ap (λ k. take k (log_of w 0)) made.own) made.allowed in
    (b.0, begun_taken n (log_of w 0) some ∙ begun_head (log_of w 0) first.0 first.1 ∙ b.1)

-- ---- before a unit knows of it

module _ (i : Image) (w : World) (legal : IsLegal i w) (b : Begun) (begins : begun (log_of w 0) ≡ Some b) (unit : ℕ) where
  abbrev base : ℕ
  base = slice_index b.knows (suc unit)

  first : IsBeginning i w b
  first = beginning_of i w b legal begins

  pub none_open : (line : ℕ) (c : Chunk) → chunk_after i (log_of w) line unit base ≡ Some c → c.state ≢ states.Open
  none_open line c there =
      let at : known first.logged (suc unit) ≡ base = ap (λ ks. slice_index ks (suc unit)) first.knows in
      let found = split_then (λ (cs : List Chunk). slice_get cs line) (slice_get (media i (prefixes first.logged (log_of w))).units unit) c
      (named_chunk i (log_of w) first.logged line unit base at ∙ there) in
      all_at (λ (x : Chunk). x.state ≢ states.Open) found.0 line c found.2
      (all_at (AllByRecursion (λ (x : Chunk). x.state ≢ states.Open))
      (media i (prefixes first.logged (log_of w))).units unit found.0 found.1 first.may.no_open_chunk)

  -- the events from the base on, so many, knew nothing of the engine's log
  abbrev KnewNone : ℕ → Type 0
  KnewNone d = (m : ℕ) (l : Logged) → base ≤ m → m < base + d → slice_get (log_of w (suc unit)) m ≡ Some l → knows_engine l ≤ 0

  fetched : (n : ℕ) (l : Logged) (d : IsDeed i w unit n l) → knows_engine l ≤ 0 → d.found.state ≢ states.Open → (at : ℕ) × (d.event.command ≡ Read at)
  fetched n l d knew closed = go d.event.command refl
      (subst (λ o. IsCommand i (prefixes l (log_of w)) unit d.found d.event.chunk d.event.command o) (nothing (knows_engine l) (log_of w 0) knew) d.command)
    where
      nothing : (k : ℕ) (log : List Logged) → k ≤ 0 → begun (take k log) ≡ None
      nothing zero log few = refl
      nothing (suc k) log few = absurd (omega arith)

      go : (command : ChunkCommand) → d.event.command ≡ command → IsCommand i (prefixes l (log_of w)) unit d.found d.event.chunk command None → (at : ℕ)
          × (d.event.command ≡ Read at)
      go (Write at blocks) is may = absurd (closed may.is_open)
      go (Read at) is may = (at, is)
      go Reset is may = absurd may

  kept : (d : ℕ) → base + d ≤ length (log_of w (suc unit)) → KnewNone d → (line : ℕ)
      → chunk_after i (log_of w) line unit (base + d) ≡ chunk_after i (log_of w) line unit base
  kept zero inside none line = let same : base + 0 ≡ base = omega arith in ap (chunk_after i (log_of w) line unit) same
  kept (suc d) inside none line =
      let at = got_within (log_of w (suc unit)) (base + d) (omega arith) in
      let e : IsDeed i w unit (base + d) at.0 = deed i w unit (base + d) at.0 legal at.1 in
      let before : (other : ℕ) → chunk_after i (log_of w) other unit (base + d) ≡ chunk_after i (log_of w) other unit base =
      kept d (omega arith) (λ m l from below there. none m l from (omega arith) there) in
      let closed : e.found.state ≢ states.Open = none_open e.event.chunk e.found (sym (before e.event.chunk) ∙ e.there) in
      let fetch = fetched (base + d) at.0 e (none (base + d) at.0 (omega arith) (omega arith) at.1) closed in
      let next : base + suc d ≡ suc (base + d) = omega arith in
      ap (chunk_after i (log_of w) line unit) next ∙ fetch_leaves i w unit (base + d) at.0 e fetch.0 fetch.1 line ∙ before line

  pub only_fetches : (n : ℕ) (l : Logged) (e : UnitEvent) → base ≤ n → slice_get (log_of w (suc unit)) n ≡ Some l → unit_event_of l.event ≡ Some e
      → knows_engine l ≤ 0 → (at : ℕ) × (e.command ≡ Read at)
  only_fetches n l e from there is none =
      let d : IsDeed i w unit n l = deed i w unit n l legal there in
      let same : d.event ≡ e = same_Some d.event e (sym d.is_event ∙ is) in
      let inside : n < length (log_of w (suc unit)) = get_below (log_of w (suc unit)) n l there in
      let far : base + (n - base) ≡ n = omega arith in
      let before : chunk_after i (log_of w) d.event.chunk unit (base + (n - base)) ≡ chunk_after i (log_of w) d.event.chunk unit base =
      kept (n - base) (omega arith)
      (λ m k low high at. let less : knows_engine k ≤ knows_engine l = knowledge_rises i w (suc unit) 0 m n k l legal (omega arith) at there in omega arith)
      d.event.chunk in
      let closed : d.found.state ≢ states.Open = none_open d.event.chunk d.found (sym before ∙ ap (chunk_after i (log_of w) d.event.chunk unit) far
      ∙ d.there) in
      subst (λ (x : UnitEvent). (at : ℕ) × (x.command ≡ Read at)) same (fetched n l d none closed)
