-- The world just before a line was freed. The line stood in its last life then, and each log has
-- grown since.
use Rattle.std.proofs.Common.{◌≡◌, ℕ, ◌<◌, ◌≤◌, suc, Some, Option, List, ◌++◌, length, take, refl, sym, ap, ◌∙◌, arith, length-append, if◌then◌else◌}
use Rattle.std.specs.Prelude.{slice_get, slice_index}
use Rattle.std.specs.List.{filter_map}
use Rattle.std.specs.Option.{option_and_then}
use Rattle.std.proofs.lemmas.List.{take-append-le}
use Rattle.std.proofs.lemmas.Option.{none-some, same_Some}
use Rattle.std.proofs.Math.Seq.{take-length}
use Rattle.pblk_model.specs.Chunk.{Block}
use Rattle.pblk_model.specs.UnitLog.{after_log}
use Rattle.pblk_model.specs.Image.{Image}
use Rattle.pblk_world.specs.Events.{Free, Logged}
use Rattle.pblk_world.specs.World.{World, log_of, known, unit_event_of}
use Rattle.pblk_world.specs.EngineLog.{Begun, begun, LineLife, AsFound, Opened, Freed, Opening, last_opening, life_of, turned_by, placed_on}
use Rattle.pblk_world.specs.Starts.{seq_in}
use Rattle.pblk_world.specs.Legal.{IsLegal}
use Rattle.pblk_world.specs.Commanding.{ended_stripes}
use Rattle.pblk_world.specs.Victims.{engine_prefix}
use Rattle.pblk_world.proofs.EngineLogLemmas.{begun_of_first}
use Rattle.pblk_model.proofs.Parts.{get_below, get_more, take_front}
use Rattle.pblk_model.proofs.Tests.{same_number}
use Rattle.world_laws.proofs.Freeing.{freed_at}
use Rattle.world_laws.proofs.Made.{IsMade, log_then, made, own_then}
use Rattle.world_laws.specs.LifeBlocks.{IsBlockOfLife}
use Rattle.world_laws.specs.UnitChunks.{chunk_after, first_events}
use Rattle.world_laws.proofs.KeptChunks.{IsFreedSince, freed_since}
use Rattle.world_laws.proofs.NextLives.{IsDecided, IsOpenSince, decided, life_next, open_since}
use Rattle.world_laws.proofs.NamedPrefixes.{was_made}
use Rattle.world_laws.proofs.Placements.{still_placed}

-- ---- a legal world of which another is a later state

pub record IsEarlier (i : Image) (w : World) (b : Begun) (v : World) : Type 0 where
  pub legal : IsLegal i v
  pub begins : begun (log_of v 0) ≡ Some b
  pub grows : (author : ℕ) → (more : List Logged) × (log_of w author ≡ log_of v author ++ more)

module _ (i : Image) (w : World) (b : Begun) (v : World) (e : IsEarlier i w b v) where
  -- as many events of a unit leave what they left then
  pub chunk_then : (unit line n : ℕ) → n ≤ length (log_of v (suc unit)) → chunk_after i (log_of w) line unit n ≡ chunk_after i (log_of v) line unit n
  unfolding chunk_after first_events
  chunk_then unit line n inside =
      let more = e.grows (suc unit) in
      ap (λ (log : List Logged). option_and_then (λ chunks. slice_get (after_log i.shape chunks (filter_map (λ l. unit_event_of l.event) log)) line)
      (slice_get i.units unit))
      (ap (take n) more.1 ∙ take-append-le n (log_of v (suc unit)) more.0 inside)

  pub within_later : (author : ℕ) → length (log_of v author) ≤ length (log_of w author)
  within_later author = let more = e.grows author in omega (arith, ap length more.1, length-append (log_of v author) more.0)

  pub engine_then : take (length (log_of v 0)) (log_of w 0) ≡ log_of v 0
  engine_then = let more = e.grows 0 in ap (take (length (log_of v 0))) more.1 ∙ take_front (log_of v 0) more.0 (length (log_of v 0)) refl

  -- a block of a stripe of a life is one still
  pub block_later : (o : Opening) (line unit n m at : ℕ) (block : Block) → n ≤ m → IsBlockOfLife (log_of v) o line unit n at block
      → IsBlockOfLife (log_of w) o line unit m at block
  block_later o line unit n m at block within h =
      let more = e.grows (suc unit) in
      let inside : h.number < length (log_of v (suc unit)) = get_below (log_of v (suc unit)) h.number h.logged h.there in
      let before : h.number < n = h.before in
      record {
        number = h.number;
        before = omega arith;
        logged = h.logged;
        there = ap (λ (log : List Logged). slice_get log h.number) more.1 ∙ get_more (log_of v (suc unit)) more.0 h.number h.logged h.there;
        event = h.event;
        is_event = h.is_event;
        program = h.program;
        placed = h.placed;
        its_stripe = ap (λ log. slice_get (placed_on (log_of w 0) unit) (ended_stripes log))
            (ap (take h.number) more.1 ∙ take-append-le h.number (log_of v (suc unit)) more.0 (omega arith))
            ∙ still_placed (length (log_of v 0)) (log_of w 0) unit (ended_stripes (take h.number (log_of v (suc unit)))) h.placed
            (ap (λ (log : List Logged). slice_get (placed_on log unit) (ended_stripes (take h.number (log_of v (suc unit))))) engine_then ∙ h.its_stripe);
        in_line = h.in_line;
        of_life = h.of_life;
        index = h.index;
        place = h.place;
        is_block = h.is_block;
      }

-- what an opening names stands in the log
pub opening_within : (i : Image) (w : World) (line author : ℕ) (o : Opening) → IsLegal i w → life_of (log_of w 0) line ≡ Opened o
    → slice_index o.knows author ≤ length (log_of w author)
opening_within i w line author o legal is =
    let since : IsOpenSince i w legal line (length (log_of w 0)) o = open_since i w legal (length (log_of w 0)) line o (omega arith)
    (ap (λ (log : List Logged). life_of log line) (take-length (log_of w 0)) ∙ is) in
    let few : known since.logged author ≤ length (log_of w author) = (was_made i w 0 o.number since.logged legal since.there).within author in
    let same : known since.logged author ≡ slice_index o.knows author = ap (λ ks. slice_index ks author) since.knows in
    omega arith

-- ---- the world in which a line was freed

pub record IsBefore (i : Image) (w : World) (b : Begun) (line : ℕ) (o : Opening) (knows : List ℕ) : Type 0 where
  pub before : World
  pub earlier : IsEarlier i w b before
  pub is_open : life_of (log_of before 0) line ≡ Opened o
  pub named : (unit : ℕ) → slice_index knows (suc unit) ≤ length (log_of before (suc unit))

module _ (i : Image) (w : World) (legal : IsLegal i w) (b : Begun) (begins : begun (log_of w 0) ≡ Some b) (line : ℕ) (o : Opening) (knows : List ℕ)
    (freed : life_of (log_of w 0) line ≡ Freed (Some o) knows) where
  f : IsFreedSince (log_of w 0) line (length (log_of w 0)) (Some o) knows
  f = freed_since (log_of w 0) (length (log_of w 0)) line (Some o) knows (omega arith)
      (ap (λ (log : List Logged). life_of log line) (take-length (log_of w 0)) ∙ freed)

  same_was : (a c : Option Opening) (ks ls : List ℕ) → Freed a ks ≡ Freed c ls → a ≡ c
  same_was a c ks ls e = cc

  its : last_opening (life_of (take f.number (log_of w 0)) line) ≡ Some o
  its = same_was (last_opening (life_of (take f.number (log_of w 0)) line)) (Some o) f.logged.knows knows
      (ap (λ t. if t then Freed (last_opening (life_of (take f.number (log_of w 0)) line)) f.logged.knows else life_of (take f.number (log_of w 0)) line)
      (sym (same_number line))
      ∙ ap (turned_by line (life_of (take f.number (log_of w 0)) line) f.number f.logged.knows) (sym f.event)
      ∙ sym (life_next (log_of w 0) f.number line f.logged f.there)
      ∙ f.since (suc f.number) (omega arith) (let low : f.number < length (log_of w 0) = f.before in omega arith))

  standing : (life : LineLife) (seq : ℕ) → last_opening life ≡ Some o → seq_in i (engine_prefix f.number (log_of w)) life line ≡ Some seq → life ≡ Opened o
  standing AsFound seq is has = absurd (none-some o is)
  standing (Opened p) seq is has = ap Opened (same_Some p o is)
  standing (Freed was ks) seq is has = absurd (none-some seq has)

  is_standing : life_of (take f.number (log_of w 0)) line ≡ Opened o
  is_standing =
      let may = freed_at i w f.number line f.logged legal f.there f.event in
      standing (life_of (take f.number (log_of w 0)) line) may.seq its may.has_seq

  begun_then : begun (take f.number (log_of w 0)) ≡ Some b
  begun_then =
      let d : IsDecided i w legal f.number (Free line) f.logged = decided i w legal f.number (Free line) f.logged f.there f.event in
      let was : begun (take f.number (log_of w 0)) ≡ Some d.allowed.0 = ap begun (sym d.own) ∙ d.allowed.1 in
      was ∙ sym (begun_of_first f.number (log_of w 0) d.allowed.0 was) ∙ begins

  pub before_freeing : IsBefore i w b line o knows
  before_freeing =
      let h : IsMade i w 0 f.number f.logged = made i w 0 f.number f.logged legal f.there in
      let own : log_of h.before 0 ≡ take f.number (log_of w 0) = own_then i w 0 f.number f.logged h in
      record {
        before = h.before;
        earlier = record { legal = h.legal; begins = ap begun own ∙ begun_then; grows = log_then i w 0 f.number f.logged h };
        is_open = ap (λ (log : List Logged). life_of log line) own ∙ is_standing;
        named = λ unit.
            let same : known f.logged (suc unit) ≡ slice_index knows (suc unit) = ap (λ ks. slice_index ks (suc unit)) f.names in
            let few : known f.logged (suc unit) ≤ length (log_of h.before (suc unit)) = h.step.knowledge.within (suc unit) in
            omega arith;
      }
