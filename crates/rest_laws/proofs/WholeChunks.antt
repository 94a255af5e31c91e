-- Where nothing failed that the mount found, each chunk is found as whole if it was so: it isn't
-- Offline, and it is full where it is Closed. Where nothing that the engine heard of failed, each
-- chunk is known as whole if it was found so.
use Rattle.std.proofs.Common.{◌≡◌, ◌≢◌, ℕ, ◌+◌, ◌-◌, ◌*◌, ◌<◌, ◌≤◌, ◌==◌, ◌||◌, nat_eq, nat_lt, zero, suc, Bool, true, false, Some, None, Option, List, ◌++◌, length, take, refl, sym, subst, ap, ◌∙◌, arith, if◌then◌else◌, length-append, length-take}
use Rattle.std.specs.Prelude.{slice_get, slice_index}
use Rattle.std.specs.List.{AllByRecursion}
use Rattle.std.specs.Option.{option_and_then}
use Rattle.std.proofs.lemmas.Bool.{eqb-false, eqb-true}
use Rattle.std.proofs.lemmas.Option.{same_Some}
use Rattle.pblk_model.specs.declared.shape.Shape.{Shape}
use Rattle.pblk_model.specs.declared.chunk.ChunkState.{ChunkState}
use Rattle.pblk_model.specs.declared.chunk.ChunkState.TheVariants as states
use Rattle.pblk_model.specs.Chunk.{Block, Chunk, free_chunk, offline_chunk, pointer}
use Rattle.pblk_model.specs.ChunkStep.{ChunkCommand, Done, Empty, Gave, Read, Refused, Reset, Write, after_reset, appended, refusal, reset_in}
use Rattle.pblk_model.specs.Image.{Image}
use Rattle.pblk_model.specs.UnitLog.{Answered, Failed, IsOutcome, Stopped, UnitOutcome, after_outcome}
use Rattle.pblk_laws.specs.LineBlocks.{chunk_in}
use Rattle.pblk_world.specs.Commanding.{is_program, is_reset, was_stopped}
use Rattle.pblk_world.specs.EngineLog.{Begun, begun}
use Rattle.pblk_world.specs.Events.{Logged}
use Rattle.pblk_world.specs.Lines.{found_by, found_image, known_image}
use Rattle.pblk_world.specs.World.{World, log_of, media, unit_event_at, unit_event_of}
use Rattle.pblk_model.proofs.Options.{split_then}
use Rattle.pblk_model.proofs.Parts.{all_at, got_within}
use Rattle.world_laws.specs.KnownChunks.{IsChange}
use Rattle.pblk_world.specs.LegalMounts.{IsLegalMount}
use Rattle.world_laws.specs.UnitChunks.{chunk_after, first_events}
use Rattle.world_laws.proofs.Deeds.{IsDeed, deed, fetch_leaves}
use Rattle.world_laws.proofs.KnownPrefixes.{known_prefix}
use Rattle.world_laws.proofs.LifeUnits.{begun_within}
use Rattle.world_laws.proofs.MediaChunks.{chunk_of_found, chunk_of_media}
use Rattle.world_laws.proofs.UnitChunks.{still_there}
use Rattle.rest_laws.specs.TidyMounts.{HasNoFailures}
use Rattle.rest_laws.specs.Tidy.{HasWholeChunks, IsFaultless, IsFoundFaultless}
use Rattle.pblk_laws.proofs.ChunkStep.{IsPlaced, write_placed}
use Rattle.pblk_model.proofs.Tests.{le_of_lt_false, same_number}
use Rattle.rest_laws.specs.Tidy.{IsWholeChunk}

-- ---- one command

-- blocks that are appended within the chunk leave it whole
appended_whole : (s : Shape) (c : Chunk) (blocks : List Block) → pointer c + length blocks ≤ s.clba → IsWholeChunk s (appended s c blocks)
appended_whole s c blocks fits = go (nat_lt (pointer c + length blocks) s.clba) refl
  where
    by : Bool → Chunk
    by t = record { state = if t then states.Open else states.Closed; blocks = c.blocks ++ blocks }

    go : (t : Bool) → nat_lt (pointer c + length blocks) s.clba ≡ t → IsWholeChunk s (by t)
    go true e = record { online = λ x. absurd cc; full = λ x. absurd cc }
    go false e =
        let low : s.clba ≤ pointer c + length blocks = le_of_lt_false (pointer c + length blocks) s.clba e in
        let long : length (c.blocks ++ blocks) ≡ length c.blocks + length blocks = length-append c.blocks blocks in
        record { online = λ x. absurd cc; full = λ x. omega arith }

free_whole : (s : Shape) → IsWholeChunk s free_chunk
free_whole s = record { online = λ x. absurd cc; full = λ x. absurd cc }

-- a write that isn't refused ends within the chunk
write_fits : (s : Shape) (c : Chunk) (at : ℕ) (blocks : List Block) → refusal s c (Write at blocks) ≡ None → pointer c + length blocks ≤ s.clba
write_fits s c at blocks none =
    let is : IsPlaced s (pointer c) at (length blocks) = write_placed s c.state (pointer c) at (length blocks) none in
    let here : at ≡ pointer c = is.pointer in
    let low : at + length blocks ≤ s.clba = is.inside in
    omega arith

reset_whole : (s : Shape) (c : Chunk) → IsWholeChunk s c → IsWholeChunk s (after_reset s c)
reset_whole s c is = go c.state refl
  where
    go : (state : ChunkState) → c.state ≡ state → IsWholeChunk s (reset_in s state (pointer c))
    go states.Free e = free_whole s
    go states.Open e = free_whole s
    go states.Offline e = absurd (is.online e)
    go states.Closed e =
        let full : (pointer c == s.clba) ≡ true = ap (λ n. n == s.clba) (is.full e) ∙ same_number s.clba in
        subst (IsWholeChunk s) (sym (ap (λ t. if t then free_chunk else offline_chunk) full)) (free_whole s)

-- the first ones of blocks that fit do
part_fits : (s : Shape) (c : Chunk) (at : ℕ) (blocks : List Block) (n : ℕ) → refusal s c (Write at blocks) ≡ None
    → pointer c + length (take n blocks) ≤ s.clba
part_fits s c at blocks n none =
    let all : pointer c + length blocks ≤ s.clba = write_fits s c at blocks none in
    omega (arith, length-take n blocks)

pub outcome_whole : (s : Shape) (c : Chunk) (command : ChunkCommand) (o : UnitOutcome) → IsWholeChunk s c → IsOutcome s c command o
    → ((k : ℕ) → o ≢ Failed k) → IsWholeChunk s (after_outcome s c command o)
outcome_whole s c (Write at blocks) (Answered Done) is outcome none = appended_whole s c blocks (write_fits s c at blocks outcome.1.0)
outcome_whole s c (Write at blocks) (Answered (Gave block)) is outcome none = is
outcome_whole s c (Write at blocks) (Answered Empty) is outcome none = is
outcome_whole s c (Write at blocks) (Answered (Refused e)) is outcome none = is
outcome_whole s c (Read b) (Answered answer) is outcome none = is
outcome_whole s c Reset (Answered Done) is outcome none = reset_whole s c is
outcome_whole s c Reset (Answered (Gave block)) is outcome none = is
outcome_whole s c Reset (Answered Empty) is outcome none = is
outcome_whole s c Reset (Answered (Refused e)) is outcome none = is
outcome_whole s c command (Failed k) is outcome none = absurd (none k refl)
outcome_whole s c (Write at blocks) (Stopped zero) is outcome none = is
outcome_whole s c (Write at blocks) (Stopped (suc k)) is outcome none =
    appended_whole s c (take (suc k * s.ws_min) blocks) (part_fits s c at blocks (suc k * s.ws_min) outcome.0)
outcome_whole s c (Read b) (Stopped k) is outcome none = is
outcome_whole s c Reset (Stopped zero) is outcome none = is
outcome_whole s c Reset (Stopped (suc k)) is outcome none = reset_whole s c is

-- ---- the events of a unit

module _ (i : Image) (w : World) (mount : IsLegalMount i w) (unit line : ℕ) where
  abbrev own : List Logged
  own = log_of w (suc unit)

  -- none of the chunk's changes from one event up to another failed
  abbrev AreDone : ℕ → ℕ → Type 0
  AreDone low n = (m : ℕ) → low ≤ m → m < n → (h : IsChange (log_of w) line unit m) → (k : ℕ) → h.event.outcome ≢ Failed k

  next_whole : (low n m : ℕ) → AreDone low n → low ≤ m → m < n → (l : Logged) → slice_get (log_of w (suc unit)) m ≡ Some l
      → (c d : Chunk) → chunk_after i (log_of w) line unit m ≡ Some c → chunk_after i (log_of w) line unit (suc m) ≡ Some d → IsWholeChunk i.shape c
      → IsWholeChunk i.shape d
  next_whole low n m done from below l there c d before after is = by (nat_eq e.event.chunk line) refl
    where
      e : IsDeed i w unit m l
      e = deed i w unit m l mount.legal there

      stays : chunk_after i (log_of w) line unit (suc m) ≡ chunk_after i (log_of w) line unit m → IsWholeChunk i.shape d
      stays same = subst (IsWholeChunk i.shape) (same_Some c d (sym before ∙ sym same ∙ after)) is

      by : (t : Bool) → nat_eq e.event.chunk line ≡ t → IsWholeChunk i.shape d
      by false apart = stays (e.others line (eqb-false e.event.chunk line apart))
      by true at = by_command e.event.command refl
        where
          its : e.event.chunk ≡ line
          its = eqb-true e.event.chunk line at

          found : e.found ≡ c
          found = same_Some e.found c (sym e.there ∙ ap (λ k. chunk_after i (log_of w) k unit m) its ∙ before)

          left : after_outcome i.shape e.found e.event.command e.event.outcome ≡ d
          left = same_Some (after_outcome i.shape e.found e.event.command e.event.outcome) d
              (sym e.left ∙ ap (λ k. chunk_after i (log_of w) k unit (suc m)) its ∙ after)

          changes : (is_program e.event.command || is_reset e.event.command) ≡ true → IsWholeChunk i.shape d
          changes kind =
              subst (IsWholeChunk i.shape) left
              (outcome_whole i.shape e.found e.event.command e.event.outcome (subst (IsWholeChunk i.shape) (sym found) is) e.outcome (λ k failed.
              done m from below (record {
                logged = l;
                there = there;
                event = e.event;
                is_event = e.is_event;
                its_chunk = its;
                kind = kind;
                going = ap was_stopped failed;
              }) k failed))

          by_command : (command : ChunkCommand) → e.event.command ≡ command → IsWholeChunk i.shape d
          by_command (Read a) same = stays (fetch_leaves i w unit m l e a same line)
          by_command (Write a blocks) same = changes (ap (λ x. is_program x || is_reset x) same)
          by_command Reset same = changes (ap (λ x. is_program x || is_reset x) same)

  whole_until : (low n d : ℕ) → n ≤ length (log_of w (suc unit)) → AreDone low n → low + d ≤ n → (c0 c : Chunk)
      → chunk_after i (log_of w) line unit low ≡ Some c0 → IsWholeChunk i.shape c0 → chunk_after i (log_of w) line unit (low + d) ≡ Some c
      → IsWholeChunk i.shape c
  whole_until low n zero inside done within c0 c first is last =
      let same : low + 0 ≡ low = omega arith in
      subst (IsWholeChunk i.shape) (same_Some c0 c (sym first ∙ ap (chunk_after i (log_of w) line unit) (sym same) ∙ last)) is
  whole_until low n (suc d) inside done within c0 c first is last =
      let next : suc (low + d) ≡ low + suc d = omega arith in
      let at = got_within own (low + d) (omega arith) in
      let was = still_there i (log_of w) line unit low (low + d) c0 first in
      next_whole low n (low + d) done (omega arith) (omega arith) at.0 at.1 was.0 c was.1 (ap (chunk_after i (log_of w) line unit) next ∙ last)
      (whole_until low n d inside done (omega arith) c0 was.0 first is was.1)

  event_is : (m : ℕ) (h : IsChange (log_of w) line unit m) → unit_event_at (log_of w) unit m ≡ Some h.event
  event_is m h = ap (option_and_then (λ (x : Logged). unit_event_of x.event)) h.there ∙ h.is_event

  -- before the first event it is the image's chunk
  whole_first : HasWholeChunks i → (c0 : Chunk) → chunk_after i (log_of w) line unit 0 ≡ Some c0 → IsWholeChunk i.shape c0
  unfolding chunk_after first_events
  whole_first all c0 there =
      let at = split_then (λ (cs : List Chunk). slice_get cs line) (slice_get i.units unit) c0 there in
      all_at (IsWholeChunk i.shape) at.0 line c0 at.2 (all_at (AllByRecursion (IsWholeChunk i.shape)) i.units unit at.0 at.1 all)

  -- ---- what it leaves

  pub media_whole : HasNoFailures (log_of w) → HasWholeChunks i → (c : Chunk) → chunk_in (media i (log_of w)) line unit ≡ Some c → IsWholeChunk i.shape c
  media_whole fine all c left =
      let there : chunk_after i (log_of w) line unit (length own) ≡ Some c = sym (chunk_of_media i (log_of w) line unit) ∙ left in
      let first = still_there i (log_of w) line unit (length own) 0 c there in
      let from_none : 0 + length own ≡ length own = omega arith in
      whole_until 0 (length own) (length own) (omega arith) (λ m from below h k. fine.none_failed unit m k h.event (event_is m h)) (omega arith)
      first.0 c first.1 (whole_first all first.0 first.1) (ap (chunk_after i (log_of w) line unit) from_none ∙ there)

  -- ---- what the mount found

  module _ (b : Begun) (begins : begun (log_of w 0) ≡ Some b) where
    abbrev base : ℕ
    base = slice_index b.knows (suc unit)

    pub found_whole : IsFoundFaultless (log_of w) → HasWholeChunks i → (c : Chunk) → chunk_in (found_image i (log_of w)) line unit ≡ Some c
        → IsWholeChunk i.shape c
    found_whole fine all c found =
        let there : chunk_after i (log_of w) line unit base ≡ Some c = sym (chunk_of_found i (log_of w) b line unit begins) ∙ found in
        let first = still_there i (log_of w) line unit base 0 c there in
        let from_none : 0 + base ≡ base = omega arith in
        whole_until 0 base base (begun_within i w mount.legal b begins unit) done (omega arith) first.0 c first.1 (whole_first all first.0 first.1)
        (ap (chunk_after i (log_of w) line unit) from_none ∙ there)
      where
        done : (m : ℕ) → 0 ≤ m → m < slice_index b.knows (suc unit) → (h : IsChange (log_of w) line unit m) → (k : ℕ) → h.event.outcome ≢ Failed k
        done m from below h k = fine.none_failed b begins unit m k h.event below (event_is m h)

    -- ---- what the engine heard of

    pub known_whole : IsFaultless (log_of w) → HasWholeChunks (found_image i (log_of w)) → (c : Chunk)
        → chunk_in (known_image i (log_of w)) line unit ≡ Some c → IsWholeChunk i.shape c
    known_whole fine all c known =
        let p = known_prefix i w mount.legal b begins unit line c known in
        let first = still_there i (log_of w) line unit p.0 base c p.3 in
        let there : chunk_in (found_image i (log_of w)) line unit ≡ Some first.0 = chunk_of_found i (log_of w) b line unit begins ∙ first.1 in
        let low : base ≤ p.0 = p.1 in
        let far : base + (p.0 - base) ≡ p.0 = omega arith in
        whole_until base p.0 (p.0 - base) p.2 (λ m from below h k. fine.none_failed unit m k h.event ((p.4 m from h).0 below) (event_is m h))
        (omega arith) first.0 c first.1 (found_one first.0 there) (ap (chunk_after i (log_of w) line unit) far ∙ p.3)
      where
        same_shape : (found_image i (log_of w)).shape ≡ i.shape
        same_shape = ap (λ (x : Option Begun). (found_by i (log_of w) x).shape) begins

        found_one : (c0 : Chunk) → chunk_in (found_image i (log_of w)) line unit ≡ Some c0 → IsWholeChunk i.shape c0
        found_one c0 there =
            let at = split_then (λ (cs : List Chunk). slice_get cs line) (slice_get (found_image i (log_of w)).units unit) c0 there in
            subst (λ (s : Shape). IsWholeChunk s c0) same_shape
            (all_at (IsWholeChunk (found_image i (log_of w)).shape) at.0 line c0 at.2
            (all_at (AllByRecursion (IsWholeChunk (found_image i (log_of w)).shape)) (found_image i (log_of w)).units unit at.0 at.1 all))
