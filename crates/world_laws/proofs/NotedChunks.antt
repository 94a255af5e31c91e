-- A chunk as the engine knows it, where the engine has noted each reset that wasn't stopped: nothing
-- was reset since, and nothing was programmed in a line that isn't opened.
use Rattle.std.proofs.Common.{◌≡◌, ◌↔◌, ◌⊎◌, inl, inr, ℕ, ◌+◌, ◌-◌, ◌*◌, ◌<◌, ◌≤◌, ◌==◌, ◌&&◌, suc, zero, nat_eq, nat_lt, Bool, true, false, Some, List, length, take, refl, sym, subst, ap, ◌∙◌, arith, if◌then◌else◌}
use Rattle.std.specs.Prelude.{slice_get, slice_index}
use Rattle.std.specs.List.{Contains, list_any}
use Rattle.std.specs.Option.{option_and_then}
use Rattle.std.proofs.lemmas.Bool.{eqb-true, eqb-false}
use Rattle.std.proofs.lemmas.Option.{same_Some}
use Rattle.std.proofs.Math.Seq.{take-length}
use Rattle.pblk_model.specs.declared.shape.Shape.{Shape}
use Rattle.pblk_model.specs.declared.chunk.ChunkState.TheVariants as states
use Rattle.pblk_model.specs.Chunk.{Block, Chunk, pointer}
use Rattle.pblk_model.specs.ChunkStep.{ChunkCommand, Write, Read, Reset, Done, Gave, Empty, Refused, appended}
use Rattle.pblk_model.specs.Found.{IsUsed}
use Rattle.pblk_model.specs.Image.{Image}
use Rattle.pblk_model.specs.UnitLog.{UnitOutcome, Answered, Failed, Stopped, UnitEvent, after_outcome}
use Rattle.pblk_model.proofs.UnitLogLemmas.{read_leaves}
use Rattle.pblk_laws.specs.LineBlocks.{chunk_in}
use Rattle.pblk_world.specs.AtRest.{AreResetsNoted}
use Rattle.pblk_world.specs.Commanding.{ended_stripes, has_stopped, is_program, is_reset, is_stopped_reset, was_stopped}
use Rattle.pblk_world.specs.EngineLog.{Begun, Opened, begun, is_opened, life_of, named_events}
use Rattle.pblk_world.specs.Events.{Logged}
use Rattle.pblk_world.specs.Legal.{IsLegal}
use Rattle.pblk_world.specs.Lines.{known_image}
use Rattle.pblk_world.specs.World.{World, log_of, media, unit_event_of, unit_events}
use Rattle.pblk_model.proofs.Maps.{any_member, given_at}
use Rattle.pblk_model.proofs.Parts.{get_below, got_within}
use Rattle.pblk_model.proofs.Tests.{and_both, not_both, or_left, or_right, same_number}
use Rattle.world_laws.specs.KnownChunks.{IsChange}
use Rattle.world_laws.specs.UnitChunks.{chunk_after}
use Rattle.world_laws.proofs.Deeds.{IsDeed, deed}
use Rattle.world_laws.proofs.KnownChunks.{quiet_until}
use Rattle.world_laws.proofs.KnownPrefixes.{known_prefix, named_there}
use Rattle.world_laws.proofs.MediaChunks.{chunk_of_media}
use Rattle.world_laws.proofs.NextLives.{placed_in}
use Rattle.world_laws.proofs.StripeLines.{IsGone, open_or_gone}
use Rattle.world_laws.proofs.Tellings.{IsNamedAt}
use Rattle.world_laws.proofs.ToldBefore.{IsActive, IsCommandOf, IsProgram, program, told_itself}
use Rattle.world_laws.proofs.UnitChunks.{still_there}

-- ---- what leaves a used chunk used

appended_used : (s : Shape) (c : Chunk) (blocks : List Block) → IsUsed (appended s c blocks).state
appended_used s c blocks = go (nat_lt (pointer c + length blocks) s.clba)
  where
    go : (b : Bool) → IsUsed (if b then states.Open else states.Closed)
    go true = tt
    go false = tt

-- a program, whatever becomes of it
program_used : (s : Shape) (c : Chunk) (at : ℕ) (blocks : List Block) (o : UnitOutcome) → IsUsed c.state → IsUsed (after_outcome s c (Write at blocks) o).state
program_used s c at blocks (Answered Done) used = appended_used s c blocks
program_used s c at blocks (Answered (Gave b)) used = used
program_used s c at blocks (Answered Empty) used = used
program_used s c at blocks (Answered (Refused e)) used = used
program_used s c at blocks (Failed k) used = tt
program_used s c at blocks (Stopped zero) used = used
program_used s c at blocks (Stopped (suc k)) used = appended_used s c (take (suc k * s.ws_min) blocks)

module _ (i : Image) (w : World) (legal : IsLegal i w) (b : Begun) (begins : begun (log_of w 0) ≡ Some b) (unit line : ℕ) where
  abbrev log : List Logged
  log = log_of w 0

  abbrev own : List Logged
  own = log_of w (suc unit)

  -- ---- what the engine wasn't told of

  -- it was told of each program of a line that isn't opened now
  program_told : (n : ℕ) (l : Logged) (e : UnitEvent) → is_opened (life_of (log_of w 0) line) ≡ false
      → IsCommandOf i w legal b begins unit line is_program n l e → Contains (named_events (log_of w 0) unit) n
  program_told n l e closed h = go (open_or_gone i w legal unit (ended_stripes (take n own)) p.stripe.placed p.stripe.in_order (length log) inside
      (omega arith))
    where
      p : IsProgram i w legal b begins unit line n l e
      p = program i w legal b begins unit line n l e h.from h.at

      inside : p.stripe.placed.number < length (log_of w 0)
      inside = get_below log p.stripe.placed.number p.placed.logged p.placed.decided.there

      go : (life_of (take (length (log_of w 0)) (log_of w 0)) p.stripe.placed.stripe.line ≡ Opened
          (placed_in i w legal unit (ended_stripes (take n (log_of w (suc unit)))) p.stripe.placed p.stripe.in_order).opening)
          ⊎ IsGone i w legal unit (ended_stripes (take n (log_of w (suc unit)))) p.stripe.placed p.stripe.in_order (length (log_of w 0))
          → Contains (named_events (log_of w 0) unit) n
      go (inl opened) = absurd (not_both (is_opened (life_of log line))
          (ap (λ (xs : List Logged). is_opened (life_of xs line)) (sym (take-length log))
          ∙ ap (λ k. is_opened (life_of (take (length log) log) k)) (sym p.its_line) ∙ ap is_opened opened) closed)
      go (inr gone) =
          let at : IsNamedAt i w legal unit gone.told.at n = told_itself i w legal b begins unit line n gone.freed.number l e h gone.told in
          named_there log unit gone.told.at n at.logged at.there at.names

  module _ (noted : AreResetsNoted (log_of w)) where
    -- and of each reset that wasn't stopped
    reset_told : (n : ℕ) (l : Logged) (e : UnitEvent) → slice_get (log_of w (suc unit)) n ≡ Some l → unit_event_of l.event ≡ Some e
        → is_reset e.command ≡ true → was_stopped e.outcome ≡ false → ¬ Contains (named_events (log_of w 0) unit) n → ⊥
    reset_told n l e there is resets going untold = noted unit n (record {
      event = e;
      is_known = ap (option_and_then (λ (x : Logged). unit_event_of x.event)) there ∙ is;
      reset = resets;
      not_stopped = going;
      unnoted = untold;
    })

    -- ---- a chunk that is used stays so, unless a reset of it is stopped

    abbrev IsUsedAt : ℕ → Type 0
    IsUsedAt n = (d : Chunk) × (chunk_after i (log_of w) line unit n ≡ Some d)
        × (IsUsed d.state ⊎ (list_any (is_stopped_reset line) (unit_events (log_of w) unit) ≡ true))

    stops_by : (n : ℕ) (l : Logged) (e : UnitEvent) → slice_get (log_of w (suc unit)) n ≡ Some l → unit_event_of l.event ≡ Some e → e.chunk ≡ line
        → is_reset e.command ≡ true → was_stopped e.outcome ≡ true → list_any (is_stopped_reset line) (unit_events (log_of w) unit) ≡ true
    stops_by n l e there is its resets was =
        let at = given_at (λ (x : Logged). unit_event_of x.event) (log_of w (suc unit)) l e n there is in
        any_member (is_stopped_reset line) (unit_events (log_of w) unit) at.0 e at.1
        (and_both ((e.chunk == line) && is_reset e.command) (was_stopped e.outcome)
        (and_both (e.chunk == line) (is_reset e.command) (ap (λ k. k == line) its ∙ same_number line) resets) was)

    module _ (n : ℕ) (l : Logged) (there : slice_get (log_of w (suc unit)) n ≡ Some l)
        (unheard : (e : UnitEvent) → unit_event_of l.event ≡ Some e → e.chunk ≡ line → is_reset e.command ≡ true → was_stopped e.outcome ≡ false
        → ¬ Contains (named_events (log_of w 0) unit) n) where
      done : IsDeed i w unit n l
      done = deed i w unit n l legal there

      -- where it is one of the chunk
      module _ (c : Chunk) (before : chunk_after i (log_of w) line unit n ≡ Some c) (used : IsUsed c.state) (its : done.event.chunk ≡ line) where
        found : done.found ≡ c
        found = same_Some done.found c (sym done.there ∙ ap (λ k. chunk_after i (log_of w) k unit n) its ∙ before)

        left : chunk_after i (log_of w) line unit (suc n) ≡ Some (after_outcome i.shape c done.event.command done.event.outcome)
        left = ap (λ k. chunk_after i (log_of w) k unit (suc n)) (sym its) ∙ done.left
            ∙ ap (λ (x : Chunk). Some (after_outcome i.shape x done.event.command done.event.outcome)) found

        stays : (command : ChunkCommand) → done.event.command ≡ command → IsUsed (after_outcome i.shape c command done.event.outcome).state → IsUsedAt (suc n)
        stays command is leaves = (
          after_outcome i.shape c done.event.command done.event.outcome,
          left,
          inl (subst (λ (x : ChunkCommand). IsUsed (after_outcome i.shape c x done.event.outcome).state) (sym is) leaves),
        )

        by_reset : (t : Bool) → was_stopped done.event.outcome ≡ t → is_reset done.event.command ≡ true → IsUsedAt (suc n)
        by_reset true was resets = (
          after_outcome i.shape c done.event.command done.event.outcome,
          left,
          inr (stops_by n l done.event there done.is_event its resets was),
        )
        by_reset false going resets =
            absurd (reset_told n l done.event there done.is_event resets going (unheard done.event done.is_event its resets going))

        by_command : (command : ChunkCommand) → done.event.command ≡ command → IsUsedAt (suc n)
        by_command (Write at blocks) is = stays (Write at blocks) is (program_used i.shape c at blocks done.event.outcome used)
        by_command (Read at) is = stays (Read at) is (subst (λ (x : Chunk). IsUsed x.state) (sym (read_leaves i.shape c at done.event.outcome)) used)
        by_command Reset is = by_reset (was_stopped done.event.outcome) refl (ap is_reset is)

      used_one : (c : Chunk) → chunk_after i (log_of w) line unit n ≡ Some c → IsUsed c.state → IsUsedAt (suc n)
      used_one c before used = go (nat_eq done.event.chunk line) refl
        where
          go : (t : Bool) → nat_eq done.event.chunk line ≡ t → IsUsedAt (suc n)
          go true same = by_command c before used (eqb-true done.event.chunk line same) done.event.command refl
          go false apart = (c, done.others line (eqb-false done.event.chunk line apart) ∙ before, inl used)

    used_until : (n d : ℕ) (c : Chunk) → n + d ≤ length (log_of w (suc unit))
        → ((m : ℕ) → n ≤ m → IsChange (log_of w) line unit m → ¬ Contains (named_events (log_of w 0) unit) m)
        → chunk_after i (log_of w) line unit n ≡ Some c → IsUsed c.state → IsUsedAt (n + d)
    used_until n zero c inside unheard there used =
        let same : n + 0 ≡ n = omega arith in (c, ap (chunk_after i (log_of w) line unit) same ∙ there, inl used)
    used_until n (suc d) c inside unheard there used =
        let next : suc (n + d) ≡ n + suc d = omega arith in
        let at = got_within (log_of w (suc unit)) (n + d) (omega arith) in
        subst IsUsedAt next (go at.0 at.1 (used_until n d c (omega arith) unheard there used))
      where
        go : (l : Logged) → slice_get (log_of w (suc unit)) (n + d) ≡ Some l → IsUsedAt (n + d) → IsUsedAt (suc (n + d))
        go l at (e, before, inr was) = let later = still_there i (log_of w) line unit (n + d) (suc (n + d)) e before in (later.0, later.1, inr was)
        go l at (e, before, inl used) = used_one (n + d) l at
            (λ x is its resets going. unheard (n + d) (omega arith) (record {
              logged = l;
              there = at;
              event = x;
              is_event = is;
              its_chunk = its;
              kind = or_right (is_program x.command) (is_reset x.command) resets;
              going = going;
            })) e before used

    pub used_or_stopped : (c : Chunk) → chunk_in (known_image i (log_of w)) line unit ≡ Some c → IsUsed c.state
        → (d : Chunk) × (chunk_in (media i (log_of w)) line unit ≡ Some d)
        × (IsUsed d.state ⊎ (list_any (is_stopped_reset line) (unit_events (log_of w) unit) ≡ true))
    used_or_stopped c known used =
        let k = known_prefix i w legal b begins unit line c known in
        let from : slice_index b.knows (suc unit) ≤ k.0 = k.1 in
        let far : k.0 + (length own - k.0) ≡ length own = omega (arith, k.2) in
        let end_ = subst IsUsedAt far (used_until k.0 (length own - k.0) c (omega (arith, far))
        (λ m above change named. let low : m < k.0 = (k.4 m (omega arith) change).1 named in absurd (omega arith)) k.3 used) in
        (end_.0, chunk_of_media i (log_of w) line unit ∙ end_.1, end_.2)

    -- ---- a chunk of a line that isn't opened is known as it is, while the unit goes on

    pub as_known : (c : Chunk) → is_opened (life_of (log_of w 0) line) ≡ false → has_stopped (unit_events (log_of w) unit) ≡ false
        → chunk_in (known_image i (log_of w)) line unit ≡ Some c → chunk_in (media i (log_of w)) line unit ≡ Some c
    as_known c closed running known =
        let k = known_prefix i w legal b begins unit line c known in
        let far : k.0 + (length own - k.0) ≡ length own = omega (arith, k.2) in
        chunk_of_media i (log_of w) line unit ∙ ap (chunk_after i (log_of w) line unit) (sym far)
        ∙ quiet_until i w legal b begins unit line k.0 (length own - k.0) k.1 (omega (arith, far))
        (λ m l e below at is. goes_on l e m at is (was_stopped e.outcome) refl)
        (λ m l e above below active. untold k.0 k.1 k.4 m l e above active) ∙ k.3
      where
        goes_on : (l : Logged) (e : UnitEvent) (m : ℕ) → slice_get (log_of w (suc unit)) m ≡ Some l → unit_event_of l.event ≡ Some e
            → (t : Bool) → was_stopped e.outcome ≡ t → was_stopped e.outcome ≡ false
        goes_on l e m at is false going = going
        goes_on l e m at is true was =
            let among = given_at (λ (x : Logged). unit_event_of x.event) (log_of w (suc unit)) l e m at is in
            absurd (not_both (has_stopped (unit_events (log_of w) unit))
            (any_member (λ (x : UnitEvent). was_stopped x.outcome) (unit_events (log_of w) unit) among.0 e among.1 was) running)

        untold : (n : ℕ) → slice_index b.knows (suc unit) ≤ n
            → ((m : ℕ) → slice_index b.knows (suc unit) ≤ m → IsChange (log_of w) line unit m → (m < n) ↔ Contains (named_events (log_of w 0) unit) m)
            → (m : ℕ) (l : Logged) (e : UnitEvent) → n ≤ m → IsActive i w legal b begins unit line m l e → ⊥
        untold n from order m l e above (inl h) =
            let low : m < n = (order m (omega arith) (record {
              logged = l;
              there = h.at.there;
              event = e;
              is_event = h.at.is_event;
              its_chunk = h.at.its_chunk;
              kind = or_left (is_program e.command) (is_reset e.command) h.at.passes;
              going = h.going;
            })).1 (program_told m l e closed h) in
            absurd (omega arith)
        untold n from order m l e above (inr h) = reset_told m l e h.at.there h.at.is_event h.at.passes h.going (λ named.
            let low : m < n = (order m (omega arith) (record {
              logged = l;
              there = h.at.there;
              event = e;
              is_event = h.at.is_event;
              its_chunk = h.at.its_chunk;
              kind = or_right (is_program e.command) (is_reset e.command) h.at.passes;
              going = h.going;
            })).1 named in
            absurd (omega arith))
