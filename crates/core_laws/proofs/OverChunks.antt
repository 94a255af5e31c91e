-- A chunk of an opened line has on the media the blocks that the engine knows, and where nothing
-- more is written to it, by what the engine was told, these alone.
use Rattle.std.proofs.Common.{◌≡◌, ◌⊎◌, inl, inr, ℕ, ◌+◌, ◌-◌, ◌<◌, ◌≤◌, suc, zero, nat_eq, Bool, true, false, Some, None, List, length, refl, sym, subst, ap, ◌∙◌, arith}
use Rattle.std.specs.Prelude.{slice_get, slice_index}
use Rattle.std.proofs.lemmas.Bool.{cases_lt, eqb-true, eqb-false}
use Rattle.std.proofs.lemmas.Option.{same_Some}
use Rattle.std.proofs.Math.Seq.{take-length}
use Rattle.pblk_model.specs.declared.chunk.ChunkState.{ChunkState}
use Rattle.pblk_model.specs.declared.chunk.ChunkState.TheVariants as states
use Rattle.pblk_model.specs.declared.shape.Shape.{Shape}
use Rattle.pblk_model.specs.Chunk.{Block, Chunk}
use Rattle.pblk_model.specs.ChunkStep.{ChunkCommand, Done, Empty, Gave, Read, Refused, Reset, Write, refusal}
use Rattle.pblk_model.specs.UnitLog.{Answered, Failed, IsOutcome, Stopped, UnitOutcome}
use Rattle.pblk_model.specs.Image.{Image}
use Rattle.pblk_laws.specs.LineBlocks.{chunk_in}
use Rattle.pblk_world.specs.Events.{Logged}
use Rattle.pblk_world.specs.World.{World, Logs, log_of, known, media}
use Rattle.pblk_world.specs.EngineLog.{Begun, begun, Opened, Opening, life_of}
use Rattle.pblk_world.specs.Commanding.{is_program}
use Rattle.pblk_world.specs.Lines.{is_empty_state, is_over_state, known_image}
use Rattle.pblk_world.specs.Victims.{engine_prefix}
use Rattle.pblk_world.proofs.EngineLogLemmas.{begun_knows}
use Rattle.pblk_world.proofs.LinesLemmas.{length_known}
use Rattle.pblk_world.proofs.VictimsLemmas.{whole_prefix}
use Rattle.pblk_world.proofs.WorldLemmas.{length_media}
use Rattle.pblk_model.proofs.Options.{split_then}
use Rattle.pblk_model.proofs.Parts.{get_below, get_more, got_within}
use Rattle.pblk_world.specs.LegalMounts.{IsLegalMount}
use Rattle.world_laws.specs.UnitChunks.{NoProgram, chunk_after}
use Rattle.world_laws.proofs.Deeds.{IsDeed, deed, fetch_leaves, stop_leaves}
use Rattle.world_laws.proofs.FoundEmpty.{known_is_empty}
use Rattle.world_laws.proofs.KnownChunks.{IsKnownTo, known_later}
use Rattle.world_laws.proofs.LastUses.{IsOfChunk}
use Rattle.world_laws.proofs.LifeBlocks.{no_blocks}
use Rattle.world_laws.proofs.LifePlaces.{began}
use Rattle.world_laws.proofs.LifeUnits.{at_opening, chunk_known}
use Rattle.world_laws.proofs.MediaChunks.{chunk_of_media}
use Rattle.world_laws.proofs.NextLives.{IsOpenSince}
use Rattle.world_laws.proofs.OpenedChunks.{IsLonger, empty_at_reset, grows, named, opening, since}
use Rattle.world_laws.proofs.OpenedEmpty.{early_going, early_named}
use Rattle.world_laws.proofs.Resets.{empty_stays, empty_until, reset}
use Rattle.world_laws.proofs.ToldBefore.{IsCommandOf}
use Rattle.world_laws.proofs.UnitChunks.{still_there}
use Rattle.world_laws.proofs.UnitLogs.{chunk_fits}

-- a program in a chunk that is Closed or Offline was stopped before it began
pub over_refuses : (s : Shape) (c : Chunk) (at : ℕ) (blocks : List Block) (o : UnitOutcome) → is_over_state false c.state ≡ true
    → IsOutcome s c (Write at blocks) o → o ≡ Stopped 0
over_refuses s c at blocks o over h = go c.state refl over
  where
    by : (state : ChunkState) → c.state ≡ state → (refusal s c (Write at blocks) ≡ None → ⊥) → o ≡ Stopped 0
    by state is never = which o h
      where
        which : (x : UnitOutcome) → IsOutcome s c (Write at blocks) x → x ≡ Stopped 0
        which (Answered Done) h = absurd (never h.1.0)
        which (Answered (Gave b)) h = absurd h.1
        which (Answered Empty) h = absurd h.1
        which (Answered (Refused e)) h = absurd h.0
        which (Failed k) h = absurd (never h.0)
        which (Stopped zero) h = refl
        which (Stopped (suc k)) h = absurd (never h.0)

    go : (state : ChunkState) → c.state ≡ state → is_over_state false state ≡ true → o ≡ Stopped 0
    go states.Free is h = absurd cc
    go states.Open is h = absurd cc
    go states.Closed is h = by states.Closed is (λ e. cc)
    go states.Offline is h = by states.Offline is (λ e. cc)

module _ (i : Image) (w : World) (mount : IsLegalMount i w) (line : ℕ) (o : Opening) (is_open : life_of (log_of w 0) line ≡ Opened o) (unit : ℕ) where
  abbrev log : List Logged
  log = log_of w 0

  abbrev own : List Logged
  own = log_of w (suc unit)

  b : (x : Begun) × (begun (log_of w 0) ≡ Some x)
  b = began i w line o mount.legal is_open

  -- the prefix that the opening names
  abbrev base : ℕ
  base = slice_index o.knows (suc unit)

  -- ---- the chunk as the engine knows it

  -- it is that of some first events of the unit, from the opening on, or empty
  pub record IsToldOf (c : Chunk) : Type 0 where
    pub number : ℕ
    pub inside : number ≤ length (log_of w (suc unit))
    pub left : chunk_after i (log_of w) line unit number ≡ Some c
    pub from : (slice_index o.knows (suc unit) ≤ number) ⊎ (is_empty_state c.state ≡ true)

  module _ (start_chunks : List Chunk) (has : slice_get i.units unit ≡ Some start_chunks) where
    abbrev Known : ℕ → ℕ → Type 0
    Known k n = IsKnownTo i w mount.legal b.0 b.1 unit line start_chunks has k n

    -- nothing was programmed in the chunk from where it was known at the opening up to what the
    -- opening names
    none_before : (n : ℕ) → IsKnownTo i w mount.legal b.0 b.1 unit line start_chunks has o.number n
        → NoProgram (log_of w) line unit n (slice_index o.knows (suc unit))
    none_before n at y x e from below there is its = go (is_program e.command) refl
      where
        go : (t : Bool) → is_program e.command ≡ t → is_program e.command ≡ false
        go false none = none
        go true program =
            let h : IsOpenSince i w mount.legal line (length log) o = since i w mount.legal b.0 b.1 unit line o is_open in
            let d = opening i w mount.legal b.0 b.1 unit line o is_open in
            let low : slice_index b.0.knows (suc unit) ≤ n = at.from in
            let same : known h.logged (suc unit) ≡ slice_index o.knows (suc unit) = named i w mount.legal b.0 b.1 unit line o is_open in
            let command : IsOfChunk i w mount.legal unit line is_program y x e =
            record { there = there; is_event = is; its_chunk = its; passes = program } in
            let it : IsCommandOf i w mount.legal b.0 b.1 unit line is_program y x e = record {
              from = omega arith;
              at = command;
              going = early_going i w mount.legal b.0 b.1 unit line o.number o.start h.logged d y x e (omega arith) (omega arith) command;
            } in
            let told = early_named i w mount.legal b.0 b.1 unit line o.number o.start h.logged d y x e (omega arith) it in
            let before : y < n = at.within told.0 y x e told.1 told.2 (inl it) in
            absurd (omega arith)

    -- how far the unit's log was told at a length of the engine's log from the opening on
    record IsToldAt (k : ℕ) : Type 0 where
      first : ℕ
      at_first : IsKnownTo i w mount.legal b.0 b.1 unit line start_chunks has o.number first
      number : ℕ
      later : first ≤ number
      is : IsKnownTo i w mount.legal b.0 b.1 unit line start_chunks has k number

    told_at : (k : ℕ) → o.number ≤ k → k ≤ length (log_of w 0) → IsToldAt k
    told_at k from inside =
        let at = at_opening i w mount.legal b.0 b.1 unit line o is_open start_chunks has in
        let far : o.number + (k - o.number) ≡ k = omega arith in
        let then_ = known_later i w mount.legal b.0 b.1 unit line start_chunks has o.number (k - o.number) at.0 (omega arith) at.1 in
        record { first = at.0; at_first = at.1; number = then_.0; later = then_.1; is = subst (λ n. Known n then_.0) far then_.2 }

    told_now : IsToldAt (length (log_of w 0))
    told_now =
        let h : IsOpenSince i w mount.legal line (length log) o = since i w mount.legal b.0 b.1 unit line o is_open in
        let inside : o.number < length log = get_below log o.number h.logged h.there in
        told_at (length log) (omega arith) (omega arith)

    -- the chunk is known as it was after so many events
    known_at : (k : ℕ) → 0 < k → (t : IsToldAt k)
        → chunk_in (known_image i (engine_prefix k (log_of w))) line unit ≡ chunk_after i (log_of w) line unit t.number
    known_at k some t = chunk_known i w mount.legal b.0 b.1 unit line start_chunks has k some ∙ t.is.same

    known_then : (t : IsToldAt (length (log_of w 0))) → chunk_in (known_image i (log_of w)) line unit ≡ chunk_after i (log_of w) line unit t.number
    known_then t =
        let some : 0 < length log = begun_knows (length log) log b.0 (ap begun (take-length log) ∙ b.1) in
        ap (λ (logs : Logs). chunk_in (known_image i logs) line unit) (sym (whole_prefix (log_of w))) ∙ known_at (length log) some t

    -- these go back to the opening, or the chunk is empty
    from_opening : (k : ℕ) (t : IsToldAt k) (c : Chunk) → chunk_after i (log_of w) line unit t.number ≡ Some c
        → (slice_index o.knows (suc unit) ≤ t.number) ⊎ (is_empty_state c.state ≡ true)
    from_opening k t c left = by (cases_lt t.number (slice_index o.knows (suc unit)))
      where
        by : (t.number < slice_index o.knows (suc unit)) ⊎ (slice_index o.knows (suc unit) ≤ t.number)
            → (slice_index o.knows (suc unit) ≤ t.number) ⊎ (is_empty_state c.state ≡ true)
        by (inr from) = inl from
        by (inl before) =
            let h : IsOpenSince i w mount.legal line (length log) o = since i w mount.legal b.0 b.1 unit line o is_open in
            let was = still_there i (log_of w) line unit t.number t.first c left in
            let empty : is_empty_state was.0.state ≡ true =
            known_is_empty i w mount.legal b.0 b.1 unit line o.number o.start h.logged
            (opening i w mount.legal b.0 b.1 unit line o is_open) start_chunks has
            was.0 (t.at_first.same ∙ was.1) in
            let later : t.first ≤ t.number = t.later in
            let inside : t.number ≤ length own = t.is.inside in
            let far : t.first + (t.number - t.first) ≡ t.number = omega arith in
            let same : chunk_after i (log_of w) line unit (t.first + (t.number - t.first)) ≡ Some was.0 =
            empty_until i w mount.legal unit line t.first (t.number - t.first) was.0 (omega arith) was.1 empty
            (λ y x e low high. none_before t.first t.at_first y x e low (omega arith)) in
            inr (ap (λ (x : Chunk). is_empty_state x.state)
            (same_Some c was.0 (sym left ∙ ap (chunk_after i (log_of w) line unit) (sym far) ∙ same)) ∙ empty)

    told_of : (c : Chunk) → chunk_in (known_image i (log_of w)) line unit ≡ Some c → IsToldOf c
    told_of c is_known =
        let t : IsToldAt (length log) = told_now in
        let left : chunk_after i (log_of w) line unit t.number ≡ Some c = sym (known_then t) ∙ is_known in
        record { number = t.number; inside = t.is.inside; left = left; from = from_opening (length log) t c left }

    -- what is on the media is known
    known_of : (d : Chunk) → chunk_in (media i (log_of w)) line unit ≡ Some d → (c : Chunk) × (chunk_in (known_image i (log_of w)) line unit ≡ Some c)
    known_of d there =
        let t : IsToldAt (length log) = told_now in
        let was = still_there i (log_of w) line unit (length own) t.number d (sym (chunk_of_media i (log_of w) line unit) ∙ there) in
        (was.0, known_then t ∙ was.1)

  pub told_as : (c : Chunk) → chunk_in (known_image i (log_of w)) line unit ≡ Some c → IsToldOf c
  told_as c is_known =
      let its = split_then (λ (cs : List Chunk). slice_get cs line) (slice_get (known_image i (log_of w)).units unit) c is_known in
      let inside : unit < length (known_image i (log_of w)).units = get_below (known_image i (log_of w)).units unit its.0 its.1 in
      let count : length (known_image i (log_of w)).units ≡ length i.units = length_known i (log_of w) in
      let has = got_within i.units unit (omega arith) in
      told_of has.0 has.1 c is_known

  pub known_there : (d : Chunk) → chunk_in (media i (log_of w)) line unit ≡ Some d → (c : Chunk) × (chunk_in (known_image i (log_of w)) line unit ≡ Some c)
  known_there d there =
      let its = split_then (λ (cs : List Chunk). slice_get cs line) (slice_get (media i (log_of w)).units unit) d there in
      let inside : unit < length (media i (log_of w)).units = get_below (media i (log_of w)).units unit its.0 its.1 in
      let count : length (media i (log_of w)).units ≡ length i.units = length_media i (log_of w) in
      let has = got_within i.units unit (omega arith) in
      known_of has.0 has.1 d there

  -- its blocks stand on the media
  pub known_stands : (c : Chunk) (k : ℕ) (block : Block) → chunk_in (known_image i (log_of w)) line unit ≡ Some c → slice_get c.blocks k ≡ Some block
      → (d : Chunk) × (chunk_in (media i (log_of w)) line unit ≡ Some d) × (slice_get d.blocks k ≡ Some block)
  known_stands c k block is_known at = go (told_as c is_known)
    where
      go : IsToldOf c → (d : Chunk) × (chunk_in (media i (log_of w)) line unit ≡ Some d) × (slice_get d.blocks k ≡ Some block)
      go t = by t.from
        where
          inside : t.number ≤ length (log_of w (suc unit))
          inside = t.inside

          by : (slice_index o.knows (suc unit) ≤ t.number) ⊎ (is_empty_state c.state ≡ true)
              → (d : Chunk) × (chunk_in (media i (log_of w)) line unit ≡ Some d) × (slice_get d.blocks k ≡ Some block)
          by (inr empty) = absurd (no_blocks c.state i.shape.clba k c.blocks block empty
              (chunk_fits i w mount.legal unit line t.number c mount.fit mount.accepted.drive.ws_min t.inside t.left).place at)
          by (inl from) =
              let now = still_there i (log_of w) line unit t.number (length own) c t.left in
              let far : t.number + (length own - t.number) ≡ length own = omega (arith, inside) in
              let longer : IsLonger i w mount.legal b.0 b.1 unit line o is_open c now.0 =
              grows i w mount.legal b.0 b.1 unit line o is_open t.number (length own - t.number) c now.0 from (omega (arith, inside)) t.left
              (ap (chunk_after i (log_of w) line unit) far ∙ now.1) in (
                now.0,
                chunk_of_media i (log_of w) line unit ∙ now.1,
                ap (λ (bs : List Block). slice_get bs k) longer.left ∙ get_more c.blocks longer.more k block at,
              )

  -- what is known now was known since the opening
  pub known_before : (k : ℕ) → o.number < k → k ≤ length (log_of w 0) → (d : Chunk) → chunk_in (known_image i (log_of w)) line unit ≡ Some d
      → (c : Chunk) × (chunk_in (known_image i (engine_prefix k (log_of w))) line unit ≡ Some c)
  known_before k from inside d is_known =
      let its = split_then (λ (cs : List Chunk). slice_get cs line) (slice_get (known_image i (log_of w)).units unit) d is_known in
      let below : unit < length (known_image i (log_of w)).units = get_below (known_image i (log_of w)).units unit its.0 its.1 in
      let count : length (known_image i (log_of w)).units ≡ length i.units = length_known i (log_of w) in
      let has = got_within i.units unit (omega arith) in
      by has.0 has.1
    where
      by : (start_chunks : List Chunk) → slice_get i.units unit ≡ Some start_chunks
          → (c : Chunk) × (chunk_in (known_image i (engine_prefix k (log_of w))) line unit ≡ Some c)
      by start_chunks has =
          let now : IsToldAt start_chunks has (length log) = told_now start_chunks has in
          let then_ : IsToldAt start_chunks has k = told_at start_chunks has k (omega arith) inside in
          let was = still_there i (log_of w) line unit now.number then_.number d (sym (known_then start_chunks has now) ∙ is_known) in
          (was.0, known_at start_chunks has k (omega arith) then_ ∙ was.1)

  -- ---- a chunk that is over

  module _ (c : Chunk) (over : is_over_state false c.state ≡ true) where
    one_event : (y : ℕ) (l : Logged) → slice_get (log_of w (suc unit)) y ≡ Some l
        → (slice_index o.knows (suc unit) ≤ y) ⊎ (is_empty_state c.state ≡ true)
        → chunk_after i (log_of w) line unit y ≡ Some c → chunk_after i (log_of w) line unit (suc y) ≡ Some c
    one_event y l there from now = go (nat_eq d.event.chunk line) refl
      where
        d : IsDeed i w unit y l
        d = deed i w unit y l mount.legal there

        found : d.event.chunk ≡ line → d.found ≡ c
        found its = same_Some d.found c (sym d.there ∙ ap (λ k. chunk_after i (log_of w) k unit y) its ∙ now)

        empty : (slice_index o.knows (suc unit) ≤ y) ⊎ (is_empty_state c.state ≡ true) → d.event.chunk ≡ line → d.event.command ≡ Reset
            → is_empty_state c.state ≡ true
        empty (inr e) its is = e
        empty (inl low) its is = empty_at_reset i w mount.legal b.0 b.1 unit line o is_open y l there d low c now
            (reset i w mount.legal unit y l there d is) its

        by_command : d.event.chunk ≡ line → (command : ChunkCommand) → d.event.command ≡ command → chunk_after i (log_of w) line unit (suc y) ≡ Some c
        by_command its (Write at blocks) is =
            let outcome : IsOutcome i.shape c (Write at blocks) d.event.outcome =
            subst (λ x. IsOutcome i.shape c x d.event.outcome) is (subst (λ x. IsOutcome i.shape x d.event.command d.event.outcome) (found its) d.outcome) in
            stop_leaves i w unit y l d (over_refuses i.shape c at blocks d.event.outcome over outcome) line ∙ now
        by_command its (Read at) is = fetch_leaves i w unit y l d at is line ∙ now
        by_command its Reset is =
            empty_stays i w mount.legal unit y l there d (ap (λ (x : Chunk). is_empty_state x.state) (found its) ∙ empty from its is) (ap is_program is) line
            ∙ now

        go : (t : Bool) → nat_eq d.event.chunk line ≡ t → chunk_after i (log_of w) line unit (suc y) ≡ Some c
        go true same = by_command (eqb-true d.event.chunk line same) d.event.command refl
        go false other = d.others line (eqb-false d.event.chunk line other) ∙ now

    stays : (n m : ℕ) → (slice_index o.knows (suc unit) ≤ n) ⊎ (is_empty_state c.state ≡ true) → n + m ≤ length (log_of w (suc unit))
        → chunk_after i (log_of w) line unit n ≡ Some c → chunk_after i (log_of w) line unit (n + m) ≡ Some c
    stays n zero from inside now = let same : n + 0 ≡ n = omega arith in ap (chunk_after i (log_of w) line unit) same ∙ now
    stays n (suc m) from inside now =
        let next : n + suc m ≡ suc (n + m) = omega arith in
        let at = got_within own (n + m) (omega arith) in
        ap (chunk_after i (log_of w) line unit) next
        ∙ one_event (n + m) at.0 at.1 (later from) (stays n m from (omega arith) now)
      where
        later : (slice_index o.knows (suc unit) ≤ n) ⊎ (is_empty_state c.state ≡ true)
            → (slice_index o.knows (suc unit) ≤ n + m) ⊎ (is_empty_state c.state ≡ true)
        later (inl low) = inl (omega arith)
        later (inr empty) = inr empty

    -- it is known so from then on
    pub over_since : (k : ℕ) → o.number < k → k ≤ length (log_of w 0) → chunk_in (known_image i (engine_prefix k (log_of w))) line unit ≡ Some c
        → chunk_in (known_image i (log_of w)) line unit ≡ Some c
    over_since k from inside is_known =
        let its = split_then (λ (cs : List Chunk). slice_get cs line) (slice_get (known_image i (engine_prefix k (log_of w))).units unit) c is_known in
        let below : unit < length (known_image i (engine_prefix k (log_of w))).units =
        get_below (known_image i (engine_prefix k (log_of w))).units unit its.0 its.1 in
        let count : length (known_image i (engine_prefix k (log_of w))).units ≡ length i.units = length_known i (engine_prefix k (log_of w)) in
        let has = got_within i.units unit (omega arith) in
        by has.0 has.1
      where
        by : (start_chunks : List Chunk) → slice_get i.units unit ≡ Some start_chunks → chunk_in (known_image i (log_of w)) line unit ≡ Some c
        by start_chunks has =
            let then_ : IsToldAt start_chunks has k = told_at start_chunks has k (omega arith) inside in
            let left : chunk_after i (log_of w) line unit then_.number ≡ Some c = sym (known_at start_chunks has k (omega arith) then_) ∙ is_known in
            let more : k + (length log - k) ≡ length log = omega arith in
            let now = known_later i w mount.legal b.0 b.1 unit line start_chunks has k (length log - k) then_.number (omega arith) then_.is in
            let later : IsToldAt start_chunks has (length log) = record {
              first = then_.first;
              at_first = then_.at_first;
              number = now.0;
              later = (let one : then_.first ≤ then_.number = then_.later in omega (arith, now.1));
              is = subst (λ n. Known start_chunks has n now.0) more now.2;
            } in
            let far : then_.number + (now.0 - then_.number) ≡ now.0 = omega (arith, now.1) in
            let inside_now : now.0 ≤ length own = later.is.inside in
            known_then start_chunks has later ∙ ap (chunk_after i (log_of w) line unit) (sym far)
            ∙ stays then_.number (now.0 - then_.number) (from_opening start_chunks has k then_ c left) (omega arith) left

    pub over_stands : chunk_in (known_image i (log_of w)) line unit ≡ Some c → chunk_in (media i (log_of w)) line unit ≡ Some c
    over_stands is_known =
        let t : IsToldOf c = told_as c is_known in
        let inside : t.number ≤ length own = t.inside in
        let far : t.number + (length own - t.number) ≡ length own = omega arith in
        chunk_of_media i (log_of w) line unit ∙ ap (chunk_after i (log_of w) line unit) (sym far)
        ∙ stays t.number (length own - t.number) t.from (omega arith) t.left
