-- From the opening of a line on its units stay: by what the engine was told and on the media, no
-- chunk of it goes Offline.
use Rattle.std.proofs.Common.{◌≡◌, ℕ, ◌+◌, ◌-◌, ◌<◌, ◌≤◌, ◌⊎◌, inl, inr, suc, zero, nat_eq, Bool, true, false, Some, None, Option, List, length, take, refl, sym, subst, ap, ap₂, ◌∙◌, arith}
use Rattle.std.specs.Prelude.{slice_get, slice_index}
use Rattle.std.specs.Option.{option_and_then, option_map}
use Rattle.std.proofs.lemmas.Bool.{cases_lt, eqb-true, eqb-false}
use Rattle.std.proofs.lemmas.Option.{none-some, same_Some}
use Rattle.pblk_model.specs.Chunk.{Chunk}
use Rattle.pblk_model.specs.ChunkStep.{ChunkCommand, Write, Read, Reset}
use Rattle.pblk_model.specs.UnitLog.{IsOutcome, after_log, after_outcome}
use Rattle.pblk_model.specs.Image.{Image, is_online_in, line_units, width}
use Rattle.pblk_model.proofs.UnitLogLemmas.{read_leaves}
use Rattle.pblk_laws.specs.LineBlocks.{chunk_in}
use Rattle.pblk_laws.proofs.LineUnits.{line_units_count}
use Rattle.pblk_world.specs.Events.{Event, Decides, Landed, Lost, ResetDone, Logged}
use Rattle.pblk_world.specs.World.{World, Logs, log_of, known, cut_logs, media, unit_events}
use Rattle.pblk_world.specs.EngineLog.{Begun, begun, Opened, Opening, life_of}
use Rattle.pblk_world.specs.Lines.{found_by, found_image, is_empty_state, known_image, told_by, told_events}
use Rattle.pblk_world.specs.Commanding.{is_program}
use Rattle.pblk_world.specs.Legal.{IsLegal}
use Rattle.pblk_world.specs.Victims.{engine_prefix}
use Rattle.pblk_world.proofs.EngineLogLemmas.{begun_knows, begun_taken}
use Rattle.pblk_world.proofs.LinesLemmas.{length_known}
use Rattle.pblk_world.proofs.WorldLemmas.{length_media, media_at}
use Rattle.pblk_model.proofs.Maps.{made_alike, numbered_at}
use Rattle.pblk_model.proofs.Parts.{get_below, got_within}
use Rattle.world_laws.proofs.Openings.{opened_at}
use Rattle.world_laws.specs.UnitChunks.{NoProgram, chunk_after, first_events}
use Rattle.world_laws.proofs.FirstEvent.{IsBeginning, beginning_of}
use Rattle.world_laws.proofs.Deeds.{IsDeed, deed}
use Rattle.world_laws.proofs.FoundEmpty.{known_is_empty}
use Rattle.world_laws.proofs.KnownChunks.{IsKnownTo, known_first, known_later}
use Rattle.world_laws.proofs.KnownEmpty.{told_chunk, told_first}
use Rattle.world_laws.proofs.LastUses.{IsOfChunk}
use Rattle.world_laws.proofs.NamedPrefixes.{was_made}
use Rattle.world_laws.proofs.MediaChunks.{chunk_of_media}
use Rattle.world_laws.proofs.OnlineUnits.{is_on, online_after_write, same_units}
use Rattle.world_laws.proofs.OpenedChunks.{base, empty_at_reset, named, opening, since}
use Rattle.world_laws.proofs.OpenedEmpty.{early_going, early_named}
use Rattle.world_laws.proofs.Resets.{IsReset, empty_stays, empty_until, reset}
use Rattle.world_laws.proofs.ToldBefore.{IsCommandOf}
use Rattle.world_laws.proofs.UnitChunks.{still_there}

-- what the mount began with is within each log
pub begun_within : (i : Image) (w : World) (legal : IsLegal i w) (b : Begun) → begun (log_of w 0) ≡ Some b → (unit : ℕ)
    → slice_index b.knows (suc unit) ≤ length (log_of w (suc unit))
begun_within i w legal b begins unit =
    let first : IsBeginning i w b = beginning_of i w b legal begins in
    subst (λ (ks : List ℕ). slice_index ks (suc unit) ≤ length (log_of w (suc unit))) first.knows
    ((was_made i w 0 0 first.logged legal first.there).within (suc unit))

module _ (i : Image) (w : World) (legal : IsLegal i w) (b : Begun) (begins : begun (log_of w 0) ≡ Some b) (unit line : ℕ)
    (o : Opening) (is_open : life_of (log_of w 0) line ≡ Opened o) where
  abbrev log : List Logged
  log = log_of w 0

  abbrev own : List Logged
  own = log_of w (suc unit)

  module _ (start_chunks : List Chunk) (has : slice_get i.units unit ≡ Some start_chunks) where
    abbrev Known : ℕ → ℕ → Type 0
    Known k n = IsKnownTo i w legal b begins unit line start_chunks has k n

    -- how far the unit's log was told when the line was opened
    pub at_opening : (n : ℕ) × Known o.number n
    at_opening =
        let h = since i w legal b begins unit line o is_open in
        let inside : o.number < length log = get_below log o.number h.logged h.there in
        let same : 0 + o.number ≡ o.number = omega arith in
        let at = known_later i w legal b begins unit line start_chunks has 0 o.number (slice_index b.knows (suc unit)) (omega arith)
        (known_first i w legal b begins unit line start_chunks has (begun_within i w legal b begins unit)) in
        (at.0, subst (λ k. Known k at.0) same at.2)

    module _ (n : ℕ) (at : Known o.number n) where
      -- the chunk was empty then
      empty : (c : Chunk) → chunk_after i (log_of w) line unit n ≡ Some c → is_empty_state c.state ≡ true
      empty c there =
          let h = since i w legal b begins unit line o is_open in
          known_is_empty i w legal b begins unit line o.number o.start h.logged (opening i w legal b begins unit line o is_open) start_chunks has c
          (at.same ∙ there)

      -- nothing was programmed in it after that and before what the opening names
      none_before : NoProgram (log_of w) line unit n (base i w legal b begins unit line o is_open)
      none_before y x e from below there is its = go (is_program e.command) refl
        where
          go : (t : Bool) → is_program e.command ≡ t → is_program e.command ≡ false
          go false none = none
          go true program =
              let h = since i w legal b begins unit line o is_open in
              let d = opening i w legal b begins unit line o is_open in
              let low : slice_index b.knows (suc unit) ≤ n = at.from in
              let same : known h.logged (suc unit) ≡ base i w legal b begins unit line o is_open = named i w legal b begins unit line o is_open in
              let command : IsOfChunk i w legal unit line is_program y x e =
              record { there = there; is_event = is; its_chunk = its; passes = program } in
              let it : IsCommandOf i w legal b begins unit line is_program y x e =
              record {
                from = omega arith;
                at = command;
                going = early_going i w legal b begins unit line o.number o.start h.logged d y x e (omega arith) (omega arith) command;
              } in
              let told = early_named i w legal b begins unit line o.number o.start h.logged d y x e (omega arith) it in
              let before : y < n = at.within told.0 y x e told.1 told.2 (inl it) in
              absurd (omega arith)

      -- ---- one event

      module _ (y : ℕ) (l : Logged) (there : slice_get (log_of w (suc unit)) y ≡ Some l) (d : IsDeed i w unit y l) (from : n ≤ y) (c : Chunk)
          (now : chunk_after i (log_of w) line unit y ≡ Some c) where
        record IsAsOnline : Type 0 where
          chunk : Chunk
          next : chunk_after i (log_of w) line unit (suc y) ≡ Some chunk
          online : is_online_in chunk.state ≡ is_online_in c.state

        stays : chunk_after i (log_of w) line unit (suc y) ≡ chunk_after i (log_of w) line unit y → IsAsOnline
        stays same = record { chunk = c; next = same ∙ now; online = refl }

        reset_empty : IsReset i w legal unit y l there d → d.event.chunk ≡ line → is_empty_state c.state ≡ true
        reset_empty r its = go (cases_lt y (base i w legal b begins unit line o is_open))
          where
            go : (y < base i w legal b begins unit line o is_open) ⊎ (base i w legal b begins unit line o is_open ≤ y) → is_empty_state c.state ≡ true
            go (inr after) = empty_at_reset i w legal b begins unit line o is_open y l there d after c now r its
            go (inl before) =
                let inside : y < length own = get_below own y l there in
                let was = still_there i (log_of w) line unit y n c now in
                let far : n + (y - n) ≡ y = omega arith in
                let same : chunk_after i (log_of w) line unit (n + (y - n)) ≡ Some was.0 =
                empty_until i w legal unit line n (y - n) was.0 (omega arith) was.1 (empty was.0 was.1)
                (λ m x e low high. none_before m x e low (omega arith)) in
                ap (λ (x : Chunk). is_empty_state x.state)
                (same_Some c was.0 (sym now ∙ ap (chunk_after i (log_of w) line unit) (sym far) ∙ same)) ∙ empty was.0 was.1

        module _ (its : d.event.chunk ≡ line) where
          found : d.found ≡ c
          found = same_Some d.found c (sym d.there ∙ ap (λ k. chunk_after i (log_of w) k unit y) its ∙ now)

          left : chunk_after i (log_of w) line unit (suc y) ≡ Some (after_outcome i.shape c d.event.command d.event.outcome)
          left = ap (λ k. chunk_after i (log_of w) k unit (suc y)) (sym its) ∙ d.left
              ∙ ap (λ x. Some (after_outcome i.shape x d.event.command d.event.outcome)) found

          by_command : (command : ChunkCommand) → d.event.command ≡ command → IsAsOnline
          by_command (Write at blocks) is = record {
            chunk = after_outcome i.shape c (Write at blocks) d.event.outcome;
            next = left ∙ ap (λ x. Some (after_outcome i.shape c x d.event.outcome)) is;
            online = online_after_write i.shape c at blocks d.event.outcome
                (subst (λ x. IsOutcome i.shape c x d.event.outcome) is (subst (λ x. IsOutcome i.shape x d.event.command d.event.outcome) found d.outcome));
          }
          by_command (Read at) is = stays (left ∙ ap (λ x. Some (after_outcome i.shape c x d.event.outcome)) is
              ∙ ap (λ x. Some x) (read_leaves i.shape c at d.event.outcome) ∙ sym now)
          by_command Reset is =
              let full : is_empty_state c.state ≡ true = reset_empty (reset i w legal unit y l there d is) its in
              stays (empty_stays i w legal unit y l there d (ap (λ (x : Chunk). is_empty_state x.state) found ∙ full) (ap is_program is) line)

        online_next : IsAsOnline
        online_next = go (nat_eq d.event.chunk line) refl
          where
            go : (t : Bool) → nat_eq d.event.chunk line ≡ t → IsAsOnline
            go true same = by_command (eqb-true d.event.chunk line same) d.event.command refl
            go false other = stays (d.others line (eqb-false d.event.chunk line other))

      online_until : (d : ℕ) → n + d ≤ length (log_of w (suc unit))
          → is_on (chunk_after i (log_of w) line unit (n + d)) ≡ is_on (chunk_after i (log_of w) line unit n)
      online_until zero inside = let same : n + 0 ≡ n = omega arith in ap (λ m. is_on (chunk_after i (log_of w) line unit m)) same
      online_until (suc d) inside =
          let next : n + suc d ≡ suc (n + d) = omega arith in
          let event = got_within (log_of w (suc unit)) (n + d) (omega arith) in
          ap (λ m. is_on (chunk_after i (log_of w) line unit m)) next
          ∙ go event.0 event.1 (chunk_after i (log_of w) line unit (n + d)) refl ∙ online_until d (omega arith)
        where
          go : (l : Logged) → slice_get (log_of w (suc unit)) (n + d) ≡ Some l → (x : Option Chunk) → chunk_after i (log_of w) line unit (n + d) ≡ x
              → is_on (chunk_after i (log_of w) line unit (suc (n + d))) ≡ is_on (chunk_after i (log_of w) line unit (n + d))
          go l at (Some c) now =
              let one = online_next (n + d) l at (deed i w unit (n + d) l legal at) (omega arith) c now in
              ap is_on one.next ∙ one.online ∙ ap is_on (sym now)
          go l at None now = by (chunk_after i (log_of w) line unit (suc (n + d))) refl ∙ ap is_on (sym now)
            where
              by : (x : Option Chunk) → chunk_after i (log_of w) line unit (suc (n + d)) ≡ x → is_on (chunk_after i (log_of w) line unit (suc (n + d))) ≡ false
              by None none = ap is_on none
              by (Some c) there =
                  let was = still_there i (log_of w) line unit (suc (n + d)) (n + d) c there in
                  absurd (none-some was.0 (sym now ∙ was.1))

    -- as it was known at the opening, so it is at each later length of the engine's log, and on the
    -- media
    pub online_told : (k : ℕ) → o.number ≤ k → k ≤ length log
        → is_on (told_chunk i.shape (log_of w) (after_log i.shape start_chunks (first_events (log_of w) unit (slice_index b.knows (suc unit)))) line unit k)
        ≡ is_on (chunk_after i (log_of w) line unit (length (log_of w (suc unit))))
    online_told k from inside =
        let at = at_opening in
        let far : o.number + (k - o.number) ≡ k = omega arith in
        let then_ = known_later i w legal b begins unit line start_chunks has o.number (k - o.number) at.0 (omega arith) at.1 in
        let known_then : Known k then_.0 = subst (λ x. Known x then_.0) far then_.2 in
        let here : at.0 + (then_.0 - at.0) ≡ then_.0 = omega (arith, then_.1) in
        let last : at.0 ≤ length own = at.1.inside in
        let end : at.0 + (length own - at.0) ≡ length own = omega arith in
        let within : then_.0 ≤ length own = known_then.inside in
        ap is_on known_then.same ∙ ap (λ m. is_on (chunk_after i (log_of w) line unit m)) (sym here)
        ∙ online_until at.0 at.1 (then_.0 - at.0) (omega arith)
        ∙ sym (online_until at.0 at.1 (length own - at.0) (omega arith)) ∙ ap (λ m. is_on (chunk_after i (log_of w) line unit m)) end

-- ---- the units of the line in an image

module _ (i : Image) (w : World) (legal : IsLegal i w) (b : Begun) (begins : begun (log_of w 0) ≡ Some b) where
  abbrev then_logs : ℕ → Logs
  then_logs k = engine_prefix k (log_of w)

  told_there : (k unit : ℕ) → told_events (then_logs k) unit ≡ told_first (log_of w) unit k
  told_there k unit = made_alike (λ (l : Logged). told_by (then_logs k) unit l.event) (λ (l : Logged). told_by (log_of w) unit l.event) (take k (log_of w 0))
      (λ q l there. go l.event)
    where
      go : (e : Event) → told_by (then_logs k) unit e ≡ told_by (log_of w) unit e
      go (Decides (Landed other event)) = refl
      go (Decides (Lost other event)) = refl
      go (Decides (ResetDone other event)) = refl
      go e = refl

  module _ (unit line : ℕ) (start_chunks : List Chunk) (has : slice_get i.units unit ≡ Some start_chunks) where
    abbrev cs : List Chunk
    cs = after_log i.shape start_chunks (first_events (log_of w) unit (slice_index b.knows (suc unit)))

    found_there : (k : ℕ) → 0 < k → slice_get (found_image i (then_logs k)).units unit ≡ Some cs
    unfolding first_events
    found_there k some = ap (λ o. slice_get (found_by i (then_logs k) o).units unit) (begun_taken k (log_of w 0) some ∙ begins)
        ∙ media_at i (cut_logs b.knows (then_logs k)) unit
        ∙ ap (option_map (λ (xs : List Chunk). after_log i.shape xs (unit_events (cut_logs b.knows (then_logs k)) unit))) has

    -- the unit's chunk of the line as it is known at a length of the engine's log
    pub chunk_known : (k : ℕ) → 0 < k → chunk_in (known_image i (engine_prefix k (log_of w))) line unit
        ≡ told_chunk i.shape (log_of w) (after_log i.shape start_chunks (first_events (log_of w) unit (slice_index b.knows (suc unit)))) line unit k
    unfolding told_chunk
    chunk_known k some =
        let same : 0 + unit ≡ unit = omega arith in
        ap (option_and_then (λ (xs : List Chunk). slice_get xs line))
        (numbered_at (λ (u : ℕ × List Chunk). after_log i.shape u.1 (told_events (then_logs k) u.0)) 0 (found_image i (then_logs k)).units unit
        ∙ ap₂ (λ (o : Option (List Chunk)) n. option_map (λ (xs : List Chunk). after_log i.shape xs (told_events (then_logs k) n)) o)
        (found_there k some) same
        ∙ ap (λ es. Some (after_log i.shape cs es)) (told_there k unit))

  -- from its opening on an opened line has the units that it has on the media
  pub units_of_life : (line : ℕ) (o : Opening) → life_of (log_of w 0) line ≡ Opened o → (k : ℕ) → o.number ≤ k → k ≤ length (log_of w 0)
      → line_units (known_image i (engine_prefix k (log_of w))) line ≡ line_units (media i (log_of w)) line
  units_of_life line o is_open k from inside =
      let h = since i w legal b begins 0 line o is_open in
      let d = opening i w legal b begins 0 line o is_open in
      let some : 0 < o.number = begun_knows o.number (log_of w 0) d.allowed.0 (ap begun (sym d.own) ∙ d.allowed.1) in
      let known_count : length (known_image i (then_logs k)).units ≡ length i.units = length_known i (then_logs k) in
      let media_count : length (media i (log_of w)).units ≡ length i.units = length_media i (log_of w) in
      same_units (known_image i (then_logs k)) (media i (log_of w)) line (known_count ∙ sym media_count)
      (λ unit below.
      let has = got_within i.units unit (omega arith) in
      ap is_on (chunk_known unit line has.0 has.1 k (omega arith)) ∙ online_told i w legal b begins unit line o is_open has.0 has.1 k from inside
      ∙ ap is_on (sym (chunk_of_media i (log_of w) line unit)))

  -- and its width is that of its start record
  pub width_of_life : (line : ℕ) (o : Opening) → life_of (log_of w 0) line ≡ Opened o → o.start.width ≡ width (media i (log_of w)) line
  width_of_life line o is_open =
      let h = since i w legal b begins 0 line o is_open in
      let inside : o.number < length (log_of w 0) = get_below (log_of w 0) o.number h.logged h.there in
      let may = opened_at i w o.number line o.start h.logged legal h.there h.event in
      may.2.own_width ∙ sym (line_units_count (known_image i (then_logs o.number)) line)
      ∙ ap length (units_of_life line o is_open o.number (omega arith) (omega arith)) ∙ line_units_count (media i (log_of w)) line
