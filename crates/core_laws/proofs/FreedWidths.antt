-- A line that has a sequence number, once nothing more is written to it: its width is the one that
-- the engine knows, and some chunk of it is neither Free nor Offline.
use Rattle.std.proofs.Common.{◌≡◌, ℕ, ◌+◌, ◌-◌, ◌<◌, ◌≤◌, ◌==◌, ◌&&◌, zero, suc, not, Bool, true, false, cond, Some, None, Option, List, [], ◌∷◌, length, refl, sym, subst, ap, ◌∙◌, arith, if◌then◌else◌}
use Rattle.std.specs.Prelude.{slice_get, slice_index}
use Rattle.std.specs.List.{filter, filter_map, flat_map, list_all, list_any, range_with_len}
use Rattle.std.specs.Option.{is_some, option_and_then, option_map, option_map_or}
use Rattle.std.proofs.lemmas.Option.{none-some, slice_get_past}
use Rattle.std.proofs.Math.Seq.{take-length}
use Rattle.pblk_model.specs.declared.shape.Shape.{Shape}
use Rattle.pblk_model.specs.declared.chunk.ChunkState.{ChunkState}
use Rattle.pblk_model.specs.declared.chunk.ChunkState.TheVariants as states
use Rattle.pblk_model.specs.Chunk.{Block, Chunk}
use Rattle.pblk_model.specs.Image.{Image, block_at, is_online_in, width}
use Rattle.pblk_model.specs.LineOrder.{data_len, start_len}
use Rattle.pblk_model.specs.StartRecord.{StartRecord, marked_start, read_start, start_of, written_run}
use Rattle.pblk_model.proofs.LeastLengths.{start_len_positive}
use Rattle.pblk_laws.specs.LineBlocks.{chunk_in, written_at}
use Rattle.pblk_laws.proofs.LineUnits.{line_units_count}
use Rattle.pblk_world.specs.World.{World, Logs, log_of, media}
use Rattle.pblk_world.specs.EngineLog.{AsFound, Begun, begun, Freed, LineLife, is_as_found, life_of, Opened, Opening}
use Rattle.pblk_world.specs.Lines.{are_empty, are_over, found_by, found_image, is_empty_state, is_given_up, is_given_up_by, is_over_state, is_stray, known_image, stray_lines, strays_of, place_of}
use Rattle.pblk_world.specs.Starts.{seq_in, seq_of}
use Rattle.pblk_world.specs.Victims.{engine_prefix}
use Rattle.pblk_world.proofs.EngineLogLemmas.{begun_knows}
use Rattle.pblk_world.proofs.LinesLemmas.{length_found, length_known}
use Rattle.pblk_world.proofs.VictimsLemmas.{whole_prefix}
use Rattle.pblk_model.proofs.Lists.{all_imply}
use Rattle.pblk_model.proofs.Maps.{all_passed, any_fail}
use Rattle.pblk_model.proofs.Options.{map_some, split_then}
use Rattle.pblk_model.proofs.Parts.{none_past}
use Rattle.pblk_model.proofs.Tests.{first_of, no_both, not_true, same, second_of}
use Rattle.pblk_world.specs.LegalMounts.{IsLegalMount}
use Rattle.world_laws.specs.SameImages.{IsSameLine}
use Rattle.world_laws.specs.UnitChunks.{chunk_after}
use Rattle.world_laws.proofs.FoundImages.{found_strays}
use Rattle.world_laws.proofs.FoundStates.{some_used}
use Rattle.world_laws.proofs.KeptChunks.{found_stays}
use Rattle.world_laws.proofs.KnownChunks.{IsKnownTo, known_first, known_later}
use Rattle.world_laws.proofs.LifeBlocks.{no_blocks}
use Rattle.world_laws.proofs.LifePlaces.{units_now, width_now}
use Rattle.world_laws.proofs.LifeUnits.{begun_within, chunk_known}
use Rattle.world_laws.proofs.LineBlocks.{block_placed}
use Rattle.world_laws.proofs.LineStripes.{some_data}
use Rattle.world_laws.proofs.LostImages.{line_kept}
use Rattle.world_laws.proofs.MediaChunks.{chunk_of_found}
use Rattle.world_laws.proofs.UnitLogs.{chunk_fits}
use Rattle.core_laws.specs.RowsOf.{width_in}
use Rattle.core_laws.proofs.LandedNow.{opened_now}
use Rattle.core_laws.proofs.OpenedRows.{has_width}
use Rattle.pblk_model.proofs.Tests.{lt_true}

-- ---- chunks

-- one that is online and to which nothing more is written is neither Free nor Offline
over_used : (cs : List Chunk) → list_all (λ (c : Chunk). is_over_state false c.state) cs ≡ true → 0 < length (filter (λ (c : Chunk). is_online_in c.state) cs)
    → list_all (λ (c : Chunk). is_empty_state c.state) cs ≡ false
over_used [] over some = absurd (omega arith)
over_used (c ∷ cs) over some =
    go c.state (first_of (is_over_state false c.state) rest over) some (over_used cs (second_of (is_over_state false c.state) rest over))
  where
    rest : Bool
    rest = list_all (λ (c : Chunk). is_over_state false c.state) cs

    go : (state : ChunkState) → is_over_state false state ≡ true
        → 0 < length (cond (is_online_in state) (c ∷ filter (λ (c : Chunk). is_online_in c.state) cs) (filter (λ (c : Chunk). is_online_in c.state) cs))
        → (0 < length (filter (λ (c : Chunk). is_online_in c.state) cs) → list_all (λ (c : Chunk). is_empty_state c.state) cs ≡ false)
        → (is_empty_state state && list_all (λ (c : Chunk). is_empty_state c.state) cs) ≡ false
    go states.Free one more further = absurd cc
    go states.Open one more further = absurd cc
    go states.Closed one more further = refl
    go states.Offline one more further = further more

module _ (i : Image) (w : World) (mount : IsLegalMount i w) (line : ℕ) where
  abbrev known : Image
  known = known_image i (log_of w)

  abbrev found : Image
  found = found_image i (log_of w)

  -- ---- a line that was opened

  module _ (o : Opening) (is_open : life_of (log_of w 0) line ≡ Opened o) where
    pub opened_width : o.start.width ≡ width (known_image i (log_of w)) line
    opened_width =
        let its : o.line ≡ line = (opened_now i w mount line o is_open).1 in
        let life : life_of (log_of w 0) o.line ≡ Opened o = ap (life_of (log_of w 0)) its ∙ is_open in
        width_now i w mount o life ∙ sym (line_units_count (media i (log_of w)) o.line) ∙ ap length (sym (units_now i w mount o life))
        ∙ line_units_count known o.line
        ∙ ap (width known) its

    opened_used : are_over i (log_of w) line ≡ true → are_empty (known_image i (log_of w)) line ≡ false
    opened_used over =
        let some : 0 < o.start.width =
        has_width i.shape o.start.width (lt_true 0 (data_len i.shape o.start.width) (some_data i w o mount.legal (opened_now i w mount line o is_open).0)) in
        over_used (filter_map (λ (unit : List Chunk). slice_get unit line) known.units)
        (ap (λ (life : LineLife). list_all (λ (c : Chunk). is_over_state (is_as_found life) c.state)
        (filter_map (λ (unit : List Chunk). slice_get unit line) known.units)) (sym is_open) ∙ over) (subst (λ n. 0 < n) opened_width some)

  -- ---- a line as it was found

  module _ (b : Begun) (begins : begun (log_of w 0) ≡ Some b) (is_found : life_of (log_of w 0) line ≡ AsFound) (start : StartRecord)
      (starts : start_of (found_image i (log_of w)) line ≡ Some start) where
    -- a line with a start record is no stray
    no_stray : list_any (λ stray. stray == line) b.beginning.strays ≡ false
    no_stray =
        ap (list_any (λ stray. stray == line)) (found_strays i w b mount.legal begins) ∙ any_fail (λ stray. stray == line) (stray_lines found)
        (all_imply (λ x. is_stray found x ≡ true) (λ x. (x == line) ≡ false) (λ x stray. other x stray (x == line) refl) (stray_lines found)
        (all_passed (is_stray found) (range_with_len 0 found.shape.chunks)))
      where
        other : (x : ℕ) → is_stray (found_image i (log_of w)) x ≡ true → (b : Bool) → (x == line) ≡ b → b ≡ false
        other x stray false e = refl
        other x stray true e =
            let none : is_some (start_of found x) ≡ false =
            not_true (is_some (start_of found x)) (first_of (not (is_some (start_of found x))) (not (are_empty found x)) stray) in
            no_both (is_some (start_of found line)) (ap is_some starts) (ap (λ n. is_some (start_of found n)) (sym (same x line e)) ∙ none)

    -- each chunk of it is known as it was found, at each length of the engine's log
    stands_at : (k : ℕ) → 0 < k → k ≤ length (log_of w 0) → (unit : ℕ)
        → chunk_in (known_image i (engine_prefix k (log_of w))) line unit ≡ chunk_in (found_image i (log_of w)) line unit
    stands_at k some within unit = go (slice_get i.units unit) refl
      where
        then_ : Logs
        then_ = engine_prefix k (log_of w)

        none_there : (j : Image) → length j.units ≡ length i.units → slice_get i.units unit ≡ None → chunk_in j line unit ≡ None
        none_there j count none = ap (option_and_then (λ (cs : List Chunk). slice_get cs line)) (past j.units (omega (arith, none_past i.units unit none)))
          where
            past : {X : Type 0} (xs : List X) → length xs ≤ unit → slice_get xs unit ≡ None
            past xs few = slice_get_past xs unit few

        go : (cs : Option (List Chunk)) → slice_get i.units unit ≡ cs
            → chunk_in (known_image i (engine_prefix k (log_of w))) line unit ≡ chunk_in (found_image i (log_of w)) line unit
        go None none = none_there (known_image i then_) (length_known i then_) none
            ∙ sym (none_there found (length_found i (log_of w) (begun (log_of w 0))) none)
        go (Some cs) has =
            let base : ℕ = slice_index b.knows (suc unit) in
            let none_left : 0 + k ≡ k = omega arith in
            let told = known_later i w mount.legal b begins unit line cs has 0 k (slice_index b.knows (suc unit)) (omega arith)
            (known_first i w mount.legal b begins unit line cs has (begun_within i w mount.legal b begins unit)) in
            let at : IsKnownTo i w mount.legal b begins unit line cs has k told.0 =
            subst (λ n. IsKnownTo i w mount.legal b begins unit line cs has n told.0) none_left told.2 in
            let later : base ≤ told.0 = told.1 in
            let inside : told.0 ≤ length (log_of w (suc unit)) = at.inside in
            let far : base + (told.0 - base) ≡ told.0 = omega arith in
            chunk_known i w mount.legal b begins unit line cs has k some ∙ at.same
            ∙ ap (chunk_after i (log_of w) line unit) (sym far)
            ∙ found_stays i w mount.legal b begins unit line is_found no_stray (told.0 - base) (omega arith)
            ∙ sym (chunk_of_found i (log_of w) b line unit begins)

    stands : (unit : ℕ) → chunk_in (known_image i (log_of w)) line unit ≡ chunk_in (found_image i (log_of w)) line unit
    stands unit =
        let all : ℕ = length (log_of w 0) in
        let some : 0 < all = begun_knows all (log_of w 0) b (ap begun (take-length (log_of w 0)) ∙ begins) in
        ap (λ (logs : Logs). chunk_in (known_image i logs) line unit) (sym (whole_prefix (log_of w))) ∙ stands_at all some (omega arith) unit

    same_shape : (found_image i (log_of w)).shape ≡ i.shape
    same_shape = go (begun (log_of w 0))
      where
        go : (o : Option Begun) → (found_by i (log_of w) o).shape ≡ i.shape
        go None = refl
        go (Some c) = refl

    same_line : IsSameLine (found_image i (log_of w)) (known_image i (log_of w)) line
    same_line = line_kept found known line (sym same_shape) (length_known i (log_of w) ∙ sym (length_found i (log_of w) (begun (log_of w 0)))) stands

    -- a block of its start record
    record HasBlock : Type 0 where
      unit : ℕ
      chunk : Chunk
      there : chunk_in (known_image i (log_of w)) line unit ≡ Some chunk
      at : ℕ
      block : Block
      is_block : slice_get chunk.blocks at ≡ Some block

    first_block : (n : ℕ) → 0 < n → (bs : List Block) → written_run (found_image i (log_of w)) line 0 n ≡ Some bs
        → (block : Block) × (block_at (found_image i (log_of w)) line 0 ≡ Some block)
    unfolding written_run
    first_block zero some bs e = absurd (omega arith)
    first_block (suc n) some bs e =
        let at = split_then (λ (block : Block). option_map (λ blocks. block ∷ blocks) (written_run found line (0 + 1) n)) (block_at found line 0) bs e in
        (at.0, at.1)

    has_block : HasBlock
    has_block =
        let run = split_then
        (λ (blocks : List Block). marked_start blocks (read_start found.shape line (width found line) (flat_map (λ (b : Block). b.sector) blocks)))
        (written_run found line 0 (start_len found.shape)) start starts in
        let some : 0 < start_len found.shape = subst (λ (s : Shape). 0 < start_len s) (sym same_shape) (start_len_positive i.shape mount.accepted) in
        let first = first_block (start_len found.shape) some run.0 run.1 in
        let place = split_then (written_at found line) (place_of found line 0) first.0 (sym (block_placed found line 0) ∙ first.1) in
        let chunk = split_then (λ (c : Chunk). slice_get c.blocks place.0.1) (chunk_in found line place.0.0) first.0 place.2 in
        record { unit = place.0.0; chunk = chunk.0; there = stands place.0.0 ∙ chunk.1; at = place.0.1; block = first.0; is_block = chunk.2 }

    found_used : are_empty (known_image i (log_of w)) line ≡ false
    found_used = go has_block
      where
        go : HasBlock → are_empty (known_image i (log_of w)) line ≡ false
        go h = some_used line known.units h.unit h.chunk h.there (used (is_empty_state h.chunk.state) refl)
          where
            used : (t : Bool) → is_empty_state h.chunk.state ≡ t → t ≡ false
            used false e = refl
            used true e =
                let from : chunk_after i (log_of w) line h.unit (slice_index b.knows (suc h.unit)) ≡ Some h.chunk =
                sym (chunk_of_found i (log_of w) b line h.unit begins) ∙ sym (stands h.unit) ∙ h.there in
                absurd (no_blocks h.chunk.state i.shape.clba h.at h.chunk.blocks h.block e
                (chunk_fits i w mount.legal h.unit line (slice_index b.knows (suc h.unit)) h.chunk mount.fit mount.accepted.drive.ws_min
                (begun_within i w mount.legal b begins h.unit) from).place h.is_block)

  -- ---- either

  module _ (b : Begun) (begins : begun (log_of w 0) ≡ Some b) (seq : ℕ) (has_seq : seq_of i (log_of w) line ≡ Some seq) where
    pub numbered_width : width_in i (log_of w) line (life_of (log_of w 0) line) ≡ width (known_image i (log_of w)) line
    numbered_width = go (life_of (log_of w 0) line) refl has_seq
      where
        either : (t : Bool) (n : ℕ) → (if t then n else n) ≡ n
        either true n = refl
        either false n = refl

        go : (life : LineLife) → life_of (log_of w 0) line ≡ life → seq_in i (log_of w) life line ≡ Some seq
            → width_in i (log_of w) line life ≡ width (known_image i (log_of w)) line
        go (Opened o) is e = opened_width o is
        go (Freed was ks) is e = absurd (none-some seq e)
        go AsFound is e =
            let start = map_some (λ (s : StartRecord). s.seq) (start_of found line) seq e in
            ap (λ n. if are_empty known line then width known line else n) (sym (same_line b begins is start.0 start.1).width)
            ∙ either (are_empty known line) (width known line)

    pub numbered_used : are_over i (log_of w) line ≡ true → are_empty (known_image i (log_of w)) line ≡ false
    numbered_used over = go (life_of (log_of w 0) line) refl has_seq
      where
        go : (life : LineLife) → life_of (log_of w 0) line ≡ life → seq_in i (log_of w) life line ≡ Some seq
            → are_empty (known_image i (log_of w)) line ≡ false
        go (Opened o) is e = opened_used o is over
        go (Freed was ks) is e = absurd (none-some seq e)
        go AsFound is e =
            let start = map_some (λ (s : StartRecord). s.seq) (start_of found line) seq e in
            found_used b begins is start.0 start.1

    -- it wasn't given up
    pub not_given_up : is_given_up (log_of w 0) line ≡ false
    not_given_up = go (life_of (log_of w 0) line) refl has_seq
      where
        go : (life : LineLife) → life_of (log_of w 0) line ≡ life → seq_in i (log_of w) life line ≡ Some seq → is_given_up (log_of w 0) line ≡ false
        go (Opened o) is e = ap (is_given_up_by (strays_of (log_of w 0)) line) is
        go (Freed was ks) is e = absurd (none-some seq e)
        go AsFound is e =
            let start = map_some (λ (s : StartRecord). s.seq) (start_of found line) seq e in
            ap (is_given_up_by (strays_of (log_of w 0)) line) is
            ∙ ap (λ (x : Option Begun). list_any (λ stray. stray == line) (option_map_or (λ (y : Begun). y.beginning.strays) x [])) begins
            ∙ no_stray b begins is start.0 start.1

    -- and where it is as it was found, each chunk of it is
    pub numbered_stands : life_of (log_of w 0) line ≡ AsFound → (unit : ℕ)
        → chunk_in (known_image i (log_of w)) line unit ≡ chunk_in (found_image i (log_of w)) line unit
    numbered_stands is unit =
        let start = map_some (λ (s : StartRecord). s.seq) (start_of found line) seq (ap (λ life. seq_in i (log_of w) life line) (sym is) ∙ has_seq) in
        stands b begins is start.0 start.1 unit

    -- also by what was known before
    pub numbered_stands_at : life_of (log_of w 0) line ≡ AsFound → (k : ℕ) → 0 < k → k ≤ length (log_of w 0) → (unit : ℕ)
        → chunk_in (known_image i (engine_prefix k (log_of w))) line unit ≡ chunk_in (found_image i (log_of w)) line unit
    numbered_stands_at is k some within unit =
        let start = map_some (λ (s : StartRecord). s.seq) (start_of found line) seq (ap (λ life. seq_in i (log_of w) life line) (sym is) ∙ has_seq) in
        stands_at b begins is start.0 start.1 k some within unit
