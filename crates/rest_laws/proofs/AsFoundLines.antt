-- A line that is as the mount found it: each chunk is known as it was found, unless the line is a
-- stray. So it is behind each start record of the mount, if it has a sequence number, or else
-- empty.
use Rattle.std.proofs.Common.{◌≡◌, ◌≢◌, ℕ, ◌+◌, ◌-◌, ◌<◌, ◌≤◌, ◌==◌, ◌&&◌, suc, not, Bool, true, false, Some, None, Option, List, [], length, refl, sym, subst, ap, ap₂, ◌∙◌, arith}
use Rattle.std.specs.Prelude.{slice_get, slice_index}
use Rattle.std.specs.List.{AllByRecursion, filter, list_all, list_any, range_with_len}
use Rattle.std.specs.Option.{is_some, option_and_then, option_map, option_map_or}
use Rattle.std.proofs.lemmas.Option.{slice_get_past}
use Rattle.std.proofs.Math.Seq.{take-length}
use Rattle.pblk_model.specs.declared.shape.Shape.{Shape}
use Rattle.pblk_model.specs.declared.chunk.ChunkState.TheVariants as states
use Rattle.pblk_model.specs.Chunk.{Chunk}
use Rattle.pblk_model.specs.Contents.{counted, end, head}
use Rattle.pblk_model.specs.Image.{Image}
use Rattle.pblk_model.specs.Records.{Record}
use Rattle.pblk_model.specs.StartRecord.{StartRecord, start_of}
use Rattle.pblk_laws.specs.LineBlocks.{chunk_in}
use Rattle.pblk_world.specs.EngineLog.{AsFound, Begun, begun, is_as_found, life_of, LineLife}
use Rattle.pblk_world.specs.Lines.{are_empty, are_over, chunks_of, found_by, found_image, is_empty_state, is_given_up, is_given_up_by, is_over_state, is_stray, known_image, next_seq, stray_lines, strays_of}
use Rattle.pblk_world.specs.Starts.{seq_in}
use Rattle.pblk_world.specs.Victims.{positions_in}
use Rattle.pblk_world.specs.World.{World, Logs, log_of}
use Rattle.pblk_world.proofs.EngineLogLemmas.{begun_knows}
use Rattle.pblk_world.proofs.LinesLemmas.{length_found, length_known}
use Rattle.pblk_world.proofs.VictimsLemmas.{whole_prefix}
use Rattle.pblk_model.proofs.Lists.{IsAmong, all_imply, among_all}
use Rattle.pblk_model.proofs.Maps.{all_filter, all_mapped, all_passed, any_fail, any_member, kept_at, range_get}
use Rattle.pblk_model.proofs.Options.{split_then}
use Rattle.pblk_model.proofs.Parts.{all_at, contained_among, none_past}
use Rattle.pblk_model.proofs.Tests.{first_of, not_both, not_true, same, same_number}
use Rattle.pblk_world.specs.LegalMounts.{IsLegalMount}
use Rattle.world_laws.specs.UnitChunks.{chunk_after}
use Rattle.world_laws.proofs.FoundCounts.{counted_below, seq_older}
use Rattle.world_laws.proofs.FoundImages.{found_closed, found_first, found_seq, found_strays}
use Rattle.world_laws.proofs.KeptChunks.{found_stays}
use Rattle.world_laws.proofs.KnownChunks.{IsKnownTo, known_first, known_later}
use Rattle.world_laws.proofs.LifeUnits.{begun_within, chunk_known}
use Rattle.world_laws.proofs.MediaChunks.{chunk_of_found}
use Rattle.core_laws.proofs.EachChunk.{chunks_pass}
use Rattle.core_laws.proofs.ClosedBegun.{over_unless_open}
use Rattle.core_laws.proofs.VictimsAtWork.{same_chunks}
use Rattle.rest_laws.specs.BehindLines.{IsBehind}

module _ (i : Image) (w : World) (mount : IsLegalMount i w) (b : Begun) (begins : begun (log_of w 0) ≡ Some b) (line : ℕ)
    (is_found : life_of (log_of w 0) line ≡ AsFound) where
  abbrev found : Image
  found = found_image i (log_of w)

  abbrev known : Image
  known = known_image i (log_of w)

  -- ---- a line that is no stray

  module _ (no_stray : list_any (λ stray. stray == line) b.beginning.strays ≡ false) where
    stands : (unit : ℕ) → chunk_in (known_image i (log_of w)) line unit ≡ chunk_in (found_image i (log_of w)) line unit
    stands unit = go (slice_get i.units unit) refl
      where
        all : ℕ
        all = length (log_of w 0)

        none_there : (j : Image) → length j.units ≡ length i.units → slice_get i.units unit ≡ None → chunk_in j line unit ≡ None
        none_there j count none =
            ap (option_and_then (λ (cs : List Chunk). slice_get cs line)) (slice_get_past j.units unit (omega (arith, none_past i.units unit none)))

        go : (cs : Option (List Chunk)) → slice_get i.units unit ≡ cs
            → chunk_in (known_image i (log_of w)) line unit ≡ chunk_in (found_image i (log_of w)) line unit
        go None none = none_there known (length_known i (log_of w)) none ∙ sym (none_there found (length_found i (log_of w) (begun (log_of w 0))) none)
        go (Some cs) has =
            let k : ℕ = length (log_of w 0) in
            let some : 0 < k = begun_knows k (log_of w 0) b (ap begun (take-length (log_of w 0)) ∙ begins) in
            let base : ℕ = slice_index b.knows (suc unit) in
            let none_left : 0 + k ≡ k = omega arith in
            let told = known_later i w mount.legal b begins unit line cs has 0 k (slice_index b.knows (suc unit)) (omega arith)
            (known_first i w mount.legal b begins unit line cs has (begun_within i w mount.legal b begins unit)) in
            let at : IsKnownTo i w mount.legal b begins unit line cs has k told.0 =
            subst (λ n. IsKnownTo i w mount.legal b begins unit line cs has n told.0) none_left told.2 in
            let later : base ≤ told.0 = told.1 in
            let inside : told.0 ≤ length (log_of w (suc unit)) = at.inside in
            let far : base + (told.0 - base) ≡ told.0 = omega arith in
            ap (λ (logs : Logs). chunk_in (known_image i logs) line unit) (sym (whole_prefix (log_of w)))
            ∙ chunk_known i w mount.legal b begins unit line cs has k some ∙ at.same
            ∙ ap (chunk_after i (log_of w) line unit) (sym far)
            ∙ found_stays i w mount.legal b begins unit line is_found no_stray (told.0 - base) (omega arith)
            ∙ sym (chunk_of_found i (log_of w) b line unit begins)

    pub known_as_found : chunks_of (known_image i (log_of w)) line ≡ chunks_of (found_image i (log_of w)) line
    known_as_found = same_chunks known found line (length_known i (log_of w) ∙ sym (length_found i (log_of w) (begun (log_of w 0)))) stands

  given_up_is : is_given_up (log_of w 0) line ≡ list_any (λ stray. stray == line) b.beginning.strays
  given_up_is =
      ap (is_given_up_by (strays_of (log_of w 0)) line) is_found
      ∙ ap (λ (x : Option Begun). list_any (λ stray. stray == line) (option_map_or (λ (y : Begun). y.beginning.strays) x [])) begins

  same_shape : (found_image i (log_of w)).shape ≡ i.shape
  same_shape = go (begun (log_of w 0))
    where
      go : (o : Option Begun) → (found_by i (log_of w) o).shape ≡ i.shape
      go None = refl
      go (Some c) = refl

  -- ---- a line with a sequence number

  numbered_no_stray : (start : StartRecord) → start_of (found_image i (log_of w)) line ≡ Some start
      → list_any (λ stray. stray == line) b.beginning.strays ≡ false
  numbered_no_stray start starts =
      ap (list_any (λ stray. stray == line)) (found_strays i w b mount.legal begins)
      ∙ any_fail (λ stray. stray == line) (stray_lines found)
      (all_imply (λ x. is_stray found x ≡ true) (λ x. (x == line) ≡ false) (λ x stray. other x stray (x == line) refl) (stray_lines found)
      (all_passed (is_stray found) (range_with_len 0 found.shape.chunks)))
    where
      other : (x : ℕ) → is_stray (found_image i (log_of w)) x ≡ true → (b : Bool) → (x == line) ≡ b → b ≡ false
      other x stray false e = refl
      other x stray true e =
          let none : is_some (start_of found x) ≡ false =
          not_true (is_some (start_of found x)) (first_of (not (is_some (start_of found x))) (not (are_empty found x)) stray) in
          absurd (not_both (is_some (start_of found line)) (ap is_some starts) (ap (λ n. is_some (start_of found n)) (sym (same x line e)) ∙ none))

  -- it is behind each start record with a number and a front of this mount
  pub found_behind : (start than : StartRecord) → line < i.shape.chunks → start_of (found_image i (log_of w)) line ≡ Some start
      → b.beginning.seq ≤ than.seq → b.beginning.first ≤ than.front → IsBehind i (log_of w) than line
  found_behind start than inside starts seq front =
      let its_seq : b.beginning.seq ≡ next_seq (head found) = found_seq i w b mount.legal begins in
      let below : start.seq < next_seq (head found) = seq_older found line start (subst (λ (s : Shape). line < s.chunks) (sym same_shape) inside) starts in
      record {
        over = over;
        seq = start.seq;
        has_seq = ap (λ (l : LineLife). seq_in i (log_of w) l line) is_found ∙ ap (option_map (λ (x : StartRecord). x.seq)) starts;
        older = omega arith;
        below_front = subst (λ (l : LineLife). AllByRecursion (λ position. position < than.front) (positions_in i (log_of w) l line)) (sym is_found) positions;
      }
    where
      none_open : (unit : ℕ) (c : Chunk) → chunk_in (found_image i (log_of w)) line unit ≡ Some c → c.state ≢ states.Open
      none_open unit c there =
          let at = split_then (λ (cs : List Chunk). slice_get cs line) (slice_get found.units unit) c there in
          all_at (λ (x : Chunk). x.state ≢ states.Open) at.0 line c at.2
          (all_at (AllByRecursion (λ (x : Chunk). x.state ≢ states.Open)) found.units unit at.0 at.1 (found_closed i w b mount.legal begins))

      over : are_over i (log_of w) line ≡ true
      over =
          ap (λ (l : LineLife). list_all (λ (c : Chunk). is_over_state (is_as_found l) c.state) (chunks_of known line)) is_found
          ∙ ap (list_all (λ (c : Chunk). is_over_state true c.state)) (known_as_found (numbered_no_stray start starts))
          ∙ chunks_pass found line (λ (c : Chunk). is_over_state true c.state) (λ unit c there. over_unless_open c.state (none_open unit c there))

      positions : AllByRecursion (λ position. position < than.front) (positions_in i (log_of w) AsFound line)
      positions =
          let its_first : b.beginning.first ≡ end found = found_first i w b mount.legal begins in
          all_mapped (λ position. position < than.front) (λ (r : Record). r.position) (filter (λ (r : Record). r.line == line) (counted found))
          (all_filter (λ (r : Record). r.position < than.front) (λ (r : Record). r.line == line) (counted found)
          (all_imply (IsAmong (counted found)) (λ (r : Record). r.position < than.front) (λ r at.
          let below : r.position < end found = counted_below found r (contained_among (counted found) r at) in
          omega arith) (counted found) (among_all (counted found))))

  -- ---- a line without one

  -- it is empty, unless it is given up
  pub found_empty : line < i.shape.chunks → start_of (found_image i (log_of w)) line ≡ None → is_given_up (log_of w 0) line ≡ false
      → are_empty (known_image i (log_of w)) line ≡ true
  found_empty inside none kept =
      ap (list_all (λ (c : Chunk). is_empty_state c.state)) (known_as_found no_stray) ∙ by (are_empty found line) refl
    where
      no_stray : list_any (λ stray. stray == line) b.beginning.strays ≡ false
      no_stray = sym given_up_is ∙ kept

      by : (t : Bool) → are_empty (found_image i (log_of w)) line ≡ t → are_empty (found_image i (log_of w)) line ≡ true
      by true e = e
      by false e =
          let first : 0 + line ≡ line = omega arith in
          let stray : is_stray found line ≡ true = ap₂ (λ a b. not a && not b) (ap is_some none) e in
          let wide : line < found.shape.chunks = subst (λ (s : Shape). line < s.chunks) (sym same_shape) inside in
          let among : IsAmong (stray_lines found) line =
          kept_at (is_stray found) (range_with_len 0 found.shape.chunks) line line (range_get 0 found.shape.chunks line wide ∙ ap (λ m. Some m) first) stray in
          absurd (not_both (list_any (λ x. x == line) b.beginning.strays)
          (ap (list_any (λ x. x == line)) (found_strays i w b mount.legal begins)
          ∙ any_member (λ x. x == line) (stray_lines found) among.0 line among.1 (same_number line)) no_stray)
