-- Where a mount found at least four lines with Free chunks alone, and few lines are Free now, it
-- has opened a line.
use Rattle.std.proofs.Common.{◌≡◌, ◌⊎◌, inl, inr, ℕ, ◌*◌, ◌<◌, ◌≤◌, zero, suc, true, Some, None, Option, List, [], ◌∷◌, length, take, refl, sym, subst, ap, ◌∙◌, arith, if◌then◌else◌}
use Rattle.std.specs.Prelude.{slice_get}
use Rattle.std.specs.List.{AllByRecursion, Contains, filter, range_with_len}
use Rattle.std.specs.Option.{option_and_then, option_map}
use Rattle.std.proofs.lemmas.Bool.{cases_order}
use Rattle.std.proofs.lemmas.Option.{none-some, same_Some, slice_get_past}
use Rattle.std.proofs.Math.Nat.{mul-le-mul_right}
use Rattle.std.proofs.Math.Seq.{take-length}
use Rattle.pblk_model.specs.declared.chunk.ChunkState.{ChunkState}
use Rattle.pblk_model.specs.declared.chunk.ChunkState.TheVariants as states
use Rattle.pblk_model.specs.Accepted.{IsAccepted}
use Rattle.pblk_model.specs.Chunk.{Chunk, IsChunk, PointerFits, pointer}
use Rattle.pblk_model.specs.Image.{Image, IsFit, is_online_in, line_chunks, width}
use Rattle.pblk_model.specs.LineOrder.{block_of, column_of}
use Rattle.pblk_model.specs.StartRecord.{StartRecord, start_of}
use Rattle.pblk_model.proofs.LeastLengths.{start_len_positive}
use Rattle.pblk_laws.proofs.Runs.{start_none}
use Rattle.pblk_world.specs.EngineLog.{AsFound, Begun, begun, last_opening, life_of, LineLife, Opened, Opening, openings, turned_by}
use Rattle.pblk_world.specs.Events.{Begin, Decides, Free, Logged}
use Rattle.pblk_world.specs.Lines.{chunks_of, found_by, found_image, is_free_line, known_image, line_data}
use Rattle.pblk_world.specs.Space.{free_addresses, full_data, is_due}
use Rattle.pblk_world.specs.Starts.{seq_in, seq_of}
use Rattle.pblk_world.specs.Victims.{engine_prefix}
use Rattle.pblk_world.specs.World.{World, log_of}
use Rattle.rest_laws.specs.NewestOpened.{IsLastOpened}
use Rattle.rest_laws.specs.Tidy.{AreWide, has_free_chunks, is_free_state}
use Rattle.pblk_model.proofs.Lists.{IsAmong, among_contained, contains_none}
use Rattle.pblk_model.proofs.Maps.{all_in_range, filter_at, from_given}
use Rattle.pblk_model.proofs.Parts.{all_at, contained_among, get_below, got_within}
use Rattle.pblk_model.proofs.Tests.{same_number, within_is}
use Rattle.pblk_world.specs.LegalMounts.{IsLegalMount}
use Rattle.pblk_world.specs.Orders.{AreReset}
use Rattle.world_laws.proofs.Beginnings.{first_begins}
use Rattle.world_laws.proofs.FitMedia.{found_fit}
use Rattle.world_laws.proofs.FoundEmpty.{all_pass}
use Rattle.world_laws.proofs.Freeing.{IsFreeable, freed_at}
use Rattle.world_laws.proofs.Lives.{IsFree, IsNeither, IsOpen, Turns, life_is_known, opening_by, turns}
use Rattle.world_laws.proofs.NextLives.{life_next}
use Rattle.world_laws.proofs.StartRecords.{numbers_rise}
use Rattle.world_laws.proofs.Stripes.{opening_of_prefix}
use Rattle.world_laws.proofs.ToldImages.{found_at}
use Rattle.rest_laws.proofs.FreeNow.{all_data, found_free}
use Rattle.rest_laws.proofs.LiveSums.{sum_of_passing}
use Rattle.rest_laws.proofs.RoomyShapes.{eight_stripes}

-- ---- a line with Free chunks alone has no start record

free_state : (state : ChunkState) → is_free_state state ≡ true → state ≡ states.Free
free_state states.Free e = refl
free_state states.Open e = absurd cc
free_state states.Closed e = absurd cc
free_state states.Offline e = absurd cc

pub blank_start : (j : Image) (line : ℕ) → IsAccepted j.shape → IsFit j → has_free_chunks j line ≡ true → start_of j line ≡ None
blank_start j line accepted fit free =
    start_none j line 0 (start_len_positive j.shape accepted) (by (slice_get (line_chunks j line) column) refl)
  where
    column : ℕ
    column = column_of j.shape (width j line) 0

    by : (o : Option Chunk) → slice_get (line_chunks j line) column ≡ o
        → option_and_then (λ (c : Chunk). slice_get c.blocks (block_of j.shape (width j line) 0)) o ≡ None
    by None e = refl
    by (Some c) e =
        let among : IsAmong (chunks_of j line) c = filter_at (λ (x : Chunk). is_online_in x.state) (chunks_of j line) c column e in
        let its : c.state ≡ states.Free = free_state c.state (all_pass (λ (x : Chunk). is_free_state x.state) (chunks_of j line) among.0 c free among.1) in
        let from = from_given (λ (unit : List Chunk). slice_get unit line) j.units c among.0 among.1 in
        let is : IsChunk j.shape c = all_at (IsChunk j.shape) from.0 line c from.2
        (all_at (AllByRecursion (IsChunk j.shape)) j.units from.1.0 from.0 from.1.1 fit.each) in
        let none : pointer c ≡ 0 = subst (λ (state : ChunkState). PointerFits state j.shape.clba (pointer c)) its is.place in
        slice_get_past c.blocks (block_of j.shape (width j line) 0) (omega arith)

-- ---- where no line was opened

module _ (i : Image) (w : World) (mount : IsLegalMount i w) (b : Begun) (begins : begun (log_of w 0) ≡ Some b) (none : openings (log_of w 0) ≡ []) where
  no_opening : (n line : ℕ) (o : Opening) → life_of (take n (log_of w 0)) line ≡ Opened o → ⊥
  no_opening n line o is =
      contains_none o (subst (λ (os : List Opening). Contains os o) none
      (opening_of_prefix (log_of w 0) n o (life_is_known (take n (log_of w 0)) line o (ap last_opening is)).0))

  same_shape : (found_image i (log_of w)).shape ≡ i.shape
  same_shape = ap (λ (x : Option Begun). (found_by i (log_of w) x).shape) begins

  no_start : (line : ℕ) → has_free_chunks (found_image i (log_of w)) line ≡ true → start_of (found_image i (log_of w)) line ≡ None
  no_start line free = blank_start (found_image i (log_of w)) line (subst IsAccepted (sym same_shape) mount.accepted)
      (found_fit i w mount.accepted mount.fit mount.legal) free

  -- a line that was found with Free chunks alone is as it was found
  as_found : (line : ℕ) → has_free_chunks (found_image i (log_of w)) line ≡ true → (n : ℕ) → n ≤ length (log_of w 0)
      → life_of (take n (log_of w 0)) line ≡ AsFound
  as_found line free zero within = refl
  as_found line free (suc n) within =
      let at = got_within (log_of w 0) n (omega arith) in
      go at.0 at.1 (as_found line free n (omega arith)) (turns line n at.0.knows at.0.event)
    where
      go : (l : Logged) → slice_get (log_of w 0) n ≡ Some l → life_of (take n (log_of w 0)) line ≡ AsFound → Turns line n l.knows l.event
          → life_of (take (suc n) (log_of w 0)) line ≡ AsFound
      go l there was (IsNeither same_life) = life_next (log_of w 0) n line l there ∙ same_life (life_of (take n (log_of w 0)) line) ∙ was
      go l there was (IsOpen start e) =
          let o : Opening = opening_by n line start l.knows in
          absurd (no_opening (suc n) line o (life_next (log_of w 0) n line l there
          ∙ ap (turned_by line (life_of (take n (log_of w 0)) line) n l.knows) e
          ∙ ap (λ t. if t then Opened o else life_of (take n (log_of w 0)) line) (same_number line)))
      go l there was (IsFree e) = by n refl
        where
          by : (k : ℕ) → k ≡ n → life_of (take (suc n) (log_of w 0)) line ≡ AsFound
          by zero same =
              let first = first_begins i w l mount.legal (ap (slice_get (log_of w 0)) same ∙ there) in
              let apart : Decides (Free line) ≡ Decides (Begin first.0) = sym e ∙ first.1 in
              absurd cc
          by (suc m) same =
              let freed : IsFreeable i (engine_prefix (suc m) (log_of w)) line =
              freed_at i w (suc m) line l mount.legal (ap (slice_get (log_of w 0)) same ∙ there) e in
              let life : life_of (take (suc m) (log_of w 0)) line ≡ AsFound = ap (λ k. life_of (take k (log_of w 0)) line) same ∙ was in
              let unnumbered : seq_of i (engine_prefix (suc m) (log_of w)) line ≡ None =
              ap (λ (x : LineLife). seq_in i (engine_prefix (suc m) (log_of w)) x line) life
              ∙ ap (λ (j : Image). option_map (λ (x : StartRecord). x.seq) (start_of j line)) (found_at i (log_of w) (suc m) (omega arith))
              ∙ ap (option_map (λ (x : StartRecord). x.seq)) (no_start line free) in
              absurd (none-some freed.seq (sym unnumbered ∙ freed.has_seq))

  -- and Free
  module _ (wide : AreWide (known_image i (log_of w))) (reset : AreReset i (log_of w)) where
    free_still : (line : ℕ) → line < i.shape.chunks → has_free_chunks (found_image i (log_of w)) line ≡ true → is_free_line i (log_of w) line ≡ true
    free_still line inside free =
        found_free i w mount wide reset b line begins inside
        (ap (λ (xs : List Logged). life_of xs line) (sym (take-length (log_of w 0))) ∙ as_found line free (length (log_of w 0)) (omega arith))
        (no_start line free)

    -- Where four lines were such ones, more Free lines are left than make collection due.
    pub not_due : 4 ≤ length (filter (has_free_chunks (found_image i (log_of w))) (range_with_len 0 i.shape.chunks)) → is_due i (log_of w) ≡ true → ⊥
    not_due four due =
        let found : Image = found_image i (log_of w) in
        let range : List ℕ = range_with_len 0 i.shape.chunks in
        let sum : length (filter (has_free_chunks found) range) * full_data i.shape ≤ free_addresses i (log_of w) =
        sum_of_passing (λ line. line < i.shape.chunks) (has_free_chunks found)
        (λ line. if is_free_line i (log_of w) line then line_data (known_image i (log_of w)) line else 0) (full_data i.shape) range
        (λ line below e.
        let is : (if is_free_line i (log_of w) line then line_data (known_image i (log_of w)) line else 0) ≡ full_data i.shape =
        ap (λ t. if t then line_data (known_image i (log_of w)) line else 0) (free_still line below e) ∙ all_data i w mount wide line below in
        omega arith) (all_in_range 0 i.shape.chunks i.shape.chunks (omega arith)) in
        let least : 4 * full_data i.shape ≤ length (filter (has_free_chunks found) range) * full_data i.shape = mul-le-mul_right (full_data i.shape) four in
        let most : free_addresses i (log_of w) ≤ 3 * full_data i.shape = within_is (free_addresses i (log_of w)) (3 * full_data i.shape) due in
        let eight : 8 * i.shape.ws_opt ≤ full_data i.shape = eight_stripes i.shape mount.accepted in
        let one : 0 < i.shape.ws_opt = mount.accepted.drive.ws_opt in
        by_numbers (full_data i.shape) (free_addresses i (log_of w)) (le_both least sum) most (some_data eight one)
      where
        le_both : {a b c : ℕ} → a ≤ b → b ≤ c → a ≤ c
        le_both x y = omega (arith, x, y)

        some_data : {d n : ℕ} → 8 * n ≤ d → 0 < n → 0 < d
        some_data x y = omega (arith, x, y)

        by_numbers : (d a : ℕ) → 4 * d ≤ a → a ≤ 3 * d → 0 < d → ⊥
        by_numbers d a low high some = omega arith

-- ---- the line that was opened last

pub last_of_some : (log : List Logged) (k : ℕ) → length (openings log) ≡ suc k → (o : Opening) × IsLastOpened log o
last_of_some log k long =
    let at = got_within (openings log) k (omega arith) in (
      at.0,
      record {
        opened = contained_among (openings log) at.0 (k, at.1);
        last =
            λ other there. go at.0 at.1 other (among_contained (openings log) other there);
      },
    )
  where
    go : (o : Opening) → slice_get (openings log) k ≡ Some o → (other : Opening) → IsAmong (openings log) other → other.number ≤ o.number
    go o at other there = by (cases_order there.0 k)
      where
        by : (there.0 ≡ k) ⊎ ((there.0 < k) ⊎ (k < there.0)) → other.number ≤ o.number
        by (inl same) =
            let one : other ≡ o = same_Some other o (sym there.1 ∙ ap (slice_get (openings log)) same ∙ at) in
            let number : other.number ≡ o.number = ap (λ (x : Opening). x.number) one in
            omega arith
        by (inr (inl before)) = let less : other.number < o.number = numbers_rise log there.0 k other o there.1 at before in omega arith
        by (inr (inr after)) = let below : there.0 < length (openings log) = get_below (openings log) there.0 other there.1 in absurd (omega arith)

pub last_opened : (i : Image) (w : World) (b : Begun) → IsLegalMount i w → begun (log_of w 0) ≡ Some b → AreWide (known_image i (log_of w))
    → AreReset i (log_of w) → 4 ≤ length (filter (has_free_chunks (found_image i (log_of w))) (range_with_len 0 i.shape.chunks))
    → is_due i (log_of w) ≡ true → (o : Opening) × IsLastOpened (log_of w 0) o
last_opened i w b mount begins wide reset four due = go (openings (log_of w 0)) refl
  where
    go : (os : List Opening) → openings (log_of w 0) ≡ os → (o : Opening) × IsLastOpened (log_of w 0) o
    go [] e = absurd (not_due i w mount b begins e wide reset four due)
    go (o ∷ os) e = last_of_some (log_of w 0) (length os) (ap (λ (xs : List Opening). length xs) e)
