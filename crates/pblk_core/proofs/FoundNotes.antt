-- What a core notes of its lines at the beginning, by what recovery found.
use Rattle.std.proofs.Common.{◌≡◌, ◌≢◌, ◌⊎◌, inl, inr, ℕ, ◌+◌, ◌*◌, ◌<◌, ◌≤◌, false, if◌then◌else◌, Some, None, Option, List, [], length, refl, sym, subst, ap, ◌∙◌, arith}
use Rattle.std.specs.Prelude.{map, slice_get}
use Rattle.std.specs.List.{AllByRecursion, filter, filter_map, range_with_len}
use Rattle.std.specs.Option.{is_some, option_and_then, option_map, option_map_or, unwrap_or}
use Rattle.std.proofs.lemmas.Bool.{cases_lt}
use Rattle.std.proofs.lemmas.List.{length-map}
use Rattle.std.proofs.lemmas.List.FromFn.{length-map-range_with_len}
use Rattle.std.proofs.lemmas.Option.{none-some, slice_get_past}
use Rattle.pblk_model.specs.declared.chunk.ChunkState.{ChunkState}
use Rattle.pblk_model.specs.declared.chunk.ChunkState.TheVariants as states
use Rattle.pblk_model.specs.declared.found.Found.{Found}
use Rattle.pblk_model.specs.declared.found.LineRow.{LineRow}
use Rattle.pblk_model.specs.declared.shape.Shape.{Shape}
use Rattle.pblk_model.specs.Accepted.{IsAccepted}
use Rattle.pblk_model.specs.Chunk.{Chunk}
use Rattle.pblk_model.specs.Image.{Image, IsFit, block_at, is_online_in}
use Rattle.pblk_model.specs.LineOrder.{block_of, column_of}
use Rattle.pblk_model.specs.Shape.{units}
use Rattle.pblk_model.specs.StartRecord.{StartRecord, start_of}
use Rattle.pblk_model.proofs.LeastLengths.{start_len_positive}
use Rattle.pblk_layout.specs.Online.{units_in}
use Rattle.pblk_laws.specs.LineBlocks.{chunk_in}
use Rattle.pblk_laws.proofs.Runs.{start_none}
use Rattle.pblk_world.specs.EngineLog.{Begun, begun, LineLife}
use Rattle.pblk_world.specs.Events.{Begin}
use Rattle.pblk_world.specs.Legal.{IsLegal}
use Rattle.pblk_world.specs.Lines.{found_image}
use Rattle.pblk_world.specs.Starts.{seq_in}
use Rattle.pblk_world.specs.World.{World, Logs, log_of}
use Rattle.pblk_model.proofs.Maps.{filter_map_none, filter_same, made_alike}
use Rattle.pblk_model.proofs.Options.{map_some, split_then}
use Rattle.pblk_model.proofs.Parts.{all_at}
use Rattle.world_laws.specs.Finding.{IsFoundOf, NoneOpen, taken_state}
use Rattle.pblk_world.specs.LegalMounts.{IsLegalMount}
use Rattle.world_laws.specs.MountBeginnings.{beginning_of}
use Rattle.world_laws.proofs.FoundImages.{found_closed}
use Rattle.world_laws.proofs.FoundStates.{state_is}
use Rattle.core_laws.specs.ClosedLines.{ClosedLine, StartNumbers, closed_line, head_numbers}
use Rattle.core_laws.specs.JustBegun.{HasJustBegun}
use Rattle.core_laws.specs.Stepping.{after}
use Rattle.core_laws.proofs.BegunImages.{just_begun, knows_found, life_is}
use Rattle.core_laws.proofs.ClosedBegun.{closed_begun}
use Rattle.core_laws.proofs.ClosedKept.{closed_unnumbered}
use Rattle.stripe_placer.proofs.Rows.{get_map}
use Rattle.pblk_core.specs.LineNotes.{AreNotes, closed_by, head_start, note_found, numbers_in}
use Rattle.pblk_core.specs.Resets.{ResetQueue, is_used_at, is_used_in, is_used_state, used_below, used_in, used_units}
use Rattle.pblk_core.specs.Stands.{AreUsed}
use Rattle.pblk_core.specs.declared.line_notes.LineNote.{LineNote}
use Rattle.pblk_core.specs.declared.line_notes.LineNotes.{LineNotes}
use Rattle.core_laws.proofs.NewestStarts.{newest_begun}

-- ---- the used chunks of a line

used_taken : (state : ChunkState) → is_used_state (taken_state state) ≡ is_used_state state
used_taken states.Free = refl
used_taken states.Open = refl
used_taken states.Closed = refl
used_taken states.Offline = refl

used_at : (o : Option Chunk) → is_used_at (option_map (λ (c : Chunk). taken_state c.state) o) ≡ option_map_or (λ (c : Chunk). is_used_state c.state) o false
used_at None = refl
used_at (Some c) = used_taken c.state

pub used_same : (j : Image) (f : Found) (line : ℕ) → IsFit j → IsFoundOf j f → line < j.shape.chunks
    → used_below j.shape f.chunks line (units j.shape) ≡ used_units j line
used_same j f line fit found inside =
    filter_same (λ unit. is_used_at (slice_get f.chunks (unit * j.shape.chunks + line))) (is_used_in j line)
    (λ unit. ap is_used_at (state_is j f line unit fit found inside) ∙ used_at (chunk_in j line unit)) (range_with_len 0 (units j.shape))

-- ---- a line with a start record is one of the drive

start_inside : (j : Image) (line : ℕ) (start : StartRecord) → IsAccepted j.shape → IsFit j → start_of j line ≡ Some start → line < j.shape.chunks
start_inside j line start accepted fit starts = go (cases_lt line j.shape.chunks)
  where
    go : (line < j.shape.chunks) ⊎ (j.shape.chunks ≤ line) → line < j.shape.chunks
    go (inl inside) = inside
    go (inr beyond) = absurd (none-some start (sym (start_none j line 0 (start_len_positive j.shape accepted) no_block) ∙ starts))
      where
        no_chunk : (k : ℕ) (unit : List Chunk) → slice_get j.units k ≡ Some unit → slice_get unit line ≡ None
        no_chunk k unit there =
            let count : length unit ≡ j.shape.chunks = all_at (λ (u : List Chunk). length u ≡ j.shape.chunks) j.units k unit there fit.chunks in
            slice_get_past unit line (omega arith)

        none_there : filter_map (λ (unit : List Chunk). slice_get unit line) j.units ≡ []
        none_there =
            made_alike (λ (unit : List Chunk). slice_get unit line) (λ unit. None) j.units no_chunk
            ∙ filter_map_none (λ unit. None) j.units (λ unit. refl)

        no_block : block_at j line 0 ≡ None
        no_block = ap (λ (cs : List Chunk). option_and_then (λ (c : Chunk). slice_get c.blocks
            (block_of j.shape (length (filter (λ (c : Chunk). is_online_in c.state) cs)) 0))
            (slice_get (filter (λ (c : Chunk). is_online_in c.state) cs) (column_of j.shape (length (filter (λ (c : Chunk). is_online_in c.state) cs)) 0)))
            none_there

-- ---- a mount begins with no chunk Open in what it found

pub none_found_open : (i : Image) (w : World) (b : Begun) → IsLegal i w → begun (log_of w 0) ≡ Some b → NoneOpen (found_image i (log_of w))
none_found_open i w b legal begins line unit c there =
    let found : Image = found_image i (log_of w) in
    let at = split_then (λ (cs : List Chunk). slice_get cs line) (slice_get found.units unit) c there in
    all_at (λ (x : Chunk). x.state ≢ states.Open) at.0 line c at.2
    (all_at (AllByRecursion (λ (x : Chunk). x.state ≢ states.Open)) found.units unit at.0 at.1 (found_closed i w b legal begins))

-- ---- a mount that has just begun

module _ (i : Image) (f : Found) (new : Logs) (begins : HasJustBegun i f new) where
  pub found_shape : (found_image i new).shape ≡ i.shape
  found_shape = ap (λ (j : Image). j.shape) (sym (knows_found i f new begins))

  -- a line that is closed is one of the drive
  closed_inside : (line : ℕ) (c : ClosedLine) → closed_line i new line ≡ Some c → line < i.shape.chunks
  closed_inside line c is = go (start_of (found_image i new) line) refl
    where
      go : (o : Option StartRecord) → start_of (found_image i new) line ≡ o → line < i.shape.chunks
      go (Some start) starts = subst (λ (s : Shape). line < s.chunks) found_shape
          (start_inside (found_image i new) line start (subst IsAccepted (sym found_shape) begins.accepted) begins.fit starts)
      go None none = absurd (none-some c (sym (closed_unnumbered i new line
          (ap (λ (l : LineLife). seq_in i new l line) (life_is i f new line begins) ∙ ap (option_map (λ (start : StartRecord). start.seq)) none)) ∙ is))

  pub used_begun : (resets : ResetQueue)
      → ((line : ℕ) → line < i.shape.chunks → units_in (used_in resets line) ≡ used_below i.shape f.chunks line (units i.shape)) → AreUsed i new resets
  used_begun resets used = λ line c is.
      let inside : line < i.shape.chunks = closed_inside line c is in
      used line inside ∙ ap (λ (s : Shape). used_below s f.chunks line (units s)) (sym found_shape)
      ∙ used_same (found_image i new) f line begins.fit begins.found (subst (λ (s : Shape). line < s.chunks) (sym found_shape) inside)
      ∙ ap (λ (j : Image). used_units j line) (sym (knows_found i f new begins))

-- the numbers of the head are those that were found
numbers_found : (f : Found) → option_map numbers_in (head_start f.lines f.head f.front) ≡ head_numbers f
numbers_found f = of_head f.head
  where
    of_seq : (o : Option ℕ) → ◌≡◌ {A = Option StartNumbers} (option_map numbers_in (option_map (λ n. record { seq = n; front = f.front }) o))
        (option_map (λ n. record { seq = n; front = f.front }) o)
    of_seq None = refl
    of_seq (Some n) = refl

    of_row : (o : Option LineRow)
        → option_map numbers_in (option_and_then (λ (row : LineRow). option_map (λ n. record { seq = n; front = f.front }) row.seq) o)
        ≡ option_and_then (λ (row : LineRow). option_map (λ n. record { seq = n; front = f.front }) row.seq) o
    of_row None = refl
    of_row (Some row) = of_seq row.seq

    of_head : (o : Option ℕ) → option_map numbers_in (head_start f.lines o f.front) ≡ option_and_then (λ line. option_and_then
        (λ (row : LineRow). option_map (λ n. record { seq = n; front = f.front }) row.seq) (slice_get f.lines line)) o
    of_head None = refl
    of_head (Some line) = of_row (slice_get f.lines line)

closed_found : (row : LineRow) → closed_by (note_found row) ≡ option_map (λ seq. record { seq = seq; top = row.top }) row.seq
closed_found row = go row.seq
  where
    go : (o : Option ℕ) → ◌≡◌ {A = Option ClosedLine} (if is_some o then Some (record { seq = unwrap_or o 0; top = row.top }) else None)
        (option_map (λ seq. record { seq = seq; top = row.top }) o)
    go None = refl
    go (Some seq) = refl

pub notes_begun : (i : Image) (w : World) (f : Found) (knows : List ℕ) (notes : LineNotes) → IsLegalMount i w → log_of w 0 ≡ []
    → IsFoundOf (found_image i (after (log_of w) (Begin (beginning_of f)) knows)) f
    → NoneOpen (found_image i (after (log_of w) (Begin (beginning_of f)) knows))
    → notes.rows.items ≡ map note_found f.lines → notes.newest ≡ head_start f.lines f.head f.front
    → AreNotes i (after (log_of w) (Begin (beginning_of f)) knows) notes
notes_begun i w f knows notes mount none found closed rows newest = record {
  count = ap length rows ∙ length-map f.lines note_found ∙ ap length found.lines_are ∙ length-map-range_with_len _ 0 (found_image i new).shape.chunks
      ∙ ap (λ (s : Shape). s.chunks) (found_shape i f new begins);
  opened = λ line o row is there. let as_found = sym (life_is i f new line begins) ∙ is in absurd cc;
  closed = λ line row there.
      let from = map_some note_found (slice_get f.lines line) row
      (sym (get_map note_found f.lines line) ∙ ap (λ (rs : List LineNote). slice_get rs line) (sym rows) ∙ there) in
      ap closed_by (sym from.2) ∙ closed_found from.0 ∙ sym (closed_begun i w f knows line from.0 mount none found closed from.1);
  newest = ap (option_map numbers_in) newest ∙ numbers_found f ∙ sym (newest_begun i (log_of w) f knows none found);
}
  where
    new : Logs
    new = after (log_of w) (Begin (beginning_of f)) knows

    begins : HasJustBegun i f new
    begins = just_begun i w f knows mount.accepted mount.fit mount.legal none found
