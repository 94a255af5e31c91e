-- What a line that is freed changes in the table: its state alone.
use Rattle.std.proofs.Common.{◌≡◌, ◌≢◌, ◌⊎◌, inl, inr, ℕ, ◌/◌, ◌==◌, Bool, true, false, Some, None, Option, List, length, refl, sym, subst, ap, ap₂, ◌∙◌, if◌then◌else◌}
use Rattle.std.specs.Prelude.{slice_index}
use Rattle.std.specs.Option.{is_some, option_map}
use Rattle.std.proofs.lemmas.Option.{none-some}
use Rattle.pblk_model.specs.Image.{Image, width}
use Rattle.pblk_model.specs.StartRecord.{StartRecord, start_of}
use Rattle.pblk_model.specs.EndRecord.{end_of}
use Rattle.pblk_world.specs.Events.{Free}
use Rattle.pblk_world.specs.World.{World, Logs, log_of}
use Rattle.pblk_world.specs.EngineLog.{AsFound, Begun, begun, Freed, LineLife, life_of, Opened}
use Rattle.pblk_world.specs.Freeing.{MayFree}
use Rattle.pblk_world.specs.Lines.{are_empty, are_over, found_image, known_image, line_data}
use Rattle.pblk_world.specs.Placing.{line_end}
use Rattle.pblk_world.specs.Starts.{seq_in, seq_of}
use Rattle.pblk_world.specs.Victims.{engine_prefix, live}
use Rattle.line_table.specs.declared.row.LineState.TheVariants as states
use Rattle.line_table.specs.Rows.{turned}
use Rattle.pblk_world.specs.LegalMounts.{IsLegalMount}
use Rattle.core_laws.specs.ChangedTables.{with_row}
use Rattle.core_laws.specs.RowsOf.{logs_then, row_of_line, rows_of, state_found, state_in, taker_by, taker_in, width_in}
use Rattle.core_laws.specs.Spent.{IsSpent}
use Rattle.core_laws.specs.Stepping.{after}
use Rattle.core_laws.proofs.ChangedTables.{row_changes_any}
use Rattle.core_laws.proofs.DoneLines.{full_or_failed}
use Rattle.core_laws.proofs.Engine.{prefix_whole}
use Rattle.core_laws.proofs.FreedLives.{known_freed, life_beside, life_freed}
use Rattle.core_laws.proofs.FreedMoments.{freed_before}
use Rattle.core_laws.proofs.FreedSectors.{live_beside, none_live, taker_beside}
use Rattle.core_laws.proofs.FreedWidths.{numbered_used, numbered_width}
use Rattle.core_laws.proofs.KeptRows.{KeepsChunks, same_row, state_same, taker_same, then_kept, width_same}
use Rattle.core_laws.proofs.KeptStripes.{KeepsStripes, alike_kept, have_landed_alike, stripes_kept}
use Rattle.core_laws.proofs.LandedNow.{opened_now}
use Rattle.core_laws.proofs.OpenAddresses.{failed_kept}
use Rattle.core_laws.proofs.SpentLines.{is_spent}
use Rattle.core_laws.proofs.SteppingLemmas.{found_kept}

module _ (i : Image) (w : World) (mount : IsLegalMount i w) (line : ℕ) (knows : List ℕ) where
  abbrev new : Logs
  new = after (log_of w) (Free line) knows

  -- ---- another line

  chunks_kept : (m : ℕ) → KeepsChunks i (log_of w) (after (log_of w) (Free line) knows) m
  chunks_kept m = record {
    found = found_kept i (log_of w) (Free line) knows refl;
    empty = ap (λ (j : Image). are_empty j m) (known_freed i (log_of w) line knows);
    wide = ap (λ (j : Image). width j m) (known_freed i (log_of w) line knows);
  }

  row_beside : (m : ℕ) → m ≢ line → row_of_line i (after (log_of w) (Free line) knows) m ≡ row_of_line i (log_of w) m
  row_beside m apart =
      let now : LineLife = life_of (log_of w 0) m in
      let life : life_of (new 0) m ≡ now = life_beside (log_of w 0) line knows m apart in
      let kept : KeepsStripes (log_of w 0) (new 0) = stripes_kept (log_of w 0) (Free line) knows refl in
      let then_ = then_kept i (log_of w) (Free line) knows m (freed_before i w mount.legal) in
      same_row (state_in i new m (life_of (new 0) m)) (state_in i (log_of w) m now) (width_in i new m (life_of (new 0) m)) (width_in i (log_of w) m now)
      (live i new m) (live i (log_of w) m) (taker_in i new m (life_of (new 0) m)) (taker_in i (log_of w) m now)
      (ap (state_in i new m) life ∙ state_same i (log_of w) new m now (chunks_kept m)
      (λ o is. ap₂ (λ a b. if a then states.Failed else if b then states.Full else states.Open) (failed_kept (log_of w 0) (new 0) kept o)
      (have_landed_alike (log_of w 0) (new 0) (alike_kept (log_of w 0) (Free line) knows refl (λ unit. refl)) o (line_end i.shape o / i.shape.ws_opt))))
      (ap (width_in i new m) life ∙ width_same i (log_of w) new m now (chunks_kept m) then_)
      (live_beside i w mount line knows m apart)
      (ap (taker_in i new m) life ∙ taker_same i (log_of w) new m now then_ (taker_beside i w mount line knows m apart))

  -- ---- the line

  -- the event names the engine's log whole
  module _ (own : slice_index knows 0 ≡ length (log_of w 0)) where
    then_whole : logs_then knows (after (log_of w) (Free line) knows) ≡ log_of w
    then_whole = ap (λ n. engine_prefix n new) own ∙ prefix_whole (log_of w) (Free line) knows

    same_if : (t : Bool) (n : ℕ) → (if t then n else n) ≡ n
    same_if true n = refl
    same_if false n = refl

    width_now : width_in i (after (log_of w) (Free line) knows) line (life_of (after (log_of w) (Free line) knows 0) line)
        ≡ width (known_image i (log_of w)) line
    width_now =
        ap (width_in i new line) (life_freed (log_of w 0) line knows)
        ∙ ap₂ (λ (j : Image) (ls : Logs). if are_empty j line then width j line else width (known_image i ls) line)
        (known_freed i (log_of w) line knows) then_whole
        ∙ same_if (are_empty (known_image i (log_of w)) line) (width (known_image i (log_of w)) line)

    state_now : are_empty (known_image i (log_of w)) line ≡ false
        → state_in i (after (log_of w) (Free line) knows) line (life_of (after (log_of w) (Free line) knows 0) line) ≡ states.Freed
    state_now used =
        ap (state_in i new line) (life_freed (log_of w 0) line knows)
        ∙ ap (λ (j : Image). if are_empty j line then (if line_data j line == 0 then states.Dead else states.Free) else states.Freed)
        (known_freed i (log_of w) line knows)
        ∙ ap (λ b. if b then (if line_data (known_image i (log_of w)) line == 0 then states.Dead else states.Free) else states.Freed) used

    taker_now : (seq : ℕ) → seq_of i (log_of w) line ≡ Some seq
        → taker_in i (after (log_of w) (Free line) knows) line (life_of (after (log_of w) (Free line) knows 0) line)
        ≡ taker_in i (log_of w) line (life_of (log_of w 0) line)
    taker_now seq has_seq =
        ap (taker_in i new line) (life_freed (log_of w 0) line knows) ∙ ap (λ (ls : Logs). taker_by i ls line) then_whole
        ∙ go (life_of (log_of w 0) line) has_seq
      where
        go : (life : LineLife) → seq_in i (log_of w) life line ≡ Some seq → taker_by i (log_of w) line ≡ taker_in i (log_of w) line life
        go AsFound e = refl
        go (Opened o) e = refl
        go (Freed was ks) e = absurd (none-some seq e)

    -- A line that has a sequence number and no live sector, and to which nothing more is written,
    -- turns to Freed. No line is Free at once.
    pub rows_freed_by : (b : Begun) (seq : ℕ) → begun (log_of w 0) ≡ Some b → seq_of i (log_of w) line ≡ Some seq → are_over i (log_of w) line ≡ true
        → live i (log_of w) line ≡ 0
        → rows_of i (after (log_of w) (Free line) knows) ≡ with_row line (λ row. turned states.Freed row.width row) (rows_of i (log_of w))
    rows_freed_by b seq begins has_seq over none =
        row_changes_any i (log_of w) new line (λ row. turned states.Freed row.width row)
        (same_row (state_in i new line (life_of (new 0) line)) states.Freed (width_in i new line (life_of (new 0) line))
        (width_in i (log_of w) line (life_of (log_of w 0) line)) (live i new line) (live i (log_of w) line)
        (taker_in i new line (life_of (new 0) line)) (taker_in i (log_of w) line (life_of (log_of w 0) line))
        (state_now (numbered_used i w mount line b begins seq has_seq over))
        (width_now ∙ sym (numbered_width i w mount line b begins seq has_seq))
        (none_live i w mount line knows ∙ sym none)
        (taker_now seq has_seq)) row_beside

    pub rows_freed : (b : Begun) → begun (log_of w 0) ≡ Some b → MayFree i (log_of w) line
        → rows_of i (after (log_of w) (Free line) knows) ≡ with_row line (λ row. turned states.Freed row.width row) (rows_of i (log_of w))
    rows_freed b begins may =
        let spent : IsSpent i (log_of w) line = is_spent i w mount line may in
        rows_freed_by b may.seq begins may.has_seq may.over spent.none_live

  -- Before, the line was Full or Failed.
  pub state_was : (seq : ℕ) → seq_of i (log_of w) line ≡ Some seq → are_over i (log_of w) line ≡ true
      → ((row_of_line i (log_of w) line).state ≡ states.Full) ⊎ ((row_of_line i (log_of w) line).state ≡ states.Failed)
  state_was seq has_seq over = go (life_of (log_of w 0) line) refl has_seq
    where
      go : (life : LineLife) → life_of (log_of w 0) line ≡ life → seq_in i (log_of w) life line ≡ Some seq
          → (state_in i (log_of w) line (life_of (log_of w 0) line) ≡ states.Full) ⊎ (state_in i (log_of w) line (life_of (log_of w 0) line) ≡ states.Failed)
      go (Freed was ks) is e = absurd (none-some seq e)
      go (Opened o) is e =
          let its : o.line ≡ line = (opened_now i w mount line o is).1 in
          subst (λ life. (state_in i (log_of w) line life ≡ states.Full) ⊎ (state_in i (log_of w) line life ≡ states.Failed)) (sym is)
          (full_or_failed i w mount o (ap (life_of (log_of w 0)) its ∙ is) (ap (are_over i (log_of w)) its ∙ over))
      go AsFound is e =
          subst (λ life. (state_in i (log_of w) line life ≡ states.Full) ⊎ (state_in i (log_of w) line life ≡ states.Failed)) (sym is)
          (by (start_of (found_image i (log_of w)) line) refl e)
        where
          ended : (b : Bool) → ((if b then states.Full else states.Failed) ≡ states.Full) ⊎ ((if b then states.Full else states.Failed) ≡ states.Failed)
          ended true = inl refl
          ended false = inr refl

          by : (o : Option StartRecord) → start_of (found_image i (log_of w)) line ≡ o → option_map (λ start. start.seq) o ≡ Some seq
              → (state_in i (log_of w) line AsFound ≡ states.Full) ⊎ (state_in i (log_of w) line AsFound ≡ states.Failed)
          by None f e = absurd (none-some seq e)
          by (Some start) f e =
              subst (λ o. (state_found i (log_of w) line o ≡ states.Full) ⊎ (state_found i (log_of w) line o ≡ states.Failed)) (sym f)
              (ended (is_some (end_of (found_image i (log_of w)) line start)))
