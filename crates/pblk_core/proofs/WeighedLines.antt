-- What a core weighs of a line is what the choice looks at by the logs. So the best line that it
-- holds is the next victim.
use Rattle.std.proofs.Common.{◌≡◌, ◌≢◌, ◌⊎◌, inl, inr, ℕ, ◌+◌, ◌<◌, ◌≤◌, ◌==◌, ◌&&◌, ◌||◌, nat_lt, nat_le, Bool, true, false, Some, None, Option, List, length, refl, sym, subst, ap, ap₂, ◌∙◌, arith, if◌then◌else◌}
use Rattle.std.specs.Prelude.{slice_get}
use Rattle.std.specs.Option.{IfSome, IfNone, option_and_then, option_map}
use Rattle.std.proofs.lemmas.Bool.{cases_order}
use Rattle.std.proofs.lemmas.Option.{same_Some}
use Rattle.pblk_model.specs.Image.{Image}
use Rattle.pblk_model.specs.LineOrder.{data_len}
use Rattle.pblk_layout.specs.Online.{units_in}
use Rattle.pblk_world.specs.Lines.{known_image, line_data}
use Rattle.pblk_world.specs.Victims.{candidate, is_before, is_failed_before, next_victim}
use Rattle.pblk_world.specs.Victims as logs_say
use Rattle.pblk_world.specs.World.{World, Logs}
use Rattle.victim_index.specs.Choice.{AreLevel, Holds, HoldsNone, IsBest, IsPreferred}
use Rattle.victim_index.specs.declared.candidate.Candidate.{Candidate}
use Rattle.pblk_world.specs.LegalMounts.{IsLegalMount}
use Rattle.core_laws.specs.CandidateLines.{candidate_by, is_failed_state}
use Rattle.core_laws.specs.OpenedLines.{online_now}
use Rattle.core_laws.specs.RowsOf.{row_of_line}
use Rattle.core_laws.proofs.CandidateLines.{candidate_by_row}
use Rattle.core_laws.proofs.ChosenVictims.{is_less, is_next_victim, less_is, none_is_next}
use Rattle.core_laws.proofs.PlacedLines.{get_row as row_there}
use Rattle.pblk_model.proofs.Options.{map_some, none_of_map}
use Rattle.pblk_model.proofs.Parts.{get_below, get_past, got_within}
use Rattle.pblk_model.proofs.Tests.{and_refused, not_before, other_number}
use Rattle.line_table.specs.declared.row.Row.{Row}
use Rattle.pblk_core.specs.declared.line_notes.LineNote.{LineNote}
use Rattle.pblk_core.specs.declared.line_notes.StartNote.{StartNote}
use Rattle.pblk_core.specs.declared.target_core.Core.{Core}
use Rattle.pblk_core.specs.Collecting.{IsTabled, weighed, weighed_by}
use Rattle.pblk_core.specs.LineNotes.{closed_by, numbers_in, outdated_seq}
use Rattle.pblk_core.specs.Stands.{Stands}
use Rattle.pblk_core.proofs.LineBits.{bits_width}
use Rattle.pblk_core.proofs.SpentTables.{row_stands}

-- what the choice looks at, without the line
abbrev pub without_line : logs_say.Candidate → Candidate
without_line c = record { failed = c.failed; live = c.live; seq = c.seq }

-- ---- a line is weighed

-- by its note and the newest start record
told : (note : LineNote) (newest : Option StartNote) (failed : Bool) (live ws_opt addresses line : ℕ)
    → (if nat_le (live + ws_opt) addresses
    then option_map (λ seq. record { failed = failed; live = live; seq = seq }) (outdated_seq note newest) else None)
    ≡ option_map without_line (candidate_by (closed_by note) (option_map numbers_in newest) failed live ws_opt addresses line)
told note None failed live ws_opt addresses line = go note.closed (nat_le (live + ws_opt) addresses)
  where
    go : (closed fits : Bool) → (if fits then option_map {T = ℕ} {U = Candidate} (λ seq. record { failed = failed; live = live; seq = seq }) None else None)
        ≡ option_map without_line
        (candidate_by (if closed then Some (record { seq = note.seq; top = note.top }) else None) None failed live ws_opt addresses line)
    go false false = refl
    go false true = refl
    go true false = refl
    go true true = refl
told note (Some start) failed live ws_opt addresses line = go note.closed
  where
    fits_none : (fits : Bool)
        → (if fits then option_map {T = ℕ} {U = Candidate} (λ seq. record { failed = failed; live = live; seq = seq }) None else None) ≡ None
    fits_none false = refl
    fits_none true = refl

    by : (older below fits : Bool)
        → (if fits then option_map {T = ℕ} {U = Candidate} (λ seq. record { failed = failed; live = live; seq = seq })
        (if older && below then Some note.seq else None) else None)
        ≡ option_map without_line (if older && below && fits
        then Some (record { line = line; failed = failed; live = live; seq = note.seq }) else None)
    by false below false = refl
    by false below true = refl
    by true false false = refl
    by true false true = refl
    by true true false = refl
    by true true true = refl

    go : (closed : Bool)
        → (if nat_le (live + ws_opt) addresses then option_map {T = ℕ} {U = Candidate} (λ seq. record { failed = failed; live = live; seq = seq })
        (if closed && (nat_lt note.seq start.seq && nat_le note.top start.front) then Some note.seq else None) else None)
        ≡ option_map without_line (candidate_by (if closed then Some (record { seq = note.seq; top = note.top }) else None) (Some (numbers_in start))
        failed live ws_opt addresses line)
    go false = fits_none (nat_le (live + ws_opt) addresses)
    go true = by (nat_lt note.seq start.seq) (nat_le note.top start.front) (nat_le (live + ws_opt) addresses)

module _ {c : Core} (i : Image) (w : World) (logs : Logs) (mount : IsLegalMount i w) (st : Stands i logs c) where
  live_is : (line : ℕ) → line < i.shape.chunks → slice_get c.online.items line ≡ Some (online_now i logs line)
  live_is line inside =
      let from : 0 + line ≡ line = omega arith in
      ap (λ us. slice_get us line) st.units ∙ row_there (online_now i logs) i.shape.chunks 0 line inside ∙ ap (λ n. Some (online_now i logs n)) from

  addresses_are : (line : ℕ) → data_len c.layout (length (units_in (online_now i logs line))) ≡ line_data (known_image i logs) line
  addresses_are line = ap₂ data_len st.layout (bits_width i w logs line mount)

  by_note : (line : ℕ) (note : LineNote) → slice_get c.notes.rows.items line ≡ Some note
      → weighed_by c.layout c.notes.newest note (row_of_line i logs line) (online_now i logs line) ≡ option_map without_line (candidate i logs line)
  by_note line note there =
      let row : Row = row_of_line i logs line in
      told note c.notes.newest (is_failed_state row.state) row.live c.layout.ws_opt (data_len c.layout (length (units_in (online_now i logs line)))) line
      ∙ (λ k. option_map without_line (candidate_by (st.notes.closed line note there k) (st.notes.newest k) (is_failed_state row.state) row.live
      (st.layout k).ws_opt (addresses_are line k) line))
      ∙ ap (option_map without_line) (sym (candidate_by_row i logs line))

  pub weighed_is : (line : ℕ) → line < i.shape.chunks → weighed c line ≡ option_map without_line (candidate i logs line)
  weighed_is line inside =
      let count : length c.notes.rows.items ≡ i.shape.chunks = st.notes.count in
      let note = got_within c.notes.rows.items line (omega arith) in
      (λ k. option_and_then (λ (n : LineNote). option_and_then (λ (row : Row). option_and_then (weighed_by c.layout c.notes.newest n row)
      (live_is line inside k)) (row_stands i logs st line inside k)) (note.1 k))
      ∙ by_note line note.0 note.1

  -- so where no line may be collected by the tables none comes next
  pub none_weighed : ((line : ℕ) → weighed c line ≡ None) → next_victim i logs ≡ None
  none_weighed none = none_is_next i logs
      (λ line inside. none_of_map without_line (candidate i logs line) (sym (weighed_is line inside) ∙ none line))

-- ---- one is before another

less_not : (l s m t : ℕ) → (m < l) ⊎ ((l ≡ m) × (t ≤ s)) → is_less l s m t ≡ false
less_not l s m t (inl above) =
    let other : l ≢ m = λ e. absurd (omega arith) in
    ap₂ (λ p q. p || (q && nat_lt s t)) (not_before l m (omega arith)) (other_number l m other)
less_not l s m t (inr level) =
    let same : l ≡ m = level.0 in
    let past : t ≤ s = level.1 in
    ap₂ (λ p q. p || ((l == m) && q)) (not_before l m (omega arith)) (not_before s t past) ∙ and_refused (l == m)

same_failed : (f x : Bool) → is_failed_before f f x ≡ x
same_failed false x = refl
same_failed true x = refl

by_rest : (a b : logs_say.Candidate) → a.failed ≡ b.failed → is_before a b ≡ is_less a.live a.seq b.live b.seq
by_rest a b e =
    ap (λ f. is_failed_before f b.failed (is_less a.live a.seq b.live b.seq)) e ∙ same_failed b.failed (is_less a.live a.seq b.live b.seq)

preferred_first : (a b : logs_say.Candidate) → IsPreferred (without_line a) (without_line b) → is_before a b ≡ true
preferred_first a b (inl failed) = ap₂ (λ f g. is_failed_before f g (is_less a.live a.seq b.live b.seq)) failed.0 failed.1
preferred_first a b (inr less) = by_rest a b less.0 ∙ less_is a.live a.seq b.live b.seq less.1

preferred_not : (a b : logs_say.Candidate) → IsPreferred (without_line a) (without_line b) → is_before b a ≡ false
preferred_not a b (inl failed) = ap₂ (λ f g. is_failed_before f g (is_less b.live b.seq a.live a.seq)) failed.1 failed.0
preferred_not a b (inr less) = by_rest b a (sym less.0) ∙ less_not b.live b.seq a.live a.seq (go less.1)
  where
    go : (a.live < b.live) ⊎ ((a.live ≡ b.live) × (a.seq < b.seq)) → (a.live < b.live) ⊎ ((b.live ≡ a.live) × (a.seq ≤ b.seq))
    go (inl x) = inl x
    go (inr x) = let low : a.seq < b.seq = x.1 in inr (sym x.0, omega arith)

level_not : (a b : logs_say.Candidate) → AreLevel (without_line a) (without_line b) → is_before b a ≡ false
level_not a b level =
    let seqs : a.seq ≡ b.seq = level.2 in
    by_rest b a (sym level.0) ∙ less_not b.live b.seq a.live a.seq (inr (sym level.1, omega arith))

-- ---- so the best line that is held is the next victim

module _ {c : Core} (i : Image) (w : World) (logs : Logs) (mount : IsLegalMount i w) (st : Stands i logs c)
    (rows : List (Option Candidate)) (count : length rows ≡ i.shape.chunks)
    (each : (line : ℕ) → line < i.shape.chunks → slice_get rows line ≡ Some (weighed c line)) where
  held_is : (line : ℕ) → line < i.shape.chunks → slice_get rows line ≡ Some (option_map without_line (candidate i logs line))
  held_is line inside = each line inside ∙ ap (λ o. Some o) (weighed_is i w logs mount st line inside)

  holds : (line : ℕ) (d : logs_say.Candidate) → line < i.shape.chunks → candidate i logs line ≡ Some d → Holds rows line (without_line d)
  holds line d inside is = held_is line inside ∙ ap (λ o. Some (option_map without_line o)) is

  best_is : (line : ℕ) → IsBest rows line → next_victim i logs ≡ Some line
  best_is line best =
      let within : line < length rows = get_below rows line (Some best.candidate) best.held in
      let inside : line < i.shape.chunks = omega arith in
      let its = map_some without_line (candidate i logs line) best.candidate
      (same_Some (option_map without_line (candidate i logs line)) (Some best.candidate) (sym (held_is line inside) ∙ best.held)) in
      is_next_victim i logs line (record {
        in_range = inside;
        chosen = its.0;
        is_candidate = its.1;
        none_before = λ other d low is. none its.0 its.1 its.2 inside other d low is (cases_order other line);
        first = λ other d less is. before its.0 its.2 other d less
            (best.preferred other (without_line d) (holds other d (omega arith) is) (λ e. absurd (omega arith)));
      })
    where
      before : (chosen : logs_say.Candidate) → without_line chosen ≡ best.candidate → (other : ℕ) (d : logs_say.Candidate) → other < line
          → IsPreferred best.candidate (without_line d) ⊎ (AreLevel best.candidate (without_line d) × (line < other)) → is_before chosen d ≡ true
      before chosen same other d less (inl preferred) =
          preferred_first chosen d (subst (λ (x : Candidate). IsPreferred x (without_line d)) (sym same) preferred)
      before chosen same other d less (inr level) = let past : line < other = level.1 in absurd (omega arith)

      apart : (chosen : logs_say.Candidate) → without_line chosen ≡ best.candidate → (other : ℕ) (d : logs_say.Candidate)
          → IsPreferred best.candidate (without_line d) ⊎ (AreLevel best.candidate (without_line d) × (line < other)) → is_before d chosen ≡ false
      apart chosen same other d (inl preferred) =
          preferred_not chosen d (subst (λ (x : Candidate). IsPreferred x (without_line d)) (sym same) preferred)
      apart chosen same other d (inr level) =
          level_not chosen d (subst (λ (x : Candidate). AreLevel x (without_line d)) (sym same) level.0)

      none : (chosen : logs_say.Candidate) → candidate i logs line ≡ Some chosen → without_line chosen ≡ best.candidate → line < i.shape.chunks
          → (other : ℕ) (d : logs_say.Candidate) → other < i.shape.chunks → candidate i logs other ≡ Some d
          → (other ≡ line) ⊎ ((other < line) ⊎ (line < other)) → is_before d chosen ≡ false
      none chosen its same inside other d low is (inl here) =
          let one : chosen ≡ d = same_Some chosen d (sym its ∙ ap (candidate i logs) (sym here) ∙ is) in
          level_not chosen d (
            ap (λ (x : logs_say.Candidate). x.failed) one,
            ap (λ (x : logs_say.Candidate). x.live) one,
            ap (λ (x : logs_say.Candidate). x.seq) one,
          )
      none chosen its same inside other d low is (inr apart_by) =
          apart chosen same other d (best.preferred other (without_line d) (holds other d low is) (go apart_by))
        where
          go : (other < line) ⊎ (line < other) → other ≢ line
          go (inl less) = λ e. absurd (omega arith)
          go (inr more) = λ e. absurd (omega arith)

  none_is : HoldsNone rows → next_victim i logs ≡ None
  none_is none = none_is_next i logs (λ line inside. go line inside (candidate i logs line) refl)
    where
      go : (line : ℕ) → line < i.shape.chunks → (o : Option logs_say.Candidate) → candidate i logs line ≡ o → o ≡ None
      go line inside None e = refl
      go line inside (Some d) e = absurd (none line (without_line d) (holds line d inside e))

  pub next_is : (o : Option ℕ) → IfSome o (IsBest rows) → IfNone o (HoldsNone rows) → o ≡ next_victim i logs
  next_is None best none = sym (none_is none)
  next_is (Some line) best none = sym (best_is line best)

-- where none is held no line may be collected
pub none_held : (c : Core) (rows : List (Option Candidate)) → IsTabled c
    → ((line : ℕ) → line < c.layout.chunks → slice_get rows line ≡ Some (weighed c line)) → HoldsNone rows → (line : ℕ) → weighed c line ≡ None
none_held c rows tabled each none line = go (cases_order line c.layout.chunks)
  where
    of_line : (o : Option Candidate) → slice_get rows line ≡ Some o → o ≡ None
    of_line None there = refl
    of_line (Some d) there = absurd (none line d there)

    past : c.layout.chunks ≤ line → weighed c line ≡ None
    past high =
        let noted : length c.notes.rows.items ≡ c.layout.chunks = tabled.each.noted in
        ap (option_and_then (λ (note : LineNote). option_and_then (λ (row : Row). option_and_then (weighed_by c.layout c.notes.newest note row)
        (slice_get c.online.items line)) (slice_get c.lines.rows line))) (get_past c.notes.rows.items line (omega arith))

    go : (line ≡ c.layout.chunks) ⊎ ((line < c.layout.chunks) ⊎ (c.layout.chunks < line)) → weighed c line ≡ None
    go (inl last) = past (omega arith)
    go (inr (inl inside)) = of_line (weighed c line) (each line inside)
    go (inr (inr beyond)) = past (omega arith)

pub if_none_held : (c : Core) (rows : List (Option Candidate)) (o : Option ℕ) → IsTabled c
    → ((line : ℕ) → line < c.layout.chunks → slice_get rows line ≡ Some (weighed c line)) → IfNone o (HoldsNone rows)
    → IfNone o ((line : ℕ) → weighed c line ≡ None)
if_none_held c rows None tabled each none = none_held c rows tabled each none
if_none_held c rows (Some line) tabled each none = tt

-- a line that is held is one of the drive
pub best_inside : (rows : List (Option Candidate)) (o : Option ℕ) → IfSome o (IsBest rows) → IfSome o (λ line. line < length rows)
best_inside rows None best = tt
best_inside rows (Some line) best = get_below rows line (Some best.candidate) best.held
