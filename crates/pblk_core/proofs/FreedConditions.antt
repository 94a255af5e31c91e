-- What the parts of a core ask of a line that it frees, and that one line less is closed then.
use Rattle.std.proofs.Common.{◌≡◌, ◌≢◌, ◌⊎◌, inl, inr, ℕ, ◌+◌, ◌<◌, ◌≤◌, zero, suc, Bool, true, false, ◌&&◌, cond, Some, None, Option, List, [], ◌∷◌, length, refl, sym, subst, ap, ap₂, ◌∙◌, arith, if◌then◌else◌}
use Rattle.std.specs.Prelude.{◌==◌, slice_get, slice_set}
use Rattle.std.specs.List.{AllByRecursion, cons_option, filter, filter_map, range_with_len}
use Rattle.std.proofs.lemmas.Bool.{cases_lt}
use Rattle.std.proofs.lemmas.Option.{none-some, same_Some, slice_get_within}
use Rattle.pblk_model.specs.declared.shape.Shape.{Shape}
use Rattle.pblk_model.specs.Shape.{units}
use Rattle.pblk_model.specs.Image.{Image}
use Rattle.pblk_model.specs.StartRecord.{Row as OlderRow, StartRecord, start_of}
use Rattle.pblk_meta.specs.Records.{start_numbers}
use Rattle.pblk_layout.specs.Online.{units_in}
use Rattle.pblk_world.specs.EngineLog.{is_as_found, life_of}
use Rattle.pblk_world.specs.Freeing.{MayFree}
use Rattle.pblk_world.specs.Lines.{are_empty, found_image, known_image}
use Rattle.pblk_world.specs.Starts.{found_row, older_row}
use Rattle.pblk_world.specs.World.{World, Logs, log_of}
use Rattle.pblk_world.specs.LegalMounts.{IsLegalMount}
use Rattle.line_table.specs.declared.row.LineState.{LineState}
use Rattle.line_table.specs.declared.row.LineState.TheVariants as states
use Rattle.line_table.specs.declared.row.Row.{Row}
use Rattle.line_table.specs.Rows.{IsChange, IsOutlivedLine, IsRow, Table, is_full_or_failed, is_outlived}
use Rattle.core_laws.specs.OpenedLines.{online_now}
use Rattle.core_laws.specs.RowsOf.{row_of_line}
use Rattle.core_laws.proofs.FreedRows.{state_was}
use Rattle.core_laws.proofs.FreedWidths.{not_given_up, numbered_used}
use Rattle.core_laws.proofs.PlacedLines.{get_row as row_there}
use Rattle.pblk_core.specs.declared.line_notes.LineNote.{LineNote}
use Rattle.pblk_core.specs.declared.target_core.Core.{Core}
use Rattle.pblk_core.specs.Freeing.{HaveRisen, IsSpentIn}
use Rattle.pblk_core.specs.LineNotes.{note_freed}
use Rattle.pblk_core.specs.Resets.{HasNoneOf, resets_left, used_in, used_units}
use Rattle.pblk_core.specs.Stands.{IsStanding, Stands}
use Rattle.pblk_core.proofs.LeftOut.{left_out}
use Rattle.pblk_core.proofs.LineBits.{bits_width, known_count, known_width}
use Rattle.pblk_core.proofs.ResetUnits.{unused_empty}
use Rattle.pblk_core.proofs.SpentTables.{closed_where_spent, freed_where_spent, its_row}

-- ---- rows of lines that rise

rows_above : (f : ℕ → Option OlderRow) → ((m : ℕ) (row : OlderRow) → f m ≡ Some row → row.line ≡ m) → (line a n : ℕ) → line < a
    → AllByRecursion (λ (other : OlderRow). line < other.line) (filter_map f (range_with_len a n))
rows_above f own line a zero low = tt
rows_above f own line a (suc n) low = go (f a) refl (rows_above f own line (a + 1) n (omega arith))
  where
    go : (o : Option OlderRow) → f a ≡ o → AllByRecursion (λ (other : OlderRow). line < other.line) (filter_map f (range_with_len (a + 1) n))
        → AllByRecursion (λ (other : OlderRow). line < other.line) (cons_option o (filter_map f (range_with_len (a + 1) n)))
    go None e rest = rest
    go (Some row) e rest = let its : row.line ≡ a = own a row e in (omega arith, rest)

rows_rise : (f : ℕ → Option OlderRow) → ((m : ℕ) (row : OlderRow) → f m ≡ Some row → row.line ≡ m) → (a n : ℕ)
    → HaveRisen (filter_map f (range_with_len a n))
rows_rise f own a zero = tt
rows_rise f own a (suc n) = go (f a) refl (rows_rise f own (a + 1) n)
  where
    go : (o : Option OlderRow) → f a ≡ o → HaveRisen (filter_map f (range_with_len (a + 1) n))
        → HaveRisen (cons_option o (filter_map f (range_with_len (a + 1) n)))
    go None e rest = rest
    go (Some row) e rest =
        let its : row.line ≡ a = own a row e in
        (rows_above f own row.line (a + 1) n (omega arith), rest)

older_line : (i : Image) (logs : Logs) (m : ℕ) (row : OlderRow) → older_row i logs m ≡ Some row → row.line ≡ m
older_line i logs m row is = go (is_as_found (life_of (logs 0) m)) (start_of (found_image i logs) m) is
  where
    go : (b : Bool) (o : Option StartRecord) → (if b then found_row i logs m o else None) ≡ Some row → row.line ≡ m
    go false o e = absurd (none-some row e)
    go true None e = absurd (none-some row e)
    go true (Some start) e = ap (λ (r : OlderRow). r.line) (sym (same_Some _ row e))

-- ---- one closed line less

pub fewer_closed : (rows : List LineNote) (k : ℕ) (row : LineNote) → slice_get rows k ≡ Some row → row.closed ≡ true
    → length (filter (λ (r : LineNote). r.closed) (slice_set rows k (note_freed row))) < length (filter (λ (r : LineNote). r.closed) rows)
fewer_closed [] k row at closed = absurd (none-some row at)
fewer_closed (x ∷ rows) zero row at closed =
    let own : x.closed ≡ true = ap (λ (r : LineNote). r.closed) (same_Some x row at) ∙ closed in
    subst (λ b. length (filter (λ (r : LineNote). r.closed) rows)
    < length (cond b (x ∷ filter (λ (r : LineNote). r.closed) rows) (filter (λ (r : LineNote). r.closed) rows))) (sym own) (omega arith)
fewer_closed (x ∷ rows) (suc k) row at closed =
    go x.closed (filter (λ (r : LineNote). r.closed) (slice_set rows k (note_freed row))) (filter (λ (r : LineNote). r.closed) rows)
    (fewer_closed rows k row at closed)
  where
    go : (b : Bool) (ls ms : List LineNote) → length ls < length ms → length (cond b (x ∷ ls) ls) < length (cond b (x ∷ ms) ms)
    go true ls ms less = omega arith
    go false ls ms less = less

-- ---- a line that may be freed is Full or Failed, and no sector is live in it

module _ (c : Core) (line : ℕ) (standing : IsStanding c) (spent : IsSpentIn c line) where
  state_ended : (spent.row.state ≡ states.Full) ⊎ (spent.row.state ≡ states.Failed)
  state_ended =
      let i = standing.image in
      let w = standing.world in
      let may : MayFree i (log_of w) line = freed_where_spent i w standing.legal standing.stands line spent in
      let same : row_of_line i (log_of w) line ≡ spent.row =
      same_Some (row_of_line i (log_of w) line) spent.row (sym (its_row i w standing.legal standing.stands line may.in_range) ∙ spent.is_row) in
      subst (λ (r : Row). (r.state ≡ states.Full) ⊎ (r.state ≡ states.Failed)) same
      (state_was i w standing.legal line [] may.seq may.has_seq may.over)

  pub spent_outlived : IsOutlivedLine c.lines line
  spent_outlived = (spent.row, spent.is_row, ended state_ended)
    where
      by : (state : LineState) → is_full_or_failed state ≡ true → (is_full_or_failed state && spent.row.live == 0) ≡ true
      by state e = ap₂ (λ b n. b && n == 0) e spent.spent.none_live

      ended : (spent.row.state ≡ states.Full) ⊎ (spent.row.state ≡ states.Failed) → is_outlived spent.row ≡ true
      ended (inl e) = by spent.row.state (ap is_full_or_failed e)
      ended (inr e) = by spent.row.state (ap is_full_or_failed e)

-- So where no line before one is spent, and none from it on is such a one up to another, none
-- before the other is spent.
pub none_spent_before : (c : Core) (from line : ℕ) → IsStanding c → ((m : ℕ) → m < from → ¬ IsSpentIn c m)
    → ((m : ℕ) → from ≤ m → m < line → ¬ IsOutlivedLine c.lines m) → (m : ℕ) → m < line → ¬ IsSpentIn c m
none_spent_before c from line standing before between m below spent = go (cases_lt m from)
  where
    go : (m < from) ⊎ (from ≤ m) → ⊥
    go (inl low) = before m low spent
    go (inr past) = between m past below (spent_outlived c m standing spent)

-- ---- what is asked

pub record MayGiveUp (c : Core) (line : ℕ) : Type 0 where
  pub line_units : line < length c.online.items
  pub few : (live : ℕ) → slice_get c.online.items line ≡ Some live → length (units_in live) ≤ units c.lines.shape
  pub line_row : line < length c.lines.rows
  pub turns : (row : Row) (addresses : ℕ) → IsRow c.lines line row → IsChange row.state states.Freed addresses
  pub noted : line < length c.notes.rows.items
  pub none_left : HasNoneOf line (resets_left c.resets)
  pub some_used : units_in (used_in c.resets line) ≢ []
  pub risen : HaveRisen (start_numbers c.start).rows

pub may_give_up : (c : Core) (line : ℕ) → IsStanding c → IsSpentIn c line → MayGiveUp c line
may_give_up c line standing spent = record {
  line_units = slice_get_within c.online.items line (online_now i (log_of w) line) live_there;
  few = λ live there.
      let own : online_now i (log_of w) line ≡ live = same_Some (online_now i (log_of w) line) live (sym live_there ∙ there) in
      let wide = bits_width i w (log_of w) line mount in
      let low = known_width i w (log_of w) line mount in
      subst (λ (s : Shape). length (units_in live) ≤ units s) (sym (ap (λ (t : Table). t.shape) st.table))
      (subst (λ us. length (units_in us) ≤ units i.shape) own (omega (arith, wide, low)));
  line_row = slice_get_within c.lines.rows line (row_of_line i (log_of w) line) row_is;
  turns = λ row addresses there.
      subst (λ (r : Row). IsChange r.state states.Freed addresses) (same_Some spent.row row (sym spent.is_row ∙ there))
      (turned_from addresses (state_ended c line standing spent));
  noted = slice_get_within c.notes.rows.items line spent.note spent.is_note;
  none_left = subst (HasNoneOf line) (sym st.resets)
      (left_out i (log_of w) line (not_given_up i w mount line st.beginning st.has_begun may.seq may.has_seq));
  some_used = some;
  risen = subst HaveRisen (sym st.older) (rows_rise (older_row i (log_of w)) (older_line i (log_of w)) 0 i.shape.chunks);
}
  where
    i : Image
    i = standing.image

    w : World
    w = standing.world

    mount : IsLegalMount standing.image standing.world
    mount = standing.legal

    st : Stands i (log_of w) c
    st = standing.stands

    may : MayFree i (log_of w) line
    may = freed_where_spent i w mount st line spent

    from : 0 + line ≡ line
    from = omega arith

    live_there : slice_get c.online.items line ≡ Some (online_now i (log_of w) line)
    live_there = ap (λ us. slice_get us line) st.units ∙ row_there (online_now i (log_of w)) i.shape.chunks 0 line may.in_range
        ∙ ap (λ n. Some (online_now i (log_of w) n)) from

    row_is : IsRow c.lines line (row_of_line i (log_of w) line)
    row_is = its_row i w mount st line may.in_range

    turned_from : (addresses : ℕ) → (spent.row.state ≡ states.Full) ⊎ (spent.row.state ≡ states.Failed)
        → IsChange spent.row.state states.Freed addresses
    turned_from addresses (inl full) = subst (λ was. IsChange was states.Freed addresses) (sym full) refl
    turned_from addresses (inr failed) = subst (λ was. IsChange was states.Freed addresses) (sym failed) refl

    some : units_in (used_in c.resets line) ≢ []
    some none_used =
        let none : used_units (known_image i (log_of w)) line ≡ [] =
        sym (st.used line (record { seq = spent.note.seq; top = spent.note.top }) (closed_where_spent i w mount st line spent)) ∙ none_used in
        let empty : are_empty (known_image i (log_of w)) line ≡ true =
        unused_empty (known_image i (log_of w)) line (known_count i w (log_of w) mount) none in
        let used : are_empty (known_image i (log_of w)) line ≡ false =
        numbered_used i w mount line st.beginning st.has_begun may.seq may.has_seq may.over in
        absurd cc
