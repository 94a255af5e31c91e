-- Lines that may be collected, after a step of the inner tables: none that might not be before,
-- where the step changed what is kept of one line alone, and that line isn't closed.
use Rattle.std.proofs.Common.{◌≡◌, ◌≢◌, ◌⊎◌, inl, inr, eqb, ℕ, ◌+◌, ◌<◌, ◌&&◌, not, nat_lt, nat_le, Bool, true, false, Some, None, Option, List, [], ◌∷◌, length, refl, sym, subst, ap, ◌∙◌, if◌then◌else◌}
use Rattle.std.specs.Prelude.{is_some, slice_get, slice_set}
use Rattle.std.specs.Option.{option_and_then, option_map}
use Rattle.std.proofs.lemmas.Bool.Decides.{eqb_tells}
use Rattle.std.proofs.lemmas.Option.{none-some, same_Some}
use Rattle.pblk_model.specs.declared.shape.Shape.{Shape}
use Rattle.pblk_model.specs.Image.{Image}
use Rattle.pblk_model.specs.LineOrder.{data_len}
use Rattle.pblk_layout.specs.Online.{units_in}
use Rattle.pblk_world.specs.World.{World, log_of}
use Rattle.pblk_world.specs.LegalMounts.{IsLegalMount}
use Rattle.victim_index.specs.declared.candidate.Candidate.{Candidate}
use Rattle.line_table.specs.declared.row.LineState.TheVariants.{Failed, Full}
use Rattle.line_table.specs.declared.row.Row.{Row}
use Rattle.line_table.specs.Rows.{Changes, IsRow, Table, lost_to_taker, lowered, noted}
use Rattle.core_laws.specs.CandidateLines.{is_failed_state}
use Rattle.core_laws.specs.ChangedTables.{lose_in, note_by}
use Rattle.core_laws.specs.ClosedLines.{ClosedLine, closed_line}
use Rattle.core_laws.specs.PlacedEntries.{gained, place_by}
use Rattle.core_laws.specs.RowsOf.{row_of_line}
use Rattle.core_laws.proofs.FreedRows.{state_was}
use Rattle.core_laws.proofs.VictimsAtWork.{over_where_closed}
use Rattle.pblk_model.proofs.Options.{none_there}
use Rattle.pblk_model.proofs.Parts.{get_below, got_within, get_set_other, get_set_same}
use Rattle.pblk_model.proofs.Tests.{first_of, not_true, second_of}
use Rattle.pblk_core.specs.declared.hold.Hold.{Hold}
use Rattle.pblk_core.specs.declared.line_notes.LineNote.{LineNote}
use Rattle.pblk_core.specs.declared.line_notes.LineNotes.{LineNotes}
use Rattle.pblk_core.specs.declared.line_notes.StartNote.{StartNote}
use Rattle.pblk_core.specs.declared.target_core.Core.{Core}
use Rattle.pblk_core.specs.Collecting.{BringsNone, BringsNoneBut, IsBarrenRightly, weighed, weighed_by}
use Rattle.pblk_core.specs.Entries.{note_hold, noted_lines, place_hold, placed_lines}
use Rattle.pblk_core.specs.Holds.{row_at}
use Rattle.pblk_core.specs.LineNotes.{closed_by, outdated_seq}
use Rattle.pblk_core.specs.Stands.{Stands}
use Rattle.pblk_core.proofs.NotedEntries.{row_elsewhere}
use Rattle.pblk_core.proofs.NotesSet.{note_unclosed}
use Rattle.pblk_core.proofs.SpentTables.{row_stands}

-- ---- what is weighed of a line is what was, where what is kept of it is

pub record IsKeptAt (old new : Core) (line : ℕ) : Type 0 where
  pub notes : slice_get new.notes.rows.items line ≡ slice_get old.notes.rows.items line
  pub rows : slice_get new.lines.rows line ≡ slice_get old.lines.rows line
  pub online : slice_get new.online.items line ≡ slice_get old.online.items line

weighed_same : (old new : Core) (line : ℕ) → new.layout ≡ old.layout → new.notes.newest ≡ old.notes.newest → IsKeptAt old new line
    → weighed new line ≡ weighed old line
weighed_same old new line layout newest kept = λ k. option_and_then (λ (note : LineNote). option_and_then (λ (row : Row). option_and_then
    (weighed_by (layout k) (newest k) note row) (kept.online k)) (kept.rows k)) (kept.notes k)

-- ---- a line that isn't closed may not be collected

abbrev pub IsUnclosed : Core → ℕ → Type 0
IsUnclosed c line = (note : LineNote) → slice_get c.notes.rows.items line ≡ Some note → note.closed ≡ false

none_then : {X Y : Type 0} (o : Option X) (f : X → Option Y) → ((x : X) → o ≡ Some x → f x ≡ None) → option_and_then f o ≡ None
none_then None f none = refl
none_then (Some x) f none = none x refl

either_none : {X : Type 0} (b : Bool) → ◌≡◌ {A = Option X} (if b then None else None) None
either_none true = refl
either_none false = refl

outdated_none : (note : LineNote) (newest : Option StartNote) → note.closed ≡ false → outdated_seq note newest ≡ None
outdated_none note None unclosed = refl
outdated_none note (Some start) unclosed =
    ap (λ b. if b && (nat_lt note.seq start.seq && nat_le note.top start.front) then Some note.seq else None) unclosed

unclosed_by : (s : Shape) (newest : Option StartNote) (note : LineNote) (row : Row) (live : ℕ) → note.closed ≡ false
    → weighed_by s newest note row live ≡ None
unclosed_by s newest note row live unclosed =
    let fits = nat_le (row.live + s.ws_opt) (data_len s (length (units_in live))) in
    ap (λ (o : Option ℕ). if fits then option_map {U = Candidate} (λ seq. record { failed = is_failed_state row.state; live = row.live; seq = seq }) o
    else None) (outdated_none note newest unclosed)
    ∙ either_none fits

weighed_none : (c : Core) (line : ℕ) → IsUnclosed c line → weighed c line ≡ None
weighed_none c line unclosed =
    none_then (slice_get c.notes.rows.items line) _
    (λ note there. none_then (slice_get c.lines.rows line) _
    (λ row at. none_then (slice_get c.online.items line) _
    (λ live has. unclosed_by c.layout c.notes.newest note row live (unclosed note there))))

-- ---- a step that changed what is kept of one line alone

pub record IsKeptBeside (old new : Core) (line : ℕ) : Type 0 where
  pub layout : new.layout ≡ old.layout
  pub newest : new.notes.newest ≡ old.notes.newest
  pub others : (other : ℕ) → other ≢ line → IsKeptAt old new other

pub brings_none : (old new : Core) (line : ℕ) → IsKeptBeside old new line → IsUnclosed new line → BringsNone old new
brings_none old new line kept unclosed = λ other none. go other none (eqb_tells other line)
  where
    go : (other : ℕ) → weighed old other ≡ None → ((eqb other line ≡ true) × (other ≡ line)) ⊎ ((eqb other line ≡ false) × (other ≢ line))
        → weighed new other ≡ None
    go other none (inl here) = subst (λ n. weighed new n ≡ None) (sym here.1) (weighed_none new line unclosed)
    go other none (inr apart) = weighed_same old new other kept.layout kept.newest (kept.others other apart.1) ∙ none

-- or of none
pub brings_kept : (old new : Core) → new.layout ≡ old.layout → new.notes ≡ old.notes → new.lines ≡ old.lines → new.online ≡ old.online → BringsNone old new
brings_kept old new layout notes lines live = λ line none. weighed_same old new line layout (ap (λ (n : LineNotes). n.newest) notes) (record {
  notes = ap (λ (n : LineNotes). slice_get n.rows.items line) notes;
  rows = ap (λ (t : Table). slice_get t.rows line) lines;
  online = ap (λ us. slice_get us.items line) live;
}) ∙ none

-- or of this one, if one is named
pub record IsKeptBut (at : Option ℕ) (old new : Core) : Type 0 where
  pub layout : new.layout ≡ old.layout
  pub newest : new.notes.newest ≡ old.notes.newest
  pub others : (other : ℕ) → at ≢ Some other → IsKeptAt old new other

pub brings_but : (at : Option ℕ) (old new : Core) → IsKeptBut at old new → BringsNoneBut at old new
brings_but at old new kept = λ other apart none. weighed_same old new other kept.layout kept.newest (kept.others other apart) ∙ none

-- ---- so what is noted of them stays right

pub barren_kept : (old new : Core) → IsBarrenRightly old → BringsNone old new → new.collection.barren ≡ old.collection.barren → IsBarrenRightly new
barren_kept old new was brings same = λ barren line. brings line (was (sym same ∙ barren) line)

pub barren_if : (old mid new : Core) (may_be : Bool) → IsBarrenRightly old → (may_be ≡ false → BringsNone old mid)
    → new.collection.barren ≡ (old.collection.barren && not may_be) → BringsNone mid new → IsBarrenRightly new
barren_if old mid new may_be was brings is rest = λ barren line.
    let both : (old.collection.barren && not may_be) ≡ true = sym is ∙ barren in
    rest line (brings (not_true may_be (second_of old.collection.barren (not may_be) both)) line
    (was (first_of old.collection.barren (not may_be) both) line))

-- where the line that lost a sector was weighed
pub barren_but : (old mid new : Core) (at : Option ℕ) (may_be : Bool) → IsBarrenRightly old → BringsNoneBut at old mid
    → (old.collection.barren ≡ true → may_be ≡ is_some (option_and_then (weighed mid) at)) → new.collection.barren ≡ (old.collection.barren && not may_be)
    → BringsNone mid new
    → IsBarrenRightly new
barren_but old mid new at may_be was brings told is rest = λ barren line.
    let both : (old.collection.barren && not may_be) ≡ true = sym is ∙ barren in
    let first : old.collection.barren ≡ true = first_of old.collection.barren (not may_be) both in
    let none : may_be ≡ false = not_true may_be (second_of old.collection.barren (not may_be) both) in
    rest line (by at (none_there (option_and_then (weighed mid) at) (sym (told first) ∙ none)) line (brings line) (was first line))
  where
    by : (at : Option ℕ) → option_and_then (weighed mid) at ≡ None → (line : ℕ) → (at ≢ Some line → weighed old line ≡ None → weighed mid line ≡ None)
        → weighed old line ≡ None → weighed mid line ≡ None
    by None none line brings before = brings (none-some line) before
    by (Some n) none line brings before = go (eqb_tells line n)
      where
        go : ((eqb line n ≡ true) × (line ≡ n)) ⊎ ((eqb line n ≡ false) × (line ≢ n)) → weighed mid line ≡ None
        go (inl here) = ap (weighed mid) here.1 ∙ none
        go (inr apart) = brings (λ e. apart.1 (sym (same_Some n line e))) before

-- ---- lines that aren't closed

-- by the row that is set
pub set_unclosed : (rows new : List LineNote) (line : ℕ) (row : LineNote) → line < length rows → new ≡ slice_set rows line row → row.closed ≡ false
    → (note : LineNote) → slice_get new line ≡ Some note → note.closed ≡ false
set_unclosed rows new line row inside is unclosed = λ note there.
    let same : row ≡ note = same_Some row note (sym (get_set_same rows line row inside) ∙ ap (λ (rs : List LineNote). slice_get rs line) (sym is) ∙ there) in
    ap (λ (n : LineNote). n.closed) (sym same) ∙ unclosed

-- by the logs
pub unclosed_by_logs : (i : Image) (w : World) (c : Core) (line : ℕ) → Stands i (log_of w) c → closed_line i (log_of w) line ≡ None → IsUnclosed c line
unclosed_by_logs i w c line st none = λ note there. note_unclosed note (st.notes.closed line note there ∙ none)

-- by the state of its row
pub unclosed_by_state : (i : Image) (w : World) (c : Core) (line : ℕ) → IsLegalMount i w → Stands i (log_of w) c
    → ((row : Row) → IsRow c.lines line row → (row.state ≢ Full) × (row.state ≢ Failed)) → IsUnclosed c line
unclosed_by_state i w c line mount st other = λ note there.
    note_unclosed note (go note there (closed_line i (log_of w) line) refl)
  where
    go : (note : LineNote) → slice_get c.notes.rows.items line ≡ Some note → (o : Option ClosedLine) → closed_line i (log_of w) line ≡ o → closed_by note ≡ None
    go note there None e = st.notes.closed line note there ∙ e
    go note there (Some closed) e =
        let over = over_where_closed i (log_of w) line closed e in
        let inside : line < i.shape.chunks = subst (λ n. line < n) st.notes.count (get_below c.notes.rows.items line note there) in
        let state = other (row_of_line i (log_of w) line) (row_stands i (log_of w) st line inside) in
        absurd (by state (state_was i w mount line [] closed.seq over.1 over.0))
      where
        by : ((row_of_line i (log_of w) line).state ≢ Full) × ((row_of_line i (log_of w) line).state ≢ Failed)
            → ((row_of_line i (log_of w) line).state ≡ Full) ⊎ ((row_of_line i (log_of w) line).state ≡ Failed) → ⊥
        by state (inl full) = state.0 full
        by state (inr failed) = state.1 failed

-- ---- rows of other lines

pub turned_elsewhere : (old new : Table) (line other : ℕ) (change : Row → Row) → line < length old.rows → Changes old new line change → other ≢ line
    → slice_get new.rows other ≡ slice_get old.rows other
turned_elsewhere old new line other change inside changes apart =
    let row = got_within old.rows line inside in
    ap (λ rows. slice_get rows other) (changes.rows row.0 row.1) ∙ get_set_other old.rows line other (change row.0) apart

pub lost_elsewhere : (at : Option ℕ) (landed : Bool) (by other : ℕ) (t : Table) → at ≢ Some other
    → slice_get (lose_in at landed by t).rows other ≡ slice_get t.rows other
lost_elsewhere None landed by other t apart = refl
lost_elsewhere (Some line) true by other t apart = row_elsewhere line other (lost_to_taker by) t (λ e. apart (ap (λ n. Some n) (sym e)))
lost_elsewhere (Some line) false by other t apart = row_elsewhere line other lowered t (λ e. apart (ap (λ n. Some n) (sym e)))

pub placed_elsewhere : (rows : List Hold) (line other : ℕ) (qs : List ℕ) (t : Table) → other ≢ line
    → slice_get (placed_lines rows line t qs).rows other ≡ slice_get t.rows other
placed_elsewhere rows line other [] t apart = refl
placed_elsewhere rows line other (q ∷ qs) t apart =
    placed_elsewhere rows line other qs (place_hold line t (row_at rows q)) apart ∙ one (row_at rows q)
  where
    by_taker : (o : Option ℕ) → slice_get (place_by o line t).rows other ≡ slice_get t.rows other
    by_taker None = row_elsewhere line other gained t apart
    by_taker (Some later) = refl

    unless : (b : Bool) (o : Option ℕ) → slice_get (if b then t else place_by o line t).rows other ≡ slice_get t.rows other
    unless true o = refl
    unless false o = by_taker o

    one : (o : Option Hold) → slice_get (place_hold line t o).rows other ≡ slice_get t.rows other
    one None = refl
    one (Some h) = unless _ h.taker

pub noted_elsewhere : (rows : List Hold) (line other : ℕ) (qs : List ℕ) (t : Table) → other ≢ line
    → slice_get (noted_lines rows line t qs).rows other ≡ slice_get t.rows other
noted_elsewhere rows line other [] t apart = refl
noted_elsewhere rows line other (q ∷ qs) t apart =
    noted_elsewhere rows line other qs (note_hold line t (row_at rows q)) apart ∙ one (row_at rows q)
  where
    by_taker : (o : Option ℕ) → slice_get (note_by o line t).rows other ≡ slice_get t.rows other
    by_taker None = refl
    by_taker (Some by) = row_elsewhere line other (noted by) t apart

    one : (o : Option Hold) → slice_get (note_hold line t o).rows other ≡ slice_get t.rows other
    one None = refl
    one (Some h) = by_taker h.taker
