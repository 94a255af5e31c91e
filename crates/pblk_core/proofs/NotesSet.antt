-- What a core notes of its lines, after an event that changes what it notes of one: a line was
-- opened; and once a stripe was placed, which changes none of it.
use Rattle.std.proofs.Common.{◌≡◌, ◌≢◌, ◌⊎◌, inl, inr, eqb, ℕ, ◌<◌, not, Bool, true, false, None, Some, Option, List, length, length-set, refl, sym, subst, ap, ◌∙◌, if◌then◌else◌}
use Rattle.std.specs.Prelude.{slice_get, slice_set}
use Rattle.std.specs.Option.{is_some, option_map}
use Rattle.std.proofs.lemmas.Bool.Decides.{eqb_tells}
use Rattle.std.proofs.lemmas.Option.{same_Some}
use Rattle.pblk_model.specs.Image.{Image}
use Rattle.pblk_model.specs.StartRecord.{StartRecord, start_of}
use Rattle.pblk_world.specs.EngineLog.{AsFound, Begun, begun, Freed, LineLife, life_of, Opened, Opening}
use Rattle.pblk_world.specs.Events.{Decides, Open, Place, Stripe}
use Rattle.pblk_world.specs.Lines.{are_empty, found_image, has_number, is_free_line, known_image}
use Rattle.pblk_world.specs.Opening.{MayOpen}
use Rattle.pblk_world.specs.Starts.{seq_in, start_stripes}
use Rattle.pblk_world.specs.World.{World, Logs, log_of}
use Rattle.pblk_world.proofs.Appending.{life_more}
use Rattle.pblk_world.proofs.EngineLogLemmas.{opened_same}
use Rattle.pblk_model.proofs.Options.{none_there}
use Rattle.pblk_model.proofs.Parts.{get_set_other, get_set_same}
use Rattle.pblk_model.proofs.Tests.{first_of, not_true}
use Rattle.pblk_world.specs.LegalMounts.{IsLegalMount}
use Rattle.core_laws.specs.ClosedLines.{ClosedLine, answered_top, closed_line, newest_numbers, starts_left}
use Rattle.core_laws.specs.Stepping.{after}
use Rattle.core_laws.proofs.AnsweredTops.{top_kept, top_opened}
use Rattle.core_laws.proofs.ClosedKept.{closed_opened, closed_placed, closed_unnumbered}
use Rattle.core_laws.proofs.NewestStarts.{left_kept, left_opened, left_placed, newest_kept, newest_placed}
use Rattle.core_laws.proofs.OpenedRows.{life_elsewhere, life_now, new_opening}
use Rattle.pblk_core.specs.LineNotes.{AreNotes, IsNoteOf, closed_by, note_opened, numbers_in}
use Rattle.pblk_core.specs.declared.line_notes.LineNote.{LineNote}
use Rattle.pblk_core.specs.declared.line_notes.LineNotes.{LineNotes}
use Rattle.pblk_core.proofs.NotesKept.{notes_kept}

-- the row of a place is the one that was set there, or stands there as it did
pub set_at : {X : Type 0} (xs : List X) (n k : ℕ) (x y : X) → n < length xs → slice_get (slice_set xs n x) k ≡ Some y
    → ((k ≡ n) × (x ≡ y)) ⊎ ((k ≢ n) × (slice_get xs k ≡ Some y))
set_at xs n k x y inside there = go (eqb_tells k n)
  where
    go : ((eqb k n ≡ true) × (k ≡ n)) ⊎ ((eqb k n ≡ false) × (k ≢ n)) → ((k ≡ n) × (x ≡ y)) ⊎ ((k ≢ n) × (slice_get xs k ≡ Some y))
    go (inl h) = inl (h.1, same_Some x y (sym (get_set_same xs n x inside) ∙ ap (slice_get (slice_set xs n x)) (sym h.1) ∙ there))
    go (inr h) = inr (h.1, sym (get_set_other xs n k x h.1) ∙ there)

-- the notes with another row of one line
pub notes_set : (i : Image) (logs new : Logs) (line : ℕ) (row : LineNote) (old notes : LineNotes) → line < i.shape.chunks
    → notes.rows.items ≡ slice_set old.rows.items line row → option_map numbers_in notes.newest ≡ newest_numbers i new
    → ((o : Opening) → life_of (new 0) line ≡ Opened o → IsNoteOf i new o row) → closed_by row ≡ closed_line i new line
    → ((other : ℕ) → other ≢ line → life_of (new 0) other ≡ life_of (logs 0) other)
    → ((other : ℕ) → other ≢ line → closed_line i new other ≡ closed_line i logs other)
    → ((other : ℕ) (o : Opening) → other ≢ line → life_of (logs 0) other ≡ Opened o
    → (starts_left i.shape (new 0) o ≡ starts_left i.shape (logs 0) o) × (answered_top i new o ≡ answered_top i logs o))
    → AreNotes i logs old → AreNotes i new notes
notes_set i logs new line row old notes inside rows newest opened closed lives closes stripes are = record {
  count = ap length rows ∙ length-set old.rows.items line row ∙ are.count;
  opened = λ other o its is there. of_opened other o its is (by_place other its there);
  closed = λ other its there. of_closed other its (by_place other its there);
  newest = newest;
}
  where
    by_place : (other : ℕ) (its : LineNote) → slice_get notes.rows.items other ≡ Some its
        → ((other ≡ line) × (row ≡ its)) ⊎ ((other ≢ line) × (slice_get old.rows.items other ≡ Some its))
    by_place other its there = set_at old.rows.items line other row its (subst (λ n. line < n) (sym are.count) inside)
        (ap (λ (rs : List LineNote). slice_get rs other) (sym rows) ∙ there)

    of_opened : (other : ℕ) (o : Opening) (its : LineNote) → life_of (new 0) other ≡ Opened o
        → ((other ≡ line) × (row ≡ its)) ⊎ ((other ≢ line) × (slice_get old.rows.items other ≡ Some its)) → IsNoteOf i new o its
    of_opened other o its is (inl h) = subst (IsNoteOf i new o) h.1 (opened o (ap (life_of (new 0)) (sym h.0) ∙ is))
    of_opened other o its is (inr h) =
        let before : life_of (logs 0) other ≡ Opened o = sym (lives other h.0) ∙ is in
        let was : IsNoteOf i logs o its = are.opened other o its before h.1 in
        let same = stripes other o h.0 before in
        record { seq = was.seq; front = was.front; starts_left = was.starts_left ∙ sym same.0; top = was.top ∙ sym same.1 }

    of_closed : (other : ℕ) (its : LineNote) → ((other ≡ line) × (row ≡ its)) ⊎ ((other ≢ line) × (slice_get old.rows.items other ≡ Some its))
        → closed_by its ≡ closed_line i new other
    of_closed other its (inl h) = ap closed_by (sym h.1) ∙ closed ∙ ap (closed_line i new) (sym h.0)
    of_closed other its (inr h) = are.closed other its h.1 ∙ sym (closes other h.0)

-- ---- a line was opened

-- one that may be opened isn't closed
free_unclosed : (i : Image) (logs : Logs) (line : ℕ) → is_free_line i logs line ≡ true → closed_line i logs line ≡ None
free_unclosed i logs line free = closed_unnumbered i logs line (go (life_of (logs 0) line)
    (first_of (not (has_number i logs (life_of (logs 0) line) line)) (are_empty (known_image i logs) line) (first_of _ _ free)))
  where
    go : (life : LineLife) → not (has_number i logs life line) ≡ true → seq_in i logs life line ≡ None
    go AsFound e = ap (option_map (λ (start : StartRecord). start.seq))
        (none_there (start_of (found_image i logs) line) (not_true (is_some (start_of (found_image i logs) line)) e))
    go (Opened o) e = absurd cc
    go (Freed was knows) e = refl

pub notes_opened : (i : Image) (w : World) (b : Begun) (line : ℕ) (start : StartRecord) (knows : List ℕ) (old notes : LineNotes) → IsLegalMount i w
    → begun (log_of w 0) ≡ Some b → MayOpen i (log_of w) b line start
    → notes.rows.items ≡ slice_set old.rows.items line (note_opened start.seq start.front (start_stripes i.shape)) → notes.newest ≡ old.newest
    → AreNotes i (log_of w) old → AreNotes i (after (log_of w) (Open line start) knows) notes
notes_opened i w b line start knows old notes mount begins may rows newest are =
    notes_set i (log_of w) (after (log_of w) (Open line start) knows) line (note_opened start.seq start.front (start_stripes i.shape)) old notes may.in_range
    rows
    (ap (option_map numbers_in) newest ∙ are.newest ∙ sym (newest_kept i w b (Open line start) knows mount begins refl))
    (λ o is. let its : new_opening (log_of w 0) line start knows ≡ o = opened_same (new_opening (log_of w 0) line start knows) o
    (sym (life_now (log_of w 0) line start knows) ∙ is) in record {
      seq = ap (λ (p : Opening). p.start.seq) its;
      front = ap (λ (p : Opening). p.start.front) its;
      starts_left = sym (left_opened i.shape (log_of w) line start knows o is);
      top = sym (top_opened i w b line start knows o mount begins may is);
    })
    (sym (closed_opened i w b line start knows line mount begins may ∙ free_unclosed i (log_of w) line may.is_free))
    (λ other apart. life_elsewhere (log_of w 0) line start knows other apart)
    (λ other apart. closed_opened i w b line start knows other mount begins may)
    (λ other o apart life. (
      left_kept i.shape (log_of w) (Open line start) knows o refl,
      top_kept i (log_of w) (Open line start) knows o refl (λ unit. refl),
    ))
    are

-- ---- a stripe was placed

-- nothing is noted of that
pub notes_placed : (i : Image) (w : World) (b : Begun) (stripe : Stripe) (knows : List ℕ) (notes : LineNotes) → IsLegalMount i w
    → begun (log_of w 0) ≡ Some b → AreNotes i (log_of w) notes → AreNotes i (after (log_of w) (Place stripe) knows) notes
notes_placed i w b stripe knows notes mount begins are =
    notes_kept i (log_of w) (after (log_of w) (Place stripe) knows) notes
    (λ line. life_more (log_of w 0) (record { event = Decides (Place stripe); knows = knows }) line)
    (λ line. closed_placed i (log_of w) stripe knows line) (newest_placed i w b stripe knows mount begins)
    (λ o. left_placed i w stripe knows o mount)
    (λ line o life. top_kept i (log_of w) (Place stripe) knows o refl (λ unit. refl)) are

-- ---- rows that tell of no closed line

-- a note that tells of no closed line
pub note_unclosed : (row : LineNote) → closed_by row ≡ None → row.closed ≡ false
note_unclosed row none = go row.closed none
  where
    go : (b : Bool) → ◌≡◌ {A = Option ClosedLine} (if b then Some (record { seq = row.seq; top = row.top }) else None) None → b ≡ false
    go true e = absurd cc
    go false e = refl
