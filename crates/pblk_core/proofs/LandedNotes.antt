-- What a core notes of its lines, once a stripe of one has landed, or was lost.
use Rattle.std.proofs.Common.{◌≡◌, ◌≢◌, ℕ, ◌+◌, ◌-◌, ◌*◌, ◌<◌, ◌==◌, ◌&&◌, max, not, nat_lt, zero, suc, Bool, true, false, Some, None, Option, List, [], length, take, refl, sym, subst, ap, ap₂, ◌∙◌, arith, if◌then◌else◌}
use Rattle.std.specs.Prelude.{slice_get, slice_set}
use Rattle.std.specs.Option.{option_map}
use Rattle.pblk_model.specs.declared.shape.Shape.{Shape}
use Rattle.pblk_model.specs.Image.{Image}
use Rattle.pblk_world.specs.Answering.{MayLand, MayLose}
use Rattle.pblk_world.specs.EngineLog.{DidLand, WasLost, Begun, begun, has_failed, is_life, life_of, Opened, Opening, Placed, placements, stripes_of}
use Rattle.pblk_world.specs.Events.{Decides, Landed, Lost}
use Rattle.pblk_world.specs.Starts.{has_landed_start, start_stripes}
use Rattle.pblk_world.specs.World.{World, Logs, log_of}
use Rattle.pblk_world.proofs.Appending.{life_more}
use Rattle.pblk_world.proofs.EngineLogLemmas.{opened_same}
use Rattle.pblk_model.proofs.Parts.{contained_among, get_set_same, got_within}
use Rattle.pblk_model.proofs.Tests.{not_both, other_number}
use Rattle.line_table.proofs.Places.{set_twice}
use Rattle.stripe_placer.specs.OpenLines.{has_left}
use Rattle.pblk_world.specs.LegalMounts.{IsLegalMount}
use Rattle.core_laws.specs.ClosedLines.{StartNumbers, answered_top, closed_line, newer_start, newest_numbers, starts_left, top_of}
use Rattle.core_laws.specs.OpenedLines.{open_line}
use Rattle.core_laws.specs.PlacerOf.{positions_in_stripe, unanswered_on}
use Rattle.core_laws.specs.Stepping.{after}
use Rattle.core_laws.proofs.Answered.{first_unanswered}
use Rattle.core_laws.proofs.AnsweredTops.{IsOfPlaced, of_placed, top_landed, top_lost, top_others}
use Rattle.core_laws.proofs.ClosedLanded.{closed_as, closed_if, closed_left, closed_others, waiting_unclosed}
use Rattle.core_laws.proofs.NewestStarts as starts
use Rattle.core_laws.proofs.OpeningNumbers.{life_at, of_its_line}
use Rattle.core_laws.proofs.WrittenPositions.{first_positions}
use Rattle.pblk_core.specs.Answering.{closed_when}
use Rattle.pblk_core.specs.declared.line_notes.LineNote.{LineNote}
use Rattle.pblk_core.specs.declared.line_notes.LineNotes.{LineNotes}
use Rattle.pblk_core.specs.declared.line_notes.StartNote.{StartNote}
use Rattle.pblk_core.specs.LineNotes.{AreNotes, IsNoteOf, closed_by, newer_note, newest_landed, note_added, note_closed, note_landed, numbers_in, start_in}
use Rattle.pblk_core.proofs.NotesSet.{notes_set, note_unclosed}

-- ---- what a row keeps

record IsLandedRow (old new : LineNote) : Type 0 where
  seq : new.seq ≡ old.seq
  front : new.front ≡ old.front
  top : new.top ≡ old.top
  closed : new.closed ≡ old.closed

landed_row : (start : Bool) (row : LineNote) → IsLandedRow row (note_landed start row)
landed_row true row = record { seq = refl; front = refl; top = refl; closed = refl }
landed_row false row = record { seq = refl; front = refl; top = refl; closed = refl }

record IsClosedRow (old new : LineNote) : Type 0 where
  seq : new.seq ≡ old.seq
  front : new.front ≡ old.front
  starts_left : new.starts_left ≡ old.starts_left
  top : new.top ≡ old.top

closed_row : (full : Bool) (row : LineNote) → IsClosedRow row (closed_when full row)
closed_row true row = record { seq = refl; front = refl; starts_left = refl; top = refl }
closed_row false row = record { seq = refl; front = refl; starts_left = refl; top = refl }

unclosed_by : (row : LineNote) → row.closed ≡ false → closed_by row ≡ None
unclosed_by row e = ap (λ b. if b then Some (record { seq = row.seq; top = row.top }) else None) e

-- once more set at one place
pub set_more : (old mid new : List LineNote) (line : ℕ) (row : LineNote) (turn : LineNote → LineNote) → line < length old → mid ≡ slice_set old line row
    → ((x : LineNote) → slice_get mid line ≡ Some x → new ≡ slice_set mid line (turn x)) → new ≡ slice_set old line (turn row)
set_more old mid new line row turn inside first second =
    second row (ap (λ (rows : List LineNote). slice_get rows line) first ∙ get_set_same old line row inside)
    ∙ ap (λ (rows : List LineNote). slice_set rows line (turn row)) first ∙ set_twice old line row (turn row)

pub set_closed : (old mid new : List LineNote) (line : ℕ) (row : LineNote) → line < length old → mid ≡ slice_set old line row
    → ((x : LineNote) → slice_get mid line ≡ Some x → new ≡ slice_set mid line (note_closed x)) → new ≡ slice_set old line (note_closed row)
set_closed old mid new line row inside first second = set_more old mid new line row note_closed inside first second

-- ---- a stripe of a start record that is under way is one that is left

pub start_left : (s : Shape) (logs : Logs) (unit : ℕ) (p : Placed) (o : Opening) (k : ℕ) → unanswered_on (logs 0) unit ≡ Some p
    → slice_get (stripes_of (logs 0) o) k ≡ Some p → (nat_lt k (start_stripes s) && not (has_failed (take p.number (logs 0)) o)) ≡ true
    → 0 < starts_left s (logs 0) o
start_left s logs unit p o k waits at first =
    let new : Logs = after logs (Landed unit 0) [] in
    let one = sym (ap (λ t. if t then starts_left s (new 0) o + 1 else starts_left s (new 0) o) first) ∙ starts.left_landed s logs unit 0 [] p o k waits at in
    omega (arith, one)

-- ---- the newer of two start records, as it is noted

newer_is : (o : Option StartNote) (start : StartNote)
    → ◌≡◌ {A = Option StartNumbers} (Some (numbers_in (newer_note o start))) (newer_start (option_map numbers_in o) (numbers_in start))
newer_is None start = refl
newer_is (Some m) start = go (nat_lt m.seq start.seq)
  where
    go : (b : Bool) → ◌≡◌ {A = Option StartNumbers} (Some (numbers_in (if b then start else m))) (if b then Some (numbers_in start) else Some (numbers_in m))
    go true = refl
    go false = refl

-- ---- a stripe was answered, whose blocks are written up to a position

-- what becomes of a row where no stripe of its line is left, or one is, with a stripe of its start
-- record that has landed, or another
abbrev pub note_answered : Bool → Bool → ℕ → LineNote → LineNote
note_answered gone start top row = closed_when gone (note_added top (note_landed start row))

-- so far as the calls tell it: the stripe has landed, and then blocks are written in the line, which
-- may be closed
pub rows_answered : (old landed new : List LineNote) (line top : ℕ) (gone start : Bool) → line < length old
    → ((row : LineNote) → slice_get old line ≡ Some row → landed ≡ slice_set old line (note_landed start row))
    → ((row : LineNote) → slice_get landed line ≡ Some row → new ≡ slice_set landed line (closed_when gone (note_added top row)))
    → (row : LineNote) → slice_get old line ≡ Some row → new ≡ slice_set old line (note_answered gone start top row)
rows_answered old landed new line top gone start inside lands answers row there =
    set_more old landed new line (note_landed start row) (λ x. closed_when gone (note_added top x)) inside (lands row there) answers

module _ (i : Image) (logs new : Logs) (line : ℕ) (o : Opening) (stands : life_of (logs 0) line ≡ Opened o)
    (lives : (m : ℕ) → life_of (new 0) m ≡ life_of (logs 0) m) (written : ℕ) (start gone : Bool)
    (unclosed : closed_line i logs line ≡ None) (closed : closed_line i new line ≡ closed_if gone (closed_as i new o))
    (top : answered_top i new o ≡ max (answered_top i logs o) written)
    (left : (row : LineNote) → row.starts_left ≡ starts_left i.shape (logs 0) o → (note_landed start row).starts_left ≡ starts_left i.shape (new 0) o) where
  -- the row of its line
  note_is : (row : LineNote) → IsNoteOf i logs o row → IsNoteOf i new o (note_answered gone start written row)
  note_is row was =
      let kept = landed_row start row in
      let all = closed_row gone (note_added written (note_landed start row)) in
      record {
        seq = all.seq ∙ kept.seq ∙ was.seq;
        front = all.front ∙ kept.front ∙ was.front;
        starts_left = all.starts_left ∙ left row was.starts_left;
        top = all.top ∙ ap (λ n. max n written) (kept.top ∙ was.top) ∙ sym top;
      }

  note_closes : (row : LineNote) → IsNoteOf i logs o row → closed_by row ≡ closed_line i logs line
      → closed_by (note_answered gone start written row) ≡ closed_line i new line
  note_closes row was is = go gone ∙ sym closed
    where
      kept : IsLandedRow row (note_landed start row)
      kept = landed_row start row

      go : (t : Bool) → closed_by (note_answered t start written row) ≡ closed_if t (closed_as i new o)
      go true = ap₂ (λ seq n. Some (record { seq = seq; top = n })) (kept.seq ∙ was.seq) (ap (λ n. max n written) (kept.top ∙ was.top) ∙ sym top)
      go false = unclosed_by (note_added written (note_landed start row)) (kept.closed ∙ note_unclosed row (is ∙ unclosed))

  notes_answered : (old notes : LineNotes) → line < i.shape.chunks
      → ((row : LineNote) → slice_get old.rows.items line ≡ Some row
      → notes.rows.items ≡ slice_set old.rows.items line (note_answered gone start written row))
      → ((row : LineNote) → slice_get old.rows.items line ≡ Some row → IsNoteOf i logs o row → option_map numbers_in notes.newest ≡ newest_numbers i new)
      → ((other : ℕ) → other ≢ line → closed_line i new other ≡ closed_line i logs other)
      → ((other : ℕ) (q : Opening) → other ≢ line → life_of (logs 0) other ≡ Opened q
      → (starts_left i.shape (new 0) q ≡ starts_left i.shape (logs 0) q) × (answered_top i new q ≡ answered_top i logs q))
      → AreNotes i logs old → AreNotes i new notes
  notes_answered old notes inside rows newest closes others are =
      notes_set i logs new line (note_answered gone start written row.0) old notes inside (rows row.0 row.1) (newest row.0 row.1 was)
      (λ q is. subst (λ (x : Opening). IsNoteOf i new x (note_answered gone start written row.0))
      (opened_same o q (sym stands ∙ sym (lives line) ∙ is)) (note_is row.0 was))
      (note_closes row.0 was (are.closed line row.0 row.1))
      (λ other differs. lives other) closes others are
    where
      row : (row : LineNote) × (slice_get old.rows.items line ≡ Some row)
      row = got_within old.rows.items line (subst (λ n. line < n) (sym are.count) inside)

      was : IsNoteOf i logs o row.0
      was = are.opened line o row.0 stands row.1

-- ---- it has landed

module _ (i : Image) (w : World) (mount : IsLegalMount i w) (b : Begun) (begins : begun (log_of w 0) ≡ Some b)
    (unit event : ℕ) (knows : List ℕ) (may : MayLand (log_of w) unit event) (p : Placed) (waits : unanswered_on (log_of w 0) unit ≡ Some p)
    (o : Opening) (life : p.life ≡ Opened o) (stands : life_of (log_of w 0) p.stripe.line ≡ Opened o) where
  abbrev new : Logs
  new = after (log_of w) (Landed unit event) knows

  abbrev line : ℕ
  line = p.stripe.line

  lives : (m : ℕ) → life_of (after (log_of w) (Landed unit event) knows 0) m ≡ life_of (log_of w 0) m
  lives m = life_more (log_of w 0) (record { event = Decides (Landed unit event); knows = knows }) m

  -- a line's other openings have other numbers
  apart : (other : ℕ) (q : Opening) → other ≢ p.stripe.line → life_of (log_of w 0) other ≡ Opened q → is_life q.number p.life ≡ false
  apart other q differs is =
      let at = life_at (log_of w 0) other q is in
      ap (is_life q.number) life
      ∙ of_its_line (log_of w 0) line o q stands (at.0 ∙ ap (λ n. Some n) (sym at.1)) (λ same. differs (sym at.1 ∙ same))

  module _ (k : ℕ) (at : slice_get (stripes_of (log_of w 0) o) k ≡ Some p) (start : Bool)
      (start_is : start ≡ (nat_lt k (start_stripes i.shape) && not (has_failed (take p.number (log_of w 0)) o))) where
    left_is : (if start then starts_left i.shape (after (log_of w) (Landed unit event) knows 0) o + 1
        else starts_left i.shape (after (log_of w) (Landed unit event) knows 0) o)
        ≡ starts_left i.shape (log_of w 0) o
    left_is = ap (λ t. if t then starts_left i.shape (new 0) o + 1 else starts_left i.shape (new 0) o) start_is
        ∙ starts.left_landed i.shape (log_of w) unit event knows p o k waits at

    row_left : (row : LineNote) → row.starts_left ≡ starts_left i.shape (log_of w 0) o
        → (note_landed start row).starts_left ≡ starts_left i.shape (after (log_of w) (Landed unit event) knows 0) o
    row_left row was = go start left_is
      where
        go : (t : Bool) → (if t then starts_left i.shape (after (log_of w) (Landed unit event) knows 0) o + 1
            else starts_left i.shape (after (log_of w) (Landed unit event) knows 0) o)
            ≡ starts_left i.shape (log_of w 0) o
            → (note_landed t row).starts_left ≡ starts_left i.shape (after (log_of w) (Landed unit event) knows 0) o
        go true one = omega arith
        go false same = was ∙ sym same

    -- ---- the newest start record

    numbers_are : (row : LineNote) → IsNoteOf i (log_of w) o row → numbers_in (start_in row) ≡ record { seq = o.start.seq; front = o.start.front }
    numbers_are row was = ap₂ (λ seq front. record { seq = seq; front = front }) was.seq was.front

    newest_now : (row : LineNote) (found : Option StartNote) → IsNoteOf i (log_of w) o row → option_map numbers_in found ≡ newest_numbers i (log_of w)
        → option_map numbers_in (newest_landed start row found) ≡ newest_numbers i (after (log_of w) (Landed unit event) knows)
    newest_now row found was is =
        go start (has_landed_start i.shape (log_of w 0) o) (has_landed_start i.shape (new 0) o) refl refl left_is
        ∙ sym (starts.newest_landed i w b unit event knows p o mount begins waits life)
      where
        now : StartNumbers
        now = record { seq = o.start.seq; front = o.start.front }

        by_left : (m : ℕ) (d : Bool) → row.starts_left - 1 ≡ m → starts_left i.shape (after (log_of w) (Landed unit event) knows 0) o ≡ m
            → has_landed_start i.shape (after (log_of w) (Landed unit event) knows 0) o ≡ d
            → option_map numbers_in (if row.starts_left - 1 == 0 then Some (newer_note found (start_in row)) else found)
            ≡ (if d && true then newer_start (newest_numbers i (log_of w)) (record { seq = o.start.seq; front = o.start.front })
            else newest_numbers i (log_of w))
        by_left zero true left gone landed =
            ap (λ n. option_map numbers_in (if n == 0 then Some (newer_note found (start_in row)) else found)) left
            ∙ newer_is found (start_in row) ∙ ap₂ newer_start is (numbers_are row was)
        by_left zero false left gone landed = absurd (not_both _ (starts.none_left i.shape (new 0) o gone) landed)
        by_left (suc m) true left gone landed =
            let all : starts_left i.shape (new 0) o ≡ 0 = starts.some_left i.shape (new 0) o landed in absurd (omega arith)
        by_left (suc m) false left gone landed =
            ap (λ n. option_map numbers_in (if n == 0 then Some (newer_note found (start_in row)) else found)) left
            ∙ ap (λ t. option_map numbers_in (if t then Some (newer_note found (start_in row)) else found))
            (other_number (suc m) 0 (λ same. absurd cc))
            ∙ is

        go : (t c d : Bool) → has_landed_start i.shape (log_of w 0) o ≡ c → has_landed_start i.shape (after (log_of w) (Landed unit event) knows 0) o ≡ d
            → (if t then starts_left i.shape (after (log_of w) (Landed unit event) knows 0) o + 1
            else starts_left i.shape (after (log_of w) (Landed unit event) knows 0) o) ≡ starts_left i.shape (log_of w 0) o
            → option_map numbers_in (newest_landed t row found)
            ≡ (if has_landed_start i.shape (after (log_of w) (Landed unit event) knows 0) o && not (has_landed_start i.shape (log_of w 0) o)
            then newer_start (newest_numbers i (log_of w)) (record { seq = o.start.seq; front = o.start.front }) else newest_numbers i (log_of w))
        go true true d before landed one =
            let all : starts_left i.shape (log_of w 0) o ≡ 0 = starts.some_left i.shape (log_of w 0) o before in absurd (omega arith)
        go true false d before landed one =
            let left : row.starts_left ≡ starts_left i.shape (log_of w 0) o = was.starts_left in
            by_left (row.starts_left - 1) d refl (omega arith) landed
            ∙ ap₂ (λ x y. if x && not y then newer_start (newest_numbers i (log_of w)) now else newest_numbers i (log_of w)) (sym landed) (sym before)
        go false c d before landed same =
            is ∙ stays c d (λ e f. as_before c d e f before landed same)
            ∙ ap₂ (λ x y. if x && not y then newer_start (newest_numbers i (log_of w)) now else newest_numbers i (log_of w)) (sym landed) (sym before)
          where
            as_before : (c d : Bool) → c ≡ false → d ≡ true → has_landed_start i.shape (log_of w 0) o ≡ c
                → has_landed_start i.shape (after (log_of w) (Landed unit event) knows 0) o ≡ d
                → starts_left i.shape (after (log_of w) (Landed unit event) knows 0) o ≡ starts_left i.shape (log_of w 0) o → ⊥
            as_before c d e f before landed same =
                not_both _ (starts.none_left i.shape (log_of w 0) o (sym same ∙ starts.some_left i.shape (new 0) o (landed ∙ f))) (before ∙ e)

            stays : (c d : Bool) → (c ≡ false → d ≡ true → ⊥)
                → newest_numbers i (log_of w) ≡ (if d && not c then newer_start (newest_numbers i (log_of w)) now else newest_numbers i (log_of w))
            stays true true never = refl
            stays true false never = refl
            stays false true never = absurd (never refl refl)
            stays false false never = refl

    -- ---- all notes

    pub notes_landed : (gone : Bool) (old notes : LineNotes)
        → not (has_left (open_line i (after (log_of w) (Landed unit event) knows) o)) ≡ gone → p.stripe.line < i.shape.chunks
        → ((row : LineNote) → slice_get old.rows.items p.stripe.line ≡ Some row
        → notes.rows.items ≡ slice_set old.rows.items p.stripe.line (note_answered gone start (top_of (positions_in_stripe i.shape p.stripe)) row))
        → ((row : LineNote) → slice_get old.rows.items p.stripe.line ≡ Some row → notes.newest ≡ newest_landed start row old.newest)
        → AreNotes i (log_of w) old → AreNotes i (after (log_of w) (Landed unit event) knows) notes
    notes_landed gone old notes gone_is inside rows newest are =
        notes_answered i (log_of w) new line o stands lives (top_of (positions_in_stripe i.shape p.stripe)) start gone
        (waiting_unclosed i w unit p o mount waits life stands)
        (closed_left i w unit (DidLand event) knows line o mount may stands ∙ ap (λ t. closed_if t (closed_as i new o)) gone_is)
        (top_landed i w mount unit event knows p waits o stands may) row_left old notes inside rows
        (λ row there was. ap (option_map numbers_in) (newest row there) ∙ newest_now row old.newest was are.newest)
        (λ other differs. closed_others i w unit (DidLand event) knows p other mount may waits differs)
        (λ other q differs is. (
          starts.left_others i.shape (log_of w) unit event knows p q waits (apart other q differs is),
          top_others i w (Landed unit event) unit event knows may.program p other q refl (λ u. refl)
              (of_placed i w unit event may.program p mount may.new may.stripe waits) differs is,
        ))
        are

-- ---- it was lost, with so many of its blocks written

module _ (i : Image) (w : World) (mount : IsLegalMount i w) (b : Begun) (begins : begun (log_of w 0) ≡ Some b)
    (unit event : ℕ) (knows : List ℕ) (may : MayLose (log_of w) unit event) (p : Placed) (waits : unanswered_on (log_of w 0) unit ≡ Some p)
    (o : Opening) (life : p.life ≡ Opened o) (stands : life_of (log_of w 0) p.stripe.line ≡ Opened o) where
  abbrev lost : Logs
  lost = after (log_of w) (Lost unit event) knows

  its : IsOfPlaced (log_of w) unit event may.program p
  its = of_placed i w unit event may.program p mount may.new may.stripe waits

  pub notes_lost : (kept : ℕ) (gone : Bool) (old notes : LineNotes) → kept ≡ may.landed_before * i.shape.ws_min
      → not (has_left (open_line i (after (log_of w) (Lost unit event) knows) o)) ≡ gone → p.stripe.line < i.shape.chunks
      → ((row : LineNote) → slice_get old.rows.items p.stripe.line ≡ Some row
      → notes.rows.items ≡ slice_set old.rows.items p.stripe.line
      (closed_when gone (note_added (top_of (take kept (positions_in_stripe i.shape p.stripe))) row)))
      → notes.newest ≡ old.newest
      → AreNotes i (log_of w) old → AreNotes i (after (log_of w) (Lost unit event) knows) notes
  notes_lost kept gone old notes kept_is gone_is inside rows newest are =
      notes_answered i (log_of w) lost p.stripe.line o stands
      (λ m. life_more (log_of w 0) (record { event = Decides (Lost unit event); knows = knows }) m)
      (top_of (take kept (positions_in_stripe i.shape p.stripe))) false gone
      (waiting_unclosed i w unit p o mount waits life stands)
      (closed_left i w unit (WasLost event) knows p.stripe.line o mount may stands ∙ ap (λ t. closed_if t (closed_as i lost o)) gone_is)
      (top_lost i w mount unit event knows p waits o stands may
      ∙ ap (λ qs. max (answered_top i (log_of w) o) (top_of qs))
      (first_positions i w p (may.landed_before * i.shape.ws_min) mount
      (contained_among (placements (log_of w 0)) p (first_unanswered (log_of w 0) unit p waits).among)
      ∙ ap (λ n. take n (positions_in_stripe i.shape p.stripe)) (sym kept_is)))
      (λ row was. was ∙ sym (starts.left_lost i.shape (log_of w) unit event knows p o waits)) old notes inside rows
      (λ row there was. ap (option_map numbers_in) newest ∙ are.newest ∙ sym (starts.newest_lost i w b unit event knows p begins waits))
      (λ other differs. closed_others i w unit (WasLost event) knows p other mount may waits differs)
      (λ other q differs is. (
        starts.left_lost i.shape (log_of w) unit event knows p q waits,
        top_others i w (Lost unit event) unit event knows may.program p other q refl (λ u. refl) its differs is,
      ))
      are
