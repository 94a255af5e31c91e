-- The rows of lines, the head, and the strays, as they are found.
use Rattle.std.proofs.Common.{◌≡◌, ℕ, ◌<◌, ◌≤◌, not, false, Option, Some, None, length, refl, sym, subst, ap, ◌∙◌, arith, inl, inr}
use Rattle.std.specs.List.{Contains, slice_get}
use Rattle.std.specs.Option.{is_some, option_map}
use Rattle.std.proofs.lemmas.Bool.{and_parts, and_from, not-true, not_from_false}
use Rattle.std.proofs.lemmas.List.FromFn.{length-map-range_with_len}
use Rattle.std.proofs.lemmas.Option.{none-some, same_Some}
use Rattle.pblk_model.specs.declared.found.Found.{Found}
use Rattle.pblk_model.specs.declared.found.LineRow.{LineRow}
use Rattle.pblk_model.specs.Accepted.{IsAccepted}
use Rattle.pblk_model.specs.Found.{HasUsed, RowFits, HeadFits, Rise}
use Rattle.pblk_model.specs.Image.{Image, IsFit, width}
use Rattle.pblk_model.specs.StartRecord.{StartRecord, start_of}
use Rattle.pblk_model.specs.Contents.{head, end, counted}
use Rattle.pblk_laws.proofs.Heads.{no_head_no_start}
use Rattle.pblk_laws.proofs.Starts.{HasNumbers}
use Rattle.pblk_world.specs.Lines.{are_empty, is_stray}
use Rattle.world_laws.specs.Finding.{IsFoundOf, bound_with, line_row, top_of}
use Rattle.world_laws.proofs.FoundCounts.{IsHeadAt, start_numbers, head_at, bound_low, top_low, no_top}
use Rattle.world_laws.proofs.NumberedLists.{mapped_at, mapped_get, passed, passes, passed_rise}
use Rattle.world_laws.proofs.WrittenBlocks.{IsInClosed, IsOfBlock, start_in_closed, counted_of}
use Rattle.world_laws.proofs.FoundStates.{chunk_used, used_not_empty, not_empty_used}

pub rows_count : (i : Image) (f : Found) → IsFoundOf i f → length f.lines ≡ i.shape.chunks
rows_count i f is = ap (λ ls. length ls) is.lines_are ∙ length-map-range_with_len (line_row i) 0 i.shape.chunks

pub row_at : (i : Image) (f : Found) (line : ℕ) → IsFoundOf i f → line < i.shape.chunks → slice_get f.lines line ≡ Some (line_row i line)
row_at i f line is inside = ap (λ ls. slice_get ls line) is.lines_are ∙ mapped_at (line_row i) i.shape.chunks line inside

pub row_is : (i : Image) (f : Found) (line : ℕ) (row : LineRow) → IsFoundOf i f → slice_get f.lines line ≡ Some row
    → (line < i.shape.chunks) × (line_row i line ≡ row)
row_is i f line row is there = mapped_get (line_row i) i.shape.chunks line row (ap (λ ls. slice_get ls line) (sym is.lines_are) ∙ there)

-- ---- a row fits

bound_by : (i : Image) (o : Option StartRecord) (line seq : ℕ) → head i ≡ o → bound_with o line (Some seq) ≤ end i
bound_by i None line seq e = omega arith
bound_by i (Some h) line seq e = bound_low i h line seq e

no_bound : (o : Option StartRecord) (line : ℕ) → bound_with o line None ≡ 0
no_bound None line = refl
no_bound (Some h) line = refl

unstarted : (i : Image) (line : ℕ) → start_of i line ≡ None → top_of (counted i) line ≡ 0
unstarted i line none = no_top (counted i) line (λ r there same.
    let of : IsOfBlock i r = counted_of i r there in
    none-some of.start (sym none ∙ ap (start_of i) (sym same) ∙ of.is_start))

pub start_used : (i : Image) (f : Found) (line : ℕ) (start : StartRecord) → IsAccepted i.shape → IsFit i → IsFoundOf i f → line < i.shape.chunks
    → start_of i line ≡ Some start → HasUsed i.shape f line
start_used i f line start accepted fit is inside e =
    let in_closed : IsInClosed i line 0 = start_in_closed i line start accepted fit e in
    chunk_used i f line in_closed.unit in_closed.chunk fit is inside in_closed.is_chunk in_closed.used

row_fits_by : (i : Image) (f : Found) (line : ℕ) (o : Option StartRecord) → IsAccepted i.shape → IsFit i → IsFoundOf i f → line < i.shape.chunks
    → start_of i line ≡ o
    → RowFits i.shape f line (line_row i line) (option_map (λ r. r.seq) o)
row_fits_by i f line None accepted fit is inside e =
    (ap (λ s. bound_with (head i) line (option_map (λ (r : StartRecord). r.seq) s)) e ∙ no_bound (head i) line, unstarted i line e)
row_fits_by i f line (Some start) accepted fit is inside e =
    let has : HasNumbers i.shape line (width i line) start = start_numbers i line start e in
    let first : 1 ≤ start.first_seq = has.some_first in
    let rises : start.first_seq ≤ start.seq = has.first_seq in
    let bound : bound_with (head i) line (Some start.seq) ≤ end i = bound_by i (head i) line start.seq refl in (
      omega arith,
      has.seq,
      start_used i f line start accepted fit is inside e,
      subst (λ n. bound_with (head i) line (option_map (λ (r : StartRecord). r.seq) (start_of i line)) ≤ n) (sym is.end_is)
          (subst (λ s. bound_with (head i) line (option_map (λ (r : StartRecord). r.seq) s) ≤ end i) (sym e) bound),
      subst (λ n. top_of (counted i) line ≤ n) (sym is.end_is) (top_low i line),
    )

pub row_fits : (i : Image) (f : Found) (line : ℕ) (row : LineRow) → IsAccepted i.shape → IsFit i → IsFoundOf i f → slice_get f.lines line ≡ Some row
    → RowFits i.shape f line row row.seq
row_fits i f line row accepted fit is there =
    let of = row_is i f line row is there in
    subst (λ (r : LineRow). RowFits i.shape f line r r.seq) of.1 (row_fits_by i f line (start_of i line) accepted fit is of.0 refl)

-- ---- the head

seq_from : (o : Option StartRecord) (n : ℕ) → option_map (λ r. r.seq) o ≡ Some n → (r : StartRecord) × (o ≡ Some r) × (r.seq ≡ n)
seq_from None n e = absurd (none-some n e)
seq_from (Some r) n e = (r, refl, same_Some r.seq n e)

head_fits_by : (i : Image) (f : Found) (o : Option StartRecord) → IsFoundOf i f → head i ≡ o → HeadFits f (option_map (λ h. h.line) o)
head_fits_by i f None is e = λ line row there.
    let of = row_is i f line row is there in
    ap (λ (r : LineRow). r.seq) (sym of.1) ∙ ap (option_map (λ (r : StartRecord). r.seq)) (no_head_no_start i line e of.0)
head_fits_by i f (Some h) is e =
    let at : IsHeadAt i h = head_at i h e in
    let whole : start_of i h.line ≡ Some h = at.is_head.whole in (
      line_row i h.line,
      h.seq,
      row_at i f h.line is at.is_head.here,
      ap (option_map (λ (r : StartRecord). r.seq)) whole,
      λ line other n there seq.
          let of = row_is i f line other is there in
          let has = seq_from (start_of i line) n (ap (λ (r : LineRow). r.seq) of.1 ∙ seq) in
          elim (at.is_head.greatest line has.0 of.0 has.1) [
            | inl less ↦ inl (omega (arith, has.2))
            | inr same ↦ inr (sym has.2 ∙ same.0, same.1)
          ],
    )

pub head_fits : (i : Image) (f : Found) → IsFoundOf i f → HeadFits f f.head
head_fits i f is = subst (HeadFits f) (sym is.head_is) (head_fits_by i f (head i) is refl)

-- ---- the strays

none_from : (o : Option StartRecord) → is_some o ≡ false → option_map (λ r. r.seq) o ≡ None
none_from None e = refl
none_from (Some r) e = absurd cc

some_from : (o : Option StartRecord) → option_map (λ r. r.seq) o ≡ None → is_some o ≡ false
some_from None e = refl
some_from (Some r) e = absurd cc

pub strays_rise : (i : Image) (f : Found) → IsFoundOf i f → Rise f.strays
strays_rise i f is = subst Rise (sym is.strays_are) (passed_rise (is_stray i) 0 i.shape.chunks)

pub stray_is : (i : Image) (f : Found) (line : ℕ) → IsFit i → IsFoundOf i f → Contains f.strays line
    → (row : LineRow) × (slice_get f.lines line ≡ Some row) × (row.seq ≡ None) × HasUsed i.shape f line
stray_is i f line fit is there =
    let of = passed (is_stray i) 0 i.shape.chunks line (subst (λ xs. Contains xs line) is.strays_are there) in
    let inside : line < i.shape.chunks = omega (arith, of.1) in
    let both = and_parts (not (is_some (start_of i line))) (not (are_empty i line)) of.2 in (
      line_row i line,
      row_at i f line is inside,
      none_from (start_of i line) (not-true (is_some (start_of i line)) both.0),
      not_empty_used i f line fit is inside (not-true (are_empty i line) both.1),
    )

pub is_stray_line : (i : Image) (f : Found) (line : ℕ) (row : LineRow) → IsFit i → IsFoundOf i f → slice_get f.lines line ≡ Some row → row.seq ≡ None
    → HasUsed i.shape f line → Contains f.strays line
is_stray_line i f line row fit is there none used =
    let of = row_is i f line row is there in
    let unstarted : is_some (start_of i line) ≡ false = some_from (start_of i line) (ap (λ (r : LineRow). r.seq) of.1 ∙ none) in
    let full : are_empty i line ≡ false = used_not_empty i f line fit is of.0 used in
    subst (λ xs. Contains xs line) (sym is.strays_are)
    (passes (is_stray i) 0 i.shape.chunks line (omega arith) (omega (arith, of.0))
    (and_from (not (is_some (start_of i line))) (not (are_empty i line)) (not_from_false (is_some (start_of i line)) unstarted)
    (not_from_false (are_empty i line) full)))
