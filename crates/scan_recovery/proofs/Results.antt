-- What is found, put together.
use Rattle.std.proofs.Common.{◌≡◌, ℕ, ◌+◌, ◌^◌, ◌<◌, ◌≤◌, ◌==◌, ◌&&◌, inl, inr, Bool, true, false, cond, List, [], ◌∷◌, length, map, get_or, Option, Some, None, refl, sym, ap, ◌∙◌, subst, arith}
use Rattle.std.specs.List.{AllByRecursion, filter, filter_map, find, range_with_len}
use Rattle.std.specs.Option.{option_map, option_map_or, IfSome}
use Rattle.std.proofs.Math.Path.{fun_ext}
use Rattle.std.proofs.lemmas.List.{length-map}
use Rattle.std.proofs.lemmas.Bool.{eq-eqb, ne_eqb, cases_eq}
use Rattle.pblk_model.specs.declared.shape.Shape.{Shape}
use Rattle.pblk_model.specs.declared.found.LineRow.{LineRow}
use Rattle.pblk_model.specs.declared.found.Winner.{Winner}
use Rattle.pblk_model.specs.Accepted.{IsAccepted}
use Rattle.pblk_model.specs.Image.{Image, IsFit}
use Rattle.pblk_model.specs.StartRecord.{Row, StartRecord, rows_fit}
use Rattle.pblk_model.specs.Records.{Record, records}
use Rattle.pblk_model.specs.Contents.{head, counted, winner}
use Rattle.pblk_meta.specs.declared.start_record.StartRecord.{StartRecord as Start}
use Rattle.pblk_meta.specs.declared.rows.Row.{Row as MetaRow}
use Rattle.pblk_meta.specs.Records.{row_numbers, start_numbers}
use Rattle.pblk_world.specs.Lines.{is_stray, stray_lines}
use Rattle.world_laws.specs.Finding.{bound_with, line_row, top_of, winner_of, winner_with}
use Rattle.world_laws.proofs.FoundCounts.{records_few}
use Rattle.scan_recovery.specs.declared.counting.Count.{Count}
use Rattle.scan_recovery.specs.declared.counting.Counted.{Counted}
use Rattle.scan_recovery.specs.declared.mount.Mount.{Mount}
use Rattle.scan_recovery.specs.declared.starts.Starts.{Starts}
use Rattle.scan_recovery.specs.declared.survey.SeenLine.{SeenLine}
use Rattle.scan_recovery.specs.declared.trace.Trace.{Trace}
use Rattle.scan_recovery.specs.Counted.{IsCounted, IsCountedOf}
use Rattle.scan_recovery.specs.Find.{bound_from, row_from}
use Rattle.scan_recovery.specs.Held.{thin_winner}
use Rattle.scan_recovery.specs.Mounts.{IsCount, IsMount, IsMountOf, head_of, is_late}
use Rattle.scan_recovery.specs.Starts.{IsStarts}
use Rattle.scan_recovery.specs.Survey.{IsCountTo, seen_line}
use Rattle.scan_recovery.specs.Tally.{HasStartFits}
use Rattle.scan_recovery.specs.Traces.{bare, head_row, without_sector}
use Rattle.scan_recovery.proofs.Countings.{all_counted}
use Rattle.scan_recovery.proofs.Founds.{thin, there}
use Rattle.scan_recovery.proofs.LateEnds.{few_late}
use Rattle.scan_recovery.proofs.Surveys.{head_all}
use Rattle.scan_recovery.proofs.Tables.{table_list}
use Rattle.scan_recovery.proofs.Tallies.{and_right, row_facts}
use Rattle.pblk_model.specs.Tables.{IsTable}
use Rattle.pblk_model.proofs.TableLemmas.{table_same}

-- Bounds.

abbrev of_line : ℕ → Row → Bool
of_line line row = row.line == line

abbrev of_both : ℕ → ℕ → Row → Bool
of_both line seq row = (row.line == line) && (row.seq == seq)

abbrev bound_or : Option Row → ℕ
bound_or o = option_map_or (λ row. row.bound) o 0

none_find : (s : Shape) (r : StartRecord) (least : ℕ) (rows : List Row) (line seq : ℕ) → rows_fit s r least rows ≡ true → line < least
    → find (of_both line seq) rows ≡ None
none_find s r least [] line seq h below = refl
none_find s r least (row ∷ rows) line seq h below =
    let f = row_facts s r least row rows h in
    let low = f.low in
    let miss : of_both line seq row ≡ false = ap (λ b. b && (row.seq == seq)) (ne_eqb row.line line (λ e. omega arith)) in
    ap (λ b. cond b (Some row) (find (of_both line seq) rows)) miss ∙ none_find s r (row.line + 1) rows line seq f.rest (omega arith)

by_seq : (b : Bool) (row : Row) (rest : Option Row) → rest ≡ None → cond b row.bound 0 ≡ bound_or (cond b (Some row) rest)
by_seq true row rest e = refl
by_seq false row rest e = sym (ap bound_or e)

find_bound : (s : Shape) (r : StartRecord) (least : ℕ) (rows : List Row) (line seq : ℕ) → rows_fit s r least rows ≡ true
    → bound_from (find (of_line line) rows) (Some seq) ≡ bound_or (find (of_both line seq) rows)
find_bound s r least [] line seq h = refl
find_bound s r least (row ∷ rows) line seq h =
    let f = row_facts s r least row rows h in
    elim (cases_eq row.line line) [
      | inl same ↦
          let hit : row.line == line ≡ true = eq-eqb row.line line same in
          ap (λ b. bound_from (cond b (Some row) (find (of_line line) rows)) (Some seq)) hit
          ∙ by_seq (row.seq == seq) row (find (of_both line seq) rows) (none_find s r (row.line + 1) rows line seq f.rest (omega arith))
          ∙ sym (ap (λ b. bound_or (cond (b && (row.seq == seq)) (Some row) (find (of_both line seq) rows))) hit)
      | inr other ↦
          let miss : row.line == line ≡ false = ne_eqb row.line line other in
          ap (λ b. bound_from (cond b (Some row) (find (of_line line) rows)) (Some seq)) miss ∙ find_bound s r (row.line + 1) rows line seq f.rest
          ∙ sym (ap (λ b. bound_or (cond (b && (row.seq == seq)) (Some row) (find (of_both line seq) rows))) miss)
    ]

from_none : (o : Option Row) → bound_from o None ≡ 0
from_none None = refl
from_none (Some row) = refl

bound_is : (o : Option Start) (line : ℕ) (seq : Option ℕ) → IfSome o HasStartFits
    → bound_from (head_row (option_map start_numbers o) line) seq ≡ bound_with (option_map start_numbers o) line seq
bound_is None line seq h = refl
bound_is (Some r) line None h = from_none (head_row (Some (start_numbers r)) line)
bound_is (Some r) line (Some seq) h =
    find_bound h.shape (start_numbers r) 0 (start_numbers r).rows line seq (and_right _ (rows_fit h.shape (start_numbers r) 0 (start_numbers r).rows) h.fits)

-- The mount.

pub mount_of : (i : Image) (n : ℕ) (v : Starts) (m : Mount) → IsStarts i n v → n ≡ i.shape.chunks → IsMount m → length m.rows.items ≡ n → m.head ≡ v.head
    → IsMountOf i m
mount_of i n v m starts n-is mount lines head = record {
  mount = mount;
  lines = lines ∙ n-is;
  head_is = ap (option_map start_numbers) head ∙ head_all i n v starts n-is;
}

-- The records.

pub finished : (i : Image) (n : ℕ) (m : Mount) (count : Count) (c : Counted) → IsAccepted i.shape → IsFit i → IsMountOf i m → n ≡ i.shape.chunks
    → IsCountTo i n count
    → ((sectors lines : ℕ) (rs : List Record) → IsCount sectors lines (head_of m) rs count → IsCountedOf sectors lines (head_of m) rs c) → IsCounted i c
finished i n m count c accepted fit mount n-is is of =
    let all : IsCount i.shape.capacity i.shape.chunks (head i) (thin (records i)) count = subst (λ k. IsCountTo i k count) n-is is in
    all_counted i m c accepted fit mount
    (subst (λ o. IsCountedOf i.shape.capacity i.shape.chunks o (thin (records i)) c) mount.head_is
    (of i.shape.capacity i.shape.chunks (thin (records i))
    (subst (λ o. IsCount i.shape.capacity i.shape.chunks o (thin (records i)) count) (sym mount.head_is) all)))

pub few_here : (i : Image) (n : ℕ) (count : Count) → IsAccepted i.shape → IsFit i → n ≡ i.shape.chunks → IsCountTo i n count → length count.late.items ≤ 2 ^ 26
few_here i n count accepted fit n-is is =
    let all : IsCount i.shape.capacity i.shape.chunks (head i) (thin (records i)) count = subst (λ k. IsCountTo i k count) n-is is in
    omega (
      arith,
      length-map count.late.items bare,
      ap length all.late,
      few_late (is_late (head i)) (thin (records i)),
      length-map (records i) without_sector,
      records_few i accepted fit,
    )

pub within_here : (lines : ℕ) (ts : List Trace) (tops : List ℕ) → length tops ≡ lines → AllByRecursion (λ t. t.line < lines) ts
    → AllByRecursion (λ t. t.line < length tops) ts
within_here lines ts tops count h = subst (λ n. AllByRecursion (λ (t : Trace). t.line < n) ts) (sym count) h

-- The whole.

option_twice : (lba : ℕ) (o : Option Record) → option_map (winner_with lba) (option_map without_sector o) ≡ option_map (winner_with lba) o
option_twice lba None = refl
option_twice lba (Some r) = refl

pub found_winners : (i : Image) (c : Counted) (best : List (Option Trace)) (ws : List Winner) → IsCounted i c → best ≡ c.tally.winners.items
    → ((f : ℕ → Option Record) → IsTable (length best) f (map (option_map bare) best)
    → ws ≡ filter_map (λ lba. option_map (winner_with lba) (f lba)) (range_with_len 0 (length best)))
    → ws ≡ filter_map (winner_of i) (range_with_len 0 i.shape.capacity)
found_winners i c best ws is best-is are =
    let table : IsTable i.shape.capacity (thin_winner i) (map (option_map bare) best) =
    subst (λ xs. IsTable i.shape.capacity (thin_winner i) (map (option_map bare) xs)) (sym best-is) is.winners in
    let count : length best ≡ i.shape.capacity = sym (length-map best (option_map bare)) ∙ table.count in
    are (thin_winner i) (subst (λ n. IsTable n (thin_winner i) (map (option_map bare) best)) (sym count) table)
    ∙ ap (λ n. filter_map (λ lba. option_map (winner_with lba) (thin_winner i lba)) (range_with_len 0 n)) count
    ∙ ap (λ f. filter_map f (range_with_len 0 i.shape.capacity)) (fun_ext (λ lba. option_twice lba (winner (counted i) lba)))

pub found_strays : (i : Image) (n : ℕ) (lines seen : List SeenLine) (strays : List ℕ) → IsTable n (seen_line i) lines → n ≡ i.shape.chunks → seen ≡ lines
    → ((j : Image) → IsTable (length seen) (seen_line j) seen → strays ≡ filter (is_stray j) (range_with_len 0 (length seen)))
    → strays ≡ stray_lines i
found_strays i n lines seen strays table n-is seen-is are =
    let here : IsTable n (seen_line i) seen = subst (IsTable n (seen_line i)) (sym seen-is) table in
    are i (subst (λ k. IsTable k (seen_line i) seen) (sym here.count) here) ∙ ap (λ k. filter (is_stray i) (range_with_len 0 k)) (here.count ∙ n-is)

module _ (i : Image) (m : Mount) (lines : List SeenLine) (rows : List (Option Row)) (tops : List ℕ) (mount : IsMountOf i m)
    (seen_are : IsTable i.shape.chunks (seen_line i) lines) (rows_are : IsTable i.shape.chunks (head_row (head_of m)) rows)
    (tops_are : IsTable i.shape.chunks (top_of (counted i)) tops) where
  one_row : (k : ℕ) → k < i.shape.chunks → line_row i k ≡ row_from lines (head_of m) rows tops k
  unfolding seen_line
  one_row k inside =
      let seen : get_or lines k (record { seq = None; full = false; used = false }) ≡ seen_line i k =
      there i.shape.chunks (seen_line i) lines k _ seen_are (omega (arith, seen_are.count)) in
      let row : get_or rows k None ≡ head_row (head_of m) k =
      there i.shape.chunks (head_row (head_of m)) rows k None rows_are (omega (arith, rows_are.count)) in
      let top : get_or tops k 0 ≡ top_of (counted i) k = there i.shape.chunks (top_of (counted i)) tops k 0 tops_are (omega (arith, tops_are.count)) in
      let bound : bound_from (get_or rows k None) (seen_line i k).seq ≡ bound_with (head i) k (seen_line i k).seq =
      ap (λ o. bound_from o (seen_line i k).seq) row ∙ bound_is m.head k (seen_line i k).seq mount.mount.fits
      ∙ ap (λ o. bound_with o k (seen_line i k).seq) mount.head_is in
      rw (seen, bound, top, mount.head_is) refl

  all_rows : (found : List LineRow) → IsTable i.shape.chunks (λ k. row_from lines (head_of m) rows tops k) found
      → found ≡ map (line_row i) (range_with_len 0 i.shape.chunks)
  all_rows found table =
      table_list i.shape.chunks (line_row i) found
      (table_same i.shape.chunks (λ k. row_from lines (head_of m) rows tops k) (line_row i) found table (λ k below. one_row k below))

pub found_rows : (i : Image) (n : ℕ) (m : Mount) (c : Counted) (lines seen : List SeenLine) (rows : List (Option MetaRow)) (tops : List ℕ)
    (found : List LineRow)
    → IsMountOf i m → IsTable n (seen_line i) lines → n ≡ i.shape.chunks → IsCounted i c → seen ≡ lines → rows ≡ m.rows.items → tops ≡ c.tally.tops.items
    → IsTable (length seen) (λ k. row_from seen (head_of m) (map (option_map row_numbers) rows) tops k) found
    → found ≡ map (line_row i) (range_with_len 0 i.shape.chunks)
found_rows i n m c lines seen rows tops found mount table n-is is seen-is rows-is tops-is found-is =
    let here : IsTable i.shape.chunks (seen_line i) seen =
    subst (λ k. IsTable k (seen_line i) seen) n-is (subst (IsTable n (seen_line i)) (sym seen-is) table) in
    let rows_are : IsTable i.shape.chunks (head_row (head_of m)) (map (option_map row_numbers) rows) =
    subst (λ xs. IsTable i.shape.chunks (head_row (head_of m)) (map (option_map row_numbers) xs)) (sym rows-is)
    (subst (λ k. IsTable k (head_row (head_of m)) (map (option_map row_numbers) m.rows.items)) mount.lines mount.mount.rows) in
    let tops_are : IsTable i.shape.chunks (top_of (counted i)) tops = subst (IsTable i.shape.chunks (top_of (counted i))) (sym tops-is) is.tops in
    all_rows i m seen (map (option_map row_numbers) rows) tops mount here rows_are tops_are found
    (subst (λ k. IsTable k (λ k. row_from seen (head_of m) (map (option_map row_numbers) rows) tops k) found) here.count found-is)
