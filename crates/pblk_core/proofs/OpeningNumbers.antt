-- The numbers of the start record of the line that is opened next fit a start record.
use Rattle.std.proofs.Common.{◌≡◌, ◌≢◌, ℕ, ◌+◌, ◌-◌, ◌^◌, ◌<◌, ◌≤◌, ◌==◌, not, zero, suc, if◌then◌else◌, Bool, true, false, Some, None, Option, List, [], ◌∷◌, length, refl, sym, subst, ap, ◌∙◌, arith, IsTrue}
use Rattle.std.specs.Prelude.{slice_get}
use Rattle.std.specs.List.{AllByRecursion, filter_map, cons_option, range_with_len}
use Rattle.std.proofs.lemmas.Option.{none-some, same_Some}
use Rattle.pblk_model.specs.declared.shape.Shape.{Shape}
use Rattle.pblk_model.specs.StartRecord.{Row, StartRecord, start_of, start_fits, rows_fit}
use Rattle.pblk_model.specs.Image.{Image}
use Rattle.pblk_meta.specs.Records.{start_numbers}
use Rattle.pblk_world.specs.Events.{Begin, Event, Decides, Logged}
use Rattle.pblk_world.specs.World.{World, Logs, log_of, prefixes}
use Rattle.pblk_world.specs.EngineLog.{Begun, begun_by, begun, openings, is_as_found, life_of}
use Rattle.pblk_world.specs.Fronts.{first_position, synced}
use Rattle.pblk_world.specs.Legal.{IsLegal, IsAllowed}
use Rattle.pblk_world.specs.Lines.{found_image}
use Rattle.pblk_world.specs.Space.{freed}
use Rattle.pblk_world.specs.Starts.{found_row, older_row, older_rows}
use Rattle.write_window.specs.Window as view
use Rattle.pblk_world.specs.LegalMounts.{IsLegalMount}
use Rattle.line_table.proofs.Places.{eqb-same}
use Rattle.core_laws.proofs.Growing.{freed_within}
use Rattle.core_laws.proofs.Happened.{happened}
use Rattle.world_laws.proofs.FoundCounts.{kept_few as few_made}
use Rattle.world_laws.proofs.StartFits.{next_positive as some_next}
use Rattle.pblk_core.specs.declared.target_core.Core.{Core}
use Rattle.pblk_core.specs.Named.{next_line, next_start}
use Rattle.pblk_core.specs.Stands.{Stands, IsOlder}
use Rattle.pblk_core.proofs.FoundLines.{free_has_no_row}
use Rattle.pblk_core.proofs.OpeningFacts.{MayOpenNext, IsNextLine, next_line_is}
use Rattle.pblk_core.proofs.WorkOf.{synced_at}
use Rattle.pblk_model.proofs.Tests.{and_both, le_true, lt_true, other_number}

-- ---- the mount's first number

seq_by : (i : Image) (logs : Logs) (knows : List ℕ) (e : Event) (b : Begun) → begun_by knows e ≡ Some b → IsAllowed i 0 e logs → 1 ≤ b.beginning.seq
seq_by i logs knows (Decides (Begin x)) b h may =
    subst (λ (y : Begun). 1 ≤ y.beginning.seq) (same_Some (record { beginning = x; knows = knows }) b h) (subst (λ n. 1 ≤ n) (sym may.seq) (some_next _))
seq_by i logs knows e b h may = absurd (none-some b h)

pub begin_seq : (i : Image) (w : World) (b : Begun) → IsLegal i w → begun (log_of w 0) ≡ Some b → 1 ≤ b.beginning.seq
begin_seq i w b legal has = go (log_of w 0) refl
  where
    go : (log : List Logged) → log_of w 0 ≡ log → 1 ≤ b.beginning.seq
    go [] is = absurd (none-some b (sym (ap begun is) ∙ has))
    go (l ∷ log) is = seq_by i (prefixes l (log_of w)) l.knows l.event b (sym (ap begun is) ∙ has)
        (happened i w 0 legal 0 l (ap (λ (xs : List Logged). slice_get xs 0) is)).allowed

-- ---- the record

-- each row is of the line of which it is made
IsOwnRow : ℕ → Option Row → Type 0
IsOwnRow line None = Unit {0}
IsOwnRow line (Some row) = row.line ≡ line

own_row : (i : Image) (logs : Logs) (line : ℕ) → IsOwnRow line (older_row i logs line)
unfolding IsOwnRow
own_row i logs line = by_life (is_as_found (life_of (logs 0) line)) (found_row i logs line (start_of (found_image i logs) line))
    (found (start_of (found_image i logs) line))
  where
    found : (o : Option StartRecord) → IsOwnRow line (found_row i logs line o)
    found None = tt
    found (Some start) = refl

    by_life : (b : Bool) (o : Option Row) → IsOwnRow line o → IsOwnRow line (if b then o else None)
    by_life true o is = is
    by_life false o is = tt

rows_are_fit : (i : Image) (logs : Logs) (r : StartRecord) (first least a n : ℕ) → older_row i logs r.line ≡ None → first ≤ r.front → least ≤ a
    → a + n ≤ i.shape.chunks
    → AllByRecursion (IsOlder r.first_seq first) (filter_map (older_row i logs) (range_with_len a n))
    → rows_fit i.shape r least (filter_map (older_row i logs) (range_with_len a n)) ≡ true
unfolding IsOwnRow
rows_are_fit i logs r first least a zero none front low within older = refl
rows_are_fit i logs r first least a (suc n) none front low within older = go (older_row i logs a) refl (own_row i logs a) older
    (λ m below rest. rows_are_fit i logs r first m (a + 1) n none front below (omega arith) rest)
  where
    go : (o : Option Row) → older_row i logs a ≡ o → IsOwnRow a o
        → AllByRecursion (IsOlder r.first_seq first) (cons_option o (filter_map (older_row i logs) (range_with_len (a + 1) n)))
        → ((m : ℕ) → m ≤ a + 1 → AllByRecursion (IsOlder r.first_seq first) (filter_map (older_row i logs) (range_with_len (a + 1) n))
        → rows_fit i.shape r m (filter_map (older_row i logs) (range_with_len (a + 1) n)) ≡ true)
        → rows_fit i.shape r least (cons_option o (filter_map (older_row i logs) (range_with_len (a + 1) n))) ≡ true
    go None e own older again = again least (omega arith) older
    go (Some row) e own older again =
        let other : row.line ≢ r.line = λ same. none-some row (sym none ∙ ap (older_row i logs) (sym (sym own ∙ same)) ∙ e) in
        let bound : row.bound ≤ first = older.0.2 in
        let next : rows_fit i.shape r (row.line + 1) (filter_map (older_row i logs) (range_with_len (a + 1) n)) ≡ true =
        again (row.line + 1) (omega (arith, own)) older.1 in
        and_both _ _ (and_both _ _ (and_both _ _ (and_both _ _ (and_both _ _ (and_both _ _
        (le_true least row.line (omega (arith, own))) (lt_true row.line i.shape.chunks (omega (arith, own))))
        (ap (λ b. not b) (other_number row.line r.line other))) (le_true 1 row.seq older.0.0))
        (lt_true row.seq r.first_seq older.0.1)) (le_true row.bound r.front (omega arith))) next

fewer_made : {X : Type 0} (h : ℕ → Option X) (a n k : ℕ) → h (a + k) ≡ None → k < n → length (filter_map h (range_with_len a n)) + 1 ≤ n
fewer_made h a zero k none inside = absurd (omega arith)
fewer_made {X} h a (suc n) zero none inside =
    let from : a + 0 ≡ a = omega arith in
    let rest = few_made h (a + 1) n in
    subst (λ (o : Option X). length (cons_option o (filter_map h (range_with_len (a + 1) n))) + 1 ≤ suc n) (sym (ap h (sym from) ∙ none)) (omega arith)
fewer_made {X} h a (suc n) (suc k) none inside =
    let next : a + suc k ≡ a + 1 + k = omega arith in
    let rest : length (filter_map h (range_with_len (a + 1) n)) + 1 ≤ n = fewer_made h (a + 1) n k (ap h (sym next) ∙ none) (omega arith) in
    elim (h a) as (λ (o : Option X). length (cons_option o (filter_map h (range_with_len (a + 1) n))) + 1 ≤ suc n) [ None ↦ omega arith | Some x ↦ omega arith ]

record_fits : (s : Shape) (r : StartRecord) → r.capacity ≡ s.capacity → 1 ≤ r.first_seq → r.first_seq ≤ r.seq → r.seq < 2 ^ 61 → r.front < 2 ^ 61
    → length r.rows ≤ s.chunks - 1 → rows_fit s r 0 r.rows ≡ true → start_fits s r.line r.width r ≡ true
record_fits s r capacity some rises seq front few rows =
    and_both _ _ (and_both _ _ (and_both _ _ (and_both _ _ (and_both _ _ (and_both _ _ (and_both _ _ (and_both _ _
    (eqb-same r.line) (eqb-same r.width)) (ap (λ n. n == s.capacity) capacity ∙ eqb-same s.capacity)) (le_true 1 r.first_seq some))
    (le_true r.first_seq r.seq rises))
    (lt_true r.seq (2 ^ 61) seq)) (lt_true r.front (2 ^ 61) front)) (le_true (length r.rows) (s.chunks - 1) few)) rows

pub next_fits : (i : Image) (w : World) (c : Core) → IsLegalMount i w → Stands i (log_of w) c → MayOpenNext c
    → IsTrue (start_fits i.shape (next_start c).line (next_start c).width (next_start c))
next_fits i w c mount st may =
    let is : IsNextLine i w c = next_line_is i w c mount st may in
    let first : c.start.first_seq ≡ st.beginning.beginning.seq = st.first_seq in
    let next : c.start.seq ≡ st.beginning.beginning.seq + length (openings (log_of w 0)) = st.next_seq in
    let some : 1 ≤ st.beginning.beginning.seq = begin_seq i w st.beginning mount.legal st.has_begun in
    let none : older_row i (log_of w) (next_line c) ≡ None = free_has_no_row i (log_of w) (next_line c) is.least.is_free in
    let from : 0 + next_line c ≡ next_line c = omega arith in
    let fewer : length (older_rows i (log_of w)) + 1 ≤ i.shape.chunks =
    fewer_made (older_row i (log_of w)) 0 i.shape.chunks (next_line c) (ap (older_row i (log_of w)) from ∙ none) is.least.in_range in
    let count : length (start_numbers c.start).rows ≡ length (older_rows i (log_of w)) = ap (λ (rs : List Row). length rs) st.older in
    record_fits i.shape (next_start c) st.own_capacity (omega arith) (omega arith) may.seq may.front (omega arith)
    (subst (λ (rs : List Row). rows_fit i.shape (next_start c) 0 rs ≡ true) (sym st.older)
    (rows_are_fit i (log_of w) (next_start c) c.first 0 0 i.shape.chunks none (front_above i w c mount st) (omega arith) (omega arith)
    (subst (AllByRecursion (IsOlder c.start.first_seq c.first)) st.older st.fits.rows)))
  where
    front_above : (i : Image) (w : World) (c : Core) → IsLegalMount i w → Stands i (log_of w) c → c.first ≤ (view.synced c.window).position
    front_above i w c mount st =
        let a : first_position (log_of w 0) ≤ c.window.freed = st.from_first in
        let b : c.window.freed ≤ freed i.shape (log_of w 0) = st.to_freed in
        let d : freed i.shape (log_of w 0) ≤ synced i.shape (log_of w 0) = freed_within i.shape (log_of w 0) in
        let e : (view.synced c.window).position ≡ synced i.shape (log_of w 0) = synced_at i w c mount st in
        let f : c.first ≡ first_position (log_of w 0) = st.first in
        omega arith
