-- Steps of the loops over rows, threads and commands.
use Rattle.std.proofs.Common.{ℕ, zero, suc, ◌+◌, ◌*◌, ◌-◌, ◌<◌, ◌≤◌, ◌≡◌, List, [], ◌∷◌, ◌++◌, length, drop, get_or, min, sym, refl, ap, ◌∙◌, arith, inl, inr}
use Rattle.std.specs.List.{AllByRecursion, enumerate_from, flat_map, range_with_len}
use Rattle.std.proofs.lemmas.Bool.{cases_lt, lt-ltb, le-ltb}
use Rattle.std.proofs.lemmas.List.{append_assoc, append-nil, drop_all, length-map, drop_more}
use Rattle.std.proofs.lemmas.List.FromFn.{length-range_with_len}
use Rattle.std.proofs.lemmas.Grind.{flat_map-append}
use Rattle.pblk_model.specs.declared.script.Command.{Command}
use Rattle.pblk_model.specs.History.{users}
use Rattle.pblk_model.specs.Text.{history_line}
use Rattle.pblk_model.specs.Transcript.{rows_of}
use Rattle.run_threads.specs.declared.records.Answer.{Answer}
use Rattle.run_report.specs.declared.rows.Row.{Row}
use Rattle.run_report.specs.Rows.{thread_rows, rows_from, lines_of}
use Rattle.run_report.specs.RowFits.{HasSectors, AreAsMany}
use Rattle.pblk_model.proofs.Maps.{enumerate_append}

drop_at : {X : Type 0} (xs : List X) (i : ℕ) (d x : X) → i < length xs → x ≡ get_or xs i d → drop i xs ≡ x ∷ drop (i + 1) xs
drop_at xs i d x below is = drop_more xs i d below ∙ ap (λ y. y ∷ drop (i + 1) xs) (sym is)

pub all_at : {X : Type 0} (P : X → Type 0) (xs : List X) (i : ℕ) (d : X) → AllByRecursion P xs → i < length xs → P (get_or xs i d)
all_at P [] i d all below = absurd (omega (arith, below))
all_at P (y ∷ xs) zero d all below = all.0
all_at P (y ∷ xs) (suc i) d all below = all_at P xs i d all.1 (omega (arith, below))

-- The history.

abbrev pub text_of_lines : ℕ → ℕ → ℕ → ℕ → ℕ → List ℕ
text_of_lines number thread tag lba count = flat_map history_line (enumerate_from number (rows_of (record {
  thread = thread;
  lba = lba;
  count = count;
  tag = tag;
})))

pub line_step : (old out all : List ℕ) (number thread tag lba count k at : ℕ) → k < count → at ≡ k
    → old ++ text_of_lines (number + k) thread tag (lba + k) (count - k) ≡ all
    → out ≡ old ++ history_line (number + at, record { thread = thread; lba = lba + at; tag = tag })
    → out ++ text_of_lines (number + (k + 1)) thread tag (lba + (k + 1)) (count - (k + 1)) ≡ all
line_step old out all number thread tag lba count k at below same h is =
    let rest = text_of_lines (number + (k + 1)) thread tag (lba + (k + 1)) (count - (k + 1)) in
    let left : count - k ≡ suc (count - (k + 1)) = omega arith in
    let n : number + k + 1 ≡ number + (k + 1) = omega arith in
    let l : lba + k + 1 ≡ lba + (k + 1) = omega arith in
    let line : out ≡ old ++ history_line (number + k, record { thread = thread; lba = lba + k; tag = tag }) = rw (← same) is in
    ap (λ xs. xs ++ rest) line ∙ append_assoc old (history_line (
      number + k,
      record {
        thread = thread;
        lba = lba + k;
        tag = tag;
      },
    )) rest ∙ (rw (left, n, l) at h)

length-lines_of : (row : Row) → length (lines_of row) ≡ row.count
length-lines_of row = length-map (range_with_len row.lba row.count) _ ∙ length-range_with_len row.lba row.count

pub history_step : (old out all : List ℕ) (number n i : ℕ) (d : Row) (rows : List Row) → i < length rows → AllByRecursion HasSectors rows → number ≤ 16 * i
    → old ++ flat_map history_line (enumerate_from number (flat_map lines_of (drop i rows))) ≡ all
    → out ≡ old ++ flat_map history_line (enumerate_from number (lines_of (get_or rows i d))) → n ≡ (get_or rows i d).count
    → (number + n ≤ 16 * (i + 1)) × (out ++ flat_map history_line (enumerate_from (number + n) (flat_map lines_of (drop (i + 1) rows))) ≡ all)
history_step old out all number n i d rows below fits few h is many =
    let row = get_or rows i d in
    let sectors = all_at HasSectors rows i d fits below in
    let rest = flat_map lines_of (drop (i + 1) rows) in
    let first = flat_map history_line (enumerate_from number (lines_of row)) in
    let count : length (lines_of row) ≡ n = length-lines_of row ∙ sym many in
    let whole : flat_map history_line (enumerate_from number (flat_map lines_of (drop i rows))) ≡ first ++ flat_map history_line
    (enumerate_from (number + n) rest) =
    ap (λ xs. flat_map history_line (enumerate_from number (flat_map lines_of xs))) (drop_more rows i d below)
    ∙ ap (flat_map history_line) (enumerate_append number (lines_of row) rest)
    ∙ ap (λ (k : ℕ). flat_map history_line (enumerate_from number (lines_of row) ++ enumerate_from (number + k) rest)) count
    ∙ flat_map-append history_line (enumerate_from number (lines_of row)) (enumerate_from (number + n) rest) in (
      omega (arith, few, sectors.few, many),
      ap (λ xs. xs ++ flat_map history_line (enumerate_from (number + n) rest)) is
          ∙ append_assoc old first (flat_map history_line (enumerate_from (number + n) rest))
          ∙ ap (λ xs. old ++ xs) (sym whole) ∙ h,
    )

-- What is kept.

pub users_range : (first count end : ℕ) → users (range_with_len first count) end ≡ min count (end - first)
users_range first zero end = omega arith
users_range first (suc count) end =
    let more = users_range (first + 1) count end in
    elim (cases_lt first end) [
      | inl below ↦ rw (lt-ltb first end below) (omega (arith, more, below))
      | inr past ↦ rw (le-ltb first end past) (omega (arith, more, past))
    ]

-- Rows.

pub no_more : (thread : ℕ) (script : List (List Command)) → rows_from thread script [] ≡ []
no_more thread [] = refl
no_more thread (commands ∷ script) = refl

pub many_at : (script : List (List Command)) (threads : List (List Answer)) (i : ℕ) → AreAsMany script threads → i < length threads
    → (i < length script) × ((commands e : List Command) (answers d : List Answer) → commands ≡ get_or script i e → answers ≡ get_or threads i d
    → length answers ≡ length commands)
many_at script [] i h below = absurd (omega (arith, below))
many_at [] (t ∷ threads) i h below = absurd h
many_at (c ∷ script) (t ∷ threads) zero h below = (omega arith, λ commands e answers d a b. rw (a, b) h.0)
many_at (c ∷ script) (t ∷ threads) (suc i) h below = let later = many_at script threads i h.1 (omega (arith, below)) in (omega (arith, later.0), later.1)

pub threads_step : (old new all : List Row) (i : ℕ) (commands e : List Command) (answers d : List Answer) (script : List (List Command))
    (threads : List (List Answer))
    → i < length threads → i < length script → commands ≡ get_or script i e → answers ≡ get_or threads i d
    → old ++ rows_from i (drop i script) (drop i threads) ≡ all → new ≡ old ++ thread_rows i commands answers
    → new ++ rows_from (i + 1) (drop (i + 1) script) (drop (i + 1) threads) ≡ all
threads_step old new all i commands e answers d script threads below in_script c a h is =
    let rest = rows_from (i + 1) (drop (i + 1) script) (drop (i + 1) threads) in
    let here = drop_at script i e commands in_script c in
    let there = drop_at threads i d answers below a in
    ap (λ xs. xs ++ rest) is ∙ append_assoc old (thread_rows i commands answers) rest ∙ (rw (here, there) at h)

-- at the end
pub threads_end : (old all : List Row) (i : ℕ) (script : List (List Command)) (threads : List (List Answer)) → length threads ≤ i
    → old ++ rows_from i (drop i script) (drop i threads) ≡ all → old ≡ all
threads_end old all i script threads past h = sym (append-nil old) ∙ ap (λ xs. old ++ xs) (sym (no_more i (drop i script)))
    ∙ (rw (drop_all i threads past) at h)
