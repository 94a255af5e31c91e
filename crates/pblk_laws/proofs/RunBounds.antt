-- How large the numbers of a run are.
use Rattle.std.proofs.Common.{ℕ, zero, suc, ◌+◌, ◌*◌, ◌^◌, ◌<◌, ◌≤◌, ◌==◌, Bool, true, false, not, cond, List, [], ◌∷◌, map, length, slice_get, refl, sym, ap, subst, arith, length-append, inl, inr}
use Rattle.std.specs.List.{AllByRecursion, cons_option, filter, filter_map, flat_map, zip, sum_by, range_with_len}
use Rattle.std.specs.Option.{unwrap_or}
use Rattle.std.proofs.lemmas.Bool.{eq-eqb, eqb-false, cases_Bool, cases_lt}
use Rattle.std.proofs.lemmas.List.{length-map}
use Rattle.std.proofs.lemmas.List.FromFn.{length-range_with_len}
use Rattle.std.proofs.lemmas.List.Filters.{length-filter_both}
use Rattle.std.proofs.lemmas.List.Sums.{sum_by-cons}
use Rattle.std.proofs.lemmas.Option.{slice_get_past}
use Rattle.pblk_model.specs.declared.script.Command.{Command}
use Rattle.pblk_model.specs.declared.script.Command.TheVariants.{Write, Read, Flush, Post, Await}
use Rattle.pblk_model.specs.Script.{CommandFits, ScriptFits}
use Rattle.pblk_model.specs.Text.{Outcome, Silent, Words, Flushed, Drive, Worn, Transcript}
use Rattle.pblk_model.specs.Transcript.{PlacedWrite, rows_of, placed_write, placed_by, IsTranscript}
use Rattle.pblk_laws.proofs.TextLines.{RowFits, row_of}
use Rattle.pblk_model.proofs.Lists.{all_append}
use Rattle.pblk_model.proofs.Maps.{longer_option}

-- a write of a script
record WriteFits (w : PlacedWrite) : Type 0 where
  thread : w.thread < 16
  lba : w.lba < 2 ^ 64
  count : w.count ≤ 16
  tag : w.tag < 2 ^ 64

-- What holds of each thread's writes holds of all.

holds_own : (P : PlacedWrite → Type 0) (w : PlacedWrite) (kept : List PlacedWrite) → AllByRecursion P (cond (w.thread == w.thread) (w ∷ kept) kept) → P w
holds_own P w kept h = (rw (eq-eqb w.thread w.thread refl) at h).0

holds_rest : (P : PlacedWrite → Type 0) (b : Bool) (w : PlacedWrite) (kept : List PlacedWrite) → AllByRecursion P (cond b (w ∷ kept) kept)
    → AllByRecursion P kept
holds_rest P true w kept h = h.1
holds_rest P false w kept h = h

holds_by_thread : (P : PlacedWrite → Type 0) (order : List PlacedWrite) → ((i : ℕ) → AllByRecursion P (filter (λ w. w.thread == i) order))
    → AllByRecursion P order
holds_by_thread P [] each = tt
holds_by_thread P (w ∷ order) each =
    (holds_own P w _ (each w.thread), holds_by_thread P order (λ i. holds_rest P (w.thread == i) w _ (each i)))

-- How many there are, where each of n threads has at most k.

longer_both : {X : Type 0} (b : Bool) (x : X) (xs ys : List X) → length xs ≤ length ys → length (cond b (x ∷ xs) xs) ≤ length (cond b (x ∷ ys) ys)
longer_both true x xs ys h = omega arith
longer_both false x xs ys h = h

longer_one : {X : Type 0} (b : Bool) (x : X) (xs ys : List X) → length xs ≤ length ys → length xs ≤ length (cond b (x ∷ ys) ys)
longer_one true x xs ys h = omega arith
longer_one false x xs ys h = h

filter_twice : (p q : PlacedWrite → Bool) (order : List PlacedWrite) → length (filter p (filter q order)) ≤ length (filter p order)
filter_twice p q [] = omega arith
filter_twice p q (w ∷ order) =
    let more = filter_twice p q order in
    elim (cases_Bool (q w)) [ inl e ↦ rw e (longer_both (p w) w _ _ more) | inr e ↦ rw e (longer_one (p w) w _ _ more) ]

below_last : (n : ℕ) (order : List PlacedWrite) → AllByRecursion (λ w. w.thread < suc n) order
    → AllByRecursion (λ w. w.thread < n) (filter (λ w. not (w.thread == n)) order)
below_last n [] h = tt
below_last n (w ∷ order) h =
    elim (cases_Bool (w.thread == n)) [
      | inl e ↦ rw e (below_last n order h.1)
      | inr e ↦ let other = eqb-false w.thread n e in rw e (omega (arith, h.0), below_last n order h.1)
    ]

length_by_thread : (k n : ℕ) (order : List PlacedWrite) → AllByRecursion (λ w. w.thread < n) order → ((i : ℕ) → length (filter (λ w. w.thread == i) order) ≤ k)
    → length order ≤ n * k
length_by_thread k zero [] h each = omega arith
length_by_thread k zero (w ∷ order) h each = absurd (omega (arith, h.0))
length_by_thread k (suc n) order h each =
    let others = filter (λ (w : PlacedWrite). not (w.thread == n)) order in
    let less = length_by_thread k n others (below_last n order h)
    (λ i. let twice = filter_twice (λ w. w.thread == i) (λ w. not (w.thread == n)) order in omega (arith, twice, each i)) in
    let both = length-filter_both (λ (w : PlacedWrite). w.thread == n) (λ w. not (w.thread == n)) (λ w. refl) order in
    omega (arith, less, both, each n)

-- The writes of a script.

one_fits : (capacity i : ℕ) (c : Command) (o : Outcome) (more : List PlacedWrite) → i < 16 → CommandFits capacity c → AllByRecursion WriteFits more
    → AllByRecursion WriteFits (cons_option (placed_write i (c, o)) more)
one_fits capacity i (Write lba count tag) Silent more l fits h = (record { thread = l; lba = fits.0.number; count = fits.0.few; tag = fits.1 }, h)
one_fits capacity i (Write lba count tag) (Words front words) more l fits h = h
one_fits capacity i (Write lba count tag) (Flushed front) more l fits h = h
one_fits capacity i (Write lba count tag) (Drive unit event) more l fits h = h
one_fits capacity i (Write lba count tag) (Worn wanted have) more l fits h = h
one_fits capacity i (Read lba count) o more l fits h = h
one_fits capacity i Flush o more l fits h = h
one_fits capacity i (Post name) o more l fits h = h
one_fits capacity i (Await name) o more l fits h = h

commands_fit : (capacity i : ℕ) (cs : List Command) (os : List Outcome) → i < 16 → AllByRecursion (CommandFits capacity) cs
    → AllByRecursion WriteFits (filter_map (placed_write i) (zip cs os))
commands_fit capacity i [] os l fits = tt
commands_fit capacity i (c ∷ cs) [] l fits = tt
commands_fit capacity i (c ∷ cs) (o ∷ os) l fits = one_fits capacity i c o _ l fits.0 (commands_fit capacity i cs os l fits.1)

thread_fits : (capacity : ℕ) (script : List (List Command)) (i : ℕ) → AllByRecursion (AllByRecursion (CommandFits capacity)) script
    → AllByRecursion (CommandFits capacity) (unwrap_or (slice_get script i) [])
thread_fits capacity [] i fits = tt
thread_fits capacity (cs ∷ script) zero fits = fits.0
thread_fits capacity (cs ∷ script) (suc i) fits = thread_fits capacity script i fits.1

placed_fit : (capacity : ℕ) (script : List (List Command)) (t : Transcript) (i : ℕ) → ScriptFits capacity script
    → AllByRecursion WriteFits (placed_by script t i)
placed_fit capacity script t i fits =
    elim (cases_lt i 16) [
      | inl l ↦ commands_fit capacity i _ _ l (thread_fits capacity script i fits.each)
      | inr past ↦ let none = slice_get_past script i (omega (arith, fits.threads)) in rw none tt
    ]

commands_length : (i : ℕ) (cs : List Command) (os : List Outcome) → length (filter_map (placed_write i) (zip cs os)) ≤ length cs
commands_length i [] os = omega arith
commands_length i (c ∷ cs) [] = omega arith
commands_length i (c ∷ cs) (o ∷ os) = omega (arith, longer_option (placed_write i (c, o)) (filter_map (placed_write i) (zip cs os)), commands_length i cs os)

thread_length : (script : List (List Command)) (i : ℕ) → length (unwrap_or (slice_get script i) []) ≤ sum_by length script
thread_length [] i = omega arith
thread_length (cs ∷ script) zero = omega (arith, sum_by-cons length cs script)
thread_length (cs ∷ script) (suc i) = omega (arith, sum_by-cons length cs script, thread_length script i)

-- The rows of the writes.

sectors_fit : (thread tag lba count : ℕ) → thread < 16 → tag < 2 ^ 64 → lba + count < 2 ^ 65
    → AllByRecursion RowFits (map (λ at. record { thread = thread; lba = at; tag = tag }) (range_with_len lba count))
sectors_fit thread tag lba zero h k l = tt
sectors_fit thread tag lba (suc count) h k l =
    (record { thread = omega arith; lba = omega arith; tag = omega arith }, sectors_fit thread tag (lba + 1) count h k (omega arith))

rows_fit : (order : List PlacedWrite) → AllByRecursion WriteFits order → AllByRecursion RowFits (flat_map rows_of order)
rows_fit [] h = tt
rows_fit (w ∷ order) h =
    let f = h.0 in
    all_append RowFits (rows_of w) (flat_map rows_of order) (sectors_fit w.thread w.tag w.lba w.count f.thread f.tag (omega arith)) (rows_fit order h.1)

rows_length : (order : List PlacedWrite) → AllByRecursion WriteFits order → length (flat_map rows_of order) ≤ length order * 16
rows_length [] h = omega arith
rows_length (w ∷ order) h =
    let f = h.0 in
    omega (
      arith,
      length-append (rows_of w) (flat_map rows_of order),
      length-map (range_with_len w.lba w.count) (λ lba. row_of w.thread lba w.tag),
      length-range_with_len w.lba w.count,
      rows_length order h.1,
    )

threads_fit : (order : List PlacedWrite) → AllByRecursion WriteFits order → AllByRecursion (λ w. w.thread < 16) order
threads_fit [] h = tt
threads_fit (w ∷ order) h = (h.0.thread, threads_fit order h.1)

-- The history of a run.

module _ (size capacity : ℕ) (script : List (List Command)) (before : List (List ℕ)) (t : Transcript) (fits : ScriptFits capacity script)
    (run : IsTranscript size script before t) where
  order_fits : AllByRecursion WriteFits run.order
  order_fits = holds_by_thread WriteFits run.order (λ i. subst (AllByRecursion WriteFits) (sym (run.each i)) (placed_fit capacity script t i fits))

  pub history_fits : AllByRecursion RowFits t.history
  history_fits = subst (AllByRecursion RowFits) (sym run.history) (rows_fit run.order order_fits)

  thread_short : (i : ℕ) → length (filter (λ w. w.thread == i) run.order) ≤ 200000
  thread_short i = rw (run.each i)
      (omega (arith, commands_length i (unwrap_or (slice_get script i) []) (unwrap_or (slice_get t.outcomes i) []), thread_length script i, fits.commands))

  pub history_short : length t.history < 10 ^ 64
  history_short =
      let writes = length_by_thread 200000 16 run.order (threads_fit run.order order_fits) thread_short in
      omega (arith, writes, rows_length run.order order_fits, ap length run.history)

  pub kept_fits : t.kept < 10 ^ 64
  kept_fits = omega (arith, history_short, run.kept_within)
