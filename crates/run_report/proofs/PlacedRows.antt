-- Rows in the order of their positions, and the writes and the lines that they are.
use Rattle.std.proofs.Common.{ℕ, zero, suc, ◌+◌, ◌≤◌, ◌≡◌, ◌==◌, nat_lt, Bool, true, false, cond, List, [], ◌∷◌, ◌++◌, map, length, take, sym, refl, ap, ◌∙◌, if◌then◌else◌, arith, inl, inr}
use Rattle.std.specs.List.{count_by, filter, flat_map, range_with_len}
use Rattle.std.proofs.lemmas.Bool.{cases_Bool, cases_lt, lt-ltb, le-ltb}
use Rattle.std.proofs.lemmas.List.Folds.{flat_map-map}
use Rattle.std.proofs.lemmas.List.Sums.{sum_by-cons}
use Rattle.pblk_model.specs.History.{users}
use Rattle.pblk_model.specs.Text.{HistoryLine}
use Rattle.block_port.specs.ByPlace.{ThreadWrite, all_lines, by_place, order_by, put_by}
use Rattle.block_port.specs.Own.{PlacedSector}
use Rattle.block_port.specs.Port.{Rise, positions}
use Rattle.run_report.specs.declared.rows.Row.{Row}
use Rattle.run_report.specs.Rows.{in_order, lines_of, positions_of}
use Rattle.run_report.proofs.Known.{keyed, keyed_row, none_below, placed_lines}

-- The order of things is that of what a function makes of them, by keys of what is made.
module _ {X Y : Type 0} (f : X → Y) (key : Y → ℕ) where
  put_mapped : (x : X) (xs : List X) → map f (put_by (λ z. key (f z)) x xs) ≡ put_by key (f x) (map f xs)
  put_mapped x [] = refl
  put_mapped x (y ∷ ys) = go (nat_lt (key (f y)) (key (f x))) (put_mapped x ys)
    where
      go : (b : Bool) → map f (put_by (λ z. key (f z)) x ys) ≡ put_by key (f x) (map f ys)
          → map f (if b then y ∷ put_by (λ z. key (f z)) x ys else x ∷ y ∷ ys) ≡ (if b then f y ∷ put_by key (f x) (map f ys) else f x ∷ f y ∷ map f ys)
      go true later = ap (λ l. f y ∷ l) later
      go false later = refl

  order_mapped : (xs : List X) → map f (order_by (λ z. key (f z)) xs) ≡ order_by key (map f xs)
  order_mapped [] = refl
  order_mapped (x ∷ xs) = put_mapped x (order_by (λ z. key (f z)) xs) ∙ ap (put_by key (f x)) (order_mapped xs)

-- the lines of keyed lines in order
abbrev pub keyed_lines : List (ℕ × List PlacedSector) → List PlacedSector
keyed_lines zs = flat_map (λ z. z.1) (order_by (λ z. z.0) zs)

-- they are those of writes, and those of rows
pub lines_of_writes : (writes : List ThreadWrite) → all_lines (by_place writes) ≡ keyed_lines (map (λ w. keyed w.write) writes)
lines_of_writes writes =
    sym (flat_map-map (λ (z : ℕ × List PlacedSector). z.1) (λ (w : ThreadWrite). keyed w.write) (by_place writes))
    ∙ ap (flat_map (λ (z : ℕ × List PlacedSector). z.1)) (order_mapped (λ (w : ThreadWrite). keyed w.write) (λ (z : ℕ × List PlacedSector). z.0) writes)

pub lines_of_rows : (size : ℕ) (rows : List Row) → flat_map (placed_lines size) (in_order rows) ≡ keyed_lines (map (keyed_row size) rows)
lines_of_rows size rows =
    sym (flat_map-map (λ (z : ℕ × List PlacedSector). z.1) (keyed_row size) (in_order rows))
    ∙ ap (flat_map (λ (z : ℕ × List PlacedSector). z.1)) (order_mapped (keyed_row size) (λ (z : ℕ × List PlacedSector). z.0) rows)

-- The lines of one thread.

-- the positions of those among these lines
abbrev pub passing : ℕ → List ℕ → List HistoryLine → List ℕ
passing i (p ∷ ps) (line ∷ lines) = if line.thread == i then p ∷ passing i ps lines else passing i ps lines
passing i ps lines = []

few_passing : (i p : ℕ) (ps : List ℕ) (lines : List HistoryLine) → users (passing i ps lines) p ≤ users ps p
few_passing i p [] lines = omega arith
few_passing i p (q ∷ ps) [] = omega arith
few_passing i p (q ∷ ps) (line ∷ lines) =
    let rest = few_passing i p ps lines in
    elim (cases_Bool (line.thread == i)) [
      | inl e ↦ elim (cases_lt q p) [
        | inl below ↦ rw (e, lt-ltb q p below) (omega (arith, rest))
        | inr past ↦ rw (e, le-ltb q p past) rest
      ]
      | inr e ↦ elim (cases_lt q p) [
        | inl below ↦ rw (e, lt-ltb q p below) (omega (arith, rest))
        | inr past ↦ rw (e, le-ltb q p past) rest
      ]
    ]

abbrev tally : ℕ → HistoryLine → ℕ
tally i line = cond (line.thread == i) 1 0

-- of the first lines, up to a position, a thread has as many as it has positions below
pub count_below : (i p from to : ℕ) (known : List PlacedSector) (lines : List HistoryLine) → length known ≡ length lines → Rise from to known
    → count_by (λ line. line.thread == i) (take (users (positions known) p) lines) ≡ users (passing i (positions known) lines) p
count_below i p from to [] [] same rise = refl
count_below i p from to [] (line ∷ lines) same rise = absurd (omega (arith, same))
count_below i p from to (x ∷ known) [] same rise = absurd (omega (arith, same))
count_below i p from to (x ∷ known) (line ∷ lines) same rise =
    elim (cases_lt x.position p) [
      | inl below ↦
          let more = sum_by-cons (tally i) line (take (users (positions known) p) lines) in
          let rest = count_below i p (x.position + 1) to known lines (omega (arith, same)) rise.1 in
          elim (cases_Bool (line.thread == i)) [
            | inl e ↦ let one : tally i line ≡ 1 = rw e refl in rw (e, lt-ltb x.position p below) (omega (arith, more, one, rest))
            | inr e ↦ let none : tally i line ≡ 0 = rw e refl in rw (e, lt-ltb x.position p below) (omega (arith, more, none, rest))
          ]
      | inr past ↦
          let none = none_below x.position to p (x ∷ known) (omega arith, rise.1) past in
          let few = few_passing i p (positions (x ∷ known)) (line ∷ lines) in
          let zero_ : users (passing i (positions (x ∷ known)) (line ∷ lines)) p ≡ 0 = omega (arith, none, few) in
          ap (λ n. count_by (λ (l : HistoryLine). l.thread == i) (take n (line ∷ lines))) none ∙ sym zero_
    ]

-- a row's are all its thread's

passing_row : (i first thread lba count tag : ℕ) (ps : List ℕ) (lines : List HistoryLine)
    → passing i (range_with_len first count ++ ps) (map (λ at. record { thread = thread; lba = at; tag = tag }) (range_with_len lba count) ++ lines)
    ≡ (if thread == i then range_with_len first count ++ passing i ps lines else passing i ps lines)
passing_row i first thread lba zero tag ps lines = elim (cases_Bool (thread == i)) [ inl e ↦ rw e refl | inr e ↦ rw e refl ]
passing_row i first thread lba (suc count) tag ps lines =
    let rest = passing_row i (first + 1) thread (lba + 1) count tag ps lines in
    elim (cases_Bool (thread == i)) [
      | inl e ↦ let later = rw e at rest in rw e (ap (λ xs. first ∷ xs) later)
      | inr e ↦ let later = rw e at rest in rw e later
    ]

pub passing_rows : (i : ℕ) (rows : List Row)
    → passing i (flat_map positions_of rows) (flat_map lines_of rows) ≡ flat_map positions_of (filter (λ row. row.thread == i) rows)
passing_rows i [] = refl
passing_rows i (row ∷ rows) =
    passing_row i row.first row.thread row.lba row.count row.tag (flat_map positions_of rows) (flat_map lines_of rows)
    ∙ elim (cases_Bool (row.thread == i)) [
      | inl e ↦ rw e (ap (λ xs. positions_of row ++ xs) (passing_rows i rows))
      | inr e ↦ rw e (passing_rows i rows)
    ]

pub filter_mapped : {X Y : Type 0} (f : X → Y) (test : Y → Bool) (xs : List X) → filter test (map f xs) ≡ map f (filter (λ x. test (f x)) xs)
filter_mapped f test [] = refl
filter_mapped f test (x ∷ xs) =
    elim (cases_Bool (test (f x))) [
      | inl e ↦ rw e (ap (λ ys. f x ∷ ys) (filter_mapped f test xs))
      | inr e ↦ rw e (filter_mapped f test xs)
    ]
