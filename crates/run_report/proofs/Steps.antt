-- What a command and its answer are to the moments of a port.
use Rattle.std.proofs.Common.{ℕ, zero, suc, ◌+◌, ◌<◌, ◌≤◌, ◌≡◌, ◌⊎◌, nat_lt, List, [], ◌∷◌, ◌++◌, map, length, take, Option, Some, None, slice_get, sym, refl, ap, arith, inl, inr}
use Rattle.std.specs.List.{AllByRecursion, cons_option, filter_map, flat_map, range_with_len, sum_by, zip}
use Rattle.std.proofs.lemmas.Bool.{cases_Bool, cases_lt, lt-ltb, le-ltb}
use Rattle.std.proofs.lemmas.List.Sums.{sum_by-cons}
use Rattle.std.proofs.lemmas.Option.{none-some, same_Some}
use Rattle.pblk_model.specs.declared.script.Command.{Command}
use Rattle.pblk_model.specs.declared.script.Command.TheVariants.{Write, Read, Flush, Post, Await}
use Rattle.pblk_model.specs.History.{users}
use Rattle.pblk_model.specs.Text.{Outcome}
use Rattle.pblk_model.specs.Transcript.{PlacedWrite, placed_write}
use Rattle.block_port.specs.Port.{ModelPort}
use Rattle.run_threads.specs.declared.records.Answer.{Answer}
use Rattle.run_threads.specs.declared.records.Answer.TheVariants.{Placed, Words, Synced, Done, Refused}
use Rattle.run_threads.specs.declared.records.Trouble.TheVariants.{Drive, Worn}
use Rattle.run_threads.specs.Run.{Runs, Says}
use Rattle.run_report.specs.declared.rows.Row.{Row}
use Rattle.run_report.specs.Report.{outcome_of}
use Rattle.run_report.specs.Rows.{positions_of, answered_rows, thread_rows, write_of}
use Rattle.run_report.proofs.Loops.{users_range}
use Rattle.run_report.proofs.Sorting.{Climbs}

-- a command that wrote nothing
pub record Quiet (thread : ℕ) (command : Command) (answer : Answer) (old new : ModelPort) : Type 0 where
  pub rows : answered_rows thread command answer ≡ []
  pub placed : placed_write thread (command, outcome_of answer) ≡ None
  pub grows : old.seen ≤ new.seen

-- a write that was placed, past all that was seen
pub record Writes (thread : ℕ) (command : Command) (answer : Answer) (old new : ModelPort) : Type 0 where
  pub row : Row
  pub its : row.thread ≡ thread
  pub rows : answered_rows thread command answer ≡ row ∷ []
  pub placed : placed_write thread (command, outcome_of answer) ≡ Some (write_of row)
  pub past : old.seen ≤ row.first
  pub seen : new.seen ≡ row.first + row.count

pub step : (thread : ℕ) (told : List ℕ → ℕ) (old : ModelPort) (command : Command) (answer : Answer) (new : ModelPort) → Says told old command answer new
    → Quiet thread command answer old new ⊎ Writes thread command answer old new
step thread told old (Write lba count tag) (Placed place) new h =
    inr (record {
      row = record {
        first = place.first;
        thread = thread;
        lba = lba;
        count = count;
        tag = tag;
      };
      its = refl;
      rows = refl;
      placed = refl;
      past = h.1;
      seen = h.2;
    })
step thread told old (Write lba count tag) (Refused (Drive unit event)) new h = inl (record { rows = refl; placed = refl; grows = omega (arith, h.1) })
step thread told old (Write lba count tag) (Refused (Worn wanted have)) new h = inl (record { rows = refl; placed = refl; grows = omega (arith, h.1) })
step thread told old (Write lba count tag) answer new h = absurd h
step thread told old (Read lba count) (Words front words) new h = inl (record { rows = refl; placed = refl; grows = omega (arith, h.0.holds, h.0.seen) })
step thread told old (Read lba count) (Refused (Drive unit event)) new h = inl (record { rows = refl; placed = refl; grows = omega (arith, h.1) })
step thread told old (Read lba count) answer new h = absurd h
step thread told old Flush (Synced front) new h = inl (record { rows = refl; placed = refl; grows = omega (arith, h.0.holds, h.0.seen) })
step thread told old Flush (Refused (Drive unit event)) new h = inl (record { rows = refl; placed = refl; grows = omega (arith, h.1) })
step thread told old Flush (Refused (Worn wanted have)) new h = inl (record { rows = refl; placed = refl; grows = omega (arith, h.1) })
step thread told old Flush answer new h = absurd h
step thread told old (Post name) Done new h =
    inl (record { rows = refl; placed = refl; grows = let e = ap (λ (p : ModelPort). p.seen) h.1 in omega (arith, e) })
step thread told old (Post name) answer new h = absurd h
step thread told old (Await name) Done new h = inl (record { rows = refl; placed = refl; grows = let e = ap (λ (p : ModelPort). p.seen) h in omega (arith, e) })
step thread told old (Await name) answer new h = absurd h

grows : (told : List ℕ → ℕ) (old : ModelPort) (command : Command) (answer : Answer) (new : ModelPort) → Says told old command answer new → old.seen ≤ new.seen
grows told old command answer new h = elim (step 0 told old command answer new h) [ inl q ↦ q.grows | inr w ↦ omega (arith, w.past, w.seen) ]

-- What is seen before each command.

abbrev pub seen_at : (told : List ℕ → ℕ) (cs : List Command) (rows : List Answer) (old new : ModelPort) → Runs told old cs rows new → ℕ → ℕ
seen_at told cs rows old new h zero = old.seen
seen_at told (c ∷ cs) (a ∷ rows) old new h (suc n) = seen_at told cs rows h.0 new h.2 n
seen_at told cs rows old new h (suc n) = old.seen

pub seen_grows : (told : List ℕ → ℕ) (cs : List Command) (rows : List Answer) (old new : ModelPort) (h : Runs told old cs rows new) (n : ℕ)
    → old.seen ≤ seen_at told cs rows old new h n
seen_grows told cs rows old new h zero = omega arith
seen_grows told [] [] old new h (suc n) = omega arith
seen_grows told [] (a ∷ rows) old new h (suc n) = absurd h
seen_grows told (c ∷ cs) [] old new h (suc n) = absurd h
seen_grows told (c ∷ cs) (a ∷ rows) old new h (suc n) = omega (arith, grows told old c a h.0 h.1.says, seen_grows told cs rows h.0 new h.2 n)

pub seen_rises : (told : List ℕ → ℕ) (cs : List Command) (rows : List Answer) (old new : ModelPort) (h : Runs told old cs rows new) (n : ℕ)
    → seen_at told cs rows old new h n ≤ seen_at told cs rows old new h (suc n)
seen_rises told cs rows old new h zero = seen_grows told cs rows old new h 1
seen_rises told [] [] old new h (suc n) = omega arith
seen_rises told [] (a ∷ rows) old new h (suc n) = absurd h
seen_rises told (c ∷ cs) [] old new h (suc n) = absurd h
seen_rises told (c ∷ cs) (a ∷ rows) old new h (suc n) = seen_rises told cs rows h.0 new h.2 n

-- How many positions are below one.

pub users-append : (xs ys : List ℕ) (p : ℕ) → users (xs ++ ys) p ≡ users xs p + users ys p
users-append [] ys p = let e : 0 + users ys p ≡ users ys p = omega arith in rw e refl
users-append (x ∷ xs) ys p =
    elim (cases_Bool (nat_lt x p)) [
      | inl e ↦ let more = users-append xs ys p in rw e (omega (arith, more))
      | inr e ↦ rw e (users-append xs ys p)
    ]

pub users_more : (xs : List ℕ) (p q : ℕ) → p ≤ q → users xs p ≤ users xs q
users_more [] p q h = omega arith
users_more (x ∷ xs) p q h =
    let more = users_more xs p q h in
    elim (cases_lt x p) [
      | inl below ↦ rw (lt-ltb x p below, lt-ltb x q (omega (arith, below, h))) (omega (arith, more))
      | inr past ↦ elim (cases_lt x q) [
        | inl below ↦ rw (le-ltb x p past, lt-ltb x q below) (omega (arith, more))
        | inr above ↦ rw (le-ltb x p past, le-ltb x q above) more
      ]
    ]

pub users_all : (xs : List ℕ) (p : ℕ) → AllByRecursion (λ x. x < p) xs → users xs p ≡ length xs
users_all [] p h = refl
users_all (x ∷ xs) p h = rw (lt-ltb x p h.0) (ap suc (users_all xs p h.1))

-- The rows of a thread.
module _ (thread : ℕ) where
  -- their positions
  abbrev pub places : List Command → List Answer → List ℕ
  places cs rows = flat_map positions_of (thread_rows thread cs rows)

  -- none is below what was seen before
  pub none_before : (told : List ℕ → ℕ) (cs : List Command) (rows : List Answer) (old new : ModelPort) → Runs told old cs rows new → (p : ℕ) → p ≤ old.seen
      → users (places cs rows) p ≡ 0
  none_before told [] [] old new h p low = refl
  none_before told [] (a ∷ rows) old new h p low = absurd h
  none_before told (c ∷ cs) [] old new h p low = absurd h
  none_before told (c ∷ cs) (a ∷ rows) old new h p low =
      let rest = none_before told cs rows h.0 new h.2 p (let g = grows told old c a h.0 h.1.says in omega (arith, g, low)) in
      elim (step thread told old c a h.0 h.1.says) [
        | inl q ↦ rw q.rows rest
        | inr w ↦
            let first = users_range w.row.first w.row.count p in
            let both = users-append (range_with_len w.row.first w.row.count) (places cs rows) p in
            rw w.rows (omega (arith, both, first, rest, w.past, low))
      ]

  -- their firsts climb
  climb_lower : (low high : ℕ) (rows : List Row) → low ≤ high → Climbs high rows → Climbs low rows
  climb_lower low high [] le h = tt
  climb_lower low high (row ∷ rows) le h = (omega (arith, le, h.0), h.1)

  pub run_climbs : (told : List ℕ → ℕ) (cs : List Command) (rows : List Answer) (old new : ModelPort) → Runs told old cs rows new
      → Climbs old.seen (thread_rows thread cs rows)
  run_climbs told [] [] old new h = tt
  run_climbs told [] (a ∷ rows) old new h = absurd h
  run_climbs told (c ∷ cs) [] old new h = absurd h
  run_climbs told (c ∷ cs) (a ∷ rows) old new h =
      let rest = run_climbs told cs rows h.0 new h.2 in
      elim (step thread told old c a h.0 h.1.says) [
        | inl q ↦ rw q.rows (climb_lower old.seen h.0.seen (thread_rows thread cs rows) q.grows rest)
        | inr w ↦ rw w.rows (w.past, climb_lower w.row.first h.0.seen (thread_rows thread cs rows) (omega (arith, w.seen)) rest)
      ]

  -- they are the writes that were placed
  pub run_placed : (told : List ℕ → ℕ) (cs : List Command) (rows : List Answer) (old new : ModelPort) → Runs told old cs rows new
      → map write_of (thread_rows thread cs rows) ≡ filter_map (placed_write thread) (zip cs (map outcome_of rows))
  run_placed told [] [] old new h = refl
  run_placed told [] (a ∷ rows) old new h = absurd h
  run_placed told (c ∷ cs) [] old new h = absurd h
  run_placed told (c ∷ cs) (a ∷ rows) old new h =
      let rest = run_placed told cs rows h.0 new h.2 in
      elim (step thread told old c a h.0 h.1.says) [
        | inl q ↦ rw (q.rows, q.placed) rest
        | inr w ↦ rw (w.rows, w.placed) (ap (λ ws. write_of w.row ∷ ws) rest)
      ]

  pub run_threads : (told : List ℕ → ℕ) (cs : List Command) (rows : List Answer) (old new : ModelPort) → Runs told old cs rows new
      → AllByRecursion (λ row. row.thread ≡ thread) (thread_rows thread cs rows)
  run_threads told [] [] old new h = tt
  run_threads told [] (a ∷ rows) old new h = absurd h
  run_threads told (c ∷ cs) [] old new h = absurd h
  run_threads told (c ∷ cs) (a ∷ rows) old new h =
      let rest = run_threads told cs rows h.0 new h.2 in
      elim (step thread told old c a h.0 h.1.says) [
        | inl q ↦ rw q.rows rest
        | inr w ↦ rw w.rows (w.its, rest)
      ]

  -- The first commands wrote as many sectors as there are positions below what is seen then.
  pub run_written : (told : List ℕ → ℕ) (cs : List Command) (rows : List Answer) (old new : ModelPort) (h : Runs told old cs rows new) (n : ℕ)
      → sum_by (λ w. w.count) (filter_map (placed_write thread) (take n (zip cs (map outcome_of rows))))
      ≡ users (places cs rows) (seen_at told cs rows old new h n)
  run_written told cs rows old new h zero = sym (none_before told cs rows old new h old.seen (omega arith))
  run_written told [] [] old new h (suc n) = refl
  run_written told [] (a ∷ rows) old new h (suc n) = absurd h
  run_written told (c ∷ cs) [] old new h (suc n) = absurd h
  run_written told (c ∷ cs) (a ∷ rows) old new h (suc n) =
      let rest = run_written told cs rows h.0 new h.2 n in
      let past = seen_grows told cs rows h.0 new h.2 n in
      let p = seen_at told cs rows h.0 new h.2 n in
      elim (step thread told old c a h.0 h.1.says) [
        | inl q ↦ rw (q.rows, q.placed) rest
        | inr w ↦
            let first = users_range w.row.first w.row.count p in
            let both = users-append (range_with_len w.row.first w.row.count) (places cs rows) p in
            let more = sum_by-cons (λ (x : PlacedWrite). x.count) (write_of w.row) (filter_map (placed_write thread) (take n (zip cs (map outcome_of rows)))) in
            rw (w.rows, w.placed) (omega (arith, rest, past, first, both, more, w.seen))
      ]

  -- one command more
  counts-cons : (o : Option PlacedWrite) (ws : List PlacedWrite)
      → sum_by (λ w. w.count) (cons_option o ws) ≡ sum_by (λ w. w.count) (cons_option o []) + sum_by (λ w. w.count) ws
  counts-cons None ws = let e : 0 + sum_by (λ (w : PlacedWrite). w.count) ws ≡ sum_by (λ w. w.count) ws = omega arith in sym e
  counts-cons (Some w) ws = omega (arith, sum_by-cons (λ (w : PlacedWrite). w.count) w ws, sum_by-cons (λ (w : PlacedWrite). w.count) w [])

  pub written_more : (xs : List (Command × Outcome)) (n : ℕ) (x : Command × Outcome) → slice_get xs n ≡ Some x
      → sum_by (λ w. w.count) (filter_map (placed_write thread) (take (suc n) xs))
      ≡ sum_by (λ w. w.count) (filter_map (placed_write thread) (take n xs)) + sum_by (λ w. w.count) (cons_option (placed_write thread x) [])
  written_more [] n x e = absurd (none-some x e)
  written_more (y ∷ xs) zero x e =
      let same : y ≡ x = same_Some y x e in
      let none : 0 + sum_by (λ w. w.count) (cons_option (placed_write thread x) []) ≡ sum_by (λ w. w.count) (cons_option (placed_write thread x) []) =
      omega arith in
      rw none (ap (λ (z : Command × Outcome). sum_by (λ w. w.count) (cons_option (placed_write thread z) [])) same)
  written_more (y ∷ xs) (suc n) x e =
      let rest = written_more xs n x e in
      let more = counts-cons (placed_write thread y) (filter_map (placed_write thread) (take (suc n) xs)) in
      let less = counts-cons (placed_write thread y) (filter_map (placed_write thread) (take n xs)) in
      omega (arith, rest, more, less)
