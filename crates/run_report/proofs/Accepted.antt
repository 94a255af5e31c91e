-- The rows of records that answer a script.
use Rattle.std.proofs.Common.{ℕ, suc, ◌+◌, ◌^◌, ◌<◌, ◌≤◌, ◌≡◌, List, [], ◌∷◌, length, Option, Some, None, refl, sym, ap, ◌∙◌, arith}
use Rattle.std.specs.List.{AllByRecursion, sum_by}
use Rattle.std.proofs.lemmas.List.{length-append}
use Rattle.std.proofs.lemmas.List.Sums.{sum_by-cons}
use Rattle.pblk_model.specs.declared.script.Command.{Command}
use Rattle.pblk_model.specs.declared.script.Command.TheVariants.{Write, Read, Flush, Post, Await}
use Rattle.pblk_model.specs.Script.{CommandFits}
use Rattle.run_threads.specs.declared.records.Answer.{Answer}
use Rattle.run_threads.specs.declared.records.Answer.TheVariants.{Placed, Words, Synced, Done, Range, Refused}
use Rattle.run_threads.specs.declared.records.Records.{Records}
use Rattle.run_threads.specs.declared.records.Trouble.{Trouble}
use Rattle.run_threads.specs.declared.records.Trouble.TheVariants.{Drive, Worn}
use Rattle.run_report.specs.declared.rows.Row.{Row}
use Rattle.run_report.specs.Recorded.{AreAnswered, AreThreads, IsRecorded, IsThread}
use Rattle.block_port.proofs.Ordering.{all_order, total_order}
use Rattle.pblk_model.specs.RingState.{total}
use Rattle.run_report.specs.Rows.{in_order, answered_rows, rows_from, thread_rows}
use Rattle.run_report.specs.RowFits.{AreAsMany, AreRows, HasSectors}
use Rattle.pblk_model.proofs.Lists.{all_append}

-- as many answers as commands
as_many : (commands : List Command) (answers : List Answer) → IsThread commands answers → length answers ≡ length commands
as_many [] [] h = refl
as_many [] (a ∷ answers) h = absurd h
as_many (c ∷ commands) [] h = absurd h
as_many (c ∷ commands) (a ∷ answers) h = ap suc (as_many commands answers h.1)

threads_as_many : (script : List (List Command)) (threads : List (List Answer)) → AreThreads script threads → AreAsMany script threads
threads_as_many [] [] h = tt
threads_as_many [] (a ∷ threads) h = absurd h
threads_as_many (c ∷ script) [] h = absurd h
threads_as_many (c ∷ script) (a ∷ threads) h = (as_many c a h.0, threads_as_many script threads h.1)

pub are_as_many : (opening : Option Trouble) (script : List (List Command)) (threads : List (List Answer)) → AreAnswered opening script threads
    → AreAsMany script threads
are_as_many None script threads h = threads_as_many script threads h
are_as_many (Some (Drive unit event)) script threads h = rw h tt
are_as_many (Some (Worn wanted have)) script threads h = absurd h

-- a write that fits has sectors
row_has : (capacity thread : ℕ) (command : Command) (answer : Answer) → capacity < 2 ^ 64 → CommandFits capacity command
    → AllByRecursion HasSectors (answered_rows thread command answer)
row_has capacity thread (Write lba count tag) (Placed place) small fits = (record { few = fits.0.few; number = omega (arith, small, fits.0.within) }, tt)
row_has capacity thread (Write lba count tag) (Words front words) small fits = tt
row_has capacity thread (Write lba count tag) (Synced front) small fits = tt
row_has capacity thread (Write lba count tag) Done small fits = tt
row_has capacity thread (Write lba count tag) Range small fits = tt
row_has capacity thread (Write lba count tag) (Refused trouble) small fits = tt
row_has capacity thread (Read lba count) answer small fits = tt
row_has capacity thread Flush answer small fits = tt
row_has capacity thread (Post name) answer small fits = tt
row_has capacity thread (Await name) answer small fits = tt

thread_has : (capacity thread : ℕ) (commands : List Command) (answers : List Answer) → capacity < 2 ^ 64 → AllByRecursion (CommandFits capacity) commands
    → AllByRecursion HasSectors (thread_rows thread commands answers)
thread_has capacity thread [] answers small fits = tt
thread_has capacity thread (c ∷ commands) [] small fits = tt
thread_has capacity thread (c ∷ commands) (a ∷ answers) small fits =
    all_append HasSectors (answered_rows thread c a) (thread_rows thread commands answers) (row_has capacity thread c a small fits.0)
    (thread_has capacity thread commands answers small fits.1)

pub script_has : (capacity thread : ℕ) (script : List (List Command)) (threads : List (List Answer)) → capacity < 2 ^ 64
    → AllByRecursion (AllByRecursion (CommandFits capacity)) script
    → AllByRecursion HasSectors (rows_from thread script threads)
script_has capacity thread [] threads small fits = tt
script_has capacity thread (c ∷ script) [] small fits = tt
script_has capacity thread (c ∷ script) (a ∷ threads) small fits =
    all_append HasSectors (thread_rows thread c a) (rows_from (thread + 1) script threads) (thread_has capacity thread c a small fits.0)
    (script_has capacity (thread + 1) script threads small fits.1)

-- at most a row for each command
one_row : (thread : ℕ) (command : Command) (answer : Answer) → length (answered_rows thread command answer) ≤ 1
one_row thread (Write lba count tag) (Placed place) = omega arith
one_row thread (Write lba count tag) (Words front words) = omega arith
one_row thread (Write lba count tag) (Synced front) = omega arith
one_row thread (Write lba count tag) Done = omega arith
one_row thread (Write lba count tag) Range = omega arith
one_row thread (Write lba count tag) (Refused trouble) = omega arith
one_row thread (Read lba count) answer = omega arith
one_row thread Flush answer = omega arith
one_row thread (Post name) answer = omega arith
one_row thread (Await name) answer = omega arith

thread_few : (thread : ℕ) (commands : List Command) (answers : List Answer) → length (thread_rows thread commands answers) ≤ length commands
thread_few thread [] answers = omega arith
thread_few thread (c ∷ commands) [] = omega arith
thread_few thread (c ∷ commands) (a ∷ answers) =
    omega (arith, length-append (answered_rows thread c a) (thread_rows thread commands answers), one_row thread c a, thread_few thread commands answers)

script_few : (thread : ℕ) (script : List (List Command)) (threads : List (List Answer)) → length (rows_from thread script threads) ≤ sum_by length script
script_few thread [] threads = omega arith
script_few thread (c ∷ script) [] = omega arith
script_few thread (c ∷ script) (a ∷ threads) =
    omega (
      arith,
      length-append (thread_rows thread c a) (rows_from (thread + 1) script threads),
      thread_few thread c a,
      script_few
          (thread + 1) script threads,
      sum_by-cons length c script,
    )

-- in order they are as many
one_each : {X : Type 0} (xs : List X) → total (λ x. 1) xs ≡ length xs
one_each [] = refl
one_each (x ∷ xs) = let rest : total (λ x. 1) xs ≡ length xs = one_each xs in omega (arith, rest)

length-in_order : (rows : List Row) → length (in_order rows) ≡ length rows
length-in_order rows = sym (one_each (in_order rows)) ∙ total_order (λ (row : Row). row.first) (λ row. 1) rows ∙ one_each rows

pub are_rows : (script : List (List Command)) (records : Records) (rows : List Row) → IsRecorded script records
    → rows ≡ in_order (rows_from 0 script records.threads) → AreRows rows
are_rows script records rows h is =
    let few = script_few 0 script records.threads in
    let long = length-in_order (rows_from 0 script records.threads) in
    rw is (record {
      each = all_order (λ (row : Row). row.first) HasSectors (rows_from 0 script records.threads)
          (script_has h.capacity 0 script records.threads h.number h.fits.each);
      few = omega (arith, few, long, h.fits.commands);
    })
