-- A whole script.
use Rattle.std.proofs.Common.{ℕ, suc, ◌<◌, ◌≤◌, ◌≡◌, List, [], ◌∷◌, ◌++◌, take, drop, length, map, slice_get, Some, sym, refl, ap, ◌∙◌, arith}
use Rattle.std.specs.List.{AllByRecursion}
use Rattle.block_port.specs.Port.{ModelPort}
use Rattle.pblk_model.specs.declared.script.Command.{Command}
use Rattle.pblk_model.specs.declared.script.Command.TheVariants.{Write, Read, Flush, Post, Await}
use Rattle.pblk_model.specs.Script.{CommandFits, IsRange}
use Rattle.pblk_model.proofs.Maps.{get_mapped}
use Rattle.pblk_model.proofs.Parts.{all_at, get_first, get_whole}
use Rattle.run_threads.specs.declared.board.Board.{Board}
use Rattle.run_threads.specs.declared.desk.Desk.{Desk}
use Rattle.run_threads.specs.declared.records.Answer.{Answer}
use Rattle.run_threads.specs.declared.runner.Thread.{Thread}
use Rattle.run_threads.specs.Desk.{AreReady}
use Rattle.run_threads.specs.Names.{told_by}
use Rattle.run_threads.specs.Run.{EachThread, IsAcceptedFor, WasRun}
use Rattle.run_threads.specs.Threads.{CanAllRun, HaveRun, IsTold, row_of}
use Rattle.run_threads.proofs.Laws.{was_run}
use Rattle.run_threads.proofs.Scripts.{ready_at}

-- Capacities.

range_more : (small large lba count : ℕ) → small ≤ large → IsRange small lba count → IsRange large lba count
range_more small large lba count le h = record { number = h.number; some = h.some; few = h.few; within = omega (arith, le, h.within) }

fits_one : (small large : ℕ) (c : Command) → small ≤ large → CommandFits small c → CommandFits large c
fits_one small large (Write lba count tag) le h = (range_more small large lba count le h.0, h.1)
fits_one small large (Read lba count) le h = range_more small large lba count le h
fits_one small large Flush le h = tt
fits_one small large (Post name) le h = h
fits_one small large (Await name) le h = h

-- what fits a capacity fits a larger one
fits_more : (small large : ℕ) (cs : List Command) → small ≤ large → AllByRecursion (CommandFits small) cs → AllByRecursion (CommandFits large) cs
fits_more small large [] le h = tt
fits_more small large (c ∷ cs) le h = (fits_one small large c le h.0, fits_more small large cs le h.1)

-- Threads.

module _ {P : Type 0} (model : P → ModelPort) where
  -- each thread can run where each has a desk that is ready, and a port of its script
  pub can_all_run : (board : Board) (script : List (List Command)) (desks : List Desk) (ports : List P) (threads : List (Thread P))
      → AreReady board script desks
      → map (λ t. t.desk) threads ≡ desks → map (λ t. t.port) threads ≡ ports → IsAcceptedFor script (map model ports) → CanAllRun model board script threads
  can_all_run board script desks ports threads ready desks_are ports_are accepted = λ i cs t p q.
      let desk : slice_get desks i ≡ Some t.desk = ap (λ ds. slice_get ds i) (sym desks_are) ∙ get_mapped (λ (u : Thread P). u.desk) threads i t q in
      let port : slice_get ports i ≡ Some t.port = ap (λ ps. slice_get ps i) (sym ports_are) ∙ get_mapped (λ (u : Thread P). u.port) threads i t q in
      record {
        ready = ready_at board script desks i cs t.desk ready p desk;
        fits = fits_more accepted.capacity (model t.port).capacity cs
            (all_at (λ (m : ModelPort). accepted.capacity ≤ m.capacity) (map model ports) i (model t.port)
            (get_mapped model ports i t.port port) accepted.within)
            (all_at (AllByRecursion (CommandFits accepted.capacity)) script i cs p accepted.fits.each);
      }

  each_thread : (Holds : List Command → List Answer → ModelPort → ModelPort → Type 0) (script : List (List Command)) (olds news : List (Thread P))
      → length olds ≡ length script → length news ≡ length script
      → ((i : ℕ) (cs : List Command) (old new : Thread P) → slice_get script i ≡ Some cs → slice_get olds i ≡ Some old → slice_get news i ≡ Some new
      → Holds cs (row_of new) (model old.port) (model new.port))
      → EachThread Holds script (map row_of news) (map (λ t. model t.port) olds) (map (λ t. model t.port) news)
  each_thread Holds [] [] [] few many each = tt
  each_thread Holds [] (o ∷ olds) news few many each = absurd (omega (arith, few))
  each_thread Holds [] [] (n ∷ news) few many each = absurd (omega (arith, many))
  each_thread Holds (cs ∷ script) [] news few many each = absurd (omega (arith, few))
  each_thread Holds (cs ∷ script) (o ∷ olds) [] few many each = absurd (omega (arith, many))
  each_thread Holds (cs ∷ script) (o ∷ olds) (n ∷ news) few many each =
      (each 0 cs o n refl refl refl, each_thread Holds script olds news (omega (arith, few)) (omega (arith, many)) (λ i. each (suc i)))

  -- all threads were run, by what was posted
  pub all_run : (board : Board) (at : ℕ → ℕ) (script : List (List Command)) (olds news : List (Thread P)) → length olds ≡ length script
      → length news ≡ length script → HaveRun model board script olds news → AllByRecursion (IsTold at) news
      → EachThread (WasRun (told_by board.names at)) script (map row_of news) (map (λ t. model t.port) olds) (map (λ t. model t.port) news)
  all_run board at script olds news few many ran told = each_thread (WasRun (told_by board.names at)) script olds news few many
      (λ i cs old new p q r. was_run (told_by board.names at) cs (row_of new) (model old.port) (model new.port)
      ((ran i cs old new p q r).ran at (all_at (IsTold at) news i new r told)))

  -- the ports of threads
  pub ports_mapped : (threads : List (Thread P)) → map model (map (λ t. t.port) threads) ≡ map (λ t. model t.port) threads
  ports_mapped [] = refl
  ports_mapped (t ∷ threads) = ap (λ xs. model t.port ∷ xs) (ports_mapped threads)

-- Lists that are taken apart, and put together.

-- the first one goes behind others
pub moved_last : {Y : Type 0} (done next rest all : List Y) (y : Y) → next ≡ done ++ y ∷ [] → done ++ y ∷ rest ≡ all → next ++ rest ≡ all
moved_last done next rest all y is whole = ap (λ us. us ++ rest) is ∙ behind done ∙ whole
  where
    behind : (done : List _) → (done ++ y ∷ []) ++ rest ≡ done ++ y ∷ rest
    behind [] = refl
    behind (d ∷ done) = ap (λ us. d ∷ us) (behind done)

-- what stands in a slice that was written back
pub of_slice : {X : Type 0} (n : ℕ) (ys old : List X) (i : ℕ) (x : X) → i < length ys
    → slice_get (take n (ys ++ drop (length ys) old)) i ≡ Some x → slice_get ys i ≡ Some x
of_slice n ys old i x inside at =
    sym (get_first ys (drop (length ys) old) i inside) ∙ get_whole n (ys ++ drop (length ys) old) i x at

-- a list of none
pub none_left : {X : Type 0} (xs : List X) {n : ℕ} → n ≡ length xs → n ≡ 0 → xs ≡ []
none_left [] long none = refl
none_left (x ∷ xs) long none = absurd (omega (arith, long, none))
