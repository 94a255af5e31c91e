-- Where a thread's answers for want of room were given, and the close's.
use Rattle.std.proofs.Common.{ℕ, ◌≤◌, zero, suc, List, [], ◌∷◌, ◌++◌, length, le_refl, le_trans, arith}
use Rattle.std.specs.List.{AllByRecursion}
use Rattle.pblk_model.specs.declared.script.Command.{Command}
use Rattle.pblk_model.specs.Image.{Image}
use Rattle.pblk_model.specs.Text.{Outcome, Transcript}
use Rattle.pblk_world.specs.World.{Logs}
use Rattle.block_port.specs.declared.rows.WornAnswer.{WornAnswer}
use Rattle.block_target.specs.Refusals.{AreRefusals, IsRefusal, IsRefusedAt}
use Rattle.pblk_model.proofs.Lists.{all_append}
use Rattle.pblk_cli.specs.Worn.{AreRefusedBetween, AreRefusedIn, IsRefusedFor, IsRefusedThen, closing_worn, thread_worns, threads_worns, worns_in, worns_of}

module _ (i : Image) (logs : Logs) where
  -- ---- one answer

  pub cause_for : (n count wanted have : ℕ) → IsRefusal i logs n count wanted have → IsRefusedFor i logs n count wanted have
  cause_for n zero wanted have is = is
  cause_for n (suc others) wanted have is = (is.worn, is.granted)

  pub rest_within : (n count wanted have : ℕ) → IsRefusal i logs n count wanted have → n ≤ length (logs 0)
  rest_within n zero wanted have is = is.at_rest.within
  rest_within n (suc others) wanted have is = is.worn.at_rest.within

  there : (n : ℕ) (a : WornAnswer) → IsRefusedAt i logs n a → IsRefusedThen i logs n a
  there n a is = record {
    written = let all = is.written in omega arith;
    cause = cause_for n a.count a.wanted a.have is.cause;
  }

  -- ---- lists of them

  rising : (from : ℕ) (worns : List WornAnswer) → from ≤ length (logs 0) → AreRefusals i logs from worns
      → AreRefusedBetween i logs from (length (logs 0)) worns
  rising from [] low are = low
  rising from (a ∷ worns) low are =
      (are.0, are.1, there are.0 a are.2, rising are.0 worns (rest_within are.0 a.count a.wanted a.have are.2.cause) are.3)

  -- where the first of them end the others begin
  parted : (from : ℕ) (xs ys : List WornAnswer) → from ≤ length (logs 0) → AreRefusals i logs from (xs ++ ys)
      → (upto : ℕ) × AreRefusedBetween i logs from upto xs × AreRefusedBetween i logs upto (length (logs 0)) ys
  parted from [] ys low are = (from, le_refl from, rising from ys low are)
  parted from (x ∷ xs) ys low are =
      let later = parted are.0 xs ys (rest_within are.0 x.count x.wanted x.have are.2.cause) are.3 in
      (later.0, (are.0, are.1, there are.0 x are.2, later.1), later.2)

  in_order : (from upto : ℕ) (worns : List WornAnswer) → AreRefusedBetween i logs from upto worns → from ≤ upto
  in_order from upto [] are = are
  in_order from upto (a ∷ worns) are = le_trans are.1 (in_order are.0 upto worns are.3)

  from_below : (low from upto : ℕ) (worns : List WornAnswer) → low ≤ from → AreRefusedBetween i logs from upto worns
      → AreRefusedBetween i logs low upto worns
  from_below low from upto [] below are = le_trans below are
  from_below low from upto (a ∷ worns) below are = (are.0, le_trans below are.1, are.2, are.3)

  pub first_part : (from upto : ℕ) (xs ys : List WornAnswer) → AreRefusedBetween i logs from upto (xs ++ ys) → AreRefusedBetween i logs from upto xs
  first_part from upto [] ys are = in_order from upto ys are
  first_part from upto (x ∷ xs) ys are = (are.0, are.1, are.2, first_part are.0 upto xs ys are.3)

  second_part : (from upto : ℕ) (xs ys : List WornAnswer) → AreRefusedBetween i logs from upto (xs ++ ys) → AreRefusedBetween i logs from upto ys
  second_part from upto [] ys are = are
  second_part from upto (x ∷ xs) ys are = from_below from are.0 upto ys are.1 (second_part are.0 upto xs ys are.3)

  -- ---- threads

  in_thread : (from upto : ℕ) (script : List (List Command)) (outcomes : List (List Outcome))
      → AreRefusedBetween i logs from upto (threads_worns script outcomes) → (thread : ℕ)
      → AreRefusedBetween i logs from upto (worns_in script outcomes thread)
  in_thread from upto script [] are thread = are
  in_thread from upto [] (os ∷ oss) are zero = first_part from upto (thread_worns 0 [] os) (threads_worns [] oss) are
  in_thread from upto [] (os ∷ oss) are (suc thread) =
      in_thread from upto [] oss (second_part from upto (thread_worns 0 [] os) (threads_worns [] oss) are) thread
  in_thread from upto (cs ∷ css) (os ∷ oss) are zero = first_part from upto (thread_worns 0 cs os) (threads_worns css oss) are
  in_thread from upto (cs ∷ css) (os ∷ oss) are (suc thread) =
      in_thread from upto css oss (second_part from upto (thread_worns 0 cs os) (threads_worns css oss) are) thread

  pub refused_in : (script : List (List Command)) (t : Transcript) → AreRefusals i logs 0 (worns_of script t) → AreRefusedIn i logs script t
  refused_in script t are =
      let parts = parted 0 (threads_worns script t.outcomes) (closing_worn (length t.history) t.closing) (omega arith) are in
      record {
        close = parts.0;
        threads = in_thread 0 parts.0 script t.outcomes parts.1;
        closing = parts.2;
        alone = λ few. are;
      }

  -- ---- all of them

  each_then : (from upto : ℕ) (worns : List WornAnswer) → AreRefusedBetween i logs from upto worns
      → AllByRecursion (λ (a : WornAnswer). (n : ℕ) × IsRefusedThen i logs n a) worns
  each_then from upto [] are = tt
  each_then from upto (a ∷ worns) are = ((are.0, are.2), each_then are.0 upto worns are.3)

  of_threads : (P : WornAnswer → Type 0) (script : List (List Command)) (outcomes : List (List Outcome))
      → ((thread : ℕ) → AllByRecursion P (worns_in script outcomes thread)) → AllByRecursion P (threads_worns script outcomes)
  of_threads P script [] each = tt
  of_threads P [] (os ∷ oss) each =
      all_append P (thread_worns 0 [] os) (threads_worns [] oss) (each 0) (of_threads P [] oss (λ thread. each (suc thread)))
  of_threads P (cs ∷ css) (os ∷ oss) each =
      all_append P (thread_worns 0 cs os) (threads_worns css oss) (each 0) (of_threads P css oss (λ thread. each (suc thread)))

  pub each_refused : (script : List (List Command)) (t : Transcript) → AreRefusedIn i logs script t
      → AllByRecursion (λ (a : WornAnswer). (n : ℕ) × IsRefusedThen i logs n a) (worns_of script t)
  each_refused script t is =
      let closing : List WornAnswer = closing_worn (length t.history) t.closing in
      all_append (λ (a : WornAnswer). (n : ℕ) × IsRefusedThen i logs n a) (threads_worns script t.outcomes) closing
      (of_threads (λ (a : WornAnswer). (n : ℕ) × IsRefusedThen i logs n a) script t.outcomes
      (λ thread. each_then 0 is.close (worns_in script t.outcomes thread) (is.threads thread)))
      (each_then is.close (length (logs 0)) closing is.closing)
