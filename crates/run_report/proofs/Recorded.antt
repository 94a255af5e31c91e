-- What threads were answered through ports are records of their script.
use Rattle.std.proofs.Common.{ℕ, ◌+◌, ◌-◌, ◌^◌, ◌<◌, ◌≤◌, ◌≡◌, List, [], ◌∷◌, map, length, take, drop, None, sym, ap, ◌∙◌, arith}
use Rattle.std.specs.List.{AllByRecursion, slice_range}
use Rattle.std.proofs.lemmas.List.{length-drop, length-map, length-take-le}
use Rattle.pblk_laws.proofs.FilledLists.{after_length}
use Rattle.pblk_model.specs.declared.script.Command.{Command}
use Rattle.pblk_model.specs.declared.script.Command.TheVariants.{Write, Read, Flush, Post, Await}
use Rattle.pblk_model.specs.Script.{CommandFits, ScriptFits}
use Rattle.pblk_model.specs.Transcript.{words_at}
use Rattle.block_port.specs.Port.{ModelPort}
use Rattle.run_threads.specs.declared.records.Answer.{Answer}
use Rattle.run_threads.specs.declared.records.Answer.TheVariants.{Placed, Words, Synced, Done, Refused}
use Rattle.run_threads.specs.declared.records.Records.{Records}
use Rattle.run_threads.specs.Run.{EachThread, Runs, Says}
use Rattle.run_threads.specs.Words.{text_word}
use Rattle.run_report.specs.Recorded.{AreThreads, IsAnswer, IsRecorded, IsThread}

-- as many words as sectors
length-words_at : (sectors : List (List ℕ)) (lba count : ℕ) → lba + count ≤ length sectors → length (words_at sectors lba count) ≡ count
length-words_at sectors lba count within =
    let rest = length-drop lba sectors in
    length-map (slice_range sectors lba (lba + count)) _ ∙ length-take-le (lba + count - lba) (drop lba sectors) (omega (arith, rest, within)) ∙ omega arith

is_answer : (told : List ℕ → ℕ) (capacity : ℕ) (old : ModelPort) (c : Command) (a : Answer) (new : ModelPort) → Says told old c a new → CommandFits capacity c
    → capacity ≤ length new.start → IsAnswer c a
is_answer told capacity old (Write lba count tag) (Placed place) new h fits wide = h.0
is_answer told capacity old (Read lba count) (Words front words) new h fits wide =
    let long = after_length new.start (take front.users (map (λ x. x.write) new.known)) in
    sym (length-map words text_word) ∙ ap length h.1 ∙ length-words_at _ lba count (omega (arith, long, fits.within, wide))
is_answer told capacity old Flush (Synced front) new h fits wide = tt
is_answer told capacity old (Post name) Done new h fits wide = tt
is_answer told capacity old (Await name) Done new h fits wide = tt
is_answer told capacity old c (Refused trouble) new h fits wide = tt
is_answer told capacity old c a new h fits wide = absurd h

is_thread : (told : List ℕ → ℕ) (capacity : ℕ) (cs : List Command) (given : List Answer) (old new : ModelPort) → Runs told old cs given new
    → AllByRecursion (CommandFits capacity) cs → capacity ≤ length old.start
    → IsThread cs given
is_thread told capacity [] [] old new h fits wide = tt
is_thread told capacity [] (a ∷ given) old new h fits wide = absurd h
is_thread told capacity (c ∷ cs) [] old new h fits wide = absurd h
is_thread told capacity (c ∷ cs) (a ∷ given) old new h fits wide =
    let same = ap length h.1.target.start in (
      is_answer told capacity old c a h.0 h.1.says fits.0 (omega (arith, same, wide)),
      is_thread told capacity cs given h.0 new h.2 fits.1
          (omega (arith, same, wide)),
    )

are_threads : (told : List ℕ → ℕ) (capacity : ℕ) (script : List (List Command)) (threads : List (List Answer)) (olds news : List ModelPort)
    → EachThread (λ commands answers before after. Runs told before commands answers after) script threads olds news
    → AllByRecursion (AllByRecursion (CommandFits capacity)) script → AllByRecursion (λ port. capacity ≤ length port.start) olds → AreThreads script threads
are_threads told capacity [] [] olds news h fits wide = tt
are_threads told capacity [] (t ∷ threads) olds news h fits wide = absurd h
are_threads told capacity (c ∷ script) [] olds news h fits wide = absurd h
are_threads told capacity (c ∷ script) (t ∷ threads) [] news h fits wide = absurd h
are_threads told capacity (c ∷ script) (t ∷ threads) (o ∷ olds) [] h fits wide = absurd h
are_threads told capacity (c ∷ script) (t ∷ threads) (o ∷ olds) (n ∷ news) h fits wide =
    (is_thread told capacity c t o n h.0 fits.0 wide.0, are_threads told capacity script threads olds news h.1 fits.1 wide.1)

pub recorded : (told : List ℕ → ℕ) (capacity : ℕ) (script : List (List Command)) (records : Records) (olds news : List ModelPort) → capacity < 2 ^ 64
    → ScriptFits capacity script
    → AllByRecursion (λ port. capacity ≤ length port.start) olds → records.opening ≡ None
    → EachThread (λ commands answers before after. Runs told before commands answers after) script records.threads olds news → IsRecorded script records
recorded told capacity script records olds news small fits wide opened ran = record {
  capacity = capacity;
  number = small;
  fits = fits;
  answered = rw opened (are_threads told capacity script records.threads olds news ran fits.each wide);
}
