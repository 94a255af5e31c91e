-- The commands of a thread, run one after another.
use Rattle.std.proofs.Common.{ℕ, suc, take, drop, get_or, ◌+◌, ◌<◌, ◌≤◌, ◌≡◌, List, [], ◌∷◌, ◌++◌, length, Vec, subst, sym, refl, ap, ◌∙◌, arith}
use Rattle.std.proofs.lemmas.List.{length-append, length-take-le}
use Rattle.std.specs.Global.{Global}
use Rattle.std.specs.List.{AllByRecursion}
use Rattle.pblk_model.specs.declared.script.Command.{Command}
use Rattle.pblk_model.specs.declared.script.Command.TheVariants.{Write, Read, Flush, Post, Await}
use Rattle.pblk_model.specs.Script.{CommandFits}
use Rattle.block_port.specs.Port.{ModelPort}
use Rattle.run_threads.specs.declared.board.Board.{Board}
use Rattle.run_threads.specs.declared.records.Answer.{Answer}
use Rattle.run_threads.specs.declared.records.Word.{Word}
use Rattle.run_threads.specs.Board.{MayRun, words_of}
use Rattle.run_threads.specs.Names.{ArePlaced, CanAwait, told_by, word_after, words_after}
use Rattle.run_threads.specs.Rooms.{HasWordRoom, HaveWordRoom}
use Rattle.run_threads.specs.Rule.{AreTold}
use Rattle.run_threads.specs.Run.{Answers, Runs}
use Rattle.run_threads.specs.Views.{View}
use Rattle.run_threads.proofs.Placed.{rises, take_next}

-- One command more was run.
pub runs_last : (told : List ℕ → ℕ) (old mid new : ModelPort) (cs : List Command) (answers : List Answer) (c : Command) (a : Answer)
    → Runs told old cs answers mid → Answers told mid c a new → Runs told old (cs ++ c ∷ []) (answers ++ a ∷ []) new
runs_last told old mid new [] [] c a h k = (new, subst (λ p. Answers told p c a new) h k, refl)
runs_last told old mid new [] (b ∷ answers) c a h k = absurd h
runs_last told old mid new (d ∷ cs) [] c a h k = absurd h
runs_last told old mid new (d ∷ cs) (b ∷ answers) c a h k = (h.0, h.1, runs_last told h.0 mid new cs answers c a h.2 k)

-- what stands when some commands of a thread have been run
pub record IsRunning (board : Board) (start now : ModelPort) (before rest : List Command) (answers : List Answer) (rooms : List (Vec Word Global))
    (v : View) : Type 0 where
  pub runs : (at : ℕ → ℕ) → AreTold at v.known → Runs (told_by board.names at) start before answers now
  pub fits : AllByRecursion (CommandFits now.capacity) rest
  pub rooms_left : HaveWordRoom rest rooms
  pub placed : ArePlaced board.names v.next rest
  pub heard : AllByRecursion (CanAwait board.names (words_of board)) rest
  pub past : v.past ≡ words_after v.next rest
  pub within : v.past ≤ words_of board

pub starts : (board : Board) (m : ModelPort) (cs : List Command) (rooms : List (Vec Word Global)) (v : View) → AllByRecursion (CommandFits m.capacity) cs
    → HaveWordRoom cs rooms → ArePlaced board.names v.next cs → AllByRecursion (CanAwait board.names (words_of board)) cs → v.past ≡ words_after v.next cs
    → v.past ≤ words_of board → IsRunning board m m [] cs [] rooms v
starts board m cs rooms v fits room placed heard past within = record {
  runs = λ at told. refl;
  fits = fits;
  rooms_left = room;
  placed = placed;
  heard = heard;
  past = past;
  within = within;
}

-- a command may be run next
pub may_run : (board : Board) (start now : ModelPort) (before : List Command) (c : Command) (rest : List Command) (answers : List Answer)
    (rooms : List (Vec Word Global)) (v : View) → IsRunning board start now before (c ∷ rest) answers rooms v → MayRun board v c
may_run board start now before (Write lba count tag) rest answers rooms v h = tt
may_run board start now before (Read lba count) rest answers rooms v h = tt
may_run board start now before Flush rest answers rooms v h = tt
may_run board start now before (Post name) rest answers rooms v h =
    (h.placed.0, (let rise = rises rest (v.next + 1) in let p = h.past in omega arith), h.within)
may_run board start now before (Await name) rest answers rooms v h = h.heard.0

pub steps : (board : Board) (start mid new : ModelPort) (before : List Command) (c : Command) (rest : List Command) (answers : List Answer) (a : Answer)
    (room : Vec Word Global) (rooms : List (Vec Word Global)) (v w : View) → new.capacity ≡ mid.capacity
    → IsRunning board start mid before (c ∷ rest) answers (room ∷ rooms) v
    → ((at : ℕ → ℕ) → AreTold at w.known → Answers (told_by board.names at) mid c a new)
    → ((at : ℕ → ℕ) → AreTold at w.known → AreTold at v.known)
    → w.next ≡ word_after v.next c → w.past ≡ v.past
    → IsRunning board start new (before ++ c ∷ []) rest (answers ++ a ∷ []) rooms w
steps board start mid new before c rest answers a room rooms v w same h answer known next past = record {
  runs = λ at told. runs_last (told_by board.names at) start mid new before answers c a (h.runs at (known at told)) (answer at told);
  fits = rw same h.fits.1;
  rooms_left = h.rooms_left.1;
  placed = subst (λ n. ArePlaced board.names n rest) (sym next) h.placed.1;
  heard = h.heard.1;
  past = past ∙ h.past ∙ ap (λ n. words_after n rest) (sym next);
  within = subst (λ n. n ≤ words_of board) (sym past) h.within;
}

-- Rooms.

rooms_last : (cs : List Command) (rooms : List (Vec Word Global)) (c : Command) (words : Vec Word Global) → HaveWordRoom cs rooms → HasWordRoom c words
    → HaveWordRoom (cs ++ c ∷ []) (rooms ++ words ∷ [])
rooms_last [] [] c words h k = (k, tt)
rooms_last [] (r ∷ rooms) c words h k = absurd h
rooms_last (d ∷ cs) [] c words h k = absurd h
rooms_last (d ∷ cs) (r ∷ rooms) c words h k = (h.0, rooms_last cs rooms c words h.1 k)

pub rooms_more : (cs : List Command) (i : ℕ) (rooms : List (Vec Word Global)) (c : Command) (words : Vec Word Global) → i < length cs → c ≡ get_or cs i c
    → HaveWordRoom (take i cs) rooms → HasWordRoom c words
    → HaveWordRoom (take (i + 1) cs) (rooms ++ words ∷ [])
rooms_more cs i rooms c words below is h k = rw (take_next cs i c below is) (rooms_last (take i cs) rooms c words h k)

pub as_many_rooms : (cs : List Command) (rooms : List (Vec Word Global)) → HaveWordRoom cs rooms → length rooms ≡ length cs
as_many_rooms [] [] h = refl
as_many_rooms [] (r ∷ rooms) h = absurd h
as_many_rooms (c ∷ cs) [] h = absurd h
as_many_rooms (c ∷ cs) (r ∷ rooms) h = ap suc (as_many_rooms cs rooms h.1)

-- a buffer that was written over
pub whole_buffer : (n : ℕ) (xs old : List ℕ) → length xs ≡ 65536 → length old ≡ 65536 → n ≡ length old → length (take n (xs ++ drop (length xs) old)) ≡ 65536
whole_buffer n xs old new was is =
    length-take-le n (xs ++ drop (length xs) old) (omega (arith, length-append xs (drop (length xs) old), new, was, is)) ∙ is ∙ was
