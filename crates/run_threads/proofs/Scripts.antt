-- All commands of a script, and those of each thread.
use Rattle.std.proofs.Common.{ℕ, zero, suc, ◌+◌, ◌-◌, ◌<◌, ◌≤◌, ◌≡◌, ⊎_elim, List, [], ◌∷◌, ◌++◌, take, drop, get_or, length, slice_get, Some, subst, sym, refl, ap, ◌∙◌, arith}
use Rattle.std.proofs.lemmas.Bool.{cases_lt}
use Rattle.std.proofs.lemmas.List.{append_assoc, append-nil}
use Rattle.std.proofs.lemmas.Option.{none-some, same_Some}
use Rattle.std.specs.List.{AllByRecursion}
use Rattle.std.specs.Option.{option_and_then}
use Rattle.pblk_model.specs.declared.script.Command.{Command}
use Rattle.pblk_model.specs.declared.script.Command.TheVariants.{Write, Read, Flush, Post, Await}
use Rattle.pblk_model.specs.Script.{ScriptFits, command_at}
use Rattle.pblk_model.proofs.Parts.{all_by_get, get_first, get_more, get_right}
use Rattle.run_threads.specs.declared.board.Board.{Board}
use Rattle.run_threads.specs.declared.desk.Desk.{Desk}
use Rattle.run_threads.specs.declared.names.Names.{Names}
use Rattle.run_threads.specs.Board.{IsSeatOf, words_of}
use Rattle.run_threads.specs.Desk.{AreReady, HasRoom, IsReady}
use Rattle.run_threads.specs.Names.{AreNames, ArePlaced, CanAwait, PostOnce, all_of, words_after}
use Rattle.run_threads.specs.Steps.{share_of}
use Rattle.run_threads.specs.Views.{View}
use Rattle.run_threads.proofs.Placed.{after_append, has_word, placed_parts, rises}

-- Commands by their places.

get_behind : {X : Type 0} (xs ys : List X) (k : ℕ) → length xs ≤ k → slice_get (xs ++ ys) k ≡ slice_get ys (k - length xs)
get_behind [] ys k past = ap (slice_get ys) (let e : k ≡ k - 0 = omega arith in e)
get_behind (x ∷ xs) ys zero past = absurd (omega (arith, past))
get_behind (x ∷ xs) ys (suc k) past =
    get_behind xs ys k (omega (arith, past)) ∙ ap (slice_get ys) (let e : k - length xs ≡ suc k - suc (length xs) = omega arith in e)

-- each command of all has its place
placed_at : (script : List (List Command)) (k : ℕ) (x : Command) → slice_get (all_of script) k ≡ Some x
    → (i : ℕ) × (c : ℕ) × (command_at script i c ≡ Some x)
placed_at [] k x at = absurd (none-some x at)
placed_at (thread ∷ script) k x at =
    ⊎_elim
    (λ (below : k < length thread). (0, k, sym (get_first thread (all_of script) k below) ∙ at))
    (λ (past : length thread ≤ k).
    let r = placed_at script (k - length thread) x (sym (get_behind thread (all_of script) k past) ∙ at) in (suc r.0, r.1, r.2))
    (cases_lt k (length thread))

-- and is one of all
pub among_all : (script : List (List Command)) (i c : ℕ) (x : Command) → command_at script i c ≡ Some x → (k : ℕ) × (slice_get (all_of script) k ≡ Some x)
among_all [] i c x at = absurd (none-some x at)
among_all (thread ∷ script) zero c x at = (c, get_more thread (all_of script) c x at)
among_all (thread ∷ script) (suc i) c x at =
    let r = among_all script i c x at in (length thread + r.0, get_right thread (all_of script) r.0 ∙ r.1)

abbrev AreOnce : List (List Command) → Type 0
AreOnce script = (i c j d : ℕ) (name : List ℕ) → command_at script i c ≡ Some (Post name) → command_at script j d ≡ Some (Post name) → (i ≡ j) × (c ≡ d)

-- no name of a script is posted twice
pub post_once : (script : List (List Command)) → AreOnce script → PostOnce (all_of script)
post_once [] once c d name p q = absurd (none-some (Post name) p)
post_once (thread ∷ script) once c d name p q =
    let later : AreOnce script = λ i c j d name p q. let both = once (suc i) c (suc j) d name p q in (omega (arith, both.0), both.1) in
    ⊎_elim
    (λ (low : c < length thread). ⊎_elim
    (λ (low' : d < length thread).
    (once 0 c 0 d name (sym (get_first thread (all_of script) c low) ∙ p) (sym (get_first thread (all_of script) d low') ∙ q)).1)
    (λ (high : length thread ≤ d).
    let r = placed_at script (d - length thread) (Post name) (sym (get_behind thread (all_of script) d high) ∙ q) in
    absurd (let e = (once 0 c (suc r.0) r.1 name (sym (get_first thread (all_of script) c low) ∙ p) r.2).0 in omega (arith, e)))
    (cases_lt d (length thread)))
    (λ (high : length thread ≤ c). ⊎_elim
    (λ (low : d < length thread).
    let r = placed_at script (c - length thread) (Post name) (sym (get_behind thread (all_of script) c high) ∙ p) in
    absurd (let e = (once (suc r.0) r.1 0 d name r.2 (sym (get_first thread (all_of script) d low) ∙ q)).0 in omega (arith, e)))
    (λ (high' : length thread ≤ d).
    let e = post_once script later (c - length thread) (d - length thread) name (sym (get_behind thread (all_of script) c high) ∙ p)
    (sym (get_behind thread (all_of script) d high') ∙ q) in
    omega (arith, e, high, high'))
    (cases_lt d (length thread)))
    (cases_lt c (length thread))

-- The commands of one thread among all.

pub all_split : (script : List (List Command)) (k : ℕ) (cs : List Command) → slice_get script k ≡ Some cs
    → all_of script ≡ all_of (take k script) ++ (cs ++ all_of (drop (k + 1) script))
all_split [] k cs at = absurd (none-some cs at)
all_split (thread ∷ script) zero cs at = ap (λ t. t ++ all_of script) (same_Some thread cs at)
all_split (thread ∷ script) (suc k) cs at = let e : suc k + 1 ≡ suc (k + 1) = omega arith in rw e
    (ap (λ xs. thread ++ xs) (all_split script k cs at) ∙ sym (append_assoc thread (all_of (take k script)) (cs ++ all_of (drop (k + 1) script))))

pub all_more : (script : List (List Command)) (k : ℕ) (cs : List Command) → slice_get script k ≡ Some cs
    → all_of (take (k + 1) script) ≡ all_of (take k script) ++ cs
all_more [] k cs at = absurd (none-some cs at)
all_more (thread ∷ script) zero cs at = append-nil thread ∙ same_Some thread cs at
all_more (thread ∷ script) (suc k) cs at = let e : suc k + 1 ≡ suc (k + 1) = omega arith in rw e
    (ap (λ xs. thread ++ xs) (all_more script k cs at) ∙ sym (append_assoc thread (all_of (take k script)) cs))

-- each name that a thread awaits has a word
can_await : (names : Names) (words capacity k : ℕ) (script : List (List Command)) (cs : List Command) → AreNames names (all_of script)
    → words_after 0 (all_of script) ≤ words → ScriptFits capacity script → slice_get script k ≡ Some cs → AllByRecursion (CanAwait names words) cs
can_await names words capacity k script cs h many fits at = all_by_get (CanAwait names words) cs each
  where
    each : (d : ℕ) (c : Command) → slice_get cs d ≡ Some c → CanAwait names words c
    each d (Write lba count tag) there = tt
    each d (Read lba count) there = tt
    each d Flush there = tt
    each d (Post name) there = tt
    each d (Await name) there =
        let here : command_at script k d ≡ Some (Await name) =
        subst (λ o. option_and_then (λ thread. slice_get thread d) o ≡ Some (Await name)) (sym at) there in
        let post = fits.posted k d name here in
        let among = among_all script post.0 post.1 (Post name) post.2 in
        let word = has_word names name (all_of script) among.0 0 h.placed among.1 in
        (word.0, word.1, omega (arith, word.2, many))

-- The desk of a thread, with a seat that may post its names.
module _ (board : Board) (capacity : ℕ) (script : List (List Command)) (fits : ScriptFits capacity script) (names : AreNames board.names (all_of script))
    (words : words_of board ≡ words_after 0 (all_of script) + 1) where
  -- the first words are those of the threads before, and there are enough
  pub enough : (k : ℕ) (cs : List Command) (v : View) → slice_get script k ≡ Some cs → v.next ≡ words_after 0 (all_of (take k script))
      → words_after v.next cs ≤ words_after 0 (all_of script)
  enough k cs v at next =
      let rest = rises (all_of (drop (k + 1) script)) (words_after v.next cs) in
      let whole : words_after 0 (all_of script) ≡ words_after (words_after v.next cs) (all_of (drop (k + 1) script)) =
      ap (words_after 0) (all_split script k cs at) ∙ after_append (all_of (take k script)) (cs ++ all_of (drop (k + 1) script)) 0
      ∙ after_append cs (all_of (drop (k + 1) script)) (words_after 0 (all_of (take k script)))
      ∙ ap (λ n. words_after (words_after n cs) (all_of (drop (k + 1) script))) (sym next) in
      omega (arith, rest, whole)

  pub is_ready : (k : ℕ) (cs : List Command) (v : View) (desk : Desk) → slice_get script k ≡ Some cs → v.next ≡ words_after 0 (all_of (take k script))
      → HasRoom cs desk → IsSeatOf board desk.seat → desk.seat.me.0 ≡ share_of (words_after v.next cs) v → IsReady board cs desk
  is_ready k cs v desk at next room of seat =
      let placed = (placed_parts board.names (all_of (take k script)) (cs ++ all_of (drop (k + 1) script)) 0
      (subst (ArePlaced board.names 0) (all_split script k cs at) names.placed)).1 in
      let mine = (placed_parts board.names cs (all_of (drop (k + 1) script)) (words_after 0 (all_of (take k script))) placed).0 in
      let first : desk.seat.me.0.next ≡ v.next = ap (λ (u : View). u.next) seat in
      let last : desk.seat.me.0.past ≡ words_after v.next cs = ap (λ (u : View). u.past) seat in
      let many = enough k cs v at next in
      record {
        has_room = room;
        of = of;
        placed = subst (λ n. ArePlaced board.names n cs) (sym (first ∙ next)) mine;
        heard = can_await board.names (words_of board) capacity k script cs names (omega (arith, words)) fits at;
        past = last ∙ ap (λ n. words_after n cs) (sym first);
        within = omega (arith, last, many, words);
      }

  -- the next word after a thread's
  pub next_after : (k : ℕ) (cs : List Command) (v : View) → slice_get script k ≡ Some cs → v.next ≡ words_after 0 (all_of (take k script))
      → words_after v.next cs ≡ words_after 0 (all_of (take (k + 1) script))
  next_after k cs v at next =
      ap (λ n. words_after n cs) next ∙ sym (after_append (all_of (take k script)) cs 0) ∙ ap (words_after 0) (sym (all_more script k cs at))

-- one desk more
pub ready_last : (board : Board) (script : List (List Command)) (desks : List Desk) (cs : List Command) (desk : Desk) → AreReady board script desks
    → IsReady board cs desk → AreReady board (script ++ cs ∷ []) (desks ++ desk ∷ [])
ready_last board [] [] cs desk h k = (k, tt)
ready_last board [] (d ∷ desks) cs desk h k = absurd h
ready_last board (t ∷ script) [] cs desk h k = absurd h
ready_last board (t ∷ script) (d ∷ desks) cs desk h k = (h.0, ready_last board script desks cs desk h.1 k)

pub ready_at : (board : Board) (script : List (List Command)) (desks : List Desk) (i : ℕ) (cs : List Command) (desk : Desk) → AreReady board script desks
    → slice_get script i ≡ Some cs → slice_get desks i ≡ Some desk → IsReady board cs desk
ready_at board [] [] i cs desk h p q = absurd (none-some cs p)
ready_at board [] (d ∷ desks) i cs desk h p q = absurd h
ready_at board (t ∷ script) [] i cs desk h p q = absurd h
ready_at board (t ∷ script) (d ∷ desks) zero cs desk h p q =
    subst (λ c. IsReady board c desk) (same_Some t cs p) (subst (λ (e : Desk). IsReady board t e) (same_Some d desk q) h.0)
ready_at board (t ∷ script) (d ∷ desks) (suc i) cs desk h p q = ready_at board script desks i cs desk h.1 p q

pub as_many_desks : (board : Board) (script : List (List Command)) (desks : List Desk) → AreReady board script desks → length desks ≡ length script
as_many_desks board [] [] h = refl
as_many_desks board [] (d ∷ desks) h = absurd h
as_many_desks board (t ∷ script) [] h = absurd h
as_many_desks board (t ∷ script) (d ∷ desks) h = ap suc (as_many_desks board script desks h.1)

pub item_at : {X : Type 0} (xs : List X) (k : ℕ) (x : X) → k < length xs → x ≡ get_or xs k x → slice_get xs k ≡ Some x
item_at [] k x below is = absurd (omega (arith, below))
item_at (y ∷ xs) zero x below is = ap Some (sym is)
item_at (y ∷ xs) (suc k) x below is = item_at xs k x (omega (arith, below)) is
