-- Threads that are run on.
use Rattle.std.proofs.Common.{◌≡◌, ℕ, ◌+◌, ◌<◌, ◌||◌, ◌&&◌, not, ◌⊎◌, Bool, true, false, List, [], ◌∷◌, ◌++◌, map, length, get_or, drop, Option, Some, None, Result, Ok, Err, refl, sym, ap, ◌∙◌, subst, arith, inl, inr}
use Rattle.std.specs.List.{flat_map, list_any}
use Rattle.std.specs.Option.{is_some, option_map_or, option_to_list}
use Rattle.std.proofs.lemmas.List.{append-nil, length-append}
use Rattle.std.proofs.lemmas.List.Concat.{flat_map-append}
use Rattle.std.specs.Str.{bytes_eq}
use Rattle.std.proofs.lemmas.Bool.{cases_Bool, true≢false, false≢true}
use Rattle.std.proofs.lemmas.Bool.Decides.{same_from_decides}
use Rattle.std.proofs.lemmas.Slice.Eq.{bytes_eq-Decides}
use Rattle.pblk_model.specs.declared.script.Command.{Command}
use Rattle.pblk_model.specs.declared.script.Command.TheVariants.{Write, Read, Flush, Post, Await}
use Rattle.pblk_model.specs.declared.script.ScriptErr.{ScriptErr}
use Rattle.pblk_model.specs.declared.script.ScriptErr.TheVariants as errors
use Rattle.pblk_model.specs.ScriptText.{Said, Thread, Commands, Heard, Numbered, saids, threads_in, script_of, stuck_at, posts_refusal, leading, threads_of, unposted, awaits_unposted, posts, turns, least_standing}
use Rattle.run_script.specs.declared.names.Names.{Names}
use Rattle.run_script.specs.Names.{holds}
use Rattle.run_script.specs.declared.reader.Reader.{Reader}
use Rattle.run_script.specs.Heard.{ArePosted, BeginsThread, IsRead}
use Rattle.run_script.specs.Turns.{lifted, AreLeft, passed, Passes, lesser, line_of}
use Rattle.pblk_model.proofs.Maps.{map_dropped}
use Rattle.pblk_model.proofs.Parts.{next_item}

-- Names that are left.

bytes_eq-sym : (a b : List ℕ) → bytes_eq a b ≡ bytes_eq b a
bytes_eq-sym a b = let other = bytes_eq-Decides b a in
    same_from_decides {P = a ≡ b} (bytes_eq a b) (bytes_eq b a) (bytes_eq-Decides a b) (λ e. sym (other.0 e), λ e. other.1 (sym e))

not_either : (a b : Bool) → (not a && not b) ≡ not (a || b)
not_either true b = refl
not_either false b = refl

not_not : (b : Bool) → not (not b) ≡ b
not_not true = refl
not_not false = refl

pub left_all : (all : List Said) (names : Names) → ArePosted names all → AreLeft all names []
left_all all names are = λ name so. are name ∙ so

pub left_less : (all : List Said) (old new : Names) (name : List ℕ) (posted : List (List ℕ)) → AreLeft all old posted
    → ((other : List ℕ) → holds new other ≡ (not (bytes_eq name other) && holds old other)) → AreLeft all new (name ∷ posted)
left_less all old new name posted are less = λ other so. less other ∙ ap (λ b. not b && holds old other) (bytes_eq-sym name other)
    ∙ ap (λ b. not (bytes_eq other name) && b) (are other so) ∙ not_either (bytes_eq other name) (list_any (bytes_eq other) posted)

pub passes_post : (old new : Names) (c : Command) (name : List ℕ) → c ≡ Post name
    → ((other : List ℕ) → holds new other ≡ (not (bytes_eq name other) && holds old other)) → Passes old new c true
passes_post old new c name is less = λ all posted are known. (name ∷ posted, ap (passed posted) is, left_less all old new name posted are less)

-- an awaited name is posted just where it isn't left
awaited : (all : List Said) (names : Names) (c : Command) (name : List ℕ) (b : Bool) (posted : List (List ℕ)) → c ≡ Await name → b ≡ not (holds names name)
    → AreLeft all names posted → awaits_unposted all (Commands c) ≡ false → list_any (bytes_eq name) posted ≡ b
awaited all names c name b posted is e are known =
    let none : not (list_any (posts name) all) ≡ false = ap (λ d. awaits_unposted all (Commands d)) (sym is) ∙ known in
    let so : list_any (posts name) all ≡ true = sym (not_not (list_any (posts name) all)) ∙ ap not none in
    sym (e ∙ ap not (are name so) ∙ not_not (list_any (bytes_eq name) posted))

pub passes_await : (old : Names) (c : Command) (name : List ℕ) (b : Bool) → c ≡ Await name → b ≡ not (holds old name) → Passes old old c b
passes_await old c name true is e = λ all posted are known. (
  posted,
  ap (passed posted) is
      ∙ rw (awaited all old c name true posted is e are known) refl,
  are,
)
passes_await old c name false is e = λ all posted are known. (
  ap (passed posted) is
      ∙ rw (awaited all old c name false posted is e are known) refl,
  are,
)

pub passes_plain : (old : Names) (c : Command) → ((lba : ℕ) × (count : ℕ) × (tag : ℕ)
    × (c ≡ Write lba count tag)) ⊎ (((lba : ℕ) × (count : ℕ) × (c ≡ Read lba count)) ⊎ (c ≡ Flush)) → Passes old old c true
passes_plain old c (inl w) = λ all posted are known. (posted, ap (passed posted) w.3, are)
passes_plain old c (inr (inl r)) = λ all posted are known. (posted, ap (passed posted) r.2, are)
passes_plain old c (inr (inr f)) = λ all posted are known. (posted, ap (passed posted) f, are)

-- What nobody posts.

pub unposted-lifted : (all : List Said) (heard : Heard) → unposted all heard ≡ unposted all (lifted (leading heard) ++ flat_map lifted (threads_of heard))
unfolding unposted leading threads_of
unposted-lifted all [] = refl
unposted-lifted all ((n, Thread) ∷ heard) = unposted-lifted all heard
unposted-lifted all ((n, Commands c) ∷ heard) = rw (sym (unposted-lifted all heard)) refl

pub unposted-threads : (all : List Said) (heard : Heard) → BeginsThread heard → unposted all heard ≡ unposted all (flat_map lifted (threads_of heard))
unfolding leading
unposted-threads all [] b = unposted-lifted all []
unposted-threads all ((n, Thread) ∷ heard) b = unposted-lifted all ((n, Thread) ∷ heard)
unposted-threads all ((n, Commands c) ∷ heard) b = absurd b

pub unposted-none : (all : List Said) (a b : Heard) → unposted all a ≡ None → unposted all (a ++ b) ≡ unposted all b
unfolding unposted
unposted-none all [] b e = refl
unposted-none all (x ∷ a) b e = elim (cases_Bool (awaits_unposted all x.1)) [
  | inl holds_so ↦ let some : Some x.0 ≡ None = (rw holds_so at e) in absurd (cc)
  | inr fails_so ↦ rw fails_so (unposted-none all a b (rw fails_so at e))
]

pub unposted-some : (all : List Said) (a b : Heard) (n : ℕ) → unposted all a ≡ Some n → unposted all (a ++ b) ≡ Some n
unfolding unposted
unposted-some all [] b n e = absurd (cc)
unposted-some all (x ∷ a) b n e = elim (cases_Bool (awaits_unposted all x.1)) [
  | inl holds_so ↦ rw holds_so (rw holds_so at e)
  | inr fails_so ↦ rw fails_so (unposted-some all a b n (rw fails_so at e))
]

pub unposted-here : (all : List Said) (n : ℕ) (said : Said) (heard : Heard) → awaits_unposted all said ≡ true → unposted all ((n, said) ∷ heard) ≡ Some n
unfolding unposted
unposted-here all n said heard e = rw e refl

pub unposted-past : (all : List Said) (n : ℕ) (said : Said) (heard : Heard) → awaits_unposted all said ≡ false
    → unposted all ((n, said) ∷ heard) ≡ unposted all heard
unfolding unposted
unposted-past all n said heard e = rw e refl

pub unposted-end : (all : List Said) → unposted all [] ≡ None
unfolding unposted
unposted-end all = refl

-- a thread that awaits no such name, by its first command and the others
pub known_next : (all : List Said) (x : ℕ × Command) (rest : Numbered) → unposted all (lifted (x ∷ rest)) ≡ None
    → (awaits_unposted all (Commands x.1) ≡ false) × (unposted all (lifted rest) ≡ None)
known_next all x rest e = elim (cases_Bool (awaits_unposted all (Commands x.1))) [
  | inl holds_so ↦ let some : Some x.0 ≡ None = sym (unposted-here all x.0 (Commands x.1) (lifted rest) holds_so) ∙ e in absurd (cc)
  | inr fails_so ↦ (fails_so, sym (unposted-past all x.0 (Commands x.1) (lifted rest) fails_so) ∙ e)
]

pub known_parts : (all : List Said) (a b : Heard) → unposted all (a ++ b) ≡ None → (unposted all a ≡ None) × (unposted all b ≡ None)
known_parts all a b e = by_first (unposted all a) refl
  where
    by_first : (o : Option ℕ) → unposted all a ≡ o → (unposted all a ≡ None) × (unposted all b ≡ None)
    by_first None is = (is, sym (unposted-none all a b is) ∙ e)
    by_first (Some n) is = absurd (let some : Some n ≡ None = sym (unposted-some all a b n is) ∙ e in cc)

pub known_more : (all : List Said) (threads : List Numbered) (thread : Numbered) → unposted all (flat_map lifted threads) ≡ None
    → unposted all (lifted thread) ≡ None → unposted all (flat_map lifted (threads ++ thread ∷ [])) ≡ None
known_more all threads thread before last =
    ap (unposted all) (flat_map-append lifted threads (thread ∷ []) ∙ ap (λ h. flat_map lifted threads ++ h) (append-nil (lifted thread)))
    ∙ unposted-none all (flat_map lifted threads) (lifted thread) before ∙ last

-- The least line at which a thread stands.

pub least-end : least_standing [] ≡ None
unfolding least_standing
least-end = refl

pub least-next : (thread : Numbered) (threads : List Numbered) → least_standing (thread ∷ threads) ≡ lesser (line_of thread) (least_standing threads)
unfolding least_standing
least-next [] threads = refl
least-next (x ∷ thread) threads = refl

pub lesser-none : (a : Option ℕ) → lesser a None ≡ a
lesser-none None = refl
lesser-none (Some x) = refl

pub lesser-assoc : (a b c : Option ℕ) → lesser (lesser a b) c ≡ lesser a (lesser b c)
lesser-assoc None b c = refl
lesser-assoc (Some x) None c = refl
lesser-assoc (Some x) (Some y) None = refl
lesser-assoc (Some x) (Some y) (Some z) = ap Some (omega arith)

-- Loops over threads.

pub next_mapped : {A B : Type 0} (f : A → B) (xs : List A) (i : ℕ) (x : A) → i < length xs → x ≡ get_or xs i x
    → drop i (map f xs) ≡ f x ∷ drop (i + 1) (map f xs)
next_mapped f xs i x h is = sym (map_dropped f i xs) ∙ ap (map f) (next_item xs i x h is) ∙ ap (λ ys. f x ∷ ys) (map_dropped f (i + 1) xs)

pub least_turn : (least : Option ℕ) (left : List Numbered) (i : ℕ) (thread : Numbered) → drop i left ≡ thread ∷ drop (i + 1) left
    → lesser least (least_standing (drop i left)) ≡ least_standing left
    → lesser (lesser least (line_of thread)) (least_standing (drop (i + 1) left)) ≡ least_standing left
least_turn least left i thread at h = lesser-assoc least (line_of thread) (least_standing (drop (i + 1) left))
    ∙ ap (lesser least) (sym (ap least_standing at ∙ least-next thread (drop (i + 1) left))) ∙ h

pub least_end : (least : Option ℕ) (left : List Numbered) (i : ℕ) → drop i left ≡ [] → lesser least (least_standing (drop i left)) ≡ least_standing left
    → least ≡ least_standing left
least_end least left i none h = sym (ap (λ ts. lesser least (least_standing ts)) none ∙ ap (lesser least) least-end ∙ lesser-none least) ∙ h

pub unposted_here : (all : List Said) (thread rest : Numbered) (i : ℕ) (x : ℕ × Command) → drop i thread ≡ x ∷ rest
    → unposted all (lifted thread) ≡ unposted all (lifted (drop i thread)) → awaits_unposted all (Commands x.1) ≡ true
    → Some x.0 ≡ unposted all (lifted thread)
unposted_here all thread rest i x at h so = sym (h ∙ ap (λ t. unposted all (lifted t)) at ∙ unposted-here all x.0 (Commands x.1) (lifted rest) so)

pub unposted_past : (all : List Said) (thread rest : Numbered) (i : ℕ) (x : ℕ × Command) → drop i thread ≡ x ∷ rest
    → unposted all (lifted thread) ≡ unposted all (lifted (drop i thread)) → awaits_unposted all (Commands x.1) ≡ false
    → unposted all (lifted thread) ≡ unposted all (lifted rest)
unposted_past all thread rest i x at h so = h ∙ ap (λ t. unposted all (lifted t)) at ∙ unposted-past all x.0 (Commands x.1) (lifted rest) so

pub unposted_done : (all : List Said) (thread : Numbered) (i : ℕ) → drop i thread ≡ [] → unposted all (lifted thread) ≡ unposted all (lifted (drop i thread))
    → None ≡ unposted all (lifted thread)
unposted_done all thread i none h = sym (h ∙ ap (λ t. unposted all (lifted t)) none ∙ unposted-end all)

pub found_here : (all : List Said) (threads rest : List Numbered) (i : ℕ) (thread : Numbered) (found : Option ℕ) → drop i threads ≡ thread ∷ rest
    → unposted all (flat_map lifted threads) ≡ unposted all (flat_map lifted (drop i threads))
    → found ≡ unposted all (lifted thread) → is_some found ≡ true → found ≡ unposted all (flat_map lifted threads)
found_here all threads rest i thread None at h e some = absurd (false≢true some)
found_here all threads rest i thread (Some n) at h e some = sym (h ∙ ap (λ ts. unposted all (flat_map lifted ts)) at
    ∙ unposted-some all (lifted thread) (flat_map lifted rest) n (sym e))

pub found_past : (all : List Said) (threads rest : List Numbered) (i : ℕ) (thread : Numbered) (found : Option ℕ) → drop i threads ≡ thread ∷ rest
    → unposted all (flat_map lifted threads) ≡ unposted all (flat_map lifted (drop i threads))
    → found ≡ unposted all (lifted thread) → is_some found ≡ false → unposted all (flat_map lifted threads) ≡ unposted all (flat_map lifted rest)
found_past all threads rest i thread None at h e none = h ∙ ap (λ ts. unposted all (flat_map lifted ts)) at
    ∙ unposted-none all (lifted thread) (flat_map lifted rest) (sym e)
found_past all threads rest i thread (Some n) at h e none = absurd (true≢false none)

pub found_none : (all : List Said) (threads : List Numbered) (i : ℕ) → drop i threads ≡ []
    → unposted all (flat_map lifted threads) ≡ unposted all (flat_map lifted (drop i threads)) → None ≡ unposted all (flat_map lifted threads)
found_none all threads i none h = sym (h ∙ ap (λ ts. unposted all (flat_map lifted ts)) none ∙ unposted-end all)

-- What a reader answers at the end.

parts_unposted : (reader : Reader) (heard : Heard) → IsRead reader heard
    → unposted (saids heard) heard ≡ unposted (saids heard) (flat_map lifted reader.ended.items ++ flat_map lifted (option_to_list reader.current))
parts_unposted reader heard r =
    unposted-threads (saids heard) heard r.begins
    ∙ ap (λ ts. unposted (saids heard) (flat_map lifted ts)) (sym r.threads)
    ∙ ap (unposted (saids heard)) (flat_map-append lifted reader.ended.items (option_to_list reader.current))

-- a thread that ended has the line
pub ended_unposted : (reader : Reader) (heard : Heard) (ended : List Numbered) (found : Option ℕ) (line : ℕ) → IsRead reader heard → ended ≡ reader.ended.items
    → ((all : List Said) → ArePosted reader.names all → found ≡ unposted all (flat_map lifted ended)) → found ≡ Some line
    → Some line ≡ unposted (saids heard) heard
ended_unposted reader heard ended found line r same h is =
    sym (parts_unposted reader heard r ∙ unposted-some (saids heard) (flat_map lifted reader.ended.items) (flat_map lifted (option_to_list reader.current)) line
    (ap (λ ts. unposted (saids heard) (flat_map lifted ts)) (sym same) ∙ sym (h (saids heard) r.names) ∙ is))

others_unposted : (reader : Reader) (heard : Heard) (ended : List Numbered) (found : Option ℕ) → IsRead reader heard → ended ≡ reader.ended.items
    → ((all : List Said) → ArePosted reader.names all → found ≡ unposted all (flat_map lifted ended)) → found ≡ None
    → unposted (saids heard) heard ≡ unposted (saids heard) (flat_map lifted (option_to_list reader.current))
others_unposted reader heard ended found r same h none =
    parts_unposted reader heard r ∙ unposted-none (saids heard) (flat_map lifted reader.ended.items) (flat_map lifted (option_to_list reader.current))
    (ap (λ ts. unposted (saids heard) (flat_map lifted ts)) (sym same) ∙ sym (h (saids heard) r.names) ∙ none)

-- or none of these does, and the one that is open is looked at
pub current_unposted : (reader : Reader) (heard : Heard) (ended : List Numbered) (found : Option ℕ) → IsRead reader heard → ended ≡ reader.ended.items
    → ((all : List Said) → ArePosted reader.names all → found ≡ unposted all (flat_map lifted ended)) → found ≡ None
    → (thread : Numbered) (last : Option ℕ) → reader.current ≡ Some thread
    → ((all : List Said) → ArePosted reader.names all → last ≡ unposted all (lifted thread)) → last ≡ unposted (saids heard) heard
current_unposted reader heard ended found r same h none thread last current is =
    is (saids heard) r.names ∙ ap (unposted (saids heard)) (sym (append-nil (lifted thread)))
    ∙ sym (others_unposted reader heard ended found r same h none ∙ ap (λ o. unposted (saids heard) (flat_map lifted (option_to_list o))) current)

pub no_current_unposted : (reader : Reader) (heard : Heard) (ended : List Numbered) (found : Option ℕ) → IsRead reader heard → ended ≡ reader.ended.items
    → ((all : List Said) → ArePosted reader.names all → found ≡ unposted all (flat_map lifted ended)) → found ≡ None
    → reader.current ≡ None → None ≡ unposted (saids heard) heard
no_current_unposted reader heard ended found r same h none current =
    sym (others_unposted reader heard ended found r same h none ∙ ap (λ o. unposted (saids heard) (flat_map lifted (option_to_list o))) current
    ∙ unposted-end (saids heard))

-- Whether a thread of a reader is stuck.

pub last_stuck : (reader : Reader) (heard : Heard) (ended : List Numbered) (last : Numbered) (line : Option ℕ) → IsRead reader heard
    → unposted (saids heard) heard ≡ None → ended ≡ reader.ended.items → reader.current ≡ Some last
    → ((all : List Said) → ArePosted reader.names all → length ended < 16 → unposted all (flat_map lifted (ended ++ last ∷ [])) ≡ None
    → line ≡ stuck_at (ended ++ last ∷ []))
    → line ≡ stuck_at (threads_of heard)
last_stuck reader heard ended last line r known same current judged =
    let threads : ended ++ last ∷ [] ≡ threads_of heard = ap (λ ts. ts ++ last ∷ []) same ∙ sym (ap (λ o. reader.ended.items ++ option_to_list o) current)
    ∙ r.threads in
    let count : length ended + 1 ≡ threads_in (saids heard) = sym (length-append ended (last ∷ [])) ∙ ap length (threads ∙ sym r.threads) ∙ r.count in
    judged (saids heard) r.names (omega (arith, count, r.few)) (ap (λ ts. unposted (saids heard) (flat_map lifted ts)) threads
    ∙ sym (unposted-threads (saids heard) heard r.begins) ∙ known)
    ∙ ap stuck_at threads

no_threads : None ≡ stuck_at (threads_of [])
unfolding threads_of turns least_standing
no_threads = refl

pub none_stuck : (reader : Reader) (heard : Heard) → IsRead reader heard → reader.current ≡ None → None ≡ stuck_at (threads_of heard)
none_stuck reader heard r none = no_threads ∙ ap (λ h. stuck_at (threads_of h)) (sym (r.opens none))

abbrev pub told : Heard → Result (List (List Command)) ScriptErr
told heard = option_map_or Err (posts_refusal heard) (Ok (script_of heard))

pub told_unposted : (heard : Heard) (line : ℕ) → unposted (saids heard) heard ≡ Some line → told heard ≡ Err (errors.NeverPosted line)
told_unposted heard line e = rw e refl

pub passes_as : (old new : Names) (c : Command) (goes goes' : Bool) → Passes old new c goes → goes ≡ goes' → Passes old new c goes'
passes_as old new c goes goes' h e = subst (Passes old new c) e h
