-- The words of posts, in their order.
use Rattle.std.proofs.Common.{ℕ, zero, suc, ◌+◌, ◌<◌, ◌≤◌, ◌≡◌, ◌||◌, ⊎_elim, Bool, true, false, cond, List, [], ◌∷◌, ◌++◌, take, drop, get_or, length, slice_get, Some, None, subst, sym, refl, ap, ◌∙◌, arith}
use Rattle.std.proofs.lemmas.Bool.{cases_Bool, false≢true}
use Rattle.std.proofs.lemmas.List.{append_assoc, take-append-drop, take_more}
use Rattle.std.proofs.lemmas.Option.{none-some, same_Some, slice_get_within}
use Rattle.std.specs.Cmp.Lexicographic.{bytes_decides}
use Rattle.std.specs.HashMap.{hash_map_len}
use Rattle.std.specs.Str.{bytes_eq}
use Rattle.pblk_model.specs.declared.script.Command.{Command}
use Rattle.pblk_model.specs.declared.script.Command.TheVariants.{Write, Read, Flush, Post, Await}
use Rattle.pblk_model.proofs.Parts.{get_more, next_item}
use Rattle.pblk_model.proofs.Tests.{either, either_false}
use Rattle.run_threads.specs.declared.names.Names.{Names}
use Rattle.run_threads.specs.Names.{AreNames, ArePlaced, IsNew, IsPlaced, PostOnce, posts, posts_in, word_after, word_of, words_after}

-- The next word.

pub rises_by : (c : Command) (next : ℕ) → next ≤ word_after next c
rises_by (Write lba count tag) next = omega arith
rises_by (Read lba count) next = omega arith
rises_by Flush next = omega arith
rises_by (Post name) next = omega arith
rises_by (Await name) next = omega arith

pub rises : (cs : List Command) (next : ℕ) → next ≤ words_after next cs
rises [] next = omega arith
rises (c ∷ cs) next = let first = rises_by c next in let rest = rises cs (word_after next c) in omega (arith, first, rest)

pub after_append : (xs ys : List Command) (next : ℕ) → words_after next (xs ++ ys) ≡ words_after (words_after next xs) ys
after_append [] ys next = refl
after_append (c ∷ xs) ys next = after_append xs ys (word_after next c)

pub placed_append : (names : Names) (xs ys : List Command) (next : ℕ) → ArePlaced names next xs → ArePlaced names (words_after next xs) ys
    → ArePlaced names next (xs ++ ys)
placed_append names [] ys next h k = k
placed_append names (c ∷ xs) ys next h k = (h.0, placed_append names xs ys (word_after next c) h.1 k)

pub placed_parts : (names : Names) (xs ys : List Command) (next : ℕ) → ArePlaced names next (xs ++ ys)
    → ArePlaced names next xs × ArePlaced names (words_after next xs) ys
placed_parts names [] ys next h = (tt, h)
placed_parts names (c ∷ xs) ys next h = let rest = placed_parts names xs ys (word_after next c) h.1 in ((h.0, rest.0), rest.1)

-- Names.

pub same_bytes : (name : List ℕ) → bytes_eq name name ≡ true
same_bytes name = (bytes_decides name name).1 refl

or_flip : (a b c : Bool) → (b || (a || c)) ≡ (a || (b || c))
or_flip true true c = refl
or_flip true false c = refl
or_flip false b c = refl

posts_last : (name : List ℕ) (before : List Command) (c : Command) → posts_in name (before ++ c ∷ []) ≡ (posts name c || posts_in name before)
posts_last name [] c = refl
posts_last name (b ∷ before) c = ap (λ p. posts name b || p) (posts_last name before c) ∙ or_flip (posts name c) (posts name b) (posts_in name before)

-- a name that isn't posted differs from each that is
differs : (name other : List ℕ) → bytes_eq other name ≡ false → bytes_eq name other ≡ false
differs name other h =
    ⊎_elim
    (λ (same : bytes_eq name other ≡ true). absurd (let e : other ≡ name = sym ((bytes_decides name other).0 same) in
    false≢true (sym h ∙ (bytes_decides other name).1 e)))
    (λ no. no)
    (cases_Bool (bytes_eq name other))

-- where only words of other names change
module _ (names names' : Names) (name : List ℕ) (stays : (other : List ℕ) → bytes_eq name other ≡ false → word_of names' other ≡ word_of names other) where
  placed_stays : (cs : List Command) (next : ℕ) → posts_in name cs ≡ false → ArePlaced names next cs → ArePlaced names' next cs
  placed_stays [] next none h = tt
  placed_stays (Write lba count tag ∷ cs) next none h = (tt, placed_stays cs next none h.1)
  placed_stays (Read lba count ∷ cs) next none h = (tt, placed_stays cs next none h.1)
  placed_stays (Flush ∷ cs) next none h = (tt, placed_stays cs next none h.1)
  placed_stays (Post other ∷ cs) next none h =
      let parts = either_false (bytes_eq other name) (posts_in name cs) none in
      (stays other (differs name other parts.0) ∙ h.0, placed_stays cs (next + 1) parts.1 h.1)
  placed_stays (Await other ∷ cs) next none h = (tt, placed_stays cs next none h.1)

-- a new name gets the next word
pub named : (names names' : Names) (name : List ℕ) (before : List Command)
    → ((other : List ℕ) → word_of names' other ≡ cond (bytes_eq name other) (Some (hash_map_len names.words)) (word_of names other))
    → (word_of names name ≡ None → hash_map_len names'.words ≡ hash_map_len names.words + 1) → AreNames names before → posts_in name before ≡ false
    → AreNames names' (before ++ Post name ∷ [])
named names names' name before words more h new =
    let stays : (other : List ℕ) → bytes_eq name other ≡ false → word_of names' other ≡ word_of names other =
    λ other no. words other ∙ ap (λ b. cond b (Some (hash_map_len names.words)) (word_of names other)) no in
    let here : word_of names' name ≡ Some (words_after 0 before) =
    words name ∙ ap (λ b. cond b (Some (hash_map_len names.words)) (word_of names name)) (same_bytes name) ∙ ap Some h.count in
    record {
      placed = placed_append names' before (Post name ∷ []) 0 (placed_stays names names' name stays before 0 new h.placed) (here, tt);
      count = more (h.others name new) ∙ ap (λ n. n + 1) h.count ∙ sym (after_append before (Post name ∷ []) 0);
      others = λ other none.
          let parts = either_false (bytes_eq name other) (posts_in other before) (sym (posts_last other before (Post name)) ∙ none) in
          stays other parts.0 ∙ h.others other parts.1;
    }

-- no name is posted
pub kept : (names : Names) (before : List Command) (c : Command) → ((name : List ℕ) → c ≡ Post name → ⊥) → AreNames names before
    → AreNames names (before ++ c ∷ [])
kept names before c other h = record {
  placed = placed_append names before (c ∷ []) 0 h.placed (placed c (words_after 0 before) other, tt);
  count = h.count ∙ sym (after_append before (c ∷ []) 0 ∙ still c (words_after 0 before) other);
  others = λ name none. h.others name (either_false (posts name c) (posts_in name before) (sym (posts_last name before c) ∙ none)).1;
}
  where
    placed : (c : Command) (next : ℕ) → ((name : List ℕ) → c ≡ Post name → ⊥) → IsPlaced names next c
    placed (Write lba count tag) next other = tt
    placed (Read lba count) next other = tt
    placed Flush next other = tt
    placed (Post name) next other = absurd (other name refl)
    placed (Await name) next other = tt

    still : (c : Command) (next : ℕ) → ((name : List ℕ) → c ≡ Post name → ⊥) → word_after next c ≡ next
    still (Write lba count tag) next other = refl
    still (Read lba count) next other = refl
    still Flush next other = refl
    still (Post name) next other = absurd (other name refl)
    still (Await name) next other = refl

pub take_next : {X : Type 0} (xs : List X) (i : ℕ) (x : X) → i < length xs → x ≡ get_or xs i x → take (i + 1) xs ≡ take i xs ++ x ∷ []
take_next xs i x below is = take_more xs i x below ∙ ap (λ y. take i xs ++ y ∷ []) (sym is)

-- Where names are posted.

there : (name : List ℕ) (c : Command) → posts name c ≡ true → c ≡ Post name
there name (Write lba count tag) h = absurd (false≢true h)
there name (Read lba count) h = absurd (false≢true h)
there name Flush h = absurd (false≢true h)
there name (Post other) h = ap Post ((bytes_decides other name).0 h)
there name (Await other) h = absurd (false≢true h)

found : (name : List ℕ) (before : List Command) → posts_in name before ≡ true → (i : ℕ) × (slice_get before i ≡ Some (Post name))
found name [] h = absurd (false≢true h)
found name (c ∷ before) h =
    ⊎_elim (λ here. (0, ap Some (there name c here))) (λ later. let f = found name before later in (suc f.0, f.1))
    (either (posts name c) (posts_in name before) h)

-- the next command posts no name again
pub is_new : (before rest : List Command) (c : Command) → PostOnce (before ++ c ∷ rest) → IsNew before c
is_new before rest (Write lba count tag) once = tt
is_new before rest (Read lba count) once = tt
is_new before rest Flush once = tt
is_new before rest (Post name) once =
    ⊎_elim
    (λ (yes : posts_in name before ≡ true).
    let f = found name before yes in
    let within = slice_get_within before f.0 (Post name) f.1 in
    let early = get_more before (Post name ∷ rest) f.0 (Post name) f.1 in
    let late : slice_get (before ++ Post name ∷ rest) (length before) ≡ Some (Post name) = get_next before (Post name) rest in
    let same = once f.0 (length before) name early late in
    absurd (omega (arith, within, same)))
    (λ no. no)
    (cases_Bool (posts_in name before))
  where
    get_next : (before : List Command) (c : Command) (rest : List Command) → slice_get (before ++ c ∷ rest) (length before) ≡ Some c
    get_next [] c rest = refl
    get_next (b ∷ before) c rest = get_next before c rest
is_new before rest (Await name) once = tt

-- a posted name has a word below that of the next post
pub has_word : (names : Names) (name : List ℕ) (cs : List Command) (i next : ℕ) → ArePlaced names next cs → slice_get cs i ≡ Some (Post name)
    → (word : ℕ) × (word_of names name ≡ Some word) × (word < words_after next cs)
has_word names name [] i next h at = absurd (none-some (Post name) at)
has_word names name (c ∷ cs) zero next h at =
    let is : c ≡ Post name = same_Some c (Post name) at in
    let placed : word_of names name ≡ Some next = subst (IsPlaced names next) is h.0 in
    let low : next + 1 ≤ words_after (word_after next c) cs = subst (λ d. next + 1 ≤ words_after (word_after next d) cs) (sym is) (rises cs (next + 1)) in
    (next, placed, omega (arith, low))
has_word names name (c ∷ cs) (suc i) next h at = has_word names name cs i (word_after next c) h.1 at

-- one command more has its word
pub one_more : (names names' : Names) (before cs rest : List Command) (i : ℕ) (c : Command) → i < length cs → c ≡ get_or cs i c
    → ((some : List Command) → AreNames names some → IsNew some c → AreNames names' (some ++ c ∷ [])) → AreNames names (before ++ take i cs)
    → PostOnce (before ++ (cs ++ rest)) → AreNames names' (before ++ take (i + 1) cs)
one_more names names' before cs rest i c below is add h once =
    let whole : before ++ (cs ++ rest) ≡ (before ++ take i cs) ++ c ∷ (drop (i + 1) cs ++ rest) =
    ap (λ xs. before ++ (xs ++ rest)) (sym (take-append-drop i cs) ∙ ap (λ xs. take i cs ++ xs) (next_item cs i c below is))
    ∙ ap (λ xs. before ++ xs) (append_assoc (take i cs) (c ∷ drop (i + 1) cs) rest)
    ∙ sym (append_assoc before (take i cs) (c ∷ (drop (i + 1) cs ++ rest))) in
    let new = is_new (before ++ take i cs) (drop (i + 1) cs ++ rest) c (subst PostOnce whole once) in
    let more : (before ++ take i cs) ++ c ∷ [] ≡ before ++ take (i + 1) cs =
    append_assoc before (take i cs) (c ∷ []) ∙ ap (λ xs. before ++ xs) (sym (take_next cs i c below is)) in
    subst (AreNames names') more (add (before ++ take i cs) h new)
