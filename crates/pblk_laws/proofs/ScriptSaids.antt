-- What the lines of a script say, and its threads.
use Rattle.std.proofs.Common.{◌≡◌, ℕ, zero, suc, ◌+◌, ◌||◌, ◌⊎◌, Bool, true, false, List, [], ◌∷◌, ◌++◌, map, length, slice_get, Some, None, refl, sym, ap, ◌∙◌, subst, arith, inl, inr}
use Rattle.std.specs.List.{AllByRecursion, flat_map, list_any, sum_by}
use Rattle.std.proofs.lemmas.Bool.{cases_Bool, true≢false, false≢true}
use Rattle.std.proofs.lemmas.List.{map-append}
use Rattle.std.proofs.lemmas.List.Folds.{list_any-append}
use Rattle.std.proofs.lemmas.List.Sums.{sum_by-cons}
use Rattle.std.proofs.lemmas.Slice.Eq.{bytes_eq-Decides}
use Rattle.pblk_model.specs.declared.script.Command.{Command}
use Rattle.pblk_model.specs.declared.script.Command.TheVariants.{Write, Read, Flush, Post, Await}
use Rattle.pblk_model.specs.Script.{command_at, command_line, thread_line, thread_lines}
use Rattle.pblk_model.specs.ScriptText.{Said, Thread, Commands, Heard, saids, said_line, leading, threads_of, script_of, threads_in, commands_in, posts, awaits_unposted, unposted}
use Rattle.pblk_model.proofs.Tests.{either_false}

-- The threads of what was said.

abbrev pub leading_said : List Said → List Command
leading_said [] = []
leading_said (Thread ∷ s) = []
leading_said (Commands c ∷ s) = c ∷ leading_said s

abbrev pub threads_said : List Said → List (List Command)
threads_said [] = []
threads_said (Thread ∷ s) = leading_said s ∷ threads_said s
threads_said (Commands c ∷ s) = threads_said s

leading_is : (heard : Heard) → map (λ x. x.1) (leading heard) ≡ leading_said (saids heard)
unfolding leading
leading_is [] = refl
leading_is ((n, Thread) ∷ heard) = refl
leading_is ((n, Commands c) ∷ heard) = ap (λ t. c ∷ t) (leading_is heard)

pub script_is : (heard : Heard) → script_of heard ≡ threads_said (saids heard)
unfolding threads_of
script_is [] = refl
script_is ((n, Thread) ∷ heard) = ap (λ t. t ∷ script_of heard) (leading_is heard) ∙ ap (λ ts. leading_said (saids heard) ∷ ts) (script_is heard)
script_is ((n, Commands c) ∷ heard) = script_is heard

-- what a script says
abbrev pub saids_of : List (List Command) → List Said
saids_of script = flat_map (λ t. Thread ∷ map Commands t) script

said_script : (s : List Said) → s ≡ map Commands (leading_said s) ++ saids_of (threads_said s)
said_script [] = refl
said_script (Thread ∷ s) = ap (λ t. Thread ∷ t) (said_script s)
said_script (Commands c ∷ s) = ap (λ t. Commands c ∷ t) (said_script s)

leading_of : (t : List Command) (ts : List (List Command)) → leading_said (map Commands t ++ saids_of ts) ≡ t
leading_of [] [] = refl
leading_of [] (t ∷ ts) = refl
leading_of (c ∷ t) ts = ap (λ t. c ∷ t) (leading_of t ts)

threads_of-said : (t : List Command) (ts : List (List Command)) → threads_said (map Commands t ++ saids_of ts) ≡ threads_said (saids_of ts)
threads_of-said [] ts = refl
threads_of-said (c ∷ t) ts = threads_of-said t ts

pub script_said : (script : List (List Command)) → threads_said (saids_of script) ≡ script
script_said [] = refl
script_said (t ∷ ts) = ap (λ u. u ∷ threads_said (map Commands t ++ saids_of ts)) (leading_of t ts) ∙ ap (λ us. t ∷ us) (threads_of-said t ts ∙ script_said ts)

-- The first line is a thread.
abbrev pub BeginsSaid : List Said → Type 0
BeginsSaid [] = Unit {0}
BeginsSaid (Thread ∷ s) = Unit {0}
BeginsSaid (Commands c ∷ s) = ⊥

pub said_is : (s : List Said) → BeginsSaid s → s ≡ saids_of (threads_said s)
said_is [] b = refl
said_is (Thread ∷ s) b = said_script (Thread ∷ s)
said_is (Commands c ∷ s) b = absurd b

pub begins_of : (script : List (List Command)) → BeginsSaid (saids_of script)
begins_of [] = tt
begins_of (t ∷ ts) = tt

pub no_leading : (s : List Said) → BeginsSaid s → leading_said s ≡ []
no_leading [] b = refl
no_leading (Thread ∷ s) b = refl
no_leading (Commands c ∷ s) b = absurd b

command_lines : (t : List Command) → map said_line (map Commands t) ≡ map command_line t
command_lines [] = refl
command_lines (c ∷ t) = ap (λ ls. command_line c ∷ ls) (command_lines t)

pub lines_said : (script : List (List Command)) → map said_line (saids_of script) ≡ flat_map thread_lines script
lines_said [] = refl
lines_said (t ∷ ts) = ap (λ ls. thread_line ∷ ls)
    (map-append said_line (map Commands t) (saids_of ts) ∙ ap (λ ls. ls ++ map said_line (saids_of ts)) (command_lines t)
    ∙ ap (λ ls. map command_line t ++ ls) (lines_said ts))

-- The counts.

pub threads_in-append : (a b : List Said) → threads_in (a ++ b) ≡ threads_in a + threads_in b
threads_in-append [] b = omega arith
threads_in-append (Thread ∷ a) b = omega (arith, threads_in-append a b)
threads_in-append (Commands c ∷ a) b = threads_in-append a b

pub commands_in-append : (a b : List Said) → commands_in (a ++ b) ≡ commands_in a + commands_in b
commands_in-append [] b = omega arith
commands_in-append (Thread ∷ a) b = commands_in-append a b
commands_in-append (Commands c ∷ a) b = omega (arith, commands_in-append a b)

pub threads_counted : (s : List Said) → length (threads_said s) ≡ threads_in s
threads_counted [] = refl
threads_counted (Thread ∷ s) = omega (arith, threads_counted s)
threads_counted (Commands c ∷ s) = threads_counted s

commands_said : (s : List Said) → length (leading_said s) + sum_by length (threads_said s) ≡ commands_in s
commands_said [] = refl
commands_said (Thread ∷ s) = omega (arith, sum_by-cons length (leading_said s) (threads_said s), commands_said s)
commands_said (Commands c ∷ s) = omega (arith, commands_said s)

pub commands_counted : (s : List Said) → BeginsSaid s → sum_by length (threads_said s) ≡ commands_in s
commands_counted s b = omega (arith, commands_said s, ap length (no_leading s b))

-- What holds of all that was said.

pub all-push : (P : Said → Type 0) (s : List Said) (x : Said) → AllByRecursion P s → P x → AllByRecursion P (s ++ x ∷ [])
all-push P [] x h p = (p, tt)
all-push P (y ∷ s) x h p = (h.0, all-push P s x h.1 p)

pub all-later : (P : Said → Type 0) (a b : List Said) → AllByRecursion P (a ++ b) → AllByRecursion P b
all-later P [] b h = h
all-later P (x ∷ a) b h = all-later P a b h.1

pub leading_all : (P : Said → Type 0) (s : List Said) → AllByRecursion P s → (c : ℕ) (command : Command) → slice_get (leading_said s) c ≡ Some command
    → P (Commands command)
leading_all P [] h c command e = absurd (cc)
leading_all P (Thread ∷ s) h c command e = absurd (cc)
leading_all P (Commands x ∷ s) h zero command e = let same : x ≡ command = cc in subst (λ x. P (Commands x)) same h.0
leading_all P (Commands x ∷ s) h (suc c) command e = leading_all P s h.1 c command e

pub threads_all : (P : Said → Type 0) (s : List Said) → AllByRecursion P s → (i c : ℕ) (command : Command) → command_at (threads_said s) i c ≡ Some command
    → P (Commands command)
threads_all P [] h i c command e = absurd (cc)
threads_all P (Thread ∷ s) h zero c command e = leading_all P s h.1 c command e
threads_all P (Thread ∷ s) h (suc i) c command e = threads_all P s h.1 i c command e
threads_all P (Commands x ∷ s) h i c command e = threads_all P s h.1 i c command e

-- and what holds of each command
pub all_threads : (P : Said → Type 0) (s : List Said) → P Thread
    → ((c : ℕ) (command : Command) → slice_get (leading_said s) c ≡ Some command → P (Commands command))
    → ((i c : ℕ) (command : Command) → command_at (threads_said s) i c ≡ Some command → P (Commands command)) → AllByRecursion P s
all_threads P [] t l h = tt
all_threads P (Thread ∷ s) t l h = (t, all_threads P s t (h zero) (λ i. h (suc i)))
all_threads P (Commands x ∷ s) t l h = (l zero x refl, all_threads P s t (λ c. l (suc c)) h)

-- The posts.

posts_self : (name : List ℕ) → posts name (Commands (Post name)) ≡ true
posts_self name = (bytes_eq-Decides name name).1 refl

pub posts_is : (name : List ℕ) (x : Said) → posts name x ≡ true → x ≡ Commands (Post name)
posts_is name Thread e = absurd (false≢true e)
posts_is name (Commands (Write lba count tag)) e = absurd (false≢true e)
posts_is name (Commands (Read lba count)) e = absurd (false≢true e)
posts_is name (Commands Flush) e = absurd (false≢true e)
posts_is name (Commands (Post other)) e = ap (λ n. Commands (Post n)) ((bytes_eq-Decides other name).0 e)
posts_is name (Commands (Await other)) e = absurd (false≢true e)

none_posts : (name : List ℕ) (s : List Said) → list_any (posts name) s ≡ false → AllByRecursion (λ x. posts name x ≡ false) s
none_posts name [] e = tt
none_posts name (x ∷ s) e = let both = either_false (posts name x) (list_any (posts name) s) e in (both.0, none_posts name s both.1)

not_posted : (name : List ℕ) (c : Command) → c ≡ Post name → posts name (Commands c) ≡ false → ⊥
not_posted name c is none = true≢false (sym (ap (λ c. posts name (Commands c)) is ∙ posts_self name) ∙ none)

pub none_leading : (name : List ℕ) (s : List Said) → list_any (posts name) s ≡ false → (c : ℕ) → slice_get (leading_said s) c ≡ Some (Post name) → ⊥
none_leading name s none c e = not_posted name (Post name) refl (leading_all (λ x. posts name x ≡ false) s (none_posts name s none) c (Post name) e)

pub none_threads : (name : List ℕ) (s : List Said) → list_any (posts name) s ≡ false → (i c : ℕ) → command_at (threads_said s) i c ≡ Some (Post name) → ⊥
none_threads name s none i c e = not_posted name (Post name) refl (threads_all (λ x. posts name x ≡ false) s (none_posts name s none) i c (Post name) e)

-- where a name that is posted is posted
pub post_at : (name : List ℕ) (s : List Said) → list_any (posts name) s ≡ true
    → ((c : ℕ) × (slice_get (leading_said s) c ≡ Some (Post name))) ⊎ ((i : ℕ) × (c : ℕ) × (command_at (threads_said s) i c ≡ Some (Post name)))
post_at name [] e = absurd (false≢true e)
post_at name (Thread ∷ s) e = elim (post_at name s e) [
  | inl w ↦ inr (0, w.0, w.1)
  | inr w ↦ inr (suc w.0, w.1, w.2)
]
post_at name (Commands x ∷ s) e = elim (cases_Bool (posts name (Commands x))) [
  | inl here ↦ let is = posts_is name (Commands x) here in let same : x ≡ Post name = cc in inl (0, ap Some same)
  | inr other ↦ elim (post_at name s (rw other at e)) [
    | inl w ↦ inl (suc w.0, w.1)
    | inr w ↦ inr w
  ]
]

-- a name that is posted somewhere
pub post_leading : (name : List ℕ) (s : List Said) (c : ℕ) → slice_get (leading_said s) c ≡ Some (Post name) → list_any (posts name) s ≡ true
post_leading name s c e = elim (cases_Bool (list_any (posts name) s)) [
  | inl some ↦ some
  | inr none ↦ absurd (none_leading name s none c e)
]

pub post_threads : (name : List ℕ) (s : List Said) (i c : ℕ) → command_at (threads_said s) i c ≡ Some (Post name) → list_any (posts name) s ≡ true
post_threads name s i c e = elim (cases_Bool (list_any (posts name) s)) [
  | inl some ↦ some
  | inr none ↦ absurd (none_threads name s none i c e)
]

-- No name is posted twice.
abbrev pub Once : List Said → Type 0
Once [] = Unit {0}
Once (x ∷ s) = ((name : List ℕ) → posts name x ≡ true → list_any (posts name) s ≡ false) × Once s

pub once-push : (s : List Said) (x : Said) → Once s → ((name : List ℕ) → posts name x ≡ true → list_any (posts name) s ≡ false) → Once (s ++ x ∷ [])
once-push [] x once new = (λ name e. refl, tt)
once-push (y ∷ s) x once new = (
  λ name e. elim (cases_Bool (posts name x)) [
    | inl both ↦ absurd (true≢false (sym e ∙ (either_false (posts name y) (list_any (posts name) s) (new name both)).0))
    | inr other ↦ list_any-append (posts name) s (x ∷ []) ∙ rw (once.0 name e) (rw other refl)
  ],
  once-push s x once.1 (λ name e. (either_false (posts name y) (list_any (posts name) s) (new name e)).1),
)

-- what is posted was not posted before
pub once-before : (a b : List Said) (x : Said) (name : List ℕ) → Once (a ++ x ∷ b) → posts name x ≡ true → list_any (posts name) a ≡ false
once-before [] b x name once e = refl
once-before (y ∷ a) b x name once e = elim (cases_Bool (posts name y)) [
  | inl first ↦ absurd (true≢false (sym (list_any-append (posts name) a (x ∷ b) ∙ rw e (or_true (list_any (posts name) a))) ∙ once.0 name first))
  | inr other ↦ rw other (once-before a b x name once.1 e)
]
  where
    or_true : (p : Bool) → (p || true) ≡ true
    or_true true = refl
    or_true false = refl

-- the same of the threads
pub record OnceAt (first : List Command) (threads : List (List Command)) : Type 0 where
  pub inside : (c d : ℕ) (name : List ℕ) → slice_get first c ≡ Some (Post name) → slice_get first d ≡ Some (Post name) → c ≡ d
  pub apart : (c j d : ℕ) (name : List ℕ) → slice_get first c ≡ Some (Post name) → command_at threads j d ≡ Some (Post name) → ⊥
  pub later : (i c j d : ℕ) (name : List ℕ) → command_at threads i c ≡ Some (Post name) → command_at threads j d ≡ Some (Post name) → (i ≡ j) × (c ≡ d)

once_threads : (first : List Command) (threads : List (List Command)) → OnceAt first threads → (i c j d : ℕ) (name : List ℕ)
    → command_at (first ∷ threads) i c ≡ Some (Post name) → command_at (first ∷ threads) j d ≡ Some (Post name) → (i ≡ j) × (c ≡ d)
once_threads first threads h zero c zero d name e k = (refl, h.inside c d name e k)
once_threads first threads h zero c (suc j) d name e k = absurd (h.apart c j d name e k)
once_threads first threads h (suc i) c zero d name e k = absurd (h.apart d i c name k e)
once_threads first threads h (suc i) c (suc j) d name e k = let both = h.later i c j d name e k in (ap suc both.0, both.1)

once_inside : (x : Command) (s : List Said) → ((name : List ℕ) → posts name (Commands x) ≡ true → list_any (posts name) s ≡ false)
    → OnceAt (leading_said s) (threads_said s)
    → (c d : ℕ) (name : List ℕ) → slice_get (x ∷ leading_said s) c ≡ Some (Post name) → slice_get (x ∷ leading_said s) d ≡ Some (Post name) → c ≡ d
once_inside x s new h zero zero name e k = refl
once_inside x s new h zero (suc d) name e k =
    let is : x ≡ Post name = cc in
    absurd (none_leading name s (new name (ap (λ x. posts name (Commands x)) is ∙ posts_self name)) d k)
once_inside x s new h (suc c) zero name e k =
    let is : x ≡ Post name = cc in
    absurd (none_leading name s (new name (ap (λ x. posts name (Commands x)) is ∙ posts_self name)) c e)
once_inside x s new h (suc c) (suc d) name e k = ap suc (h.inside c d name e k)

once_apart : (x : Command) (s : List Said) → ((name : List ℕ) → posts name (Commands x) ≡ true → list_any (posts name) s ≡ false)
    → OnceAt (leading_said s) (threads_said s)
    → (c j d : ℕ) (name : List ℕ) → slice_get (x ∷ leading_said s) c ≡ Some (Post name) → command_at (threads_said s) j d ≡ Some (Post name) → ⊥
once_apart x s new h zero j d name e k =
    let is : x ≡ Post name = cc in
    none_threads name s (new name (ap (λ x. posts name (Commands x)) is ∙ posts_self name)) j d k
once_apart x s new h (suc c) j d name e k = h.apart c j d name e k

pub once_at : (s : List Said) → Once s → OnceAt (leading_said s) (threads_said s)
once_at [] once = record { inside = λ c d name e k. absurd (cc); apart = λ c j d name e k. cc; later = λ i c j d name e k. absurd (cc) }
once_at (Thread ∷ s) once =
    let h = once_at s once.1 in record {
      inside = λ c d name e k. absurd (cc);
      apart = λ c j d name e k. cc;
      later = once_threads (leading_said s) (threads_said s) h;
    }
once_at (Commands x ∷ s) once =
    let h = once_at s once.1 in record {
      inside = once_inside x s once.0 h;
      apart = once_apart x s once.0 h;
      later = h.later;
    }

pub once_said : (s : List Said) → OnceAt (leading_said s) (threads_said s) → Once s
once_said [] h = tt
once_said (Thread ∷ s) h = (
  λ name e. absurd (false≢true e),
  once_said s (record {
    inside = λ c d name e k. (h.later 0 c 0 d name e k).1;
    apart = λ c j d name e k. let both = h.later 0 c (suc j) d name e k in omega (arith, both.0);
    later = λ i c j d name e k. let both = h.later (suc i) c (suc j) d name e k in (omega (arith, both.0), both.1);
  }),
)
once_said (Commands x ∷ s) h = (
  λ name e.
      let is = posts_is name (Commands x) e in
      let same : x ≡ Post name = cc in
      elim (cases_Bool (list_any (posts name) s)) [
        | inl again ↦ elim (post_at name s again) [
          | inl w ↦ absurd (let both = h.inside 0 (suc w.0) name (ap Some same) w.1 in omega (arith, both))
          | inr w ↦ absurd (h.apart 0 w.0 w.1 name (ap Some same) w.2)
        ]
        | inr none ↦ none
      ],
  once_said s (record {
    inside = λ c d name e k. let both = h.inside (suc c) (suc d) name e k in omega (arith, both);
    apart = λ c j d name e k. h.apart (suc c) j d name e k;
    later = h.later;
  }),
)

-- The awaits.

pub unposted_all : (all : List Said) (heard : Heard) → unposted all heard ≡ None → AllByRecursion (λ x. awaits_unposted all x ≡ false) (saids heard)
unfolding unposted
unposted_all all [] e = tt
unposted_all all (x ∷ heard) e = elim (cases_Bool (awaits_unposted all x.1)) [
  | inl awaits ↦ absurd (let some : Some x.0 ≡ None = (rw awaits at e) in cc)
  | inr heeds ↦ (heeds, unposted_all all heard (rw heeds at e))
]

pub all_unposted : (all : List Said) (heard : Heard) → AllByRecursion (λ x. awaits_unposted all x ≡ false) (saids heard) → unposted all heard ≡ None
unfolding unposted
all_unposted all [] h = refl
all_unposted all (x ∷ heard) h = rw h.0 (all_unposted all heard h.1)
