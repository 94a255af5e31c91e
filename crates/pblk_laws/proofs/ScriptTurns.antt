-- Threads that take turns: they never get stuck exactly where there is a time for each command.
use Rattle.std.proofs.Common.{◌≡◌, ℕ, zero, suc, ◌+◌, ◌<◌, ◌≤◌, ◌⊎◌, true, false, if◌then◌else◌, List, [], ◌∷◌, ◌++◌, map, length, Option, Some, None, refl, sym, ap, ◌∙◌, subst, arith, inl, inr, append_assoc, add-one}
use Rattle.std.specs.List.{list_any, sum_by}
use Rattle.std.specs.Str.{bytes_eq}
use Rattle.std.proofs.lemmas.Bool.{cases_Bool, true≢false, false≢true}
use Rattle.std.proofs.lemmas.List.Sums.{sum_by-cons}
use Rattle.std.proofs.lemmas.Slice.Eq.{bytes_eq-Decides}
use Rattle.pblk_model.specs.declared.script.Command.{Command}
use Rattle.pblk_model.specs.declared.script.Command.TheVariants.{Write, Read, Flush, Post, Await}
use Rattle.pblk_model.specs.Script.{command_at, NeverStuck}
use Rattle.pblk_model.specs.ScriptText.{Heard, Numbered, threads_of, script_of, run_on, turn, turns, least_standing, stuck_at}
use Rattle.pblk_model.proofs.Lists.{cases_passed}
use Rattle.pblk_model.proofs.Tests.{or_right}
use Rattle.pblk_model.proofs.ScriptTextLemmas.{run_on-end, turn-end, turn-next, turns-stay}

-- what is posted once a thread has gone past a command, if it can
abbrev pub passed : List (List ℕ) → Command → Option (List (List ℕ))
passed posted (Write lba count tag) = Some posted
passed posted (Read lba count) = Some posted
passed posted Flush = Some posted
passed posted (Post name) = Some (name ∷ posted)
passed posted (Await name) = if list_any (bytes_eq name) posted then Some posted else None

-- A command that a thread goes past, and one that it stands at.

pub run_on-past : (posted more : List (List ℕ)) (n : ℕ) (c : Command) (thread : Numbered) → passed posted c ≡ Some more
    → run_on posted ((n, c) ∷ thread) ≡ run_on more thread
unfolding run_on
run_on-past posted more n (Write lba count tag) thread e = let same : posted ≡ more = cc in rw same refl
run_on-past posted more n (Read lba count) thread e = let same : posted ≡ more = cc in rw same refl
run_on-past posted more n Flush thread e = let same : posted ≡ more = cc in rw same refl
run_on-past posted more n (Post name) thread e = let same : name ∷ posted ≡ more = cc in rw same refl
run_on-past posted more n (Await name) thread e = elim (cases_Bool (list_any (bytes_eq name) posted)) [
  | inl holds_so ↦ let same : Some posted ≡ Some more = (rw holds_so at e) in let same' : posted ≡ more = cc in rw holds_so (rw same' refl)
  | inr fails_so ↦ let none : None ≡ Some more = (rw fails_so at e) in absurd (cc)
]

pub run_on-stands : (posted : List (List ℕ)) (n : ℕ) (c : Command) (thread : Numbered) → passed posted c ≡ None
    → run_on posted ((n, c) ∷ thread) ≡ (posted, (n, c) ∷ thread)
unfolding run_on
run_on-stands posted n (Write lba count tag) thread e = absurd (cc)
run_on-stands posted n (Read lba count) thread e = absurd (cc)
run_on-stands posted n Flush thread e = absurd (cc)
run_on-stands posted n (Post name) thread e = absurd (cc)
run_on-stands posted n (Await name) thread e = elim (cases_Bool (list_any (bytes_eq name) posted)) [
  | inl holds_so ↦ let some : Some posted ≡ None = (rw holds_so at e) in absurd (cc)
  | inr fails_so ↦ rw fails_so refl
]

pub run_on-length : (posted : List (List ℕ)) (thread : Numbered) → length (run_on posted thread).1 ≤ length thread
run_on-length posted [] = rw (run_on-end posted) (omega arith)
run_on-length posted ((n, c) ∷ thread) = elim (cases_passed (passed posted c)) [
  | inl none ↦ rw (run_on-stands posted n c thread none) (omega arith)
  | inr some ↦ rw (run_on-past posted some.0 n c thread some.1) (omega (arith, run_on-length some.0 thread))
]

-- a thread that doesn't move posts nothing
pub run_on-stays : (posted : List (List ℕ)) (thread : Numbered) → length (run_on posted thread).1 ≡ length thread → run_on posted thread ≡ (posted, thread)
run_on-stays posted [] e = run_on-end posted
run_on-stays posted ((n, c) ∷ thread) e = elim (cases_passed (passed posted c)) [
  | inl none ↦ run_on-stands posted n c thread none
  | inr some ↦ absurd (let moved : length (run_on some.0 thread).1 ≡ suc (length thread) =
      sym (ap (λ r. length r.1) (run_on-past posted some.0 n c thread some.1)) ∙ e in omega (arith, run_on-length some.0 thread, moved))
]

-- Turns in which nothing moves.

pub turn-stays : (posted : List (List ℕ)) (threads : List Numbered) → map length (turn posted threads).1 ≡ map length threads
    → turn posted threads ≡ (posted, threads)
turn-stays posted [] e = turn-end posted
turn-stays posted (thread ∷ threads) e =
    let next = turn-next posted thread threads in
    let lengths : map length ((run_on posted thread).1 ∷ (turn (run_on posted thread).0 threads).1) ≡ map length (thread ∷ threads) =
    ap (λ r. map length r.1) (sym next) ∙ e in
    let first : length (run_on posted thread).1 ≡ length thread = cc in
    let others : map length (turn (run_on posted thread).0 threads).1 ≡ map length threads = cc in
    let stays = run_on-stays posted thread first in
    let others' : map length (turn posted threads).1 ≡ map length threads = ap (λ r. map length (turn r.0 threads).1) (sym stays) ∙ others in
    let rest = turn-stays posted threads others' in
    next ∙ ap (λ r. ((turn r.0 threads).0, r.1 ∷ (turn r.0 threads).1)) stays ∙ ap (λ r. (r.0, thread ∷ r.1)) rest

-- The threads without the numbers of their lines.
abbrev pub plain : List Numbered → List (List Command)
plain threads = map (map (λ x. x.1)) threads

abbrev pub IsListed : List (List ℕ) → List ℕ → Type 0
IsListed posted name = list_any (bytes_eq name) posted ≡ true

listed-self : (posted : List (List ℕ)) (name : List ℕ) → IsListed (name ∷ posted) name
listed-self posted name = rw ((bytes_eq-Decides name name).1 refl) refl

-- what was posted stays so
passed-keeps : (posted more : List (List ℕ)) (c : Command) (name : List ℕ) → passed posted c ≡ Some more → IsListed posted name → IsListed more name
passed-keeps posted more (Write lba count tag) name e h = let same : posted ≡ more = cc in subst (λ p. IsListed p name) same h
passed-keeps posted more (Read lba count) name e h = let same : posted ≡ more = cc in subst (λ p. IsListed p name) same h
passed-keeps posted more Flush name e h = let same : posted ≡ more = cc in subst (λ p. IsListed p name) same h
passed-keeps posted more (Post post) name e h =
    let same : post ∷ posted ≡ more = cc in
    subst (λ p. IsListed p name) same (or_right (bytes_eq name post) (list_any (bytes_eq name) posted) h)
passed-keeps posted more (Await await) name e h = elim (cases_Bool (list_any (bytes_eq await) posted)) [
  | inl there ↦ let some : Some posted ≡ Some more = (rw there at e) in let same : posted ≡ more = cc in subst (λ p. IsListed p name) same h
  | inr absent ↦ absurd (let none : None ≡ Some more = (rw absent at e) in cc)
]

passed-post : (posted more : List (List ℕ)) (name : List ℕ) → passed posted (Post name) ≡ Some more → IsListed more name
passed-post posted more name e = let same : name ∷ posted ≡ more = cc in subst (λ p. IsListed p name) same (listed-self posted name)

passed-await : (posted more : List (List ℕ)) (name : List ℕ) → passed posted (Await name) ≡ Some more → IsListed posted name
passed-await posted more name e = elim (cases_Bool (list_any (bytes_eq name) posted)) [
  | inl there ↦ there
  | inr absent ↦ absurd (let none : None ≡ Some more = (rw absent at e) in cc)
]

-- a name that is posted then was posted before, or by the command
passed-by : (posted more : List (List ℕ)) (c : Command) (name : List ℕ) → passed posted c ≡ Some more → IsListed more name
    → IsListed posted name ⊎ (c ≡ Post name)
passed-by posted more (Write lba count tag) name e h = let same : more ≡ posted = cc in inl (subst (λ p. IsListed p name) same h)
passed-by posted more (Read lba count) name e h = let same : more ≡ posted = cc in inl (subst (λ p. IsListed p name) same h)
passed-by posted more Flush name e h = let same : more ≡ posted = cc in inl (subst (λ p. IsListed p name) same h)
passed-by posted more (Post post) name e h =
    let same : more ≡ post ∷ posted = cc in
    let either : IsListed (post ∷ posted) name = subst (λ p. IsListed p name) same h in
    elim (cases_Bool (bytes_eq name post)) [
      | inl here ↦ inr (ap Post (sym ((bytes_eq-Decides name post).0 here)))
      | inr other ↦ inl (rw other at either)
    ]
passed-by posted more (Await await) name e h = elim (cases_Bool (list_any (bytes_eq await) posted)) [
  | inl there ↦ let some : Some posted ≡ Some more = (rw there at e) in let same : more ≡ posted = cc in inl (subst (λ p. IsListed p name) same h)
  | inr absent ↦ absurd (let none : None ≡ Some more = (rw absent at e) in cc)
]

stands-await : (posted : List (List ℕ)) (c : Command) → passed posted c ≡ None → (name : List ℕ) × (c ≡ Await name) × (list_any (bytes_eq name) posted ≡ false)
stands-await posted (Write lba count tag) e = absurd (cc)
stands-await posted (Read lba count) e = absurd (cc)
stands-await posted Flush e = absurd (cc)
stands-await posted (Post name) e = absurd (cc)
stands-await posted (Await name) e = elim (cases_Bool (list_any (bytes_eq name) posted)) [
  | inl there ↦ absurd (let some : Some posted ≡ None = (rw there at e) in cc)
  | inr absent ↦ (name, refl, absent)
]

-- A thread loses its first command. Where a command of the others was: at the k-th thread one
-- later, else where it is.
shift : ℕ → ℕ → ℕ → ℕ
shift zero zero d = suc d
shift zero (suc j) d = d
shift (suc k) zero d = d
shift (suc k) (suc j) d = shift k j d

at-shift : (front : List (List Command)) (c : Command) (t : List Command) (back : List (List Command)) (j d : ℕ)
    → command_at (front ++ t ∷ back) j d ≡ command_at (front ++ (c ∷ t) ∷ back) j (shift (length front) j d)
unfolding shift
at-shift [] c t back zero d = refl
at-shift [] c t back (suc j) d = refl
at-shift (u ∷ front) c t back zero d = refl
at-shift (u ∷ front) c t back (suc j) d = at-shift front c t back j d

shift-next : (k j d : ℕ) → shift k j (d + 1) ≡ shift k j d + 1
unfolding shift
shift-next zero zero d = omega arith
shift-next zero (suc j) d = refl
shift-next (suc k) zero d = refl
shift-next (suc k) (suc j) d = shift-next k j d

-- the first command of the k-th thread, or one that was shifted
shifted : (k j d : ℕ) → ((j ≡ k) × (d ≡ 0)) ⊎ ((e : ℕ) × (d ≡ shift k j e))
unfolding shift
shifted zero zero zero = inl (refl, refl)
shifted zero zero (suc d) = inr (d, refl)
shifted zero (suc j) d = inr (d, refl)
shifted (suc k) zero d = inr (d, refl)
shifted (suc k) (suc j) d = elim (shifted k j d) [
  | inl w ↦ inl (ap suc w.0, w.1)
  | inr w ↦ inr (w.0, w.1)
]

at-first : (front : List (List Command)) (c : Command) (t : List Command) (back : List (List Command))
    → command_at (front ++ (c ∷ t) ∷ back) (length front) 0 ≡ Some c
at-first [] c t back = refl
at-first (u ∷ front) c t back = at-first front c t back

-- a place of the k-th thread, or of the others, by what is known of it
first-is : (front : List (List Command)) (c : Command) (t : List Command) (back : List (List Command)) (i d : ℕ) (x : Command) → i ≡ length front → d ≡ 0
    → command_at (front ++ (c ∷ t) ∷ back) i d ≡ Some x → c ≡ x
first-is front c t back i d x ei ed e =
    let both : Some c ≡ Some x = sym (at-first front c t back) ∙ ap (λ i. command_at (front ++ (c ∷ t) ∷ back) i 0) (sym ei)
    ∙ ap (command_at (front ++ (c ∷ t) ∷ back) i) (sym ed) ∙ e in
    cc

-- Threads that can go on, by a time for each command.
pub record AreLive (posted : List (List ℕ)) (threads : List (List Command)) : Type 0 where
  pub time : ℕ → ℕ → ℕ
  pub rises : (i c : ℕ) → time i c < time i (c + 1)
  pub order : (i c j d : ℕ) (name : List ℕ) → command_at threads i c ≡ Some (Post name) → command_at threads j d ≡ Some (Await name) → time i c < time j d
  pub heard : (j d : ℕ) (name : List ℕ) → command_at threads j d ≡ Some (Await name)
      → IsListed posted name ⊎ ((i : ℕ) × (c : ℕ) × (command_at threads i c ≡ Some (Post name)))

live-step : (posted more : List (List ℕ)) (front : List (List Command)) (c : Command) (t : List Command) (back : List (List Command))
    → passed posted c ≡ Some more → AreLive posted (front ++ (c ∷ t) ∷ back) → AreLive more (front ++ t ∷ back)
live-step posted more front c t back e h =
    let k = length front in record {
      time = λ i d. h.time i (shift k i d);
      rises = λ i d. subst (λ n. h.time i (shift k i d) < h.time i n) (sym (shift-next k i d)) (h.rises i (shift k i d));
      order = λ i d j f name p a. h.order i (shift k i d) j (shift k j f) name (sym (at-shift front c t back i d) ∙ p) (sym (at-shift front c t back j f) ∙ a);
      heard = λ j d name a. elim (h.heard j (shift k j d) name (sym (at-shift front c t back j d) ∙ a)) [
        | inl listed ↦ inl (passed-keeps posted more c name e listed)
        | inr w ↦ elim (shifted k w.0 w.1) [
          | inl first ↦ let is = first-is front c t back w.0 w.1 (Post name) first.0 first.1 w.2 in inl
              (passed-post posted more name (ap (passed posted) (sym is) ∙ e))
          | inr later ↦ inr (w.0, later.0, at-shift front c t back w.0 later.0 ∙ ap (command_at (front ++ (c ∷ t) ∷ back) w.0) (sym later.1) ∙ w.2)
        ]
      ];
    }

live-run : (posted : List (List ℕ)) (front : List (List Command)) (t : Numbered) (back : List (List Command))
    → AreLive posted (front ++ map (λ x. x.1) t ∷ back) → AreLive (run_on posted t).0 (front ++ map (λ x. x.1) (run_on posted t).1 ∷ back)
live-run posted front [] back h = subst (λ r. AreLive r.0 (front ++ map (λ x. x.1) r.1 ∷ back)) (sym (run_on-end posted)) h
live-run posted front ((n, c) ∷ t) back h = elim (cases_passed (passed posted c)) [
  | inl none ↦ subst (λ r. AreLive r.0 (front ++ map (λ x. x.1) r.1 ∷ back)) (sym (run_on-stands posted n c t none)) h
  | inr some ↦ subst (λ r. AreLive r.0 (front ++ map (λ x. x.1) r.1 ∷ back)) (sym (run_on-past posted some.0 n c t some.1))
      (live-run some.0 front t back (live-step posted some.0 front c (map (λ x. x.1) t) back some.1 h))
]

live-turn : (posted : List (List ℕ)) (front : List (List Command)) (ts : List Numbered) → AreLive posted (front ++ plain ts)
    → AreLive (turn posted ts).0 (front ++ plain (turn posted ts).1)
live-turn posted front [] h = subst (λ r. AreLive r.0 (front ++ plain r.1)) (sym (turn-end posted)) h
live-turn posted front (t ∷ ts) h =
    let r = run_on posted t in
    let first = live-run posted front t (plain ts) h in
    let regroup : front ++ map (λ x. x.1) r.1 ∷ plain ts ≡ (front ++ map (λ x. x.1) r.1 ∷ []) ++ plain ts =
    sym (append_assoc front (map (λ x. x.1) r.1 ∷ []) (plain ts)) in
    let later = turn r.0 ts in
    let rest = live-turn r.0 (front ++ map (λ x. x.1) r.1 ∷ []) ts (subst (AreLive r.0) regroup first) in
    subst (λ q. AreLive q.0 (front ++ plain q.1)) (sym (turn-next posted t ts))
    (subst (AreLive later.0) (append_assoc front (map (λ x. x.1) r.1 ∷ []) (plain later.1)) rest)

-- A turn moves a thread, or nothing.

same_or_less : (a b : ℕ) → a ≤ b → (a ≡ b) ⊎ (a < b)
same_or_less zero zero h = inl refl
same_or_less zero (suc b) h = inr (omega arith)
same_or_less (suc a) zero h = absurd (omega (arith, h))
same_or_less (suc a) (suc b) h = elim (same_or_less a b (omega (arith, h))) [
  | inl e ↦ inl (ap suc e)
  | inr l ↦ inr (omega (arith, l))
]

turn-moves : (posted : List (List ℕ)) (ts : List Numbered)
    → (sum_by length (turn posted ts).1 ≤ sum_by length ts)
    × ((map length (turn posted ts).1 ≡ map length ts) ⊎ (sum_by length (turn posted ts).1 < sum_by length ts))
turn-moves posted [] = rw (turn-end posted) (omega arith, inl refl)
turn-moves posted (t ∷ ts) =
    let r = run_on posted t in
    let later = turn r.0 ts in
    let short = run_on-length posted t in
    let rest = turn-moves r.0 ts in
    let sum = sum_by-cons length t ts in
    let sum' = sum_by-cons length r.1 later.1 in
    let fewer : sum_by length (r.1 ∷ later.1) ≤ sum_by length (t ∷ ts) = omega (arith, sum, sum', short, rest.0) in
    let moves : (map length (r.1 ∷ later.1) ≡ map length (t ∷ ts)) ⊎ (sum_by length (r.1 ∷ later.1) < sum_by length (t ∷ ts)) =
    elim (same_or_less (length r.1) (length t) short) [
      | inl same ↦ elim rest.1 [
        | inl others ↦ inl (ap (λ n. n ∷ map length later.1) same ∙ ap (λ ns. length t ∷ ns) others)
        | inr less ↦ inr (omega (arith, sum, sum', same, less))
      ]
      | inr less ↦ inr (omega (arith, sum, sum', less, rest.0))
    ] in
    subst (λ q. (sum_by length q.1 ≤ sum_by length (t ∷ ts)) × ((map length q.1 ≡ map length (t ∷ ts)) ⊎ (sum_by length q.1 < sum_by length (t ∷ ts))))
    (sym (turn-next posted t ts)) (fewer, moves)

-- Live threads that have taken their turns, and move no more.
record AreSettled (threads : List Numbered) : Type 0 where
  posted : List (List ℕ)
  live : AreLive posted (plain threads)
  stays : turn posted threads ≡ (posted, threads)

settle : (n : ℕ) (posted : List (List ℕ)) (ts : List Numbered) → sum_by length ts ≤ n → AreLive posted (plain ts) → AreSettled (turns n posted ts)
unfolding turns
settle zero posted ts h live = elim (turn-moves posted ts).1 [
  | inl same ↦ record { posted = posted; live = live; stays = turn-stays posted ts same }
  | inr less ↦ absurd (omega (arith, h, less))
]
settle (suc n) posted ts h live = elim (turn-moves posted ts).1 [
  | inl same ↦
      let stays = turn-stays posted ts same in
      let end : turns (suc n) posted ts ≡ ts = turns-stay (suc n) posted ts stays in
      subst AreSettled (sym end) (record { posted = posted; live = live; stays = stays })
  | inr less ↦ settle n (turn posted ts).0 (turn posted ts).1 (omega (arith, h, less)) (live-turn posted [] ts live)
]

stands : (posted : List (List ℕ)) (t : Numbered) → (run_on posted t).1 ≡ t → (ts : List (List Command)) (c : Command)
    → command_at (map (λ x. x.1) t ∷ ts) 0 0 ≡ Some c → passed posted c ≡ None
stands posted [] e ts c at = absurd (cc)
stands posted ((n, d) ∷ t) e ts c at =
    let same : d ≡ c = cc in
    elim (cases_passed (passed posted d)) [
      | inl none ↦ ap (passed posted) (sym same) ∙ none
      | inr some ↦ absurd (let moved : length (run_on some.0 t).1 ≡ suc (length t) = sym (ap (λ r. length r.1) (run_on-past posted some.0 n d t some.1))
          ∙ ap length e in omega (arith, run_on-length some.0 t, moved))
    ]

-- where a turn moves nothing, neither does the first thread, nor the others
turn-parts : (posted : List (List ℕ)) (t : Numbered) (ts : List Numbered) → turn posted (t ∷ ts) ≡ (posted, t ∷ ts)
    → ((run_on posted t).1 ≡ t) × (turn posted ts ≡ (posted, ts))
turn-parts posted t ts e =
    let both = sym (turn-next posted t ts) ∙ e in
    let whole = ap (λ r. r.1) both in
    let first : (run_on posted t).1 ≡ t = cc in
    let later : (turn (run_on posted t).0 ts).1 ≡ ts = cc in
    let stays = run_on-stays posted t (ap length first) in
    (first, ap (λ r. turn r.0 ts) (sym stays) ∙ ap (λ p. (p, (turn (run_on posted t).0 ts).1)) (ap (λ r. r.0) both) ∙ ap (λ us. (posted, us)) later)

-- where nothing moves each thread stands at a command that it can't pass
heads : (posted : List (List ℕ)) (ts : List Numbered) → turn posted ts ≡ (posted, ts) → (j : ℕ) (c : Command) → command_at (plain ts) j 0 ≡ Some c
    → passed posted c ≡ None
heads posted [] e j c at = absurd (cc)
heads posted (t ∷ ts) e zero c at = stands posted t (turn-parts posted t ts e).0 (plain ts) c at
heads posted (t ∷ ts) e (suc j) c at = heads posted ts (turn-parts posted t ts e).1 j c at

rises-le : (time : ℕ → ℕ → ℕ) → ((i c : ℕ) → time i c < time i (c + 1)) → (i c : ℕ) → time i 0 ≤ time i c
rises-le time rises i zero = omega arith
rises-le time rises i (suc c) = let next = subst (λ n. time i c < time i n) (add-one c) (rises i c) in omega (arith, rises-le time rises i c, next)

first_of : (threads : List (List Command)) (i c : ℕ) (x : Command) → command_at threads i c ≡ Some x → (y : Command) × (command_at threads i 0 ≡ Some y)
first_of [] i c x e = absurd (cc)
first_of ([] ∷ threads) zero c x e = absurd (cc)
first_of ((y ∷ t) ∷ threads) zero c x e = (y, refl)
first_of (t ∷ threads) (suc i) c x e = first_of threads i c x e

none_stands : (posted : List (List ℕ)) (threads : List (List Command)) → (live : AreLive posted threads)
    → ((j : ℕ) (c : Command) → command_at threads j 0 ≡ Some c → passed posted c ≡ None)
    → (k j : ℕ) (c : Command) → command_at threads j 0 ≡ Some c → live.time j 0 < k → ⊥
none_stands posted threads live stand zero j c at h = omega (arith, h)
none_stands posted threads live stand (suc k) j c at h =
    let await = stands-await posted c (stand j c at) in
    let at' : command_at threads j 0 ≡ Some (Await await.0) = at ∙ ap Some await.1 in
    elim (live.heard j 0 await.0 at') [
      | inl listed ↦ true≢false (sym listed ∙ await.2)
      | inr w ↦
          let earlier = live.order w.0 w.1 j 0 await.0 w.2 at' in
          let first = first_of threads w.0 w.1 (Post await.0) w.2 in
          none_stands posted threads live stand k w.0 first.0 first.1 (omega (arith, earlier, rises-le live.time live.rises w.0 w.1, h))
    ]

all_done : (ts : List Numbered) → ((j : ℕ) (c : Command) → command_at (plain ts) j 0 ≡ Some c → ⊥) → least_standing ts ≡ None
unfolding least_standing
all_done [] h = refl
all_done ([] ∷ ts) h = all_done ts (λ j. h (suc j))
all_done ((x ∷ t) ∷ ts) h = absurd (h 0 x.1 refl)

-- where there is a time for each command, and each name that is awaited is posted, no thread is
-- stuck
pub flows_on : (heard : Heard) → NeverStuck (script_of heard)
    → ((j d : ℕ) (name : List ℕ) → command_at (script_of heard) j d ≡ Some (Await name)
    → (i : ℕ) × (c : ℕ) × (command_at (script_of heard) i c ≡ Some (Post name)))
    → stuck_at (threads_of heard) ≡ None
flows_on heard never posted =
    let ts = threads_of heard in
    let end = settle (sum_by length ts) [] ts (omega arith)
    (record { time = never.0; rises = never.1; order = never.2; heard = λ j d name a. inr (posted j d name a) }) in
    let left = turns (sum_by length ts) [] ts in
    all_done left (λ j c at. none_stands end.posted (plain left) end.live (heads end.posted left end.stays) (end.live.time j 0 + 1) j c at (omega arith))

-- Times for threads that come to their ends.

pub record AreTimed (threads : List (List Command)) : Type 0 where
  pub time : ℕ → ℕ → ℕ
  pub rises : (i c : ℕ) → time i c < time i (c + 1)
  pub order : (i c j d : ℕ) (name : List ℕ) → command_at threads i c ≡ Some (Post name) → command_at threads j d ≡ Some (Await name) → time i c < time j d

-- no name is posted that was posted before, or twice
pub record AreFresh (posted : List (List ℕ)) (threads : List (List Command)) : Type 0 where
  pub new : (i c : ℕ) (name : List ℕ) → IsListed posted name → command_at threads i c ≡ Some (Post name) → ⊥
  pub once : (i c j d : ℕ) (name : List ℕ) → command_at threads i c ≡ Some (Post name) → command_at threads j d ≡ Some (Post name) → (i ≡ j) × (c ≡ d)

shift-some : (k d : ℕ) → 0 < shift k k d
unfolding shift
shift-some zero d = omega arith
shift-some (suc k) d = shift-some k d

shift-apart : (k i d e : ℕ) → i ≡ k → 0 ≡ shift k i d → ⊥
shift-apart k i d e is zero_is = let some = subst (λ j. 0 < shift k j d) (sym is) (shift-some k d) in omega (arith, some, zero_is)

shift-injective : (k i d e : ℕ) → shift k i d ≡ shift k i e → d ≡ e
unfolding shift
shift-injective zero zero d e h = omega (arith, h)
shift-injective zero (suc i) d e h = h
shift-injective (suc k) zero d e h = h
shift-injective (suc k) (suc i) d e h = shift-injective k i d e h

fresh-step : (posted more : List (List ℕ)) (front : List (List Command)) (c : Command) (t : List Command) (back : List (List Command))
    → passed posted c ≡ Some more → AreFresh posted (front ++ (c ∷ t) ∷ back) → AreFresh more (front ++ t ∷ back)
fresh-step posted more front c t back e h =
    let k = length front in record {
      new = λ i d name listed p.
          let was = sym (at-shift front c t back i d) ∙ p in
          elim (passed-by posted more c name e listed) [
            | inl before ↦ h.new i (shift k i d) name before was
            | inr is ↦ let same = h.once k 0 i (shift k i d) name (at-first front c t back ∙ ap Some is) was in shift-apart k i d d (sym same.0) same.1
          ];
      once = λ i d j f name p q.
          let both = h.once i (shift k i d) j (shift k j f) name (sym (at-shift front c t back i d) ∙ p) (sym (at-shift front c t back j f) ∙ q) in
          (both.0, shift-injective k i d f (both.1 ∙ ap (λ j. shift k j f) (sym both.0)));
    }

-- times for all commands, by those of the commands after the first of the k-th thread
lift : ℕ → (ℕ → ℕ → ℕ) → ℕ → ℕ → ℕ
lift zero f zero zero = 0
lift zero f zero (suc d) = suc (f 0 d)
lift zero f (suc j) d = suc (f (suc j) d)
lift (suc k) f zero d = suc (f 0 d)
lift (suc k) f (suc j) d = lift k (λ j. f (suc j)) j d

lift-first : (k : ℕ) (f : ℕ → ℕ → ℕ) → lift k f k 0 ≡ 0
unfolding lift
lift-first zero f = refl
lift-first (suc k) f = lift-first k (λ j. f (suc j))

lift-shift : (k : ℕ) (f : ℕ → ℕ → ℕ) (j d : ℕ) → lift k f j (shift k j d) ≡ suc (f j d)
unfolding lift shift
lift-shift zero f zero d = refl
lift-shift zero f (suc j) d = refl
lift-shift (suc k) f zero d = refl
lift-shift (suc k) f (suc j) d = lift-shift k (λ j. f (suc j)) j d

lift-rises : (k : ℕ) (f : ℕ → ℕ → ℕ) → ((i c : ℕ) → f i c < f i (c + 1)) → (i c : ℕ) → lift k f i c < lift k f i (c + 1)
unfolding lift
lift-rises zero f h zero zero = omega arith
lift-rises zero f h zero (suc c) = next_rises (suc_one c)
  where
    suc_one : (c : ℕ) → suc c + 1 ≡ suc (c + 1)
    suc_one c = omega arith

    next_rises : suc c + 1 ≡ suc (c + 1) → lift zero f zero (suc c) < lift zero f zero (suc c + 1)
    next_rises e = rw e (omega (arith, h 0 c))
lift-rises zero f h (suc i) c = omega (arith, h (suc i) c)
lift-rises (suc k) f h zero c = omega (arith, h 0 c)
lift-rises (suc k) f h (suc i) c = lift-rises k (λ j. f (suc j)) (λ j. h (suc j)) i c

timed-step : (posted more : List (List ℕ)) (front : List (List Command)) (c : Command) (t : List Command) (back : List (List Command))
    → passed posted c ≡ Some more → AreFresh posted (front ++ (c ∷ t) ∷ back) → AreTimed (front ++ t ∷ back) → AreTimed (front ++ (c ∷ t) ∷ back)
timed-step posted more front c t back e fresh h =
    let k = length front in record {
      time = lift k h.time;
      rises = lift-rises k h.time h.rises;
      order = λ i d j f name p a. elim (shifted k j f) [
        | inl first ↦
            let await = first-is front c t back j f (Await name) first.0 first.1 a in
            absurd (fresh.new i d name (passed-await posted more name (ap (passed posted) (sym await) ∙ e)) p)
        | inr later ↦
            let after : lift k h.time j f ≡ suc (h.time j later.0) = ap (lift k h.time j) later.1 ∙ lift-shift k h.time j later.0 in
            elim (shifted k i d) [
              | inl first ↦
                  let start : lift k h.time i d ≡ 0 = ap (λ i. lift k h.time i d) first.0 ∙ ap (lift k h.time k) first.1 ∙ lift-first k h.time in
                  omega (arith, start, after)
              | inr before ↦
                  let start : lift k h.time i d ≡ suc (h.time i before.0) = ap (lift k h.time i) before.1 ∙ lift-shift k h.time i before.0 in
                  let less = h.order i before.0 j later.0 name
                  (at-shift front c t back i before.0 ∙ ap (command_at (front ++ (c ∷ t) ∷ back) i) (sym before.1) ∙ p)
                  (at-shift front c t back j later.0 ∙ ap (command_at (front ++ (c ∷ t) ∷ back) j) (sym later.1) ∙ a) in
                  omega (arith, start, after, less)
            ]
      ];
    }

-- Threads were run on, and times for what is left give times for all.
record AreBehind (threads : List (List Command)) (posted : List (List ℕ)) (left : List (List Command)) : Type 0 where
  fresh : AreFresh posted left
  times : AreTimed left → AreTimed threads

behind-run : (posted : List (List ℕ)) (front : List (List Command)) (t : Numbered) (back : List (List Command))
    → AreFresh posted (front ++ map (λ x. x.1) t ∷ back)
    → AreBehind (front ++ map (λ x. x.1) t ∷ back) (run_on posted t).0 (front ++ map (λ x. x.1) (run_on posted t).1 ∷ back)
behind-run posted front [] back h =
    subst (λ r. AreBehind (front ++ [] ∷ back) r.0 (front ++ map (λ x. x.1) r.1 ∷ back)) (sym (run_on-end posted))
    (record { fresh = h; times = λ times. times })
behind-run posted front ((n, c) ∷ t) back h =
    let all = front ++ (c ∷ map (λ x. x.1) t) ∷ back in
    elim (cases_passed (passed posted c)) [
      | inl none ↦ subst (λ r. AreBehind all r.0 (front ++ map (λ x. x.1) r.1 ∷ back)) (sym (run_on-stands posted n c t none))
          (record { fresh = h; times = λ times. times })
      | inr some ↦
          let rest = behind-run some.0 front t back (fresh-step posted some.0 front c (map (λ x. x.1) t) back some.1 h) in
          subst (λ r. AreBehind all r.0 (front ++ map (λ x. x.1) r.1 ∷ back)) (sym (run_on-past posted some.0 n c t some.1))
          (record { fresh = rest.fresh; times = λ times. timed-step posted some.0 front c (map (λ x. x.1) t) back some.1 h (rest.times times) })
    ]

behind-turn : (posted : List (List ℕ)) (front : List (List Command)) (ts : List Numbered) → AreFresh posted (front ++ plain ts)
    → AreBehind (front ++ plain ts) (turn posted ts).0 (front ++ plain (turn posted ts).1)
behind-turn posted front [] h =
    subst (λ r. AreBehind (front ++ []) r.0 (front ++ plain r.1)) (sym (turn-end posted)) (record { fresh = h; times = λ times. times })
behind-turn posted front (t ∷ ts) h =
    let r = run_on posted t in
    let first = behind-run posted front t (plain ts) h in
    let regroup : front ++ map (λ x. x.1) r.1 ∷ plain ts ≡ (front ++ map (λ x. x.1) r.1 ∷ []) ++ plain ts =
    sym (append_assoc front (map (λ x. x.1) r.1 ∷ []) (plain ts)) in
    let later = turn r.0 ts in
    let rest = behind-turn r.0 (front ++ map (λ x. x.1) r.1 ∷ []) ts (subst (AreFresh r.0) regroup first.fresh) in
    let ungroup = append_assoc front (map (λ x. x.1) r.1 ∷ []) (plain later.1) in
    subst (λ q. AreBehind (front ++ map (λ x. x.1) t ∷ plain ts) q.0 (front ++ plain q.1)) (sym (turn-next posted t ts)) (record {
      fresh = subst (AreFresh later.0) ungroup rest.fresh;
      times = λ times. first.times (subst AreTimed (sym regroup) (rest.times (subst AreTimed (sym ungroup) times)));
    })

behind-turns : (n : ℕ) (posted : List (List ℕ)) (ts : List Numbered) → AreFresh posted (plain ts) → AreTimed (plain (turns n posted ts)) → AreTimed (plain ts)
unfolding turns
behind-turns zero posted ts h times = times
behind-turns (suc n) posted ts h times =
    let first = behind-turn posted [] ts h in
    first.times (behind-turns n (turn posted ts).0 (turn posted ts).1 first.fresh times)

none_left : (ts : List Numbered) → least_standing ts ≡ None → (i c : ℕ) (x : Command) → command_at (plain ts) i c ≡ Some x → ⊥
unfolding least_standing
none_left [] e i c x at = absurd (cc)
none_left ([] ∷ ts) e zero c x at = absurd (cc)
none_left ([] ∷ ts) e (suc i) c x at = none_left ts e i c x at
none_left ((y ∷ t) ∷ ts) e i c x at = absurd (cc)

-- where no thread is stuck there is a time for each command
pub times_of : (heard : Heard)
    → ((i c j d : ℕ) (name : List ℕ) → command_at (script_of heard) i c ≡ Some (Post name) → command_at (script_of heard) j d ≡ Some (Post name)
    → (i ≡ j) × (c ≡ d))
    → stuck_at (threads_of heard) ≡ None → NeverStuck (script_of heard)
times_of heard once flows =
    let ts = threads_of heard in
    let left = turns (sum_by length ts) [] ts in
    let times = behind-turns (sum_by length ts) [] ts (record { new = λ i c name listed p. false≢true listed; once = once }) (record {
      time = λ i c. c;
      rises = λ i c. omega arith;
      order = λ i c j d name p a. absurd (none_left left flows i c (Post name) p);
    }) in
    (times.time, times.rises, times.order)
