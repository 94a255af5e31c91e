-- The entries that have landed at the front, as entries come, go and land.
use Rattle.std.proofs.Common.{◌≡◌, ℕ, zero, suc, ◌+◌, ◌<◌, ◌≤◌, Bool, true, false, cond, List, [], ◌∷◌, ◌++◌, length, drop, get_or, set, refl, sym, ap, ◌∙◌, arith, length-append, ◌^◌, ◌-◌}
use Rattle.std.proofs.lemmas.List.{drop_more}
use Rattle.std.proofs.lemmas.List.Sums.{take_while-cons}
use Rattle.sector_pool.specs.declared.entry.Class.{Class}
use Rattle.sector_pool.specs.declared.entry.Class.TheVariants as class
use Rattle.write_window.specs.declared.held.Progress.{Progress}
use Rattle.write_window.specs.declared.held.Held.{Held}
use Rattle.write_window.specs.Entries.{has_landed, user_count, users_in, landed_first, AreFrom, with_progress}
use Rattle.write_window.specs.Inside.{Keeps}
use Rattle.write_window.proofs.EntriesLemmas.{turned_length}

-- the first has landed
pub first_landed : (h : Held) (hs : List Held) → has_landed h.progress ≡ true → landed_first (h ∷ hs) ≡ h ∷ landed_first hs
first_landed h hs e = take_while-cons (λ (x : Held). has_landed x.progress) h hs ∙ ap (λ b. cond b (h ∷ landed_first hs) []) e

-- the first hasn't
pub first_waits : (h : Held) (hs : List Held) → has_landed h.progress ≡ false → landed_first (h ∷ hs) ≡ []
first_waits h hs e = take_while-cons (λ (x : Held). has_landed x.progress) h hs ∙ ap (λ b. cond b (h ∷ landed_first hs) []) e

-- one entry more has landed behind the others
pub run_goes_on : (xs : List Held) (k : ℕ) (h : Held) → k < length xs → h ≡ get_or xs k h → has_landed h.progress ≡ true
    → landed_first (drop k xs) ≡ h ∷ landed_first (drop (k + 1) xs)
run_goes_on xs k h inside is e =
    ap landed_first (drop_more xs k h inside) ∙ ap (λ x. landed_first (x ∷ drop (k + 1) xs)) (sym is) ∙ first_landed h (drop (k + 1) xs) e

pub run_ends : (xs : List Held) (k : ℕ) (h : Held) → k < length xs → h ≡ get_or xs k h → has_landed h.progress ≡ false → landed_first (drop k xs) ≡ []
run_ends xs k h inside is e =
    ap landed_first (drop_more xs k h inside) ∙ ap (λ x. landed_first (x ∷ drop (k + 1) xs)) (sym is) ∙ first_waits h (drop (k + 1) xs) e

-- a write to an element's progress
pub with_is_set : (xs : List Held) (k : ℕ) (h : Held) (to : Progress) → k < length xs → h ≡ get_or xs k h
    → set xs k (record h { progress = to }) ≡ with_progress xs k to
with_is_set [] k h to inside is = absurd (omega arith)
with_is_set (x ∷ xs) zero h to inside is = ap (λ (y : Held). record y { progress = to } ∷ xs) is
with_is_set (x ∷ xs) (suc k) h to inside is = ap (λ ys. x ∷ ys) (with_is_set xs k h to (omega arith) is)

pub numbered_with : (p : ℕ) (xs : List Held) (k : ℕ) (to : Progress) → AreFrom p xs → AreFrom p (with_progress xs k to)
numbered_with p [] k to are = are
numbered_with p (x ∷ xs) zero to are = are
numbered_with p (x ∷ xs) (suc k) to are = (are.0, numbered_with (p + 1) xs k to are.1)

pub numbered_more : (p : ℕ) (xs : List Held) (h : Held) → AreFrom p xs → h.entry.position ≡ p + length xs → AreFrom p (xs ++ h ∷ [])
numbered_more p [] h are is = (is ∙ omega arith, tt)
numbered_more p (x ∷ xs) h are is = (are.0, numbered_more (p + 1) xs h are.1 (is ∙ omega arith))

pub users_append : (xs ys : List Held) → users_in (xs ++ ys) ≡ users_in xs + users_in ys
users_append [] ys = omega arith
users_append (x ∷ xs) ys = omega (arith, users_append xs ys)

pub one_at_most : (k : Class) → user_count k ≤ 1
one_at_most class.User = omega arith
one_at_most class.Copy = omega arith

pub users_few : (xs : List Held) → users_in xs ≤ length xs
users_few [] = omega arith
users_few (x ∷ xs) = omega (arith, users_few xs, one_at_most x.entry.class)

-- an entry that waits behind the others
more_by : (b : Bool) (x : Held) (xs : List Held) (h : Held) → has_landed x.progress ≡ b → landed_first (xs ++ h ∷ []) ≡ landed_first xs
    → landed_first (x ∷ (xs ++ h ∷ [])) ≡ landed_first (x ∷ xs)
more_by true x xs h e same = first_landed x (xs ++ h ∷ []) e ∙ ap (λ ys. x ∷ ys) same ∙ sym (first_landed x xs e)
more_by false x xs h e same = first_waits x (xs ++ h ∷ []) e ∙ sym (first_waits x xs e)

pub run_of_more : (xs : List Held) (h : Held) → has_landed h.progress ≡ false → landed_first (xs ++ h ∷ []) ≡ landed_first xs
run_of_more [] h e = first_waits h [] e
run_of_more (x ∷ xs) h e = more_by (has_landed x.progress) x xs h refl (run_of_more xs h e)

pub one_longer : (xs : List Held) (h : Held) → length (xs ++ h ∷ []) ≡ length xs + 1
one_longer [] h = refl
one_longer (x ∷ xs) h = omega (arith, one_longer xs h)

pub pushed : (f u c r : ℕ) (xs : List Held) (h : Held) → Keeps f u c r xs → has_landed h.progress ≡ false → h.entry.position ≡ f + length xs
    → h.entry.position < 2 ^ 63 → Keeps f u c r (xs ++ h ∷ [])
pushed f u c r xs h is waits next below = record {
  numbered = numbered_more f xs h is.numbered next;
  landed = is.landed ∙ ap length (sym (run_of_more xs h waits));
  landed_users = is.landed_users ∙ ap users_in (sym (run_of_more xs h waits));
  fits = is.fits;
  short = omega (arith, one_longer xs h);
}

-- the first, which has landed, goes
pub popped : (f u c r n : ℕ) (h : Held) (hs : List Held) → Keeps f u c r (h ∷ hs) → has_landed h.progress ≡ true → n ≡ user_count h.entry.class
    → Keeps (f + 1) (u + n) (c - 1) (r - n) hs
popped f u c r n h hs is e count =
    let run : landed_first (h ∷ hs) ≡ h ∷ landed_first hs = first_landed h hs e in
    record {
      numbered = is.numbered.1;
      landed = omega (arith, is.landed, ap length run);
      landed_users = omega (arith, is.landed_users, ap users_in run);
      fits = omega (arith, is.fits, one_at_most h.entry.class);
      short = omega (arith, is.short);
    }

-- a landed entry's write that leaves it landed
turn_by : (b : Bool) (x : Held) (xs ys : List Held) → has_landed x.progress ≡ b
    → length (landed_first ys) ≡ length (landed_first xs) → users_in (landed_first ys) ≡ users_in (landed_first xs)
    → (length (landed_first (x ∷ ys)) ≡ length (landed_first (x ∷ xs))) × (users_in (landed_first (x ∷ ys)) ≡ users_in (landed_first (x ∷ xs)))
turn_by true x xs ys e count users = (
  ap length (first_landed x ys e) ∙ ap suc count ∙ sym (ap length (first_landed x xs e)),
  ap users_in (first_landed x ys e) ∙ ap (λ n. user_count x.entry.class + n) users ∙ sym (ap users_in (first_landed x xs e)),
)
turn_by false x xs ys e count users =
    (ap length (first_waits x ys e ∙ sym (first_waits x xs e)), ap users_in (first_waits x ys e ∙ sym (first_waits x xs e)))

pub same_run : (xs : List Held) (k : ℕ) (h : Held) (to : Progress) → k < length xs → h ≡ get_or xs k h → has_landed h.progress ≡ true → has_landed to ≡ true
    → (length (landed_first (with_progress xs k to)) ≡ length (landed_first xs))
    × (users_in (landed_first (with_progress xs k to)) ≡ users_in (landed_first xs))
same_run [] k h to inside is e to_lands = absurd (omega arith)
same_run (x ∷ xs) zero h to inside is e to_lands =
    let lands : has_landed x.progress ≡ true = ap (λ (y : Held). has_landed y.progress) (sym is) ∙ e in
    let one : landed_first (x ∷ xs) ≡ x ∷ landed_first xs = first_landed x xs lands in
    let other : landed_first (record x { progress = to } ∷ xs) ≡ record x { progress = to } ∷ landed_first xs =
    first_landed (record x { progress = to }) xs to_lands in
    (ap length other ∙ sym (ap length one), ap users_in other ∙ sym (ap users_in one))
same_run (x ∷ xs) (suc k) h to inside is e to_lands =
    let below = same_run xs k h to (omega arith) is e to_lands in
    turn_by (has_landed x.progress) x xs (with_progress xs k to) refl below.0 below.1

pub turned_keeps : (f u c r : ℕ) (xs : List Held) (k : ℕ) (h : Held) (to : Progress) → Keeps f u c r xs → k < length xs → h ≡ get_or xs k h
    → has_landed h.progress ≡ true → has_landed to ≡ true → Keeps f u c r (with_progress xs k to)
turned_keeps f u c r xs k h to is inside here e to_lands =
    let same = same_run xs k h to inside here e to_lands in
    record {
      numbered = numbered_with f xs k to is.numbered;
      landed = is.landed ∙ sym same.0;
      landed_users = is.landed_users ∙ sym same.1;
      fits = is.fits;
      short = omega (arith, is.short, turned_length xs k to);
    }

-- where an entry lands that hadn't, the run is as it was, with what has landed behind it
land_by : (b : Bool) (x : Held) (xs ys : List Held) → has_landed x.progress ≡ b
    → landed_first ys ≡ landed_first xs ++ landed_first (drop (length (landed_first xs)) ys)
    → landed_first (x ∷ ys) ≡ landed_first (x ∷ xs) ++ landed_first (drop (length (landed_first (x ∷ xs))) (x ∷ ys))
land_by true x xs ys e rest =
    first_landed x ys e ∙ ap (λ zs. x ∷ zs) rest
    ∙ sym (ap (λ (zs : List Held). zs ++ landed_first (drop (length zs) (x ∷ ys))) (first_landed x xs e))
land_by false x xs ys e rest = sym (ap (λ (zs : List Held). zs ++ landed_first (drop (length zs) (x ∷ ys))) (first_waits x xs e))

pub run_grows : (xs : List Held) (k : ℕ) (h : Held) (to : Progress) → k < length xs → h ≡ get_or xs k h → has_landed h.progress ≡ false
    → landed_first (with_progress xs k to) ≡ landed_first xs ++ landed_first (drop (length (landed_first xs)) (with_progress xs k to))
run_grows [] k h to inside is e = absurd (omega arith)
run_grows (x ∷ xs) zero h to inside is e =
    let waits : has_landed x.progress ≡ false = ap (λ (y : Held). has_landed y.progress) (sym is) ∙ e in
    sym (ap (λ (zs : List Held). zs ++ landed_first (drop (length zs) (record x { progress = to } ∷ xs))) (first_waits x xs waits))
run_grows (x ∷ xs) (suc k) h to inside is e =
    land_by (has_landed x.progress) x xs (with_progress xs k to) refl (run_grows xs k h to (omega arith) is e)

pub landed_keeps : (f u c r : ℕ) (xs : List Held) (k : ℕ) (h : Held) (to : Progress) (c' r' : ℕ) → Keeps f u c r xs → k < length xs → h ≡ get_or xs k h
    → has_landed h.progress ≡ false
    → c' ≡ c + length (landed_first (drop c (with_progress xs k to))) → r' ≡ r + users_in (landed_first (drop c (with_progress xs k to)))
    → Keeps f u c' r' (with_progress xs k to)
landed_keeps f u c r xs k h to c' r' is inside here e count users =
    let ys : List Held = with_progress xs k to in
    let grows : landed_first ys ≡ landed_first xs ++ landed_first (drop c ys) = run_grows xs k h to inside here e
    ∙ ap (λ n. landed_first xs ++ landed_first (drop n ys)) (sym is.landed) in
    record {
      numbered = numbered_with f xs k to is.numbered;
      landed = count ∙ ap (λ n. n + length (landed_first (drop c ys))) is.landed
          ∙ sym (ap length grows ∙ length-append (landed_first xs) (landed_first (drop c ys)));
      landed_users = users ∙ ap (λ n. n + users_in (landed_first (drop c ys))) is.landed_users
          ∙ sym (ap users_in grows ∙ users_append (landed_first xs) (landed_first (drop c ys)));
      fits = is.fits;
      short = omega (arith, is.short, turned_length xs k to);
    }

-- the run is inside, and has as many users' writes at most
pub run_inside : (xs : List Held) → length (landed_first xs) ≤ length xs
run_inside [] = omega arith
run_inside (x ∷ xs) = inside_by (has_landed x.progress) x xs refl (run_inside xs)
  where
    inside_by : (b : Bool) (y : Held) (ys : List Held) → has_landed y.progress ≡ b → length (landed_first ys) ≤ length ys
        → length (landed_first (y ∷ ys)) ≤ suc (length ys)
    inside_by true y ys e rest = omega (arith, ap length (first_landed y ys e))
    inside_by false y ys e rest = omega (arith, ap length (first_waits y ys e))
