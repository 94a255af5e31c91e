-- Each line that is open has one opening, the one of its life.
use Rattle.std.proofs.Common.{◌≡◌, ℕ, ◌+◌, ◌<◌, zero, suc, nat_eq, Bool, true, false, cond, Some, None, Option, List, [], ◌∷◌, ◌++◌, length, refl, sym, subst, ap, ap₂, ◌∙◌, arith, append_assoc, length-append}
use Rattle.std.specs.Prelude.{slice_get, if◌then◌else◌, ⊤}
use Rattle.std.specs.List.{AllByRecursion, filter, filter_map, cons_option, fold, enumerate_from}
use Rattle.std.specs.Option.{option_and_then}
use Rattle.std.proofs.lemmas.Bool.{eqb-true}
use Rattle.std.proofs.lemmas.Option.{same_Some, none-some}
use Rattle.pblk_world.specs.Events.{Open, Free, Event, Decides, Logged}
use Rattle.pblk_world.specs.EngineLog.{LineLife, AsFound, Opened, Freed, is_life, life_of, turned, turned_by, last_opening, Opening, opened_by, openings}
use Rattle.core_laws.specs.OpenedLines.{standing}
use Rattle.core_laws.proofs.PlacedLines.{IsStanding, all_standing}
use Rattle.core_laws.proofs.Engine.{opened_number}
use Rattle.core_laws.proofs.OpeningNumbers.{get_middle, made_at}
use Rattle.pblk_model.proofs.Lists.{zipped}
use Rattle.pblk_model.proofs.Maps.{all_filter}
use Rattle.pblk_model.proofs.Parts.{all_at}

-- the opening that is the event of this number
abbrev pub opening_at : List Logged → ℕ → Option Opening
opening_at log n = option_and_then (λ (l : Logged). opened_by n l.knows l.event) (slice_get log n)

pub openings_there : (log : List Logged) → AllByRecursion (λ (o : Opening). opening_at log o.number ≡ Some o) (openings log)
openings_there log = made_at (λ (e : ℕ × Logged). opened_by e.0 e.1.knows e.1.event) (λ (o : Opening). opening_at log o.number ≡ Some o) [] log log 0 refl refl
    (λ e o there h.
    ap (opening_at log) (opened_number e.0 e.1.knows e.1.event o h)
    ∙ ap (λ (x : Option Logged). option_and_then (λ (l : Logged). opened_by e.0 l.knows l.event) x) there ∙ h)

-- a life by an opening is of the event of its number
abbrev IsThere : List Logged → LineLife → Type 0
IsThere log AsFound = Unit {0}
IsThere log (Opened o) = opening_at log o.number ≡ Some o
IsThere log (Freed past knows) = Unit {0}

turned_there : (log : List Logged) (line k : ℕ) (life : LineLife) (knows : List ℕ) (e : Event) → opening_at log k ≡ opened_by k knows e → IsThere log life
    → IsThere log (turned_by line life k knows e)
turned_there log line k life knows (Decides (Open other start)) there is = go (nat_eq other line) refl
  where
    go : (b : Bool) → nat_eq other line ≡ b → IsThere log (if b then Opened (record { number = k; line = line; start = start; knows = knows }) else life)
    go true e = there ∙ ap (λ n. Some (record { number = k; line = n; start = start; knows = knows })) (eqb-true other line e)
    go false e = is
turned_there log line k life knows (Decides (Free other)) there is =
    elim (nat_eq other line) as (λ b. IsThere log (if b then Freed (last_opening life) knows else life)) [
      | true ↦ tt
      | false ↦ is
    ]
turned_there log line k life knows e there is = is

lives_there : (all before log : List Logged) (line n : ℕ) (life : LineLife) → n ≡ length before → all ≡ before ++ log → IsThere all life
    → IsThere all (fold (turned line) life (enumerate_from n log))
lives_there all before [] line n life count is opened = opened
lives_there all before (l ∷ log) line n life count is opened =
    let here : slice_get all n ≡ Some l = ap₂ (λ (ys : List Logged) k. slice_get ys k) is count ∙ get_middle before l log in
    lives_there all (before ++ l ∷ []) log line (n + 1) (turned_by line life n l.knows l.event) (omega (arith, count, length-append before (l ∷ [])))
    (is ∙ sym (append_assoc before (l ∷ []) log))
    (turned_there all line n life l.knows l.event (ap (λ (x : Option Logged). option_and_then (λ (m : Logged). opened_by n m.knows m.event) x) here) opened)

pub life_there : (log : List Logged) (line : ℕ) (o : Opening) → life_of log line ≡ Opened o → opening_at log o.number ≡ Some o
life_there log line o e = subst (IsThere log) e (lives_there log [] log line 0 AsFound refl refl tt)

pub alive_opened : (log : List Logged) (o : Opening) → opening_at log o.number ≡ Some o → is_life o.number (life_of log o.line) ≡ true
    → life_of log o.line ≡ Opened o
alive_opened log o there alive = go (life_of log o.line) refl alive
  where
    go : (life : LineLife) → life_of log o.line ≡ life → is_life o.number life ≡ true → life ≡ Opened o
    go AsFound e a = absurd cc
    go (Opened other) e a =
        let number : other.number ≡ o.number = eqb-true other.number o.number a in
        ap (λ (x : Opening). Opened x) (same_Some other o (sym (life_there log o.line other e) ∙ ap (opening_at log) number ∙ there))
    go (Freed past knows) e a = absurd cc

-- an opening that stands is that of its line's life
pub standing_opened : (log : List Logged) → AllByRecursion (λ (o : Opening). life_of log o.line ≡ Opened o) (standing log)
standing_opened log = zipped (λ (o : Opening). opening_at log o.number ≡ Some o) (IsStanding log) (λ (o : Opening). life_of log o.line ≡ Opened o)
    (λ o there is. alive_opened log o there is.alive) (standing log)
    (all_filter (λ (o : Opening). opening_at log o.number ≡ Some o) (λ o. is_life o.number (life_of log o.line)) (openings log) (openings_there log))
    (all_standing log)

-- ---- their numbers rise

abbrev pub NumbersRise : List Opening → Type 0
NumbersRise [] = ⊤
NumbersRise (o ∷ os) = AllByRecursion (λ (p : Opening). o.number < p.number) os × NumbersRise os

numbers_from : (m n : ℕ) (xs : List Logged) → m < n
    → AllByRecursion (λ (o : Opening). m < o.number) (filter_map (λ (e : ℕ × Logged). opened_by e.0 e.1.knows e.1.event) (enumerate_from n xs))
numbers_from m n [] below = tt
numbers_from m n (x ∷ xs) below = go (opened_by n x.knows x.event) refl (numbers_from m (n + 1) xs (omega arith))
  where
    go : (o : Option Opening) → opened_by n x.knows x.event ≡ o
        → AllByRecursion (λ (o : Opening). m < o.number) (filter_map (λ (e : ℕ × Logged). opened_by e.0 e.1.knows e.1.event) (enumerate_from (n + 1) xs))
        → AllByRecursion (λ (o : Opening). m < o.number)
        (cons_option o (filter_map (λ (e : ℕ × Logged). opened_by e.0 e.1.knows e.1.event) (enumerate_from (n + 1) xs)))
    go None e rest = rest
    go (Some o) e rest = let number : o.number ≡ n = opened_number n x.knows x.event o e in (omega arith, rest)

rise_from : (n : ℕ) (xs : List Logged) → NumbersRise (filter_map (λ (e : ℕ × Logged). opened_by e.0 e.1.knows e.1.event) (enumerate_from n xs))
rise_from n [] = tt
rise_from n (x ∷ xs) = go (opened_by n x.knows x.event) refl (rise_from (n + 1) xs)
  where
    go : (o : Option Opening) → opened_by n x.knows x.event ≡ o
        → NumbersRise (filter_map (λ (e : ℕ × Logged). opened_by e.0 e.1.knows e.1.event) (enumerate_from (n + 1) xs))
        → NumbersRise (cons_option o (filter_map (λ (e : ℕ × Logged). opened_by e.0 e.1.knows e.1.event) (enumerate_from (n + 1) xs)))
    go None e rest = rest
    go (Some o) e rest = let number : o.number ≡ n = opened_number n x.knows x.event o e in let below : o.number < n + 1 =
        omega arith in (numbers_from o.number (n + 1) xs below, rest)

pub rise_filtered : (test : Opening → Bool) (os : List Opening) → NumbersRise os → NumbersRise (filter test os)
rise_filtered test [] rise = tt
rise_filtered test (o ∷ os) rise = go (test o) (rise_filtered test os rise.1)
  where
    go : (b : Bool) → NumbersRise (filter test os) → NumbersRise (cond b (o ∷ filter test os) (filter test os))
    go true rest = (all_filter (λ (p : Opening). o.number < p.number) test os rise.0, rest)
    go false rest = rest

pub standing_rise : (log : List Logged) → NumbersRise (standing log)
standing_rise log = rise_filtered (λ o. is_life o.number (life_of log o.line)) (openings log) (rise_from 0 log)

pub one_place : (os : List Opening) (j k : ℕ) (a b : Opening) → NumbersRise os → slice_get os j ≡ Some a → slice_get os k ≡ Some b → a.number ≡ b.number → j ≡ k
one_place [] j k a b rise e f same = absurd (none-some a e)
one_place (o ∷ os) zero zero a b rise e f same = refl
one_place (o ∷ os) zero (suc k) a b rise e f same =
    let first : o.number ≡ a.number = ap (λ (x : Opening). x.number) (same_Some o a e) in
    let above : o.number < b.number = all_at (λ (p : Opening). o.number < p.number) os k b f rise.0 in
    absurd (omega arith)
one_place (o ∷ os) (suc j) zero a b rise e f same =
    let first : o.number ≡ b.number = ap (λ (x : Opening). x.number) (same_Some o b f) in
    let above : o.number < a.number = all_at (λ (p : Opening). o.number < p.number) os j a e rise.0 in
    absurd (omega arith)
one_place (o ∷ os) (suc j) (suc k) a b rise e f same = ap suc (one_place os j k a b rise.1 e f same)
