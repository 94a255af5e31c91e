-- Entries that are taken out by their positions, where no two have one.
use Rattle.std.proofs.Common.{◌≡◌, ◌≢◌, ℕ, ◌+◌, ◌-◌, ◌<◌, ◌==◌, ◌&&◌, ◌||◌, zero, suc, not, Bool, true, false, cond, List, [], ◌∷◌, ◌++◌, length, take, drop, refl, sym, ap, ◌∙◌, arith}
use Rattle.std.specs.Prelude.{⊤}
use Rattle.std.specs.List.{AllByRecursion, filter, list_any, range_with_len}
use Rattle.pblk_world.specs.EngineLog.{Taken}
use Rattle.core_laws.specs.PlacerOf.{positions_of}
use Rattle.pblk_model.proofs.Maps.{filter_agree}
use Rattle.pblk_model.proofs.Tests.{other_number, same_number}

abbrev pub Apart : List Taken → Type 0
Apart [] = ⊤
Apart (t ∷ ts) = AllByRecursion (λ (u : Taken). u.entry.position ≢ t.entry.position) ts × Apart ts

abbrev pub is_within : List ℕ → Taken → Bool
is_within qs t = list_any (λ q. q == t.entry.position) qs

all_stay : (ts : List Taken) → filter (λ (t : Taken). not (is_within [] t)) ts ≡ ts
all_stay [] = refl
all_stay (t ∷ ts) = ap (λ us. t ∷ us) (all_stay ts)

-- one that has another position
beside : (q : ℕ) (qs : List ℕ) (t : Taken) → t.entry.position ≢ q → not (is_within (q ∷ qs) t) ≡ not (is_within qs t)
beside q qs t apart = ap (λ b. not (b || is_within qs t)) (other_number q t.entry.position (λ e. apart (sym e)))

others_stay : (q : ℕ) (qs : List ℕ) (ts : List Taken) → AllByRecursion (λ (u : Taken). u.entry.position ≢ q) ts
    → filter (λ (t : Taken). not (is_within (q ∷ qs) t)) ts ≡ filter (λ (t : Taken). not (is_within qs t)) ts
others_stay q qs ts all = filter_agree (λ (u : Taken). u.entry.position ≢ q) (λ (t : Taken). not (is_within (q ∷ qs) t)) (λ (t : Taken). not (is_within qs t))
    (λ t apart. beside q qs t apart) ts all

first_goes : (t : Taken) (qs : List ℕ) (ts : List Taken)
    → filter (λ (u : Taken). not (is_within (t.entry.position ∷ qs) u)) (t ∷ ts) ≡ filter (λ (u : Taken). not (is_within (t.entry.position ∷ qs) u)) ts
first_goes t qs ts = ap (λ b. cond (not (b || is_within qs t)) (t ∷ filter (λ (u : Taken). not (is_within (t.entry.position ∷ qs) u)) ts)
    (filter (λ (u : Taken). not (is_within (t.entry.position ∷ qs) u)) ts)) (same_number t.entry.position)

removed : (n : ℕ) (ts : List Taken) → Apart ts → filter (λ (t : Taken). not (is_within (take n (positions_of ts)) t)) ts ≡ drop n ts
removed zero ts apart = all_stay ts
removed (suc n) [] apart = refl
removed (suc n) (t ∷ ts) apart = first_goes t (take n (positions_of ts)) ts ∙ others_stay t.entry.position (take n (positions_of ts)) ts apart.0
    ∙ removed n ts apart.1

pub all_first : {X : Type 0} (P : X → Type 0) (xs ys : List X) → AllByRecursion P (xs ++ ys) → AllByRecursion P xs
all_first P [] ys all = tt
all_first P (x ∷ xs) ys all = (all.0, all_first P xs ys all.1)

pub all_second : {X : Type 0} (P : X → Type 0) (xs ys : List X) → AllByRecursion P (xs ++ ys) → AllByRecursion P ys
all_second P [] ys all = all
all_second P (x ∷ xs) ys all = all_second P xs ys all.1

drop_none : {X : Type 0} (n : ℕ) → drop {A = X} n [] ≡ []
drop_none zero = refl
drop_none (suc n) = refl

-- the first of two lists' positions go, the first list's before the second's
pub removed_both : (n : ℕ) (ts us : List Taken) → Apart (ts ++ us)
    → (filter (λ (t : Taken). not (is_within (take n (positions_of ts ++ positions_of us)) t)) ts ≡ drop n ts)
    × (filter (λ (t : Taken). not (is_within (take n (positions_of ts ++ positions_of us)) t)) us ≡ drop (n - length ts) us)
removed_both n [] us apart = let all : n ≡ n - 0 = omega arith in (sym (drop_none n), removed n us apart ∙ ap (λ k. drop k us) all)
removed_both zero (t ∷ ts) us apart = let none : 0 ≡ 0 - length (t ∷ ts) = omega arith in (all_stay (t ∷ ts), all_stay us ∙ ap (λ k. drop k us) none)
removed_both (suc n) (t ∷ ts) us apart =
    let qs : List ℕ = take n (positions_of ts ++ positions_of us) in
    let rest = removed_both n ts us apart.1 in
    let less : n - length ts ≡ suc n - length (t ∷ ts) = omega arith in (
      first_goes t qs ts ∙ others_stay t.entry.position qs ts (all_first (λ (u : Taken). u.entry.position ≢ t.entry.position) ts us apart.0) ∙ rest.0,
      others_stay t.entry.position qs us (all_second (λ (u : Taken). u.entry.position ≢ t.entry.position) ts us apart.0) ∙ rest.1 ∙ ap (λ k. drop k us) less,
    )

-- ---- which are apart

apart_filtered : (test : Taken → Bool) (ts : List Taken) → Apart ts → Apart (filter test ts)
apart_filtered test [] apart = tt
apart_filtered test (t ∷ ts) apart = go (test t) (apart_filtered test ts apart.1)
  where
    kept : (us : List Taken) → AllByRecursion (λ (u : Taken). u.entry.position ≢ t.entry.position) us
        → AllByRecursion (λ (u : Taken). u.entry.position ≢ t.entry.position) (filter test us)
    kept [] all = tt
    kept (u ∷ us) all = elim (test u) as
        (λ b. AllByRecursion (λ (u : Taken). u.entry.position ≢ t.entry.position) (cond b (u ∷ filter test us) (filter test us))) [
          | true ↦ (all.0, kept us all.1)
          | false ↦ kept us all.1
        ]

    go : (b : Bool) → Apart (filter test ts) → Apart (cond b (t ∷ filter test ts) (filter test ts))
    go true rest = (kept ts apart.0, rest)
    go false rest = rest

pub above : (a n q : ℕ) (ts : List Taken) → q < a → positions_of ts ≡ range_with_len a n → AllByRecursion (λ (u : Taken). u.entry.position ≢ q) ts
above a n q [] below is = tt
above a zero q (t ∷ ts) below is = absurd cc
above a (suc n) q (t ∷ ts) below is =
    let first : t.entry.position ≡ a = cc in
    let rest : positions_of ts ≡ range_with_len (a + 1) n = cc in
    ((λ e. absurd (omega arith)), above (a + 1) n q ts (omega arith) rest)

pub apart_numbered : (a n : ℕ) (ts : List Taken) → positions_of ts ≡ range_with_len a n → Apart ts
apart_numbered a n [] is = tt
apart_numbered a zero (t ∷ ts) is = absurd cc
apart_numbered a (suc n) (t ∷ ts) is =
    let first : t.entry.position ≡ a = cc in
    let rest : positions_of ts ≡ range_with_len (a + 1) n = cc in
    (above (a + 1) n t.entry.position ts (omega arith) rest, apart_numbered (a + 1) n ts rest)

-- two lists that a test of the position tells apart
apart_joined : (test : ℕ → Bool) (ts us : List Taken) → AllByRecursion (λ (t : Taken). test t.entry.position ≡ true) ts
    → AllByRecursion (λ (u : Taken). test u.entry.position ≡ false) us → Apart ts → Apart us → Apart (ts ++ us)
apart_joined test [] us a b p q = q
apart_joined test (t ∷ ts) us a b p q = (join ts p.0, apart_joined test ts us a.1 b p.1 q)
  where
    other : (vs : List Taken) → AllByRecursion (λ (u : Taken). test u.entry.position ≡ false) vs
        → AllByRecursion (λ (u : Taken). u.entry.position ≢ t.entry.position) vs
    other [] all = tt
    other (v ∷ vs) all = (
      (λ e. let yes : test t.entry.position ≡ true = a.0 in let no : test v.entry.position ≡ false =
          all.0 in let same : test v.entry.position ≡ test t.entry.position = ap test e in absurd cc),
      other vs all.1,
    )

    join : (vs : List Taken) → AllByRecursion (λ (u : Taken). u.entry.position ≢ t.entry.position) vs
        → AllByRecursion (λ (u : Taken). u.entry.position ≢ t.entry.position) (vs ++ us)
    join [] all = other us b
    join (v ∷ vs) all = (all.0, join vs all.1)

passes_by : (f : Taken → Bool) (test : ℕ → Bool) (b : Bool) → ((t : Taken) → f t ≡ true → test t.entry.position ≡ b) → (ts : List Taken)
    → AllByRecursion (λ (t : Taken). test t.entry.position ≡ b) (filter f ts)
passes_by f test b says [] = tt
passes_by f test b says (t ∷ ts) = go (f t) refl (passes_by f test b says ts)
  where
    go : (c : Bool) → f t ≡ c → AllByRecursion (λ (t : Taken). test t.entry.position ≡ b) (filter f ts)
        → AllByRecursion (λ (t : Taken). test t.entry.position ≡ b) (cond c (t ∷ filter f ts) (filter f ts))
    go true e rest = (says t e, rest)
    go false e rest = rest

pub apart_split : (f g : Taken → Bool) (test : ℕ → Bool) → ((t : Taken) → f t ≡ true → test t.entry.position ≡ true)
    → ((t : Taken) → g t ≡ true → test t.entry.position ≡ false)
    → (ts : List Taken) → Apart ts → Apart (filter f ts ++ filter g ts)
apart_split f g test given refused ts apart =
    apart_joined test (filter f ts) (filter g ts) (passes_by f test true given ts) (passes_by g test false refused ts) (apart_filtered f ts apart)
    (apart_filtered g ts apart)

pub filter_twice : {X : Type 0} (f g : X → Bool) (xs : List X) → filter (λ x. f x && not (g x)) xs ≡ filter (λ x. not (g x)) (filter f xs)
filter_twice f g [] = refl
filter_twice {X} f g (x ∷ xs) = go (f x) (filter_twice f g xs)
  where
    go : (b : Bool) → filter (λ x. f x && not (g x)) xs ≡ filter (λ x. not (g x)) (filter f xs)
        → cond (b && not (g x)) (x ∷ filter (λ x. f x && not (g x)) xs) (filter (λ x. f x && not (g x)) xs) ≡ filter (λ x. not (g x))
        (cond b (x ∷ filter f xs) (filter f xs))
    go true rest = ap (λ ys. cond (not (g x)) (x ∷ ys) ys) rest
    go false rest = rest

pub take_taken : {X : Type 0} (n : ℕ) (xs : List X) → take n xs ≡ take (length (take n xs)) xs
take_taken zero xs = refl
take_taken (suc n) [] = refl
take_taken (suc n) (x ∷ xs) = ap (λ ys. x ∷ ys) (take_taken n xs)

pub and_yes : (b : Bool) → (b && true) ≡ b
and_yes true = refl
and_yes false = refl
