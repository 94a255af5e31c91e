-- The order of the stripes of a unit: their numbers rise, and the turn of each is its place among
-- them.
use Rattle.std.proofs.Common.{◌≡◌, ℕ, ◌+◌, ◌<◌, ◌≤◌, ◌⊎◌, inl, inr, ◌==◌, suc, zero, nat_lt, Bool, true, false, cond, Some, None, Option, List, [], ◌∷◌, ◌++◌, length, take, drop, refl, sym, subst, ap, ◌∙◌, arith, length-take}
use Rattle.std.specs.Prelude.{slice_get, ⊤}
use Rattle.std.specs.List.{AllByRecursion, filter, filter_map, cons_option, enumerate_from}
use Rattle.std.proofs.lemmas.Bool.{eqb-true}
use Rattle.std.proofs.lemmas.List.{take-append-drop}
use Rattle.std.proofs.lemmas.List.Elements.{filter-append}
use Rattle.std.proofs.lemmas.Option.{none-some, same_Some}
use Rattle.pblk_world.specs.Events.{Logged}
use Rattle.pblk_world.specs.EngineLog.{Placed, placed_by, placements, placed_on, turn}
use Rattle.pblk_model.proofs.Lists.{IsAmong, all_imply}
use Rattle.pblk_model.proofs.Maps.{all_filter, all_passed, filter_none}
use Rattle.pblk_model.proofs.Parts.{all_at}
use Rattle.pblk_model.proofs.Tests.{lt_true, not_before}
use Rattle.world_laws.proofs.Later.{its_number, placements_joined}

-- ---- the numbers rise

abbrev pub Rises : List Placed → Type 0
Rises [] = ⊤
Rises (p ∷ ps) = AllByRecursion (λ (q : Placed). p.number < q.number) ps × Rises ps

made_of : List Logged → ℕ → List Logged → List Placed
made_of log n xs = filter_map (λ (e : ℕ × Logged). placed_by log e.0 e.1.event) (enumerate_from n xs)

numbers_above : (log : List Logged) (m n : ℕ) (xs : List Logged) → m < n → AllByRecursion (λ (q : Placed). m < q.number) (made_of log n xs)
unfolding made_of
numbers_above log m n [] below = tt
numbers_above log m n (x ∷ xs) below = go (placed_by log n x.event) refl (numbers_above log m (n + 1) xs (omega arith))
  where
    go : (o : Option Placed) → placed_by log n x.event ≡ o → AllByRecursion (λ (q : Placed). m < q.number) (made_of log (n + 1) xs)
        → AllByRecursion (λ (q : Placed). m < q.number) (cons_option o (made_of log (n + 1) xs))
    go None e rest = rest
    go (Some p) e rest = let number : p.number ≡ n = its_number log n x.event p e in (omega arith, rest)

all_rise : (log : List Logged) (n : ℕ) (xs : List Logged) → Rises (made_of log n xs)
unfolding made_of
all_rise log n [] = tt
all_rise log n (x ∷ xs) = go (placed_by log n x.event) refl (all_rise log (n + 1) xs)
  where
    go : (o : Option Placed) → placed_by log n x.event ≡ o → Rises (made_of log (n + 1) xs) → Rises (cons_option o (made_of log (n + 1) xs))
    go None e rest = rest
    go (Some p) e rest =
        let number : p.number ≡ n = its_number log n x.event p e in
        let below : p.number < n + 1 = omega arith in (numbers_above log p.number (n + 1) xs below, rest)

pub some_rise : (test : Placed → Bool) (ps : List Placed) → Rises ps → Rises (filter test ps)
some_rise test [] rise = tt
some_rise test (p ∷ ps) rise = go (test p) (some_rise test ps rise.1)
  where
    go : (b : Bool) → Rises (filter test ps) → Rises (cond b (p ∷ filter test ps) (filter test ps))
    go true rest = (all_filter (λ (q : Placed). p.number < q.number) test ps rise.0, rest)
    go false rest = rest

pub rise_all : (log : List Logged) → Rises (placements log)
unfolding made_of
rise_all log = all_rise log 0 log

pub rise_on : (log : List Logged) (unit : ℕ) → Rises (placed_on log unit)
rise_on log unit = some_rise (λ (p : Placed). p.stripe.unit == unit) (placements log) (rise_all log)

pub rise_between : (ps : List Placed) (j k : ℕ) (p q : Placed) → Rises ps → j < k → slice_get ps j ≡ Some p → slice_get ps k ≡ Some q → p.number < q.number
rise_between [] j k p q rise below there at = absurd (none-some p there)
rise_between (x ∷ ps) zero zero p q rise below there at = absurd (omega arith)
rise_between (x ∷ ps) zero (suc k) p q rise below there at =
    subst (λ (y : Placed). y.number < q.number) (same_Some x p there) (all_at (λ (y : Placed). x.number < y.number) ps k q at rise.0)
rise_between (x ∷ ps) (suc j) zero p q rise below there at = absurd (omega arith)
rise_between (x ∷ ps) (suc j) (suc k) p q rise below there at = rise_between ps j k p q rise.1 (omega arith) there at

pub earlier_placed : (log : List Logged) (unit j k : ℕ) (p q : Placed) → j < k → slice_get (placed_on log unit) j ≡ Some p
    → slice_get (placed_on log unit) k ≡ Some q → p.number < q.number
earlier_placed log unit j k p q below there at = rise_between (placed_on log unit) j k p q (rise_on log unit) below there at

-- ---- turns

pub lesser : (ps : List Placed) (m : ℕ) (q : Placed) → Rises ps → slice_get ps m ≡ Some q → length (filter (λ (r : Placed). nat_lt r.number q.number) ps) ≡ m
lesser [] m q rise e = absurd (none-some q e)
lesser (p ∷ ps) zero q rise e =
    let same : p.number ≡ q.number = ap (λ (x : Placed). x.number) (same_Some p q e) in
    let within : q.number ≤ p.number = omega arith in
    let rest : List Placed = filter (λ (r : Placed). nat_lt r.number q.number) ps in
    ap (λ b. length (cond b (p ∷ rest) rest)) (not_before p.number q.number within)
    ∙ ap length (filter_none (λ (r : Placed). nat_lt r.number q.number) ps
    (all_imply (λ (r : Placed). p.number < r.number) (λ (r : Placed). nat_lt r.number q.number ≡ false)
    (λ r above. not_before r.number q.number (omega arith)) ps rise.0))
lesser (p ∷ ps) (suc m) q rise e =
    let rest : List Placed = filter (λ (r : Placed). nat_lt r.number q.number) ps in
    ap (λ b. length (cond b (p ∷ rest) rest)) (lt_true p.number q.number (all_at (λ (r : Placed). p.number < r.number) ps m q e rise.0))
    ∙ ap suc (lesser ps m q rise.1 e)

pub unit_is : (log : List Logged) (unit k : ℕ) (p : Placed) → slice_get (placed_on log unit) k ≡ Some p → p.stripe.unit ≡ unit
unit_is log unit k p there = eqb-true p.stripe.unit unit
    (all_at (λ (q : Placed). (q.stripe.unit == unit) ≡ true) (placed_on log unit) k p there
    (all_passed (λ (q : Placed). q.stripe.unit == unit) (placements log)))

pub turn_is : (log : List Logged) (unit k : ℕ) (p : Placed) → slice_get (placed_on log unit) k ≡ Some p → turn log p ≡ k
turn_is log unit k p there =
    ap (λ u. length (filter (λ (r : Placed). nat_lt r.number p.number) (placed_on log u))) (unit_is log unit k p there)
    ∙ lesser (placed_on log unit) k p (rise_on log unit) there

-- ---- what an earlier log had placed

pub either_part : {X : Type 0} (xs ys : List X) (k : ℕ) (x : X) → slice_get (xs ++ ys) k ≡ Some x → (slice_get xs k ≡ Some x) ⊎ IsAmong ys x
either_part [] ys k x there = inr (k, there)
either_part (y ∷ xs) ys zero x there = inl there
either_part (y ∷ xs) ys (suc k) x there = either_part xs ys k x there

pub placed_then : (log : List Logged) (unit k n : ℕ) (p : Placed) → slice_get (placed_on log unit) k ≡ Some p → p.number < n → n ≤ length log
    → slice_get (placed_on (take n log) unit) k ≡ Some p
placed_then log unit k n p there before inside =
    let more = placements_joined (take n log) (drop n log) in
    let long : length (take n log) ≡ n = length-take-is in
    go (filter (λ (q : Placed). q.stripe.unit == unit) more.0)
    (either_part (placed_on (take n log) unit) (filter (λ (q : Placed). q.stripe.unit == unit) more.0) k p
    (sym (ap (λ (ps : List Placed). slice_get (filter (λ (q : Placed). q.stripe.unit == unit) ps) k) (ap placements (sym (take-append-drop n log)) ∙ more.1)
    ∙ ap (λ ps. slice_get ps k) (filter-append (λ (q : Placed). q.stripe.unit == unit) (placements (take n log)) more.0)) ∙ there))
    long (all_filter (λ (q : Placed). length (take n log) ≤ q.number) (λ (q : Placed). q.stripe.unit == unit) more.0 more.2)
  where
    length-take-is : length (take n log) ≡ n
    length-take-is = omega (arith, length-take n log)

    go : (more : List Placed) → (slice_get (placed_on (take n log) unit) k ≡ Some p) ⊎ IsAmong more p → length (take n log) ≡ n
        → AllByRecursion (λ (q : Placed). length (take n log) ≤ q.number) more
        → slice_get (placed_on (take n log) unit) k ≡ Some p
    go more (inl first) long above = first
    go more (inr later) long above =
        let far : length (take n log) ≤ p.number = all_at (λ (q : Placed). length (take n log) ≤ q.number) more later.0 p later.1 above in
        absurd (omega arith)
