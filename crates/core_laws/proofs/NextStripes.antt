-- The next stripe of an opened line is the one behind those that were placed, and nothing of the
-- line failed.
use Rattle.std.proofs.Common.{◌≡◌, ℕ, ◌+◌, ◌<◌, ◌≤◌, ◌&&◌, zero, suc, not, Bool, true, false, Some, None, Option, List, [], ◌∷◌, ◌++◌, map, length, take, drop, replicate, refl, sym, subst, ap, ap₂, ◌∙◌, arith}
use Rattle.std.specs.Prelude.{slice_get}
use Rattle.std.specs.List.{AllByRecursion, list_all, list_any}
use Rattle.std.specs.Option.{option_map_or}
use Rattle.pblk_world.specs.Events.{Logged}
use Rattle.pblk_world.specs.EngineLog.{Placed, Answer, DidLand, WasLost, answer_of, is_land, is_loss, has_landed, was_lost}
use Rattle.stripe_placer.specs.OpenLines.{Stripe, OpenLine, is_unplaced, is_landed, is_lost, stripe_is, is_to_place, next_of, has_failed, start_has_landed, data_has_landed}
use Rattle.stripe_placer.specs.OpenLines.Stripe.{Unplaced}
use Rattle.stripe_placer.proofs.Numbered.{found_in_range, none_in_range}
use Rattle.core_laws.specs.OpenedLines.{by_answer}
use Rattle.core_laws.proofs.LineForms.{answered_as}
use Rattle.pblk_model.proofs.Maps.{any_fail}
use Rattle.pblk_model.proofs.Tests.{either_false}
use Rattle.stripe_placer.proofs.OpenLinesLemmas.{length_new, no_chunk_closed}

-- ---- what became of one stripe

pub lost_is : (a : Option Answer) → is_lost (by_answer a) ≡ is_loss a
lost_is None = refl
lost_is (Some (DidLand n)) = refl
lost_is (Some (WasLost n)) = refl

pub landed_is : (a : Option Answer) → is_landed (by_answer a) ≡ is_land a
landed_is None = refl
landed_is (Some (DidLand n)) = refl
landed_is (Some (WasLost n)) = refl

not_unplaced : (a : Option Answer) → is_unplaced (by_answer a) ≡ false
not_unplaced None = refl
not_unplaced (Some (DidLand n)) = refl
not_unplaced (Some (WasLost n)) = refl

-- ---- a line of such stripes

abbrev pub in_form : List Logged → List Placed → ℕ → List Stripe
in_form log ps m = map (answered_as log) ps ++ replicate m Unplaced

new_unlost : (m : ℕ) → AllByRecursion (λ x. is_lost x ≡ false) (replicate m Unplaced)
new_unlost zero = tt
new_unlost (suc m) = (refl, new_unlost m)

unlost : (log : List Logged) (ps : List Placed) (m : ℕ) → list_any (was_lost log) ps ≡ false → AllByRecursion (λ x. is_lost x ≡ false) (in_form log ps m)
unfolding answered_as
unlost log [] m none = new_unlost m
unlost log (p ∷ ps) m none =
    let two = either_false (was_lost log p) (list_any (was_lost log) ps) none in
    (lost_is (answer_of log p) ∙ two.0, unlost log ps m two.1)

pub never_failed : (l : OpenLine) → AllByRecursion (λ x. is_lost x ≡ false) l.stripes → has_failed l ≡ false
never_failed l all = any_fail is_lost l.stripes all

to_place : (l : OpenLine) (j : ℕ) → AllByRecursion (λ x. is_lost x ≡ false) l.stripes → is_to_place l j ≡ stripe_is l is_unplaced j
to_place l j all = ap (λ b. stripe_is l is_unplaced j && not b) (no_chunk_closed l j all) ∙ and_true (stripe_is l is_unplaced j)
  where
    and_true : (b : Bool) → (b && true) ≡ b
    and_true true = refl
    and_true false = refl

placed_before : (log : List Logged) (ps : List Placed) (m j : ℕ) → j < length ps → option_map_or is_unplaced (slice_get (in_form log ps m) j) false ≡ false
unfolding answered_as
placed_before log [] m j h = absurd (omega arith)
placed_before log (p ∷ ps) m zero h = not_unplaced (answer_of log p)
placed_before log (p ∷ ps) m (suc j) h = placed_before log ps m j (omega arith)

unplaced_here : (log : List Logged) (ps : List Placed) (m : ℕ) → 0 < m → option_map_or is_unplaced (slice_get (in_form log ps m) (length ps)) false ≡ true
unplaced_here log [] zero h = absurd (omega arith)
unplaced_here log [] (suc m) h = refl
unplaced_here log (p ∷ ps) m h = unplaced_here log ps m h

form_length : (log : List Logged) (ps : List Placed) (m : ℕ) → length (in_form log ps m) ≡ length ps + m
form_length log [] m = length_new m ∙ omega arith
form_length log (p ∷ ps) m = let rest : length (in_form log ps m) ≡ length ps + m = form_length log ps m in omega arith

pub next_is : (l : OpenLine) (log : List Logged) (ps : List Placed) (m : ℕ) → list_any (was_lost log) ps ≡ false → l.stripes ≡ in_form log ps m → 0 < m
    → next_of l ≡ Some (length ps)
next_is l log ps m none_ form some =
    let all : AllByRecursion (λ x. is_lost x ≡ false) l.stripes = subst (AllByRecursion (λ x. is_lost x ≡ false)) (sym form) (unlost log ps m none_) in
    let count : length l.stripes ≡ length ps + m = ap (λ (xs : List Stripe). length xs) form ∙ form_length log ps m in
    let unplaced : (j : ℕ) → is_to_place l j ≡ option_map_or is_unplaced (slice_get (in_form log ps m) j) false =
    λ j. to_place l j all ∙ ap (λ (xs : List Stripe). option_map_or is_unplaced (slice_get xs j) false) form in
    let from : 0 + length ps ≡ length ps = omega arith in
    found_in_range (is_to_place l) 0 (length l.stripes) (length ps) (omega arith)
    (unplaced (0 + length ps) ∙ ap (λ j. option_map_or is_unplaced (slice_get (in_form log ps m) j) false) from ∙ unplaced_here log ps m some)
    (λ j before. let start : 0 + j ≡ j = omega arith in unplaced (0 + j) ∙ ap (λ j. option_map_or is_unplaced (slice_get (in_form log ps m) j) false) start
    ∙ placed_before log ps m j before)
    ∙ ap (λ j. Some j) from

pub none_next : (l : OpenLine) (log : List Logged) (ps : List Placed) (m : ℕ) → list_any (was_lost log) ps ≡ false → l.stripes ≡ in_form log ps m → m ≡ 0
    → next_of l ≡ None
none_next l log ps m none_ form none =
    let all : AllByRecursion (λ x. is_lost x ≡ false) l.stripes = subst (AllByRecursion (λ x. is_lost x ≡ false)) (sym form) (unlost log ps m none_) in
    let count : length l.stripes ≡ length ps + m = ap (λ (xs : List Stripe). length xs) form ∙ form_length log ps m in
    none_in_range (is_to_place l) 0 (length l.stripes)
    (λ j before. let start : 0 + j ≡ j = omega arith in
    ap (is_to_place l) start ∙ to_place l j all ∙ ap (λ (xs : List Stripe). option_map_or is_unplaced (slice_get xs j) false) form
    ∙ placed_before log ps m j (omega arith))

pub unfailed : (l : OpenLine) (log : List Logged) (ps : List Placed) (m : ℕ) → list_any (was_lost log) ps ≡ false → l.stripes ≡ in_form log ps m
    → has_failed l ≡ false
unfailed l log ps m none_ form = never_failed l (subst (AllByRecursion (λ x. is_lost x ≡ false)) (sym form) (unlost log ps m none_))

-- ---- what has landed

first_landed : (log : List Logged) (ps : List Placed) (m c : ℕ) → c ≤ length ps
    → list_all is_landed (take c (in_form log ps m)) ≡ list_all (has_landed log) (take c ps)
unfolding answered_as
first_landed log ps m zero h = refl
first_landed log [] m (suc c) h = absurd (omega arith)
first_landed log (p ∷ ps) m (suc c) h = ap₂ (λ a b. a && b) (landed_is (answer_of log p)) (first_landed log ps m c (omega arith))

rest_landed : (log : List Logged) (ps : List Placed) (m c d : ℕ) → c + d ≤ length ps
    → list_all is_landed (take d (drop c (in_form log ps m))) ≡ list_all (has_landed log) (take d (drop c ps))
rest_landed log ps m zero d h = first_landed log ps m d (omega arith)
rest_landed log [] m (suc c) d h = absurd (omega arith)
rest_landed log (p ∷ ps) m (suc c) d h = rest_landed log ps m c d (omega arith)

pub start_landed : (l : OpenLine) (log : List Logged) (ps : List Placed) (m : ℕ) → l.stripes ≡ in_form log ps m → l.start_count ≤ length ps
    → start_has_landed l ≡ list_all (has_landed log) (take l.start_count ps)
start_landed l log ps m form within = ap (λ (xs : List Stripe). list_all is_landed (take l.start_count xs)) form ∙ first_landed log ps m l.start_count within

pub data_landed : (l : OpenLine) (log : List Logged) (ps : List Placed) (m : ℕ) → l.stripes ≡ in_form log ps m → l.start_count + l.data_count ≤ length ps
    → data_has_landed l ≡ list_all (has_landed log) (take l.data_count (drop l.start_count ps))
data_landed l log ps m form within = ap (λ (xs : List Stripe). list_all is_landed (take l.data_count (drop l.start_count xs))) form
    ∙ rest_landed log ps m l.start_count l.data_count within

pub all_parts : {X : Type 0} (test : X → Bool) (c d : ℕ) (xs : List X)
    → list_all test (take (c + d) xs) ≡ (list_all test (take c xs) && list_all test (take d (drop c xs)))
all_parts test zero d xs = let from : 0 + d ≡ d = omega arith in ap (λ n. list_all test (take n xs)) from
all_parts {X} test (suc c) d [] = nothing (suc c + d) d
  where
    nothing : (m n : ℕ) → list_all test (take {A = X} m []) ≡ (true && list_all test (take n []))
    nothing m n = no_parts m ∙ sym (no_parts n)
      where
        no_parts : (m : ℕ) → list_all test (take {A = X} m []) ≡ true
        no_parts zero = refl
        no_parts (suc m) = refl
all_parts test (suc c) d (x ∷ xs) =
    let next : suc c + d ≡ suc (c + d) = omega arith in
    ap (λ n. list_all test (take n (x ∷ xs))) next ∙ ap (λ b. test x && b) (all_parts test c d xs)
    ∙ grouped (test x) (list_all test (take c xs)) (list_all test (take d (drop c xs)))
  where
    grouped : (a b c : Bool) → (a && (b && c)) ≡ ((a && b) && c)
    grouped true b c = refl
    grouped false b c = refl
