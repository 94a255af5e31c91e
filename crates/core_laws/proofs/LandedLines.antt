-- A line of which no stripe was lost has one left until all of them have landed.
use Rattle.std.proofs.Common.{◌≡◌, ℕ, ◌+◌, ◌&&◌, ◌||◌, zero, suc, not, Bool, true, false, List, [], ◌∷◌, length, refl, ap, ◌∙◌, arith}
use Rattle.std.specs.Prelude.{slice_get, slice_set, map}
use Rattle.std.specs.List.{AllByRecursion, list_any, list_all, range_with_len}
use Rattle.std.specs.Option.{option_map_or}
use Rattle.stripe_placer.specs.OpenLines.{Stripe, OpenLine, numbers, is_lost, is_landed, is_unplaced, is_unanswered, stripe_is, is_closed, is_to_place, has_left}
use Rattle.stripe_placer.specs.OpenLines.Stripe.{Unplaced, Unanswered, Landed as HasLanded, Lost as WasIt}
use Rattle.core_laws.proofs.TakenSlots.{any_same}
use Rattle.stripe_placer.proofs.OpenLinesLemmas.{no_chunk_closed}

-- ---- tests by number

any_later : (g : ℕ → Bool) (a n : ℕ) → list_any g (range_with_len (suc a) n) ≡ list_any (λ j. g (suc j)) (range_with_len a n)
any_later g a zero = refl
any_later g a (suc n) =
    let next : suc a + 1 ≡ suc (a + 1) = omega arith in
    ap (λ b. g (suc a) || b) (ap (λ k. list_any g (range_with_len k n)) next ∙ any_later g (a + 1) n)

pub any_numbered : (f : Stripe → Bool) (xs : List Stripe)
    → list_any (λ j. option_map_or f (slice_get xs j) false) (range_with_len 0 (length xs)) ≡ list_any f xs
any_numbered f [] = refl
any_numbered f (x ∷ xs) = ap (λ b. f x || b) (any_later (λ j. option_map_or f (slice_get (x ∷ xs) j) false) 0 (length xs) ∙ any_numbered f xs)

and_not : (a b : Bool) → b ≡ false → (a && not b) ≡ a
and_not true b e = ap not e
and_not false b e = refl

-- ---- what is left

left_parts : (xs : List Stripe) → AllByRecursion (λ x. is_lost x ≡ false) xs
    → (list_any is_unplaced xs || list_any is_unanswered xs) ≡ not (list_all is_landed xs)
left_parts [] all = refl
left_parts (Unplaced ∷ xs) all = refl
left_parts (Unanswered ∷ xs) all = or_true (list_any is_unplaced xs)
  where
    or_true : (b : Bool) → (b || true) ≡ true
    or_true true = refl
    or_true false = refl
left_parts (HasLanded ∷ xs) all = left_parts xs all.1
left_parts (WasIt ∷ xs) all = absurd (no all.0)
  where
    no : true ≡ false → ⊥
    no e = cc

pub left_by_landing : (l : OpenLine) → AllByRecursion (λ x. is_lost x ≡ false) l.stripes → has_left l ≡ not (list_all is_landed l.stripes)
left_by_landing l all =
    ap (λ b. b || list_any is_unanswered l.stripes)
    (any_same (is_to_place l) (stripe_is l is_unplaced) (λ j. and_not (stripe_is l is_unplaced j) (is_closed l j) (no_chunk_closed l j all)) (numbers l)
    ∙ any_numbered is_unplaced l.stripes)
    ∙ left_parts l.stripes all

-- ---- where no stripe was lost

all_mapped : {X Y : Type 0} (P : Y → Type 0) (f : X → Y) → ((x : X) → P (f x)) → (xs : List X) → AllByRecursion P (map f xs)
all_mapped P f says [] = tt
all_mapped P f says (x ∷ xs) = (says x, all_mapped P f says xs)

none_lost_set : (xs : List Stripe) (j : ℕ) (x : Stripe) → is_lost x ≡ false → AllByRecursion (λ x. is_lost x ≡ false) xs
    → AllByRecursion (λ x. is_lost x ≡ false) (slice_set xs j x)
none_lost_set [] j x e all = tt
none_lost_set (y ∷ ys) zero x e all = (e, all.1)
none_lost_set (y ∷ ys) (suc j) x e all = (all.0, none_lost_set ys j x e all.1)
