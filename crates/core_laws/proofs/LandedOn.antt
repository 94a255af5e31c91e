-- How many stripes of an opening a unit answered.
use Rattle.std.proofs.Common.{◌≡◌, ℕ, ◌+◌, ◌≤◌, ◌==◌, zero, suc, Bool, true, false, cond, List, [], ◌∷◌, ◌++◌, length, take, sym, subst, ap, ◌∙◌, arith, length-append}
use Rattle.std.specs.List.{filter}
use Rattle.std.specs.Option.{option_to_list}
use Rattle.std.proofs.lemmas.List.Elements.{filter-append}
use Rattle.pblk_world.specs.Events.{Logged}
use Rattle.pblk_world.specs.EngineLog.{is_life, Opening, Placed, placed_by, placements, placed_on, answers, answer_by}
use Rattle.pblk_world.proofs.Appending.{placements_more}
use Rattle.pblk_world.proofs.EngineLogLemmas.{answers_more}

-- the stripes of an opening on a unit that have landed, where none was lost: as many of the unit's
-- first stripes as it answered
abbrev pub landed_on : List Logged → Opening → ℕ → List Placed
landed_on log o u = filter (λ (p : Placed). is_life o.number p.life) (take (length (answers log u)) (placed_on log u))

prefix_count : {X : Type 0} (f : X → Bool) (xs ys : List X) (m n : ℕ) → length (filter f (take m xs)) ≤ length (filter f (take (m + n) (xs ++ ys)))
prefix_count f xs ys zero n = omega arith
prefix_count f [] ys (suc m) n = omega arith
prefix_count {X} f (x ∷ xs) ys (suc m) n =
    let next : suc m + n ≡ suc (m + n) = omega arith in
    subst (λ k. length (filter f (take (suc m) (x ∷ xs))) ≤ length (filter f (take k ((x ∷ xs) ++ ys)))) (sym next) (go (f x) (prefix_count f xs ys m n))
  where
    go : (b : Bool) → length (filter f (take m xs)) ≤ length (filter f (take (m + n) (xs ++ ys)))
        → length (cond b (x ∷ filter f (take m xs)) (filter f (take m xs))) ≤ length
        (cond b (x ∷ filter f (take (m + n) (xs ++ ys))) (filter f (take (m + n) (xs ++ ys))))
    go true rest = omega arith
    go false rest = rest

pub placed_on_more : (log : List Logged) (l : Logged) (u : ℕ)
    → placed_on (log ++ l ∷ []) u ≡ placed_on log u ++ filter (λ (p : Placed). p.stripe.unit == u) (option_to_list (placed_by log (length log) l.event))
placed_on_more log l u =
    ap (filter (λ (p : Placed). p.stripe.unit == u)) (placements_more log l)
    ∙ filter-append (λ (p : Placed). p.stripe.unit == u) (placements log) (option_to_list (placed_by log (length log) l.event))

pub landed_grows : (log : List Logged) (l : Logged) (o : Opening) (u : ℕ) → length (landed_on log o u) ≤ length (landed_on (log ++ l ∷ []) o u)
landed_grows log l o u =
    let count : length (answers (log ++ l ∷ []) u) ≡ length (answers log u) + length (option_to_list (answer_by u l.event)) = ap length (answers_more log l u)
    ∙ length-append (answers log u) (option_to_list (answer_by u l.event)) in
    subst (λ n. length (landed_on log o u) ≤ length (filter (λ (p : Placed). is_life o.number p.life) (take n (placed_on (log ++ l ∷ []) u)))) (sym count)
    (subst (λ (ps : List Placed). length (landed_on log o u) ≤ length
    (filter (λ (p : Placed). is_life o.number p.life) (take (length (answers log u) + length (option_to_list (answer_by u l.event))) ps)))
    (sym (placed_on_more log l u))
    (prefix_count (λ (p : Placed). is_life o.number p.life) (placed_on log u)
    (filter (λ (p : Placed). p.stripe.unit == u) (option_to_list (placed_by log (length log) l.event))) (length (answers log u))
    (length (option_to_list (answer_by u l.event)))))
