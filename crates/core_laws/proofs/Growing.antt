-- An event takes nothing back: what has landed has landed, and the front synced never falls.
use Rattle.std.proofs.Common.{◌≡◌, ℕ, ◌+◌, ◌<◌, ◌≤◌, ◌==◌, ◌&&◌, ◌||◌, nat_lt, Bool, true, false, Some, None, Option, List, [], ◌∷◌, ◌++◌, length, refl, ap, ap₂, ◌∙◌, arith, append-nil, length-append}
use Rattle.std.specs.Prelude.{slice_get}
use Rattle.std.specs.List.{AllByRecursion, filter, list_any, enumerate_from}
use Rattle.std.specs.Option.{option_to_list}
use Rattle.std.proofs.lemmas.List.Elements.{filter-append}
use Rattle.pblk_model.specs.declared.shape.Shape.{Shape}
use Rattle.pblk_model.specs.Chunk.{Block}
use Rattle.pblk_world.specs.Events.{Event, Logged}
use Rattle.pblk_world.specs.EngineLog.{takes, taken_by, Placed, placed_by, placements, placed_on, Answer, answers, answer_by, answer_of, turn, is_land, has_landed, bears_position, holds_position}
use Rattle.pblk_world.specs.Fronts.{first_position, taken, has_landed_at, synced}
use Rattle.pblk_world.specs.Space.{is_readable_in, gives_back, freed}
use Rattle.pblk_world.proofs.Appending.{placements_more}
use Rattle.pblk_world.proofs.SyncedFront.{synced_within}
use Rattle.core_laws.specs.WindowOf.{is_given_back}
use Rattle.core_laws.proofs.Engine.{placements_before}
use Rattle.core_laws.proofs.Placing.{not_below}
use Rattle.core_laws.proofs.LeastPositions.{least_rises}
use Rattle.pblk_model.proofs.Lists.{all_imply, all_of}
use Rattle.pblk_model.proofs.Maps.{all_filter, filter_none}
use Rattle.pblk_model.proofs.Parts.{get_more}
use Rattle.pblk_model.proofs.Tests.{and_both, first_of, second_of}
use Rattle.pblk_world.proofs.EngineLogLemmas.{answers_more, takes_more}
use Rattle.world_laws.proofs.Later.{its_number}

more_numbers : (log : List Logged) (e : Event) (n : ℕ) → n < length log
    → AllByRecursion (λ (q : Placed). nat_lt q.number n ≡ false) (option_to_list (placed_by log (length log) e))
more_numbers log e n before = go (placed_by log (length log) e) refl
  where
    go : (o : Option Placed) → placed_by log (length log) e ≡ o → AllByRecursion (λ (q : Placed). nat_lt q.number n ≡ false) (option_to_list o)
    go None f = tt
    go (Some q) f = let number : q.number ≡ length log = its_number log (length log) e q f in (not_below n q.number (omega arith), tt)

pub turn_grown : (log : List Logged) (l : Logged) (r : Placed) → r.number < length log → turn (log ++ l ∷ []) r ≡ turn log r
turn_grown log l r before =
    let more : List Placed = option_to_list (placed_by log (length log) l.event) in
    let its : Placed → Bool = λ p. p.stripe.unit == r.stripe.unit in
    ap (λ (ps : List Placed). length (filter (λ (q : Placed). nat_lt q.number r.number) (filter (λ (p : Placed). p.stripe.unit == r.stripe.unit) ps)))
    (placements_more log l)
    ∙ ap (λ (ps : List Placed). length (filter (λ (q : Placed). nat_lt q.number r.number) ps))
    (filter-append (λ (p : Placed). p.stripe.unit == r.stripe.unit) (placements log) more)
    ∙ ap length (filter-append (λ (q : Placed). nat_lt q.number r.number) (placed_on log r.stripe.unit)
    (filter (λ (p : Placed). p.stripe.unit == r.stripe.unit) more)
    ∙ ap (λ qs. filter (λ (q : Placed). nat_lt q.number r.number) (placed_on log r.stripe.unit) ++ qs)
    (filter_none (λ (q : Placed). nat_lt q.number r.number) (filter (λ (p : Placed). p.stripe.unit == r.stripe.unit) more)
    (all_filter (λ (q : Placed). nat_lt q.number r.number ≡ false) (λ (p : Placed). p.stripe.unit == r.stripe.unit) more
    (more_numbers log l.event r.number before)))
    ∙ append-nil (filter (λ (q : Placed). nat_lt q.number r.number) (placed_on log r.stripe.unit)))

pub answer_grown : (log : List Logged) (l : Logged) (r : Placed) (a : Answer) → r.number < length log → answer_of log r ≡ Some a
    → answer_of (log ++ l ∷ []) r ≡ Some a
answer_grown log l r a before is =
    ap₂ (λ (xs : List Answer) n. slice_get xs n) (answers_more log l r.stripe.unit) (turn_grown log l r before)
    ∙ get_more (answers log r.stripe.unit) (option_to_list (answer_by r.stripe.unit l.event)) (turn log r) a is

landed_grown : (log : List Logged) (l : Logged) (r : Placed) → r.number < length log → has_landed log r ≡ true → has_landed (log ++ l ∷ []) r ≡ true
landed_grown log l r before e = go (answer_of log r) refl e
  where
    go : (o : Option Answer) → answer_of log r ≡ o → is_land o ≡ true → has_landed (log ++ l ∷ []) r ≡ true
    go None f g = absurd cc
    go (Some a) f g = ap is_land (answer_grown log l r a before f) ∙ g

any_joined : {X : Type 0} (f : X → Bool) (xs ys : List X) → list_any f xs ≡ true → list_any f (xs ++ ys) ≡ true
any_joined f [] ys e = absurd cc
any_joined f (x ∷ xs) ys e = go (f x) e (any_joined f xs ys)
  where
    go : (b : Bool) → (b || list_any f xs) ≡ true → (list_any f xs ≡ true → list_any f (xs ++ ys) ≡ true) → (b || list_any f (xs ++ ys)) ≡ true
    go true g rest = refl
    go false g rest = rest g

pub any_weaker : {X : Type 0} (f g : X → Bool) (xs : List X) → AllByRecursion (λ x. f x ≡ true → g x ≡ true) xs → list_any f xs ≡ true → list_any g xs ≡ true
any_weaker f g [] all e = absurd cc
any_weaker {X} f g (x ∷ xs) all e = go (f x) refl e (any_weaker f g xs all.1)
  where
    or_true : (a b : Bool) → a ≡ true → (a || b) ≡ true
    or_true true b h = refl
    or_true false b h = absurd cc

    or_either : (a b : Bool) → b ≡ true → (a || b) ≡ true
    or_either true b h = refl
    or_either false b h = h

    go : (b : Bool) → f x ≡ b → (b || list_any f xs) ≡ true → (list_any f xs ≡ true → list_any g xs ≡ true) → (g x || list_any g xs) ≡ true
    go true h k rest = or_true (g x) (list_any g xs) (all.0 h)
    go false h k rest = or_either (g x) (list_any g xs) (rest k)

pub landed_at_grown : (s : Shape) (log : List Logged) (l : Logged) (q : ℕ) → has_landed_at s log q ≡ true → has_landed_at s (log ++ l ∷ []) q ≡ true
landed_at_grown s log l q e =
    let new : List Logged = log ++ l ∷ [] in
    ap (λ ps. list_any (λ r. has_landed (log ++ l ∷ []) r && holds_position s q r) ps) (placements_more log l)
    ∙ any_joined (λ r. has_landed new r && holds_position s q r) (placements log) (option_to_list (placed_by log (length log) l.event))
    (any_weaker (λ r. has_landed log r && holds_position s q r) (λ r. has_landed new r && holds_position s q r) (placements log)
    (all_imply (λ (r : Placed). r.number < length log)
    (λ (r : Placed). (has_landed log r && holds_position s q r) ≡ true → (has_landed new r && holds_position s q r) ≡ true)
    (λ r before f. and_both (has_landed new r) (holds_position s q r) (landed_grown log l r before (first_of (has_landed log r) (holds_position s q r) f))
    (second_of (has_landed log r) (holds_position s q r) f))
    (placements log) (placements_before log)) e)

pub synced_grown : (s : Shape) (log : List Logged) (l : Logged) → synced s log ≤ synced s (log ++ l ∷ [])
synced_grown s [] l = let none : synced s [] ≤ taken [] = synced_within s [] in omega arith
synced_grown s (m ∷ log) l =
    let count : length (takes ((m ∷ log) ++ l ∷ [])) ≡ length (takes (m ∷ log)) + length (option_to_list (taken_by l.event)) =
    ap length (takes_more (m ∷ log) l) ∙ length-append (takes (m ∷ log)) (option_to_list (taken_by l.event)) in
    least_rises (has_landed_at s (m ∷ log)) (has_landed_at s ((m ∷ log) ++ l ∷ [])) (length (takes (m ∷ log))) (length (takes ((m ∷ log) ++ l ∷ [])))
    (first_position (m ∷ log))
    (landed_at_grown s (m ∷ log) l) (omega (arith, count))

-- ---- the front freed is at most the front synced

readable_bears : (test : Block → Bool) (more : ℕ × Block → Bool) (n : ℕ) (bs : List Block)
    → list_any (λ (b : ℕ × Block). test b.1 && more b) (enumerate_from n bs) ≡ true → list_any test bs ≡ true
readable_bears test more n [] e = e
readable_bears test more n (b ∷ bs) e = go (test b) e (readable_bears test more (n + 1) bs)
  where
    go : (c : Bool) → ((c && more (n, b)) || list_any (λ (b : ℕ × Block). test b.1 && more b) (enumerate_from (n + 1) bs)) ≡ true
        → (list_any (λ (b : ℕ × Block). test b.1 && more b) (enumerate_from (n + 1) bs) ≡ true → list_any test bs ≡ true) → (c || list_any test bs) ≡ true
    go true f rest = refl
    go false f rest = rest f

pub given_holds : (s : Shape) (log : List Logged) (q : ℕ) (r : Placed) → gives_back s log q r ≡ true → (has_landed log r && holds_position s q r) ≡ true
given_holds s log q r e =
    let test : ℕ × Block → Bool = λ b. bears_position s q b.1 && is_readable_in s log r.stripe.unit b.0 r.life in
    and_both (has_landed log r) (holds_position s q r)
    (first_of (has_landed log r) (list_any (λ (b : ℕ × Block). bears_position s q b.1 && is_readable_in s log r.stripe.unit b.0 r.life)
    (enumerate_from r.stripe.at r.stripe.blocks)) e)
    (readable_bears (bears_position s q) (λ b. is_readable_in s log r.stripe.unit b.0 r.life) r.stripe.at r.stripe.blocks
    (second_of (has_landed log r) (list_any (λ (b : ℕ × Block). bears_position s q b.1 && is_readable_in s log r.stripe.unit b.0 r.life)
    (enumerate_from r.stripe.at r.stripe.blocks)) e))

pub given_landed : (s : Shape) (log : List Logged) (q : ℕ) → is_given_back s log q ≡ true → has_landed_at s log q ≡ true
given_landed s log q e = any_weaker (gives_back s log q) (λ r. has_landed log r && holds_position s q r) (placements log)
    (all_of (λ (r : Placed). gives_back s log q r ≡ true → (has_landed log r && holds_position s q r) ≡ true) (given_holds s log q) (placements log)) e

pub freed_within : (s : Shape) (log : List Logged) → freed s log ≤ synced s log
freed_within s log = least_rises (is_given_back s log) (has_landed_at s log) (length (takes log)) (length (takes log)) (first_position log) (given_landed s log)
    (omega arith)
