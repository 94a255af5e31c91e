-- What an event adds to what the engine's log says.
use Rattle.std.proofs.Common.{◌≡◌, ℕ, ◌+◌, ◌<◌, ◌≤◌, Some, Option, List, [], ◌∷◌, ◌++◌, length, refl, ap, ◌∙◌, arith}
use Rattle.std.specs.List.{fold, filter_map, cons_option, enumerate_from}
use Rattle.std.specs.Option.{option_to_list}
use Rattle.std.proofs.lemmas.List.{take-append-le}
use Rattle.std.proofs.lemmas.List.Sums.{fold-append}
use Rattle.pblk_world.specs.Events.{Event, Logged, Decides, Place}
use Rattle.pblk_world.specs.EngineLog.{AsFound, life_of, turned, turned_by, openings, opened_by, placements, placed_by, named_events, named_by}
use Rattle.pblk_model.proofs.Maps.{more}

abbrev numbered_one : {X : Type 0} → ℕ → X → List (ℕ × X)
numbered_one k x = (k, x) ∷ []

numbered : {X : Type 0} (n : ℕ) (xs : List X) (x : X) → enumerate_from n (xs ++ x ∷ []) ≡ enumerate_from n xs ++ (n + length xs, x) ∷ []
numbered n [] x = ap (λ k. numbered_one k x) (omega arith)
numbered n (y ∷ xs) x = ap (λ ys. numbered_one n y ++ ys) (numbered (n + 1) xs x
    ∙ ap (λ k. enumerate_from (n + 1) xs ++ numbered_one k x) (omega arith))

numbered_first : {X : Type 0} (xs : List X) (x : X) → enumerate_from 0 (xs ++ x ∷ []) ≡ enumerate_from 0 xs ++ (length xs, x) ∷ []
numbered_first xs x = numbered 0 xs x ∙ ap (λ k. enumerate_from 0 xs ++ numbered_one k x) (omega arith)

-- functions that agree on the numbers of a list
agree : {X Y : Type 0} (f g : ℕ × X → Option Y) (n : ℕ) (xs : List X) → ((k : ℕ) (x : X) → k < n + length xs → f (k, x) ≡ g (k, x))
    → filter_map f (enumerate_from n xs) ≡ filter_map g (enumerate_from n xs)
agree f g n [] same = refl
agree f g n (x ∷ xs) same = ap (λ o. cons_option o (filter_map f (enumerate_from (n + 1) xs))) (same n x (omega arith))
    ∙ ap (λ ys. cons_option (g (n, x)) ys) (agree f g (n + 1) xs (λ k y h. same k y (omega arith)))

pub named_more : (log : List Logged) (l : Logged) (unit : ℕ)
    → named_events (log ++ l ∷ []) unit ≡ named_events log unit ++ option_to_list (named_by unit l.event)
named_more log l unit = more (λ (m : Logged). named_by unit m.event) log l

pub life_more : (log : List Logged) (l : Logged) (line : ℕ) → life_of (log ++ l ∷ []) line ≡ turned_by line (life_of log line) (length log) l.knows l.event
life_more log l line = ap (λ xs. fold (turned line) AsFound xs) (numbered_first log l)
    ∙ fold-append (turned line) AsFound (enumerate_from 0 log) ((length log, l) ∷ [])

pub openings_more : (log : List Logged) (l : Logged) → openings (log ++ l ∷ []) ≡ openings log ++ option_to_list (opened_by (length log) l.knows l.event)
openings_more log l = ap (λ xs. filter_map (λ (e : ℕ × Logged). opened_by e.0 e.1.knows e.1.event) xs) (numbered_first log l)
    ∙ more (λ (e : ℕ × Logged). opened_by e.0 e.1.knows e.1.event) (enumerate_from 0 log) (length log, l)

placed_same : (log more : List Logged) (n : ℕ) (e : Event) → n ≤ length log → placed_by (log ++ more) n e ≡ placed_by log n e
placed_same log more n (Decides (Place stripe)) h =
    ap (λ (prefix : List Logged). Some (record { number = n; stripe = stripe; life = life_of prefix stripe.line })) (take-append-le n log more h)
placed_same log more n e h = refl

pub placements_more : (log : List Logged) (l : Logged) → placements (log ++ l ∷ []) ≡ placements log ++ option_to_list (placed_by log (length log) l.event)
placements_more log l =
    ap (λ xs. filter_map (λ (e : ℕ × Logged). placed_by (log ++ l ∷ []) e.0 e.1.event) xs) (numbered_first log l)
    ∙ more (λ (e : ℕ × Logged). placed_by (log ++ l ∷ []) e.0 e.1.event) (enumerate_from 0 log) (length log, l)
    ∙ ap (λ xs. xs ++ option_to_list (placed_by (log ++ l ∷ []) (length log) l.event))
    (agree (λ (e : ℕ × Logged). placed_by (log ++ l ∷ []) e.0 e.1.event) (λ (e : ℕ × Logged). placed_by log e.0 e.1.event) 0 log
    (λ k x h. placed_same log (l ∷ []) k x.event (omega arith)))
    ∙ ap (λ o. placements log ++ option_to_list o) (placed_same log (l ∷ []) (length log) l.event (omega arith))
