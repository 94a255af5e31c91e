-- What one more event of the engine leaves of what its log said before.
use Rattle.std.proofs.Common.{◌≡◌, ℕ, ◌<◌, ◌≤◌, zero, suc, false, Some, List, [], ◌∷◌, ◌++◌, length, refl, sym, ap, ◌∙◌, arith, le_refl, take_all}
use Rattle.std.specs.List.{AllByRecursion}
use Rattle.std.proofs.lemmas.List.{take-append-le}
use Rattle.std.proofs.lemmas.List.Sums.{fold-append}
use Rattle.std.proofs.lemmas.Option.{same_Some, none-some}
use Rattle.pblk_world.specs.Events.{EngineEvent, Event, Decides, Open, Logged}
use Rattle.pblk_world.specs.World.{Logs}
use Rattle.pblk_world.specs.EngineLog.{Opening, opened_by, openings, Placed, placed_by, placements}
use Rattle.pblk_world.specs.Victims.{engine_prefix}
use Rattle.world_laws.proofs.Later.{its_number}
use Rattle.core_laws.specs.Stepping.{after}
use Rattle.core_laws.specs.PlacerOf.{stopped_by, was_stopped_on}
use Rattle.pblk_model.proofs.Maps.{numbers_below}
use Rattle.pblk_model.proofs.Numbers.{fun_same}

-- ---- prefixes

prefix_at : (logs : Logs) (e : EngineEvent) (knows : List ℕ) (n : ℕ) → n ≤ length (logs 0) → (author : ℕ)
    → engine_prefix n (after logs e knows) author ≡ engine_prefix n logs author
prefix_at logs e knows n within zero = take-append-le n (logs 0) (record { event = Decides e; knows = knows } ∷ []) within
prefix_at logs e knows n within (suc unit) = refl

-- the logs as they were at an earlier length are as they were
pub prefix_same : (logs : Logs) (e : EngineEvent) (knows : List ℕ) (n : ℕ) → n ≤ length (logs 0) → engine_prefix n (after logs e knows) ≡ engine_prefix n logs
prefix_same logs e knows n within = fun_same (engine_prefix n (after logs e knows)) (engine_prefix n logs) (prefix_at logs e knows n within)

pub whole_at : (logs : Logs) (author : ℕ) → engine_prefix (length (logs 0)) logs author ≡ logs author
whole_at logs zero = take_all (length (logs 0)) (logs 0) (le_refl (length (logs 0)))
whole_at logs (suc unit) = refl

-- those before the event are the logs as they were
pub prefix_whole : (logs : Logs) (e : EngineEvent) (knows : List ℕ) → engine_prefix (length (logs 0)) (after logs e knows) ≡ logs
prefix_whole logs e knows = prefix_same logs e knows (length (logs 0)) (le_refl (length (logs 0)))
    ∙ fun_same (engine_prefix (length (logs 0)) logs) logs (whole_at logs)

-- ---- numbers

pub opened_number : (number : ℕ) (knows : List ℕ) (e : Event) (o : Opening) → opened_by number knows e ≡ Some o → o.number ≡ number
opened_number number knows (Decides (Open line start)) o h =
    ap (λ (x : Opening). x.number) (sym (same_Some (record { number = number; line = line; start = start; knows = knows }) o h))
opened_number number knows e o h = absurd (none-some o h)

pub openings_before : (log : List Logged) → AllByRecursion (λ o. o.number < length log) (openings log)
openings_before log = numbers_below (λ (e : ℕ × Logged). opened_by e.0 e.1.knows e.1.event) (λ (o : Opening). o.number)
    (λ e o h. opened_number e.0 e.1.knows e.1.event o h) (length log) 0 log (omega arith)

pub placements_before : (log : List Logged) → AllByRecursion (λ p. p.number < length log) (placements log)
placements_before log = numbers_below (λ (e : ℕ × Logged). placed_by log e.0 e.1.event) (λ (p : Placed). p.number) (λ e p h. its_number log e.0 e.1.event p h)
    (length log) 0 log (omega arith)

-- ---- stops

pub stopped_more : (log : List Logged) (l : Logged) (unit : ℕ) → was_stopped_on (log ++ l ∷ []) unit ≡ stopped_by unit (was_stopped_on log unit) l.event
stopped_more log l unit = fold-append (λ was (m : Logged). stopped_by unit was m.event) false log (l ∷ [])
