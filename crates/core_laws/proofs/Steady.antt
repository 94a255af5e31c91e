-- Events that place and answer nothing leave the lines and the units as they were.
use Rattle.std.proofs.Common.{◌≡◌, ℕ, ◌<◌, ◌==◌, ◌&&◌, not, nat_lt, Bool, Some, None, Option, List, length, refl, ap, ap₂, ◌∙◌, le_of_lt}
use Rattle.std.specs.Prelude.{slice_get, map}
use Rattle.std.specs.List.{AllByRecursion, filter, find}
use Rattle.std.specs.Option.{option_map_or}
use Rattle.pblk_model.specs.declared.shape.Shape.{Shape}
use Rattle.pblk_model.specs.Image.{Image, line_units}
use Rattle.pblk_world.specs.Events.{EngineEvent, Logged}
use Rattle.pblk_world.specs.World.{Logs}
use Rattle.pblk_world.specs.EngineLog.{Opening, openings, is_life, LineLife, AsFound, Opened, Freed, life_of, Taken, Placed, placements, placed_on, Answer, answers, answer_of, is_loss, was_lost, holds_position}
use Rattle.pblk_world.specs.Fronts.{times_placed, times_lost, was_placed, waits}
use Rattle.pblk_world.specs.Lines.{known_image}
use Rattle.stripe_placer.specs.OpenLines.{OpenLine, opened, numbers, has_left}
use Rattle.stripe_placer.specs.Placing.UnitRow.{Idle}
use Rattle.core_laws.specs.Stepping.{after}
use Rattle.core_laws.specs.OpenedLines.{as_opened, bits_of, by_answer, became, placed_as, is_stripe_at, outcome, with_outcomes, open_line, standing, open_lines}
use Rattle.core_laws.specs.PlacerOf.{row_of_program, program_of_stripe, row_in, unit_row_in, unanswered_on, waits_again}
use Rattle.core_laws.proofs.Engine.{prefix_same, openings_before, placements_before}
use Rattle.pblk_model.proofs.Maps.{all_filter, filter_same, map_agree, map_same}
use Rattle.pblk_model.proofs.Parts.{all_at}

-- the same stripes are placed and answered
pub record AreAlike (old new : List Logged) : Type 0 where
  pub placements : placements new ≡ placements old
  pub answers : answers new ≡ answers old

abbrev answer_in : List Placed → (ℕ → List Answer) → Placed → Option Answer
answer_in ps ns p = slice_get (ns p.stripe.unit)
    (length (filter (λ (q : Placed). nat_lt q.number p.number) (filter (λ (q : Placed). q.stripe.unit == p.stripe.unit) ps)))

pub answer_same : (old new : List Logged) → AreAlike old new → (p : Placed) → answer_of new p ≡ answer_of old p
answer_same old new alike p = ap₂ (λ ps ns. answer_in ps ns p) alike.placements alike.answers

pub lost_same : (old new : List Logged) → AreAlike old new → (p : Placed) → was_lost new p ≡ was_lost old p
lost_same old new alike p = ap is_loss (answer_same old new alike p)

-- ---- entries

times_placed_same : (s : Shape) (old new : List Logged) → AreAlike old new → (t : Taken) → times_placed s new t ≡ times_placed s old t
times_placed_same s old new alike t = ap (λ ps. length (filter (holds_position s t.entry.position) ps)) alike.placements

times_lost_same : (s : Shape) (old new : List Logged) → AreAlike old new → (t : Taken) → times_lost s new t ≡ times_lost s old t
times_lost_same s old new alike t =
    ap length (filter_same (λ p. was_lost new p && holds_position s t.entry.position p) (λ p. was_lost old p && holds_position s t.entry.position p)
    (λ p. ap (λ b. b && holds_position s t.entry.position p) (lost_same old new alike p)) (placements new))
    ∙ ap (λ ps. length (filter (λ p. was_lost old p && holds_position s t.entry.position p) ps)) alike.placements

pub was_placed_same : (s : Shape) (old new : List Logged) → AreAlike old new → (t : Taken) → was_placed s new t ≡ was_placed s old t
was_placed_same s old new alike t = ap (nat_lt 0) (times_placed_same s old new alike t)

pub waits_same : (s : Shape) (old new : List Logged) → AreAlike old new → (t : Taken) → waits s new t ≡ waits s old t
waits_same s old new alike t = ap₂ (λ m n. m == n) (times_placed_same s old new alike t) (times_lost_same s old new alike t)

pub is_lost_same : (s : Shape) (old new : List Logged) → AreAlike old new → (t : Taken)
    → (waits s new t && was_placed s new t) ≡ (waits s old t && was_placed s old t)
is_lost_same s old new alike t = ap₂ (λ a b. a && b) (waits_same s old new alike t) (was_placed_same s old new alike t)

pub is_fresh_same : (s : Shape) (old new : List Logged) → AreAlike old new → (t : Taken) → not (was_placed s new t) ≡ not (was_placed s old t)
is_fresh_same s old new alike t = ap not (was_placed_same s old new alike t)

-- ---- lines

became_same : (old new : List Logged) → AreAlike old new → (p : Option Placed) → became new p ≡ became old p
became_same old new alike None = refl
became_same old new alike (Some p) = ap by_answer (answer_same old new alike p)

pub outcome_same : (s : Shape) (old new : List Logged) → AreAlike old new → (o : Opening) (l : OpenLine) (j : ℕ) → outcome s new o l j ≡ outcome s old o l j
outcome_same s old new alike o l j =
    ap (λ ps. became new (find (λ (p : Placed). is_stripe_at s l p.stripe.unit p.stripe.at j) (filter (λ (p : Placed). is_life o.number p.life) ps)))
    alike.placements
    ∙ became_same old new alike (placed_as s old o l j)

pub as_opened_same : (i : Image) (logs : Logs) (e : EngineEvent) (knows : List ℕ) (o : Opening) → o.number < length (logs 0)
    → as_opened i (after logs e knows) o ≡ as_opened i logs o
as_opened_same i logs e knows o before =
    ap (λ (ls : Logs). opened i.shape o.line (bits_of (line_units (known_image i ls) o.line))) (prefix_same logs e knows o.number (le_of_lt before))

pub open_line_same : (i : Image) (logs : Logs) (e : EngineEvent) (knows : List ℕ) → AreAlike (logs 0) (after logs e knows 0) → (o : Opening)
    → o.number < length (logs 0)
    → open_line i (after logs e knows) o ≡ open_line i logs o
open_line_same i logs e knows alike o before =
    ap (λ l. with_outcomes i.shape (after logs e knows 0) o l) (as_opened_same i logs e knows o before)
    ∙ ap (λ xs. record (as_opened i logs o) { stripes = xs })
    (map_same (outcome i.shape (after logs e knows 0) o (as_opened i logs o)) (outcome i.shape (logs 0) o (as_opened i logs o))
    (outcome_same i.shape (logs 0) (after logs e knows 0) alike o (as_opened i logs o)) (numbers (as_opened i logs o)))

pub standing_before : (log : List Logged) → AllByRecursion (λ o. o.number < length log) (standing log)
standing_before log = all_filter (λ (o : Opening). o.number < length log) (λ o. is_life o.number (life_of log o.line)) (openings log) (openings_before log)

pub standing_same : (old new : List Logged) → openings new ≡ openings old → ((line : ℕ) → life_of new line ≡ life_of old line) → standing new ≡ standing old
standing_same old new same life =
    ap (λ os. filter (λ (o : Opening). is_life o.number (life_of new o.line)) os) same
    ∙ filter_same (λ (o : Opening). is_life o.number (life_of new o.line)) (λ (o : Opening). is_life o.number (life_of old o.line))
    (λ o. ap (is_life o.number) (life o.line)) (openings old)

pub lines_same : (i : Image) (logs : Logs) (e : EngineEvent) (knows : List ℕ) → AreAlike (logs 0) (after logs e knows 0)
    → standing (after logs e knows 0) ≡ standing (logs 0)
    → open_lines i (after logs e knows) ≡ open_lines i logs
lines_same i logs e knows alike same =
    ap (λ os. filter has_left (map (open_line i (after logs e knows)) os)) same
    ∙ ap (filter has_left) (map_agree (λ (o : Opening). o.number < length (logs 0)) (open_line i (after logs e knows)) (open_line i logs)
    (open_line_same i logs e knows alike) (standing (logs 0)) (standing_before (logs 0)))

-- ---- units

pub row_in_same : (i : Image) (logs : Logs) (e : EngineEvent) (knows : List ℕ) (stopped : Bool) (life : LineLife) (p : Placed) → p.number < length (logs 0)
    → row_in i (after logs e knows) stopped life p ≡ row_in i logs stopped life p
row_in_same i logs e knows stopped AsFound p before = refl
row_in_same i logs e knows stopped (Opened o) p before =
    ap (λ (ls : Logs). row_of_program stopped (program_of_stripe i.shape (open_line i ls o) p.stripe)) (prefix_same logs e knows p.number (le_of_lt before))
row_in_same i logs e knows stopped (Freed past k) p before = refl

pub unanswered_before : (log : List Logged) (unit : ℕ) (p : Placed) → unanswered_on log unit ≡ Some p → p.number < length log
unanswered_before log unit p e = all_at (λ (p : Placed). p.number < length log) (placed_on log unit) (length (answers log unit)) p e
    (all_filter (λ (p : Placed). p.number < length log) (λ (p : Placed). p.stripe.unit == unit) (placements log) (placements_before log))

-- a unit whose stripe is neither placed nor answered by the event
pub row_same : (i : Image) (logs : Logs) (e : EngineEvent) (knows again later : List ℕ) (unit : ℕ)
    → unanswered_on (after logs e knows 0) unit ≡ unanswered_on (logs 0) unit
    → waits_again (after logs e knows 0) later unit ≡ waits_again (logs 0) again unit
    → unit_row_in i (after logs e knows) later unit ≡ unit_row_in i logs again unit
row_same i logs e knows again later unit same stopped =
    ap₂ (λ b p. option_map_or (λ (p : Placed). row_in i (after logs e knows) b p.life p) p Idle) stopped same
    ∙ go (unanswered_on (logs 0) unit) refl
  where
    go : (p : Option Placed) → unanswered_on (logs 0) unit ≡ p
        → option_map_or (λ (p : Placed). row_in i (after logs e knows) (waits_again (logs 0) again unit) p.life p) p Idle ≡ option_map_or
        (λ (p : Placed). row_in i logs (waits_again (logs 0) again unit) p.life p) p Idle
    go None f = refl
    go (Some p) f = row_in_same i logs e knows (waits_again (logs 0) again unit) p.life p (unanswered_before (logs 0) unit p f)

abbrev pub unanswered_in : List Placed → (ℕ → List Answer) → ℕ → Option Placed
unanswered_in ps ns unit = slice_get (filter (λ (p : Placed). p.stripe.unit == unit) ps) (length (ns unit))
