-- The lines that a mount opened, by its logs: their units, their stripes in line order, and what
-- became of each.
use Rattle.std.specs.Prelude.{ℕ, ◌*◌, ◌/◌, ◌^◌, ◌==◌, ◌&&◌, Bool, List, map, Option, Some, None}
use Rattle.std.specs.List.{find, filter, sum_by}
use Rattle.pblk_model.specs.declared.shape.Shape.{Shape}
use Rattle.pblk_model.specs.Image.{Image, line_units}
use Rattle.pblk_world.specs.Events.{Logged}
use Rattle.pblk_world.specs.World.{Logs}
use Rattle.pblk_world.specs.EngineLog.{Answer, DidLand, WasLost, Opening, Placed, openings, life_of, is_life, stripes_of, answer_of}
use Rattle.pblk_world.specs.Lines.{known_image}
use Rattle.pblk_world.specs.Victims.{engine_prefix}
use Rattle.stripe_placer.specs.OpenLines.{Stripe, OpenLine, opened, width, unit_of, numbers, has_left}
use Rattle.stripe_placer.specs.OpenLines.Stripe.{Unplaced, Unanswered, Landed, Lost}

-- Units.

-- the units whose chunks of the line weren't Offline when it was opened
abbrev pub opened_units : Image → Logs → Opening → List ℕ
opened_units i logs o = line_units (known_image i (engine_prefix o.number logs)) o.line

-- a set of units: bit u is set where unit u is one of them
abbrev pub bits_of : List ℕ → ℕ
bits_of units = sum_by (λ unit. 2 ^ unit) units

-- those of a line that is opened now
abbrev pub online_now : Image → Logs → ℕ → ℕ
online_now i logs line = bits_of (line_units (known_image i logs) line)

-- the line as it was opened, without stripes
abbrev pub as_opened : Image → Logs → Opening → OpenLine
as_opened i logs o = opened i.shape o.line (bits_of (opened_units i logs o))

-- Stripes.

-- stripe j of a line begins at this block of this unit's chunk
abbrev pub is_stripe_at : Shape → OpenLine → ℕ → ℕ → ℕ → Bool
is_stripe_at s l unit block j = (unit_of l j == unit) && (j / width l * s.ws_opt == block)

-- what became of a stripe that was placed, by its answer
abbrev pub by_answer : Option Answer → Stripe
by_answer None = Unanswered
by_answer (Some (DidLand event)) = Landed
by_answer (Some (WasLost event)) = Lost

abbrev pub became : List Logged → Option Placed → Stripe
became log None = Unplaced
became log (Some p) = by_answer (answer_of log p)

-- the stripe of an opening that was placed as stripe j of its line
abbrev pub placed_as : Shape → List Logged → Opening → OpenLine → ℕ → Option Placed
placed_as s log o l j = find (λ p. is_stripe_at s l p.stripe.unit p.stripe.at j) (stripes_of log o)

abbrev pub outcome : Shape → List Logged → Opening → OpenLine → ℕ → Stripe
outcome s log o l j = became log (placed_as s log o l j)

abbrev pub with_outcomes : Shape → List Logged → Opening → OpenLine → OpenLine
with_outcomes s log o l = record l { stripes = map (outcome s log o l) (numbers l) }

-- the line with what became of its stripes
abbrev pub open_line : Image → Logs → Opening → OpenLine
open_line i logs o = with_outcomes i.shape (logs 0) o (as_opened i logs o)

-- The openings of lines that weren't freed since, in their order.
abbrev pub standing : List Logged → List Opening
standing log = filter (λ o. is_life o.number (life_of log o.line)) (openings log)

-- the lines of them that have a stripe left
abbrev pub open_lines : Image → Logs → List OpenLine
open_lines i logs = filter has_left (map (open_line i logs) (standing (logs 0)))
