-- What a taken entry waits for: a later entry of its sector, and a stripe.
use Rattle.std.specs.Prelude.{ℕ, ◌==◌, ◌&&◌, not, nat_lt, List, Option}
use Rattle.std.specs.List.{find}
use Rattle.std.specs.Option.{option_map}
use Rattle.pblk_model.specs.declared.shape.Shape.{Shape}
use Rattle.pblk_world.specs.Events.{Logged}
use Rattle.pblk_world.specs.EngineLog.{Taken, takes, placements, was_lost, holds_position}

-- the next entry of its sector that was taken after it
abbrev pub later_take : List Logged → Taken → Option Taken
later_take log t = find (λ u. nat_lt t.entry.position u.entry.position && (u.mark.lba == t.mark.lba))
    (takes log)

-- the line of the stripe, not lost, that holds the position
abbrev pub placed_line : Shape → List Logged → ℕ → Option ℕ
placed_line s log position = option_map (λ p. p.stripe.line)
    (find (λ p. holds_position s position p && not (was_lost log p)) (placements log))
