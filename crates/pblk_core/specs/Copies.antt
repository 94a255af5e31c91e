-- Which sectors a core copies, and up to which position its victim asks for pads.
use Rattle.std.specs.Prelude.{ℕ, ◌+◌, ◌-◌, ◌*◌, ◌^◌, ◌&&◌, if◌then◌else◌, max, min, nat_lt, nat_le, Bool, false, length, slice_get, Option}
use Rattle.std.specs.Option.{option_and_then, option_map_or}
use Rattle.pblk_model.specs.Image.{Image}
use Rattle.pblk_model.specs.LineOrder.{data_len}
use Rattle.pblk_model.specs.Shape.{units}
use Rattle.pblk_world.specs.AtRest.{victim_now}
use Rattle.pblk_world.specs.Fronts.{taken, waiting}
use Rattle.pblk_world.specs.Space.{addresses, is_due, position_limit}
use Rattle.pblk_world.specs.Victims.{live}
use Rattle.pblk_world.specs.World.{Logs}
use Rattle.line_table.specs.declared.row.Row.{Row}
use Rattle.line_table.specs.Rows.{free_addresses}
use Rattle.stripe_placer.specs.Entries.{waiting as entries_waiting}
use Rattle.write_window.specs.Window as view
use Rattle.pblk_core.specs.declared.target_core.Core.{Core}

-- a copy was begun, and its entry isn't taken yet
abbrev pub is_copying : Core → Bool
is_copying c = c.collection.under_way

-- how far the search for the victim's sectors has come: none below this one is on the drive in it
abbrev pub searched_to : Core → ℕ
searched_to c = c.collection.cursor

-- By the core's tables.

-- the row of the victim at work
abbrev pub victim_row : Core → Option Row
victim_row c = option_and_then (λ line. slice_get c.lines.rows line) c.collection.victim

-- Collection is due.
abbrev pub is_due_in : Core → Bool
is_due_in c = nat_le (free_addresses c.lines) (3 * data_len c.layout (units c.layout))

-- A sector of the victim at work is to be copied: collection is due, the victim has a live sector,
-- positions aren't at their end, and fewer entries wait than there are data addresses.
abbrev pub copy_due : Core → Bool
copy_due c = is_due_in c && (option_map_or (λ (row : Row). nat_lt 0 row.live) (victim_row c) false
    && (nat_lt (view.taken c.window) (max (2 ^ 61 - 2) c.first)
    && nat_lt (length (entries_waiting c.placer.entries)) (c.left + free_addresses c.lines)))

-- While collection is due, a victim without live sectors asks for pads, up to one past the taker of
-- its line, as far as numbers tell.
abbrev pub asked_by_row : Row → ℕ
asked_by_row row = if nat_lt 0 row.live then 0 else option_map_or (λ taker. min (taker + 1) (2 ^ 64 - 1)) row.taker 0

abbrev pub victim_asks : Core → ℕ
victim_asks c = if is_due_in c then option_map_or asked_by_row (victim_row c) 0 else 0

-- By the logs.

-- a sector of the victim at work is to be copied
abbrev pub is_copy_due : Image → Logs → Bool
is_copy_due i logs = is_due i logs && (option_map_or (λ line. nat_lt 0 (live i logs line)) (victim_now i logs) false
    && (nat_lt (taken (logs 0)) (position_limit (logs 0))
    && nat_lt (length (waiting i.shape (logs 0))) (addresses i logs)))
