-- The entries of a stripe that was lost, in the tables of a core.
use Rattle.std.specs.Prelude.{ℕ, ◌+◌, ◌*◌, ◌%◌, ◌≤◌, ◌≡◌, ◌==◌, ◌&&◌, if◌then◌else◌, not, Bool, true, false, List, [], length, slice_get, slice_set, Option, Some, None}
use Rattle.std.specs.List.{Contains, filter, filter_map, fold}
use Rattle.std.specs.Option.{is_some, option_map_or}
use Rattle.pblk_model.specs.declared.chunk.Mark.{Mark}
use Rattle.pblk_model.specs.declared.shape.Shape.{Shape}
use Rattle.pblk_model.specs.Image.{Image}
use Rattle.pblk_model.specs.Marks.{void_lba}
use Rattle.pblk_world.specs.Answering.{MayLose}
use Rattle.pblk_world.specs.Events.{Stripe}
use Rattle.pblk_world.specs.Victims.{position_in}
use Rattle.pblk_world.specs.World.{Logs}
use Rattle.line_table.specs.declared.row.LineState.{LineState}
use Rattle.line_table.specs.declared.row.LineState.TheVariants.{Free, Open, Full, Failed, Freed, Dead}
use Rattle.line_table.specs.Rows.{Table}
use Rattle.stripe_placer.specs.Placing.{Placing, Program, held, waits}
use Rattle.stripe_placer.specs.Placing.UnitRow.{UnderWay}
use Rattle.core_laws.specs.PlacedEntries.{lower_by}
use Rattle.core_laws.specs.PlacerOf.{positions_in_stripe}
use Rattle.pblk_core.specs.Holds.{row_at}
use Rattle.pblk_core.specs.declared.hold.Hold.{Hold}
use Rattle.pblk_core.specs.declared.target_core.Core.{Core}

-- the placer has the entries that the stripe holds, where its unit has a program under way
abbrev pub HasItsEntries : Core → Stripe → Type 0
HasItsEntries c stripe = (of : Program) → slice_get c.placer.units stripe.unit ≡ Some (UnderWay of)
    → positions_in_stripe c.layout stripe ≡ of.positions

-- A loss that the engine may note left so many blocks of the stripe written.
pub record IsLossOf (i : Image) (logs : Logs) (unit number kept : ℕ) : Type 0 where
  pub may : MayLose logs unit number
  pub written : kept ≡ may.landed_before * i.shape.ws_min

-- The table of lines.

-- An entry is in its line no more, which has a live sector less unless a later entry of the sector
-- was taken. A Void entry was none.
abbrev pub lower_hold : ℕ → Table → Option Hold → Table
lower_hold line t None = t
lower_hold line t (Some h) = if h.mark.lba == void_lba then t else lower_by h.taker line t

abbrev pub lowered_lines : List Hold → ℕ → Table → List ℕ → Table
lowered_lines rows line t positions = fold (λ u position. lower_hold line u (row_at rows position)) t positions

-- the entry is a live sector of its line
abbrev pub is_live : Hold → Bool
is_live h = not (h.mark.lba == void_lba) && not (is_some h.taker)

abbrev pub live_among : List Hold → List ℕ → ℕ
live_among rows positions = length (filter (λ position. option_map_or is_live (row_at rows position) false) positions)

-- the data addresses that a line loses with a stripe: all that have no entry yet, where it is Open
abbrev pub addresses_in : LineState → ℕ → ℕ
addresses_in Free n = 0
addresses_in Open n = n
addresses_in Full n = 0
addresses_in Failed n = 0
addresses_in Freed n = 0
addresses_in Dead n = 0

-- The rows of entries.

abbrev pub without_line : Hold → Hold
without_line h = record { mark = h.mark; line = None; taker = h.taker }

abbrev pub row_lost : List Hold → ℕ → List Hold
row_lost rows position =
    option_map_or (λ h. slice_set rows (position % length rows) (without_line h)) (row_at rows position) rows

abbrev pub lost_rows : List Hold → List ℕ → List Hold
lost_rows rows positions = fold row_lost rows positions

-- The placer.

-- the positions that marks bear
abbrev pub position_of_mark : Shape → Mark → Option ℕ
position_of_mark s m = position_in s (record { sector = []; mark = m })

abbrev pub positions_of_marks : Shape → List Mark → List ℕ
positions_of_marks s marks = filter_map (position_of_mark s) marks

abbrev pub all_wait : Placing → List ℕ → Placing
all_wait p positions = fold (λ q position. waits q position true) p positions

-- There is room for all of them, and none of them is there.
pub record HasRoomFor (p : Placing) (positions : List ℕ) : Type 0 where
  pub fits : length (held p) + length positions ≤ p.shape.ring
  pub others : (k q : ℕ) → slice_get positions k ≡ Some q → ¬ Contains (held p) q
  pub apart : (j k q : ℕ) → slice_get positions j ≡ Some q → slice_get positions k ≡ Some q → j ≡ k
