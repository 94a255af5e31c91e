-- The rows that are kept beside the entries of the window.
use Rattle.std.proofs.Common.{◌≡◌, ℕ, ◌%◌, Some, None, Option, List, length, refl, length-set}
use Rattle.std.specs.Prelude.{slice_set}
use Rattle.std.specs.Option.{option_map_or}
use Rattle.l2p_map.specs.declared.slot.Slot.{Slot}
use Rattle.l2p_map.specs.declared.slot.Slot.TheVariants.{Unwritten, Cached, Media}
use Rattle.pblk_core.specs.declared.hold.Hold.{Hold}
use Rattle.pblk_core.specs.Holds.{row_at, with_taker, rows_with_taker}

pub taker_length : (slot : Slot) (by : ℕ) (rows : List Hold) → length (rows_with_taker slot by rows) ≡ length rows
taker_length Unwritten by rows = refl
taker_length (Media line at position) by rows = refl
taker_length (Cached position) by rows = go (row_at rows position)
  where
    go : (o : Option Hold) → length (option_map_or (λ h. slice_set rows (position % length rows) (with_taker by h)) o rows) ≡ length rows
    go None = refl
    go (Some h) = length-set rows (position % length rows) (with_taker by h)
