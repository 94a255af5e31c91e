-- What the map holds of a sector, by the logs of a mount.
use Rattle.std.specs.Prelude.{ℕ, ◌+◌, ◌-◌, ◌*◌, ◌&&◌, Option, Some, None}
use Rattle.std.specs.List.{find, enumerate_from}
use Rattle.std.specs.Option.{option_map, option_map_or, unwrap_or}
use Rattle.pblk_model.specs.Image.{Image}
use Rattle.pblk_model.specs.Records.{Record}
use Rattle.pblk_model.specs.Contents.{counted, winner}
use Rattle.pblk_world.specs.World.{Logs}
use Rattle.pblk_world.specs.EngineLog.{Taken, LineLife, AsFound, Opened, Freed, Placed, placements, bears_position}
use Rattle.pblk_world.specs.Fronts.{last_take}
use Rattle.pblk_world.specs.Lines.{found_image}
use Rattle.pblk_world.specs.Space.{is_readable_in, gives_back}
use Rattle.l2p_map.specs.declared.slot.Slot.{Slot}
use Rattle.l2p_map.specs.declared.slot.Slot.TheVariants.{Unwritten, Cached, Media}
use Rattle.core_laws.specs.OpenedLines.{as_opened}
use Rattle.core_laws.specs.PlacerOf.{number_of}

-- A block on the drive. The line address of a placed stripe's block is that of the stripe, and one
-- more for each block before it.

abbrev pub address_in : Image → Logs → LineLife → Placed → ℕ → ℕ
address_in i logs AsFound p block = 0
address_in i logs (Opened o) p block = number_of i.shape (as_opened i logs o) p.stripe * i.shape.ws_opt + (block - p.stripe.at)
address_in i logs (Freed past knows) p block = 0

-- the first of its blocks that bears the position and can be read
abbrev pub readable_block : Image → Logs → ℕ → Placed → Option ℕ
readable_block i logs position p = option_map (λ b. b.0)
    (find (λ b. bears_position i.shape position b.1 && is_readable_in i.shape (logs 0) p.stripe.unit b.0 p.life)
    (enumerate_from p.stripe.at p.stripe.blocks))

abbrev pub media_of : Image → Logs → ℕ → Placed → Slot
media_of i logs position p =
    Media p.stripe.line (address_in i logs p.life p (unwrap_or (readable_block i logs position p) 0)) position

-- An entry is in the buffer until a block of it that has landed can be read.
abbrev pub slot_of_entry : Image → Logs → ℕ → Slot
slot_of_entry i logs position = option_map_or (media_of i logs position)
    (find (gives_back i.shape (logs 0) position) (placements (logs 0))) (Cached position)

-- a sector that wasn't written in this mount is where it was found
abbrev pub slot_of_winner : Option Record → Slot
slot_of_winner None = Unwritten
slot_of_winner (Some r) = Media r.line r.at r.position

abbrev pub slot_by : Image → Logs → ℕ → Option Taken → Slot
slot_by i logs lba None = slot_of_winner (winner (counted (found_image i logs)) lba)
slot_by i logs lba (Some t) = slot_of_entry i logs t.entry.position

-- The latest content of a sector: its last entry that isn't Void, and else its winner in the image
-- that the mount found.
abbrev pub slot_of : Image → Logs → ℕ → Slot
slot_of i logs lba = slot_by i logs lba (last_take (logs 0) lba)
