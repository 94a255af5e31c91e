-- Where a sector stands once a block of its entry can be read.
use Rattle.std.specs.Prelude.{ℕ, ◌+◌, ◌*◌, ◌/◌, ◌%◌, ◌&&◌, List, Option}
use Rattle.std.specs.List.{find, enumerate_from}
use Rattle.std.specs.Option.{option_map, option_map_or, unwrap_or}
use Rattle.pblk_model.specs.declared.shape.Shape.{Shape}
use Rattle.pblk_model.specs.Image.{Image}
use Rattle.pblk_world.specs.Events.{Logged}
use Rattle.pblk_world.specs.World.{Logs}
use Rattle.pblk_world.specs.EngineLog.{Opened, Opening, bears_position}
use Rattle.pblk_world.specs.Space.{is_readable_in}
use Rattle.l2p_map.specs.declared.slot.Slot.{Slot}
use Rattle.l2p_map.specs.declared.slot.Slot.TheVariants.{Unwritten, Cached, Media}
use Rattle.stripe_placer.specs.OpenLines.{numbers}
use Rattle.core_laws.specs.OpenedLines.{as_opened, is_stripe_at}
use Rattle.core_laws.specs.ChunkBlocks.{chunk_blocks}

-- the first block of the chunk that bears the position and can be read
abbrev pub block_read : Shape → List Logged → Opening → ℕ → ℕ → Option ℕ
block_read s log o unit position = option_map (λ b. b.0)
    (find (λ b. bears_position s position b.1 && is_readable_in s log unit b.0 (Opened o))
    (enumerate_from 0 (chunk_blocks log o unit)))

-- the line address of a block of a unit's chunk: that of its stripe, and one more for each block
-- before it
abbrev pub address_of_block : Image → Logs → Opening → ℕ → ℕ → ℕ
address_of_block i logs o unit block = unwrap_or (find
    (is_stripe_at i.shape (as_opened i logs o) unit (block / i.shape.ws_opt * i.shape.ws_opt))
    (numbers (as_opened i logs o))) 0 * i.shape.ws_opt + block % i.shape.ws_opt

-- A sector that is in the buffer leaves it for that block; the others stay.
abbrev pub read_slot : Image → Logs → Opening → ℕ → (ℕ → Option ℕ) → Slot → Slot
read_slot i logs o unit read Unwritten = Unwritten
read_slot i logs o unit read (Cached position) = option_map_or
    (λ block. Media o.line (address_of_block i logs o unit block) position) (read position) (Cached position)
read_slot i logs o unit read (Media line at position) = Media line at position
