-- The blocks that a buffer holds.
use Rattle.std.specs.Prelude.{◌≡◌, ◌*◌, ◌≤◌, length, take}
use Rattle.scan_recovery.specs.declared.line_buffer.LineBuffer.TheInside.{Inside}
use Rattle.scan_recovery.specs.Packed.{PackedBlocks, packed, written_count}

abbrev pub packed_blocks : Inside → PackedBlocks
packed_blocks b = record { size = b.size; blocks = packed b.size (take b.used b.bytes.items) b.marks.items }

-- the sectors of those that are written stand at its front
pub record IsLineBuffer (b : Inside) : Type 0 where
  pub short : b.size ≤ 4096
  pub used : b.used ≡ written_count b.marks.items * b.size
  pub within : b.used ≤ length b.bytes.items
