-- An entry that the core takes, as the event of the log.
use Rattle.std.specs.Prelude.{ℕ, ◌≡◌, ◌≢◌, ◌==◌, ◌&&◌, if◌then◌else◌, Bool, true, false, ⊤, Option, Some, None}
use Rattle.std.specs.Option.{option_map}
use Rattle.std.specs.FinMap as fin
use Rattle.std.specs.FinMap.{FinMap}
use Rattle.std.specs.Ordering.{nat_cmp}
use Rattle.pblk_model.specs.declared.chunk.Mark.{Mark}
use Rattle.pblk_model.specs.Chunk.{Block}
use Rattle.pblk_model.specs.Image.{Image, block_at}
use Rattle.pblk_model.specs.Marks.{sector_mark, void_mark}
use Rattle.pblk_world.specs.Events.{Entry, Source}
use Rattle.pblk_world.specs.World.{Logs, media}
use Rattle.l2p_map.specs.declared.slot.Slot.{Slot}
use Rattle.l2p_map.specs.declared.slot.Slot.TheVariants.{Unwritten, Cached, Media}
use Rattle.sector_pool.specs.declared.entry.Class.{Class}
use Rattle.sector_pool.specs.declared.entry.Class.TheVariants.{User, Copy}
use Rattle.sector_pool.specs.declared.entry.Source.{Source as EntrySource}
use Rattle.sector_pool.specs.declared.entry.Entry.{Entry as FramedEntry}

abbrev pub entry_of : FramedEntry → Entry
entry_of e = record {
  position = e.position;
  lba = e.lba;
  source = option_map (λ (at : EntrySource). record { line = at.line; at = at.at; position = at.position }) e.source;
  sector = e.frame.bytes;
}

-- the slot is just this block
abbrev pub is_source : Option Slot → EntrySource → Bool
is_source None source = false
is_source (Some Unwritten) source = false
is_source (Some (Cached position)) source = false
is_source (Some (Media line at position)) source = (line == source.line) && ((at == source.at) && (position == source.position))

-- An entry becomes the latest of its sector: a user's does, and a copy where the map still names
-- its source.
abbrev pub is_latest_from : Option Slot → Option EntrySource → Bool
is_latest_from slot None = true
is_latest_from slot (Some source) = is_source slot source

abbrev pub is_latest_in : FinMap nat_cmp Slot → FramedEntry → Bool
is_latest_in m e = is_latest_from (fin.get m e.lba) e.source

-- The mark with which it is written: its sector's, or Void.
abbrev pub mark_of : FinMap nat_cmp Slot → FramedEntry → Mark
mark_of m e = if is_latest_in m e then sector_mark e.lba e.position else void_mark e.position

-- a user's entry has no source, and a copy has one, which isn't in the buffer
abbrev pub IsClassed : FinMap nat_cmp Slot → FramedEntry → Class → Option EntrySource → Type 0
IsClassed m e User source = source ≡ None
IsClassed m e Copy source = (from : EntrySource) × (source ≡ Some from) × (fin.get m e.lba ≢ Some (Cached from.position))

-- how many users' writes an entry of this class is
abbrev pub users_in : Class → ℕ
users_in User = 1
users_in Copy = 0

-- A copy has the sector of its source, as the block stands there by the logs.
pub record IsCopyOf (i : Image) (logs : Logs) (e : Entry) (source : Source) : Type 0 where
  pub block : Block
  pub there : block_at (media i logs) source.line source.at ≡ Some block
  pub sector : e.sector ≡ block.sector

abbrev pub HasItsSector : Image → Logs → Entry → Option Source → Type 0
HasItsSector i logs e None = ⊤
HasItsSector i logs e (Some source) = IsCopyOf i logs e source
