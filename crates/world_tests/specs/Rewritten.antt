-- The world over an image of an older mount, and on: the freed line is reset and opened again, and the sector is written to
-- the very block that it had when the mount began. And a law on reads that doesn't hold there.
use Rattle.std.specs.Prelude.{ℕ, List, [], ◌∷◌, ◌<◌, ◌≤◌, ◌≡◌, replicate, take, length, slice_get, Some, None}
use Rattle.pblk_model.specs.Shape.{small}
use Rattle.pblk_model.specs.Chunk.{Block}
use Rattle.pblk_model.specs.ChunkStep.{Done}
use Rattle.pblk_model.specs.Contents.{contents}
use Rattle.pblk_model.specs.History.{after}
use Rattle.pblk_model.specs.Image.{Image, block_at}
use Rattle.pblk_model.specs.Marks.{sector_mark, pad_block}
use Rattle.pblk_model.specs.Records.{named}
use Rattle.pblk_model.specs.StartRecord.{StartRecord, start_bytes}
use Rattle.pblk_model.specs.UnitLog.{Answered}
use Rattle.pblk_world.specs.AtRest.{logs_at}
use Rattle.pblk_world.specs.Events.{Entry, Source, Stripe, Take, Open, Place, Landed, ResetDone, Step}
use Rattle.pblk_world.specs.Fronts.{history, last_take}
use Rattle.pblk_world.specs.Lines.{found_image}
use Rattle.pblk_world.specs.Taking.{IsPlaceOfLatest}
use Rattle.pblk_world.specs.World.{World, log_of, media}
use Rattle.world_tests.specs.Steps.{engine_step, unit_step, program_of, meta_blocks}
use Rattle.world_tests.specs.Collected.{reset_event}
use Rattle.world_tests.specs.Overwritten.{newer_sector}
use Rattle.world_tests.specs.Older.{older_world}

-- Both chunks of line 0 are reset.

abbrev pub reset_first : Step
reset_first = unit_step 1 reset_event 2 (8 ∷ 1 ∷ 1 ∷ [])

abbrev pub first_reset : World
first_reset = reset_first ∷ older_world

abbrev pub note_first : Step
note_first = engine_step (ResetDone 0 1) (8 ∷ 2 ∷ 1 ∷ [])

abbrev pub first_noted : World
first_noted = note_first ∷ first_reset

abbrev pub reset_second : Step
reset_second = unit_step 2 reset_event 3 (9 ∷ 2 ∷ 1 ∷ [])

abbrev pub second_reset : World
second_reset = reset_second ∷ first_noted

abbrev pub note_second : Step
note_second = engine_step (ResetDone 1 1) (9 ∷ 2 ∷ 2 ∷ [])

abbrev pub second_noted : World
second_noted = note_second ∷ second_reset

-- It is opened for the sector's next content.

abbrev pub next_entry : Entry
next_entry = record { position = 2; lba = 5; source = None; sector = newer_sector }

abbrev pub take_next : Step
take_next = engine_step (Take next_entry (sector_mark 5 2)) (10 ∷ 2 ∷ 2 ∷ [])

abbrev pub next_taken : World
next_taken = take_next ∷ second_noted

abbrev pub again_start : StartRecord
again_start = record { line = 0; width = 2; seq = 3; first_seq = 2; front = 2; capacity = 64; rows = [] }

unfoldable pub again_spelling : List ℕ
again_spelling = start_bytes small again_start

abbrev pub open_again : Step
open_again = engine_step (Open 0 again_start) (11 ∷ 2 ∷ 2 ∷ [])

abbrev pub again_opened : World
again_opened = open_again ∷ next_taken

abbrev pub again_stripe : Stripe
again_stripe = record { line = 0; unit = 0; chunk = 0; at = 0; blocks = meta_blocks 3 again_spelling }

abbrev pub place_again : Step
place_again = engine_step (Place again_stripe) (12 ∷ 2 ∷ 2 ∷ [])

abbrev pub again_placed : World
again_placed = place_again ∷ again_opened

abbrev pub write_again : Step
write_again = unit_step 1 (program_of again_stripe (Answered Done)) 4 (13 ∷ 2 ∷ 2 ∷ [])

abbrev pub again_written : World
again_written = write_again ∷ again_placed

abbrev pub land_again : Step
land_again = engine_step (Landed 0 2) (13 ∷ 3 ∷ 2 ∷ [])

abbrev pub again_landed : World
again_landed = land_again ∷ again_written

abbrev pub next_block : Block
next_block = record { sector = newer_sector; mark = sector_mark 5 2 }

abbrev pub next_stripe : Stripe
next_stripe = record { line = 0; unit = 1; chunk = 0; at = 0; blocks = next_block ∷ replicate 3 (pad_block small) }

abbrev pub place_next : Step
place_next = engine_step (Place next_stripe) (14 ∷ 3 ∷ 2 ∷ [])

abbrev pub next_placed : World
next_placed = place_next ∷ again_landed

abbrev pub write_next : Step
write_next = unit_step 2 (program_of next_stripe (Answered Done)) 5 (15 ∷ 3 ∷ 2 ∷ [])

abbrev pub rewritten_world : World
rewritten_world = write_next ∷ next_placed

-- Where the sector was when the mount had just begun.
abbrev pub place_then : Source
place_then = record { line = 0; at = 4; position = 0 }

-- A block in the place where a sector's latest content was at a length of the engine's log has that content, if its mark
-- names the sector, whatever its position.
abbrev pub IsToldByLba : Image → World → Type 0
IsToldByLba i w = (lba n : ℕ) (place : Source) (block : Block) → 0 < n → n ≤ length (log_of w 0) → lba < i.shape.capacity
    → IsPlaceOfLatest i (logs_at n (log_of w)) lba place (last_take (take n (log_of w 0)) lba)
    → block_at (media i (log_of w)) place.line place.at ≡ Some block → named i.shape block.mark ≡ Some (Some lba)
    → slice_get (after (contents (found_image i (log_of w))) (history (take n (log_of w 0)))) lba ≡ Some block.sector
