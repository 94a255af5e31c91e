-- What a core needs of an entry to take it, and what it promises of it.
use Rattle.std.specs.Prelude.{◌^◌, ◌<◌, ◌≡◌, [], ◌∷◌, ◌++◌, length}
use Rattle.pblk_model.specs.Chunk.{IsBlock}
use Rattle.pblk_world.specs.Taking.{MayTake}
use Rattle.pblk_world.specs.World.{log_of}
use Rattle.sector_pool.specs.declared.entry.Entry.{Entry}
use Rattle.write_window.specs.declared.held.Progress.TheVariants.{Waiting}
use Rattle.write_window.specs.Window as view
use Rattle.write_window.specs.Window.{WindowView}
use Rattle.pblk_core.specs.Mounts.{InItsMount}
use Rattle.pblk_core.specs.Taken.{HasItsSector, IsClassed, entry_of, mark_of}
use Rattle.pblk_core.specs.declared.target_core.Core.{Core}

-- Its position is the next, and below 2^62. The window has room for it. It has a source exactly
-- where it is a copy, and its sector is below the capacity.
pub record CanTake (c : Core) (e : Entry) : Type 0 where
  pub next : e.position ≡ view.taken c.window
  pub position : e.position < 2 ^ 62
  pub room : length c.window.entries < c.window.size
  pub class : IsClassed c.map e e.class e.source
  pub lba : e.lba < c.layout.capacity

-- With its mark it may be taken in the core's mount, if it is a block of the drive, and a copy has
-- the sector of its source.
abbrev pub IsLegalTake : Core → Entry → Type 0
IsLegalTake c e = InItsMount c (λ i w. IsBlock i.shape (record { sector = e.frame.bytes; mark = mark_of c.map e })
    → HasItsSector i (log_of w) (entry_of e) (entry_of e).source → MayTake i (log_of w) (entry_of e) (mark_of c.map e))

-- the window with the entry as its last, which waits
abbrev pub with_waiting : WindowView → Entry → WindowView
with_waiting w e = record w { entries = w.entries ++ record { entry = e; progress = Waiting } ∷ [] }
