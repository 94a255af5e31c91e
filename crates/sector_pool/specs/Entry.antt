-- An entry, as contracts see it.
use Rattle.std.specs.Prelude.{ℕ, List, Option}
use Rattle.pblk_model.specs.Frames.{Region}
use Rattle.sector_pool.specs.declared.entry.Class.{Class}
use Rattle.sector_pool.specs.declared.entry.Source.{Source}
use Rattle.sector_pool.specs.declared.entry.Entry.{Entry}

-- what two entries have in common where they are equal
pub record EntryView : Type 0 where
  pub position : ℕ
  pub class : Class
  pub lba : ℕ
  pub source : Option Source
  pub sector : List ℕ

abbrev pub entry_view : Entry → EntryView
entry_view e = record { position = e.position; class = e.class; lba = e.lba; source = e.source; sector = e.frame.bytes }

-- the region that its frame is of, in which alone the frame goes back
abbrev pub entry_region : Entry → Region
entry_region e = e.frame.region
