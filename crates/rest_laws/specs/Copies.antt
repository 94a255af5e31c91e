-- Copies that were taken, and a victim of which nothing more is to be copied.
use Rattle.std.specs.Prelude.{ℕ, ◌≤◌, ◌≡◌, List, slice_get, Some}
use Rattle.pblk_model.specs.declared.chunk.Mark.{Mark}
use Rattle.pblk_model.specs.Image.{Image}
use Rattle.pblk_world.specs.AtRest.{victim_now}
use Rattle.pblk_world.specs.Events.{Decides, Entry, Logged, Source, Take}
use Rattle.pblk_world.specs.Fronts.{synced}
use Rattle.pblk_world.specs.Victims.{live, taken_up_to}
use Rattle.pblk_world.specs.World.{Logs}

-- The event of this number took a copy, with this mark.
pub record TookCopy (log : List Logged) (number : ℕ) (entry : Entry) (mark : Mark) : Type 0 where
  pub knows : List ℕ
  pub there : slice_get log number
      ≡ Some (record { event = Decides (Take entry mark); knows = knows })
  pub source : Source
  pub is_copy : entry.source ≡ Some source

-- The line is at work as the victim. No sector is live in it, and each position that took one from
-- it is below the front synced.
pub record IsEmptied (i : Image) (logs : Logs) (line : ℕ) : Type 0 where
  pub at_work : victim_now i logs ≡ Some line
  pub none_live : live i logs line ≡ 0
  pub takers_synced : taken_up_to i logs line ≤ synced i.shape (logs 0)
