-- What the window holds, by the logs of a mount. A log doesn't say in which frame an entry's bytes
-- are: windows are compared by the bytes.
use Rattle.std.specs.Prelude.{ℕ, ◌-◌, nat_lt, Bool, true, false, List, map, drop, length, Option, Some, None}
use Rattle.std.specs.List.{filter, list_any}
use Rattle.std.specs.Option.{option_map}
use Rattle.pblk_model.specs.declared.shape.Shape.{Shape}
use Rattle.pblk_world.specs.Events.{Source, Entry, Logged}
use Rattle.pblk_world.specs.EngineLog.{Taken, takes, placements}
use Rattle.pblk_world.specs.Fronts.{first_position, has_landed_at, user_takes}
use Rattle.pblk_world.specs.Space.{gives_back, freed}
use Rattle.sector_pool.specs.declared.entry.Class.{Class}
use Rattle.sector_pool.specs.declared.entry.Class.TheVariants.{User, Copy}
use Rattle.sector_pool.specs.declared.entry.Source.{Source as EntrySource}
use Rattle.write_window.specs.declared.held.Progress.{Progress}
use Rattle.write_window.specs.declared.held.Progress.TheVariants.{Waiting, Landed, Readable}
use Rattle.write_window.specs.declared.held.Held.{Held}
use Rattle.write_window.specs.Window.{WindowView}

-- an entry of the window without its frame
pub record HeldSector : Type 0 where
  pub position : ℕ
  pub class : Class
  pub lba : ℕ
  pub source : Option EntrySource
  pub sector : List ℕ
  pub progress : Progress

-- a window without its frames
pub record HeldSectors : Type 0 where
  pub freed : ℕ
  -- how many of the positions below were users' writes
  pub users : ℕ
  pub entries : List HeldSector

abbrev pub without_frame : Held → HeldSector
without_frame h = record {
  position = h.entry.position;
  class = h.entry.class;
  lba = h.entry.lba;
  source = h.entry.source;
  sector = h.entry.frame.bytes;
  progress = h.progress;
}

abbrev pub sectors_in : WindowView → HeldSectors
sectors_in w = record { freed = w.freed; users = w.users; entries = map without_frame w.entries }

-- By the logs.

abbrev pub class_of : Option Source → Class
class_of None = User
class_of (Some source) = Copy

abbrev pub source_of : Option Source → Option EntrySource
source_of source = option_map (λ at. record { line = at.line; at = at.at; position = at.position }) source

-- a block of the position that has landed can be read
abbrev pub is_given_back : Shape → List Logged → ℕ → Bool
is_given_back s log position = list_any (gives_back s log position) (placements log)

-- how far an entry has come: landed or not, and, once it has landed, readable or not
abbrev pub progress_by : Bool → Bool → Progress
progress_by false readable = Waiting
progress_by true false = Landed
progress_by true true = Readable

abbrev pub progress_of : Shape → List Logged → ℕ → Progress
progress_of s log position = progress_by (has_landed_at s log position) (is_given_back s log position)

abbrev pub held_of : Shape → List Logged → Taken → HeldSector
held_of s log t = record {
  position = t.entry.position;
  class = class_of t.entry.source;
  lba = t.entry.lba;
  source = source_of t.entry.source;
  sector = t.entry.sector;
  progress = progress_of s log t.entry.position;
}

-- an entry of which no block has landed
abbrev pub waiting_sector : Entry → HeldSector
waiting_sector entry = record {
  position = entry.position;
  class = class_of entry.source;
  lba = entry.lba;
  source = source_of entry.source;
  sector = entry.sector;
  progress = Waiting;
}

-- the users' writes below a position
abbrev pub users_below : List Logged → ℕ → ℕ
users_below log position = length (filter (λ t. nat_lt t.entry.position position) (user_takes log))

-- The entries from a position to the last that was taken. A window may still hold some that can be
-- given back.
abbrev pub window_from : Shape → List Logged → ℕ → HeldSectors
window_from s log from = record {
  freed = from;
  users = users_below log from;
  entries = map (held_of s log) (drop (from - first_position log) (takes log));
}

-- Once all those are given back, they are the entries from the front freed.
abbrev pub window_of : Shape → List Logged → HeldSectors
window_of s log = window_from s log (freed s log)
