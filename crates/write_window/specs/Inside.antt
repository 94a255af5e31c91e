-- What the fields of a window stand for, and what they keep.
use Rattle.std.specs.Prelude.{◌≡◌, ℕ, ◌+◌, ◌<◌, ◌≤◌, ◌^◌, List, length}
use Rattle.std.specs.VecDeque.{deque_capacity}
use Rattle.write_window.specs.declared.held.Held.{Held}
use Rattle.write_window.specs.Entries.{landed_first, users_in, AreFrom}
use Rattle.write_window.specs.Window.{WindowView}
use Rattle.write_window.specs.declared.window.Window.TheInside as inside

abbrev pub window : inside.Inside → WindowView
window w = record { size = w.size; freed = w.freed; users = w.users; entries = w.entries.items }

-- the numbers that a window keeps beside its entries
pub record Keeps (freed users count run_users : ℕ) (entries : List Held) : Type 0 where
  pub numbered : AreFrom freed entries
  -- the run has the entries that have landed before the first that hasn't
  pub landed : count ≡ length (landed_first entries)
  pub landed_users : run_users ≡ users_in (landed_first entries)
  pub fits : users ≤ freed
  -- the next position is a number of 64 bits
  pub short : freed + length entries < 2 ^ 64

pub record IsWindow (w : inside.Inside) : Type 0 where
  pub keeps : Keeps w.freed w.users w.run.count w.run.users w.entries.items
  pub few : length w.entries.items ≤ w.size
  -- the ring never grows
  pub room : w.size ≤ deque_capacity w.entries
