-- The window: the entries from the front `freed` to the last that was taken (Bjørling, González, Bonnet, FAST 2017, write
-- buffering).
use Rattle.std.specs.Prelude.{◌≡◌, ℕ, ◌+◌, ◌-◌, ◌<◌, ◌≤◌, Bool, true, false, List, [], ◌∷◌, length, Option, None, nat_lt, if◌then◌else◌, slice_get, slice_set}
use Rattle.std.specs.Option.{option_map, option_map_or}
use Rattle.std.specs.List.{AllByRecursion}
use Rattle.pblk_model.specs.Frames.{Region, FrameView}
use Rattle.pblk_model.specs.declared.run.Front.{Front}
use Rattle.write_window.specs.declared.held.Progress.{Progress}
use Rattle.write_window.specs.declared.held.Held.{Held}
use Rattle.write_window.specs.Entries.{has_landed, is_readable, users_in, landed_first, with_progress}

pub record WindowView : Type 0 where
  -- how many entries it has room for
  pub size : ℕ
  -- the position of the first that it holds; all before it have given their frames back
  pub freed : ℕ
  -- how many of those were users' writes
  pub users : ℕ
  pub entries : List Held

-- one past the last position that was taken
abbrev pub taken : WindowView → ℕ
taken w = w.freed + length w.entries

abbrev pub IsHeld : WindowView → ℕ → Type 0
IsHeld w position = (w.freed ≤ position) × (position < taken w)

abbrev pub held_at : WindowView → ℕ → Option Held
held_at w position = if nat_lt position w.freed then None else slice_get w.entries (position - w.freed)

-- the frame of the entry of this position
abbrev pub frame_at : WindowView → ℕ → Option FrameView
frame_at w position = option_map (λ h. h.entry.frame) (held_at w position)

abbrev pub sector_at : WindowView → ℕ → Option (List ℕ)
sector_at w position = option_map (λ h. h.entry.frame.bytes) (held_at w position)

abbrev pub has_landed_at : WindowView → ℕ → Bool
has_landed_at w position = option_map_or (λ h. has_landed h.progress) (held_at w position) false

abbrev pub is_readable_at : WindowView → ℕ → Bool
is_readable_at w position = option_map_or (λ h. is_readable h.progress) (held_at w position) false

-- the window with the entry of this position so far on its way
abbrev pub turned : WindowView → ℕ → Progress → WindowView
turned w position to = record w { entries = with_progress w.entries (position - w.freed) to }

-- All positions below this front have landed, and its own hasn't. Its users' writes are those below it.
abbrev pub synced : WindowView → Front
synced w = record { users = w.users + users_in (landed_first w.entries); position = w.freed + length (landed_first w.entries) }

-- the frames of all entries are of this region
abbrev pub AreOf : Region → List Held → Type 0
AreOf region held = AllByRecursion (λ (h : Held). h.entry.frame.region ≡ region) held

-- of a region's ranges, which are left once the frames of these entries have come back
abbrev pub given : List Held → List Bool → List Bool
given [] left = left
given (h ∷ held) left = given held (slice_set left h.entry.frame.number true)
