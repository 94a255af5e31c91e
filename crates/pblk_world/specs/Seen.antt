-- What a session of a target has seen.
use Rattle.std.specs.Prelude.{ℕ, ◌+◌, max, List, map}
use Rattle.std.specs.List.{fold}
use Rattle.pblk_model.specs.declared.run.Front.{Front}
use Rattle.pblk_model.specs.declared.run.Place.{Place}

pub data SessionEvent : Type 0 where
  -- it wrote, and its sectors got this place
  Wrote : Place → SessionEvent
  -- a read or a flush answered this front
  Answered : Front → SessionEvent
  -- it heard a note, which names the position that another session had seen
  Heard : ℕ → SessionEvent

abbrev pub position_of : SessionEvent → ℕ
position_of (Wrote place) = place.first + place.count
position_of (Answered front) = front.position
position_of (Heard position) = position

-- The position up to which a session has seen: the greatest of the ends of its own writes, of the
-- fronts that it was answered, and of the positions that the notes which it heard tell of.
abbrev pub seen : List SessionEvent → ℕ
seen events = fold max 0 (map position_of events)
