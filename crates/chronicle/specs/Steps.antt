-- How a seat's view changes at each kind of step.
use Rattle.std.specs.Prelude.{ℕ, ◌+◌, true, false, [], ◌∷◌, ◌++◌, drop, take, List, Option, Some, None}
use Rattle.std.specs.Option.{option_map}
use Rattle.std.specs.List.{range_with_len}
use Rattle.pblk_model.specs.Shape.{small}
use Rattle.pblk_world.specs.Events.{Event, Maker}
use Rattle.chronicle.specs.Views.{Part, Past, View}
use Rattle.chronicle.specs.Prefixes.{longer_of, with_event, next_after, either}

-- where nothing is known it may be anything
abbrev pub no_past : Past
no_past = record { image = record { shape = small; units = [] }; logs = [] }

abbrev pub nothing : Part
nothing = record { past = no_past; owned = []; known = []; makers = []; spare = None }

-- the view of a seat that owns and knows this
abbrev pub seated : Part → View
seated part = record { fresh = false; mine = part; heard = nothing }

-- the first seat, which owns so many logs
abbrev pub starting : ℕ → View
starting count = record { fresh = true; mine = record nothing { owned = range_with_len 0 count }; heard = nothing }

-- what is left of a seat that went into another
abbrev pub spent : View
spent = seated nothing

-- the first seat gets the image and the logs so far, and names all workers
abbrev pub began : View → Past → View
began v past = seated (record { past = past; owned = v.mine.owned; known = past.logs; makers = []; spare = Some 0 })

abbrev pub appended : View → ℕ → Event → View
appended v author e = seated (record v.mine { known = with_event v.mine.known author e; makers = next_after e v.mine.makers })

-- the first of its logs goes to a new seat
abbrev pub but_first : View → View
but_first v = seated (record v.mine { owned = drop 1 v.mine.owned })

abbrev pub first_of : View → View
first_of v = seated (record v.mine { owned = take 1 v.mine.owned; makers = []; spare = None })

-- a seat that owns no log, numbers no commands, and knows as much
abbrev pub noted : View → View
noted v = seated (record v.mine { owned = []; makers = []; spare = None })

-- what is left where a new seat numbers the commands that the seat numbered, and that seat
abbrev pub without_makers : View → View
without_makers v = seated (record v.mine { makers = []; spare = None })

abbrev pub lent : View → View
lent v = seated (record v.mine { owned = [] })

-- the next new worker is named, and a new seat numbers its commands
abbrev pub naming_next : View → View
naming_next v = seated (record v.mine { spare = option_map (λ n. n + 1) v.mine.spare })

abbrev pub makers_from : Option ℕ → List Maker
makers_from None = []
makers_from (Some n) = record { worker = n; made = 0 } ∷ []

abbrev pub named : View → View
named v = seated (record v.mine { owned = []; makers = makers_from v.mine.spare; spare = None })

-- another seat is taken in
abbrev pub with_heard : View → View → View
with_heard v w = record { fresh = false; mine = v.mine; heard = w.mine }

-- the logs of both, of each log the longer prefix, and the workers of both
abbrev pub joined : Part → Part → Part
joined mine heard = record mine {
  owned = mine.owned ++ heard.owned;
  known = longer_of mine.known heard.known;
  makers = mine.makers ++ heard.makers;
  spare = either mine.spare heard.spare;
}

abbrev pub merged : View → View
merged v = seated (joined v.mine v.heard)
