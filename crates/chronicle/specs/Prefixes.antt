-- What is known of the logs of a mount: a prefix of each.
use Rattle.std.specs.Prelude.{◌≡◌, ℕ, suc, ◌+◌, ◌^◌, ◌<◌, ◌≤◌, ◌==◌, ⊤, nat_lt, if◌then◌else◌, List, [], ◌∷◌, ◌++◌, length, map, slice_get, slice_index_or, slice_set, Option, Some, None}
use Rattle.std.specs.List.{Contains}
use mathlib.Core.List.{IsPrefix}
use Rattle.pblk_model.specs.Image.{Image}
use Rattle.pblk_model.specs.Shape.{units}
use Rattle.pblk_model.specs.UnitLog.{UnitEvent}
use Rattle.pblk_world.specs.Events.{Maker, Event, Decides, Does, Logged}
use Rattle.pblk_world.specs.Makers.{HasMakers, commands_of, opening_worker}
use Rattle.pblk_world.specs.World.{World, Logs, log_of}
use Rattle.pblk_world.specs.Legal.{IsLegal}
use Rattle.chronicle.specs.Views.{Past}

-- for each author's number a prefix of its log, oldest event first
abbrev pub Prefixes : Type 0
Prefixes = List (List Logged)

abbrev pub logs_of : Prefixes → Logs
logs_of known author = slice_index_or known author []

-- of each log the one is a prefix of the other
pub record ArePrefixes (early late : Prefixes) : Type 0 where
  pub each : (author : ℕ) → IsPrefix (logs_of early author) (logs_of late author)

-- These are the logs of a legal world over the image, one for each author.
pub record AreLegalLogs (i : Image) (known : Prefixes) : Type 0 where
  pub authors : length known ≡ units i.shape + 1
  pub world : World
  pub legal : IsLegal i world
  pub logs : log_of world ≡ logs_of known

-- The same as a mount begins: each command says how many its worker had made before it, and none was
-- made by a worker that has a number of 64 bits.
pub record AreOpeningLogs (i : Image) (known : Prefixes) : Type 0 where
  pub authors : length known ≡ units i.shape + 1
  pub world : World
  pub legal : IsLegal i world
  pub logs : log_of world ≡ logs_of known
  pub makers : HasMakers world
  pub none : (worker : ℕ) → worker < 2 ^ 64 → commands_of worker world ≡ 0

-- Each command of the opening, or of a worker with a number above its, stands in the earlier logs.
pub record NoOpeningAfter (early : Prefixes) (logs : Logs) : Type 0 where
  pub each : (unit number : ℕ) (l : Logged) (e : UnitEvent) (m : Maker) → slice_get (logs (suc unit)) number ≡ Some l
      → l.event ≡ Does e m → opening_worker ≤ m.worker → number < length (logs_of early (suc unit))

-- These are all logs of a legal world, in which each command says how many its worker had made before
-- it. Each of these makers is that of its worker's next command, and from the spare number on no worker
-- has made any. The opening made none after what the chronicle began with.
pub record AreWholeLogs (past : Past) (known : Prefixes) (makers : List Maker) (spare : Option ℕ) : Type 0 where
  pub world : World
  pub legal : IsLegal past.image world
  pub logs : log_of world ≡ logs_of known
  pub numbered : HasMakers world
  pub next : (m : Maker) → Contains makers m → m.made ≡ commands_of m.worker world
  pub none : (n worker : ℕ) → spare ≡ Some n → n ≤ worker → worker < 2 ^ 64 → commands_of worker world ≡ 0
  pub opened : NoOpeningAfter past.logs (log_of world)

-- the longer of two prefixes of one log
abbrev pub longer : List Logged → List Logged → List Logged
longer xs ys = if nat_lt (length xs) (length ys) then ys else xs

-- of each log the longer of two prefixes
abbrev pub longer_of : Prefixes → Prefixes → Prefixes
longer_of [] yss = yss
longer_of (xs ∷ xss) [] = xs ∷ xss
longer_of (xs ∷ xss) (ys ∷ yss) = longer xs ys ∷ longer_of xss yss

-- the event as it stands in its author's log: it names all that the author knows
abbrev pub naming : Prefixes → Event → Logged
naming known e = record { event = e; knows = map length known }

-- what is known once the event stands at the end of its author's log
abbrev pub with_event : Prefixes → ℕ → Event → Prefixes
with_event known author e = slice_set known author (logs_of known author ++ naming known e ∷ [])

-- Its maker is among these, if it is a command.
abbrev pub IsNext : Event → List Maker → Type 0
IsNext (Decides e) makers = ⊤
IsNext (Does e maker) makers = Contains makers maker

-- the makers of the next commands, once the event is noted
abbrev pub next_after : Event → List Maker → List Maker
next_after (Decides e) makers = makers
next_after (Does e maker) makers =
    map (λ (m : Maker). if m.worker == maker.worker then record m { made = m.made + 1 } else m) makers

-- the second of these, or else the first
abbrev pub either : Option ℕ → Option ℕ → Option ℕ
either one None = one
either one (Some n) = Some n
