-- What a chronicle keeps at every moment: its logs are those of a legal world, and each seat knows
-- a prefix of each log, and no event of these prefixes names more than they have. Each command says
-- how many its worker had made before it.
use Rattle.std.specs.Prelude.{◌≡◌, ℕ, ◌+◌, ◌-◌, ◌%◌, ◌^◌, ◌<◌, ◌≤◌, List, [], ◌∷◌, true, length, slice_index, Option, Some}
use Rattle.std.specs.List.{Contains}
use mathlib.Core.Option.{some}
use mathlib.Core.List.{IsPrefix}
use lib.ListN.{get_elem?}
use Rattle.atomic_table.specs.Table.{State}
use Rattle.pblk_model.specs.Shape.{units}
use Rattle.pblk_world.specs.Events.{Maker}
use Rattle.pblk_world.specs.Makers.{HasMakers, commands_of}
use Rattle.pblk_world.specs.World.{World, log_of}
use Rattle.pblk_world.specs.Legal.{IsLegal}
use Rattle.world_laws.specs.KnownCut.{IsClosedCut}
use Rattle.chronicle.specs.Views.{Part, Past, View}
use Rattle.chronicle.specs.Prefixes.{logs_of, longer_of, ArePrefixes, AreLegalLogs, AreWholeLogs, NoOpeningAfter}

-- Which seat owns each log, which numbers the commands of each worker, and how many workers were named.
pub record Owners : Type 0 where
  pub log : ℕ → ℕ
  pub worker : ℕ → ℕ
  pub named : ℕ

-- A seat numbers the commands of these workers, which have been named, and may name new ones from the
-- spare number on, where it has one.
pub record HasRights (w : World) (owner : Owners) (seat : ℕ) (makers : List Maker) (spare : Option ℕ) : Type 0 where
  pub each : (m : Maker) → Contains makers m
      → (owner.worker m.worker ≡ seat) × (m.worker < owner.named) × (m.made ≡ commands_of m.worker w)
  pub next : (n : ℕ) → spare ≡ Some n → n ≡ owner.named
  pub unnamed : (n worker : ℕ) → spare ≡ Some n → n ≤ worker → worker < 2 ^ 64
      → (owner.worker worker ≡ seat) × (commands_of worker w ≡ 0)

-- A seat owns this and knows this. Where any log is known, what the chronicle began with is known too,
-- and a prefix of each log.
pub record IsPart (start : Past) (w : World) (owner : Owners) (seat : ℕ) (p : Part) : Type 0 where
  pub begins : (author : ℕ) → IsPrefix (logs_of p.known author) (log_of w author)
  pub closed : IsClosedCut (λ author. length (logs_of p.known author)) w
  pub owns : (author : ℕ) → Contains p.owned author → (owner.log author ≡ seat) × (logs_of p.known author ≡ log_of w author)
  pub past : 0 < length p.known → p.past ≡ start
  pub authors : 0 < length p.known → length p.known ≡ units start.image.shape + 1
  pub rights : HasRights w owner seat p.makers p.spare

pub record IsView (start : Past) (w : World) (owner : Owners) (seat : ℕ) (u : View) : Type 0 where
  pub mine : IsPart start w owner seat u.mine
  pub heard : IsPart start w owner seat u.heard

-- The world is known to the rule alone. A word counts, modulo 2^64, the events that were appended
-- to its log since the chronicle began. All workers that were named have numbers of 64 bits, so
-- none of these events is a command of the opening.
pub record IsKept (s : State (Unit {0}) View) : Type 0 where
  pub past : Past
  pub world : World
  pub owner : Owners
  pub legal : IsLegal past.image world
  pub numbered : HasMakers world
  pub few : owner.named ≤ 2 ^ 64
  pub opened : NoOpeningAfter past.logs (log_of world)
  pub counts : (author : ℕ) → author < length s.words
      → slice_index s.words author ≡ (length (log_of world author) - length (logs_of past.logs author)) % 2 ^ 64
  pub views : (seat : ℕ) (u : View) → get_elem? s.views seat ≡ some u → IsView past world owner seat u
  pub alone : (seat : ℕ) (u : View) → get_elem? s.views seat ≡ some u → u.fresh ≡ true → (s.views ≡ u ∷ []) × (world ≡ [])

-- What a seat is told of what it took in. Of a log that one of both owns, the other knows a prefix.
pub record IsHeard (mine heard : Part) : Type 0 where
  pub past : heard.past ≡ mine.past
  pub own : (author : ℕ) → Contains mine.owned author → IsPrefix (logs_of heard.known author) (logs_of mine.known author)
  pub heard_own : (author : ℕ) → Contains heard.owned author → IsPrefix (logs_of mine.known author) (logs_of heard.known author)
  pub keeps : ArePrefixes mine.known (longer_of mine.known heard.known)
  pub learns : ArePrefixes heard.known (longer_of mine.known heard.known)
  pub legal : AreLegalLogs mine.past.image (longer_of mine.known heard.known)

-- What a seat is told that owns all logs.
abbrev pub IsWhole : Part → Type 0
IsWhole p = ((author : ℕ) → author ≤ units p.past.image.shape → Contains p.owned author)
    → AreWholeLogs p.past p.known p.makers p.spare
