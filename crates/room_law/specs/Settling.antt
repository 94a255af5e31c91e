-- A settling, by counting: what one worker's pumps make of a few numbers, while nobody else works
-- or claims and no command fails. It speaks of a target on a tidy drive, where each line has the
-- same number of data addresses. A step's condition is what the law needs of the target, and often
-- less than what the target does.
use Rattle.std.specs.Prelude.{ℕ, suc, ◌+◌, ◌-◌, ◌*◌, ◌<◌, ◌≤◌, ◌≡◌, min}

-- how many addresses a data stripe has (WS_OPT), how many data addresses a line has, on how many
-- units it lies, and how many stripes its start record and its end record have together
pub record Drive : Type 0 where
  pub stripe : ℕ
  pub line : ℕ
  pub units : ℕ
  pub records : ℕ

-- the blocks of a line
abbrev pub blocks : Drive → ℕ
blocks z = z.line + z.records * z.stripe

-- Settings that are accepted ask for lines that are long enough. A line has a stripe of each unit,
-- or more.
pub record IsDrive (z : Drive) : Type 0 where
  pub some : 1 ≤ z.stripe
  pub long : (16 + z.stripe) * z.stripe ≤ 2 * z.line
  pub wide : z.units * z.stripe ≤ blocks z

-- the victim at work, with its live sectors
pub data Victim : Type 0 where
  NoVictim : Victim
  AtWork : ℕ → Victim
  -- it came to work where four lines were Free or to be reset, and none of it was copied since
  Spare : ℕ → Victim

pub record State : Type 0 where
  -- the data addresses of the open line that aren't placed
  pub left : ℕ
  -- the Free lines, those whose resets aren't all done, and all others
  pub free : ℕ
  pub resetting : ℕ
  pub held : ℕ
  -- the chunks that are to be reset
  pub chunks : ℕ
  -- the stripes of start and end records that are to be placed in open lines
  pub records : ℕ
  -- the entries that wait: those that were taken before it began, and copies of the victim at work,
  -- which come after them
  pub earlier : ℕ
  pub copies : ℕ
  pub victim : Victim
  -- how many lines are failed that didn't come to work: they may have more live sectors than three
  -- in four as they do
  pub failed : ℕ
  -- whether a line may so, since a line was opened for an entry that was taken before, and its
  -- start record isn't on the drive
  pub early : ℕ
  -- how often a stripe may be padded still while the victim at work has live sectors: as often as a
  -- line was freed that wasn't at work
  pub pads : ℕ

abbrev pub live_of : Victim → ℕ
live_of NoVictim = 0
live_of (AtWork live) = live
live_of (Spare live) = live

abbrev pub at_work : Victim → ℕ
at_work NoVictim = 0
at_work (AtWork live) = 1
at_work (Spare live) = 1

-- how many of its sectors may be copied
abbrev pub copied : Victim → Victim
copied NoVictim = NoVictim
copied (AtWork live) = AtWork (live - 1)
copied (Spare live) = AtWork (live - 1)

abbrev pub waiting : State → ℕ
waiting s = s.earlier + s.copies

-- the lines that are Free once all resets are done
abbrev pub free_soon : State → ℕ
free_soon s = s.free + s.resetting

-- Why a stripe is padded: an entry was taken before; or none is live in the victim at work; or a
-- line was freed that wasn't at work.
pub data Pad : Type 0 where
  ForEarlier : Pad
  ForVictim : Pad
  ForOther : Pad

-- What a pump does.
pub data Pump : Type 0 where
  -- a reset, and the last one of a line, which makes it Free
  ResetChunk : Pump
  ResetLine : Pump
  -- a stripe of a record, a stripe of entries alone, and one with pads
  PlaceRecord : Pump
  PlaceFull : Pump
  PlacePadded : Pad → Pump
  OpenLine : Pump
  -- a sector of the victim at work is copied, and its copy is taken
  CopySector : Pump

-- What happens between pumps: a line with so many live sectors comes to work, the victim at work is
-- freed, or another line is, where few lines are Free or to be reset, and where many are.
pub data Turn : Type 0 where
  Choose : ℕ → Turn
  ChooseFailed : ℕ → Turn
  ChooseEarly : ℕ → Turn
  ChooseSpare : ℕ → Turn
  FreeVictim : Turn
  FreeOther : Turn
  FreeMore : Turn

-- When a pump may be made.

pub record MayResetLine (s : State) : Type 0 where
  pub chunk : 1 ≤ s.chunks
  pub line : 1 ≤ s.resetting

pub record MayPlaceFull (z : Drive) (s : State) : Type 0 where
  pub has_address : z.stripe ≤ s.left
  pub full : z.stripe ≤ waiting s

abbrev pub HasReason : State → Pad → Type 0
HasReason s ForEarlier = 1 ≤ s.earlier
HasReason s ForVictim = (live_of s.victim ≡ 0) × (s.earlier ≡ 0)
HasReason s ForOther = 1 ≤ s.pads

pub record MayPad (z : Drive) (s : State) (why : Pad) : Type 0 where
  pub has_address : z.stripe ≤ s.left
  pub has_entry : 1 ≤ waiting s
  pub few : waiting s < z.stripe
  pub reason : HasReason s why

pub record MayOpenLine (s : State) : Type 0 where
  pub none_left : s.left ≡ 0
  pub has_free : 1 ≤ s.free
  pub has_entry : 1 ≤ waiting s

-- Resets come first, and collection is due.
pub record MayCopy (s : State) : Type 0 where
  pub all_reset : s.resetting ≡ 0
  pub due : s.free ≤ 3
  pub has_live : 1 ≤ live_of s.victim

abbrev pub MayPump : Drive → State → Pump → Type 0
MayPump z s ResetChunk = 1 ≤ s.chunks
MayPump z s ResetLine = MayResetLine s
MayPump z s PlaceRecord = 1 ≤ s.records
MayPump z s PlaceFull = MayPlaceFull z s
MayPump z s (PlacePadded why) = MayPad z s why
MayPump z s OpenLine = MayOpenLine s
MayPump z s CopySector = MayCopy s

-- When a turn may come.

-- Of the lines that may be collected the one with the fewest live sectors comes to work. Where few
-- lines are Free, the others hold three quarters of their addresses' sectors at most.
pub record MayChoose (z : Drive) (s : State) (live : ℕ) : Type 0 where
  pub none : at_work s.victim ≡ 0
  pub few : free_soon s ≤ 3
  pub fits : 4 * live ≤ 3 * z.line

pub record MayChooseFailed (z : Drive) (s : State) (live : ℕ) : Type 0 where
  pub none : at_work s.victim ≡ 0
  pub fits : live + z.stripe ≤ z.line
  pub is_failed : 1 ≤ s.failed

pub record MayChooseEarly (z : Drive) (s : State) (live : ℕ) : Type 0 where
  pub none : at_work s.victim ≡ 0
  pub fits : live + z.stripe ≤ z.line
  pub is_early : 1 ≤ s.early

pub record MayChooseSpare (z : Drive) (s : State) (live : ℕ) : Type 0 where
  pub none : at_work s.victim ≡ 0
  pub many : 4 ≤ free_soon s
  pub fits : live + z.stripe ≤ z.line

-- Its copies are placed.
pub record MayFreeVictim (s : State) : Type 0 where
  pub some : at_work s.victim ≡ 1
  pub no_live : live_of s.victim ≡ 0
  pub no_copy : s.copies ≡ 0
  pub held : 1 ≤ s.held

pub record MayFreeOther (s : State) : Type 0 where
  pub held : 1 ≤ s.held
  pub few : free_soon s ≤ 3

pub record MayFreeMore (s : State) : Type 0 where
  pub held : 1 ≤ s.held
  pub many : 4 ≤ free_soon s

abbrev pub MayTurn : Drive → State → Turn → Type 0
MayTurn z s (Choose live) = MayChoose z s live
MayTurn z s (ChooseFailed live) = MayChooseFailed z s live
MayTurn z s (ChooseEarly live) = MayChooseEarly z s live
MayTurn z s (ChooseSpare live) = MayChooseSpare z s live
MayTurn z s FreeVictim = MayFreeVictim s
MayTurn z s FreeOther = MayFreeOther s
MayTurn z s FreeMore = MayFreeMore s

-- What they leave.

-- all that waits is placed
abbrev pub padded : Drive → State → State
padded z s = record s { left = s.left - z.stripe; earlier = 0; copies = 0 }

abbrev pub pumped : Drive → State → Pump → State
pumped z s ResetChunk = record s { chunks = s.chunks - 1 }
pumped z s ResetLine = record s { chunks = s.chunks - 1; resetting = s.resetting - 1; free = s.free + 1 }
pumped z s PlaceRecord = record s { records = s.records - 1 }
pumped z s PlaceFull = record s {
  left = s.left - z.stripe;
  earlier = s.earlier - z.stripe;
  copies = s.copies - (z.stripe - s.earlier);
}
pumped z s (PlacePadded ForEarlier) = padded z s
pumped z s (PlacePadded ForVictim) = padded z s
pumped z s (PlacePadded ForOther) = record (padded z s) { pads = s.pads - 1 }
pumped z s OpenLine = record s {
  left = z.line;
  free = s.free - 1;
  held = s.held + 1;
  records = s.records + z.records;
  early = min s.earlier 1;
}
pumped z s CopySector = record s { copies = s.copies + 1; victim = copied s.victim }

abbrev pub freed : Drive → State → State
freed z s = record s { resetting = s.resetting + 1; held = s.held - 1; chunks = s.chunks + z.units }

abbrev pub turned : Drive → State → Turn → State
turned z s (Choose live) = record s { victim = AtWork live }
turned z s (ChooseFailed live) = record s { victim = AtWork live; failed = s.failed - 1 }
turned z s (ChooseEarly live) = record s { victim = AtWork live; early = s.early - 1 }
turned z s (ChooseSpare live) = record s { victim = Spare live }
turned z s FreeVictim = record (freed z s) { victim = NoVictim }
turned z s FreeOther = record (freed z s) { pads = s.pads + 1 }
turned z s FreeMore = freed z s

-- It begins with so many claimed positions that aren't on the drive, which have all been taken, on
-- a drive of so many lines. They have room.
pub record IsStart (z : Drive) (claimed lines : ℕ) (s : State) : Type 0 where
  pub left : s.left ≤ z.line
  pub all : s.free + s.resetting + s.held ≤ lines
  pub chunks : s.chunks ≤ z.units * s.resetting
  pub records : s.records ≤ 2 * z.records
  pub earlier : s.earlier ≤ claimed
  pub has_room : s.earlier ≤ s.left + z.line * s.free
  pub no_copy : s.copies ≡ 0
  pub live : live_of s.victim ≤ z.line
  pub failed : s.failed ≤ lines
  pub early : s.early ≤ 1
  pub pads : s.pads ≤ 1

-- from the first state the other is reached by so many pumps
pub data IsSettling (z : Drive) (start : State) : ℕ → State → Type 0 where
  Begun : IsSettling z start 0 start
  ByPump : (n : ℕ) (s : State) (p : Pump) → IsSettling z start n s → MayPump z s p
      → IsSettling z start (suc n) (pumped z s p)
  ByTurn : (n : ℕ) (s : State) (t : Turn) → IsSettling z start n s → MayTurn z s t
      → IsSettling z start n (turned z s t)

-- The most pumps of a settling of so many claimed positions, on a drive of so many lines.
abbrev pub most_pumps : Drive → (claimed lines : ℕ) → ℕ
most_pumps z claimed lines = 8 * blocks z * (claimed + lines + 64)
