-- Room for what waits, by counting: what the steps of a target make of a few numbers.
-- It speaks of a target on a tidy drive, while no command fails or is stopped: each line has the
-- same number of data addresses, and positions are placed in their order, none twice. A step's
-- condition is what the law needs of the target, and often less than what the target does. Steps
-- that change none of these numbers are left out: what is landed, and stripes without entries.
use Rattle.std.specs.Prelude.{ℕ, ◌+◌, ◌-◌, ◌*◌, ◌/◌, ◌<◌, ◌≤◌, ◌≡◌, ◌⊎◌, min, max, ⊤, Option, Some, None}

-- how many addresses a data stripe has (WS_OPT), and how many data addresses a line has
pub record Sizes : Type 0 where
  pub stripe : ℕ
  pub line : ℕ

-- a line has a whole number of data stripes, at least one
pub record AreSizes (z : Sizes) : Type 0 where
  pub some : 1 ≤ z.stripe
  pub stripes : ℕ
  pub has_one : 1 ≤ stripes
  pub whole : z.line ≡ z.stripe * stripes

-- the victim at work: how many of its sectors are live, and how many of its copies were begun
pub record Victim : Type 0 where
  pub live : ℕ
  pub begun : ℕ

-- The copy that is under way, with its position: it was begun, which claims the position, and isn't
-- taken yet. Its entry may be taken much later.
pub data Copy : Type 0 where
  NoCopy : Copy
  -- its sector is still live in the victim at work
  Fresh : ℕ → Copy
  -- a user's entry took its sector meanwhile
  Stale : ℕ → Copy
  -- its victim was freed meanwhile
  Outlived : ℕ → Copy

pub record State : Type 0 where
  -- the data addresses of the open line that aren't placed
  pub left : ℕ
  -- the Free lines
  pub free : ℕ
  -- the lines whose resets aren't all done
  pub resetting : ℕ
  -- the front placed and the front taken: what lies between them waits
  pub placed : ℕ
  pub taken : ℕ
  -- the greatest space limit so far
  pub reach : ℕ
  -- one past the greatest position of a user's entry that was taken
  pub users : ℕ
  -- up to where pads were asked for while collection wasn't due, and while it was
  pub before_due : ℕ
  pub while_due : ℕ
  pub victim : Option Victim
  pub copy : Copy

abbrev pub live_of : Option Victim → ℕ
live_of None = 0
live_of (Some v) = v.live

abbrev pub begun_of : Option Victim → ℕ
begun_of None = 0
begun_of (Some v) = v.begun

-- how many victims are at work, 0 or 1
abbrev pub at_work : Option Victim → ℕ
at_work None = 0
at_work (Some v) = 1

-- how many copies are under way, 0 or 1, and how many are so of a sector that is live
abbrev pub under_way : Copy → ℕ
under_way NoCopy = 0
under_way (Fresh position) = 1
under_way (Stale position) = 1
under_way (Outlived position) = 1

abbrev pub fresh : Copy → ℕ
fresh NoCopy = 0
fresh (Fresh position) = 1
fresh (Stale position) = 0
fresh (Outlived position) = 0

-- one past the position of the copy that is under way
abbrev pub past_copy : Copy → ℕ
past_copy NoCopy = 0
past_copy (Fresh position) = position + 1
past_copy (Stale position) = position + 1
past_copy (Outlived position) = position + 1

-- the data addresses that are left: those of the open line, and those of the Free lines
abbrev pub addresses : Sizes → State → ℕ
addresses z s = s.left + z.line * s.free

-- how many entries wait
abbrev pub waiting_count : State → ℕ
waiting_count s = s.taken - s.placed

-- Up to where the drive's space lets users claim: two lines are kept for copies. No grant is above
-- it.
abbrev pub space_limit : Sizes → State → ℕ
space_limit z s = s.placed + (addresses z s - 2 * z.line) / z.stripe

-- the zone: of the addresses that are left all are kept for copies
abbrev pub IsInZone : Sizes → State → Type 0
IsInZone z s = addresses z s ≤ 2 * z.line

-- Up to where positions are claimed: each is taken, or a user's below an earlier grant, or that of
-- the copy under way.
abbrev pub claimed : State → ℕ
claimed s = max (max s.taken s.reach) (past_copy s.copy)

-- collection is due
abbrev pub IsDue : State → Type 0
IsDue s = s.free ≤ 3

-- Where a user's entry takes its sector from: not from the victim at work, from it, or from it
-- where the copy under way is of that very sector.
pub data Loss : Type 0 where
  Elsewhere : Loss
  OfVictim : Loss
  OfCopied : Loss

pub data Step : Type 0 where
  -- a flush, the close or a victim asks for pads up to a position, while collection isn't due, and
  -- while it is
  AskBeforeDue : ℕ → Step
  AskWhileDue : ℕ → Step
  -- a copy of a sector of the victim is begun, and claims this position
  Begin : ℕ → Step
  -- a user's entry is taken, and the copy that is under way
  TakeUsers : Loss → Step
  TakeCopy : Step
  -- a Free line is opened
  OpenLine : Step
  -- a data stripe is placed
  PlaceStripe : Step
  -- a line with so many live sectors comes to work
  Choose : ℕ → Step
  -- the victim at work is freed, and another line is
  FreeVictim : Step
  FreeOther : Step
  -- the last reset of a line is done, which makes it Free
  Reset : Step

-- When a step may be made.

pub record MayAskBeforeDue (s : State) (position : ℕ) : Type 0 where
  pub before_due : 3 < s.free
  pub within : position ≤ claimed s

-- While collection is due, pads are asked for only where no copy is to be begun: no victim at work
-- has a live sector, or no more addresses are left than entries wait.
pub record MayAskWhileDue (z : Sizes) (s : State) (position : ℕ) : Type 0 where
  pub due : IsDue s
  pub within : position ≤ claimed s
  pub no_copy : (live_of s.victim ≡ 0) ⊎ (addresses z s ≤ waiting_count s)

-- Positions are claimed in their order, and one copy is under way at a time. So what lies below the
-- copy's position is taken, or was claimed by a user who found it granted. The target begins a copy
-- only where more addresses are left than entries wait: the law does without that.
pub record MayBegin (s : State) (position : ℕ) : Type 0 where
  pub due : IsDue s
  pub has_live : 1 ≤ live_of s.victim
  pub alone : under_way s.copy ≡ 0
  pub from : s.taken ≤ position
  pub to : position ≤ max s.taken s.reach

abbrev pub MayLose : State → Loss → Type 0
MayLose s Elsewhere = ⊤
MayLose s OfVictim = fresh s.copy < live_of s.victim
MayLose s OfCopied = fresh s.copy ≡ 1

-- The position was granted to a user. Entries are taken in the order of their positions, so it is
-- below that of the copy under way.
pub record MayTakeUsers (s : State) (loss : Loss) : Type 0 where
  pub granted : s.taken < s.reach
  pub in_turn : 1 ≤ under_way s.copy → s.taken + 1 < past_copy s.copy
  pub loses : MayLose s loss

abbrev pub MayTakeCopy : State → Type 0
MayTakeCopy s = past_copy s.copy ≡ s.taken + 1

pub record MayOpenLine (s : State) : Type 0 where
  pub none_left : s.left ≡ 0
  pub has_free : 1 ≤ s.free

-- Resets come before stripes. Fewer entries than fill a stripe are filled up with pads only where
-- one of them lies below a position up to which pads were asked for.
pub record MayPlaceStripe (z : Sizes) (s : State) : Type 0 where
  pub all_reset : s.resetting ≡ 0
  pub has_address : z.stripe ≤ s.left
  pub has_entry : 1 ≤ waiting_count s
  pub full : (z.stripe ≤ waiting_count s) ⊎ (s.placed < max s.before_due s.while_due)

pub record MayChoose (z : Sizes) (s : State) (live : ℕ) : Type 0 where
  pub none : at_work s.victim ≡ 0
  pub fits : live + z.stripe ≤ z.line

-- At most one of the copies that were begun isn't placed: what waits at or past the users' entries
-- is copies, and one may be under way. A line is freed once each of its sectors has a newer entry
-- below the front synced, and that of the sector copied last lies above all earlier copies.
pub record MayFreeVictim (s : State) : Type 0 where
  pub some : at_work s.victim ≡ 1
  pub no_live : live_of s.victim ≡ 0
  pub one_copy : s.taken + under_way s.copy ≤ max s.placed s.users + 1

abbrev pub May : Sizes → State → Step → Type 0
May z s (AskBeforeDue position) = MayAskBeforeDue s position
May z s (AskWhileDue position) = MayAskWhileDue z s position
May z s (Begin position) = MayBegin s position
May z s (TakeUsers loss) = MayTakeUsers s loss
May z s TakeCopy = MayTakeCopy s
May z s OpenLine = MayOpenLine s
May z s PlaceStripe = MayPlaceStripe z s
May z s (Choose live) = MayChoose z s live
May z s FreeVictim = MayFreeVictim s
May z s FreeOther = ⊤
May z s Reset = 1 ≤ s.resetting

-- What a step leaves.

abbrev pub one_begun : Option Victim → Option Victim
one_begun None = None
one_begun (Some v) = Some (record v { begun = v.begun + 1 })

abbrev pub fewer_live : ℕ → Option Victim → Option Victim
fewer_live lost None = None
fewer_live lost (Some v) = Some (record v { live = v.live - lost })

abbrev pub lost_by : Loss → ℕ
lost_by Elsewhere = 0
lost_by OfVictim = 1
lost_by OfCopied = 1

abbrev pub gone_stale : Copy → Copy
gone_stale NoCopy = NoCopy
gone_stale (Fresh position) = Stale position
gone_stale (Stale position) = Stale position
gone_stale (Outlived position) = Outlived position

abbrev pub copy_after : Loss → Copy → Copy
copy_after Elsewhere c = c
copy_after OfVictim c = c
copy_after OfCopied c = gone_stale c

abbrev pub outlived : Copy → Copy
outlived NoCopy = NoCopy
outlived (Fresh position) = Outlived position
outlived (Stale position) = Outlived position
outlived (Outlived position) = Outlived position

-- all but the reach
abbrev pub moved : Sizes → State → Step → State
moved z s (AskBeforeDue position) = record s { before_due = max s.before_due position }
moved z s (AskWhileDue position) = record s { while_due = max s.while_due position }
moved z s (Begin position) = record s { victim = one_begun s.victim; copy = Fresh position }
moved z s (TakeUsers loss) = record s {
  taken = s.taken + 1;
  users = s.taken + 1;
  victim = fewer_live (lost_by loss) s.victim;
  copy = copy_after loss s.copy;
}
moved z s TakeCopy = record s {
  taken = s.taken + 1;
  victim = fewer_live (fresh s.copy) s.victim;
  copy = NoCopy;
}
moved z s OpenLine = record s { left = z.line; free = s.free - 1 }
moved z s PlaceStripe = record s {
  left = s.left - z.stripe;
  placed = s.placed + min z.stripe (waiting_count s);
}
moved z s (Choose live) = record s { victim = Some (record { live = live; begun = 0 }) }
moved z s FreeVictim = record s {
  resetting = s.resetting + 1;
  victim = None;
  copy = outlived s.copy;
}
moved z s FreeOther = record s { resetting = s.resetting + 1 }
moved z s Reset = record s { resetting = s.resetting - 1; free = s.free + 1 }

abbrev pub raised : Sizes → State → State
raised z s = record s { reach = max s.reach (space_limit z s) }

abbrev pub after : Sizes → State → Step → State
after z s step = raised z (moved z s step)

-- A run begins with two lines of room or more, with nothing that waits, no victim and no copy.
-- Lines may be reset.
pub record IsStart (z : Sizes) (s : State) : Type 0 where
  pub stripes_left : ℕ
  pub whole : s.left ≡ z.stripe * stripes_left
  pub has_room : 2 * z.line ≤ addresses z s
  pub none_waits : s.taken ≡ s.placed
  pub reach : s.reach ≡ space_limit z s
  pub users : s.users ≤ s.placed
  pub before_due : s.before_due ≤ s.placed
  pub while_due : s.while_due ≤ s.placed
  pub no_victim : at_work s.victim ≡ 0
  pub no_copy : under_way s.copy ≡ 0

-- the states of runs
pub data IsReached (z : Sizes) : State → Type 0 where
  AtStart : (s : State) → IsStart z s → IsReached z s
  ByStep : (s : State) (step : Step) → IsReached z s → May z s step → IsReached z (after z s step)
