-- The states of a run of crate room_law that the engine's log makes: at each length of the log
-- there are some, as work is done there that is no event of it. What the log must say for that is
-- in `IsReasonedMount`.
use Rattle.std.specs.Prelude.{ℕ, ◌<◌, ◌≤◌, ◌≡◌, ◌⊎◌, if◌then◌else◌, max, true, ⊤, length, take, Option, Some, None}
use Rattle.std.specs.List.{Contains, filter, range_with_len}
use Rattle.pblk_model.specs.declared.chunk.Mark.{Mark}
use Rattle.pblk_model.specs.Image.{Image}
use Rattle.pblk_world.specs.EngineLog.{Taken, life_of, takes}
use Rattle.pblk_world.specs.Events.{Entry, Source}
use Rattle.pblk_world.specs.Fronts.{taken}
use Rattle.pblk_world.specs.Lines.{found_image, known_image}
use Rattle.pblk_world.specs.Space.{full_data, open_addresses, placed_front, position_limit}
use Rattle.pblk_world.specs.Victims.{engine_prefix, is_freed, is_live_in, live, victim}
use Rattle.pblk_world.specs.World.{World, Logs, log_of}
use Rattle.pblk_world.specs.LegalMounts.{IsLegalMount, NoStripeLost}
use Rattle.pblk_world.specs.Orders.{AreAfterResets, AreOpenedFull}
use Rattle.pblk_world.specs.Reasons.{HasReasons, WasAsked, WasBegun, WasRoom}
use Rattle.room_law.specs.Counting.{Copy, Fresh, IsReached, NoCopy, Outlived, Sizes, Stale, State, Victim}
use Rattle.rest_laws.specs.AtWork.{WasTakenSince}
use Rattle.rest_laws.specs.Copies.{TookCopy}
use Rattle.rest_laws.specs.RoomSteps.{free_lines, unreset_lines}
use Rattle.rest_laws.specs.Tidy.{AreWide, has_free_chunks}

-- What the log must say.

-- A legal mount in which no stripe was lost and no line was known as narrower than the drive. It
-- found two lines of Free chunks alone, or more, and its positions aren't near their end. Resets
-- come first, and a line is opened once the open ones are full. All that was taken and padded had
-- its reason.
pub record IsReasonedMount (i : Image) (w : World) : Type 0 where
  pub mount : IsLegalMount i w
  pub none_lost : NoStripeLost (log_of w 0)
  pub wide : (n : ℕ) → 0 < n → n ≤ length (log_of w 0)
      → AreWide (known_image i (engine_prefix n (log_of w)))
  pub some_free : 2 ≤ length (filter (has_free_chunks (found_image i (log_of w)))
      (range_with_len 0 i.shape.chunks))
  pub not_ended : taken (log_of w 0) < position_limit (log_of w 0)
  pub after_resets : AreAfterResets i (log_of w)
  pub opened_full : AreOpenedFull i (log_of w)
  pub reasons : HasReasons i (log_of w)

-- The states.

-- a data stripe, and a line that is as wide as the drive
abbrev pub sizes_of : Image → Sizes
sizes_of i = record { stripe = i.shape.ws_opt; line = full_data i.shape }

-- All positions below this one were claimed at a length of the log: they were taken, or granted.
abbrev pub WasClaimed : Image → Logs → (n position : ℕ) → Type 0
WasClaimed i logs n position = (position ≤ taken (take n (logs 0))) ⊎ WasRoom i logs n position

-- A copy was begun, and positions are claimed in their order: there all below its own were claimed.
pub record WasBegunInTurn (i : Image) (logs : Logs) (number : ℕ) (entry : Entry) (source : Source)
    : Type 0 where
  pub begun : WasBegun i logs number entry.lba source
  pub claimed : WasClaimed i logs begun.at entry.position

-- Each copy that was taken had been begun so.
pub record AreBegunInTurn (i : Image) (logs : Logs) : Type 0 where
  pub each : (number : ℕ) (entry : Entry) (mark : Mark) (took : TookCopy (logs 0) number entry mark)
      → WasBegunInTurn i logs number entry took.source

-- At which length of the log each copy was begun, by the number of the event that took it.
pub record AreBegunAt (i : Image) (logs : Logs) (at : ℕ → ℕ) : Type 0 where
  pub each : (number : ℕ) (entry : Entry) (mark : Mark) (took : TookCopy (logs 0) number entry mark)
      → (turn : WasBegunInTurn i logs number entry took.source) × (turn.begun.at ≡ at number)

-- The numbers of a state that the logs say by themselves.
pub record HasNumbers (i : Image) (logs : Logs) (s : State) : Type 0 where
  pub left : s.left ≡ open_addresses i logs
  pub free : s.free ≡ free_lines i logs
  pub resetting : s.resetting ≡ unreset_lines i logs
  pub placed : s.placed ≡ placed_front i.shape (logs 0)
  pub taken : s.taken ≡ taken (logs 0)

-- The state's victim is this line, if any, with its live sectors.
abbrev pub IsVictimOf : Image → Logs → Option ℕ → Option Victim → Type 0
IsVictimOf i logs None None = ⊤
IsVictimOf i logs None (Some v) = ⊥
IsVictimOf i logs (Some line) None = ⊥
IsVictimOf i logs (Some line) (Some v) = v.live ≡ live i logs line

-- Which line is at work still after an event, before another comes to work: the one that was,
-- unless it is freed.
abbrev pub still_at_work : Logs → Option ℕ → Option ℕ
still_at_work logs None = None
still_at_work logs (Some line) = if is_freed (life_of (logs 0) line) then None else Some line

-- A copy that is under way at length n of the log: it was begun at length `upto` or before, and it
-- is taken by a later event.
pub record UnderWay (i : Image) (logs : Logs) (at : ℕ → ℕ) (upto n : ℕ) : Type 0 where
  pub number : ℕ
  pub entry : Entry
  pub mark : Mark
  pub took : TookCopy (logs 0) number entry mark
  pub from : at number ≤ upto
  pub to : n ≤ number

-- the line of its source is at work as the victim since it was begun
abbrev pub IsOfVictim : Image → Logs → (at : ℕ → ℕ) → (n : ℕ) → (number line : ℕ) → Type 0
IsOfVictim i logs at n number line = (m : ℕ) → at number ≤ m → m ≤ n → victim i logs m ≡ Some line

-- an entry of its sector was taken since it was begun
abbrev pub WasOvertaken : Logs → (at : ℕ → ℕ) → (n : ℕ) → (number lba : ℕ) → Type 0
WasOvertaken logs at n number lba = WasTakenSince (take n (logs 0)) lba (at number)

-- Of the copies that were begun at length `upto` or before, this one is under way at length n: with
-- its position, and whether an entry of its sector was taken since. Until then the sector is live
-- in the victim at work.
abbrev pub IsCopyAt : Image → Logs → (at : ℕ → ℕ) → (upto n : ℕ) → Copy → Type 0
IsCopyAt i logs at upto n NoCopy = (number : ℕ) (entry : Entry) (mark : Mark)
    → TookCopy (logs 0) number entry mark → n ≤ number → upto < at number
IsCopyAt i logs at upto n (Fresh position) =
    (c : UnderWay i logs at upto n) × (c.entry.position ≡ position)
    × IsOfVictim i logs at n c.number c.took.source.line
    × (is_live_in i (engine_prefix n logs) c.took.source.line c.entry.lba ≡ true)
IsCopyAt i logs at upto n (Stale position) =
    (c : UnderWay i logs at upto n) × (c.entry.position ≡ position)
    × WasOvertaken logs at n c.number c.entry.lba
IsCopyAt i logs at upto n (Outlived position) =
    (c : UnderWay i logs at upto n) × (c.entry.position ≡ position)
    × WasOvertaken logs at n c.number c.entry.lba

-- A state of the run at length n of the log. This line, if any, is at work as its victim. The
-- copies that were begun at length `upto` or before are begun, and what was asked for at length
-- `asked` or before is asked for.
pub record IsRoomState (i : Image) (logs : Logs) (at : ℕ → ℕ) (n upto asked : ℕ) (line : Option ℕ)
    (s : State) : Type 0 where
  pub numbers : HasNumbers i (engine_prefix n logs) s
  pub victim : IsVictimOf i (engine_prefix n logs) line s.victim
  pub copy : IsCopyAt i logs at upto n s.copy
  pub users : (t : Taken) → Contains (takes (take n (logs 0))) t → t.entry.source ≡ None
      → t.entry.position < s.users
  pub reach : (position : ℕ) → WasRoom i logs n position → position ≤ s.reach
  pub asks : (position : ℕ) → WasAsked i logs asked position → position ≤ max s.before_due s.while_due
  pub reached : IsReached (sizes_of i) s

-- All that is done at length n of the log is done.
abbrev pub IsRoomRun : Image → Logs → (at : ℕ → ℕ) → ℕ → State → Type 0
IsRoomRun i logs at n s = IsRoomState i logs at n n n (victim i logs n) s
