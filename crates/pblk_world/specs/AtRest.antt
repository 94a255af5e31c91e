-- When a target is at rest: there is nothing more that it could do. And which refusals for want of
-- room may be given there.
use Rattle.std.specs.Prelude.{ℕ, zero, suc, ◌+◌, ◌-◌, ◌<◌, ◌≤◌, ◌≡◌, ◌==◌, ◌⊎◌, if◌then◌else◌, max, true, false, List, take, length, slice_get, Option, Some, None}
use Rattle.std.specs.List.{Contains}
use Rattle.pblk_model.specs.declared.shape.Shape.{Shape}
use Rattle.pblk_model.specs.UnitLog.{UnitEvent}
use Rattle.pblk_model.specs.StartRecord.{StartRecord}
use Rattle.pblk_model.specs.Image.{Image}
use Rattle.pblk_world.specs.Events.{Stripe, Logged}
use Rattle.pblk_world.specs.World.{Logs, known, unit_event_at}
use Rattle.pblk_world.specs.EngineLog.{Begun, begun, Opening, Opened, life_of, Taken, Placed, placements, is_answered, named_events}
use Rattle.pblk_world.specs.Fronts.{taken, synced, waiting}
use Rattle.pblk_world.specs.Lines.{known_image, are_empty, is_given_up}
use Rattle.pblk_world.specs.Opening.{MayOpen}
use Rattle.pblk_world.specs.Placing.{IsStart, IsData, IsEnd, IsPad}
use Rattle.pblk_world.specs.Commanding.{is_reset, was_stopped}
use Rattle.pblk_world.specs.Freeing.{MayFree}
use Rattle.pblk_world.specs.Space.{addresses, open_addresses, is_due, position_limit, room}
use Rattle.pblk_world.specs.Victims.{live, taken_up_to, victim}

-- The logs at a length of the engine's log: of the engine's log the prefix of that length, and of
-- each unit's log what the last event of that prefix knew.
abbrev pub knows_last : Option Logged → ℕ → ℕ
knows_last None author = 0
knows_last (Some l) author = known l author

abbrev pub logs_at : ℕ → Logs → Logs
logs_at n logs zero = take n (logs zero)
logs_at n logs (suc unit) = take (knows_last (slice_get (logs 0) (n - 1)) (suc unit)) (logs (suc unit))

abbrev pub victim_now : Image → Logs → Option ℕ
victim_now i logs = victim i logs (length (logs 0))

-- While collection is due, a victim at work that has no live sector asks for padding, up to one
-- past the greatest position that took a sector from its line.
abbrev pub asked_by : Image → Logs → Option ℕ → ℕ
asked_by i logs None = 0
asked_by i logs (Some line) = if live i logs line == 0 then taken_up_to i logs line else 0

abbrev pub pad_target : Image → Logs → ℕ → ℕ
pad_target i logs asked = max asked (if is_due i logs then asked_by i logs (victim_now i logs) else 0)

-- a full stripe waits, or an entry below the pad target does
abbrev pub IsUrgent : Shape → List Logged → ℕ → Type 0
IsUrgent s log target = (s.ws_opt ≤ length (waiting s log))
    ⊎ ((t : Taken) × Contains (waiting s log) t × (t.entry.position < target))

-- A stripe of an opened line is to be placed.
pub record IsDue (i : Image) (logs : Logs) (target : ℕ) (stripe : Stripe) : Type 0 where
  pub opening : Opening
  pub is_open : life_of (logs 0) stripe.line ≡ Opened opening
  pub kind : IsStart i logs opening stripe ⊎ (IsEnd i logs opening stripe ⊎ (IsPad i logs opening stripe
      ⊎ (IsData i logs opening stripe × IsUrgent i.shape (logs 0) target)))

-- A sector of the victim at work is to be copied.
pub record IsCopyDue (i : Image) (logs : Logs) : Type 0 where
  pub due : is_due i logs ≡ true
  pub line : ℕ
  pub at_work : victim_now i logs ≡ Some line
  pub has_live : 0 < live i logs line
  pub has_position : taken (logs 0) < position_limit (logs 0)
  pub has_address : length (waiting i.shape (logs 0)) < addresses i logs

-- No piece of work can be done with this pad target.
pub record HasNoWork (i : Image) (logs : Logs) (asked : ℕ) : Type 0 where
  -- each chunk of a line that was freed, and of a stray, is Free or Offline
  pub no_reset : (line : ℕ) → line < i.shape.chunks → is_given_up (logs 0) line ≡ true
      → are_empty (known_image i logs) line ≡ true
  pub no_program : (stripe : Stripe) → ¬ IsDue i logs (pad_target i logs asked) stripe
  -- an entry waits and no open line has an address left, but none may be opened
  pub no_opening : (beginning : Begun) (line : ℕ) (start : StartRecord) → begun (logs 0) ≡ Some beginning
      → 0 < length (waiting i.shape (logs 0)) → open_addresses i logs ≡ 0 → ¬ MayOpen i logs beginning line start
  pub no_copy : ¬ IsCopyDue i logs

-- a reset of a unit, not stopped, of which the engine has noted nothing
pub record IsUnnotedReset (logs : Logs) (unit number : ℕ) : Type 0 where
  pub event : UnitEvent
  pub is_known : unit_event_at logs unit number ≡ Some event
  pub reset : is_reset event.command ≡ true
  pub not_stopped : was_stopped event.outcome ≡ false
  pub unnoted : ¬ Contains (named_events (logs 0) unit) number

-- The engine has noted each reset that wasn't stopped.
abbrev pub AreResetsNoted : Logs → Type 0
AreResetsNoted logs = (unit number : ℕ) → ¬ IsUnnotedReset logs unit number

-- At rest with this pad target.
pub record IsResting (i : Image) (logs : Logs) (asked : ℕ) : Type 0 where
  pub no_work : HasNoWork i logs asked
  pub stripes : (p : Placed) → Contains (placements (logs 0)) p → is_answered (logs 0) p ≡ true
  pub resets : AreResetsNoted logs
  pub none_to_free : (line : ℕ) → ¬ MayFree i logs line

-- A length of the engine's log, once the mount has begun, is at rest for a pad target.
pub record IsAtRest (i : Image) (logs : Logs) (asked n : ℕ) : Type 0 where
  pub has_begun : 0 < n
  pub within : n ≤ length (logs 0)
  pub resting : IsResting i (logs_at n logs) asked

-- A refusal of a flush or of the close at such a length: all that it wants is taken, and can't
-- land.
pub record IsWornFlush (i : Image) (logs : Logs) (n wanted have : ℕ) : Type 0 where
  pub at_rest : IsAtRest i logs wanted n
  pub above : have < wanted
  pub is_synced : have ≡ synced i.shape (take n (logs 0))
  pub all_taken : wanted ≤ taken (take n (logs 0))

-- A refusal at such a length of a write of so many sectors: there is no room for them.
pub record IsWornWrite (i : Image) (logs : Logs) (n count wanted have : ℕ) : Type 0 where
  pub at_rest : IsAtRest i logs 0 n
  pub above : have < wanted
  pub room : room i (logs_at n logs) ≤ have
  pub own_count : wanted ≤ taken (take n (logs 0)) + count
