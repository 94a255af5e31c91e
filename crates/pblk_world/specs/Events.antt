-- What happens in a mount: what the engine decides, and what the units do. Each event stands in the
-- log of its author.
use Rattle.std.specs.Prelude.{ℕ, ◌≤◌, ◌<◌, ◌≡◌, List, Option}
use Rattle.pblk_model.specs.declared.chunk.Mark.{Mark}
use Rattle.pblk_model.specs.Chunk.{Block}
use Rattle.pblk_model.specs.StartRecord.{StartRecord}
use Rattle.pblk_model.specs.UnitLog.{UnitEvent}

-- the block that a copy was made of: its line, its line address, and the position that its mark
-- names
pub record Source : Type 0 where
  pub line : ℕ
  pub at : ℕ
  pub position : ℕ

-- a sector with its position
pub record Entry : Type 0 where
  pub position : ℕ
  pub lba : ℕ
  -- where the collector copied it from; a user's entry has none
  pub source : Option Source
  pub sector : List ℕ

-- WS_OPT consecutive blocks of one chunk, in one program
pub record Stripe : Type 0 where
  pub line : ℕ
  pub unit : ℕ
  pub chunk : ℕ
  -- its first block in the chunk
  pub at : ℕ
  pub blocks : List Block

-- what a mount begins with: its first position, its first sequence number, and the lines that it
-- resets at once
pub record Beginning : Type 0 where
  pub first : ℕ
  pub seq : ℕ
  pub strays : List ℕ

pub data EngineEvent : Type 0 where
  Begin : Beginning → EngineEvent
  -- an entry is taken, and gets the mark with which it will be written
  Take : Entry → Mark → EngineEvent
  -- a line is opened with a start record
  Open : ℕ → StartRecord → EngineEvent
  Place : Stripe → EngineEvent
  -- The answers, each a unit and the number of an event in its log, from 0: a program that was
  -- done, failed, or was stopped, and a reset.
  Landed : ℕ → ℕ → EngineEvent
  Lost : ℕ → ℕ → EngineEvent
  Again : ℕ → ℕ → EngineEvent
  ResetDone : ℕ → ℕ → EngineEvent
  -- a line is given up: its chunks may be reset
  Free : ℕ → EngineEvent

-- who made a command of a unit: the number of the worker, and how many commands of units it had
-- made before
pub record Maker : Type 0 where
  pub worker : ℕ
  pub made : ℕ

-- a call of a worker made the command: the worker had made so many commands before the call, and so
-- many after it
pub record IsMadeInCall (m : Maker) (caller start stop : ℕ) : Type 0 where
  pub worker : m.worker ≡ caller
  pub from : start ≤ m.made
  pub to : m.made < stop

pub data Event : Type 0 where
  Decides : EngineEvent → Event
  Does : UnitEvent → Maker → Event

-- An event as it stands in its author's log: with the length of the prefix of each log that the
-- author knew, by the number of that log. It knows its own log whole.
pub record Logged : Type 0 where
  pub event : Event
  pub knows : List ℕ

-- an event with the number of its author: 0 is the engine, and u + 1 the unit u
pub record Step : Type 0 where
  pub author : ℕ
  pub logged : Logged
