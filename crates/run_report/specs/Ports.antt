-- A script whose threads are run through ports of one target, each through a port of its own.
use Rattle.std.specs.Prelude.{ℕ, suc, ◌<◌, ◌≤◌, ◌≡◌, ⊤, List, [], ◌∷◌, ◌++◌, map, Option, Some, None}
use Rattle.std.specs.List.{AllByRecursion, filter, flat_map}
use Rattle.pblk_model.specs.declared.script.Command.{Command}
use Rattle.pblk_model.specs.Transcript.{IsDistinct, IsWorn, closing_event, is_of_one}
use Rattle.block_port.specs.declared.rows.DriveAnswer.{DriveAnswer}
use Rattle.block_port.specs.ByPlace.{ThreadWrite, all_lines, by_place}
use Rattle.block_port.specs.Own.{PlacedSector}
use Rattle.block_port.specs.Port.{Learns, ModelPort, Rise}
use Rattle.run_threads.specs.declared.records.Records.{Records}
use Rattle.run_threads.specs.declared.records.Trouble.{Trouble}
use Rattle.run_threads.specs.declared.records.Trouble.TheVariants.{Drive, Worn}
use Rattle.run_threads.specs.Run.{EachThread, IsEvent, Runs}
use Rattle.run_report.specs.Report.{closing_of}

-- the trouble that a close may meet
abbrev pub IsTrouble : Option Trouble → Type 0
IsTrouble None = ⊤
IsTrouble (Some (Drive unit event)) = IsEvent unit event
IsTrouble (Some (Worn wanted have)) = IsWorn wanted have

-- the unit and the event that a Drive answer names
abbrev pub event_of : DriveAnswer → ℕ × ℕ
event_of answer = (answer.unit, answer.event)

-- those that ports answered, port after port
abbrev pub events_of : List ModelPort → List (ℕ × ℕ)
events_of ports = flat_map (λ port. map event_of port.faults) ports

-- the writes of the ports of threads, which are numbered from this number on
abbrev pub writes_from : ℕ → List ModelPort → List ThreadWrite
writes_from thread [] = []
writes_from thread (port ∷ ports) = map (λ w. record { thread = thread; write = w }) port.own ++ writes_from (suc thread) ports

-- A port that has written nothing and answered no event, over these contents, of sectors of this
-- size.
pub record IsUnused (size : ℕ) (start : List (List ℕ)) (port : ModelPort) : Type 0 where
  pub sector : port.sector ≡ size
  pub contents : port.start ≡ start
  pub own : port.own ≡ []
  pub faults : port.faults ≡ []

-- At some moment since then the port knew just these lines.
pub record LearnsAll (known : List PlacedSector) (port : ModelPort) : Type 0 where
  pub last : ModelPort
  pub learned : Learns port last
  pub all : last.known ≡ known

-- The records are of a run of the threads of a script, each through a port of its own, from one
-- moment of the ports to the other, and of the close of their target. In the end these lines were
-- the whole history.
pub record IsRunOfPorts (size : ℕ) (start : List (List ℕ)) (script : List (List Command)) (records : Records)
    (olds news : List ModelPort) (known : List PlacedSector) : Type 0 where
  -- the device was opened, and the commands of each thread were answered one after another
  pub opened : records.opening ≡ None
  pub told : List ℕ → ℕ
  pub ran : EachThread (λ commands answers before after. Runs told before commands answers after) script records.threads olds news
  pub unused : AllByRecursion (IsUnused size start) olds
  pub learned : AllByRecursion (LearnsAll known) news
  -- the lines rise, and are those of the ports' own writes, each at its place
  pub from : ℕ
  pub to : ℕ
  pub rise : Rise from to known
  pub history : known ≡ all_lines (by_place (writes_from 0 news))
  pub trouble : IsTrouble records.closing
  -- no event was answered twice, as far as numbers tell
  pub distinct : IsDistinct (filter is_of_one (events_of news ++ closing_event (closing_of records.closing)))

-- After the close all positions below `end` are kept: all that was flushed, and where closing met
-- no trouble all that is known.
pub record AreKeptBelow (records : Records) (ports : List ModelPort) (known : List PlacedSector) (end : ℕ) : Type 0 where
  pub flushed : AllByRecursion (λ port. port.flushed ≤ end) ports
  pub all : records.closing ≡ None → AllByRecursion (λ line. line.position < end) known
