-- What the values show that are added to a unit's logs.
use Rattle.std.specs.Prelude.{ℕ, List, length, Result, Ok, Err}
use Rattle.pblk_model.specs.declared.chunk.Got.{Got}
use Rattle.pblk_model.specs.declared.chunk.Got.TheVariants as got
use Rattle.pblk_model.specs.Blocks.{blocks_of}
use Rattle.pblk_model.specs.ChunkStep.{Write, Read, Reset, Done, Gave, Empty}
use Rattle.pblk_model.specs.UnitLog.{UnitEvent, UnitOutcome, Answered, Failed, Stopped}
use Rattle.unit_port.specs.declared.unit.UnitErr.{UnitErr}
use Rattle.unit_port.specs.declared.unit.UnitErr.TheVariants as errors
use Rattle.unit_port.specs.Armed.{Armed}
use Rattle.ocssd_drive.specs.Journal.{word_of}
use Rattle.ocssd_drive.specs.declared.shown.Landed.{Landed}
use Rattle.ocssd_drive.specs.declared.shown.Landed.TheVariants as landed
use Rattle.ocssd_drive.specs.declared.shown.Programmed.{Programmed}
use Rattle.ocssd_drive.specs.declared.shown.Fetched.{Fetched}
use Rattle.ocssd_drive.specs.declared.shown.WasReset.{WasReset}
use Rattle.ocssd_drive.specs.declared.shown.Arms.{Arms}

abbrev pub outcome_of : Landed → UnitOutcome
outcome_of landed.Done = Answered Done
outcome_of (landed.Failed k) = Failed k
outcome_of (landed.Stopped k) = Stopped k

abbrev pub fetch_outcome : List ℕ → Result Got UnitErr → UnitOutcome
fetch_outcome out (Ok (got.Sector mark)) = Answered (Gave (record { sector = out; mark = mark }))
fetch_outcome out (Ok got.Empty) = Answered Empty
fetch_outcome out (Err errors.Failed) = Failed 0
fetch_outcome out (Err errors.Stopped) = Stopped 0

abbrev pub programmed : Programmed → UnitEvent
programmed p = record { chunk = p.chunk; command = Write p.at (blocks_of p.size p.bytes.now p.marks.now); outcome = outcome_of p.landed }

abbrev pub fetched : Fetched → UnitEvent
fetched f = record { chunk = f.chunk; command = Read f.block; outcome = fetch_outcome f.out.now f.got }

abbrev pub was_reset : WasReset → UnitEvent
was_reset r = record { chunk = r.chunk; command = Reset; outcome = outcome_of r.landed }

abbrev pub arms : Arms → Armed
arms a = record { unit = a.unit; plans = a.plans.now; fuse = a.fuse.now; word = word_of a.stop.now; since = length a.log.now }
