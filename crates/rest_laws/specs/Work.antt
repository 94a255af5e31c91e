-- Pieces of work, as events of the engine's log, and how many of them a log has.
use Rattle.std.specs.Prelude.{ℕ, Bool, true, false, List, length}
use Rattle.std.specs.List.{filter}
use Rattle.pblk_world.specs.Events.{EngineEvent, Begin, Take, Open, Place, Landed, Lost, Again, ResetDone, Free, Logged}
use Rattle.pblk_world.specs.LegalMounts.{decides}

-- A piece of work: an entry is taken, a line is opened, a stripe is placed, or a reset is done.
-- That a line is freed is none, nor is an answer of a program.
abbrev pub is_work : EngineEvent → Bool
is_work (Begin b) = false
is_work (Take entry mark) = true
is_work (Open line start) = true
is_work (Place stripe) = true
is_work (Landed unit event) = false
is_work (Lost unit event) = false
is_work (Again unit event) = false
is_work (ResetDone unit event) = true
is_work (Free line) = false

-- how many of them a log has
abbrev pub work_of : List Logged → ℕ
work_of log = length (filter (λ l. decides is_work l.event) log)
