-- Steps that are made one after another. The author of each knows every log to its end.
use Rattle.std.specs.Prelude.{ℕ, suc, ◌+◌, ◌≡◌, List, ◌∷◌, map, length}
use Rattle.std.specs.List.{range_with_len}
use Rattle.pblk_model.specs.declared.shape.Shape.{Shape}
use Rattle.pblk_model.specs.Shape.{units}
use Rattle.pblk_model.specs.Chunk.{Block}
use Rattle.pblk_model.specs.ChunkStep.{ChunkAnswer, Write, Read, Reset, Done}
use Rattle.pblk_model.specs.UnitLog.{UnitOutcome, UnitEvent, Answered}
use Rattle.pblk_world.specs.Events.{Beginning, EngineEvent, Begin, Landed, Lost, Again, ResetDone, Stripe, Decides, Does, Maker, Step}
use Rattle.pblk_world.specs.Makers.{maker_of, opening_worker}
use Rattle.pblk_world.specs.World.{World, log_of}
use Rattle.pblk_world.specs.EngineLog.{answers}
use Rattle.pblk_world.specs.Commanding.{ended_stripes}

-- the lengths of all logs, in the order of their authors' numbers
abbrev pub knows_all : Shape → World → List ℕ
knows_all s w = map (λ author. length (log_of w author)) (range_with_len 0 (units s + 1))

-- the next step of the engine
abbrev pub engine_step : Shape → EngineEvent → World → Step
engine_step s e w = record { author = 0; logged = record { event = Decides e; knows = knows_all s w } }

-- the next step of a unit, with the maker of its command
abbrev pub unit_step : Shape → ℕ → UnitEvent → Maker → World → Step
unit_step s unit e maker w = record {
  author = suc unit;
  logged = record { event = Does e maker; knows = knows_all s w };
}

-- Makers.

-- One worker makes all commands of a session. The opening is a worker of its own.
abbrev pub next_maker : World → Maker
next_maker w = maker_of 0 w

abbrev pub opening_maker : World → Maker
opening_maker w = maker_of opening_worker w

-- What a unit does.

-- a program of these blocks, with its outcome
abbrev pub write_of : ℕ → ℕ → List Block → UnitOutcome → UnitEvent
write_of chunk at blocks outcome = record { chunk = chunk; command = Write at blocks; outcome = outcome }

-- the program of a stripe that was done
abbrev pub program_of : Stripe → UnitEvent
program_of stripe = write_of stripe.chunk stripe.at stripe.blocks (Answered Done)

-- the reset of a chunk, with its outcome, and one that was done
abbrev pub reset_with : ℕ → UnitOutcome → UnitEvent
reset_with chunk outcome = record { chunk = chunk; command = Reset; outcome = outcome }

abbrev pub reset_of : ℕ → UnitEvent
reset_of chunk = reset_with chunk (Answered Done)

-- the fetch of a block, with its outcome, and one that was answered
abbrev pub read_with : ℕ → ℕ → UnitOutcome → UnitEvent
read_with chunk block outcome = record { chunk = chunk; command = Read block; outcome = outcome }

abbrev pub fetch_of : ℕ → ℕ → ChunkAnswer → UnitEvent
fetch_of chunk block answer = read_with chunk block (Answered answer)

-- The world after a step, or two.

abbrev pub noted : Shape → EngineEvent → World → World
noted s e w = engine_step s e w ∷ w

-- after a mount began
abbrev pub after_begin : Shape → Beginning → World → World
after_begin s b w = noted s (Begin b) w

-- after a unit did something
abbrev pub after_unit : Shape → ℕ → UnitEvent → Maker → World → World
after_unit s unit e maker w = unit_step s unit e maker w ∷ w

-- the number of a unit's next event
abbrev pub next_event : World → ℕ → ℕ
next_event w unit = length (log_of w (suc unit))

-- After the engine noted what a unit did: as the program of a stripe that was done, as one that
-- failed, as one that was stopped, and as a reset that wasn't stopped.
abbrev pub after_landing : Shape → ℕ → UnitEvent → Maker → World → World
after_landing s unit e maker w = noted s (Landed unit (next_event w unit)) (after_unit s unit e maker w)

abbrev pub after_losing : Shape → ℕ → UnitEvent → Maker → World → World
after_losing s unit e maker w = noted s (Lost unit (next_event w unit)) (after_unit s unit e maker w)

abbrev pub after_stopping : Shape → ℕ → UnitEvent → Maker → World → World
after_stopping s unit e maker w = noted s (Again unit (next_event w unit)) (after_unit s unit e maker w)

abbrev pub after_reset_noted : Shape → ℕ → UnitEvent → Maker → World → World
after_reset_noted s unit e maker w = noted s (ResetDone unit (next_event w unit)) (after_unit s unit e maker w)

-- What holds where the engine notes each answer before anything else is done.

-- Each unit has ended as many stripes as the engine noted answers. A stripe whose program was
-- stopped isn't ended, and has no answer.
abbrev pub IsLevel : World → Type 0
IsLevel w = (unit : ℕ) → ended_stripes (log_of w (suc unit)) ≡ length (answers (log_of w 0) unit)
