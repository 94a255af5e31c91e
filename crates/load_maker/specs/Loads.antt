-- Loads: scripts of four threads, made of a number. Each thread draws a number for each of its commands.
use Rattle.std.specs.Prelude.{ℕ, zero, suc, ◌+◌, ◌-◌, ◌*◌, ◌/◌, ◌%◌, ◌^◌, ◌==◌, if◌then◌else◌, List, map}
use Rattle.std.specs.List.{range_with_len}
use Rattle.pblk_model.specs.declared.script.Command.{Command}
use Rattle.pblk_model.specs.declared.script.Command.TheVariants.{Write, Read, Flush}

-- A linear congruential generator with the numbers of Knuth's MMIX: its next state, and what is drawn,
-- which are the upper bits.
abbrev pub next : ℕ → ℕ
next x = (x * 6364136223846793005 + 1442695040888963407) % 2 ^ 64

-- the state once it went so many steps on
unfoldable pub state : ℕ → ℕ → ℕ
state x zero = x
state x (suc n) = next (state x n)

abbrev pub drawn : ℕ → ℕ
drawn x = x / 2 ^ 33

-- where a thread begins
abbrev pub seed : ℕ → ℕ → ℕ
seed number thread = (number + thread) % 2 ^ 64

-- The command of this number in its thread, by what was drawn for it. A round has sixteen: writes and
-- reads of eight sectors in turn, and a flush in place of the last read. A thread writes in its quarter
-- of the capacity. Its tags count its writes from 1.
abbrev pub load_command : ℕ → ℕ → ℕ → ℕ → Command
load_command capacity thread index draw =
    if index % 16 == 15 then Flush
    else if index % 16 % 2 == 1 then Read (draw % (capacity - 7)) 8
    else Write (thread * (capacity / 4) + draw % (capacity / 4 - 7)) 8 (thread * 2 ^ 32 + (index / 16 * 8 + index % 16 / 2 + 1))

-- the command of this number in a thread of the load of this number
abbrev pub command_of : ℕ → ℕ → ℕ → ℕ → Command
command_of number capacity thread index = load_command capacity thread index (drawn (state (seed number thread) (index + 1)))

abbrev pub thread_load : ℕ → ℕ → ℕ → ℕ → List Command
thread_load number rounds capacity thread = map (command_of number capacity thread) (range_with_len 0 (16 * rounds))

abbrev pub load : ℕ → ℕ → ℕ → List (List Command)
load number rounds capacity = map (thread_load number rounds capacity) (range_with_len 0 4)
