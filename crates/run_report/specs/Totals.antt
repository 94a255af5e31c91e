-- The line that sums up a run of a script.
use Rattle.std.specs.Prelude.{ℕ, ◌+◌, List, [], ◌∷◌, ◌++◌, codes}
use Rattle.pblk_model.specs.declared.script.Command.{Command}
use Rattle.pblk_model.specs.declared.script.Command.TheVariants.{Write, Read, Flush, Post, Await}
use Rattle.pblk_model.specs.Text.{newline, spaced}
use Rattle.run_report.specs.declared.counts.Counted.{Counted}
use Rattle.run_report.specs.declared.counts.Counted.TheVariants as counted

-- what is counted of a command: itself, itself where it is of that kind, or the sectors that it writes
abbrev pub count_of : Counted → Command → ℕ
count_of counted.Commands command = 1
count_of counted.Writes (Write lba count tag) = 1
count_of counted.Writes (Read lba count) = 0
count_of counted.Writes Flush = 0
count_of counted.Writes (Post name) = 0
count_of counted.Writes (Await name) = 0
count_of counted.Sectors (Write lba count tag) = count
count_of counted.Sectors (Read lba count) = 0
count_of counted.Sectors Flush = 0
count_of counted.Sectors (Post name) = 0
count_of counted.Sectors (Await name) = 0
count_of counted.Reads (Write lba count tag) = 0
count_of counted.Reads (Read lba count) = 1
count_of counted.Reads Flush = 0
count_of counted.Reads (Post name) = 0
count_of counted.Reads (Await name) = 0
count_of counted.Flushes (Write lba count tag) = 0
count_of counted.Flushes (Read lba count) = 0
count_of counted.Flushes Flush = 1
count_of counted.Flushes (Post name) = 0
count_of counted.Flushes (Await name) = 0

-- the sum of that over the commands of a thread, and over those of a script
abbrev pub thread_total : Counted → List Command → ℕ
thread_total what [] = 0
thread_total what (command ∷ commands) = count_of what command + thread_total what commands

abbrev pub total : Counted → List (List Command) → ℕ
total what [] = 0
total what (commands ∷ script) = thread_total what commands + total what script

-- how many commands the script has, how many of them are writes, how many sectors these have, how many
-- are reads and flushes, and how many lines of the history are kept
abbrev pub totals_line : List (List Command) → ℕ → List ℕ
totals_line script kept = codes "soak commands" ++ spaced (total counted.Commands script ∷ [])
    ++ codes " writes" ++ spaced (total counted.Writes script ∷ [])
    ++ codes " sectors" ++ spaced (total counted.Sectors script ∷ [])
    ++ codes " reads" ++ spaced (total counted.Reads script ∷ [])
    ++ codes " flushes" ++ spaced (total counted.Flushes script ∷ [])
    ++ codes " kept" ++ spaced (kept ∷ []) ++ newline
