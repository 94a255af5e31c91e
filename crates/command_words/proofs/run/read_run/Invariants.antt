use Rattle.std.proofs.Common.{map, length, string_bytes}
use Rattle.command_words.proofs.Reading.{IsReading}
use Rattle.command_words.proofs.RunReading.{HasParts}
use Rattle.command_words.proofs.run.read_run.Given as goal

-- what was read begins the words, and what is left ends them
abbrev pub invariant-loop-read : goal.invariant-loop-read
invariant-loop-read l = IsReading (HasParts l.read.0 l.read.1.0 l.read.1.1.0 l.read.1.1.1.0 l.read.1.1.1.1.0)
    (map string_bytes l.words) (map string_bytes l.rest)

abbrev pub decreases-loop-read : goal.decreases-loop-read
decreases-loop-read l = length l.rest
