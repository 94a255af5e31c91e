use Rattle.std.proofs.Common.{List, map, length, string_bytes}
use Rattle.command_words.specs.Grammar.{Item}
use Rattle.command_words.specs.Words.{HasRead}
use Rattle.command_words.proofs.Reading.{IsReading}
use Rattle.command_words.proofs.create.read_create.Given as goal

-- what was read begins the words, and what is left ends them
abbrev pub invariant-loop-rest : goal.invariant-loop-rest
invariant-loop-rest l = IsReading (λ (items : List Item). HasRead items l.read) (map string_bytes l.words) (map string_bytes l.rest)

abbrev pub decreases-loop-rest : goal.decreases-loop-rest
decreases-loop-rest l = length l.rest
