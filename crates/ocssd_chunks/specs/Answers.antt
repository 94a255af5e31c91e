-- What a call answers, as the answer to a command.
use Rattle.std.specs.Prelude.{ℕ, List, Result, Ok, Err}
use Rattle.pblk_model.specs.declared.chunk.Got.{Got}
use Rattle.pblk_model.specs.declared.chunk.Got.TheVariants as got
use Rattle.pblk_model.specs.declared.chunk.ChunkErr.{ChunkErr}
use Rattle.pblk_model.specs.ChunkStep.{ChunkAnswer, Done, Gave, Empty, Refused}

abbrev pub write_answer : {T : Type 0} → Result T ChunkErr → ChunkAnswer
write_answer (Ok _) = Done
write_answer (Err e) = Refused e

-- of a read that left these bytes in the caller's buffer
abbrev pub read_answer : List ℕ → Result Got ChunkErr → ChunkAnswer
read_answer bytes (Ok (got.Sector mark)) = Gave (record { sector = bytes; mark = mark })
read_answer bytes (Ok got.Empty) = Empty
read_answer bytes (Err e) = Refused e

abbrev pub reset_answer : {T : Type 0} → Result T ChunkErr → ChunkAnswer
reset_answer (Ok _) = Done
reset_answer (Err e) = Refused e
