-- What the program's own functions answer, as what a command comes to.
use Rattle.std.specs.Prelude.{Result, Ok, Err}
use Rattle.pblk_cli.specs.declared.output.Output.{Output}
use Rattle.pblk_cli.specs.declared.refusal.Refusal.{Refusal}
use Rattle.pblk_cli.specs.declared.refusal.Refusal.TheVariants as refusals
use Rattle.pblk_cli.specs.Telling.{Reason, Image, Script, OfParity, Failed, Missing, Words, Memory, Ending, Gives, Refuses, Certificate, Check}

abbrev pub reason_of : Refusal → Reason
reason_of (refusals.Image e) = Image e
reason_of (refusals.Script e) = Script e
reason_of (refusals.Parity e) = OfParity e
reason_of (refusals.Failed name) = Failed name.now
reason_of (refusals.Missing name) = Missing name.now
reason_of (refusals.Certificate line) = Certificate line
reason_of (refusals.Check e) = Check e
reason_of refusals.Words = Words
reason_of refusals.Memory = Memory

abbrev pub ending_of : Result Output Refusal → Ending
ending_of (Ok output) = Gives output.status output.text.items
ending_of (Err refusal) = Refuses (reason_of refusal)
