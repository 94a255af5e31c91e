-- How the program ends, whose words could be had or not.
use Rattle.std.specs.Prelude.{ℕ, ◌≡◌, List, map, Result, Ok, Err, String, Vec, string_bytes}
use Rattle.pblk_outside.specs.declared.words.WordsErr.{WordsErr}
use Rattle.pblk_outside.specs.declared.words.WordsErr.TheVariants as errors
use Rattle.pblk_model.specs.CommandText.{words_line, memory_line}
use Rattle.command_text.specs.Says.{Says}
use Rattle.pblk_cli.specs.Telling.{Call, AreUntouched}
use Rattle.pblk_cli.specs.Commands.{CallEnds}

-- a status and a line, and no file is touched
abbrev pub EndsWith : ℕ → List ℕ → Call → Type 0
EndsWith status line c = (c.status ≡ status) × Says line c.out c.out_after × AreUntouched c.files c.files_after

-- as a call with the words ends; a word that is no text is none that a command has
abbrev pub ProgramEnds : {Y Z : Type 0} → Result (Vec (String Z) Y) WordsErr → Call → Type 0
ProgramEnds (Ok words) c = CallEnds (map string_bytes words.items) c
ProgramEnds (Err errors.NotText) c = EndsWith 1 words_line c
ProgramEnds (Err errors.Memory) c = EndsWith 7 memory_line c
