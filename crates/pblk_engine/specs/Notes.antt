-- Notes that the parts of an engine hand to each other.
use Rattle.std.specs.Prelude.{◌≡◌}
use Rattle.atomic_table.specs.Seated.{TableId}
use Rattle.pblk_world.specs.AtRest.{AreResetsNoted}
use Rattle.chronicle.specs.Views.{Past}
use Rattle.chronicle.specs.Handles.{NoteView}
use Rattle.chronicle.specs.Prefixes.{logs_of, ArePrefixes, AreLegalLogs}

-- A note of this chronicle. By what it knows the engine has noted each reset that wasn't stopped.
pub record IsNoteOf (chronicle : TableId) (past : Past) (note : NoteView) : Type 0 where
  pub of : note.chronicle ≡ chronicle
  pub over : note.past ≡ past
  pub legal : AreLegalLogs past.image note.known
  pub begun : ArePrefixes past.logs note.known
  pub noted : AreResetsNoted (logs_of note.known)
