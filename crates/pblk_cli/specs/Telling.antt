-- A call of the program: what it comes to, what it tells of that, and what it is told of files.
use Rattle.std.specs.Prelude.{ℕ, ◌≡◌, ◌⊎◌, ◌++◌, IsTrue, List, Some}
use Rattle.pblk_outside.specs.declared.file_fault.FileCall.TheVariants as calls
use Rattle.pblk_outside.specs.Faults.{HasRisen}
use Rattle.pblk_outside.specs.Files.{FilesView, AddsFault, IsCalm, SameFiles, SameOthers, TellsMissing}
use Rattle.pblk_outside.specs.Sink.{SinkView, TakesPrefix}
use Rattle.pblk_model.specs.declared.image.ImageErr.{ImageErr}
use Rattle.pblk_model.specs.declared.script.ScriptErr.{ScriptErr}
use Rattle.pblk_model.specs.CommandText.{image_line, script_line, failed_line, missing_line, memory_line, words_line}
use Rattle.stripe_parity.specs.declared.error.ParityErr.{ParityErr}
use Rattle.image_check.specs.declared.error.CheckErr.{CheckErr}
use Rattle.command_text.specs.Certificates.{certificate_line, check_line}
use Rattle.command_text.specs.Says.{Says}
use Rattle.pblk_cli.specs.Parities.{parity_line}

-- A call: the status that it answered, and the files and the output before and after.
pub record Call : Type 0 where
  pub status : ℕ
  pub files : FilesView
  pub files_after : FilesView
  pub out : SinkView
  pub out_after : SinkView

-- Why a command is refused.
pub data Reason : Type 0 where
  -- the image, or what it is to be made of
  Image : ImageErr → Reason
  Script : ScriptErr → Reason
  -- the parity, or it isn't as the drive is
  OfParity : ParityErr → Reason
  -- a file, by its name, could not be read or written
  Failed : List ℕ → Reason
  -- it isn't there
  Missing : List ℕ → Reason
  -- a certificate's bytes, by the first line that isn't of one
  Certificate : ℕ → Reason
  -- a certificate that isn't right
  Check : CheckErr → Reason
  -- the words, by what the image is
  Words : Reason
  Memory : Reason

-- What a command comes to: a status and a text, or a refusal.
pub data Ending : Type 0 where
  Gives : ℕ → List ℕ → Ending
  Refuses : Reason → Ending

abbrev pub status_of : Reason → ℕ
status_of (Image e) = 3
status_of (Script e) = 2
status_of (OfParity e) = 3
status_of (Failed name) = 4
status_of (Missing name) = 4
status_of (Certificate line) = 3
status_of (Check e) = 3
status_of Words = 1
status_of Memory = 7

abbrev pub line_of : Reason → List ℕ
line_of (Image e) = image_line e
line_of (Script e) = script_line e
line_of (OfParity e) = parity_line e
line_of (Failed name) = failed_line name
line_of (Missing name) = missing_line name
line_of (Certificate line) = certificate_line line
line_of (Check e) = check_line e
line_of Words = words_line
line_of Memory = memory_line

-- with the command's own status the text was written whole, and with 8 a part of it, and the output failed
abbrev pub Finishes : ℕ → List ℕ → ℕ → SinkView → SinkView → Type 0
Finishes own text status old new = ((status ≡ own) × (new.faults ≡ old.faults) × (IsTrue old.told → new.taken ≡ old.taken ++ text))
    ⊎ ((status ≡ 8) × HasRisen old.faults new.faults × (IsTrue old.told → TakesPrefix text old.taken new.taken))

-- What a call tells of an ending: its text, or the status and the line of a refusal, whose writing
-- changes nothing.
abbrev pub Tells : Ending → ℕ → SinkView → SinkView → Type 0
Tells (Gives own text) status old new = Finishes own text status old new
Tells (Refuses reason) status old new = (status ≡ status_of reason) × Says (line_of reason) old new

-- Files.

-- as far as is told, a file holds these bytes; and it is there
abbrev pub Holds : List ℕ → List ℕ → FilesView → Type 0
Holds name bytes files = IsTrue files.told → files.file name ≡ Some bytes

abbrev pub IsThere : List ℕ → FilesView → Type 0
IsThere name files = IsTrue files.told → (bytes : List ℕ) × (files.file name ≡ Some bytes)

-- no file was changed, and none failed
abbrev pub AreUntouched : FilesView → FilesView → Type 0
AreUntouched old new = SameFiles old.file new.file × IsCalm old new

-- a file was made to hold these bytes, no other was changed, and none failed
abbrev pub Stores : List ℕ → List ℕ → FilesView → FilesView → Type 0
Stores name bytes old new = Holds name bytes new × SameOthers name old.file new.file × IsCalm old new

-- a file could not be read, and that is the one fault
abbrev pub FailsReading : List ℕ → FilesView → FilesView → Type 0
FailsReading name old new = SameFiles old.file new.file × AddsFault name calls.Read old new

-- a file is missing as far as is told; where nothing is told it could not be read, and that is the one fault
abbrev pub IsMissing : List ℕ → FilesView → FilesView → Type 0
IsMissing name old new = SameFiles old.file new.file × TellsMissing name old new

-- a file could not be written, and that is the one fault: it alone may have changed
abbrev pub FailsWriting : List ℕ → FilesView → FilesView → Type 0
FailsWriting name old new = SameOthers name old.file new.file × AddsFault name calls.Write old new
