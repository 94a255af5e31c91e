-- What running the bytes of a script on the drive of an image comes to.
use Rattle.std.specs.Prelude.{ℕ, ◌<◌, ◌≤◌, ◌≡◌, ◌⊎◌, ⊤, List, Err}
use Rattle.command_words.specs.Grammar.{RunOptions}
use Rattle.pblk_outside.specs.Files.{FilesView}
use Rattle.pblk_model.specs.declared.script.Command.{Command}
use Rattle.pblk_model.specs.Contents.{end}
use Rattle.pblk_model.specs.ImageFile.{Drive, IsImage, image_bytes, image_of}
use Rattle.pblk_model.specs.Text.{Transcript, text_of}
use Rattle.ocssd_drive.specs.Drive.{DriveView, stored}
use Rattle.load_maker.specs.Loads.{load}
use Rattle.run_report.specs.Report.{transcript_of}
use Rattle.run_report.specs.Totals.{totals_line}
use Rattle.run_threads.specs.declared.records.Records.{Records}
use Rattle.pblk_model.specs.ScriptText.{IsScript, read_script}
use Rattle.run_script.specs.Reading.{BeginsWell}
use Rattle.pblk_cli.specs.declared.run.Telling.{Telling}
use Rattle.pblk_cli.specs.declared.run.Telling.TheVariants as tellings
use Rattle.pblk_cli.specs.Commands.{IsRunBetween, soak_options}
use Rattle.pblk_cli.specs.Status.{status_of_run}
use Rattle.pblk_cli.specs.Telling.{Reason, Script, Words, Failed, Missing, Memory, IsThere, AreUntouched, FailsReading, IsMissing}

-- one of both files could not be read, or there was no memory for their bytes
abbrev pub CannotReadBoth : List ℕ → List ℕ → Reason → FilesView → FilesView → Type 0
CannotReadBoth image script (Failed name) old new =
    ((name ≡ image) × FailsReading image old new) ⊎ ((name ≡ script) × IsThere image old × FailsReading script old new)
CannotReadBoth image script (Missing name) old new =
    ((name ≡ image) × IsMissing image old new) ⊎ ((name ≡ script) × IsThere image old × IsMissing script old new)
CannotReadBoth image script Memory old new = IsThere image old × AreUntouched old new
CannotReadBoth image script reason old new = ⊥

-- what is told of a run of these commands, by its transcript
abbrev pub said_by : Telling → List (List Command) → Transcript → List ℕ
said_by tellings.Transcript commands t = text_of t
said_by tellings.Totals commands t = totals_line commands t.kept

-- the bytes are those of a drive that a run of the commands leaves, with these options, this status
-- and this text, which tells that of it
pub record IsRunTo (found : Drive) (options : RunOptions) (commands : List (List Command)) (telling : Telling) (status : ℕ)
    (text bytes : List ℕ) : Type 0 where
  pub left : Drive
  pub printed : List ℕ
  pub run : IsRunBetween found options commands printed left
  pub text_is : text ≡ said_by telling commands run.transcript
  pub status_is : status ≡ status_of_run run.transcript
  pub bytes_are : bytes ≡ image_bytes left

-- What is made of a drive after a run: the bytes of its image, and, by the records' transcript and the end
-- of that image, the status and the text.
pub record IsStored (left : DriveView) (commands : List (List Command)) (records : Records) (telling : Telling) (status : ℕ)
    (text bytes : List ℕ) : Type 0 where
  pub text_is : text ≡ said_by telling commands (transcript_of commands records (end (image_of (stored left))))
  pub status_is : status ≡ status_of_run (transcript_of commands records (end (image_of (stored left))))
  pub bytes_are : bytes ≡ image_bytes (stored left)
  pub spelled : IsImage (image_bytes (stored left)) (stored left)

-- The bytes of a script were accepted on a drive, and run.
pub record IsRunOfScript (found : Drive) (options : RunOptions) (script : List ℕ) (status : ℕ) (text bytes : List ℕ) : Type 0 where
  pub commands : List (List Command)
  pub commands_are : IsScript found.capacity script commands
  pub run : IsRunTo found options commands tellings.Transcript status text bytes

-- They were refused for a drive of this capacity; or there was no memory to read them or to run
-- them, and the first line that isn't skipped isn't refused.
abbrev pub RefusesScript : ℕ → List ℕ → Reason → Type 0
RefusesScript capacity script (Script e) = read_script capacity script ≡ Err e
RefusesScript capacity script Memory = BeginsWell capacity script
RefusesScript capacity script reason = ⊥

-- The load of this number was made for a drive of sectors enough, and run.
pub record IsRunOfLoad (found : Drive) (number rounds status : ℕ) (text bytes : List ℕ) : Type 0 where
  pub room : 32 ≤ found.capacity
  pub run : IsRunTo found soak_options (load number rounds found.capacity) tellings.Totals status text bytes

-- a drive of this capacity has too few sectors; or there was no memory
abbrev pub RefusesLoad : ℕ → Reason → Type 0
RefusesLoad capacity Words = capacity < 32
RefusesLoad capacity Memory = ⊤
RefusesLoad capacity reason = ⊥
