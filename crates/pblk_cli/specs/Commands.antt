-- What each command comes to, by the files before and after: a text, or a refusal with its cause.
-- No other ending is left.
use Rattle.std.specs.Prelude.{ℕ, ◌<◌, ◌≤◌, ◌≡◌, ◌≢◌, ◌⊎◌, ⊤, true, false, List, [], map, length, Some, None, Err, codes, ◌↔◌, IsTrue, Bool}
use Rattle.pblk_outside.specs.Files.{FilesView}
use Rattle.pblk_model.specs.declared.script.Command.{Command}
use Rattle.command_words.specs.Grammar.{CommandLine, Create, Geometry, Show, Report, Parity, Rebuild, Run, Soak, IsCommandLine, IsLoad, RunOptions, helpers_of}
use Rattle.pblk_model.specs.CommandText.{CreateNumbers, created_refusal, created_drive, created_text, geometry_text, number_line, words_line}
use Rattle.pblk_model.specs.Contents.{contents, end}
use Rattle.pblk_model.specs.History.{after, users}
use Rattle.pblk_model.specs.Image.{Image as ModelImage}
use Rattle.pblk_model.specs.Shape.{units}
use Rattle.pblk_model.specs.ImageFile.{Drive, IsImage, image_bytes, image_of, image_refusal, shape_of}
use Rattle.command_words.specs.Grammar as commands
use Rattle.pblk_model.specs.ScriptText.{IsScript, read_script}
use Rattle.pblk_model.specs.Sealed.{IsSealed}
use Rattle.pblk_model.specs.Text.{Closed, Transcript, text_of}
use Rattle.pblk_model.specs.Transcript.{IsRun, IsTranscript, events, sector_writes}
use Rattle.pblk_world.specs.World.{World, log_of, media}
use Rattle.pblk_world.specs.AtRest.{IsAtRest}
use Rattle.pblk_world.specs.EngineLog.{begun}
use Rattle.pblk_world.specs.Space.{is_due}
use Rattle.pblk_world.specs.Fronts.{history, user_positions}
use Rattle.pblk_world.specs.Lines.{found_image}
use Rattle.pblk_world.specs.LegalMounts.{IsLegalMount}
use Rattle.pblk_world.specs.Orders.{AreAfterResets, AreOpenedFull, NoneToFree, NoneWasLeft}
use Rattle.pblk_world.specs.Reasons.{AreBegun, AreGranted, AreUrgent}
use Rattle.rest_laws.specs.Tidy.{IsTidy}
use Rattle.rest_laws.specs.TidyMounts.{HasNoFailures}
use Rattle.stripe_parity.specs.declared.error.ParityErr.{ParityErr}
use Rattle.stripe_parity.specs.ParityBytes.{parity_bytes}
use Rattle.stripe_parity.specs.ParityFile.{IsParity, ParityFile, parity_of}
use Rattle.stripe_parity.specs.Rebuilding.{AreAsKept, IsRebuilt, kept_blocks}
use Rattle.world_laws.specs.Finding.{NoneOpen}
use Rattle.image_check.specs.declared.certificate.Certificate.{Certificate as Certifying}
use Rattle.image_check.specs.Right as right
use Rattle.image_check.specs.Right.{IsInOrder, IsRight, said_contents}
use Rattle.image_check.specs.Makes.{AreFirst}
use Rattle.image_check.specs.declared.error.CheckErr.TheVariants as errors
use Rattle.image_check.specs.Text.{IsFirstWrong}
use Rattle.image_check.specs.Text as certificates
use Rattle.command_text.specs.Certificates.{certified_text, checked_text}
use Rattle.command_text.specs.Says.{Says}
use Rattle.pblk_cli.specs.Parities.{IsFileOf, IsLostOf, RefusesParity}
use Rattle.load_maker.specs.Loads.{load}
use Rattle.run_report.specs.Totals.{totals_line}
use Rattle.pblk_cli.specs.Complete.{HasSmallNumbers, IsComplete, script_writes}
use Rattle.pblk_cli.specs.Contents.{numbers_text, show_text}
use Rattle.pblk_cli.specs.Status.{status_of_run}
use Rattle.pblk_cli.specs.Stops.{AreAllTold, AreNames, AreOutcomesBy, HasBegun, fuse_on}
use Rattle.pblk_cli.specs.Synced.{AreFlushesSynced, IsAllSynced}
use Rattle.pblk_cli.specs.Worn.{AreRefusedIn}
use Rattle.pblk_cli.specs.Telling.{Call, Image, Script, OfParity, Failed, Missing, Words, Memory, Ending, Gives, Refuses, Tells, Holds, IsThere, AreUntouched, Stores, FailsReading, IsMissing, FailsWriting, Certificate, Check, Reason}

-- Creating.

abbrev pub CreateComesTo : List ℕ → CreateNumbers → Ending → FilesView → FilesView → Type 0
-- the image was made and stored; it is tidy, and its one spelling is an image of its drive
CreateComesTo image n (Gives status text) old new = (status ≡ 0) × (created_refusal n ≡ None) × Stores image (image_bytes (created_drive n)) old new
    × (text ≡ created_text (length (image_bytes (created_drive n)))) × IsTidy (image_of (created_drive n))
    × IsImage (image_bytes (created_drive n)) (created_drive n)
CreateComesTo image n (Refuses (Image e)) old new = (created_refusal n ≡ Some e) × AreUntouched old new
CreateComesTo image n (Refuses (Failed name)) old new = (name ≡ image) × (created_refusal n ≡ None) × FailsWriting image old new
CreateComesTo image n (Refuses Memory) old new = (created_refusal n ≡ None) × AreUntouched old new
CreateComesTo image n ending old new = ⊥

-- What is told of images.

-- the file of an image was read, and it is an image of this drive
pub record IsDriveOf (image : List ℕ) (files : FilesView) (d : Drive) : Type 0 where
  pub bytes : List ℕ
  pub read : Holds image bytes files
  pub is : IsImage bytes d

-- why a file gave no drive: it holds no image, could not be read or isn't there; or there was no memory
abbrev pub CannotReadDrive : List ℕ → Reason → FilesView → FilesView → Type 0
CannotReadDrive image (Image e) old new = (bytes : List ℕ) × Holds image bytes old × (image_refusal bytes ≡ Some e) × AreUntouched old new
CannotReadDrive image (Failed name) old new = (name ≡ image) × FailsReading image old new
CannotReadDrive image (Missing name) old new = (name ≡ image) × IsMissing image old new
CannotReadDrive image Memory old new = IsThere image old × AreUntouched old new
CannotReadDrive image reason old new = ⊥

-- A command that tells of an image: the file is untouched, and the text is what `says` says of the
-- drive.
abbrev pub TellsComeTo : (Drive → List ℕ) → List ℕ → Ending → FilesView → FilesView → Type 0
TellsComeTo says image (Gives status text) old new = (status ≡ 0) × (d : Drive) × IsDriveOf image old d × AreUntouched old new × (text ≡ says d)
TellsComeTo says image (Refuses reason) old new = CannotReadDrive image reason old new

abbrev pub GeometryComesTo : List ℕ → Ending → FilesView → FilesView → Type 0
GeometryComesTo = TellsComeTo geometry_text

-- the sectors that the image holds, and its end
abbrev pub ShowComesTo : List ℕ → Ending → FilesView → FilesView → Type 0
ShowComesTo = TellsComeTo show_text

-- the numbers of the drive's chunks, and of what the image holds
abbrev pub ReportComesTo : List ℕ → Ending → FilesView → FilesView → Type 0
ReportComesTo = TellsComeTo numbers_text

-- Certificates.

-- these bytes are the text of a certificate that is right for an image
pub record IsCertificateOf (i : ModelImage) (bytes : List ℕ) : Type 0 where
  pub certificate : Certifying
  pub right : IsRight i certificate
  pub order : IsInOrder certificate
  pub spelled : bytes ≡ certificates.text_of certificate

-- they are, and of several records that bear a position the certificate names the first
pub record IsMadeOf (i : ModelImage) (bytes : List ℕ) : Type 0 where
  pub is : IsCertificateOf i bytes
  pub first : AreFirst i is.certificate.bears

-- that of what the image holds was made, and stored
pub record CertificateMade (image name : List ℕ) (status : ℕ) (text : List ℕ) (old new : FilesView) : Type 0 where
  pub drive : Drive
  pub drive_is : IsDriveOf image old drive
  pub bytes : List ℕ
  pub made : IsMadeOf (image_of drive) bytes
  pub status_is : status ≡ 0
  pub text_is : text ≡ certified_text (length bytes)
  pub stored : Stores name bytes old new

abbrev pub CertifyComesTo : List ℕ → List ℕ → Ending → FilesView → FilesView → Type 0
CertifyComesTo image name (Gives status text) old new = CertificateMade image name status text old new
CertifyComesTo image name (Refuses (Image e)) old new = (bytes : List ℕ) × Holds image bytes old × (image_refusal bytes ≡ Some e) × AreUntouched old new
-- the image could not be read; or it is accepted, and the certificate could not be written
CertifyComesTo image name (Refuses (Failed file)) old new = ((file ≡ image) × FailsReading image old new)
    ⊎ ((file ≡ name) × ((d : Drive) × IsDriveOf image old d) × FailsWriting name old new)
CertifyComesTo image name (Refuses (Missing file)) old new = (file ≡ image) × IsMissing image old new
CertifyComesTo image name (Refuses Memory) old new = IsThere image old × AreUntouched old new
CertifyComesTo image name ending old new = ⊥

-- the bytes are a certificate that is right for an image
pub record IsCheckedOf (i : ModelImage) (bytes : List ℕ) (status : ℕ) (text : List ℕ) : Type 0 where
  pub is : IsCertificateOf i bytes
  -- each sector holds what the certificate's places say
  pub contents : said_contents i is.certificate.wins ≡ contents i
  -- whether the image is tidy is told
  pub tidy : Bool
  pub tidy_is : IsTrue tidy ↔ IsTidy i
  pub status_is : status ≡ 0
  pub text_is : text ≡ checked_text tidy

-- Both files were read, and the bytes of the certificate's file, to its end, are a certificate that is right for the image.
pub record CertificateRight (image name : List ℕ) (status : ℕ) (text : List ℕ) (old new : FilesView) : Type 0 where
  pub drive : Drive
  pub drive_is : IsDriveOf image old drive
  pub bytes : List ℕ
  pub read : Holds name bytes old
  pub checked : IsCheckedOf (image_of drive) bytes status text
  pub untouched : AreUntouched old new

-- Why bytes are no certificate that is right for an image: from a line on they are none, or they are one and it is refused.
abbrev pub RefusesCertificate : ModelImage → List ℕ → Reason → Type 0
RefusesCertificate i bytes (Certificate line) = IsFirstWrong bytes line × (IsCertificateOf i bytes → ⊥)
RefusesCertificate i bytes (Check e) = (c : Certifying) × (bytes ≡ certificates.text_of c) × right.Refuses i c e × (e ≢ errors.Memory)
    × (IsCertificateOf i bytes → ⊥)
RefusesCertificate i bytes reason = ⊥

-- Both files were read, the image is accepted, and the bytes of the certificate's file are refused for this reason.
pub record CertificateWrong (image name : List ℕ) (reason : Reason) (old new : FilesView) : Type 0 where
  pub drive : Drive
  pub drive_is : IsDriveOf image old drive
  pub bytes : List ℕ
  pub read : Holds name bytes old
  pub why : RefusesCertificate (image_of drive) bytes reason
  pub untouched : AreUntouched old new

abbrev pub CheckComesTo : List ℕ → List ℕ → Ending → FilesView → FilesView → Type 0
CheckComesTo image name (Gives status text) old new = CertificateRight image name status text old new
-- both files were read, and the image is refused
CheckComesTo image name (Refuses (Image e)) old new = (bytes : List ℕ) × Holds image bytes old
    × IsThere name old × (image_refusal bytes ≡ Some e) × AreUntouched old new
CheckComesTo image name (Refuses (Certificate line)) old new = CertificateWrong image name (Certificate line) old new
CheckComesTo image name (Refuses (Check e)) old new = CertificateWrong image name (Check e) old new
-- the image, or, where it is there, the certificate could not be read
CheckComesTo image name (Refuses (Failed file)) old new = ((file ≡ image) × FailsReading image old new)
    ⊎ ((file ≡ name) × IsThere image old × FailsReading name old new)
CheckComesTo image name (Refuses (Missing file)) old new = ((file ≡ image) × IsMissing image old new)
    ⊎ ((file ≡ name) × IsThere image old × IsMissing name old new)
CheckComesTo image name (Refuses Memory) old new = IsThere image old × AreUntouched old new
CheckComesTo image name ending old new = ⊥

-- Runs.

-- what a run stands on: the drive of the image, and the script on it
pub record RunInput (image script : List ℕ) (files : FilesView) : Type 0 where
  pub drive : Drive
  pub drive_is : IsDriveOf image files drive
  pub script_bytes : List ℕ
  pub script_read : Holds script script_bytes files
  pub commands : List (List Command)
  pub commands_are : IsScript drive.capacity script_bytes commands

-- the geometry, the settings and the wear indices of one drive are those of another
pub record SameNumbers (old new : Drive) : Type 0 where
  pub geometry : new.geometry ≡ old.geometry
  pub sector : new.sector ≡ old.sector
  pub capacity : new.capacity ≡ old.capacity
  pub ring : new.ring ≡ old.ring
  pub wear : map (map (λ k. k.wear)) new.units ≡ map (map (λ k. k.wear)) old.units

-- What was done on a drive from one image to another, as a world.
pub record IsWorldBetween (found left : Drive) (options : RunOptions) (commands : List (List Command)) (t : Transcript) : Type 0 where
  -- It is a legal world over the image found: programs and resets may have failed in it, sectors may
  -- have been copied, and lines freed.
  pub world : World
  pub legal : IsLegalMount (image_of found) world
  -- The mount has begun in it, unless opening answered an event.
  pub has_begun : HasBegun t.opening (begun (log_of world 0))
  -- The media that it leaves are the image left.
  pub media_are : image_of left ≡ media (image_of found) (log_of world)
  -- Its history is the printed one.
  pub history_is : history (log_of world 0) ≡ sector_writes found.sector t.history
  -- Each command of a unit had the outcome that the named plans, and the named stop on its own unit,
  -- give it. Any unit was stopped only where that stop fell.
  pub outcomes : AreOutcomesBy (image_of found) options.plans (fuse_on (image_of found) options.stop)
      (log_of world)
  -- Each `e` line names an event of its own in it: a command that was stopped, or a fetch that failed.
  pub named : AreNames (image_of found) (log_of world) (events t)
  -- The lines of the opening, of each thread and of the close leave out no such command of theirs, and
  -- name them in the order of the world's steps. Nobody else lost a command but the lanes and the
  -- collector that the run was told of.
  pub lost : AreAllTold (length commands) (helpers_of options) (λ unit. 0) world t
  -- Each answer for want of room was given at a length of the engine's log at which the target was at
  -- rest. These lengths never fall from one answer of a thread to the next, and the close comes last.
  -- What the thread had written is at most what users' writes took by then, and just that where the
  -- script has one thread.
  pub worn : AreRefusedIn (image_of found) (log_of world) commands t
  -- A user's sector was taken only where there had been room for it.
  pub granted : AreGranted (image_of found) (log_of world)
  -- A copy was taken only where it had been begun.
  pub begun : AreBegun (image_of found) (log_of world)
  -- A stripe with an entry was placed only where it was urgent.
  pub urgent : AreUrgent (image_of found) (log_of world)
  -- Resets came first: no stripe was placed and no line opened where a chunk was to be reset.
  pub after_resets : AreAfterResets (image_of found) (log_of world)
  -- Each line was opened where an entry waited and no open line had an address left.
  pub opened_full : AreOpenedFull (image_of found) (log_of world)
  -- Once the mount had begun, no line might be freed before an event, unless that event frees one.
  pub none_was_left : NoneWasLeft (image_of found) (log_of world)
  -- At the end no line is left that may be freed, unless opening answered an event.
  pub none_to_free : t.opening ≡ None → NoneToFree (image_of found) (log_of world)
  -- Each `f` line counts lines of the history below the front synced, and no others.
  pub flushed : AreFlushesSynced (image_of found).shape (log_of world 0) commands t
  -- Where neither opening nor the close answered anything, all that was taken is synced.
  pub all_synced : t.opening ≡ None → t.closing ≡ Closed → IsAllSynced (image_of found).shape (log_of world 0)
  -- There, too, collection isn't due at the end, or the target is at rest.
  pub over : t.opening ≡ None → t.closing ≡ Closed → (is_due (image_of found) (log_of world) ≡ false)
      ⊎ IsAtRest (image_of found) (log_of world) 0 (length (log_of world 0))

-- A run of these commands from one drive to another, with these options and this text.
pub record IsRunBetween (found : Drive) (options : RunOptions) (commands : List (List Command)) (text : List ℕ) (left : Drive) : Type 0 where
  -- what is printed
  pub transcript : Transcript
  pub printed : text ≡ text_of transcript
  -- the geometry, the settings and the wear indices are as they were
  pub numbers : SameNumbers found left
  -- the printed history is that of a world which leaves this drive, in which each `e` line has its
  -- event and each `worn` line its cause
  pub world : IsWorldBetween found left options commands transcript
  -- kept are the lines of the history below the end of the image left
  pub kept_is : transcript.kept ≡ users (user_positions (log_of world.world 0)) (end (image_of left))
  -- It is a transcript of the script from the contents that the mount found: each command has its
  -- line, the history are the writes that were placed, and each front, word and number is one that
  -- the relation allows.
  pub told : IsTranscript found.sector commands (contents (found_image (image_of found) (log_of world.world))) transcript
  -- Where the image found is sealed, the contents before are those of the image: the transcript
  -- relation between the script, these, the text and the contents after holds, by which all that
  -- was flushed is kept, and all of the history where closing answers nothing. And the image left
  -- is sealed.
  pub relation : IsSealed (image_of found) → IsRun found.sector commands (contents (image_of found)) transcript (contents (image_of left))
  pub sealed : IsSealed (image_of found) → IsSealed (image_of left)
  -- Over a tidy image the run did all that it was told to, where no command of its world failed and
  -- no line names an event, as long as the numbers of the image left are far from their ends. And
  -- the image left is tidy again. So it is where neither a stop nor a plan was told.
  pub complete : HasNoFailures (log_of world.world) → events transcript ≡ [] → IsTidy (image_of found)
      → HasSmallNumbers (image_of left) → IsComplete found left commands transcript
  -- its one spelling is an image of it
  pub spelled : IsImage (image_bytes left) left

-- a run was made, with this status, and the drive that it left is stored under the image's name, in
-- its one spelling
pub record RunMade (image script : List ℕ) (options : RunOptions) (status : ℕ) (text : List ℕ) (old new : FilesView) : Type 0 where
  pub input : RunInput image script old
  pub left : Drive
  pub run : IsRunBetween input.drive options input.commands text left
  pub status_is : status ≡ status_of_run run.transcript
  pub stored : Stores image (image_bytes left) old new

-- Parities.

-- A drive whose Open chunks were closed. A sealed one stays sealed and holds what it held.
pub record IsPadded (found left : Drive) : Type 0 where
  pub numbers : SameNumbers found left
  pub closed : NoneOpen (image_of left)
  pub sealed : IsSealed (image_of found) → IsSealed (image_of left)
  pub contents : IsSealed (image_of found) → contents (image_of left) ≡ contents (image_of found)
  pub end : IsSealed (image_of found) → end (image_of left) ≡ end (image_of found)
  -- its one spelling is an image of it
  pub spelled : IsImage (image_bytes left) left

-- the file of a drive's parity
abbrev pub parity_file_of : Drive → List ℕ
parity_file_of d = parity_bytes (parity_of (image_of d))

-- The Open chunks of a drive were closed; it is stored under the image's name, in its one spelling, and then the
-- file of its parity under the other name.
pub record ParityMade (image parity text : List ℕ) (old new : FilesView) : Type 0 where
  pub drive : Drive
  pub drive_is : IsDriveOf image old drive
  pub left : Drive
  pub padded : IsPadded drive left
  pub between : FilesView
  pub stored : Stores image (image_bytes left) old between
  pub is_parity : IsParity (parity_of (image_of left))
  pub made : Stores parity (parity_file_of left) between new
  pub says : text ≡ number_line (codes "parity") (length (parity_file_of left))

abbrev pub ParityComesTo : List ℕ → List ℕ → Ending → FilesView → FilesView → Type 0
ParityComesTo image parity (Gives status text) old new = (status ≡ 0) × ParityMade image parity text old new
ParityComesTo image parity (Refuses (Image e)) old new = (bytes : List ℕ) × Holds image bytes old × (image_refusal bytes ≡ Some e) × AreUntouched old new
-- the image could not be read or written; or it was stored, and the file of the parity could not be written
ParityComesTo image parity (Refuses (Failed name)) old new = ((name ≡ image) × FailsReading image old new)
    ⊎ ((name ≡ image) × (d : Drive) × IsDriveOf image old d × FailsWriting image old new)
    ⊎ ((name ≡ parity) × (d left : Drive) × (between : FilesView) × IsDriveOf image old d × IsPadded d left
    × Stores image (image_bytes left) old between × FailsWriting parity between new)
ParityComesTo image parity (Refuses (Missing name)) old new = (name ≡ image) × IsMissing image old new
ParityComesTo image parity (Refuses Memory) old new = IsThere image old × AreUntouched old new
ParityComesTo image parity ending old new = ⊥

-- what a unit is made anew from: the drive of the image, and the file of the parity
pub record RebuildInput (image parity : List ℕ) (files : FilesView) : Type 0 where
  pub drive : Drive
  pub drive_is : IsDriveOf image files drive
  pub bytes : List ℕ
  pub read : Holds parity bytes files

-- A unit of a drive that was made anew from the file of a parity, of which this is told.
pub record IsRebuiltFrom (found : Drive) (bytes : List ℕ) (unit : ℕ) (text : List ℕ) (left : Drive) : Type 0 where
  pub within : unit < units (shape_of found)
  pub parity : ParityFile
  pub file : IsFileOf (shape_of found) bytes parity
  -- the geometry, the settings and the wear indices are as they were
  pub numbers : SameNumbers found left
  -- all other units are as the parity says, and are as they were; the chunks of this one come from both
  pub same : AreAsKept parity.chunks (image_of found) unit
  pub anew : IsRebuilt parity unit (image_of found) (image_of left)
  -- Where the parity is that of a drive with which the one found agrees on all units but this, it is that drive again.
  pub first : (i : ModelImage) → IsLostOf i (image_of found) unit bytes → image_of left ≡ i
  -- how many blocks were made
  pub says : text ≡ number_line (codes "rebuilt") (kept_blocks parity.chunks unit)
  -- its one spelling is an image of it
  pub spelled : IsImage (image_bytes left) left

-- a unit was made anew, and the drive is stored under the image's name, in its one spelling
pub record RebuildMade (image parity : List ℕ) (unit : ℕ) (text : List ℕ) (old new : FilesView) : Type 0 where
  pub input : RebuildInput image parity old
  pub left : Drive
  pub rebuilt : IsRebuiltFrom input.drive input.bytes unit text left
  pub stored : Stores image (image_bytes left) old new

-- The file is refused, or the drive isn't as it says. So is no file of the parity of a drive with which the one found
-- agrees on all units but this.
pub record IsRefusedParity (found : Drive) (bytes : List ℕ) (unit : ℕ) (e : ParityErr) : Type 0 where
  pub within : unit < units (shape_of found)
  pub why : RefusesParity (image_of found) unit bytes e
  pub other : (i : ModelImage) → IsLostOf i (image_of found) unit bytes → ⊥

abbrev pub RebuildComesTo : List ℕ → List ℕ → ℕ → Ending → FilesView → FilesView → Type 0
RebuildComesTo image parity unit (Gives status text) old new = (status ≡ 0) × RebuildMade image parity unit text old new
-- both files were read, and the image is refused
RebuildComesTo image parity unit (Refuses (Image e)) old new = (bytes : List ℕ) × Holds image bytes old
    × IsThere parity old × (image_refusal bytes ≡ Some e) × AreUntouched old new
-- the image is accepted, and its drive hasn't the unit
RebuildComesTo image parity unit (Refuses Words) old new = (d : Drive) × IsDriveOf image old d
    × IsThere parity old × (units (shape_of d) ≤ unit) × AreUntouched old new
-- the drive has the unit, and the parity is refused
RebuildComesTo image parity unit (Refuses (OfParity e)) old new = (h : RebuildInput image parity old)
    × IsRefusedParity h.drive h.bytes unit e × AreUntouched old new
-- the image, or, where it is there, the parity could not be read; or all was made, and the image could not be written
RebuildComesTo image parity unit (Refuses (Failed name)) old new = ((name ≡ image) × FailsReading image old new)
    ⊎ ((name ≡ parity) × IsThere image old × FailsReading parity old new)
    ⊎ ((name ≡ image) × RebuildInput image parity old × FailsWriting image old new)
RebuildComesTo image parity unit (Refuses (Missing name)) old new = ((name ≡ image) × IsMissing image old new)
    ⊎ ((name ≡ parity) × IsThere image old × IsMissing parity old new)
RebuildComesTo image parity unit (Refuses Memory) old new = IsThere image old × AreUntouched old new
RebuildComesTo image parity unit ending old new = ⊥

-- a run has as many lanes as the option may say, and a load is one that there may be
abbrev pub IsWithinLimits : CommandLine → Type 0
IsWithinLimits (Create image numbers) = ⊤
IsWithinLimits (Geometry image) = ⊤
IsWithinLimits (Show image) = ⊤
IsWithinLimits (Report image) = ⊤
IsWithinLimits (Parity image parity) = ⊤
IsWithinLimits (Rebuild image parity unit) = ⊤
IsWithinLimits (commands.Certify image name) = ⊤
IsWithinLimits (commands.Check image name) = ⊤
IsWithinLimits (Run image script options) = options.lanes ≤ 8
IsWithinLimits (Soak image number rounds) = IsLoad number rounds

abbrev pub RunComesTo : List ℕ → List ℕ → RunOptions → Ending → FilesView → FilesView → Type 0
RunComesTo image script options (Gives status text) old new = RunMade image script options status text old new
-- both files were read, and the image is refused
RunComesTo image script options (Refuses (Image e)) old new = (bytes : List ℕ) × Holds image bytes old
    × IsThere script old × (image_refusal bytes ≡ Some e) × AreUntouched old new
-- the image is accepted, and the script is refused
RunComesTo image script options (Refuses (Script e)) old new = (d : Drive) × IsDriveOf image old d
    × (bytes : List ℕ) × Holds script bytes old × (read_script d.capacity bytes ≡ Err e) × AreUntouched old new
-- the image, or, where it is there, the script could not be read; or all was made, and the image
-- could not be written
RunComesTo image script options (Refuses (Failed name)) old new = ((name ≡ image) × FailsReading image old new)
    ⊎ ((name ≡ script) × IsThere image old × FailsReading script old new)
    ⊎ ((name ≡ image) × RunInput image script old × FailsWriting image old new)
RunComesTo image script options (Refuses (Missing name)) old new = ((name ≡ image) × IsMissing image old new)
    ⊎ ((name ≡ script) × IsThere image old × IsMissing script old new)
RunComesTo image script options (Refuses Memory) old new = IsThere image old × AreUntouched old new
RunComesTo image script options (Refuses reason) old new = ⊥

-- Loads.

-- two lanes and a collector work, and neither a stop nor a failure is named
abbrev pub soak_options : RunOptions
soak_options = record { stop = None; plans = []; lanes = 2; collector = true }

-- what a load is run on: the drive of the image, which has sectors enough
pub record SoakInput (image : List ℕ) (files : FilesView) : Type 0 where
  pub drive : Drive
  pub drive_is : IsDriveOf image files drive
  pub room : 32 ≤ drive.capacity

-- The load of this number was made for the drive, and run. This status is that of the run, and the text
-- is the line that sums it up. The drive that it left is stored under the image's name, in its one
-- spelling.
pub record SoakMade (image : List ℕ) (number rounds status : ℕ) (text : List ℕ) (old new : FilesView) : Type 0 where
  pub input : SoakInput image old
  pub left : Drive
  -- it is a run as that of a script, of which this would be printed
  pub printed : List ℕ
  pub run : IsRunBetween input.drive soak_options (load number rounds input.drive.capacity) printed left
  pub text_is : text ≡ totals_line (load number rounds input.drive.capacity) run.transcript.kept
  pub status_is : status ≡ status_of_run run.transcript
  -- over a sealed image, with status 0, the drive left holds what it held, after the load's writes, thread
  -- after thread
  pub written : IsSealed (image_of input.drive) → status ≡ 0 → contents (image_of left)
      ≡ after (contents (image_of input.drive)) (script_writes input.drive.sector (load number rounds input.drive.capacity))
  pub stored : Stores image (image_bytes left) old new

abbrev pub SoakComesTo : List ℕ → ℕ → ℕ → Ending → FilesView → FilesView → Type 0
SoakComesTo image number rounds (Gives status text) old new = SoakMade image number rounds status text old new
-- the image is accepted, and has too few sectors
SoakComesTo image number rounds (Refuses Words) old new = (d : Drive) × IsDriveOf image old d × (d.capacity < 32) × AreUntouched old new
SoakComesTo image number rounds (Refuses (Image e)) old new = (bytes : List ℕ) × Holds image bytes old × (image_refusal bytes ≡ Some e)
    × AreUntouched old new
-- it could not be read; or all was made, and it could not be written
SoakComesTo image number rounds (Refuses (Failed name)) old new = (name ≡ image) × (FailsReading image old new
    ⊎ (SoakInput image old × FailsWriting image old new))
SoakComesTo image number rounds (Refuses (Missing name)) old new = (name ≡ image) × IsMissing image old new
SoakComesTo image number rounds (Refuses Memory) old new = IsThere image old × AreUntouched old new
SoakComesTo image number rounds (Refuses reason) old new = ⊥

-- The program.

abbrev pub ComesTo : CommandLine → Ending → FilesView → FilesView → Type 0
ComesTo (Create image numbers) ending old new = CreateComesTo image numbers ending old new
ComesTo (Geometry image) ending old new = GeometryComesTo image ending old new
ComesTo (Show image) ending old new = ShowComesTo image ending old new
ComesTo (Report image) ending old new = ReportComesTo image ending old new
ComesTo (Parity image parity) ending old new = ParityComesTo image parity ending old new
ComesTo (Rebuild image parity unit) ending old new = RebuildComesTo image parity unit ending old new
ComesTo (commands.Certify image name) ending old new = CertifyComesTo image name ending old new
ComesTo (commands.Check image name) ending old new = CheckComesTo image name ending old new
ComesTo (Run image script options) ending old new = RunComesTo image script options ending old new
ComesTo (Soak image number rounds) ending old new = SoakComesTo image number rounds ending old new

-- words that are this command: what it comes to is told
pub record IsAnswered (words : List (List ℕ)) (c : Call) : Type 0 where
  pub command : CommandLine
  pub is : IsCommandLine words command
  pub ending : Ending
  pub comes : ComesTo command ending c.files c.files_after
  pub told : Tells ending c.status c.out c.out_after

-- words that are no command: status 1 and a line, and no file is touched
pub record IsNoCommand (words : List (List ℕ)) (c : Call) : Type 0 where
  pub none : (command : CommandLine) → ¬ IsCommandLine words command
  pub status : c.status ≡ 1
  pub says : Says words_line c.out c.out_after
  pub untouched : AreUntouched c.files c.files_after

-- How a call with these words ends.
abbrev pub CallEnds : List (List ℕ) → Call → Type 0
CallEnds words c = IsAnswered words c ⊎ IsNoCommand words c
