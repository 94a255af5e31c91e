-- Why a file, or the drive of its image, could not be read.
use Rattle.std.proofs.Common.{◌≡◌, ◌⊎◌, List, ℕ, Some, Result}
use Rattle.std.specs.Result.{IfErr}
use Rattle.std.proofs.lemmas.Result.{IfErr-weaker}
use Rattle.pblk_outside.specs.Files.{FilesView}
use Rattle.pblk_model.specs.declared.image.ImageErr.{ImageErr}
use Rattle.pblk_model.specs.ImageFile.{Drive, image_refusal}
use Rattle.ocssd_drive.specs.Drive.{DriveView}
use Rattle.pblk_cli.specs.declared.refusal.Refusal.{Refusal}
use Rattle.pblk_cli.specs.Telling.{Reason, Image, Script, OfParity, Failed, Missing, Certificate, Check, Words, Memory, Holds, IsThere, AreUntouched, FailsReading, IsMissing}
use Rattle.pblk_cli.specs.Commands.{CannotReadDrive, IsDriveOf}
use Rattle.pblk_cli.specs.Endings.{reason_of}
use Rattle.pblk_cli.specs.Reading.{CannotRead, ReadsFile, RefusesBytes}
use Rattle.pblk_cli.specs.Running.{CannotReadBoth}

-- a file that holds something is there
pub is_there : (name bytes : List ℕ) (files : FilesView) → Holds name bytes files → IsThere name files
is_there name bytes files h = λ told. (bytes, h told)

-- By why a file could not be read.
pub unread_cases : (P : Reason → Type 0) (name : List ℕ) (old new : FilesView) → ((file : List ℕ) → (file ≡ name) × FailsReading name old new → P (Failed file))
    → ((file : List ℕ) → (file ≡ name) × IsMissing name old new → P (Missing file)) → (IsThere name old × AreUntouched old new → P Memory)
    → (r : Reason) → CannotRead name r old new → P r
unread_cases P name old new failed missing want (Image e) h = absurd h
unread_cases P name old new failed missing want (Script e) h = absurd h
unread_cases P name old new failed missing want (OfParity e) h = absurd h
unread_cases P name old new failed missing want (Failed file) h = failed file h
unread_cases P name old new failed missing want (Missing file) h = missing file h
unread_cases P name old new failed missing want (Certificate line) h = absurd h
unread_cases P name old new failed missing want (Check e) h = absurd h
unread_cases P name old new failed missing want Words h = absurd h
unread_cases P name old new failed missing want Memory h = want h

-- By why one of two files could not be read.
pub unread_both_cases : (P : Reason → Type 0) (image name : List ℕ) (old new : FilesView)
    → ((file : List ℕ) → ((file ≡ image) × FailsReading image old new) ⊎ ((file ≡ name) × IsThere image old × FailsReading name old new) → P (Failed file))
    → ((file : List ℕ) → ((file ≡ image) × IsMissing image old new) ⊎ ((file ≡ name) × IsThere image old × IsMissing name old new) → P (Missing file))
    → (IsThere image old × AreUntouched old new → P Memory) → (r : Reason) → CannotReadBoth image name r old new → P r
unread_both_cases P image name old new failed missing want (Image e) h = absurd h
unread_both_cases P image name old new failed missing want (Script e) h = absurd h
unread_both_cases P image name old new failed missing want (OfParity e) h = absurd h
unread_both_cases P image name old new failed missing want (Failed file) h = failed file h
unread_both_cases P image name old new failed missing want (Missing file) h = missing file h
unread_both_cases P image name old new failed missing want (Certificate line) h = absurd h
unread_both_cases P image name old new failed missing want (Check e) h = absurd h
unread_both_cases P image name old new failed missing want Words h = absurd h
unread_both_cases P image name old new failed missing want Memory h = want h

-- By why bytes are no drive.
pub bytes_cases : (P : Reason → Type 0) (bytes : List ℕ) → ((e : ImageErr) → image_refusal bytes ≡ Some e → P (Image e)) → P Memory → (r : Reason)
    → RefusesBytes bytes r → P r
bytes_cases P bytes image want (Image e) h = image e h
bytes_cases P bytes image want (Script e) h = absurd h
bytes_cases P bytes image want (OfParity e) h = absurd h
bytes_cases P bytes image want (Failed file) h = absurd h
bytes_cases P bytes image want (Missing file) h = absurd h
bytes_cases P bytes image want (Certificate line) h = absurd h
bytes_cases P bytes image want (Check e) h = absurd h
bytes_cases P bytes image want Words h = absurd h
bytes_cases P bytes image want Memory h = want

-- By why a file gave no drive.
pub no_drive_cases : (P : Reason → Type 0) (image : List ℕ) (old new : FilesView) → ((e : ImageErr) → CannotReadDrive image (Image e) old new → P (Image e))
    → ((file : List ℕ) → (file ≡ image) × FailsReading image old new → P (Failed file))
    → ((file : List ℕ) → (file ≡ image) × IsMissing image old new → P (Missing file)) → (IsThere image old × AreUntouched old new → P Memory)
    → (r : Reason) → CannotReadDrive image r old new → P r
no_drive_cases P image old new refused failed missing want (Image e) h = refused e h
no_drive_cases P image old new refused failed missing want (Script e) h = absurd h
no_drive_cases P image old new refused failed missing want (OfParity e) h = absurd h
no_drive_cases P image old new refused failed missing want (Failed file) h = failed file h
no_drive_cases P image old new refused failed missing want (Missing file) h = missing file h
no_drive_cases P image old new refused failed missing want (Certificate line) h = absurd h
no_drive_cases P image old new refused failed missing want (Check e) h = absurd h
no_drive_cases P image old new refused failed missing want Words h = absurd h
no_drive_cases P image old new refused failed missing want Memory h = want h

-- a file that couldn't be read gave none
pub unread_drive : (image : List ℕ) (old new : FilesView) (q : Refusal) → CannotRead image (reason_of q) old new → CannotReadDrive image (reason_of q) old new
unread_drive image old new q h =
    unread_cases (λ r. CannotReadDrive image r old new) image old new (λ file k. k) (λ file k. k) (λ k. k) (reason_of q) h

-- nor did one whose bytes are refused
pub refused_drive : (image bytes : List ℕ) (old new : FilesView) → ReadsFile image bytes old new → (r : Result DriveView Refusal)
    → IfErr r (λ q. RefusesBytes bytes (reason_of q)) → IfErr r (λ q. CannotReadDrive image (reason_of q) old new)
refused_drive image bytes old new read r h = IfErr-weaker r _ _
    (λ q k. bytes_cases (λ x. CannotReadDrive image x old new) bytes (λ e is. (bytes, read.0, is, read.1)) (is_there image bytes old read.0, read.1)
    (reason_of q) k) h

-- the file of a drive that was read is there
pub drive_is_there : (image : List ℕ) (files : FilesView) (d : Drive) → IsDriveOf image files d → IsThere image files
drive_is_there image files d h = is_there image h.bytes files h.read
