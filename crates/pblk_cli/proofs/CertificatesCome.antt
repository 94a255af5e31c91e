-- What making a certificate of a file, and checking one, come to.
use Rattle.std.proofs.Common.{◌≡◌, ℕ, List, length, Some, Result, Ok, Err, sym, ◌∙◌, inl}
use Rattle.std.specs.Bool.{IsTrue}
use Rattle.std.specs.Result.{IfErr, IfOk}
use Rattle.pblk_outside.specs.Files.{FilesView, IsCalm, SameOthers}
use Rattle.pblk_model.specs.ImageFile.{Drive, image_of}
use Rattle.command_text.specs.Certificates.{certified_text}
use Rattle.pblk_cli.specs.declared.output.Output.{Output}
use Rattle.pblk_cli.specs.declared.refusal.Refusal.{Refusal}
use Rattle.pblk_cli.specs.declared.refusal.Refusal.TheVariants as refusals
use Rattle.pblk_cli.specs.Certifying.{IsChecked, RefusesChecked, RefusesFor}
use Rattle.pblk_cli.specs.Commands.{CannotReadDrive, CertificateMade, CertificateWrong, CertifyComesTo, CheckComesTo, IsDriveOf, IsMadeOf}
use Rattle.pblk_cli.specs.Endings.{ending_of, reason_of}
use Rattle.pblk_cli.specs.Reading.{ReadsFile}
use Rattle.pblk_cli.specs.Running.{CannotReadBoth}
use Rattle.pblk_cli.specs.Telling.{AreUntouched, Certificate, Check, Reason, Refuses}
use Rattle.pblk_cli.proofs.Reading.{is_there, no_drive_cases, unread_both_cases}
use Rattle.pblk_cli.proofs.RunComes.{others}

-- the image gave no drive
pub no_drive_comes : (image name : List ℕ) (old new : FilesView) (q : Refusal) → CannotReadDrive image (reason_of q) old new
    → CertifyComesTo image name (Refuses (reason_of q)) old new
no_drive_comes image name old new q h =
    no_drive_cases (λ r. CertifyComesTo image name (Refuses r) old new) image old new (λ e k. k) (λ file k. inl k) (λ file k. k) (λ k. k) (reason_of q) h

-- the certificate was made and stored
pub certificate_made : (image name bytes text : List ℕ) (status : ℕ) (d : Drive) (old mid new : FilesView) → IsDriveOf image old d → AreUntouched old mid
    → IsMadeOf (image_of d) bytes → status ≡ 0 → text ≡ certified_text (length bytes)
    → (IsTrue mid.told → new.file name ≡ Some bytes) → IsCalm mid new → SameOthers name mid.file new.file → new.told ≡ mid.told
    → CertificateMade image name status text old new
certificate_made image name bytes text status d old mid new is a made done said stored calm same told = record {
  drive = d;
  drive_is = is;
  bytes = bytes;
  made = made;
  status_is = done;
  text_is = said;
  stored = (λ tells. stored (sym told ∙ tells), others name old mid new a.0 same, calm ∙ a.1);
}

-- one of both files could not be read
pub unread_both_come : (image name : List ℕ) (old new : FilesView) (q : Refusal) → CannotReadBoth image name (reason_of q) old new
    → CheckComesTo image name (Refuses (reason_of q)) old new
unread_both_come image name old new q h =
    unread_both_cases (λ r. CheckComesTo image name (Refuses r) old new) image name old new (λ file k. k) (λ file k. k) (λ k. k) (reason_of q) h

-- both were read, and the second one's bytes are refused
wrong_comes : (image name found bytes : List ℕ) (reason : Reason) (old new : FilesView) → ReadsFile image found old new → ReadsFile name bytes old new
    → RefusesFor found bytes reason → CertificateWrong image name reason old new
wrong_comes image name found bytes reason old new a b h = record {
  drive = h.drive;
  drive_is = record { bytes = found; read = a.0; is = h.drive_is };
  bytes = bytes;
  read = b.0;
  why = h.why;
  untouched = a.1;
}

-- or the certificate was checked
pub checked_comes : (image name found bytes : List ℕ) (old new : FilesView) → ReadsFile image found old new → ReadsFile name bytes old new
    → (r : Result Output Refusal) → IfOk r (λ output. IsChecked found bytes output.status output.text.items)
    → IfErr r (λ q. RefusesChecked found bytes (reason_of q))
    → CheckComesTo image name (ending_of r) old new
checked_comes image name found bytes old new a b (Ok output) h refused = record {
  drive = h.drive;
  drive_is = record { bytes = found; read = a.0; is = h.drive_is };
  bytes = bytes;
  read = b.0;
  checked = h.checked;
  untouched = a.1;
}
checked_comes image name found bytes old new a b (Err (refusals.Image e)) h refused = (found, a.0, is_there name bytes old b.0, refused, a.1)
checked_comes image name found bytes old new a b (Err (refusals.Script e)) h refused = absurd refused
checked_comes image name found bytes old new a b (Err (refusals.Parity e)) h refused = absurd refused
checked_comes image name found bytes old new a b (Err (refusals.Failed file)) h refused = absurd refused
checked_comes image name found bytes old new a b (Err (refusals.Missing file)) h refused = absurd refused
checked_comes image name found bytes old new a b (Err (refusals.Certificate line)) h refused =
    wrong_comes image name found bytes (Certificate line) old new a b refused
checked_comes image name found bytes old new a b (Err (refusals.Check e)) h refused = wrong_comes image name found bytes (Check e) old new a b refused
checked_comes image name found bytes old new a b (Err refusals.Words) h refused = absurd refused
checked_comes image name found bytes old new a b (Err refusals.Memory) h refused = (is_there image found old a.0, a.1)
