-- Why bytes are no certificate, and why one isn't right.
use Rattle.std.proofs.Common.{◌≡◌, ◌⊎◌, inl, inr, ℕ, List, refl, sym, ◌∙◌, subst}
use Rattle.pblk_model.specs.Image.{Image}
use Rattle.pblk_model.specs.ImageFile.{IsImage, image_of}
use Rattle.ocssd_drive.specs.Drive.{DriveView, IsWhole, stored}
use Rattle.drive_image.proofs.Wholes.{is_fit}
use Rattle.image_check.specs.declared.certificate.Certificate.{Certificate}
use Rattle.image_check.specs.declared.error.CheckErr.{CheckErr}
use Rattle.image_check.specs.declared.error.CheckErr.TheVariants as check
use Rattle.image_check.specs.declared.read.CertErr.{CertErr}
use Rattle.image_check.specs.declared.read.CertErr.TheVariants as read
use Rattle.image_check.specs.Right.{IsInOrder, IsRight, Refuses}
use Rattle.image_check.specs.Text.{Fits, RefusesText, text_of}
use Rattle.pblk_cli.specs.declared.refusal.Refusal.{Refusal}
use Rattle.pblk_cli.specs.declared.refusal.Refusal.TheVariants as refusals
use Rattle.pblk_cli.specs.Endings.{reason_of}
use Rattle.pblk_cli.specs.Reading.{RefusesBytes}
use Rattle.pblk_cli.specs.Commands.{IsCertificateOf}
use Rattle.pblk_cli.specs.Certifying.{RefusesChecked}
use Rattle.pblk_cli.proofs.CertificateFits.{right_fits}
use Rattle.pblk_cli.proofs.CertificateTexts.{same_certificates}
use Rattle.pblk_cli.proofs.Reading.{bytes_cases}

-- where the image's bytes are none
pub image_refuses : (found bytes : List ℕ) (q : Refusal) → RefusesBytes found (reason_of q) → RefusesChecked found bytes (reason_of q)
image_refuses found bytes q h = bytes_cases (RefusesChecked found bytes) found (λ e is. is) tt (reason_of q) h

-- what `unread` answers
pub record IsUnreadAs (e : CertErr) (q : Refusal) : Type 0 where
  pub memory : e ≡ read.Memory → q ≡ refusals.Memory
  pub form : (line : ℕ) → e ≡ read.Form line → q ≡ refusals.Certificate line

-- what `unlike` answers
pub record IsUnlikeAs (e : CheckErr) (q : Refusal) : Type 0 where
  pub memory : e ≡ check.Memory → q ≡ refusals.Memory
  pub check : (e ≡ check.Memory → ⊥) → q ≡ refusals.Check e

want_or_not : (e : CheckErr) → (e ≡ check.Memory) ⊎ (e ≡ check.Memory → ⊥)
want_or_not (check.Line line) = inr (λ m. cc)
want_or_not check.Head = inr (λ m. cc)
want_or_not (check.Bearer position) = inr (λ m. cc)
want_or_not check.End = inr (λ m. cc)
want_or_not (check.Winner lba) = inr (λ m. cc)
want_or_not (check.Live line) = inr (λ m. cc)
want_or_not check.Memory = inl refl

module _ (d : DriveView) (whole : IsWhole d) (found bytes : List ℕ) (is : IsImage found (stored d)) where
  abbrev i : Image
  i = image_of (stored d)

  fits : (w : IsCertificateOf i bytes) → Fits w.certificate
  fits w = right_fits i whole.accepted (is_fit d whole) w.certificate w.right

  -- The text of a certificate that is right is read, unless there is no memory.
  pub unread_refuses : (e : CertErr) (q : Refusal) → RefusesText bytes e → ((c : Certificate) → IsInOrder c → Fits c → bytes ≡ text_of c → e ≡ read.Memory)
      → IsUnreadAs e q → RefusesChecked found bytes (reason_of q)
  unread_refuses (read.Form line) q wrong only of = rw (of.form line refl) (record {
    drive = stored d;
    drive_is = is;
    why = (wrong, λ w. no_want (only w.certificate w.order (fits w) w.spelled));
  })
    where
      no_want : read.Form line ≡ read.Memory → ⊥
      no_want m = cc
  unread_refuses read.Memory q wrong only of = rw (of.memory refl) tt

  -- And it is that one which is read.
  pub unlike_refuses : (c : Certificate) (e : CheckErr) (q : Refusal) → Fits c → bytes ≡ text_of c → Refuses i c e → (IsRight i c → e ≡ check.Memory)
      → IsUnlikeAs e q → RefusesChecked found bytes (reason_of q)
  unlike_refuses c e q small spelled refused complete of = elim (want_or_not e) [
    | inl memory ↦ rw (of.memory memory) tt
    | inr other ↦ rw (of.check other) (record {
      drive = stored d;
      drive_is = is;
      why = (
        c,
        spelled,
        refused,
        other,
        λ w. other (complete (subst (IsRight i) (same_certificates w.certificate c (fits w) small (sym w.spelled ∙ spelled)) w.right)),
      );
    })
  ]
