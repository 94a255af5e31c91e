-- What a parity, and a unit that is made anew from one, come to.
use Rattle.std.proofs.Common.{◌≡◌, ◌<◌, inl, inr, ℕ, List, Some, map, codes, refl, sym, ap, subst, ◌∙◌}
use Rattle.std.specs.Bool.{IsTrue}
use Rattle.pblk_outside.specs.Files.{FilesView, IsCalm, SameOthers}
use Rattle.pblk_model.specs.CommandText.{number_line}
use Rattle.pblk_model.specs.Contents.{contents, end}
use Rattle.pblk_model.specs.Image.{Image}
use Rattle.pblk_model.specs.ImageFile.{Drive, IsImage, image_bytes, image_of}
use Rattle.pblk_model.specs.Sealed.{IsSealed}
use Rattle.pblk_model.specs.Shape.{units}
use Rattle.unit_port.specs.Commands.{AreUnarmed}
use Rattle.unit_port.specs.Unit.{ModelUnit}
use Rattle.world_laws.specs.Finding.{NoneOpen}
use Rattle.ocssd_drive.specs.Drive.{DriveView, IsWhole, shape_of, stored, with_units}
use Rattle.ocssd_drive.specs.Units.{WornUnit}
use Rattle.scan_recovery.specs.Fetches.{WereFetched}
use Rattle.stripe_parity.specs.declared.error.ParityErr.{ParityErr}
use Rattle.stripe_parity.specs.declared.error.ParityErr.TheVariants as errors
use Rattle.stripe_parity.specs.ParityBytes.{IsFileRefusal}
use Rattle.stripe_parity.specs.ParityFile.{ParityFile, parity_of}
use Rattle.stripe_parity.specs.Rebuilding.{AreAsKept, IsRebuilt, drive_image}
use Rattle.stripe_parity.specs.Refusals.{IsRefusal, lost_fetch}
use Rattle.stripe_parity.proofs.Calm.{none_fails}
use Rattle.stripe_parity.proofs.OneParity.{never_refused, one_parity}
use Rattle.stripe_parity.proofs.Refused.{no_difference}
use Rattle.pblk_cli.specs.declared.refusal.Refusal.{Refusal}
use Rattle.pblk_cli.specs.declared.refusal.Refusal.TheVariants as refusals
use Rattle.pblk_cli.specs.Commands.{CannotReadDrive, IsPadded, IsRebuiltFrom, ParityComesTo, RebuildComesTo, RebuildInput}
use Rattle.pblk_cli.specs.Endings.{reason_of}
use Rattle.pblk_cli.specs.Parities.{IsFileOf, IsLostOf, RefusesParity}
use Rattle.pblk_cli.specs.Reading.{ReadsFile, RefusesBytes}
use Rattle.pblk_cli.specs.Rebuilding.{IsAnew, IsRefusedAs, RefusesRebuild}
use Rattle.pblk_cli.specs.Running.{CannotReadBoth}
use Rattle.pblk_cli.specs.Telling.{AreUntouched, Refuses, Stores}
use Rattle.pblk_cli.proofs.HandedDrives.{image_handed}
use Rattle.pblk_cli.proofs.Reading.{bytes_cases, is_there, no_drive_cases, unread_both_cases}
use Rattle.pblk_cli.proofs.RunComes.{others}
use Rattle.pblk_cli.proofs.StoredUnits.{same_numbers}

-- A drive whose Open chunks were closed, and of which the parity was made: by its state before, between and after.
pub record WasPadded (found mid left : DriveView) : Type 0 where
  pub whole_found : IsWhole found
  pub whole_left : IsWhole left
  pub mid_is : mid ≡ with_units mid.units found
  pub left_is : left ≡ with_units left.units mid
  pub mid_wear : map (λ (u : WornUnit). u.wear) mid.units ≡ map (λ (u : WornUnit). u.wear) found.units
  pub left_wear : map (λ (u : WornUnit). u.wear) left.units ≡ map (λ (u : WornUnit). u.wear) mid.units
  pub same : drive_image left ≡ drive_image mid
  pub closed : NoneOpen (drive_image mid)
  pub sealed : IsSealed (drive_image found) → IsSealed (drive_image mid)
  pub contents_are : IsSealed (drive_image found) → contents (drive_image mid) ≡ contents (drive_image found)
  pub end_is : IsSealed (drive_image found) → end (drive_image mid) ≡ end (drive_image found)
  pub spelled : IsImage (image_bytes (stored left)) (stored left)

-- the image of the drive between is that of the drive as it is kept
pub between_is : (found mid left : DriveView) → WasPadded found mid left → drive_image mid ≡ image_of (stored left)
between_is found mid left h = sym h.same ∙ image_handed left h.whole_left

pub padded_is : (found mid left : DriveView) → WasPadded found mid left → IsPadded (stored found) (stored left)
padded_is found mid left h =
    let f : drive_image found ≡ image_of (stored found) = image_handed found h.whole_found in
    let m = between_is found mid left h in
    record {
      numbers = same_numbers found left h.whole_found h.whole_left (h.left_is ∙ ap (with_units left.units) h.mid_is) (h.left_wear ∙ h.mid_wear);
      closed = subst NoneOpen m h.closed;
      sealed = λ was. subst IsSealed m (h.sealed (subst IsSealed (sym f) was));
      contents = λ was. ap contents (sym m) ∙ h.contents_are (subst IsSealed (sym f) was) ∙ ap contents f;
      end = λ was. ap end (sym m) ∙ h.end_is (subst IsSealed (sym f) was) ∙ ap end f;
      spelled = h.spelled;
    }

-- A unit that was made anew.
pub anew_is : (found left : DriveView) (bytes : List ℕ) (unit blocks : ℕ) (text : List ℕ) → IsWhole found → IsAnew found left bytes unit blocks
    → unit < units (shape_of found)
    → text ≡ number_line (codes "rebuilt") blocks → IsImage (image_bytes (stored left)) (stored left)
    → IsRebuiltFrom (stored found) bytes unit text (stored left)
anew_is found left bytes unit blocks text whole h within says spelled =
    let f : drive_image found ≡ image_of (stored found) = image_handed found whole in
    let l : drive_image left ≡ image_of (stored left) = image_handed left h.whole in
    record {
      within = within;
      parity = h.parity;
      file = h.file;
      numbers = same_numbers found left whole h.whole h.numbers h.wear;
      same = subst (λ (i : Image). AreAsKept h.parity.chunks i unit) f h.same;
      anew = subst (λ (i : Image). IsRebuilt h.parity unit (image_of (stored found)) i) l
          (subst (λ (i : Image). IsRebuilt h.parity unit i (drive_image left)) f h.anew);
      first = λ i lost. sym l ∙ h.first i (subst (λ (j : Image). IsLostOf i j unit bytes) (sym f) lost);
      says = says ∙ ap (number_line (codes "rebuilt")) h.blocks_are;
      spelled = spelled;
    }

-- what `refusal_of` answers
pub record IsParityRefusalOf (e : ParityErr) (q : Refusal) : Type 0 where
  pub memory : e ≡ errors.Memory → q ≡ refusals.Memory
  pub parity : (e ≡ errors.Memory → ⊥) → q ≡ refusals.Parity e

pub refused_is : (found : DriveView) (bytes : List ℕ) (unit : ℕ) (e : ParityErr) (q : Refusal) → IsWhole found → unit < units (shape_of found)
    → IsRefusedAs (drive_image found) unit bytes e
    → IsParityRefusalOf e q → RefusesRebuild (stored found) bytes unit (reason_of q)
refused_is found bytes unit e q whole within (inl memory) of = rw (of.memory memory) tt
refused_is found bytes unit e q whole within (inr (why, other)) of =
    let f : drive_image found ≡ image_of (stored found) = image_handed found whole in
    rw (of.parity (λ m. subst (RefusesParity (drive_image found) unit bytes) m why)) (record {
      within = within;
      why = subst (λ (i : Image). RefusesParity i unit bytes e) f why;
      other = λ first lost. other first (subst (λ (j : Image). IsLostOf first j unit bytes) (sym f) lost);
    })

-- Why a unit wasn't made anew.

-- no file of a first drive's parity is refused but for want of memory
not_first : (i : Image) (unit : ℕ) (bytes : List ℕ) (e : ParityErr) (first : Image) → IsLostOf first i unit bytes → IsFileRefusal i.shape bytes e
    → e ≡ errors.Memory
not_first i unit bytes e first h refused = never_refused (parity_of first) i.shape bytes e h.parity (sym h.agree.shape) h.spelled refused

pub file_refused : (i : Image) (unit : ℕ) (bytes : List ℕ) (e : ParityErr) → IsFileRefusal i.shape bytes e → IsRefusedAs i unit bytes e
file_refused i unit bytes errors.Magic refused = inr (refused, λ first h. cc (not_first i unit bytes errors.Magic first h refused))
file_refused i unit bytes errors.Version refused = inr (refused, λ first h. cc (not_first i unit bytes errors.Version first h refused))
file_refused i unit bytes errors.Numbers refused = inr (refused, λ first h. cc (not_first i unit bytes errors.Numbers first h refused))
file_refused i unit bytes (errors.Short n) refused = inr (refused, λ first h. cc (not_first i unit bytes (errors.Short n) first h refused))
file_refused i unit bytes errors.Long refused = inr (refused, λ first h. cc (not_first i unit bytes errors.Long first h refused))
file_refused i unit bytes (errors.State u c) refused = inr (refused, λ first h. cc (not_first i unit bytes (errors.State u c) first h refused))
file_refused i unit bytes (errors.Differs u c) refused = absurd refused
file_refused i unit bytes (errors.Drive u n) refused = absurd refused
file_refused i unit bytes errors.Memory refused = inl refl

-- the parity is that of the first drive
pub first_parity : (i : Image) (unit : ℕ) (bytes : List ℕ) (p : ParityFile) (first : Image) → IsFileOf i.shape bytes p → IsLostOf first i unit bytes
    → p ≡ parity_of first
first_parity i unit bytes p first file h = one_parity p (parity_of first) file.parity h.parity (file.shape ∙ h.agree.shape) (file.spelled ∙ sym h.spelled)

pub rebuild_refused : (i : Image) (old new : List ModelUnit) (p : ParityFile) (unit : ℕ) (bytes : List ℕ) (e : ParityErr) → IsFileOf i.shape bytes p
    → AreUnarmed old
    → WereFetched p.shape old new (lost_fetch e) → IsRefusal p i unit e → IsRefusedAs i unit bytes e
rebuild_refused i old new p unit bytes errors.Magic file calm ran refused = absurd refused
rebuild_refused i old new p unit bytes errors.Version file calm ran refused = absurd refused
rebuild_refused i old new p unit bytes errors.Numbers file calm ran refused = absurd refused
rebuild_refused i old new p unit bytes (errors.Short n) file calm ran refused = absurd refused
rebuild_refused i old new p unit bytes errors.Long file calm ran refused = absurd refused
rebuild_refused i old new p unit bytes (errors.State u c) file calm ran refused = absurd refused
rebuild_refused i old new p unit bytes (errors.Differs u c) file calm ran refused =
    inr ((p, file, refused), λ first h. no_difference p first i unit u c (first_parity i unit bytes p first file h) h.agree refused)
rebuild_refused i old new p unit bytes (errors.Drive u n) file calm ran refused = absurd (none_fails p.shape old new u n calm ran)
rebuild_refused i old new p unit bytes errors.Memory file calm ran refused = inl refl

-- What the commands come to.

-- the image gave no drive
pub no_drive_comes : (image parity : List ℕ) (old new : FilesView) (q : Refusal) → CannotReadDrive image (reason_of q) old new
    → ParityComesTo image parity (Refuses (reason_of q)) old new
no_drive_comes image parity old new q h =
    no_drive_cases (λ r. ParityComesTo image parity (Refuses r) old new) image old new (λ e k. k) (λ file k. inl k) (λ file k. k) (λ k. k) (reason_of q) h

-- a file that was written after others were read is stored
pub stored_after : (name bytes : List ℕ) (old mid new : FilesView) → AreUntouched old mid → (IsTrue mid.told → new.file name ≡ Some bytes)
    → IsCalm mid new → SameOthers name mid.file new.file → new.told ≡ mid.told → Stores name bytes old new
stored_after name bytes old mid new a stored calm same told = (λ new_tells. stored (sym told ∙ new_tells), others name old mid new a.0 same, calm ∙ a.1)

pub stored_alone : (name bytes : List ℕ) (old new : FilesView) → (IsTrue old.told → new.file name ≡ Some bytes) → IsCalm old new
    → SameOthers name old.file new.file → new.told ≡ old.told
    → Stores name bytes old new
stored_alone name bytes old new stored calm same told = (λ new_tells. stored (sym told ∙ new_tells), same, calm)

-- one of the two files could not be read
pub unread_either : (image parity : List ℕ) (unit : ℕ) (old new : FilesView) (q : Refusal) → CannotReadBoth image parity (reason_of q) old new
    → RebuildComesTo image parity unit (Refuses (reason_of q)) old new
unread_either image parity unit old new q h =
    unread_both_cases (λ r. RebuildComesTo image parity unit (Refuses r) old new) image parity old new
    (λ file k. elim k [ inl first ↦ inl first | inr second ↦ inr (inl second) ]) (λ file k. k) (λ k. k) (reason_of q) h

-- both were read, and the image's bytes are refused
pub refused_bytes : (image parity found bytes : List ℕ) (unit : ℕ) (old new : FilesView) → ReadsFile image found old new → ReadsFile parity bytes old new
    → (q : Refusal)
    → RefusesBytes found (reason_of q) → RebuildComesTo image parity unit (Refuses (reason_of q)) old new
refused_bytes image parity found bytes unit old new a b q h =
    bytes_cases (λ r. RebuildComesTo image parity unit (Refuses r) old new) found (λ e is. (found, a.0, is_there parity bytes old b.0, is, a.1))
    (is_there image found old a.0, a.1) (reason_of q) h

-- what both files give
abbrev pub input_of : (image parity found bytes : List ℕ) (d : Drive) (old new : FilesView) → ReadsFile image found old new → ReadsFile parity bytes old new
    → IsImage found d
    → RebuildInput image parity old
input_of image parity found bytes d old new a b is = record {
  drive = d;
  drive_is = record { bytes = found; read = a.0; is = is };
  bytes = bytes;
  read = b.0;
}

-- the image is one of a drive, and no unit of it was made anew
pub refused_rebuild : (image parity found bytes : List ℕ) (unit : ℕ) (d : Drive) (old new : FilesView) → ReadsFile image found old new
    → ReadsFile parity bytes old new → IsImage found d
    → (q : Refusal) → RefusesRebuild d bytes unit (reason_of q) → RebuildComesTo image parity unit (Refuses (reason_of q)) old new
refused_rebuild image parity found bytes unit d old new a b is (refusals.Image e) h = absurd h
refused_rebuild image parity found bytes unit d old new a b is (refusals.Script e) h = absurd h
refused_rebuild image parity found bytes unit d old new a b is (refusals.Parity e) h = (input_of image parity found bytes d old new a b is, h, a.1)
refused_rebuild image parity found bytes unit d old new a b is (refusals.Failed name) h = absurd h
refused_rebuild image parity found bytes unit d old new a b is (refusals.Missing name) h = absurd h
refused_rebuild image parity found bytes unit d old new a b is (refusals.Certificate line) h = absurd h
refused_rebuild image parity found bytes unit d old new a b is (refusals.Check e) h = absurd h
refused_rebuild image parity found bytes unit d old new a b is refusals.Words h =
    (d, record { bytes = found; read = a.0; is = is }, is_there parity bytes old b.0, h, a.1)
refused_rebuild image parity found bytes unit d old new a b is refusals.Memory h = (is_there image found old a.0, a.1)
