-- What a soak of an image comes to.
use Rattle.std.proofs.Common.{◌≡◌, ℕ, List, Some, sym, ap, ◌∙◌, inl}
use Rattle.std.specs.Bool.{IsTrue}
use Rattle.load_maker.specs.Loads.{load}
use Rattle.pblk_outside.specs.Files.{FilesView, IsCalm, SameOthers}
use Rattle.pblk_model.specs.Contents.{contents}
use Rattle.pblk_model.specs.ImageFile.{Drive, image_of}
use Rattle.pblk_cli.specs.declared.refusal.Refusal.{Refusal}
use Rattle.pblk_cli.specs.declared.refusal.Refusal.TheVariants as refusals
use Rattle.pblk_cli.specs.Commands.{CannotReadDrive, IsDriveOf, SoakComesTo, SoakInput, SoakMade}
use Rattle.pblk_cli.specs.Endings.{reason_of}
use Rattle.pblk_cli.specs.Running.{IsRunOfLoad, RefusesLoad}
use Rattle.pblk_cli.specs.Telling.{AreUntouched, Refuses}
use Rattle.pblk_cli.proofs.CalmRuns.{contents_of, none_at_zero}
use Rattle.pblk_cli.proofs.LoadsApart.{loads_apart}
use Rattle.pblk_cli.proofs.Reading.{drive_is_there, no_drive_cases}
use Rattle.pblk_cli.proofs.RunComes.{others}

-- the image gave no drive
pub no_drive_comes : (image : List ℕ) (number rounds : ℕ) (old new : FilesView) (q : Refusal) → CannotReadDrive image (reason_of q) old new
    → SoakComesTo image number rounds (Refuses (reason_of q)) old new
no_drive_comes image number rounds old new q h =
    no_drive_cases (λ r. SoakComesTo image number rounds (Refuses r) old new) image old new (λ e k. k) (λ file k. (k.0, inl k.1)) (λ file k. k) (λ k. k)
    (reason_of q) h

-- no load was run on the drive
pub load_refused_comes : (image : List ℕ) (number rounds : ℕ) (d : Drive) (old new : FilesView) → IsDriveOf image old d → AreUntouched old new
    → (q : Refusal) → RefusesLoad d.capacity (reason_of q) → SoakComesTo image number rounds (Refuses (reason_of q)) old new
load_refused_comes image number rounds d old new is a (refusals.Image e) h = absurd h
load_refused_comes image number rounds d old new is a (refusals.Script e) h = absurd h
load_refused_comes image number rounds d old new is a (refusals.Parity e) h = absurd h
load_refused_comes image number rounds d old new is a (refusals.Failed name) h = absurd h
load_refused_comes image number rounds d old new is a (refusals.Missing name) h = absurd h
load_refused_comes image number rounds d old new is a (refusals.Certificate line) h = absurd h
load_refused_comes image number rounds d old new is a (refusals.Check e) h = absurd h
load_refused_comes image number rounds d old new is a refusals.Words h = (d, is, h, a)
load_refused_comes image number rounds d old new is a refusals.Memory h = (drive_is_there image old d is, a)

abbrev pub load_input : (image : List ℕ) (number rounds : ℕ) (d : Drive) (status : ℕ) (text bytes : List ℕ) (old : FilesView)
    → IsDriveOf image old d → IsRunOfLoad d number rounds status text bytes → SoakInput image old
load_input image number rounds d status text bytes old is h = record { drive = d; drive_is = is; room = h.room }

pub soak_made : (image : List ℕ) (number rounds : ℕ) (d : Drive) (status : ℕ) (text bytes : List ℕ) (old mid new : FilesView)
    → IsDriveOf image old d → AreUntouched old mid → IsRunOfLoad d number rounds status text bytes
    → (IsTrue mid.told → new.file image ≡ Some bytes) → IsCalm mid new → SameOthers image mid.file new.file → new.told ≡ mid.told
    → SoakMade image number rounds status text old new
soak_made image number rounds d status text bytes old mid new is a h stored calm same told = record {
  input = load_input image number rounds d status text bytes old is h;
  left = h.run.left;
  printed = h.run.printed;
  run = h.run.run;
  text_is = h.run.text_is;
  status_is = h.run.status_is;
  written = λ sealed done.
      let none = none_at_zero (load number rounds d.capacity) h.run.run.transcript (sym h.run.status_is ∙ done) in
      contents_of d.sector (load number rounds d.capacity) (contents (image_of d)) (contents (image_of h.run.left)) h.run.run.transcript
      (loads_apart number rounds d.capacity h.room) (h.run.run.relation sealed) none.0 none.1;
  stored = (λ new_tells. stored (sym told ∙ new_tells) ∙ ap Some h.run.bytes_are, others image old mid new a.0 same, calm ∙ a.1);
}
