-- What a run of files comes to.
use Rattle.std.proofs.Common.{◌≡◌, ◌++◌, ◌∷◌, [], ℕ, List, Some, sym, ap, ◌∙◌}
use Rattle.std.specs.Bool.{IsTrue}
use Rattle.pblk_outside.specs.declared.file_fault.FileCall.TheVariants as calls
use Rattle.pblk_outside.specs.Files.{FilesView, AddsFault, IsCalm, SameOthers}
use Rattle.pblk_model.specs.ImageFile.{Drive, IsImage}
use Rattle.command_words.specs.Grammar.{RunOptions}
use Rattle.pblk_cli.specs.declared.refusal.Refusal.{Refusal}
use Rattle.pblk_cli.specs.declared.refusal.Refusal.TheVariants as refusals
use Rattle.pblk_cli.specs.Commands.{RunComesTo, RunInput, RunMade}
use Rattle.pblk_cli.specs.Endings.{reason_of}
use Rattle.pblk_cli.specs.Reading.{ReadsFile, RefusesBytes}
use Rattle.pblk_cli.specs.Running.{IsRunOfScript, RefusesScript}
use Rattle.pblk_cli.specs.Telling.{AreUntouched, FailsWriting, Refuses}
use Rattle.pblk_cli.proofs.Reading.{bytes_cases, is_there}

-- both files were read, and the image's bytes are refused
pub image_refused_comes : (image script found commands : List ℕ) (options : RunOptions) (old new : FilesView) → ReadsFile image found old new
    → ReadsFile script commands old new → (q : Refusal) → RefusesBytes found (reason_of q) → RunComesTo image script options (Refuses (reason_of q)) old new
image_refused_comes image script found commands options old new a b q h =
    bytes_cases (λ r. RunComesTo image script options (Refuses r) old new) found (λ e is. (found, a.0, is_there script commands old b.0, is, a.1))
    (is_there image found old a.0, a.1) (reason_of q) h

-- the image is one of a drive, and the script is refused
pub script_refused_comes : (image script found commands : List ℕ) (options : RunOptions) (d : Drive) (old new : FilesView) → ReadsFile image found old new
    → ReadsFile script commands old new → IsImage found d
    → (q : Refusal) → RefusesScript d.capacity commands (reason_of q) → RunComesTo image script options (Refuses (reason_of q)) old new
script_refused_comes image script found commands options d old new a b is (refusals.Image e) h = absurd h
script_refused_comes image script found commands options d old new a b is (refusals.Script e) h = (
  d,
  record {
    bytes = found;
    read = a.0;
    is = is;
  },
  commands,
  b.0,
  h,
  a.1,
)
script_refused_comes image script found commands options d old new a b is (refusals.Parity e) h = absurd h
script_refused_comes image script found commands options d old new a b is (refusals.Failed name) h = absurd h
script_refused_comes image script found commands options d old new a b is (refusals.Missing name) h = absurd h
script_refused_comes image script found commands options d old new a b is (refusals.Certificate line) h = absurd h
script_refused_comes image script found commands options d old new a b is (refusals.Check e) h = absurd h
script_refused_comes image script found commands options d old new a b is refusals.Words h = absurd h
script_refused_comes image script found commands options d old new a b is refusals.Memory h = (is_there image found old a.0, a.1)

abbrev pub input_of : (image script found commands : List ℕ) (options : RunOptions) (d : Drive) (status : ℕ) (text bytes : List ℕ) (old new : FilesView)
    → ReadsFile image found old new → ReadsFile script commands old new → IsImage found d
    → IsRunOfScript d options commands status text bytes → RunInput image script old
input_of image script found commands options d status text bytes old new a b is h = record {
  drive = d;
  drive_is = record { bytes = found; read = a.0; is = is };
  script_bytes = commands;
  script_read = b.0;
  commands = h.commands;
  commands_are = h.commands_are;
}

-- the others are as before both the reads and the write
pub others : (image : List ℕ) (old mid new : FilesView) → ((name : List ℕ) → mid.file name ≡ old.file name) → SameOthers image mid.file new.file
    → SameOthers image old.file new.file
others image old mid new same h = λ other ne. h other ne ∙ same other

pub made : (image script found commands : List ℕ) (options : RunOptions) (d : Drive) (status : ℕ) (text bytes : List ℕ) (old mid new : FilesView)
    → ReadsFile image found old mid
    → ReadsFile script commands old mid → IsImage found d
    → IsRunOfScript d options commands status text bytes
    → (IsTrue mid.told → new.file image ≡ Some bytes) → IsCalm mid new → SameOthers image mid.file new.file → new.told ≡ mid.told
    → RunMade image script options status text old new
made image script found commands options d status text bytes old mid new a b is h stored calm same told = record {
  input = input_of image script found commands options d status text bytes old mid a b is h;
  left = h.run.left;
  run = record {
    transcript = h.run.run.transcript;
    printed = h.run.text_is;
    numbers = h.run.run.numbers;
    world = h.run.run.world;
    kept_is = h.run.run.kept_is;
    told = h.run.run.told;
    relation = h.run.run.relation;
    sealed = h.run.run.sealed;
    complete = h.run.run.complete;
    spelled = h.run.run.spelled;
  };
  status_is = h.run.status_is;
  stored = (λ new_tells. stored (sym told ∙ new_tells) ∙ ap Some h.run.bytes_are, others image old mid new a.1.0 same, calm ∙ a.1.1);
}

-- a file could not be stored
pub unstored : (name : List ℕ) (old mid new : FilesView) → AreUntouched old mid → AddsFault name calls.Write mid new → SameOthers name mid.file new.file
    → FailsWriting name old new
unstored name old mid new a fault same = (
  others name old mid new a.0 same,
  fault ∙ ap (λ faults. faults ++ record {
    name = name;
    call = calls.Write;
  } ∷ []) a.1,
)
