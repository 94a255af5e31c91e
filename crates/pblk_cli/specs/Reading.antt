-- What reading a file and judging its bytes come to.
use Rattle.std.specs.Prelude.{ℕ, ◌≡◌, List, Some, None}
use Rattle.pblk_outside.specs.Files.{FilesView}
use Rattle.pblk_model.specs.ImageFile.{image_refusal}
use Rattle.pblk_cli.specs.Telling.{Reason, Image, Failed, Missing, Memory, Holds, IsThere, AreUntouched, FailsReading, IsMissing}

-- a file was read, and nothing else happened
abbrev pub ReadsFile : List ℕ → List ℕ → FilesView → FilesView → Type 0
ReadsFile name bytes old new = Holds name bytes old × AreUntouched old new

abbrev pub CannotRead : List ℕ → Reason → FilesView → FilesView → Type 0
CannotRead name (Failed other) old new = (other ≡ name) × FailsReading name old new
CannotRead name (Missing other) old new = (other ≡ name) × IsMissing name old new
CannotRead name Memory old new = IsThere name old × AreUntouched old new
CannotRead name reason old new = ⊥

-- bytes are no image; or they are one, and there was no memory for its drive or for what is told of it
abbrev pub RefusesBytes : List ℕ → Reason → Type 0
RefusesBytes bytes (Image e) = image_refusal bytes ≡ Some e
RefusesBytes bytes Memory = image_refusal bytes ≡ None
RefusesBytes bytes reason = ⊥
