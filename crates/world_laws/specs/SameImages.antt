-- What is the same in two images.
use Rattle.std.specs.Prelude.{ℕ, ◌≡◌}
use Rattle.pblk_model.specs.Image.{Image, line_units, width}
use Rattle.pblk_model.specs.StartRecord.{StartRecord, start_of}
use Rattle.pblk_model.specs.EndRecord.{end_of}
use Rattle.pblk_model.specs.Records.{line_records, records}
use Rattle.pblk_model.specs.Contents.{head, end, counted, contents}

-- a line has the same units, the same start and end record, and the same records
pub record IsSameLine (i j : Image) (line : ℕ) : Type 0 where
  pub units : line_units j line ≡ line_units i line
  pub width : width j line ≡ width i line
  pub start : start_of j line ≡ start_of i line
  pub end : (start : StartRecord) → end_of j line start ≡ end_of i line start
  pub records : line_records j line ≡ line_records i line

-- each line has the same units, and the same start and end record
pub record HasSameLines (i j : Image) : Type 0 where
  pub shape : j.shape ≡ i.shape
  pub units : (line : ℕ) → line_units j line ≡ line_units i line
  pub widths : (line : ℕ) → width j line ≡ width i line
  pub starts : (line : ℕ) → start_of j line ≡ start_of i line
  pub ends : (line : ℕ) (start : StartRecord) → end_of j line start ≡ end_of i line start

-- they have the same start records and the same records, and so the same head, end and contents
pub record HoldsTheSame (i j : Image) : Type 0 where
  pub shape : j.shape ≡ i.shape
  pub starts : (line : ℕ) → start_of j line ≡ start_of i line
  pub records : records j ≡ records i
  pub head : head j ≡ head i
  pub end : end j ≡ end i
  pub counted : counted j ≡ counted i
  pub contents : contents j ≡ contents i
