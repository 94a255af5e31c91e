-- What is found of the fronts of an image's lines, one after another.
use Rattle.std.specs.Prelude.{ℕ, ◌≡◌, not, nat_lt, Bool, true, List, Option, Some, None}
use Rattle.std.specs.Option.{option_map, IfSome}
use Rattle.pblk_model.specs.Chunk.{Block}
use Rattle.pblk_model.specs.Image.{Image, width}
use Rattle.pblk_model.specs.StartRecord.{StartRecord, start_of}
use Rattle.pblk_model.specs.Contents.{head_to}
use Rattle.pblk_meta.specs.Records.{start_numbers}
use Rattle.pblk_world.specs.Lines.{are_empty}
use Rattle.scan_recovery.specs.declared.starts.LineStart.{LineStart}
use Rattle.scan_recovery.specs.declared.starts.Starts.{Starts}
use Rattle.scan_recovery.specs.Reading.{front_blocks}
use Rattle.scan_recovery.specs.Tally.{HasStartFits}
use Rattle.pblk_model.specs.Tables.{IsTable}

-- a line's sequence number, and whether a chunk of it is neither Free nor Offline
unfoldable pub line_start : Image → ℕ → LineStart
line_start i line = record { seq = option_map (λ r. r.seq) (start_of i line); used = not (are_empty i line) }

-- whether a start record of this sequence number is later than the best so far
abbrev pub is_later : Option StartRecord → ℕ → Bool
is_later None seq = true
is_later (Some best) seq = nat_lt best.seq seq

-- the first n lines
pub record IsStarts (i : Image) (n : ℕ) (v : Starts) : Type 0 where
  pub lines : IsTable n (line_start i) v.lines.items
  pub head : option_map start_numbers v.head ≡ head_to i n
  pub fits : IfSome v.head HasStartFits

-- these are the blocks at a line's front, this its width, and this says whether it is used
pub record IsFront (i : Image) (line g : ℕ) (used : Bool) (blocks : List (Option Block)) : Type 0 where
  pub blocks_are : blocks ≡ front_blocks i line
  pub width_is : g ≡ width i line
  pub used_is : used ≡ not (are_empty i line)
