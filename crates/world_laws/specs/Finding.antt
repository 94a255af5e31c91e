-- What recovery by scanning finds of an image.
use Rattle.std.specs.Prelude.{ℕ, ◌+◌, ◌≡◌, ◌≢◌, ◌==◌, nat_le, Bool, false, List, map, max, Option, Some, None}
use Rattle.std.specs.List.{filter, filter_map, flat_map, fold, range_with_len}
use Rattle.std.specs.Option.{is_some, option_map, option_map_or}
use Rattle.pblk_model.specs.declared.chunk.ChunkState.{ChunkState}
use Rattle.pblk_model.specs.declared.chunk.ChunkState.TheVariants as states
use Rattle.pblk_model.specs.declared.found.Found.{Found}
use Rattle.pblk_model.specs.declared.found.LineRow.{LineRow}
use Rattle.pblk_model.specs.declared.found.Winner.{Winner}
use Rattle.pblk_model.specs.Chunk.{Chunk}
use Rattle.pblk_model.specs.Image.{Image}
use Rattle.pblk_model.specs.StartRecord.{StartRecord, start_of}
use Rattle.pblk_model.specs.EndRecord.{end_of}
use Rattle.pblk_model.specs.Records.{Record}
use Rattle.pblk_model.specs.Contents.{head, end, counted, winner}
use Rattle.pblk_laws.specs.LineBlocks.{chunk_in}
use Rattle.pblk_world.specs.Lines.{stray_lines}
use Rattle.pblk_world.specs.Starts.{row_bound}

-- no chunk is Open
abbrev pub NoneOpen : Image → Type 0
NoneOpen i = (line unit : ℕ) (c : Chunk) → chunk_in i line unit ≡ Some c → c.state ≢ states.Open

-- the winning record of a sector
abbrev pub winner_with : ℕ → Record → Winner
winner_with lba r = record { lba = lba; position = r.position; line = r.line; at = r.at }

abbrev pub winner_of : Image → ℕ → Option Winner
winner_of i lba = option_map (winner_with lba) (winner (counted i) lba)

-- the bound of a line: that of the row which the head has for the line and its sequence number
abbrev pub bound_with : Option StartRecord → ℕ → Option ℕ → ℕ
bound_with None line seq = 0
bound_with (Some h) line None = 0
bound_with (Some h) line (Some seq) = row_bound h line seq

-- one past the greatest position of a line's records, and 0 where it has none
abbrev pub top_of : List Record → ℕ → ℕ
top_of rs line = fold (λ top r. max top (r.position + 1)) 0 (filter (λ r. r.line == line) rs)

-- whether a line's end record is whole
abbrev pub is_full : Image → ℕ → Bool
is_full i line = option_map_or (λ start. is_some (end_of i line start)) (start_of i line) false

-- whether a line's sequence number is at least the head's first one
abbrev pub is_young : Option StartRecord → Option ℕ → Bool
is_young None seq = false
is_young (Some h) None = false
is_young (Some h) (Some seq) = nat_le h.first_seq seq

abbrev pub line_row : Image → ℕ → LineRow
line_row i line = let seq = option_map (λ r. r.seq) (start_of i line) in record {
  seq = seq;
  bound = bound_with (head i) line seq;
  top = top_of (counted i) line;
  full = is_full i line;
  young = is_young (head i) seq;
}

-- a chunk's state, with Open taken as Closed
abbrev pub taken_state : ChunkState → ChunkState
taken_state states.Free = states.Free
taken_state states.Open = states.Closed
taken_state states.Closed = states.Closed
taken_state states.Offline = states.Offline

abbrev pub taken_states : Image → List ChunkState
taken_states i = flat_map (map (λ c. taken_state c.state)) i.units

-- what is found of an image
pub record IsFoundOf (i : Image) (f : Found) : Type 0 where
  pub winners_are : f.winners ≡ filter_map (winner_of i) (range_with_len 0 i.shape.capacity)
  pub head_is : f.head ≡ option_map (λ h. h.line) (head i)
  pub front_is : f.front ≡ option_map_or (λ h. h.front) (head i) 0
  pub end_is : f.end ≡ end i
  pub strays_are : f.strays ≡ stray_lines i
  pub chunks_are : f.chunks ≡ taken_states i
  pub lines_are : f.lines ≡ map (line_row i) (range_with_len 0 i.shape.chunks)
