-- The two records of an open line, without its log.
use Rattle.std.specs.Prelude.{ℕ, ◌+◌, ◌-◌, ◌≡◌, not, List, map, length, take, slice_range}
use Rattle.std.specs.List.{filter, flat_map}
use Rattle.pblk_model.specs.declared.shape.Shape.{Shape}
use Rattle.pblk_model.specs.declared.chunk.Mark.{Mark}
use Rattle.pblk_model.specs.Chunk.{Block}
use Rattle.pblk_model.specs.LineOrder.{start_len, end_len, data_len}
use Rattle.pblk_model.specs.StartRecord.{start_bytes}
use Rattle.pblk_model.specs.EndRecord.{EndRecord, end_bytes}
use Rattle.pblk_world.specs.Events.{Logged}
use Rattle.pblk_world.specs.EngineLog.{Opening, Placed, has_failed, stripes_of}
use Rattle.pblk_world.specs.Placing.{record_blocks, data_marks, end_address}

-- What an open line's records are made of: its start record as bytes, and the marks of its data so
-- far.
pub record RecordsView : Type 0 where
  pub shape : Shape
  pub line : ℕ
  pub width : ℕ
  pub seq : ℕ
  pub start : List ℕ
  pub marks : List Mark

abbrev pub blocks_at_start : RecordsView → List Block
blocks_at_start r = record_blocks r.shape r.seq (start_len r.shape) r.start

-- where the end record begins
abbrev pub end_begins : RecordsView → ℕ
end_begins r = start_len r.shape + data_len r.shape r.width

abbrev pub end_record_of : RecordsView → EndRecord
end_record_of r = record { line = r.line; width = r.width; seq = r.seq; pairs = r.marks }

abbrev pub blocks_at_end : RecordsView → List Block
blocks_at_end r = record_blocks r.shape r.seq (end_len r.shape r.width) (end_bytes r.shape (end_record_of r))

-- how many data addresses have no entry yet
abbrev pub data_left : RecordsView → ℕ
data_left r = data_len r.shape r.width - length r.marks

-- they are those of an opening whose data so far stand in the engine's log
pub record AreOf (s : Shape) (log : List Logged) (o : Opening) (r : RecordsView) : Type 0 where
  pub shape : r.shape ≡ s
  pub line : r.line ≡ o.line
  pub width : r.width ≡ o.start.width
  pub seq : r.seq ≡ o.start.seq
  pub start : r.start ≡ start_bytes s o.start
  pub marks : r.marks ≡ data_marks s log o

-- In a line of which a stripe was lost pads alone are placed from then on, so that its records keep
-- the marks of the stripes that were placed before.
abbrev pub placed_whole : List Logged → Opening → List Placed
placed_whole log o = filter (λ p. not (has_failed (take p.number log) o)) (stripes_of log o)

abbrev pub whole_marks : Shape → List Logged → Opening → List Mark
whole_marks s log o = map (λ b. b.mark)
    (slice_range (flat_map (λ p. p.stripe.blocks) (placed_whole log o)) (start_len s) (end_address s o))

pub record AreRecordsOf (s : Shape) (log : List Logged) (o : Opening) (r : RecordsView) : Type 0 where
  pub shape : r.shape ≡ s
  pub line : r.line ≡ o.line
  pub width : r.width ≡ o.start.width
  pub seq : r.seq ≡ o.start.seq
  pub start : r.start ≡ start_bytes s o.start
  pub marks : r.marks ≡ whole_marks s log o
