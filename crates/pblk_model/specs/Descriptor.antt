-- The descriptor of a chunk: 32 bytes (Open-Channel SSD Specification 2.0, Chunk descriptor; the places of its
-- fields and the values of its state are this project's profile).
use Rattle.std.specs.Prelude.{ℕ, ◌==◌, ◌&&◌, not, if◌then◌else◌, nat_le, nat_lt, Bool, List, [], ◌∷◌, ◌++◌, length, slice_index, Option, Some, None, Result, Ok, Err}
use Rattle.std.specs.Int.{w8, w64}
use Rattle.pblk_model.specs.declared.chunk.ChunkState.{ChunkState}
use Rattle.pblk_model.specs.declared.chunk.ChunkState.TheVariants.{Free, Open, Closed, Offline}
use Rattle.pblk_model.specs.declared.chunk.DescriptorErr.{DescriptorErr}
use Rattle.pblk_model.specs.declared.chunk.DescriptorErr.TheVariants as errors
use Rattle.pblk_model.specs.Bytes.{le64, zeros, number_at}

pub record Descriptor : Type 0 where
  pub state : ChunkState
  -- the wear index, kept as it is
  pub wear : ℕ
  -- the address of the chunk's block 0
  pub slba : ℕ
  -- its number of blocks
  pub cnlb : ℕ
  -- its write pointer
  pub wp : ℕ

abbrev pub state_code : ChunkState → ℕ
state_code Free = 1
state_code Closed = 2
state_code Open = 4
state_code Offline = 8

abbrev pub state_in : ℕ → Option ChunkState
state_in code = if code == 1 then Some Free else
    (if code == 2 then Some Closed else (if code == 4 then Some Open else (if code == 8 then Some Offline else None)))

-- the fields at their places, around five bytes; the kind is 1, for chunks that are written sequentially
abbrev pub spelled_around : Descriptor → List ℕ → List ℕ
spelled_around d ignored = (state_code d.state ∷ 1 ∷ d.wear ∷ []) ++ ignored ++ le64 d.slba ++ le64 d.cnlb ++ le64 d.wp

-- the one spelling: the five bytes are 0. They are ignored when read
abbrev pub spelled : Descriptor → List ℕ
spelled d = spelled_around d (zeros 5)

abbrev pub descriptor_in : ChunkState → List ℕ → Descriptor
descriptor_in state b = record { state = state; wear = number_at w8 2 b; slba = number_at w64 8 b; cnlb = number_at w64 16 b; wp = number_at w64 24 b }

-- whether the write pointer may stand there: nowhere in a Free or Offline chunk, within an Open one
abbrev pub pointer_holds : ChunkState → ℕ → ℕ → Bool
pointer_holds Free cnlb wp = wp == 0
pointer_holds Open cnlb wp = not (wp == 0) && nat_lt wp cnlb
pointer_holds Closed cnlb wp = nat_le wp cnlb
pointer_holds Offline cnlb wp = wp == 0

abbrev pub unless_astray : Descriptor → Result Descriptor DescriptorErr
unless_astray d = if pointer_holds d.state d.cnlb d.wp then Ok d else Err errors.Pointer

abbrev pub of_state : List ℕ → Option ChunkState → Result Descriptor DescriptorErr
of_state b None = Err errors.State
of_state b (Some state) = if slice_index b 1 == 1 then unless_astray (descriptor_in state b) else Err errors.Kind

-- which descriptor bytes are, or the first reason why they are none
abbrev pub read_descriptor : List ℕ → Result Descriptor DescriptorErr
read_descriptor b = if length b == 32 then of_state b (state_in (slice_index b 0)) else Err errors.Length
