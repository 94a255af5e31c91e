-- The units of a drive, and the image that their chunks are.
use Rattle.std.specs.Prelude.{ℕ, ◌-◌, ◌^◌, ◌≡◌, List, [], ◌∷◌, ◌++◌, length, map, min, slice_get, Some}
use Rattle.std.specs.Option.{option_map_or}
use Rattle.pblk_model.specs.declared.shape.Shape.{Shape}
use Rattle.pblk_model.specs.declared.chunk.ChunkState.{ChunkState}
use Rattle.pblk_model.specs.Shape.{units}
use Rattle.pblk_model.specs.Chunk.{Chunk}
use Rattle.pblk_model.specs.UnitLog.{UnitEvent}
use Rattle.pblk_model.specs.Image.{Image}
use Rattle.pblk_laws.specs.LineBlocks.{chunk_in}
use Rattle.unit_port.specs.Unit.{ModelUnit, IsFitUnit}

-- a unit of a drive of this shape
pub record IsUnitOf (s : Shape) (u : ModelUnit) : Type 0 where
  pub shape : u.shape ≡ s
  pub fits : IsFitUnit u

-- the units of a drive of this shape, as many as it has
pub record AreFit (s : Shape) (us : List ModelUnit) : Type 0 where
  pub count : length us ≡ units s
  pub each : (k : ℕ) (u : ModelUnit) → slice_get us k ≡ Some u → IsUnitOf s u

-- the image that their chunks are
abbrev pub image_of : Shape → List ModelUnit → Image
image_of s us = record { shape = s; units = map (λ u. u.media) us }

-- a unit's chunk of a line has this state
abbrev pub IsStateOf : Image → ℕ → ℕ → ChunkState → Type 0
IsStateOf i line unit state = (c : Chunk) × (chunk_in i line unit ≡ Some c) × (state ≡ c.state)

-- how many events a unit's log has
abbrev pub log_length : List ModelUnit → ℕ → ℕ
log_length us unit = option_map_or (λ u. length u.log) (slice_get us unit) 0

-- This is the last event of a unit, and this its number in the unit's log, from 1. From 2^64 - 1 on
-- the number stands still.
pub record IsLastEvent (us : List ModelUnit) (unit number : ℕ) (e : UnitEvent) : Type 0 where
  pub of : ModelUnit
  pub there : slice_get us unit ≡ Some of
  pub front : List UnitEvent
  pub log : of.log ≡ front ++ e ∷ []
  pub number_is : number ≡ min (length of.log) (2 ^ 64 - 1)
