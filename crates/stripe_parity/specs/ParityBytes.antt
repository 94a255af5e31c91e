-- The file in which a parity is kept: a header, of each chunk its state and its write pointer, and the exclusive ors.
use Rattle.std.specs.Prelude.{ℕ, ◌+◌, ◌*◌, ◌<◌, ◌≤◌, ◌≡◌, ◌≢◌, ◌⊎◌, List, [], ◌∷◌, ◌++◌, codes, length, slice_get, slice_range, take, Some, ⊤}
use Rattle.std.specs.List.{AllByRecursion, flat_map, range_with_len, sum_by}
use Rattle.pblk_model.specs.declared.shape.Shape.{Shape}
use Rattle.pblk_model.specs.Bytes.{le32}
use Rattle.pblk_model.specs.Chunk.{Block}
use Rattle.pblk_model.specs.Descriptor.{state_code}
use Rattle.pblk_model.specs.ImageFile.{block_bytes}
use Rattle.pblk_model.specs.Shape.{units}
use Rattle.stripe_parity.specs.declared.error.ParityErr.{ParityErr}
use Rattle.stripe_parity.specs.declared.error.ParityErr.TheVariants as errors
use Rattle.stripe_parity.specs.declared.kept.KeptChunk.{KeptChunk}
use Rattle.stripe_parity.specs.ParityFile.{IsKept, ParityFile, greatest_pointer}

-- the magic and the version 1
abbrev pub magic_bytes : List ℕ
magic_bytes = codes "PBLKPRTY"

abbrev pub version_bytes : List ℕ
version_bytes = le32 1

-- the drive's numbers, and a zero
abbrev pub number_bytes : Shape → List ℕ
number_bytes s = le32 s.sector ++ le32 (units s) ++ le32 s.chunks ++ le32 s.clba ++ le32 0

abbrev pub header_bytes : Shape → List ℕ
header_bytes s = magic_bytes ++ version_bytes ++ number_bytes s

-- what is kept of a chunk: the byte of its state as in a descriptor, three zeros, and its write pointer
abbrev pub kept_bytes : KeptChunk → List ℕ
kept_bytes k = (state_code k.state ∷ 0 ∷ 0 ∷ 0 ∷ []) ++ le32 k.pointer

-- the one spelling of a parity
abbrev pub parity_bytes : ParityFile → List ℕ
parity_bytes p = header_bytes p.shape ++ flat_map (flat_map kept_bytes) p.chunks ++ flat_map (flat_map block_bytes) p.rows

-- Which bytes are refused.

-- where the states and write pointers end
abbrev pub kept_end : Shape → ℕ
kept_end s = 32 + 8 * (units s * s.chunks)

-- the bytes of a chunk's state and write pointer
abbrev pub kept_part : Shape → List ℕ → ℕ → ℕ → List ℕ
kept_part s b unit chunk = let at = 32 + 8 * (unit * s.chunks + chunk) in slice_range b at (at + 8)

-- they are those of a state and a write pointer that a drive of this shape may have
abbrev pub IsKeptPart : Shape → List ℕ → ℕ → ℕ → Type 0
IsKeptPart s b unit chunk = (k : KeptChunk) × IsKept s k × (kept_part s b unit chunk ≡ kept_bytes k)

-- the length of the exclusive ors
abbrev pub rows_length : Shape → List (List KeptChunk) → ℕ
rows_length s kept = (s.sector + 16) * sum_by (greatest_pointer kept) (range_with_len 0 s.chunks)

-- the bytes begin with the header, and these states and write pointers
pub record BeginsAs (s : Shape) (b : List ℕ) (kept : List (List KeptChunk)) : Type 0 where
  pub units_are : length kept ≡ units s
  pub chunks_are : AllByRecursion (λ of. length of ≡ s.chunks) kept
  pub each : AllByRecursion (AllByRecursion (IsKept s)) kept
  pub reaches : kept_end s ≤ length b
  pub bytes : take (kept_end s) b ≡ header_bytes s ++ flat_map (flat_map kept_bytes) kept

-- the first chunk, by unit and then by chunk, whose state and write pointer can't be
pub record IsFirstUnkept (s : Shape) (b : List ℕ) (unit chunk : ℕ) : Type 0 where
  pub header : take 32 b ≡ header_bytes s
  pub reaches : kept_end s ≤ length b
  pub unit_within : unit < units s
  pub chunk_within : chunk < s.chunks
  pub not : IsKeptPart s b unit chunk → ⊥
  pub first : (u c : ℕ) → c < s.chunks → (u < unit) ⊎ ((u ≡ unit) × (c < chunk)) → IsKeptPart s b u c

-- the bytes end within the header, the states and write pointers, or the exclusive ors
pub data EndsWithin (s : Shape) (b : List ℕ) : Type 0 where
  InHeader : length b < 32 → EndsWithin s b
  InKept : take 32 b ≡ header_bytes s → length b < kept_end s → EndsWithin s b
  InRows : (kept : List (List KeptChunk)) → BeginsAs s b kept → length b < kept_end s + rows_length s kept → EndsWithin s b

-- when each refusal comes
abbrev pub IsFileRefusal : Shape → List ℕ → ParityErr → Type 0
IsFileRefusal s b errors.Magic = (32 ≤ length b) × (take 8 b ≢ magic_bytes)
IsFileRefusal s b errors.Version = (32 ≤ length b) × (take 8 b ≡ magic_bytes) × (slice_range b 8 12 ≢ version_bytes)
IsFileRefusal s b errors.Numbers = (32 ≤ length b) × (take 8 b ≡ magic_bytes) × (slice_range b 8 12 ≡ version_bytes) × (slice_range b 12 32 ≢ number_bytes s)
IsFileRefusal s b (errors.Short bytes) = (bytes ≡ length b) × EndsWithin s b
IsFileRefusal s b errors.Long = (kept : List (List KeptChunk)) × BeginsAs s b kept × (kept_end s + rows_length s kept < length b)
IsFileRefusal s b (errors.State unit chunk) = IsFirstUnkept s b unit chunk
IsFileRefusal s b (errors.Differs unit chunk) = ⊥
IsFileRefusal s b (errors.Drive unit event) = ⊥
IsFileRefusal s b errors.Memory = ⊤

-- The first chunks of a unit, so many, have these states and write pointers.
pub record IsUnitPart (s : Shape) (b : List ℕ) (unit count : ℕ) (of : List KeptChunk) : Type 0 where
  pub many : length of ≡ count
  pub each : AllByRecursion (IsKept s) of
  pub bytes : slice_range b (32 + 8 * (unit * s.chunks)) (32 + 8 * (unit * s.chunks + count)) ≡ flat_map kept_bytes of
  pub parts : (chunk : ℕ) → chunk < count → IsKeptPart s b unit chunk

-- The chunks of the first units, so many, have these.
pub record AreUnitParts (s : Shape) (b : List ℕ) (count : ℕ) (kept : List (List KeptChunk)) : Type 0 where
  pub many : length kept ≡ count
  pub chunks_are : AllByRecursion (λ of. length of ≡ s.chunks) kept
  pub each : AllByRecursion (AllByRecursion (IsKept s)) kept
  pub bytes : slice_range b 32 (32 + 8 * (count * s.chunks)) ≡ flat_map (flat_map kept_bytes) kept
  pub parts : (unit chunk : ℕ) → unit < count → chunk < s.chunks → IsKeptPart s b unit chunk

-- why the states and write pointers of a unit are refused: the first chunk whose can't be, or want of memory
abbrev pub IsUnitRefusal : Shape → List ℕ → ℕ → ParityErr → Type 0
IsUnitRefusal s b at errors.Magic = ⊥
IsUnitRefusal s b at errors.Version = ⊥
IsUnitRefusal s b at errors.Numbers = ⊥
IsUnitRefusal s b at (errors.Short bytes) = ⊥
IsUnitRefusal s b at errors.Long = ⊥
IsUnitRefusal s b at (errors.State unit chunk) = (unit ≡ at) × (chunk < s.chunks) × (IsKeptPart s b at chunk → ⊥) × ((c : ℕ) → c < chunk → IsKeptPart s b at c)
IsUnitRefusal s b at (errors.Differs unit chunk) = ⊥
IsUnitRefusal s b at (errors.Drive unit event) = ⊥
IsUnitRefusal s b at errors.Memory = ⊤

-- The exclusive ors of the first chunk numbers, so many, are these, and end at this byte.
pub record AreRowsOf (s : Shape) (b : List ℕ) (kept : List (List KeptChunk)) (count at : ℕ) (rows : List (List Block)) : Type 0 where
  pub many : length rows ≡ count
  pub lengths : (chunk : ℕ) (row : List Block) → slice_get rows chunk ≡ Some row → length row ≡ greatest_pointer kept chunk
  pub place : at ≡ kept_end s + (s.sector + 16) * sum_by (greatest_pointer kept) (range_with_len 0 count)
  pub reaches : at ≤ length b
  pub bytes : slice_range b (kept_end s) at ≡ flat_map (flat_map block_bytes) rows
