-- What the commands print beside transcripts, and the lines of refusals. Each line is ended by a newline.
use Rattle.std.specs.Prelude.{ℕ, ◌+◌, ◌*◌, ◌/◌, ◌%◌, ◌^◌, ◌==◌, ◌||◌, if◌then◌else◌, nat_lt, List, [], ◌∷◌, ◌++◌, length, Option, codes}
use Rattle.std.specs.List.{filter, flat_map, range_with_len}
use Rattle.std.specs.Option.{option_map}
use Rattle.pblk_model.specs.declared.chunk.ChunkState.{ChunkState}
use Rattle.pblk_model.specs.declared.chunk.ChunkState.TheVariants as states
use Rattle.pblk_model.specs.declared.shape.GeometryErr.{GeometryErr}
use Rattle.pblk_model.specs.declared.shape.GeometryErr.TheVariants as geometry
use Rattle.pblk_model.specs.declared.image.ImageErr.{ImageErr}
use Rattle.pblk_model.specs.declared.image.ImageErr.TheVariants as image
use Rattle.pblk_model.specs.declared.script.ScriptErr.{ScriptErr}
use Rattle.pblk_model.specs.declared.script.ScriptErr.TheVariants as script
use Rattle.pblk_model.specs.Checks.{first_failing, first_refusal}
use Rattle.pblk_model.specs.Descriptor.{state_code}
use Rattle.pblk_model.specs.Geometry.{Geometry, geometry_refusal, shape_with}
use Rattle.pblk_model.specs.Accepted.{settings_checks}
use Rattle.pblk_model.specs.ImageFile.{Drive, blank_drive}
use Rattle.pblk_model.specs.Text.{spaced, newline}

-- Creating.

-- the numbers of a drive to be made
pub record CreateNumbers : Type 0 where
  pub groups : ℕ
  -- in a group
  pub units : ℕ
  pub chunks : ℕ
  pub blocks : ℕ
  pub ws_min : ℕ
  pub ws_opt : ℕ
  pub mw : ℕ
  pub sector : ℕ
  pub capacity : ℕ
  pub ring : ℕ

-- the least number of bits in which a count's numbers can be written: as many as there are powers of two below
-- the count
abbrev pub least_bits : ℕ → ℕ
least_bits count = length (filter (λ k. nat_lt (2 ^ k) count) (range_with_len 0 32))

-- the geometry of a drive that is made
abbrev pub created_geometry : CreateNumbers → Geometry
created_geometry n = record {
  mjr = 2;
  mnr = 0;
  group_bits = least_bits n.groups;
  pu_bits = least_bits n.units;
  chunk_bits = least_bits n.chunks;
  block_bits = least_bits n.blocks;
  mccap = 0;
  wit = 0;
  groups = n.groups;
  pus = n.units;
  chunks = n.chunks;
  clba = n.blocks;
  ws_min = n.ws_min;
  ws_opt = n.ws_opt;
  mw_cunits = n.mw;
  maxoc = 0;
  maxocpu = 0;
}

-- why no blank drive is made of a geometry and settings
abbrev pub blank_refusal : Geometry → ℕ → ℕ → ℕ → Option ImageErr
blank_refusal g sector capacity ring = first_refusal (option_map image.Geometry (geometry_refusal g)
    ∷ option_map image.Settings (first_failing (settings_checks (shape_with g sector capacity ring)))
    ∷ [])

abbrev pub created_drive : CreateNumbers → Drive
created_drive n = blank_drive (created_geometry n) n.sector n.capacity n.ring

abbrev pub created_refusal : CreateNumbers → Option ImageErr
created_refusal n = blank_refusal (created_geometry n) n.sector n.capacity n.ring

-- what `create` prints: the length of the image in bytes
abbrev pub created_text : ℕ → List ℕ
created_text bytes = codes "created" ++ spaced (bytes ∷ []) ++ newline

-- Geometries.

-- how many chunks are in a state
abbrev pub chunks_in : ChunkState → Drive → ℕ
chunks_in state d = length (filter (λ k. state_code k.chunk.state == state_code state) (flat_map (λ unit. unit) d.units))

abbrev pub number_line : List ℕ → ℕ → List ℕ
number_line word n = word ++ spaced (n ∷ []) ++ newline

-- what `geometry` prints
abbrev pub geometry_text : Drive → List ℕ
geometry_text d = number_line (codes "groups") d.geometry.groups
    ++ number_line (codes "units") (d.geometry.groups * d.geometry.pus)
    ++ number_line (codes "chunks") d.geometry.chunks
    ++ number_line (codes "blocks") d.geometry.clba
    ++ number_line (codes "ws_min") d.geometry.ws_min
    ++ number_line (codes "ws_opt") d.geometry.ws_opt
    ++ number_line (codes "mw_cunits") d.geometry.mw_cunits
    ++ number_line (codes "maxoc") d.geometry.maxoc
    ++ number_line (codes "maxocpu") d.geometry.maxocpu
    ++ number_line (codes "sector") d.sector
    ++ number_line (codes "capacity") d.capacity
    ++ number_line (codes "ring") d.ring
    ++ number_line (codes "free") (chunks_in states.Free d)
    ++ number_line (codes "open") (chunks_in states.Open d)
    ++ number_line (codes "closed") (chunks_in states.Closed d)
    ++ number_line (codes "offline") (chunks_in states.Offline d)

-- Refusals.

abbrev pub geometry_reason : GeometryErr → List ℕ
geometry_reason geometry.Length = codes "Length"
geometry_reason (geometry.Field offset) = codes "Field" ++ spaced (offset ∷ [])
geometry_reason (geometry.Profile rule) = codes "Profile" ++ spaced (rule ∷ [])

abbrev pub image_line : ImageErr → List ℕ
image_line image.Magic = codes "image Magic" ++ newline
image_line image.Version = codes "image Version" ++ newline
image_line (image.Geometry e) = codes "image Geometry " ++ geometry_reason e ++ newline
image_line (image.Short bytes) = codes "image Short" ++ spaced (bytes ∷ []) ++ newline
image_line image.Long = codes "image Long" ++ newline
image_line (image.Chunk unit chunk rule) = codes "image Chunk" ++ spaced (unit ∷ chunk ∷ rule ∷ []) ++ newline
image_line (image.Settings rule) = codes "image Settings" ++ spaced (rule ∷ []) ++ newline
image_line image.Memory = codes "memory" ++ newline

abbrev pub script_line : ScriptErr → List ℕ
script_line (script.Form line) = codes "script Form" ++ spaced (line ∷ []) ++ newline
script_line (script.Limit line) = codes "script Limit" ++ spaced (line ∷ []) ++ newline
script_line (script.Range line) = codes "script Range" ++ spaced (line ∷ []) ++ newline
script_line (script.NeverPosted line) = codes "script NeverPosted" ++ spaced (line ∷ []) ++ newline
script_line (script.Stuck line) = codes "script Stuck" ++ spaced (line ∷ []) ++ newline
script_line script.Memory = codes "memory" ++ newline

abbrev pub hex_digit : ℕ → ℕ
hex_digit n = if nat_lt n 10 then 48 + n else 87 + n

-- a byte of a name as a refusal prints it: a control character of ASCII as `\x` and two digits, so that the
-- line stays one
abbrev pub name_byte : ℕ → List ℕ
name_byte b = if nat_lt b 32 || (b == 127) then 92 ∷ 120 ∷ hex_digit (b / 16) ∷ hex_digit (b % 16) ∷ [] else b ∷ []

abbrev pub shown_name : List ℕ → List ℕ
shown_name name = flat_map name_byte name

abbrev pub failed_line : List ℕ → List ℕ
failed_line name = codes "files Failed " ++ shown_name name ++ newline

abbrev pub missing_line : List ℕ → List ℕ
missing_line name = codes "files Missing " ++ shown_name name ++ newline

abbrev pub words_line : List ℕ
words_line = codes "words" ++ newline

abbrev pub memory_line : List ℕ
memory_line = codes "memory" ++ newline
