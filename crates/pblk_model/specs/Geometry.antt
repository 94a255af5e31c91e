-- The geometry: 4096 bytes with numbers at fixed places (Open-Channel SSD Specification 2.0, Geometry; the
-- places are this project's profile), and how addresses are packed by it.
use Rattle.std.specs.Prelude.{ℕ, ◌+◌, ◌*◌, ◌^◌, ◌<◌, ◌≡◌, ◌==◌, ◌&&◌, ◌||◌, if◌then◌else◌, nat_le, Bool, List, [], ◌∷◌, ◌++◌, length, Option, Some, None, Result, Ok, Err}
use Rattle.std.specs.Int.{w8, w16, w32}
use Rattle.pblk_model.specs.declared.shape.Address.{Address}
use Rattle.pblk_model.specs.declared.shape.GeometryErr.{GeometryErr}
use Rattle.pblk_model.specs.declared.shape.GeometryErr.TheVariants.{Length, Field, Profile}
use Rattle.pblk_model.specs.declared.shape.Shape.{Shape}
use Rattle.pblk_model.specs.Bytes.{le16, le32, zeros, number_at}
use Rattle.pblk_model.specs.Checks.{first_failing}
use Rattle.pblk_model.specs.Accepted.{count_checks, drive_checks}

pub record Geometry : Type 0 where
  pub mjr : ℕ
  pub mnr : ℕ
  pub group_bits : ℕ
  pub pu_bits : ℕ
  pub chunk_bits : ℕ
  pub block_bits : ℕ
  pub mccap : ℕ
  pub wit : ℕ
  pub groups : ℕ
  pub pus : ℕ
  pub chunks : ℕ
  pub clba : ℕ
  pub ws_min : ℕ
  pub ws_opt : ℕ
  pub mw_cunits : ℕ
  pub maxoc : ℕ
  pub maxocpu : ℕ

-- the numbers at their places; all other bytes are ignored
abbrev pub geometry_in : List ℕ → Geometry
geometry_in b = record {
  mjr = number_at w8 0 b;
  mnr = number_at w8 1 b;
  group_bits = number_at w8 8 b;
  pu_bits = number_at w8 9 b;
  chunk_bits = number_at w8 10 b;
  block_bits = number_at w8 11 b;
  mccap = number_at w32 16 b;
  wit = number_at w8 32 b;
  groups = number_at w16 64 b;
  pus = number_at w16 66 b;
  chunks = number_at w32 68 b;
  clba = number_at w32 72 b;
  ws_min = number_at w32 128 b;
  ws_opt = number_at w32 132 b;
  mw_cunits = number_at w32 136 b;
  maxoc = number_at w32 140 b;
  maxocpu = number_at w32 144 b;
}

-- the one spelling: all other bytes are 0
abbrev pub geometry_bytes : Geometry → List ℕ
geometry_bytes g = (g.mjr ∷ g.mnr ∷ zeros 6)
    ++ (g.group_bits ∷ g.pu_bits ∷ g.chunk_bits ∷ g.block_bits ∷ zeros 4)
    ++ le32 g.mccap ++ zeros 12
    ++ (g.wit ∷ zeros 31)
    ++ le16 g.groups ++ le16 g.pus ++ le32 g.chunks ++ le32 g.clba ++ zeros 52
    ++ le32 g.ws_min ++ le32 g.ws_opt ++ le32 g.mw_cunits ++ le32 g.maxoc ++ le32 g.maxocpu ++ zeros 3948

-- a field of an address that is so many bits long has room for the numbers of this count
abbrev pub length_holds : ℕ → ℕ → Bool
length_holds bits count = nat_le bits 32 && nat_le count (2 ^ bits)

-- its numbers as those of a drive's shape, with the settings of a target on it
abbrev pub shape_with : Geometry → ℕ → ℕ → ℕ → Shape
shape_with g sector capacity ring = record {
  groups = g.groups;
  pus = g.pus;
  chunks = g.chunks;
  clba = g.clba;
  ws_min = g.ws_min;
  ws_opt = g.ws_opt;
  mw_cunits = g.mw_cunits;
  sector = sector;
  capacity = capacity;
  ring = ring;
}

-- the same without settings, since the checks of a drive don't look at these
abbrev pub drive_numbers : Geometry → Shape
drive_numbers g = shape_with g 0 0 0

-- each field, by its first byte, with whether its number is accepted
abbrev pub field_checks : Geometry → List (ℕ × Bool)
field_checks g = (0, g.mjr == 2)
    ∷ (8, length_holds g.group_bits g.groups)
    ∷ (9, length_holds g.pu_bits g.pus)
    ∷ (10, length_holds g.chunk_bits g.chunks)
    ∷ (11, length_holds g.block_bits g.clba)
    ∷ count_checks (drive_numbers g)

-- each rule of the bounds on open chunks and of the lengths, by its number, with whether it holds
abbrev pub bound_checks : Geometry → List (ℕ × Bool)
bound_checks g = (6, (g.maxoc == 0) || nat_le (2 * (g.groups * g.pus)) g.maxoc)
    ∷ (7, (g.maxocpu == 0) || nat_le 2 g.maxocpu)
    ∷ (8, nat_le (g.group_bits + g.pu_bits + g.chunk_bits + g.block_bits) 64)
    ∷ []

-- each rule of the drives that the target takes, by its number, with whether it holds
abbrev pub profile_checks : Geometry → List (ℕ × Bool)
profile_checks g = drive_checks (drive_numbers g) ++ bound_checks g

-- why numbers are no geometry: the first field that isn't accepted, and then the first rule that doesn't hold
abbrev pub profile_refusal : Option ℕ → Option GeometryErr
profile_refusal None = None
profile_refusal (Some rule) = Some (Profile rule)

abbrev pub refusal_from : Option ℕ → Option ℕ → Option GeometryErr
refusal_from None rule = profile_refusal rule
refusal_from (Some offset) rule = Some (Field offset)

abbrev pub geometry_refusal : Geometry → Option GeometryErr
geometry_refusal g = refusal_from (first_failing (field_checks g)) (first_failing (profile_checks g))

abbrev pub unless_refused : Geometry → Option GeometryErr → Result Geometry GeometryErr
unless_refused g None = Ok g
unless_refused g (Some e) = Err e

-- which geometry bytes are, or why they are none
abbrev pub read_geometry : List ℕ → Result Geometry GeometryErr
read_geometry bytes = if length bytes == 4096 then unless_refused (geometry_in bytes) (geometry_refusal (geometry_in bytes)) else Err Length

-- the number that an address packs to: its fields, from the most significant one on, each in its length of bits
abbrev pub packed : Geometry → Address → ℕ
packed g a = ((a.group * 2 ^ g.pu_bits + a.pu) * 2 ^ g.chunk_bits + a.chunk) * 2 ^ g.block_bits + a.block

-- an address of a block of the drive
pub record IsAddress (g : Geometry) (a : Address) : Type 0 where
  pub group : a.group < g.groups
  pub pu : a.pu < g.pus
  pub chunk : a.chunk < g.chunks
  pub block : a.block < g.clba

-- the number is that of this address
abbrev pub Packs : Geometry → Address → ℕ → Type 0
Packs g a n = IsAddress g a × (packed g a ≡ n)
