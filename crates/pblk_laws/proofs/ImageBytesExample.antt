-- A drive with written blocks that is spelled.
use Rattle.std.proofs.Common.{◌≡◌, ℕ, ◌<◌, None, List, [], ◌∷◌, replicate, length, refl, lit<}
use Rattle.std.proofs.lemmas.List.{length-replicate}
use Rattle.std.specs.List.{AllByRecursion}
use Rattle.pblk_model.specs.declared.chunk.ChunkState.TheVariants.{Open}
use Rattle.pblk_model.specs.Accepted.{IsAccepted}
use Rattle.pblk_model.specs.Chunk.{Block, IsBlock, IsChunk, free_chunk}
use Rattle.pblk_model.specs.Geometry.{Geometry, geometry_refusal}
use Rattle.pblk_model.specs.Image.{IsFit}
use Rattle.pblk_model.specs.ImageFile.{StoredChunk, Drive, shape_of, image_of, blocks_bytes}
use Rattle.pblk_laws.specs.GeometryFields.{FitsFields}
use Rattle.pblk_laws.proofs.Shapes.{small, small_accepted}
use Rattle.pblk_model.proofs.Lists.{all_replicated}

abbrev pub geometry : Geometry
geometry = record {
  mjr = 2;
  mnr = 0;
  group_bits = 1;
  pu_bits = 1;
  chunk_bits = 4;
  block_bits = 6;
  mccap = 0;
  wit = 0;
  groups = 2;
  pus = 2;
  chunks = 16;
  clba = 64;
  ws_min = 2;
  ws_opt = 4;
  mw_cunits = 8;
  maxoc = 0;
  maxocpu = 0;
}

-- a sector of this many bytes
pub sector : ℕ → List ℕ
sector n = replicate n 7

abbrev block : Block
block = record { sector = sector 512; mark = record { lba = 3; position = 5 } }

abbrev written : StoredChunk
written = record { chunk = record { state = Open; blocks = block ∷ block ∷ [] }; wear = 9 }

abbrev untouched : StoredChunk
untouched = record { chunk = free_chunk; wear = 0 }

abbrev pub drive : Drive
drive = record {
  geometry = geometry;
  sector = 512;
  capacity = 1000;
  ring = 128;
  units = (written ∷ replicate 15 untouched) ∷ replicate 3 (replicate 16 untouched);
}

pub geometry_fits : FitsFields geometry
geometry_fits = record {
  mjr = lit< tt;
  mnr = lit< tt;
  group_bits = lit< tt;
  pu_bits = lit< tt;
  chunk_bits = lit< tt;
  block_bits = lit< tt;
  mccap = lit< tt;
  wit = lit< tt;
  groups = lit< tt;
  pus = lit< tt;
  chunks = lit< tt;
  clba = lit< tt;
  ws_min = lit< tt;
  ws_opt = lit< tt;
  mw_cunits = lit< tt;
  maxoc = lit< tt;
  maxocpu = lit< tt;
}

pub geometry_taken : geometry_refusal geometry ≡ None
geometry_taken = refl

pub drive_accepted : IsAccepted (shape_of drive)
drive_accepted = small_accepted

sector_length : (n : ℕ) → length (sector n) ≡ n
unfolding sector
sector_length n = length-replicate n 7

sector_bytes : (n : ℕ) → AllByRecursion (λ x. x < 256) (sector n)
unfolding sector
sector_bytes n = all_replicated (λ x. x < 256) n 7 (lit< tt)

block_is : IsBlock small block
block_is = record { size = sector_length 512; bytes = sector_bytes 512; lba = lit< tt; position = lit< tt }

written_is : IsChunk small written.chunk
written_is = record { place = (lit< tt, lit< tt); multiple = refl; blocks = (block_is, (block_is, tt)) }

free_is : IsChunk small free_chunk
free_is = record { place = refl; multiple = refl; blocks = tt }

pub drive_fits : IsFit (image_of drive)
drive_fits = record {
  units = refl;
  chunks = (refl, (refl, (refl, (refl, tt))));
  each = (
    (written_is, all_replicated (IsChunk small) 15 free_chunk free_is),
    all_replicated (AllByRecursion (IsChunk small)) 3 (replicate 16 free_chunk) (all_replicated (IsChunk small) 16 free_chunk free_is),
  );
}

pub drive_wears : AllByRecursion (AllByRecursion (λ k. k.wear < 256)) drive.units
drive_wears = (
  (lit< tt, all_replicated (λ (k : StoredChunk). k.wear < 256) 15 untouched (lit< tt)),
  all_replicated (AllByRecursion (λ (k : StoredChunk). k.wear < 256)) 3 (replicate 16 untouched)
      (all_replicated (λ (k : StoredChunk). k.wear < 256) 16 untouched (lit< tt)),
)

pub drive_blocks : blocks_bytes drive ≡ [] → ⊥
unfolding sector
drive_blocks e = cc
