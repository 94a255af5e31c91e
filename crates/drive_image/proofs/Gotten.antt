-- What a drive got that was handed a chunk of an image.
use Rattle.std.proofs.Common.{◌≡◌, ℕ, ◌+◌, ◌/◌, ◌%◌, Ok, List, length, sym, ap, ◌∙◌, subst}
use Rattle.std.specs.List.{flat_map, slice_range}
use Rattle.pblk_model.specs.Chunk.{Block}
use Rattle.pblk_model.specs.Descriptor.{Descriptor}
use Rattle.pblk_model.specs.ImageFile.{block_bytes, descriptor_of, first_address, geometry_at}
use Rattle.pblk_model.specs.Geometry.{packed}
use Rattle.ocssd_drive.specs.Drive.{DriveView, stored, with_chunk_at, with_restored}
use Rattle.ocssd_drive.specs.Units.{worn_chunk}
use Rattle.drive_image.specs.Filling.{GotNth, IsRow, bytes_of}

-- The chunk of a descriptor, with blocks of these bytes, was put in the place of the old one.
pub record WasPut (b : List ℕ) (n at : ℕ) (old new : DriveView) (d : Descriptor) (chunks size : ℕ) (blocks : List Block) : Type 0 where
  pub row : IsRow b n d
  pub counted : chunks ≡ (geometry_at b).chunks
  pub sized : size ≡ bytes_of b n
  pub spelled : flat_map block_bytes blocks ≡ slice_range b at (at + size)
  pub pointer : length blocks ≡ d.wp
  pub view : new ≡ with_restored (n / chunks) (n % chunks) (worn_chunk d.state blocks d.wear) old
  pub image : stored new ≡ with_chunk_at (n / chunks) (n % chunks) (worn_chunk d.state blocks d.wear) (stored old)

described : (b : List ℕ) (n : ℕ) (d : Descriptor) (blocks : List Block) → IsRow b n d → length blocks ≡ d.wp
    → d ≡ descriptor_of (geometry_at b) (n / (geometry_at b).chunks) (n % (geometry_at b).chunks) (worn_chunk d.state blocks d.wear)
described b n d blocks row count =
    let made : ℕ → ℕ → ℕ → Descriptor = λ s k w. record { state = d.state; wear = d.wear; slba = s; cnlb = k; wp = w } in
    ap (λ s. made s d.cnlb d.wp) row.slba
    ∙ (ap (λ k. made (packed (geometry_at b) (first_address (geometry_at b) (n / (geometry_at b).chunks) (n % (geometry_at b).chunks))) k d.wp) row.cnlb
    ∙ ap (λ w. made (packed (geometry_at b) (first_address (geometry_at b) (n / (geometry_at b).chunks) (n % (geometry_at b).chunks))) (geometry_at b).clba w)
    (sym count))

pub got_nth : (b : List ℕ) (n at : ℕ) (old new : DriveView) (d : Descriptor) (chunks size : ℕ) (blocks : List Block)
    → WasPut b n at old new d chunks size blocks → GotNth b n at old new
got_nth b n at old new d chunks size blocks put = record {
  got = worn_chunk d.state blocks d.wear;
  is = record {
    descriptor = put.row.read ∙ ap Ok (described b n d blocks put.row put.pointer);
    blocks = ap (λ m. slice_range b at (at + m)) (sym put.sized) ∙ sym put.spelled;
  };
  view = subst (λ c. new ≡ with_restored (n / c) (n % c) (worn_chunk d.state blocks d.wear) old) put.counted put.view;
  image = subst (λ c. stored new ≡ with_chunk_at (n / c) (n % c) (worn_chunk d.state blocks d.wear) (stored old)) put.counted put.image;
}
