-- A drive on which nothing is written has a blank image.
use Rattle.std.proofs.Common.{◌≡◌, ℕ, ◌*◌, List, map, replicate, sym, subst, ap, ◌∙◌}
use Rattle.pblk_model.specs.declared.shape.Shape.{Shape}
use Rattle.pblk_model.specs.Accepted.{IsAccepted}
use Rattle.pblk_model.specs.Chunk.{Chunk, free_chunk}
use Rattle.pblk_model.specs.Geometry.{Geometry, shape_with}
use Rattle.pblk_model.specs.Image.{blank}
use Rattle.pblk_model.specs.ImageFile as image_file
use Rattle.pblk_model.specs.ImageFile.{StoredChunk, blank_drive, image_of}
use Rattle.ocssd_drive.specs.Drive.{DriveView, IsWhole, stored}
use Rattle.rest_laws.specs.Tidy.{IsTidy}
use Rattle.pblk_model.proofs.Maps.{map-replicate}

pub blank_image : (g : Geometry) (sector capacity ring : ℕ) → image_of (blank_drive g sector capacity ring) ≡ blank (shape_with g sector capacity ring)
blank_image g sector capacity ring =
    let free : StoredChunk = record { chunk = free_chunk; wear = 0 } in
    let units : map (map (λ (k : StoredChunk). k.chunk)) (replicate (g.groups * g.pus) (replicate g.chunks free)) ≡ replicate (g.groups * g.pus)
    (replicate g.chunks free_chunk)
    = map-replicate (map (λ (k : StoredChunk). k.chunk)) (g.groups * g.pus) (replicate g.chunks free)
    ∙ ap (replicate (g.groups * g.pus)) (map-replicate (λ (k : StoredChunk). k.chunk) g.chunks free) in
    ap (λ (us : List (List Chunk)). record { shape = shape_with g sector capacity ring; units = us }) units

-- it is tidy where all blank images are
pub blank_drive_is_tidy : (g : Geometry) (sector capacity ring : ℕ) (d : DriveView) → stored d ≡ blank_drive g sector capacity ring → IsWhole d
    → ((s : Shape) → IsAccepted s → IsTidy (blank s)) → IsTidy (image_of (blank_drive g sector capacity ring))
blank_drive_is_tidy g sector capacity ring d is whole tidy =
    let accepted : IsAccepted (shape_with g sector capacity ring) = subst (λ (x : image_file.Drive). IsAccepted (image_file.shape_of x)) is whole.accepted in
    subst IsTidy (sym (blank_image g sector capacity ring)) (tidy (shape_with g sector capacity ring) accepted)
