-- The numbers of the head.
use Rattle.std.proofs.Common.{◌≡◌, ◌<◌, ◌^◌, Option, Some, None, IfSome, refl, sym}
use Rattle.std.specs.Option.{option_map}
use Rattle.pblk_model.specs.Image.{Image, width}
use Rattle.pblk_model.specs.StartRecord.{StartRecord}
use Rattle.pblk_model.specs.Contents.{head}
use Rattle.pblk_meta.specs.Records.{start_numbers}
use Rattle.pblk_meta.specs.declared.start_record.StartRecord.{StartRecord as Start}
use Rattle.pblk_laws.proofs.Heads.{head_is_head}
use Rattle.pblk_laws.proofs.Starts.{found_is, numbers}

-- the line of a head that was read
pub head_numbers : (o : Option Start) → option_map (λ (h : Start). h.line) o ≡ option_map (λ (h : StartRecord). h.line) (option_map start_numbers o)
head_numbers None = refl
head_numbers (Some h) = refl

pub head_front : (i : Image) (h : StartRecord) → head i ≡ Some h → h.front < 2 ^ 61
head_front i h is =
    let found = head_is_head i h is in
    (numbers i.shape found.0 (width i found.0) h (found_is i found.0 h found.1.whole).0).front

-- and its front
pub head_low : (i : Image) (o : Option Start) → option_map start_numbers o ≡ head i → IfSome o (λ (h : Start). h.front < 2 ^ 61)
head_low i None is = tt
head_low i (Some h) is = head_front i (start_numbers h) (sym is)
