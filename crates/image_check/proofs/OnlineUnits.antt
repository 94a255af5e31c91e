-- The units of a line that aren't Offline.
use Rattle.std.proofs.Common.{◌≡◌, ℕ, false, Some, ap}
use Rattle.std.specs.Option.{option_map_or}
use Rattle.pblk_model.specs.Chunk.{Chunk}
use Rattle.pblk_model.specs.Image.{Image, is_online_in}
use Rattle.pblk_laws.specs.LineBlocks.{chunk_in}
use Rattle.pblk_laws.proofs.LineUnits.{is_online_at}

pub on_is : (i : Image) (line unit : ℕ) (c : Chunk) → chunk_in i line unit ≡ Some c → is_online_at i line unit ≡ is_online_in c.state
on_is i line unit c there = ap (λ o. option_map_or (λ (c : Chunk). is_online_in c.state) o false) there
