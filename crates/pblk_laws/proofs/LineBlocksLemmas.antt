-- Lemmas on the words of LineBlocks.
use Rattle.std.proofs.Common.{List, None, Option, Some, ap, refl, ℕ, ◌≡◌}
use Rattle.std.proofs.lemmas.Option.{none-some, same_Some}
use Rattle.std.specs.List.{AllByRecursion, slice_get}
use Rattle.std.specs.Option.{option_and_then, option_map}
use Rattle.pblk_model.proofs.Parts.{all_get}
use Rattle.pblk_laws.specs.LineBlocks.{chunk_in, written_at}
use Rattle.pblk_model.specs.Chunk.{Chunk, IsChunk}
use Rattle.pblk_model.specs.Image.{Image, IsFit}

pub chunk_fits : (i : Image) (l u : ℕ) (c : Chunk) → IsFit i → chunk_in i l u ≡ Some c → IsChunk i.shape c
chunk_fits i l u c fit is = by (slice_get i.units u) refl is where
  by : (o : Option (List Chunk)) → slice_get i.units u ≡ o → option_and_then (λ chunks. slice_get chunks l) o ≡ Some c → IsChunk i.shape c
  by None e h = absurd (none-some c h)
  by (Some cs) e h = all_get (IsChunk i.shape) cs l c (all_get (AllByRecursion (IsChunk i.shape)) i.units u cs fit.each e) h

pub from_chunk : (i : Image) (line b : ℕ) (o : Option ℕ) (unit block : ℕ) → option_map {U = ℕ × ℕ} (λ u. (u, b)) o ≡ Some (unit, block)
    → option_and_then (λ (c : Chunk). slice_get c.blocks b) (option_and_then (chunk_in i line) o) ≡ written_at i line (unit, block)
from_chunk i line b None unit block h = absurd (none-some (unit, block) h)
from_chunk i line b (Some u) unit block h =
    let same : (u, b) ≡ (unit, block) = same_Some (u, b) (unit, block) h in
    ap (λ (p : ℕ × ℕ). written_at i line p) same
