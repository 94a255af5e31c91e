-- Lemmas on the words of Image.
use Rattle.std.proofs.Common.{List, false, if◌then◌else◌, length, nat_lt, refl, true, ℕ, ◌+◌, ◌≡◌}
use Rattle.std.specs.List.{AllByRecursion, slice_get}
use Rattle.pblk_model.proofs.Maps.{all_filter, all_filter_map}
use Rattle.pblk_model.proofs.Parts.{all_get_some}
use Rattle.pblk_model.specs.Chunk.{Block, Chunk, IsChunk, pointer}
use Rattle.pblk_model.specs.ChunkStep.{appended}
use Rattle.pblk_model.specs.Image.{Image, IsFit, is_online_in, line_chunks}
use Rattle.pblk_model.specs.declared.shape.Shape.{Shape}
use Rattle.pblk_model.specs.declared.chunk.ChunkState.TheVariants as states

pub line_fit : (i : Image) (line : ℕ) → IsFit i → AllByRecursion (IsChunk i.shape) (line_chunks i line)
line_fit i line fit = all_filter (IsChunk i.shape) (λ c. is_online_in c.state) _
    (all_filter_map (IsChunk i.shape) (AllByRecursion (IsChunk i.shape)) (λ unit. slice_get unit line) i.units
    (λ unit each. all_get_some (IsChunk i.shape) unit line each) fit.each)

pub appended_online : (s : Shape) (c : Chunk) (blocks : List Block) → is_online_in (appended s c blocks).state ≡ true
appended_online s c blocks = elim (nat_lt (pointer c + length blocks) s.clba) as
    (λ b. is_online_in (if b then states.Open else states.Closed) ≡ true) [ true ↦ refl | false ↦ refl ]
