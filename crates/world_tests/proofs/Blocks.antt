-- Blocks of these worlds are blocks of the small drive.
use Rattle.std.proofs.Common.{◌≡◌, ℕ, ◌^◌, ◌<◌, ◌≤◌, ◌≢◌, List, [], length, drop, arith, lit<}
use Rattle.std.specs.List.{AllByRecursion, Contains}
use Rattle.std.proofs.lemmas.List.{length-take, length-drop, length-replicate}
use Rattle.pblk_model.specs.declared.chunk.ChunkState.TheVariants as states
use Rattle.pblk_model.specs.Shape.{small}
use Rattle.pblk_model.specs.Bytes.{zeros}
use Rattle.pblk_model.specs.Chunk.{IsBlock}
use Rattle.pblk_model.specs.Marks.{pad_block}
use Rattle.world_tests.specs.Steps.{meta_block, meta_blocks, sector, sector_block}
use Rattle.pblk_model.proofs.Lists.{all_replicated}
use Rattle.pblk_model.proofs.Parts.{all_dropped, all_taken}

pub free_not_open : states.Free ≢ states.Open
free_not_open e = grind arith

pub none_in : {X Y : Type 0} (x : X) → Contains [] x → Y
none_in x h = absurd (let past : h.0 < 0 = h.1 in omega arith)

-- Blocks.

pub sector_is : (position : ℕ) → position < 2 ^ 64 → IsBlock small (sector_block position)
unfolding sector
sector_is position small_number = record {
  size = length-replicate {A = ℕ} 512 7;
  bytes = all_replicated (λ x. x < 256) 512 7 (lit< tt);
  lba = lit< tt;
  position = small_number;
}

pub pad_is : IsBlock small (pad_block small)
unfolding zeros
pad_is = record { size = length-replicate {A = ℕ} 512 0; bytes = all_replicated (λ x. x < 256) 512 0 (lit< tt); lba = lit< tt; position = lit< tt }

meta_is : (seq : ℕ) → seq < 2 ^ 64 → (bytes : List ℕ) → 512 ≤ length bytes → AllByRecursion (λ x. x < 256) bytes → IsBlock small (meta_block seq bytes)
meta_is seq number bytes long each = record {
  size = simp (length-take) (omega arith);
  bytes = all_taken (λ x. x < 256) 512 bytes each;
  lba = lit< tt;
  position = number;
}

pub metas_are : (seq : ℕ) → seq < 2 ^ 64 → (bytes : List ℕ) → length bytes ≡ 2048 → AllByRecursion (λ x. x < 256) bytes → AllByRecursion (IsBlock small)
    (meta_blocks seq bytes)
metas_are seq number bytes long each =
    let P : ℕ → Type 0 = λ x. x < 256 in
    let each1 : AllByRecursion P (drop 512 bytes) = all_dropped P 512 bytes each in
    let each2 : AllByRecursion P (drop 512 (drop 512 bytes)) = all_dropped P 512 (drop 512 bytes) each1 in
    let each3 : AllByRecursion P (drop 512 (drop 512 (drop 512 bytes))) = all_dropped P 512 (drop 512 (drop 512 bytes)) each2 in (
      meta_is seq number bytes (omega arith) each,
      (
        meta_is seq number (drop 512 bytes) (simp (length-drop) (omega arith)) each1,
        (
          meta_is seq number (drop 512 (drop 512 bytes)) (simp (length-drop) (omega arith)) each2,
          (meta_is seq number (drop 512 (drop 512 (drop 512 bytes))) (simp (length-drop) (omega arith)) each3, tt),
        ),
      ),
    )
