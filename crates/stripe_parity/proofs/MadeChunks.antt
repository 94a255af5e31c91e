-- A chunk that is made anew block by block.
use Rattle.std.proofs.Common.{◌≡◌, ℕ, zero, suc, List, [], ◌∷◌, ◌++◌, length, map, slice_get, Some, sym, ap, ◌∙◌, subst}
use Rattle.std.proofs.lemmas.Option.{none-some, same_Some}
use Rattle.pblk_model.specs.declared.chunk.Mark.{Mark}
use Rattle.pblk_model.specs.Blocks.{blocks_of}
use Rattle.pblk_model.specs.Chunk.{Block, Chunk}
use Rattle.pblk_model.specs.Image.{Image}
use Rattle.pblk_model.proofs.BlocksLemmas.{length-blocks_of}
use Rattle.stripe_parity.specs.declared.kept.KeptChunk.{KeptChunk}
use Rattle.stripe_parity.specs.ParityFile.{ParityFile, kept_in}
use Rattle.stripe_parity.specs.Rebuilding.{IsRebuiltBlock, IsRebuiltChunk}

-- what each of a list is at its place, and one more
pub each_more : {X : Type 0} (P : ℕ → X → Type 0) (xs : List X) (x : X) → ((k : ℕ) (y : X) → slice_get xs k ≡ Some y → P k y) → P (length xs) x
    → (k : ℕ) (y : X) → slice_get (xs ++ x ∷ []) k ≡ Some y → P k y
each_more P [] x each is zero y there = subst (P 0) (same_Some x y there) is
each_more P [] x each is (suc k) y there = absurd (none-some y there)
each_more P (z ∷ xs) x each is zero y there = each zero y there
each_more P (z ∷ xs) x each is (suc k) y there = each_more (λ n. P (suc n)) xs x (λ n. each (suc n)) is k y there

pub no_blocks : (size : ℕ) (bytes : List ℕ) (marks : List Mark) (k : ℕ) (b : Block) → marks ≡ [] → slice_get (blocks_of size bytes marks) k ≡ Some b → ⊥
no_blocks size bytes marks k b none there = none-some b (sym (ap (λ ms. slice_get (blocks_of size bytes ms) k) none) ∙ there)

pub nothing_there : {X Y : Type 0} (f : X → Y) (xs : List X) (k : ℕ) (y : Y) → xs ≡ [] → slice_get (map f xs) k ≡ Some y → ⊥
nothing_there f xs k y none there = none-some y (sym (ap (λ l. slice_get (map f l) k) none) ∙ there)

-- the chunk of these blocks, as many as are kept
pub made_is : (p : ParityFile) (i : Image) (lost chunk : ℕ) (k : KeptChunk) (c : Chunk) (size : ℕ) (bytes : List ℕ) (marks : List Mark)
    → kept_in p.chunks chunk lost ≡ Some k
    → c ≡ record { state = k.state; blocks = blocks_of size bytes marks } → length marks ≡ k.pointer
    → ((n : ℕ) (b : Block) → slice_get (blocks_of size bytes marks) n ≡ Some b → IsRebuiltBlock p i lost chunk n b)
    → IsRebuiltChunk p i lost chunk c
made_is p i lost chunk k c size bytes marks kept is many each = subst (IsRebuiltChunk p i lost chunk) (sym is) (record {
  kept = kept ∙ ap (λ n. Some (record { state = k.state; pointer = n })) (sym (length-blocks_of size bytes marks ∙ many));
  blocks = each;
})
