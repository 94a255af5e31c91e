-- Blocks that are added at the end of two lists.
use Rattle.std.proofs.Common.{◌≡◌, ℕ, ◌+◌, ◌*◌, List, [], ◌∷◌, ◌++◌, length, map, sym, ap, ap₂, ◌∙◌, arith}
use Rattle.std.specs.List.{range_with_len}
use Rattle.std.proofs.lemmas.List.{take_all}
use Rattle.std.proofs.lemmas.List.FromFn.{length-map-range_with_len, map-range_with_len_more}
use Rattle.pblk_model.specs.declared.chunk.Mark.{Mark}
use Rattle.pblk_model.specs.Blocks.{blocks_of}
use Rattle.pblk_model.specs.Chunk.{Block}
use Rattle.pblk_model.proofs.BlocksLemmas.{blocks_of-append, length-blocks_of}

pub block_added : (size : ℕ) (old new sector : List ℕ) (marks more : List Mark) (m : Mark) → size ≡ length sector → length old ≡ length marks * size
    → new ≡ old ++ sector → more ≡ marks ++ m ∷ [] → blocks_of size new more ≡ blocks_of size old marks ++ record { sector = sector; mark = m } ∷ []
block_added size old new sector marks more m long whole bytes-are marks-are =
    ap₂ (λ (bs : List ℕ) (ms : List Mark). blocks_of size bs ms) bytes-are marks-are
    ∙ blocks_of-append size old sector marks (m ∷ []) whole
    ∙ ap (λ (s : List ℕ). blocks_of size old marks ++ record { sector = s; mark = m } ∷ []) (take_all size sector (omega (arith, long)))

-- one block more
pub row_more : {X : Type 0} (f : ℕ → X) (n : ℕ) (old new : List X) (b : X) → old ≡ map f (range_with_len 0 n) → new ≡ old ++ b ∷ [] → b ≡ f n
    → new ≡ map f (range_with_len 0 (n + 1))
row_more f n old new b is added last =
    added ∙ ap (λ bs. bs ++ b ∷ []) is ∙ ap (λ x. map f (range_with_len 0 n) ++ x ∷ []) last ∙ sym (map-range_with_len_more f 0 n n (omega arith))

-- how many marks there are
pub marks_are : (size n : ℕ) (bytes : List ℕ) (marks : List Mark) (f : ℕ → Block) → blocks_of size bytes marks ≡ map f (range_with_len 0 n) → length marks ≡ n
marks_are size n bytes marks f is = sym (length-blocks_of size bytes marks) ∙ ap length is ∙ length-map-range_with_len f 0 n
