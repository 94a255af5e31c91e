-- A test that each known chunk of a line passes.
use Rattle.std.proofs.Common.{◌≡◌, ℕ, ◌&&◌, Bool, true, Some, List, [], ◌∷◌, refl, ap, ap₂, ◌∙◌}
use Rattle.std.specs.Prelude.{slice_get}
use Rattle.std.specs.List.{AllByRecursion, list_all}
use Rattle.std.specs.Option.{option_and_then}
use Rattle.pblk_model.specs.Chunk.{Chunk}
use Rattle.pblk_model.specs.Image.{Image}
use Rattle.pblk_laws.specs.LineBlocks.{chunk_in}
use Rattle.pblk_world.specs.Lines.{chunks_of}
use Rattle.pblk_model.proofs.Maps.{from_given}
use Rattle.pblk_model.proofs.Parts.{all_by_get}

pub all_hold : {X : Type 0} (f : X → Bool) (xs : List X) → AllByRecursion (λ x. f x ≡ true) xs → list_all f xs ≡ true
all_hold f [] each = refl
all_hold f (x ∷ xs) each = ap₂ (λ a b. a && b) each.0 (all_hold f xs each.1)

pub chunks_pass : (i : Image) (line : ℕ) (test : Chunk → Bool) → ((unit : ℕ) (c : Chunk) → chunk_in i line unit ≡ Some c → test c ≡ true)
    → list_all test (chunks_of i line) ≡ true
chunks_pass i line test each =
    all_hold test (chunks_of i line) (all_by_get (λ (c : Chunk). test c ≡ true) (chunks_of i line) (λ k c at.
    let from = from_given (λ (unit : List Chunk). slice_get unit line) i.units c k at in
    each from.1.0 c (ap (option_and_then (λ (cs : List Chunk). slice_get cs line)) from.1.1 ∙ from.2)))
