-- A blank image is tidy: its chunks are Free.
use Rattle.std.proofs.Common.{◌≡◌, ℕ, ◌≤◌, suc, cond, Bool, true, List, [], ◌∷◌, length, replicate, refl, ap, ◌∙◌, arith}
use Rattle.std.specs.Prelude.{slice_get}
use Rattle.std.specs.List.{AllByRecursion, filter, range_with_len}
use Rattle.std.proofs.lemmas.List.FromFn.{length-range_with_len}
use Rattle.pblk_model.specs.declared.shape.Shape.{Shape}
use Rattle.pblk_model.specs.Accepted.{IsAccepted}
use Rattle.pblk_model.specs.Chunk.{Chunk, free_chunk}
use Rattle.pblk_model.specs.Image.{blank}
use Rattle.pblk_model.specs.Shape.{units}
use Rattle.pblk_laws.proofs.SealedImages.{blank_sealed}
use Rattle.pblk_model.proofs.Lists.{all_replicated}
use Rattle.pblk_model.proofs.Options.{split_then}
use Rattle.pblk_model.proofs.Parts.{all_at}
use Rattle.core_laws.proofs.EachChunk.{chunks_pass}
use Rattle.rest_laws.specs.Tidy.{HasWholeChunks, has_free_chunks, IsTidy, IsWholeChunk, is_free_state}

all_pass : (f : ℕ → Bool) (xs : List ℕ) → ((x : ℕ) → f x ≡ true) → length (filter f xs) ≡ length xs
all_pass f [] all = refl
all_pass f (x ∷ xs) all = ap (λ b. length (cond b (x ∷ filter f xs) (filter f xs))) (all x) ∙ ap suc (all_pass f xs all)

module _ (s : Shape) where
  whole : HasWholeChunks (blank s)
  whole = all_replicated (AllByRecursion (IsWholeChunk s)) (units s) (replicate s.chunks free_chunk)
      (all_replicated (IsWholeChunk s) s.chunks free_chunk (record { online = λ e. absurd cc; full = λ e. absurd cc }))

  abbrev IsFree : Chunk → Type 0
  IsFree c = is_free_state c.state ≡ true

  free : AllByRecursion (AllByRecursion IsFree) (blank s).units
  free = all_replicated (AllByRecursion IsFree) (units s) (replicate s.chunks free_chunk) (all_replicated IsFree s.chunks free_chunk refl)

  free_line : (line : ℕ) → has_free_chunks (blank s) line ≡ true
  free_line line = chunks_pass (blank s) line (λ (c : Chunk). is_free_state c.state) (λ unit c there.
      let at = split_then (λ (cs : List Chunk). slice_get cs line) (slice_get (blank s).units unit) c there in
      all_at IsFree at.0 line c at.2 (all_at (AllByRecursion IsFree) (blank s).units unit at.0 at.1 free))

  pub blank_tidy : IsAccepted s → IsTidy (blank s)
  blank_tidy accepted = record {
    sealed = blank_sealed s accepted;
    whole = whole;
    some_free = (let lines : 8 ≤ s.chunks = accepted.drive.lines_low in
        let count : length (filter (has_free_chunks (blank s)) (range_with_len 0 s.chunks)) ≡ s.chunks =
        all_pass (has_free_chunks (blank s)) (range_with_len 0 s.chunks) free_line ∙ length-range_with_len 0 s.chunks in
        omega arith);
  }
