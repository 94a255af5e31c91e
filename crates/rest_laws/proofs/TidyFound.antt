-- A tidy image is found tidy, and what the engine knows stays whole, with lines of Free chunks, as
-- long as nothing fails.
use Rattle.std.proofs.Common.{◌≡◌, ◌≢◌, ◌⊎◌, inl, inr, ℕ, ◌≤◌, ◌+◌, ◌&&◌, not, nat_lt, Bool, true, false, Some, Option, List, [], ◌∷◌, length, refl, sym, subst, ap, ◌∙◌, arith}
use Rattle.std.specs.Prelude.{slice_get}
use Rattle.std.specs.List.{AllByRecursion, filter, list_all, range_with_len}
use Rattle.std.specs.Option.{option_and_then}
use Rattle.std.proofs.Math.Seq.{take-length}
use Rattle.pblk_model.specs.declared.shape.Shape.{Shape}
use Rattle.pblk_model.specs.declared.chunk.ChunkState.{ChunkState}
use Rattle.pblk_model.specs.declared.chunk.ChunkState.TheVariants as states
use Rattle.pblk_model.specs.Chunk.{Chunk}
use Rattle.pblk_model.specs.Image.{Image}
use Rattle.pblk_laws.specs.LineBlocks.{chunk_in}
use Rattle.pblk_world.specs.EngineLog.{Begun, begun, life_of}
use Rattle.pblk_world.specs.Lines.{are_empty, chunks_of, found_by, found_image, has_number, is_empty_state, is_free_line, known_image, line_data}
use Rattle.pblk_world.specs.Space.{is_due}
use Rattle.pblk_world.specs.World.{World, Logs, log_of}
use Rattle.pblk_model.proofs.Maps.{given_at}
use Rattle.pblk_model.proofs.Options.{split_then}
use Rattle.pblk_model.proofs.Parts.{all_by_get}
use Rattle.pblk_model.proofs.Tests.{both, not_both, not_true}
use Rattle.pblk_world.specs.LegalMounts.{IsLegalMount}
use Rattle.world_laws.specs.Padding.{ArePadded, IsPaddedAt}
use Rattle.world_laws.specs.EarlyLogs.{ArePrefixes}
use Rattle.world_laws.proofs.FoundEmpty.{all_pass}
use Rattle.world_laws.proofs.FoundImages.{found_padded, found_sealed}
use Rattle.core_laws.proofs.EachChunk.{chunks_pass}
use Rattle.rest_laws.specs.Tidy.{HasWholeChunks, IsFaultless, IsFoundFaultless, IsTidy, IsWholeChunk, has_free_chunks, is_free_state}
use Rattle.rest_laws.proofs.FreeCounts.{many_free}
use Rattle.rest_laws.proofs.LiveSums.{as_number, passing_first}
use Rattle.rest_laws.proofs.NothingFailed.{faultless_wide}
use Rattle.rest_laws.proofs.WholeChunks.{found_whole, known_whole}

-- where all that pass one test pass another
pub more_pass : (f g : ℕ → Bool) → ((x : ℕ) → f x ≡ true → g x ≡ true) → (xs : List ℕ) → length (filter f xs) ≤ length (filter g xs)
more_pass f g says [] = omega arith
more_pass f g says (x ∷ xs) = go (f x) (g x) refl refl (passing_first f x xs) (passing_first g x xs) (more_pass f g says xs)
  where
    go : (s t : Bool) → f x ≡ s → g x ≡ t → length (filter f (x ∷ xs)) ≡ as_number (f x) + length (filter f xs)
        → length (filter g (x ∷ xs)) ≡ as_number (g x) + length (filter g xs) → length (filter f xs) ≤ length (filter g xs)
        → length (filter f (x ∷ xs)) ≤ length (filter g (x ∷ xs))
    go true false e k first second rest = absurd (not_both (g x) (says x e) k)
    go true true e k first second rest =
        let here : as_number (f x) ≡ 1 = ap as_number e in
        let there : as_number (g x) ≡ 1 = ap as_number k in
        omega arith
    go false t e k first second rest = let here : as_number (f x) ≡ 0 = ap as_number e in omega arith

-- each chunk of a line passes
pub chunk_passes : (j : Image) (test : Chunk → Bool) (line unit : ℕ) (c : Chunk) → list_all test (chunks_of j line) ≡ true → chunk_in j line unit ≡ Some c
    → test c ≡ true
chunk_passes j test line unit c all there =
    let at = split_then (λ (cs : List Chunk). slice_get cs line) (slice_get j.units unit) c there in
    let among = given_at (λ (cs : List Chunk). slice_get cs line) j.units at.0 c unit at.1 at.2 in
    all_pass test (chunks_of j line) among.0 c all among.1

-- an image whose chunks are whole one by one
pub whole_image : (j : Image) → ((line unit : ℕ) (c : Chunk) → chunk_in j line unit ≡ Some c → IsWholeChunk j.shape c) → HasWholeChunks j
whole_image j whole =
    all_by_get (AllByRecursion (IsWholeChunk j.shape)) j.units (λ unit cs there.
    all_by_get (IsWholeChunk j.shape) cs (λ line c at. whole line unit c (ap (option_and_then (λ (xs : List Chunk). slice_get xs line)) there ∙ at)))

pub free_or_offline : (state : ChunkState) → is_empty_state state ≡ true → state ≢ states.Offline → is_free_state state ≡ true
free_or_offline states.Free empty apart = refl
free_or_offline states.Open empty apart = absurd cc
free_or_offline states.Closed empty apart = absurd cc
free_or_offline states.Offline empty apart = absurd (apart refl)

open_apart : (state : ChunkState) → is_free_state state ≡ true → state ≡ states.Open → ⊥
open_apart states.Free free e = absurd cc
open_apart states.Open free e = absurd cc
open_apart states.Closed free e = absurd cc
open_apart states.Offline free e = absurd cc

-- a Free line has no number, and its chunks are empty
pub free_parts : (i : Image) (logs : Logs) (line : ℕ) → is_free_line i logs line ≡ true
    → (has_number i logs (life_of (logs 0) line) line ≡ false) × (are_empty (known_image i logs) line ≡ true)
free_parts i logs line free =
    let parts = both (not (has_number i logs (life_of (logs 0) line) line) && are_empty (known_image i logs) line)
    (nat_lt 0 (line_data (known_image i logs) line)) free in
    let two = both (not (has_number i logs (life_of (logs 0) line) line)) (are_empty (known_image i logs) line) parts.0 in
    (not_true (has_number i logs (life_of (logs 0) line) line) two.0, two.1)

module _ (i : Image) (w : World) (mount : IsLegalMount i w) (b : Begun) (begins : begun (log_of w 0) ≡ Some b) where
  pub same_shape : (found_image i (log_of w)).shape ≡ i.shape
  same_shape = ap (λ (x : Option Begun). (found_by i (log_of w) x).shape) begins

  all_prefixes : ArePrefixes w (log_of w)
  all_prefixes author = (length (log_of w author), sym (take-length (log_of w author)))

  padded : ArePadded i (found_image i (log_of w))
  padded = found_padded i w (log_of w) mount.fit mount.legal all_prefixes

  -- a line with Free chunks alone is found so
  found_free : (line : ℕ) → has_free_chunks i line ≡ true → has_free_chunks (found_image i (log_of w)) line ≡ true
  found_free line free = chunks_pass (found_image i (log_of w)) line (λ (c : Chunk). is_free_state c.state)
      (λ unit c there. by unit c there (padded.chunks line unit))
    where
      by : (unit : ℕ) (c : Chunk) → chunk_in (found_image i (log_of w)) line unit ≡ Some c
          → (chunk_in (found_image i (log_of w)) line unit ≡ chunk_in i line unit) ⊎ IsPaddedAt i (found_image i (log_of w)) line unit
          → is_free_state c.state ≡ true
      by unit c there (inl same) = chunk_passes i (λ (x : Chunk). is_free_state x.state) line unit c free (sym same ∙ there)
      by unit c there (inr at) =
          absurd (open_apart at.old.state (chunk_passes i (λ (x : Chunk). is_free_state x.state) line unit at.old free at.was) at.padded.was_open)

  pub found_tidy : IsTidy i → IsFoundFaultless (log_of w) → IsTidy (found_image i (log_of w))
  found_tidy tidy fine = record {
    sealed = found_sealed i w (log_of w) mount.accepted mount.fit tidy.sealed mount.legal all_prefixes;
    whole = whole_image (found_image i (log_of w)) (λ line unit c there. subst (λ (s : Shape). IsWholeChunk s c) (sym same_shape)
        (found_whole i w mount unit line b begins fine tidy.whole c there));
    some_free = subst (λ (s : Shape). 4 ≤ length (filter (has_free_chunks (found_image i (log_of w))) (range_with_len 0 s.chunks))) (sym same_shape)
        (still_four tidy.some_free (more_pass (has_free_chunks i) (has_free_chunks (found_image i (log_of w))) found_free (range_with_len 0 i.shape.chunks)));
  }
    where
      still_four : {m n : ℕ} → 4 ≤ m → m ≤ n → 4 ≤ n
      still_four x y = omega (arith, x, y)

  module _ (fine : IsFaultless (log_of w)) (whole : HasWholeChunks (found_image i (log_of w))) where
    pub still_whole : HasWholeChunks (known_image i (log_of w))
    still_whole = whole_image (known_image i (log_of w)) (λ line unit c there. known_whole i w mount unit line b begins fine whole c there)

    free_known : (line : ℕ) → is_free_line i (log_of w) line ≡ true → has_free_chunks (known_image i (log_of w)) line ≡ true
    free_known line free =
        let empty : are_empty (known_image i (log_of w)) line ≡ true = (free_parts i (log_of w) line free).1 in
        chunks_pass (known_image i (log_of w)) line (λ (c : Chunk). is_free_state c.state) (λ unit c there.
        free_or_offline c.state (chunk_passes (known_image i (log_of w)) (λ (x : Chunk). is_empty_state x.state) line unit c empty there)
        (known_whole i w mount unit line b begins fine whole c there).online)

    pub still_free : is_due i (log_of w) ≡ false
        → 4 ≤ length (filter (has_free_chunks (known_image i (log_of w))) (range_with_len 0 i.shape.chunks))
    still_free not_due =
        still_four (many_free i (log_of w) (faultless_wide i w mount b begins fine whole) not_due)
        (more_pass (is_free_line i (log_of w)) (has_free_chunks (known_image i (log_of w))) free_known (range_with_len 0 i.shape.chunks))
      where
        still_four : {m n : ℕ} → 4 ≤ m → m ≤ n → 4 ≤ n
        still_four x y = omega (arith, x, y)
