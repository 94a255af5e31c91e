-- The first chunk that isn't as is kept of it.
use Rattle.std.proofs.Common.{◌≡◌, ◌≢◌, ◌⊎◌, inl, inr, ℕ, ◌+◌, ◌<◌, ◌≤◌, List, length, Option, Some, sym, ap, ap₂, ◌∙◌, subst, arith}
use Rattle.std.specs.List.{slice_get}
use Rattle.std.specs.Option.{option_and_then, option_map}
use Rattle.std.proofs.lemmas.Bool.{cases_lt}
use Rattle.std.proofs.lemmas.Option.{same_Some, slice_get_past}
use native.Mathlib.Decide.{ℕ_discrete}
use Rattle.pblk_model.specs.declared.chunk.ChunkState.{ChunkState}
use Rattle.pblk_model.specs.Chunk.{Chunk, pointer}
use Rattle.pblk_model.specs.Image.{Image}
use Rattle.stripe_parity.specs.declared.kept.KeptChunk.{KeptChunk}
use Rattle.stripe_parity.specs.ParityFile.{kept_of}
use Rattle.stripe_parity.specs.Rebuilding.{AreAsKept, IsAsKept, IsFirstDifference}

at_or_before : (P : ℕ → Type 0) (n k : ℕ) → ((j : ℕ) → j < n → P j) → P n → k < n + 1 → Dec (k ≡ n) → P k
at_or_before P n k before here below (yes same) = subst P (sym same) here
at_or_before P n k before here below (no other) = before k (grind (arith, below, other))

-- what holds below a number and at it holds below the next
pub below_next : (P : ℕ → Type 0) (n : ℕ) → ((k : ℕ) → k < n → P k) → P n → (k : ℕ) → k < n + 1 → P k
below_next P n before here k below = at_or_before P n k before here below (ℕ_discrete k n)

-- a chunk of a unit is as kept where its place in the unit's list is
abbrev pub IsSameAt : List KeptChunk → List Chunk → ℕ → Type 0
IsSameAt kept media chunk = option_map kept_of (slice_get media chunk) ≡ slice_get kept chunk

pub same_at : (kept : List KeptChunk) (media : List Chunk) (chunk : ℕ) (c : Chunk) (k : KeptChunk) (state : ChunkState) (wp : ℕ)
    → slice_get media chunk ≡ Some c → state ≡ c.state → wp ≡ pointer c
    → slice_get kept chunk ≡ Some k → k ≡ record { state = state; pointer = wp } → IsSameAt kept media chunk
same_at kept media chunk c k state wp there state-is wp-is kept-is same =
    ap (option_map kept_of) there
    ∙ ap (λ x. Some x) (sym (same ∙ ap₂ (λ (s : ChunkState) (p : ℕ). record { state = s; pointer = p }) state-is wp-is)) ∙ sym kept-is

pub other_at : (kept : List KeptChunk) (media : List Chunk) (chunk : ℕ) (c : Chunk) (k : KeptChunk) (state : ChunkState) (wp : ℕ)
    → slice_get media chunk ≡ Some c → state ≡ c.state → wp ≡ pointer c
    → slice_get kept chunk ≡ Some k → (k ≡ record { state = state; pointer = wp } → ⊥) → IsSameAt kept media chunk → ⊥
other_at kept media chunk c k state wp there state-is wp-is kept-is other same =
    let one : Some (kept_of c) ≡ Some k = ap (option_map kept_of) (sym there) ∙ same ∙ kept-is in
    other (sym (same_Some (kept_of c) k one) ∙ sym (ap₂ (λ (s : ChunkState) (p : ℕ). record { state = s; pointer = p }) state-is wp-is))

-- past its last chunk nothing is there, nor kept
pub same_past : (kept : List KeptChunk) (media : List Chunk) (n chunk : ℕ) → length media ≡ n → length kept ≡ n → n ≤ chunk → IsSameAt kept media chunk
same_past kept media n chunk media-long kept-long past =
    ap (option_map kept_of) (slice_get_past media chunk (omega (arith, media-long, past))) ∙ sym (slice_get_past kept chunk (omega (arith, kept-long, past)))

below_or_past : (kept : List KeptChunk) (media : List Chunk) (n at c : ℕ) → length media ≡ n → length kept ≡ n → n ≤ at
    → ((k : ℕ) → k < at → IsSameAt kept media k) → (c < at) ⊎ (at ≤ c) → IsSameAt kept media c
below_or_past kept media n at c media-long kept-long end below (inl low) = below c low
below_or_past kept media n at c media-long kept-long end below (inr high) = same_past kept media n c media-long kept-long (omega (arith, high, end))

-- so all are the same, once all below the count are
pub all_same : (kept : List KeptChunk) (media : List Chunk) (n at : ℕ) → length media ≡ n → length kept ≡ n → n ≤ at
    → ((c : ℕ) → c < at → IsSameAt kept media c) → (c : ℕ) → IsSameAt kept media c
all_same kept media n at media-long kept-long end below c = below_or_past kept media n at c media-long kept-long end below (cases_lt c at)

-- the same of the units of an image

pub as_kept_here : (kept : List (List KeptChunk)) (i : Image) (unit chunk : ℕ) (media : List Chunk) (of : List KeptChunk) → slice_get i.units unit ≡ Some media
    → slice_get kept unit ≡ Some of
    → IsSameAt of media chunk → IsAsKept kept i unit chunk
as_kept_here kept i unit chunk media of there kept-there same =
    ap (λ (o : Option (List Chunk)). option_map kept_of (option_and_then (λ cs. slice_get cs chunk) o)) there ∙ same
    ∙ ap (λ (o : Option (List KeptChunk)). option_and_then (λ ks. slice_get ks chunk) o) (sym kept-there)

pub same_here : (kept : List (List KeptChunk)) (i : Image) (unit chunk : ℕ) (media : List Chunk) (of : List KeptChunk) → slice_get i.units unit ≡ Some media
    → slice_get kept unit ≡ Some of
    → IsAsKept kept i unit chunk → IsSameAt of media chunk
same_here kept i unit chunk media of there kept-there same =
    sym (ap (λ (o : Option (List Chunk)). option_map kept_of (option_and_then (λ cs. slice_get cs chunk) o)) there) ∙ same
    ∙ ap (λ (o : Option (List KeptChunk)). option_and_then (λ ks. slice_get ks chunk) o) kept-there

pub as_kept_past : (kept : List (List KeptChunk)) (i : Image) (unit chunk : ℕ) → length i.units ≤ unit → length kept ≤ unit → IsAsKept kept i unit chunk
as_kept_past kept i unit chunk past kept-past =
    ap (λ (o : Option (List Chunk)). option_map kept_of (option_and_then (λ cs. slice_get cs chunk) o)) (slice_get_past i.units unit past)
    ∙ ap (λ (o : Option (List KeptChunk)). option_and_then (λ ks. slice_get ks chunk) o) (sym (slice_get_past kept unit kept-past))

-- all chunks of units before this one are as kept, but for the lost one's
abbrev pub AreAsKeptBefore : List (List KeptChunk) → Image → ℕ → ℕ → Type 0
AreAsKeptBefore kept i lost at = (unit chunk : ℕ) → unit ≢ lost → unit < at → IsAsKept kept i unit chunk

pub kept_before_next : (kept : List (List KeptChunk)) (i : Image) (lost at : ℕ) → AreAsKeptBefore kept i lost at
    → (at ≢ lost → (chunk : ℕ) → IsAsKept kept i at chunk) → AreAsKeptBefore kept i lost (at + 1)
kept_before_next kept i lost at before here unit chunk other below =
    below_next (λ u. u ≢ lost → IsAsKept kept i u chunk) at (λ u low no. before u chunk no low) (λ no. here no chunk) unit below other

at_end : (kept : List (List KeptChunk)) (i : Image) (lost at unit chunk : ℕ) → length i.units ≤ at → length kept ≤ at → AreAsKeptBefore kept i lost at
    → unit ≢ lost → (unit < at) ⊎ (at ≤ unit) → IsAsKept kept i unit chunk
at_end kept i lost at unit chunk end kept-end before other (inl low) = before unit chunk other low
at_end kept i lost at unit chunk end kept-end before other (inr high) =
    as_kept_past kept i unit chunk (omega (arith, end, high)) (omega (arith, kept-end, high))

pub kept_at_end : (kept : List (List KeptChunk)) (i : Image) (lost at : ℕ) → length i.units ≤ at → length kept ≤ at → AreAsKeptBefore kept i lost at
    → AreAsKept kept i lost
kept_at_end kept i lost at end kept-end before unit chunk other = at_end kept i lost at unit chunk end kept-end before other (cases_lt unit at)

earlier : (kept : List (List KeptChunk)) (i : Image) (lost unit chunk u c : ℕ) (media : List Chunk) (of : List KeptChunk) → slice_get i.units unit ≡ Some media
    → slice_get kept unit ≡ Some of
    → ((k : ℕ) → k < chunk → IsSameAt of media k) → AreAsKeptBefore kept i lost unit → u ≢ lost → (u < unit) ⊎ ((u ≡ unit) × (c < chunk)) → IsAsKept kept i u c
earlier kept i lost unit chunk u c media of there kept-there below before other (inl low) = before u c other low
earlier kept i lost unit chunk u c media of there kept-there below before other (inr (same, low)) =
    subst (λ k. IsAsKept kept i k c) (sym same) (as_kept_here kept i unit c media of there kept-there (below c low))

pub first_is : (kept : List (List KeptChunk)) (i : Image) (lost unit chunk : ℕ) (media : List Chunk) (of : List KeptChunk) → unit ≢ lost → unit < length i.units
    → chunk < i.shape.chunks
    → slice_get i.units unit ≡ Some media → slice_get kept unit ≡ Some of → (IsSameAt of media chunk → ⊥) → ((k : ℕ) → k < chunk → IsSameAt of media k)
    → AreAsKeptBefore kept i lost unit
    → IsFirstDifference kept i lost unit chunk
first_is kept i lost unit chunk media of other within chunk-within there kept-there differs below before = record {
  other = other;
  unit_within = within;
  chunk_within = chunk-within;
  differs = λ same. differs (same_here kept i unit chunk media of there kept-there same);
  first = λ u c no at. earlier kept i lost unit chunk u c media of there kept-there below before no at;
}
