-- A chunk of a unit after an event, and images by their units.
use Rattle.std.proofs.Common.{◌≡◌, ◌≢◌, ◌⊎◌, inl, inr, ℕ, Some, None, Option, List, refl, sym, subst, ap, ◌∙◌}
use Rattle.std.specs.Prelude.{slice_get, slice_set}
use Rattle.std.specs.Option.{option_map, option_map_or, option_and_then}
use native.Mathlib.Decide.{ℕ_discrete}
use Rattle.pblk_model.specs.declared.shape.Shape.{Shape}
use Rattle.pblk_model.specs.Chunk.{Chunk}
use Rattle.pblk_model.specs.ChunkStep.{ChunkCommand, Read}
use Rattle.pblk_model.specs.UnitLog.{UnitOutcome, Answered, Failed, Stopped, UnitEvent, after_outcome, after_event}
use Rattle.pblk_model.specs.Image.{Image}
use Rattle.pblk_laws.specs.LineBlocks.{chunk_in}
use Rattle.core_laws.proofs.LandedRows.{event_beside as beside_in}
use Rattle.pblk_model.proofs.Parts.{got_here, same_lists}

-- ---- lists

pub same_images : (s : Shape) (us vs : List (List Chunk)) → ((unit : ℕ) → slice_get us unit ≡ slice_get vs unit)
    → ◌≡◌ {A = Image} (record { shape = s; units = us }) (record { shape = s; units = vs })
same_images s us vs same = ap (λ (xs : List (List Chunk)). record { shape = s; units = xs }) (same_lists us vs same)

-- ---- one event

here_in : (s : Shape) (chunks : List Chunk) (e : UnitEvent) (c : Chunk) → slice_get chunks e.chunk ≡ Some c
    → slice_get (after_event s chunks e) e.chunk ≡ Some (after_outcome s c e.command e.outcome)
here_in s chunks e c there =
    ap (λ (o : Option Chunk). slice_get (option_map_or (λ (c : Chunk). slice_set chunks e.chunk (after_outcome s c e.command e.outcome)) o chunks) e.chunk)
    there
    ∙ got_here chunks e.chunk c (after_outcome s c e.command e.outcome) there

-- of a unit whose chunks are these

pub chunk_beside : (s : Shape) (o : Option (List Chunk)) (e : UnitEvent) (line : ℕ) → line ≢ e.chunk
    → option_and_then (λ chunks. slice_get chunks line) (option_map (λ chunks. after_event s chunks e) o) ≡ option_and_then (λ chunks. slice_get chunks line) o
chunk_beside s None e line apart = refl
chunk_beside s (Some chunks) e line apart = beside_in s chunks e line apart

-- the chunk of the command is what its outcome leaves
pub chunk_turned : (s : Shape) (o : Option (List Chunk)) (e : UnitEvent)
    → option_and_then (λ chunks. slice_get chunks e.chunk) (option_map (λ chunks. after_event s chunks e) o) ≡ option_map
    (λ c. after_outcome s c e.command e.outcome) (option_and_then (λ chunks. slice_get chunks e.chunk) o)
chunk_turned s None e = refl
chunk_turned s (Some chunks) e = go (slice_get chunks e.chunk) refl
  where
    go : (o : Option Chunk) → slice_get chunks e.chunk ≡ o
        → slice_get (after_event s chunks e) e.chunk ≡ option_map (λ c. after_outcome s c e.command e.outcome) o
    go None none =
        ap (λ (o : Option Chunk). slice_get (option_map_or (λ (c : Chunk). slice_set chunks e.chunk (after_outcome s c e.command e.outcome)) o chunks) e.chunk)
        none
        ∙ none
    go (Some c) there = here_in s chunks e c there

pub chunk_here : (s : Shape) (o : Option (List Chunk)) (e : UnitEvent) (c : Chunk) → option_and_then (λ chunks. slice_get chunks e.chunk) o ≡ Some c
    → option_and_then (λ chunks. slice_get chunks e.chunk) (option_map (λ chunks. after_event s chunks e) o) ≡ Some (after_outcome s c e.command e.outcome)
chunk_here s o e c there = chunk_turned s o e ∙ ap (option_map (λ (c : Chunk). after_outcome s c e.command e.outcome)) there

-- ---- images

-- the event was done by the unit, and nothing else changed
pub record IsTurned (s : Shape) (j k : Image) (unit : ℕ) (e : UnitEvent) : Type 0 where
  pub own : slice_get k.units unit ≡ option_map (λ chunks. after_event s chunks e) (slice_get j.units unit)
  pub others : (other : ℕ) → other ≢ unit → slice_get k.units other ≡ slice_get j.units other

pub turned_here : (s : Shape) (j k : Image) (unit : ℕ) (e : UnitEvent) → IsTurned s j k unit e
    → chunk_in k e.chunk unit ≡ option_map (λ c. after_outcome s c e.command e.outcome) (chunk_in j e.chunk unit)
turned_here s j k unit e is = ap (option_and_then (λ (chunks : List Chunk). slice_get chunks e.chunk)) is.own ∙ chunk_turned s (slice_get j.units unit) e

pub turned_beside : (s : Shape) (j k : Image) (unit : ℕ) (e : UnitEvent) (other line : ℕ) → IsTurned s j k unit e → (other ≢ unit) ⊎ (line ≢ e.chunk)
    → chunk_in k line other ≡ chunk_in j line other
turned_beside s j k unit e other line is (inl apart) = ap (option_and_then (λ (chunks : List Chunk). slice_get chunks line)) (is.others other apart)
turned_beside s j k unit e other line is (inr apart) = go (ℕ_discrete other unit)
  where
    go : Dec (other ≡ unit) → chunk_in k line other ≡ chunk_in j line other
    go (yes same) = subst (λ u. chunk_in k line u ≡ chunk_in j line u) (sym same)
        (ap (option_and_then (λ (chunks : List Chunk). slice_get chunks line)) is.own ∙ chunk_beside s (slice_get j.units unit) e line apart)
    go (no far) = ap (option_and_then (λ (chunks : List Chunk). slice_get chunks line)) (is.others other far)

-- ---- events that leave nothing

-- a fetch
pub fetch_leaves : (s : Shape) (c : Chunk) (e : UnitEvent) (block : ℕ) → e.command ≡ Read block → after_outcome s c e.command e.outcome ≡ c
fetch_leaves s c e block is = ap (λ (command : ChunkCommand). after_outcome s c command e.outcome) is ∙ go e.outcome
  where
    go : (outcome : UnitOutcome) → after_outcome s c (Read block) outcome ≡ c
    go (Answered answer) = refl
    go (Failed k) = refl
    go (Stopped k) = refl
